-- Steps of private functions: pERF_RECORD_MMAP of Linux's `perf_event.h`: { u32 pid, tid; u64 addr; u64 len; u64 pgoff; char filename[]; }. The
-- mapping isn't executable if bit 13 of the record header's `misc` is set (PERF_RECORD_MISC_MMAP_DATA).
use Rattle.perfdata_events.specs.declared.mmap.AddressRange.{AddressRange}
use Rattle.perfdata_events.specs.Mmap.{Mapping}

abbrev pub address_range_of : AddressRange → Mapping
address_range_of v = record { pid = v.pid; tid = v.tid; address = v.address; byte_length = v.length; page_offset = v.page_offset; is_data = v.is_data }
