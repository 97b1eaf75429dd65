use Rattle.std.proofs.Common.{◌≡◌, ◌*◌, ◌/◌, length}
use Rattle.std.proofs.Math.Nat.{ℕ_set}
use Rattle.perfdata_sources.specs.Raw.{bytes_of}
use Rattle.perfdata_sources.specs.declared.endian.Endianness.{Endianness}
use Rattle.perfdata_sources.specs.declared.raw.RawData.{RawData}
use Rattle.perfdata_records.specs.declared.thread_map.ThreadMap.{ThreadMap}
use Rattle.perfdata_records.proofs.thread_map.ThreadMapClone.clone.Goals as goal

-- maps with the same byte order and entries are equal
same_map : (endian : Endianness) (entries : RawData) (w v : length (bytes_of entries) ≡ 24 * (length (bytes_of entries) / 24))
    → (let m : ThreadMap = record { endian = endian; entries = entries; whole_entries = w } in m) ≡ (let m : ThreadMap = record { endian = endian; entries = entries; whole_entries = v } in m)
same_map endian entries w v i = record { endian = endian; entries = entries; whole_entries = ℕ_set _ _ w v i }

pub returns : goal.returns
returns c =
    let map = c.args.self.now in
    record { cases = same_map map.endian map.entries _ map.whole_entries }
