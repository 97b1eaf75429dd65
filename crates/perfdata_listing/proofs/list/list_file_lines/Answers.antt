use Rattle.linux_perf_data.proofs.FileReadings.{own_file}
use Rattle.perfdata_listing.proofs.ListingLemmas.{lists_file, file_open_error}
use Rattle.perfdata_listing.proofs.list.list_file_lines.Goals as goal

pub list_records-requires-clause-matching_file : goal.list_records-requires-clause-matching_file
list_records-requires-clause-matching_file g c = own_file g.C.Source.state _ c.in-Ok.reader.perf_file c.in-Ok.reader.record_iter c.in-Ok.ensures.parses

pub returns-in-Ok : goal.returns-in-Ok
returns-in-Ok g c = lists_file g.L.LineFormat.is_line g.L.LineFormat.allocates g.C.Source.state _ c.in-Ok.reader.perf_file c.list_records.new.perf_file c.in-Ok.reader.record_iter _ _ _ _ c.in-Ok.ensures.parses c.list_records.ensures

pub returns-in-Err : goal.returns-in-Err
returns-in-Err g c = file_open_error g.L.LineFormat.is_line g.L.LineFormat.allocates _ _ _ c.in-Err.ensures.parses
