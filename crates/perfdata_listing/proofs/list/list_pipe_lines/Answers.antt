use Rattle.linux_perf_data.proofs.PipeReadings.{own_pipe, pipe_has_not_failed}
use Rattle.perfdata_listing.proofs.PipeListingLemmas.{whole_pipe, pipe_open_error}
use Rattle.perfdata_listing.proofs.list.list_pipe_lines.Goals as goal

pub list_records-requires-clause-matching_file : goal.list_records-requires-clause-matching_file
list_records-requires-clause-matching_file g c = own_pipe g.R.Source.state _ c.in-Ok.reader.perf_file c.in-Ok.reader.record_iter c.in-Ok.ensures.parses

pub list_records-requires-clause-not_failed : goal.list_records-requires-clause-not_failed
list_records-requires-clause-not_failed g c = pipe_has_not_failed g.R.Source.state _ c.in-Ok.reader.perf_file c.in-Ok.reader.record_iter c.in-Ok.ensures.parses

pub returns-in-Ok : goal.returns-in-Ok
returns-in-Ok g c = whole_pipe g.L.LineFormat.is_line g.L.LineFormat.allocates g.R.Source.state _ c.in-Ok.reader.perf_file c.in-Ok.reader.record_iter c.in-Ok.ensures.parses c.list_records.new.records c.list_records.new.perf_file _ _ _ c.list_records.ensures

pub returns-in-Err : goal.returns-in-Err
returns-in-Err g c = pipe_open_error g.L.LineFormat.is_line g.L.LineFormat.allocates g.R.Source.state _ _ _ c.in-Err.ensures.parses
