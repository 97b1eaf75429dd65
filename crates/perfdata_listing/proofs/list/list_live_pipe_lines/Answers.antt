use Rattle.linux_perf_data.proofs.PipeReadings.{own_pipe, pipe_has_not_failed}
use Rattle.perfdata_listing.proofs.PipeListingLemmas.{live_pipe, pipe_open_error}
use Rattle.std.proofs.Common.{refl, inl, inr}
use Rattle.perfdata_listing.proofs.list.list_live_pipe_lines.Goals as goal

pub list_live_records-requires-clause-matching_file : goal.list_live_records-requires-clause-matching_file
list_live_records-requires-clause-matching_file g c = own_pipe g.R.Source.state _ c.in-Ok.reader.perf_file c.in-Ok.reader.record_iter c.in-Ok.ensures.parses

pub list_live_records-requires-clause-not_failed : goal.list_live_records-requires-clause-not_failed
list_live_records-requires-clause-not_failed g c = pipe_has_not_failed g.R.Source.state _ c.in-Ok.reader.perf_file c.in-Ok.reader.record_iter c.in-Ok.ensures.parses

pub returns-in-Ok-clause-lists : goal.returns-in-Ok-clause-lists
returns-in-Ok-clause-lists g c = live_pipe g.L.LineFormat.is_line g.L.LineFormat.allocates g.R.Source.state _ c.in-Ok.reader.perf_file c.in-Ok.reader.record_iter c.in-Ok.ensures.parses c.list_live_records.new.records c.list_live_records.new.perf_file _ _ _ c.list_live_records.ensures.lists

pub returns-in-Err-clause-lists : goal.returns-in-Err-clause-lists
returns-in-Err-clause-lists g c = inl (pipe_open_error g.L.LineFormat.is_line g.L.LineFormat.allocates g.R.Source.state _ _ _ c.in-Err.ensures.parses)

pub returns-in-Ok-clause-flushes : goal.returns-in-Ok-clause-flushes
returns-in-Ok-clause-flushes g c = inl (c.in-Ok.reader.perf_file, c.in-Ok.reader.record_iter, c.in-Ok.ensures.parses, c.list_live_records.new.records, c.list_live_records.new.perf_file, c.list_live_records.ensures.flushes)

pub returns-in-Err-clause-flushes : goal.returns-in-Err-clause-flushes
returns-in-Err-clause-flushes g c = inr (refl, refl)
