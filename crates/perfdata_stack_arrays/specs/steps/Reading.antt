-- Steps of private functions: the stacks of a recording.
use Rattle.std.specs.Prelude.{◌≡◌, List}
use Rattle.linux_perf_data.specs.declared.perf_file.PerfFile.{PerfFile}
use Rattle.perfdata_order.specs.InMemoryOrder.{Entry}
use Rattle.perfdata_stack_arrays.specs.Written.{WritesAll, Written, totals_of}
use Rattle.perfdata_stack_arrays.specs.Event.{Event}
use Rattle.perfdata_stack_arrays.specs.declared.records.Records.{Records}
use Rattle.perfdata_stack_arrays.specs.declared.stacks.StacksWalk.{StacksWalk}
use Rattle.perfdata_stack_arrays.specs.Reading.{ReadsEvents, HasStacks, EndsWalk}

-- The walk returns these records, counts their stacks and writes them up to the capacities.
pub record WalksStacks (start : Records) (file : PerfFile) (before : Written) (walked : StacksWalk) (new : Records) (file' : PerfFile)
    (after : Written) : Type 0 where
  pub entries : List Entry
  pub events : List Event
  pub at_end : Records
  pub file_at_end : PerfFile
  pub read : ReadsEvents start file entries events at_end file_at_end
  pub own : Written
  pub has : HasStacks events own
  pub totals_are : walked.totals ≡ totals_of own
  pub writes : WritesAll own before after
  pub ends : EndsWalk at_end file_at_end walked.end new file'
