use Rattle.std.proofs.Common.{arith, ap, ◌∙◌}
use Rattle.linux_perf_data.specs.RecordEntries.{record_entry_at}
use Rattle.linux_perf_data.specs.RecordViews.{record_view_of}
use Rattle.linux_perf_data.proofs.in_memory.InMemoryRecords.take_entry.Goals as goal

pub new-requires : goal.new-requires
new-requires c =
    let taken = c.take_record_of_walk.ensures.taken c.requires.ahead in
    let within = (taken.returned c.args.perf_file.now).in_input.ends_in_input in
    let fits = c.take_record_of_walk.ensures.input_len_fits in
    let first = taken.same_input.first_record_offset in
    let same = c.requires.first in
    omega (arith, within, fits, first, same)

pub returns : goal.returns
returns c = λ ahead.
    let taken = c.take_record_of_walk.ensures.taken ahead in
    let place = c.take_record_of_walk.result.0 in
    let found = c.take_record_of_walk.result.1 in
    let first = taken.same_input.first_record_offset in
    record {
      ahead' = taken.ahead';
      taken = record {
        place = place;
        found = found;
        returned = taken.returned;
        is_entry = c.new.ensures ∙ ap (λ n. record_entry_at n (record_view_of place found)) c.requires.first;
        same_input = record { input = taken.same_input.input; first_record_offset = first };
      };
    }
