use Rattle.std.proofs.Common.{arith, ◌≡◌, ◌-◌, length, drop, ap, ◌∙◌}
use Rattle.std.proofs.lemmas.List.{length-drop, length-take}
use borrow.Rule.Slice.PartMut.{put_mid}
use Rattle.linux_perf_data.specs.InMemoryReading.{first_record_offset_of}
use Rattle.linux_perf_data.specs.RecordEntries.{record_entries_at}
use Rattle.perfdata_arrays.specs.Overwrites.{with_entries_at, with_prefix_from}
use Rattle.perfdata_arrays.proofs.OverwriteLemmas.{with_entries_at-part, with_prefix_from-more}
use Rattle.perfdata_arrays.proofs.records.read_more_entries.Goals as goal

pub returns : goal.returns
returns c =
    let step = c.read_entries.ensures in
    let before = c.args.entries.now in
    let start = c.args.start in
    let written = c.args.count - start in
    let free = length before - written in
    let es = record_entries_at (first_record_offset_of c.args.input.now) step.records in
    let after_start = c.if-count-start.false in
    let has_free = c.if-entries-count.false in
    let part = ap (put_mid written free before) step.written ∙ with_entries_at-part written es before (omega (arith, has_free)) in
    record {
      records = step.records;
      returned = step.returned;
      more_is = step.count_is;
      fits = λ within. (let fits = step.fits in let more = step.count_is in omega (arith, fits, more, has_free, after_start, length-take free (drop written before), length-drop written before));
      written = λ done array is held.
          (let same : written ≡ length done - start = omega (arith, is) in
          part ∙ ap (with_entries_at written es) held ∙ ap (λ n. with_entries_at n es (with_prefix_from start done array)) same ∙ with_prefix_from-more start done es array (omega (arith, is, after_start)));
      body_bytes_at = step.body_bytes_at;
      same_input = step.same_input;
    }
