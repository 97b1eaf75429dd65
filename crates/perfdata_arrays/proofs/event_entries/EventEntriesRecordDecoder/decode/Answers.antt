use Rattle.std.proofs.Common.{ℕ, ◌+◌, sym, ap, ◌∙◌, refl, inl, inr}
use Rattle.std.specs.IoError.{error_kind}
use Rattle.linux_perf_data.specs.PerfFile.{attributes_of_file, endian_of_file}
use Rattle.perfdata_arrays.proofs.RecordLemmas.{adds_nothing, decodes_entries, unwrap_zero}
use Rattle.perfdata_arrays.specs.Entries.{event_kind}
use Rattle.perfdata_arrays.proofs.event_entries.EventEntriesRecordDecoder.decode.Goals as goal

pub returns-in-Ok : goal.returns-in-Ok
returns-in-Ok g c =
    let entries_at = λ (t : ℕ). g.E.EventEntry.entries_of (record { offset = c.args.place.offset; timestamp = t; body_offset = c.args.base + c.args.place.offset + 8; misc = c.in-EventRecord.event.misc }) c.in-Ok.parsed in
    let own = entries_at c.unwrap_or.result in
    rw c.in-EventRecord.is (decodes_entries g.E.EventEntry.has_type g.E.EventEntry.entries_of g.E.EventEntry.is_single c.args.counts_all (endian_of_file c.args.perf_file.now) (attributes_of_file c.args.perf_file.now) c.args.base _ c.args.count c.args._used c.args.entries.now c.add_entries.new.entries c.args._frames.now own
    c.requires.within
    (inl (
      sym c.is_of_type.ensures ∙ c.if-not-is_of_type.false,
      record {
        format = c.in-Some.format;
        format_is = c.in-Some.ensures c.in-EventRecord.event.parse_info;
        raw = c.in-EventRecord.event;
        raw_is = record { record_type = refl; misc = refl; body = refl };
        parsed = c.in-Ok.parsed;
        is_parsed = c.in-Ok.ensures.value;
        entries_are = ap entries_at (c.unwrap_or.ensures ∙ unwrap_zero c.args.place.timestamp);
      },
    ))
    (c.add_entries.ensures.few c.in-Some.format c.in-EventRecord.event c.in-Ok.ensures.value) c.add_entries.result c.add_entries.ensures.adds)

pub returns-in_default : goal.returns-in_default
returns-in_default g c = rw c.in_default.is (adds_nothing (event_kind g.E.EventEntry.has_type g.E.EventEntry.entries_of g.E.EventEntry.is_single) c.args.counts_all (endian_of_file c.args.perf_file.now) (attributes_of_file c.args.perf_file.now) c.args.base _ c.args.count c.args._used c.args.entries.now c.args._frames.now c.requires.free c.requires.within (inr (refl, inr (inl refl)), refl))

pub returns-then-not-is_of_type : goal.returns-then-not-is_of_type
returns-then-not-is_of_type g c = rw c.in-EventRecord.is (adds_nothing (event_kind g.E.EventEntry.has_type g.E.EventEntry.entries_of g.E.EventEntry.is_single) c.args.counts_all (endian_of_file c.args.perf_file.now) (attributes_of_file c.args.perf_file.now) c.args.base _ c.args.count c.args._used c.args.entries.now c.args._frames.now c.requires.free c.requires.within (inr (refl, inl (sym c.is_of_type.ensures ∙ c.if-not-is_of_type.true)), refl))

pub returns-in_default-format_of_attribute : goal.returns-in_default-format_of_attribute
returns-in_default-format_of_attribute g c = rw c.in-EventRecord.is (adds_nothing (event_kind g.E.EventEntry.has_type g.E.EventEntry.entries_of g.E.EventEntry.is_single) c.args.counts_all (endian_of_file c.args.perf_file.now) (attributes_of_file c.args.perf_file.now) c.args.base _ c.args.count c.args._used c.args.entries.now c.args._frames.now c.requires.free c.requires.within (inr (refl, inr (inl (c.in_default-format_of_attribute.ensures c.in-EventRecord.event.parse_info))), refl))

pub returns-in-Err : goal.returns-in-Err
returns-in-Err g c = rw c.in-EventRecord.is (adds_nothing (event_kind g.E.EventEntry.has_type g.E.EventEntry.entries_of g.E.EventEntry.is_single) c.args.counts_all (endian_of_file c.args.perf_file.now) (attributes_of_file c.args.perf_file.now) c.args.base _ c.args.count c.args._used c.args.entries.now c.args._frames.now c.requires.free c.requires.within (
  inr (
    refl,
    inr (inr (record {
      format = c.in-Some.format;
      format_is = c.in-Some.ensures c.in-EventRecord.event.parse_info;
      raw = c.in-EventRecord.event;
      raw_is = record { record_type = refl; misc = refl; body = refl };
      kind = error_kind c.in-Err.field-0;
      fails = c.in-Err.ensures.error;
    })),
  ),
  refl,
))
