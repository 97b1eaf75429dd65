use Rattle.std.proofs.Common.{refl, inl, inr}
use Rattle.std.specs.IoError.{error_kind}
use Rattle.perfdata_stack_arrays.proofs.Parsed.{adds_record}
use Rattle.perfdata_stack_arrays.proofs.stacks.add_record.Goals as goal

pub returns-in_default-event_format : goal.returns-in_default-event_format
returns-in_default-event_format c = rw c.in-EventRecord.is (inl (record {
  is_none = inl (c.in_default-event_format.ensures c.in-EventRecord.event.parse_info);
  same_counts = refl;
  same_state = refl;
  same_arrays = refl;
}))

pub returns-in_default-outcome : goal.returns-in_default-outcome
returns-in_default-outcome c =
    let failed = rw c.in_default-outcome.is at c.parse-outcome.ensures.error in
    rw c.in-EventRecord.is (inl (record {
      is_none = inr (record {
        format = c.in-Some.format;
        format_is = c.in-Some.ensures c.in-EventRecord.event.parse_info;
        raw = c.in-EventRecord.event;
        raw_is = record { record_type = refl; misc = refl; body = refl };
        kind = error_kind c.in_default-outcome.field-0;
        fails = failed;
      });
      same_counts = refl;
      same_state = refl;
      same_arrays = refl;
    }))

pub returns : goal.returns
returns c =
    let value = rw c.in-Ok.is at c.parse-outcome.ensures.value in
    rw c.in-EventRecord.is (adds_record _ _ _ _ _ _ _ _ _ _ (record {
      format = c.in-Some.format;
      format_is = c.in-Some.ensures c.in-EventRecord.event.parse_info;
      raw = c.in-EventRecord.event;
      raw_is = record { record_type = refl; misc = refl; body = refl };
      is_parsed = value;
      offset_is = refl;
      attr_index_is = refl;
      misc_is = refl;
    }) c.add_parsed.ensures)
