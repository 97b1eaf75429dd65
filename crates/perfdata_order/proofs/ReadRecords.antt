-- A record that was read, and is held or whose body is copied.
use Rattle.std.proofs.Common.{◌≡◌, ℕ, ◌<◌, List, length, Option, Some, Ok, Err, sym, subst, inr}
use Rattle.perfdata_sources.specs.Source.{State}
use Rattle.perfdata_sections.specs.declared.error.Error.{Error}
use Rattle.perfdata_sections.specs.declared.error.Error.TheVariants as error
use Rattle.linux_perf_data.specs.declared.records.iter.PerfRecordIter.{PerfRecordIter}
use Rattle.linux_perf_data.specs.declared.perf_file.PerfFile.{PerfFile}
use Rattle.linux_perf_data.specs.Items.{ReturnsNextRecord}
use Rattle.perfdata_order.specs.declared.held_record.RecordEnvelope.{RecordEnvelope}
use Rattle.perfdata_order.specs.declared.held_records.HeldRecords.{HeldRecords}
use Rattle.perfdata_order.specs.declared.reading.NextRecord.{NextRecord}
use Rattle.perfdata_order.specs.declared.reading.NextRecord.TheVariants.{Held, Copied, RoundEnd}
use Rattle.perfdata_order.specs.HeldRecord.{view_with}
use Rattle.perfdata_order.specs.steps.Reading.{HoldsOrCopies, ReadsRecord}

module _ {R : Type 0} (state : R → State) where
  pub record_read : (old new : PerfRecordIter R) (file file' : PerfFile) (held held' : HeldRecords) (last : Option ℕ) (envelope : RecordEnvelope) (body copy : List ℕ) (r : NextRecord) → ReturnsNextRecord state old file (view_with envelope body) new file'
      → HoldsOrCopies held last envelope body (Ok r) copy held' → ReadsRecord state old file held last (Ok (Some r)) copy held' new file'
  record_read old new file file' held held' last envelope body copy (Held size) returned inserts = record { envelope = envelope; body = body; returned = returned; inserts = inserts }
  record_read old new file file' held held' last envelope body copy (Copied copied) returned (is, (same, unchanged)) = (
    subst (λ e. ReturnsNextRecord state old file (view_with e copy) new file') (sym is) (subst (λ b. ReturnsNextRecord state old file (view_with envelope b) new file') (sym same) returned),
    unchanged,
  )
  record_read old new file file' held held' last envelope body copy RoundEnd returned none = absurd none

  -- Memory ran out for the copy of a large body.
  pub copy_failed : (old new : PerfRecordIter R) (file file' : PerfFile) (held held' : HeldRecords) (last : Option ℕ) (envelope : RecordEnvelope) (body copy : List ℕ) (e : Error) → e ≡ error.Memory
      → ReturnsNextRecord state old file (view_with envelope body) new file' → (held' ≡ held) × ((65536 < length body) × (length copy < length body)) → ReadsRecord state old file held last (Err e) copy held' new file'
  copy_failed old new file file' held held' last envelope body copy e memory returned (same, (large, short)) =
      (inr (record { out_of_memory = memory; h = view_with envelope body; returned = returned; is_large = large; not_copied = short }), same)
