-- Steps of private functions: held records: what each call does to them.
use Rattle.std.specs.Prelude.{◌≡◌, ℕ, List, [], Option, None, Some, Result, Ok, Err}
use Rattle.std.specs.Ordering.{nat_cmp}
use Rattle.std.specs.declared.alloc.AllocError.{AllocError}
use Rattle.perfdata_order.specs.declared.bodies.BodyRange.{BodyRange}
use Rattle.perfdata_order.specs.declared.held_record.RecordEnvelope.{RecordEnvelope}
use Rattle.perfdata_order.specs.declared.held_record.HeldRecord.{HeldRecord}
use Rattle.perfdata_order.specs.declared.held_records.HeldRecords.{HeldRecords}
use Rattle.perfdata_order.specs.HeldRecord.{view_with, held_view}
use Rattle.perfdata_order.specs.Sorter.{available_of, IsUnchanged, Inserted, Returned}
use Rattle.perfdata_order.specs.HeldRecords.{body_of}

abbrev pub InsertsRecord : HeldRecords → ℕ → RecordEnvelope → List ℕ → Result (Unit {0}) AllocError → HeldRecords → Type 0
InsertsRecord old key envelope body (Ok done) new =
    (held : HeldRecord) × (Inserted nat_cmp old.sorter key held new.sorter × (held_view held ≡ view_with envelope body))
InsertsRecord old key envelope body (Err e) new = IsUnchanged old.sorter new.sorter

-- The next available record was taken. Its body is still in its range.
abbrev pub TakesRecord : HeldRecords → Option (RecordEnvelope × BodyRange) → HeldRecords → Type 0
TakesRecord old None new = (available_of old.sorter ≡ []) × IsUnchanged old.sorter new.sorter
TakesRecord old (Some found) new =
    (key : ℕ) × ((held : HeldRecord) × (Returned old.sorter key held new.sorter × (view_with found.0 (body_of new found.1) ≡ held_view held)))
