-- What is proved of each type: bytes have one outcome in the format of its fields, and its values consume a prefix of them.
use Rattle.std.proofs.Common.{◌≡◌, ℕ, ◌++◌, Bool, true, false, inl, inr, List, [], ◌∷◌, refl, sym, ap, subst, ◌∙◌}
use Rattle.std.specs.Prelude.{◌==◌}
use Rattle.std.specs.declared.io.ErrorKind.{ErrorKind}
use Rattle.perfdata_base.specs.declared.event.raw_event_record.RawEventRecord.{RawEventRecord}
use Rattle.perfdata_events.specs.Format.{fails}
use Rattle.perfdata_events.specs.OneOutcome.{HasOneOutcome}
use Rattle.perfdata_events.specs.Prefix.{ConsumesPrefix}
use Rattle.perfdata_events.specs.TypeRow.{TypeRow, empty_row, row_or, row_in, FailsIn}
use Rattle.perfdata_events.specs.Event.{number, types_to_7, types_to_15, types_to_21, row_of, HasFields, EventFails, kind_of}
use Rattle.perfdata_events.specs.EventView.{EventView, mmap_view, lost_view, comm_view, exit_view, throttle_view, unthrottle_view, fork_view, read_view, mmap2_view, aux_view, itrace_start_view, lost_samples_view, context_switch_view, namespaces_view, ksymbol_view, bpf_event_view, cgroup_view, text_poke_view, aux_output_hw_id_view, raw_view}
use Rattle.perfdata_events.specs.declared.format.EventFormat.{EventFormat}
use Rattle.perfdata_events.proofs.OneOutcomes.{one_fixed, one_fixed_and_text, one_fixed_and_block, one_fixed_and_u64s}
use Rattle.perfdata_events.proofs.RecordOutcomes.{one_read, one_mmap2}
use Rattle.perfdata_events.proofs.Prefixes.{prefix_fixed, prefix_fixed_and_text, prefix_fixed_and_block, prefix_fixed_and_u64s, prefix_read, prefix_mmap2}

module _ (format : EventFormat) (raw : RawEventRecord) where
  -- The row is that of its type.
  pub record RowLaws (row : TypeRow) : Type 1 where
    pub is_found : row_of format raw row.type_number ≡ row
    pub one : HasOneOutcome row.fields
    pub prefix : ConsumesPrefix row.fields
    pub view : row.Value → EventView

  abbrev AreLawful : List TypeRow → Type 1
  AreLawful [] = Unit {1}
  AreLawful (row ∷ rows) = RowLaws row × AreLawful rows

  abbrev laws_to_7 : AreLawful (types_to_7 format raw)
  laws_to_7 = (
    record { is_found = refl; one = one_fixed_and_text _ _; prefix = prefix_fixed_and_text _ _; view = mmap_view },
    (
      record { is_found = refl; one = one_fixed _ _; prefix = prefix_fixed _ _; view = lost_view },
      (
        record { is_found = refl; one = one_fixed_and_text _ _; prefix = prefix_fixed_and_text _ _; view = comm_view },
        (
          record { is_found = refl; one = one_fixed _ _; prefix = prefix_fixed _ _; view = exit_view },
          (
            record { is_found = refl; one = one_fixed _ _; prefix = prefix_fixed _ _; view = throttle_view },
            (
              record { is_found = refl; one = one_fixed _ _; prefix = prefix_fixed _ _; view = unthrottle_view },
              (record { is_found = refl; one = one_fixed _ _; prefix = prefix_fixed _ _; view = fork_view }, tt),
            ),
          ),
        ),
      ),
    ),
  )

  abbrev laws_to_15 : AreLawful (types_to_15 format raw)
  laws_to_15 = (
    record { is_found = refl; one = one_read (number format raw) format.read_format.0; prefix = prefix_read (number format raw) format.read_format.0; view = read_view },
    (
      record { is_found = refl; one = one_mmap2 (number format raw) raw.misc; prefix = prefix_mmap2 (number format raw) raw.misc; view = mmap2_view },
      (
        record { is_found = refl; one = one_fixed _ _; prefix = prefix_fixed _ _; view = aux_view },
        (
          record { is_found = refl; one = one_fixed _ _; prefix = prefix_fixed _ _; view = itrace_start_view },
          (
            record { is_found = refl; one = one_fixed _ _; prefix = prefix_fixed _ _; view = lost_samples_view },
            (
              record { is_found = refl; one = one_fixed _ _; prefix = prefix_fixed _ _; view = context_switch_view },
              (record { is_found = refl; one = one_fixed _ _; prefix = prefix_fixed _ _; view = context_switch_view }, tt),
            ),
          ),
        ),
      ),
    ),
  )

  abbrev laws_to_21 : AreLawful (types_to_21 format raw)
  laws_to_21 = (
    record { is_found = refl; one = one_fixed_and_u64s (number format raw) _ _ _; prefix = prefix_fixed_and_u64s (number format raw) _ _ _; view = namespaces_view },
    (
      record { is_found = refl; one = one_fixed_and_text _ _; prefix = prefix_fixed_and_text _ _; view = ksymbol_view },
      (
        record { is_found = refl; one = one_fixed_and_block _ _ _; prefix = prefix_fixed_and_block _ _ _; view = bpf_event_view },
        (
          record { is_found = refl; one = one_fixed_and_text _ _; prefix = prefix_fixed_and_text _ _; view = cgroup_view },
          (
            record { is_found = refl; one = one_fixed_and_block _ _ _; prefix = prefix_fixed_and_block _ _ _; view = text_poke_view },
            (record { is_found = refl; one = one_fixed _ _; prefix = prefix_fixed _ _; view = aux_output_hw_id_view }, tt),
          ),
        ),
      ),
    ),
  )

  abbrev empty_laws : RowLaws empty_row
  empty_laws = record { is_found = refl; one = one_fixed _ _; prefix = prefix_fixed _ _; view = λ none. raw_view raw }

  abbrev laws_or : (b : Bool) (found other : TypeRow) → RowLaws found → RowLaws other → RowLaws (row_or b found other)
  laws_or true found other one two = one
  laws_or false found other one two = two

  abbrev laws_in : (rows : List TypeRow) (other : TypeRow) (type_number : ℕ) → AreLawful rows → RowLaws other → RowLaws (row_in rows other type_number)
  laws_in [] other type_number laws else_laws = else_laws
  laws_in (head ∷ rows) other type_number laws else_laws = laws_or (type_number == head.type_number) head (row_in rows other type_number) laws.0 (laws_in rows other type_number laws.1 else_laws)

  abbrev pub laws_of : (type_number : ℕ) → RowLaws (row_of format raw type_number)
  laws_of n =
      let to_21 = laws_in (types_to_21 format raw) empty_row n laws_to_21 empty_laws in
      let to_15 = laws_in (types_to_15 format raw) (row_in (types_to_21 format raw) empty_row n) n laws_to_15 to_21 in
      laws_in (types_to_7 format raw) (row_in (types_to_15 format raw) (row_in (types_to_21 format raw) empty_row n) n) n laws_to_7 to_15

  pub prefix_of : (n : ℕ) (value : (row_of format raw n).Value) (xs rest : List ℕ) → HasFields format raw n xs value rest → (consumed : List ℕ) × (xs ≡ consumed ++ rest)
  prefix_of n value xs rest q = (laws_of n).prefix xs value rest q.1

  -- A row whose fields fail is that of the record's type.
  failed_row : (row : TypeRow) → RowLaws row → (xs : List ℕ) (kind : ErrorKind) → kind_of format raw ≡ row.type_number → row.fields xs (fails kind)
      → (row_of format raw (kind_of format raw)).fields xs (fails kind)
  failed_row row laws xs kind e q = subst (λ (r : TypeRow). r.fields xs (fails kind)) (sym laws.is_found ∙ ap (row_of format raw) (sym e)) q

  failed_in : (rows : List TypeRow) → AreLawful rows → (xs : List ℕ) (kind : ErrorKind) → FailsIn rows (kind_of format raw) xs kind
      → (row_of format raw (kind_of format raw)).fields xs (fails kind)
  failed_in [] laws xs kind q = absurd q
  failed_in (last ∷ []) laws xs kind q = failed_row last laws.0 xs kind q.0 q.1
  failed_in (head ∷ (next ∷ rows)) laws xs kind (inl q) = failed_row head laws.0 xs kind q.0 q.1
  failed_in (head ∷ (next ∷ rows)) laws xs kind (inr q) = failed_in (next ∷ rows) laws.1 xs kind q

  pub fields_fail : (xs : List ℕ) (kind : ErrorKind) → EventFails format raw xs kind → (row_of format raw (kind_of format raw)).fields xs (fails kind)
  fields_fail xs kind (inl q) = failed_in (types_to_7 format raw) laws_to_7 xs kind q
  fields_fail xs kind (inr (inl q)) = failed_in (types_to_15 format raw) laws_to_15 xs kind q
  fields_fail xs kind (inr (inr q)) = failed_in (types_to_21 format raw) laws_to_21 xs kind q
