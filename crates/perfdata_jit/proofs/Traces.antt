-- Consecutive calls of a jitdump reader.
use Rattle.std.proofs.Common.{◌≡◌, ℕ, ◌+◌, inl, inr, true, false, List, [], ◌∷◌, ◌++◌, length, sym, ap, ◌∙◌, subst, arith, length-append, Option, None, Some}
use Rattle.std.specs.List.{concat}
use Rattle.std.specs.Prelude.{Ok, Err, Result}
use Rattle.std.specs.declared.io.Error.{Error}
use Rattle.perfdata_sources.proofs.ConsumedLemmas.{prepend_more}
use Rattle.perfdata_sources.specs.Source.{State, prepend}
use Rattle.perfdata_jit.proofs.BufferRanges.{prepend-nil}
use Rattle.perfdata_jit.specs.RecordBytes.{AreRecords, IsOneRecord, IsRecordOf}
use Rattle.perfdata_jit.specs.Trace.{ReaderStep, no_progress, skipped_record, returned_record, consumed_records, AreReturned, MakesNoProgress, Trace, InOrder}
use Rattle.perfdata_jit.specs.JitDumpReader.{jit_unread_bytes, jit_seek_failed, jit_offset, jit_endian, ReturnsHeader, KeepsPosition}
use Rattle.perfdata_jit.specs.declared.jitdump_reader.JitDumpReader.{JitDumpReader}
use Rattle.perfdata_jit.specs.declared.record.JitDumpRecordHeader.{JitDumpRecordHeader}

module _ {R : Type 0} (state : R → State) where
  -- if no seek has failed after a call that consumes nothing, none had failed before it, and the unread bytes are unchanged
  record Kept (old new : JitDumpReader R) : Type 0 where
    flat : jit_unread_bytes state old ≡ jit_unread_bytes state new
    offset : jit_offset new ≡ jit_offset old
    same_endian : jit_endian new ≡ jit_endian old
    found : jit_seek_failed old ≡ false

  kept_by : (old new : JitDumpReader R) → KeepsPosition state old new → Kept old new
  kept_by old new s = record { flat = s.unread_bytes; offset = s.offset; same_endian = s.same_setup.same_endian; found = s.seek_ok_before }

  kept_lost : {A : Type 0} (old new : JitDumpReader R) → jit_seek_failed old ≡ true → new ≡ old → jit_seek_failed new ≡ false → A
  kept_lost old new gone same found = let back : jit_seek_failed new ≡ jit_seek_failed old = ap (λ j. jit_seek_failed j) same in absurd cc

  header_kept : (old new : JitDumpReader R) (result : Result (Option JitDumpRecordHeader) Error) → ReturnsHeader state (λ header. header) old result new → jit_seek_failed new ≡ false → Kept old new
  header_kept old new (Ok (Some record_header)) h found = kept_by old new h.keeps_position
  header_kept old new (Ok None) h found = kept_by old new h.keeps_position
  header_kept old new (Err e) h found = elim h [ inl error ↦ kept_by old new error.keeps_position | inr seek_lost ↦ kept_lost old new seek_lost.seek_failed seek_lost.unchanged found ]

  kept : (old new : JitDumpReader R) → MakesNoProgress state old new → jit_seek_failed new ≡ false → Kept old new
  kept old new call found = elim call [
    | inl header ↦ header_kept old new header.0 header.1 found
    | inr rest ↦ elim rest [
      | inl waits ↦ kept_by old new waits.keeps_position
      | inr rest2 ↦ elim rest2 [
        | inl fails ↦ elim fails.1 [
          | inl size ↦ kept_by old new size.keeps_position
          | inr other ↦ elim other [ inl part ↦ kept_by old new part.keeps_position | inr seek_lost ↦ kept_lost old new seek_lost.seek_failed seek_lost.unchanged found ]
        ]
        | inr rest3 ↦ elim rest3 [
          | inl skips ↦ elim skips [
            | inl missing ↦ kept_by old new missing.keeps_position
            | inr stands ↦ record { flat = stands.unread_bytes; offset = stands.offset; same_endian = stands.same_setup.same_endian; found = stands.seek_ok_before }
          ]
          | inr fails ↦ elim fails.1 [
            | inl error ↦ elim error [ inl size ↦ kept_by old new size.keeps_position | inr header ↦ kept_by old new header.keeps_position ]
            | inr other ↦ elim other [ inl loses ↦ (let gone = loses.seek_failed_after in absurd cc) | inr seek_lost ↦ kept_lost old new seek_lost.seek_failed seek_lost.unchanged found ]
          ]
        ]
      ]
    ]
  ]

  -- bytes are consumed, and then those of the later calls
  consumed_bytes_more : (old mid new : JitDumpReader R) (bytes : List ℕ) (more : List ReaderStep) → jit_unread_bytes state old ≡ prepend bytes (jit_unread_bytes state mid) → InOrder state mid more new → jit_unread_bytes state old ≡ prepend (bytes ++ concat (consumed_records more)) (jit_unread_bytes state new)
  consumed_bytes_more old mid new bytes more flat rest = flat ∙ ap (prepend bytes) rest.unread_bytes ∙ prepend_more bytes (concat (consumed_records more)) (jit_unread_bytes state new)

  pub in_order : (old : JitDumpReader R) (steps : List ReaderStep) (new : JitDumpReader R) → Trace state old steps new → jit_seek_failed new ≡ false → InOrder state old steps new × (jit_seek_failed old ≡ false)
  in_order old [] new run found = (
    record {
      unread_bytes = ap (jit_unread_bytes state) (sym run) ∙ sym (prepend-nil (jit_unread_bytes state new));
      elements = tt;
      returned_in_order = tt;
      offset = let same : jit_offset new ≡ jit_offset old = ap (λ j. jit_offset j) run in omega (arith, same);
      same_endian = ap (λ j. jit_endian j) run;
    },
    ap (λ j. jit_seek_failed j) (sym run) ∙ found,
  )
  in_order old (no_progress ∷ more) new run found =
      let rest = in_order run.0 more new run.2 found in
      let k = kept old run.0 run.1 rest.1 in
      let i = rest.0 in (
        record {
          unread_bytes = k.flat ∙ i.unread_bytes;
          elements = subst (λ o. AreRecords o (jit_offset old) (consumed_records more)) k.same_endian (subst (λ n. AreRecords (jit_endian run.0) n (consumed_records more)) k.offset i.elements);
          returned_in_order = subst (λ o. AreReturned o (jit_offset old) more) k.same_endian (subst (λ n. AreReturned (jit_endian run.0) n more) k.offset i.returned_in_order);
          offset = i.offset ∙ ap (λ n. n + length (concat (consumed_records more))) k.offset;
          same_endian = i.same_endian ∙ k.same_endian;
        },
        k.found,
      )
  in_order old (skipped_record bytes ∷ more) new run found =
      let mid = run.0 in
      let rest = in_order mid more new run.2 found in
      let p = run.1.0 in
      let i = rest.0 in
      let flat : jit_unread_bytes state old ≡ prepend bytes (jit_unread_bytes state mid) = p.unread_bytes ∙ ap (λ l. prepend l (jit_unread_bytes state mid)) run.1.1 in
      let offset : jit_offset mid ≡ jit_offset old + length bytes = p.offset ∙ ap (λ l. jit_offset old + length l) run.1.1 in
      let same_endian = p.same_setup.same_endian in (
        record {
          unread_bytes = consumed_bytes_more old mid new bytes more flat i;
          elements = (subst (IsOneRecord (jit_endian old) (jit_offset old)) run.1.1 p.record_bytes_valid, subst (λ o. AreRecords o (jit_offset old + length bytes) (consumed_records more)) same_endian (subst (λ n. AreRecords (jit_endian mid) n (consumed_records more)) offset i.elements));
          returned_in_order = subst (λ o. AreReturned o (jit_offset old + length bytes) more) same_endian (subst (λ n. AreReturned (jit_endian mid) n more) offset i.returned_in_order);
          offset = omega (arith, i.offset, offset, length-append bytes (concat (consumed_records more)));
          same_endian = i.same_endian ∙ same_endian;
        },
        p.seek_ok_before,
      )
  in_order old (returned_record bytes r ∷ more) new run found =
      let mid = run.0 in
      let rest = in_order mid more new run.2 found in
      let h = run.1.0 in
      let i = rest.0 in
      let flat : jit_unread_bytes state old ≡ prepend bytes (jit_unread_bytes state mid) = h.unread_bytes ∙ ap (λ l. prepend l (jit_unread_bytes state mid)) run.1.1 in
      let offset : jit_offset mid ≡ jit_offset old + length bytes = h.offset ∙ ap (λ l. jit_offset old + length l) run.1.1 in
      let same_endian = h.same_setup.same_endian in (
        record {
          unread_bytes = consumed_bytes_more old mid new bytes more flat i;
          elements = (subst (IsOneRecord (jit_endian old) (jit_offset old)) run.1.1 h.matches.record_bytes_valid, subst (λ o. AreRecords o (jit_offset old + length bytes) (consumed_records more)) same_endian (subst (λ n. AreRecords (jit_endian mid) n (consumed_records more)) offset i.elements));
          returned_in_order = (subst (λ l. IsRecordOf (jit_endian old) (jit_offset old) l r) run.1.1 h.matches, subst (λ o. AreReturned o (jit_offset old + length bytes) more) same_endian (subst (λ n. AreReturned (jit_endian mid) n more) offset i.returned_in_order));
          offset = omega (arith, i.offset, offset, length-append bytes (concat (consumed_records more)));
          same_endian = i.same_endian ∙ same_endian;
        },
        h.seek_ok_before,
      )
