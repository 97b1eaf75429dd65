-- Lemmas on bytes that are written one after another into an array.
use Rattle.std.proofs.Common.{ℕ, ◌++◌, List, [], sym, ap, ◌∙◌, arith, length-append}
use Rattle.std.proofs.lemmas.List.{take-append-drop}
use Rattle.perfdata_arrays.specs.Overwrites.{with_entries_at}
use Rattle.perfdata_arrays.specs.steps.Written.{WritesMore}
use Rattle.perfdata_arrays.proofs.OverwriteLemmas.{with_entries_at-more}

-- no byte
pub writes_none : {size : ℕ} {old : List ℕ} → WritesMore size old size old
writes_none {size} {old} = record { grows = omega arith; written = λ fits. ([], (omega arith, sym (take-append-drop size old))) }

-- bytes and then others
pub writes_then : {size size' size'' : ℕ} {old now new : List ℕ} → WritesMore size old size' now → WritesMore size' now size'' new → WritesMore size old size'' new
writes_then {size} {size'} {size''} {old} {now} {new} first more =
    let before = first.grows in
    let after = more.grows in
    record {
      grows = omega (arith, before, after);
      written = λ fits.
          let done = first.written (omega (arith, after, fits)) in
          let added = more.written fits in
          let long = done.1.0 in
          let longer = added.1.0 in (
            done.0 ++ added.0,
            (
              omega (arith, long, longer, length-append done.0 added.0),
              added.1.1 ∙ ap (with_entries_at size' added.0) done.1.1 ∙ with_entries_at-more size size' done.0 added.0 old done.1.0,
            ),
          );
    }
