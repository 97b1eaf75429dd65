-- A source that shows a prefix of its bytes.
use Rattle.std.proofs.Common.{◌≡◌, ℕ, ◌+◌, ◌-◌, ◌<◌, ◌≤◌, ◌++◌, List, length, take, drop, refl, sym, ap, ◌∙◌, subst, inl, inr, arith, pos, negsuc, length-take}
use Rattle.std.specs.declared.io.SeekFrom.{SeekFrom}
use Rattle.std.specs.declared.io.SeekFrom.TheVariants.{Start, End, Current}
use Rattle.std.proofs.lemmas.Bool.{false≢true}
use Rattle.std.specs.Prelude.{⊤, ◌⊎◌, Some, false, true, Err}
use Rattle.std.proofs.lemmas.List.{drop-take, length-take-le, take-append-drop, drop-drop}
use lib.Seq.{take-take}
use Rattle.perfdata_sources.specs.Source.{State, VisibleLength, LeadsTo, LeadsNowhere, SeekSucceeded, SeekOutOfRange, Seeks, SourceFailed, memory_source_at, ReadInto}

abbrev visible_further : (all : List ℕ) (shown at : ℕ) → VisibleLength true (record { all_bytes = take shown all; offset = at }) → VisibleLength false (record { all_bytes = all; offset = at })
visible_further all shown at prefix =
    let within = prefix.within in
    record { len = prefix.len; within = omega (arith, within, length-take shown all); whole_if_steady = λ h. absurd (false≢true h) }

-- a seek by the visible length has the same target by all bytes
goes_further : (all : List ℕ) (shown at n : ℕ) (to : SeekFrom) → LeadsTo true to (record { all_bytes = take shown all; offset = at }) n → LeadsTo false to (record { all_bytes = all; offset = at }) n
goes_further all shown at n (Start m) goes = goes
goes_further all shown at n (Current (pos m)) goes = goes
goes_further all shown at n (Current (negsuc m)) goes = goes
goes_further all shown at n (End (pos m)) goes = (visible_further all shown at goes.0, goes.1)
goes_further all shown at n (End (negsuc m)) goes = (visible_further all shown at goes.0, goes.1)

nowhere_further : (all : List ℕ) (shown at : ℕ) (to : SeekFrom) → LeadsNowhere true to (record { all_bytes = take shown all; offset = at }) → LeadsNowhere false to (record { all_bytes = all; offset = at })
nowhere_further all shown at (Start m) none = none
nowhere_further all shown at (Current (pos m)) none = none
nowhere_further all shown at (Current (negsuc m)) none = none
nowhere_further all shown at (End (pos m)) none = (visible_further all shown at none.0, none.1)
nowhere_further all shown at (End (negsuc m)) none = (visible_further all shown at none.0, none.1)

-- the state of a script
abbrev pub describing : List ℕ → ℕ → ℕ → ℕ → State
describing all at errors pauses = record { bytes = Some (drop at all); errors = errors; pauses = pauses; steady = false; position = Some (record { all_bytes = all; offset = at }) }

pub seek_succeeded_visible : (all : List ℕ) (shown at n errors pauses : ℕ) (to : SeekFrom) (new : State) → SeekSucceeded (memory_source_at (take shown all) at) to n new → SeekSucceeded (describing all at errors pauses) to n (describing all n errors pauses)
seek_succeeded_visible all shown at n errors pauses to new seek = record {
  after_seek = record { from_position = refl; all_bytes = refl; errors = omega arith; pauses = omega arith; steady = λ h. absurd (false≢true h) };
  position = refl;
  target = λ p same.
      let there : record { all_bytes = all; offset = at } ≡ p = cc in
      subst (λ q. LeadsTo false to q n) there (goes_further all shown at n to (seek.target (record { all_bytes = take shown all; offset = at }) refl));
}

-- a seek that is out of range by the visible length is out of range
out_of_range_visible : (all : List ℕ) (shown at errors pauses : ℕ) (to : SeekFrom) → SeekOutOfRange (memory_source_at (take shown all) at) to → SeekOutOfRange (describing all at errors pauses) to
out_of_range_visible all shown at errors pauses to none =
    let there : record { all_bytes = take shown all; offset = at } ≡ none.start = cc in
    record { start = record { all_bytes = all; offset = at }; at_start = refl; out_of_range = nowhere_further all shown at to (subst (λ q. LeadsNowhere true to q) (sym there) none.out_of_range) }

-- a failed seek in the visible bytes is out of range, because they are in memory and never fail
pub seek_error_visible : (all : List ℕ) (shown at errors pauses : ℕ) (to : SeekFrom) (left : State) → SourceFailed (memory_source_at (take shown all) at) left ⊎ SeekOutOfRange (memory_source_at (take shown all) at) to
    → Seeks {E = ⊤} (describing all at errors pauses) to (Err tt) (describing all at errors pauses)
seek_error_visible all shown at errors pauses to left cause = (
  record { from_position = refl; all_bytes = refl; errors = omega arith; pauses = omega arith; steady = λ h. absurd (false≢true h) },
  inr (elim cause [
    | inl failed ↦ absurd (failed.not_steady refl)
    | inr none ↦ out_of_range_visible all shown at errors pauses to none
  ]),
)

-- a read of visible bytes from the position
pub read_visible : (all buf : List ℕ) (shown at n errors pauses : ℕ) → 0 < n → n ≤ length buf → take n buf ≡ take n (drop at (take shown all)) → at + n ≤ shown
    → ReadInto (describing all at errors pauses) buf n (describing all (at + n) errors pauses)
read_visible all buf shown at n errors pauses some within same fits =
    let long : length (take n buf) ≡ n = length-take-le n buf within in
    let width : at + (shown - at) ≡ shown = omega arith in
    let there : take n buf ≡ take n (drop at all) =
    same ∙ ap (λ k. take n (drop at (take k all))) (sym width) ∙ ap (take n) (drop-take at (shown - at) all) ∙ take-take n (shown - at) (drop at all) (omega arith) in
    record {
      within = within;
      consumes = record {
        bytes = ap (λ l. Some l) (sym (take-append-drop n (drop at all)) ∙ ap (λ f. f ++ drop n (drop at all)) (sym there) ∙ ap (λ r. take n buf ++ r) (drop-drop n at all));
        position = ap (λ k. Some (record { all_bytes = all; offset = at + k })) (sym long);
        errors = omega arith;
        pauses = omega arith;
        steady = λ h. absurd (false≢true h);
      };
      if_empty = λ is. absurd (omega arith);
    }
