-- Skipping bytes by seeks.
use Rattle.std.proofs.Common.{◌≡◌, ℕ, ◌+◌, ◌-◌, ◌≤◌, ◌++◌, length, take, drop, replicate, List, refl, sym, ap, ◌∙◌, arith, pos, Option, None, Some, length-drop}
use Rattle.std.proofs.lemmas.List.{length-take-le, take-append-drop, drop-drop, length-replicate}
use Rattle.std.specs.declared.io.SeekFrom.TheVariants.{Start, End, Current}
use Rattle.perfdata_sources.specs.Source.{State, Position, prepend, remaining_from, at_offset, RemainsFromPosition, Consumed, AfterSeek, SeekSucceeded}
use Rattle.perfdata_sources.proofs.ReadErrors.{after_seek_more, consumed_all}
use Rattle.perfdata_jit.specs.BufferedReader.{SameCounts, SameSource}
use Rattle.perfdata_jit.specs.steps.Seeking.{SkippedBySeek, SkipsBySeek}
use Rattle.std.specs.Prelude.{Bool, true, false, Ok}

-- seeks don't change the bytes of the source
pub position_same : (a b : State) → AfterSeek a b → SameSource a b
position_same a b unchanged = record { all = unchanged.all_bytes; steady = λ h. (unchanged.steady h).steady }

-- this also holds for seeks after bytes were consumed
pub same_after : (a b c : State) (prefix : List ℕ) → Consumed a prefix b → SameSource b c → SameSource a c
same_after a b c prefix consumes same = record { all = same.all ∙ consumed_all a b prefix consumes; steady = λ h. same.steady (consumes.steady h).steady }

three_unchanged : (s a b t : State) → AfterSeek s a → AfterSeek a b → AfterSeek b t → SameSource s t
three_unchanged s a b t x y z = position_same s t (after_seek_more s b t (after_seek_more s a b x y) z)

-- three seeks skip `count` bytes, by the source's positions, of which this is the one before them
skipped_from : (position : Option Position) (s a b t : State) (here end count to : ℕ) → s.position ≡ position → RemainsFromPosition s → SeekSucceeded s (Current (pos 0)) here a → SeekSucceeded a (End (pos 0)) end b → SeekSucceeded b (Start (here + count)) to t → here ≤ end → count ≤ end - here → SameCounts s t
    → SkippedBySeek s count t
skipped_from None s a b t here end count to is at_position x y z le fits counts = record {
  bytes = replicate count 0;
  exact_len = length-replicate count 0;
  same_source = three_unchanged s a b t x.after_seek y.after_seek z.after_seek;
  matches =
      let first : a.position ≡ None = x.position ∙ ap (at_offset here) is in
      let second : b.position ≡ None = y.position ∙ ap (at_offset end) first in
      let third : t.position ≡ None = z.position ∙ ap (at_offset to) second in
      at_position ∙ ap remaining_from is ∙ ap (prepend (replicate count 0)) (sym (z.after_seek.from_position ∙ ap remaining_from third));
  same_counts = counts;
}
skipped_from (Some p) s a b t here end count to is at_position x y z le fits counts =
    let stands : here ≡ p.offset + 0 = x.target p is in
    let first : a.position ≡ Some (record { all_bytes = p.all_bytes; offset = here }) = x.position ∙ ap (at_offset here) is in
    let second : b.position ≡ Some (record { all_bytes = p.all_bytes; offset = end }) = y.position ∙ ap (at_offset end) first in
    let third : t.position ≡ Some (record { all_bytes = p.all_bytes; offset = to }) = z.position ∙ ap (at_offset to) second in
    let visible = y.target (record { all_bytes = p.all_bytes; offset = here }) first in
    let goes : to ≡ here + count = z.target (record { all_bytes = p.all_bytes; offset = end }) second in
    let there : p.offset + count ≤ length p.all_bytes = let within = visible.0.within in omega (arith, within, visible.1, stands) in
    let target : p.offset + count ≡ to = omega (arith, goes, stands) in
    record {
      bytes = take count (drop p.offset p.all_bytes);
      exact_len = length-take-le count (drop p.offset p.all_bytes) (omega (arith, length-drop p.offset p.all_bytes));
      same_source = three_unchanged s a b t x.after_seek y.after_seek z.after_seek;
      matches =
          at_position ∙ ap remaining_from is
          ∙ ap Some (sym (take-append-drop count (drop p.offset p.all_bytes)) ∙ ap (λ r. take count (drop p.offset p.all_bytes) ++ r) (drop-drop count p.offset p.all_bytes ∙ ap (λ n. drop n p.all_bytes) target))
          ∙ ap (prepend (take count (drop p.offset p.all_bytes))) (sym (z.after_seek.from_position ∙ ap remaining_from third));
      same_counts = counts;
    }

pub skipped_by_seek : (s a b t : State) (here end count to : ℕ) → RemainsFromPosition s → SeekSucceeded s (Current (pos 0)) here a → SeekSucceeded a (End (pos 0)) end b → SeekSucceeded b (Start (here + count)) to t → here ≤ end → count ≤ end - here → SameCounts s t → SkippedBySeek s count t
skipped_by_seek s a b t here end count to = skipped_from s.position s a b t here end count to refl

-- the bytes are skipped if the result is true
pub skipped_if : (old new : State) (count : ℕ) (skipped : Bool) → skipped ≡ true → SkipsBySeek old count (Ok skipped) new → SkippedBySeek old count new
skipped_if old new count true is p = p
skipped_if old new count false is p = absurd cc
