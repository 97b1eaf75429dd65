-- The effect of reads and seeks of a cursor.
use Rattle.std.proofs.Common.{◌≡◌, ℕ, ◌+◌, ◌<◌, ◌≤◌, ◌++◌, List, length, take, drop, refl, sym, ap, ◌∙◌, subst, inr, arith, pos, negsuc}
use Rattle.std.specs.Prelude.{Result, Ok, Err, IfOk, Some, true}
use Rattle.std.specs.Io.Cursor.{IsSeekResult, IsSeekFromEnd}
use Rattle.std.specs.declared.io.SeekFrom.{SeekFrom}
use Rattle.std.specs.declared.io.SeekFrom.TheVariants.{Start, End, Current}
use Rattle.std.proofs.lemmas.List.{length-take-le, take-append-drop, drop-drop}
use Rattle.perfdata_sources.specs.Buffered.{ConsumedBuffered}
use Rattle.perfdata_sources.specs.Source.{memory_source_at, ReadInto, AfterSeek, VisibleLength, LeadsTo, LeadsNowhere, Seeks}

is_unchanged : (all : List ℕ) (at to : ℕ) → AfterSeek (memory_source_at all at) (memory_source_at all to)
is_unchanged all at to = record {
  from_position = refl;
  all_bytes = refl;
  errors = omega arith;
  pauses = omega arith;
  steady = λ h. record { steady = h; errors = refl; pauses = refl };
}

module _ (E : Type 0) (all : List ℕ) (at : ℕ) where
  abbrev whole : VisibleLength true (record { all_bytes = all; offset = at })
  whole = record { len = length all; within = omega arith; whole_if_steady = λ _. refl }

  goes : (n : ℕ) (to : SeekFrom) → IsSeekResult {E = E} to at (Ok n) → IsSeekFromEnd {E = E} to (length all) (Ok n) → LeadsTo true to (record { all_bytes = all; offset = at }) n
  goes n (Start m) target end = cc
  goes n (Current (pos m)) target end = target.1
  goes n (Current (negsuc m)) target end = omega (arith, target.0, target.1)
  goes n (End (pos m)) target end = (whole, end.1)
  goes n (End (negsuc m)) target end = (whole, omega (arith, end.0, end.1))

  nowhere : (e : E) (to : SeekFrom) → IsSeekResult {E = E} to at (Err e) → IsSeekFromEnd {E = E} to (length all) (Err e) → LeadsNowhere true to (record { all_bytes = all; offset = at })
  nowhere e (Start m) target end = cc
  nowhere e (Current (pos m)) target end = omega (arith, target)
  nowhere e (Current (negsuc m)) target end = omega (arith, target)
  nowhere e (End (pos m)) target end = (whole, omega (arith, end))
  nowhere e (End (negsuc m)) target end = (whole, omega (arith, end))

pub seeks_cursor : {E : Type 0} (all : List ℕ) (at at' : ℕ) (to : SeekFrom) (r : Result ℕ E) → IfOk r (λ n. at' ≡ n) → IsSeekResult to at r → IsSeekFromEnd to (length all) r → Seeks (memory_source_at all at) to r (memory_source_at all at')
seeks_cursor {E} all at at' to (Ok n) is target end = record {
  after_seek = is_unchanged all at at';
  position = ap (λ k. Some (record { all_bytes = all; offset = k })) is;
  target = λ p same.
      let there : record { all_bytes = all; offset = at } ≡ p = cc in
      subst (λ q. LeadsTo true to q n) there (goes E all at n to target end);
}
seeks_cursor {E} all at at' to (Err e) is target end = (is_unchanged all at at', inr (record { start = record { all_bytes = all; offset = at }; at_start = refl; out_of_range = nowhere E all at e to target end }))

-- a read of n bytes from a cursor's position
pub read_from_cursor : (all buf : List ℕ) (at n : ℕ) → 0 < n → n ≤ length buf → take n buf ≡ take n (drop at all) → at + n ≤ length all → ReadInto (memory_source_at all at) buf n (memory_source_at all (at + n))
read_from_cursor all buf at n some within same fits =
    let long : length (take n buf) ≡ n = length-take-le n buf within in
    record {
      within = within;
      consumes = record {
        bytes = ap (λ l. Some l) (sym (take-append-drop n (drop at all)) ∙ ap (λ f. f ++ drop n (drop at all)) (sym same) ∙ ap (λ r. take n buf ++ r) (drop-drop n at all));
        position = ap (λ k. Some (record { all_bytes = all; offset = at + k })) (sym long);
        errors = omega arith;
        pauses = omega arith;
        steady = λ h. record { steady = h; errors = refl; pauses = refl };
      };
      if_empty = λ is. absurd (omega arith);
    }

-- a read of n buffered bytes from a cursor's position
pub buffered_from_cursor : (all prefix : List ℕ) (at n : ℕ) → length prefix ≡ n → prefix ≡ take n (drop at all) → ConsumedBuffered (memory_source_at all at) prefix (memory_source_at all (at + n))
buffered_from_cursor all prefix at n long is = record {
  consumes = record {
    bytes = ap (λ l. Some l) (sym (take-append-drop n (drop at all)) ∙ ap (λ f. f ++ drop n (drop at all)) (sym is) ∙ ap (λ r. prefix ++ r) (drop-drop n at all));
    position = ap (λ k. Some (record { all_bytes = all; offset = at + k })) (sym long);
    errors = omega arith;
    pauses = omega arith;
    steady = λ h. record { steady = h; errors = refl; pauses = refl };
  };
  errors = refl;
  pauses = refl;
}
