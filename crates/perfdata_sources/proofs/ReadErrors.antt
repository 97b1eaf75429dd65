-- Consequences of failed reads of an exact length.
use Rattle.std.proofs.Common.{◌≡◌, ◌≢◌, ℕ, ◌+◌, ◌≤◌, ◌++◌, List, [], ◌∷◌, length, refl, sym, ap, ◌∙◌, inl, inr, arith, length-append, Option, None, Some, drop}
use Rattle.std.specs.Prelude.{◌⊎◌}
use Rattle.std.proofs.lemmas.List.{append-nil, drop-drop}
use Rattle.std.proofs.Math.Seq.{drop-append_seam}
use Rattle.std.specs.declared.io.Error.{Error}
use Rattle.perfdata_sources.specs.Source.{State, Position, prepend, advance_by, remaining_from, all_bytes_of, RemainsFromPosition, Consumed, EndedOrPaused, SourceFailed, SourcePaused, ReadExactError, AfterSeek}
use Rattle.perfdata_sources.proofs.ConsumedLemmas.{consumed_more, consumed_none, failed_later, consumed_none_later}

none_or : (b : Option (List ℕ)) (P : Type 0) → (b ≢ Some [] → P) → (b ≡ Some []) ⊎ P
none_or None P f = inr (f (λ e. cc))
none_or (Some []) P f = inl refl
none_or (Some (x ∷ xs)) P f = inr (f (λ e. cc))

-- after a read that returned no bytes none remain, or the source paused
pub none_or_paused : (a b : State) → EndedOrPaused a b → (b.bytes ≡ Some []) ⊎ SourcePaused a b
none_or_paused a b g = none_or b.bytes (SourcePaused a b) g

-- if no bytes remain, the consumed bytes were all remaining ones
pub all_read : (a b : State) (prefix : List ℕ) → Consumed a prefix b → b.bytes ≡ Some [] → a.bytes ≡ Some prefix
all_read a b prefix consumes_it none = consumes_it.bytes ∙ ap (prepend prefix) none ∙ ap (λ l. Some l) (append-nil prefix)

pub truncated_later : (a b c : State) (prefix : List ℕ) (count whole : ℕ) (e : Error) → Consumed a prefix b → ReadExactError b count e c → length prefix + count ≤ whole → ReadExactError a whole e c
truncated_later a b c prefix count whole e before truncated fits =
    let less = truncated.too_few in
    record {
      consumed_bytes = prefix ++ truncated.consumed_bytes;
      too_few = omega (arith, length-append prefix truncated.consumed_bytes);
      consumes = consumed_more a b c prefix truncated.consumed_bytes before truncated.consumes;
      cause = elim truncated.cause [
        | inl short ↦ inl (short.0, consumed_none_later a b c prefix before short.1)
        | inr failed ↦ inr (failed_later a b c prefix before failed)
      ];
    }

-- after a read the remaining bytes are those from the new position on
at_position_more : (b : Option (List ℕ)) (p : Option Position) (prefix : List ℕ) → prepend prefix b ≡ remaining_from p → b ≡ remaining_from (advance_by (length prefix) p)
at_position_more None None prefix is = refl
at_position_more None (Some p) prefix is = cc
at_position_more (Some rest) None prefix is = cc
at_position_more (Some rest) (Some p) prefix is =
    let whole : prefix ++ rest ≡ drop p.offset p.all_bytes = cc in
    ap (λ l. Some l) (sym (drop-append_seam prefix rest) ∙ ap (drop (length prefix)) whole ∙ drop-drop (length prefix) p.offset p.all_bytes)

all_moved : (n : ℕ) (p : Option Position) → all_bytes_of (advance_by n p) ≡ all_bytes_of p
all_moved n None = refl
all_moved n (Some p) = refl

-- a read leaves all bytes unchanged
pub consumed_all : (a b : State) (prefix : List ℕ) → Consumed a prefix b → all_bytes_of b.position ≡ all_bytes_of a.position
consumed_all a b prefix consumes_it = ap all_bytes_of consumes_it.position ∙ all_moved (length prefix) a.position

-- a read satisfies `AfterSeek`: it leaves all bytes unchanged, and the remaining bytes are those from the position on
pub consumed-after_seek : (a b : State) (prefix : List ℕ) → RemainsFromPosition a → Consumed a prefix b → AfterSeek a b
consumed-after_seek a b prefix at_position consumes_it = record {
  from_position = at_position_more b.bytes a.position prefix (sym consumes_it.bytes ∙ at_position) ∙ ap remaining_from (sym consumes_it.position);
  all_bytes = consumed_all a b prefix consumes_it;
  errors = consumes_it.errors;
  pauses = consumes_it.pauses;
  steady = consumes_it.steady;
}

pub after_seek_none : (a : State) → RemainsFromPosition a → AfterSeek a a
after_seek_none a at_position = consumed-after_seek a a [] at_position (consumed_none a)

pub after_seek_more : (a b c : State) → AfterSeek a b → AfterSeek b c → AfterSeek a c
after_seek_more a b c x y = record {
  from_position = y.from_position;
  all_bytes = y.all_bytes ∙ x.all_bytes;
  errors = let p = x.errors in let q = y.errors in omega arith;
  pauses = let p = x.pauses in let q = y.pauses in omega arith;
  steady = λ h. let s = x.steady h in let t = y.steady s.steady in record { steady = t.steady; errors = t.errors ∙ s.errors; pauses = t.pauses ∙ s.pauses };
}

pub failed_after_seek : (a b c : State) → AfterSeek a b → SourceFailed b c → SourceFailed a c
failed_after_seek a b c x y = record {
  count_increases = λ low. let p = x.errors in let q = y.count_increases low in omega arith;
  not_steady = λ h. y.not_steady (x.steady h).steady;
}

pub paused_after_seek : (a b c : State) → AfterSeek a b → SourcePaused b c → SourcePaused a c
paused_after_seek a b c x y = record {
  count_increases = λ low. let p = x.pauses in let q = y.count_increases low in omega arith;
  not_steady = λ h. y.not_steady (x.steady h).steady;
}
