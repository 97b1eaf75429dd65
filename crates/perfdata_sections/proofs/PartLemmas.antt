-- From the bytes that were read of a part to the part, or to the error.
use Rattle.std.proofs.Common.{◌≡◌, ℕ, ◌+◌, ◌<◌, List, ◌++◌, length, drop, refl, sym, ap, ◌∙◌, inl, inr, arith, length-append}
use Rattle.std.proofs.Math.Seq.{drop-append_seam}
use Rattle.std.proofs.lemmas.List.{drop-drop}
use Rattle.std.specs.declared.io.Error.{Error}
use Rattle.perfdata_sources.specs.Source.{State, Consumed, ReadExactError}
use Rattle.perfdata_sources.proofs.ConsumedLemmas.{consumed_more, consumed_none_later, failed_later}
use Rattle.perfdata_sources.proofs.Numbers.{ReadsFirst}
use Rattle.perfdata_sections.specs.ParsedPart.{PartRead, PartReadError}
use Rattle.perfdata_sections.specs.NumberSections.{IsClockSection, IsTruncatedClock}
use Rattle.perfdata_sections.specs.declared.feature_sections.number_sections.ClockData.{ClockData}

-- the bytes `n` bytes after a prefix
pub drop_after : (k n : ℕ) (prefix rest : List ℕ) → length prefix ≡ k → drop (k + n) (prefix ++ rest) ≡ drop n rest
drop_after k n prefix rest long =
    sym (drop-drop n k (prefix ++ rest)) ∙ ap (λ m. drop n (drop m (prefix ++ rest))) (sym long) ∙ ap (drop n) (drop-append_seam prefix rest)

pub drop_prefix : (k : ℕ) (prefix rest : List ℕ) → length prefix ≡ k → drop k (prefix ++ rest) ≡ rest
drop_prefix k prefix rest long = ap (λ m. drop m (prefix ++ rest)) (sym long) ∙ drop-append_seam prefix rest

-- a prefix was read, and the bytes after it are truncated
pub stopped_after : (IsTruncated : List ℕ → Type 0) (a b c : State) (prefix : List ℕ) (count : ℕ) (e : Error) → Consumed a prefix b → ReadExactError b count e c
    → ((part : List ℕ) → length part < count → IsTruncated (prefix ++ part)) → PartReadError IsTruncated a e c
stopped_after IsTruncated a b c prefix count e before read_error too_few = record {
  bytes = prefix ++ read_error.consumed_bytes;
  is_truncated = too_few read_error.consumed_bytes read_error.too_few;
  consumes = consumed_more a b c prefix read_error.consumed_bytes before read_error.consumes;
  cause = elim read_error.cause [
    | inl short ↦ inl (short.0, consumed_none_later a b c prefix before short.1)
    | inr failed ↦ inr (failed_later a b c prefix before failed)
  ];
}

module _ (number : ℕ → List ℕ → ℕ) (first : ReadsFirst number) where
  pub clock_rest_truncated : (a b c : State) (version : List ℕ) (count : ℕ) (e : Error) → length version ≡ 4 → number 4 version ≡ 1 → count ≡ 20 → Consumed a version b → ReadExactError b count e c
      → PartReadError (IsTruncatedClock number) a e c
  clock_rest_truncated a b c version count e long one all before read_error =
      stopped_after (IsTruncatedClock number) a b c version count e before read_error (λ part too_few. (
        omega (arith, length-append version part),
        λ _. first 4 version part (omega arith) ∙ one,
      ))

  pub clock_read : (a b c : State) (version rest : List ℕ) (d : ClockData) → length version ≡ 4 → length rest ≡ 20 → number 4 version ≡ 1 → Consumed a version b → Consumed b rest c
      → d ≡ record { clockid = number 4 rest; wall_clock_ns = number 8 (drop 4 rest); clockid_time_ns = number 8 (drop 12 rest) } → PartRead (IsClockSection number) a d c
  clock_read a b c version rest d long long_rest one before consumed is = record {
    bytes = version ++ rest;
    consumes = consumed_more a b c version rest before consumed;
    matches = (
      omega (arith, length-append version rest),
      first 4 version rest (omega arith) ∙ one,
      is ∙ sym (rw (drop_prefix 4 version rest long, drop_after 4 4 version rest long, drop_after 4 12 version rest long) refl),
    );
  }
