-- NULs of string tables, and where strings end.
use Rattle.std.proofs.Common.{◌≡◌, ◌≢◌, ℕ, ◌+◌, ◌-◌, ◌<◌, ◌≤◌, inl, inr, List, length, get_or, take, drop, true, false, ltb, sym, ap, ◌∙◌, arith}
use Rattle.std.specs.List.Sorted.{IsPartitionPoint}
use Rattle.std.specs.Prelude.{◌==◌, not}
use Rattle.std.specs.List.{before_first}
use Rattle.std.proofs.lemmas.Bool.{cases_lt, eq-eqb, ltb-true, lt-ltb, ne_eqb, true≢false}
use Rattle.std.proofs.lemmas.List.{get_or-drop, get_or_past, get_or_default}
use Rattle.std.proofs.lemmas.List.Sums.{prefix_len_is}
use Rattle.code_symbols.specs.Strings.{AreNuls, IsStringAt, IsStringEnd, string_in}

module _ (bytes nuls : List ℕ) (start p : ℕ) (o : AreNuls bytes nuls (length bytes)) (point : IsPartitionPoint (λ n. ltb n start ≡ true) (λ n. ltb n start ≡ false) nuls p) where
  below : (k d : ℕ) → k < p → get_or nuls k d < start
  below k d lt = ltb-true (get_or nuls k d) start (point.0 k d (omega arith) lt)

  above : (k d : ℕ) → p ≤ k → k < length nuls → start ≤ get_or nuls k d
  above k d le lt = elim (cases_lt (get_or nuls k d) start) [
    | inl less ↦ absurd (true≢false (sym (lt-ltb (get_or nuls k d) start less) ∙ point.1 k d le lt))
    | inr more ↦ more
  ]

  -- the NUL at the point
  pub end_at_nul : p < length nuls → IsStringEnd bytes start (get_or nuls p 0)
  end_at_nul lt = record {
    ascends = above p 0 (omega arith) lt;
    one = λ k low high is. o.every k (omega (arith, high, o.before p 0 lt)) is (λ j d inside same. elim (cases_lt j p) [
      | inl early ↦ omega (arith, same, low, below j d early)
      | inr late ↦ omega (arith, same, high, o.ascends p j d late inside, get_or_default nuls p 0 d lt)
    ]);
    ends = o.each p 0 lt;
  }

  -- no NUL from the offset on
  pub end_of_bytes : length nuls ≤ p → start ≤ length bytes → IsStringEnd bytes start (length bytes)
  end_of_bytes none within = record {
    ascends = within;
    one = λ k low high is. o.every k high is (λ j d inside same. omega (arith, same, low, below j d (omega (arith, none, inside))));
    ends = get_or_past bytes (length bytes) 0 (omega arith);
  }

-- the bytes before the first NUL of a list
before_nul : (xs : List ℕ) (n : ℕ) → ((k : ℕ) → k < n → get_or xs k 0 ≢ 0) → get_or xs n 0 ≡ 0 → take n xs ≡ before_first (λ b. b == 0) xs
before_nul xs n one ends =
    let within : n ≤ length xs = elim (cases_lt (length xs) n) [
      | inl past ↦ absurd (one (length xs) past (get_or_past xs (length xs) 0 (omega arith)))
      | inr le ↦ le
    ] in
    let size = prefix_len_is (λ b. not (b == 0)) xs n 0 within (λ k lt. ap not (ne_eqb (get_or xs k 0) 0 (one k lt))) (λ _. ap not (eq-eqb (get_or xs n 0) 0 ends)) in
    ap (λ k. take k xs) (sym size)

-- the string that starts at an offset is that of the definition
pub is_string_in : (bytes : List ℕ) (start : ℕ) (s : List ℕ) → IsStringAt bytes start s → s ≡ string_in bytes start
is_string_in bytes start s at =
    let n : ℕ = at.end - start in
    let last : start + n ≡ at.end = omega (arith, at.is_end.ascends) in
    at.is ∙ before_nul (drop start bytes) n
    (λ k lt zero. at.is_end.one (start + k) (omega arith) (omega (arith, lt, last)) (sym (get_or-drop start bytes k 0) ∙ zero))
    (get_or-drop start bytes n 0 ∙ ap (λ k. get_or bytes k 0) last ∙ at.is_end.ends)
