use Rattle.std.proofs.Common.{◌≡◌, ◌≢◌, ◌-◌, ◌≤◌, ℕ, List, ◌∷◌, ◌++◌, length, take, drop, length-drop, Option, Some, None, arith, ap, sym, subst, ◌∙◌}
use Rattle.std.specs.Prelude.{All, IfNone}
use Rattle.std.proofs.lemmas.List.{take_rest}
use Rattle.code_symbols.specs.declared.symbol.Symbol.{Symbol}
use Rattle.code_symbols.proofs.MapLineLemmas.{HasFields, no_field, no_second_field, no_symbol}
use Rattle.code_symbols.proofs.perf_map.symbol_of_line.Goals as goal

-- what holds holds where there is none
where_none : (r : Option Symbol) (P : Type 0) → P → IfNone r P
where_none None P p = p
where_none (Some x) P p = tt

pub returns-in_err-start_digits-clause-none : goal.returns-in_err-start_digits-clause-none
returns-in_err-start_digits-clause-none c = where_none _ _ (no_field c.args.line.now c.args.offset c.in_err-start_digits.ensures.none)

pub returns-in_err-size_digits-clause-none : goal.returns-in_err-size_digits-clause-none
returns-in_err-size_digits-clause-none c =
    let line : List ℕ = c.args.line.now in
    let at : ℕ = c.in_ok-start_digits.size_at in
    where_none _ _ (no_second_field line c.in_ok-start_digits.start_digits.now (drop at line) c.args.offset c.in_ok-start_digits.ensures.first c.in_ok-start_digits.ensures.line
    (subst (All (λ b. b ≢ 32)) (take_rest line at) c.in_err-size_digits.ensures.none))

-- the fields that were found
fields : (line start size : List ℕ) (at len : ℕ) → All (λ b. b ≢ 32) start → All (λ b. b ≢ 32) size → line ≡ start ++ 32 ∷ drop at line
    → take (length line - at) (drop at line) ≡ size ++ 32 ∷ drop len (take (length line - at) (drop at line))
    → HasFields line start size (drop len (take (length line - at) (drop at line)))
fields line start size at len first second one two = record {
  first = first;
  second = second;
  is = one ∙ ap (λ r. start ++ 32 ∷ r) (sym (take_rest line at) ∙ two);
}

pub returns-then-name_at-line-clause-none : goal.returns-then-name_at-line-clause-none
returns-then-name_at-line-clause-none c =
    let line : List ℕ = c.args.line.now in
    let at : ℕ = c.in_ok-start_digits.size_at in
    let len : ℕ = c.in_ok-size_digits.size_len in
    let start : List ℕ = c.in_ok-start_digits.start_digits.now in
    let size : List ℕ = c.in_ok-size_digits.size_digits.now in
    let rest : List ℕ = take (length line - at) (drop at line) in
    let first : length rest ≡ length line - at = ap length (take_rest line at) ∙ length-drop at line in
    let second : length (drop len rest) ≡ length rest - len = length-drop len rest in
    no_symbol line start size (drop len rest) c.args.offset
    (fields line start size at len c.in_ok-start_digits.ensures.first c.in_ok-size_digits.ensures.first c.in_ok-start_digits.ensures.line c.in_ok-size_digits.ensures.line)
    (λ s some a b. omega (arith, some, first, second, c.if-name_at-line.true))

pub returns-in_err-prefixed_hex_number-clause-none : goal.returns-in_err-prefixed_hex_number-clause-none
returns-in_err-prefixed_hex_number-clause-none c =
    let line : List ℕ = c.args.line.now in
    let at : ℕ = c.in_ok-start_digits.size_at in
    let len : ℕ = c.in_ok-size_digits.size_len in
    let start : List ℕ = c.in_ok-start_digits.start_digits.now in
    let size : List ℕ = c.in_ok-size_digits.size_digits.now in
    where_none _ _ (no_symbol line start size (drop len (take (length line - at) (drop at line))) c.args.offset
    (fields line start size at len c.in_ok-start_digits.ensures.first c.in_ok-size_digits.ensures.first c.in_ok-start_digits.ensures.line c.in_ok-size_digits.ensures.line)
    (λ s some a b. c.in_err-prefixed_hex_number.ensures.none s.start a))

pub returns-in_err-prefixed_hex_number-2-clause-none : goal.returns-in_err-prefixed_hex_number-2-clause-none
returns-in_err-prefixed_hex_number-2-clause-none c =
    let line : List ℕ = c.args.line.now in
    let at : ℕ = c.in_ok-start_digits.size_at in
    let len : ℕ = c.in_ok-size_digits.size_len in
    let start : List ℕ = c.in_ok-start_digits.start_digits.now in
    let size : List ℕ = c.in_ok-size_digits.size_digits.now in
    where_none _ _ (no_symbol line start size (drop len (take (length line - at) (drop at line))) c.args.offset
    (fields line start size at len c.in_ok-start_digits.ensures.first c.in_ok-size_digits.ensures.first c.in_ok-start_digits.ensures.line c.in_ok-size_digits.ensures.line)
    (λ s some a b. c.in_err-prefixed_hex_number-2.ensures.none s.size b))

pub returns-clause-some : goal.returns-clause-some
returns-clause-some c =
    let line : List ℕ = c.args.line.now in
    let at : ℕ = c.in_ok-start_digits.size_at in
    let len : ℕ = c.in_ok-size_digits.size_len in
    let start : List ℕ = c.in_ok-start_digits.start_digits.now in
    let rest : List ℕ = take (length line - at) (drop at line) in
    let whole : rest ≡ drop at line = take_rest line at in
    let first : length rest ≡ length line - at = ap length whole ∙ length-drop at line in
    let second : length (drop len rest) ≡ length rest - len = length-drop len rest in
    let at_within : at ≤ length line = c.in_ok-start_digits.ensures.within in
    let len_within : len ≤ length rest = c.in_ok-size_digits.ensures.within in
    record {
      start_digits = start;
      size_digits = c.in_ok-size_digits.size_digits.now;
      symbol_name = drop len rest;
      start_field = c.in_ok-start_digits.ensures.first;
      size_field = c.in_ok-size_digits.ensures.first;
      line_is = c.in_ok-start_digits.ensures.line ∙ ap (λ r. start ++ 32 ∷ r) (sym whole ∙ c.in_ok-size_digits.ensures.line);
      start_is = c.in_ok-prefixed_hex_number.ensures.some;
      size_is = c.in_ok-prefixed_hex_number-2.ensures.some;
      some_name = omega (arith, first, second, at_within, len_within, c.if-name_at-line.false);
      name_from = omega (arith, first, second, at_within, len_within);
      name_to = omega arith;
    }
