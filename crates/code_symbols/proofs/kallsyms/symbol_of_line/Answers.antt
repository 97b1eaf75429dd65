use Rattle.std.proofs.Common.{◌≡◌, ◌-◌, ℕ, List, ◌∷◌, ◌++◌, Option, Some, None, length, take, drop, ap, sym, subst, ◌∙◌}
use Rattle.std.specs.Prelude.{IfNone}
use Rattle.std.proofs.lemmas.List.{take_rest}
use Rattle.code_symbols.specs.declared.symbol.Symbol.{Symbol}
use Rattle.code_symbols.specs.Text.{IsFieldLen}
use Rattle.code_symbols.proofs.KernelLineLemmas.{no_address, no_name, no_symbol}
use Rattle.code_symbols.proofs.kallsyms.symbol_of_line.Goals as goal

-- what holds holds where there is none
where_none : (r : Option Symbol) (P : Type 0) → P → IfNone r P
where_none None P p = p
where_none (Some x) P p = tt

-- the fields that were found
boundary : (line address : List ℕ) (at : ℕ) → line ≡ address ++ 32 ∷ drop at line → line ≡ address ++ 32 ∷ take (length line - at) (drop at line)
boundary line address at is = is ∙ ap (λ r. address ++ 32 ∷ r) (sym (take_rest line at))

pub returns-in_err-address-clause-none : goal.returns-in_err-address-clause-none
returns-in_err-address-clause-none c = where_none _ _ (no_address c.args.line.now c.args.offset c.in_err-address.ensures.none)

pub returns-then-not-is_listed-clause-none : goal.returns-then-not-is_listed-clause-none
returns-then-not-is_listed-clause-none c =
    let line : List ℕ = c.args.line.now in
    let address : List ℕ = c.in_ok-address.address.now in
    let at : ℕ = c.in_ok-address.type_at in
    no_symbol line address (take (length line - at) (drop at line)) c.args.offset c.in_ok-address.ensures.first (boundary line address at c.in_ok-address.ensures.line)
    (λ hex listed n name some. let yes = c.is_listed.ensures.1 listed in cc)

pub returns-then-name_len-eq0-clause-none : goal.returns-then-name_len-eq0-clause-none
returns-then-name_len-eq0-clause-none c =
    let line : List ℕ = c.args.line.now in
    let address : List ℕ = c.in_ok-address.address.now in
    let at : ℕ = c.in_ok-address.type_at in
    no_symbol line address (take (length line - at) (drop at line)) c.args.offset c.in_ok-address.ensures.first (boundary line address at c.in_ok-address.ensures.line)
    (λ hex listed n name some.
    let rest : List ℕ = take (length line - at) (drop at line) in
    let found : IsFieldLen (drop 2 rest) 9 0 = subst (λ k. IsFieldLen (drop 2 rest) 9 k) c.if-name_len-eq0.true (subst (λ b. IsFieldLen b 9 c.field_len-name_len.result) (take_rest rest 2) c.field_len-name_len.ensures) in
    no_name (drop 2 rest) 9 n found name some)

pub returns-in_err-hex_number-clause-none : goal.returns-in_err-hex_number-clause-none
returns-in_err-hex_number-clause-none c =
    let line : List ℕ = c.args.line.now in
    let address : List ℕ = c.in_ok-address.address.now in
    let at : ℕ = c.in_ok-address.type_at in
    where_none _ _ (no_symbol line address (take (length line - at) (drop at line)) c.args.offset c.in_ok-address.ensures.first (boundary line address at c.in_ok-address.ensures.line)
    (λ hex listed n name some. c.in_err-hex_number.ensures hex))
