use Rattle.std.proofs.Common.{◌∙◌, ap, arith}
use Rattle.code_cfi.specs.declared.cie.Cie.{Cie}
use Rattle.code_cfi.proofs.UniqueFdes.{no_fde_at, size_same}
use Rattle.code_cfi.proofs.table.fde_of_entry.Goals as goal

pub returns-then-fde-eq0-clause-none : goal.returns-then-fde-eq0-clause-none
returns-then-fde-eq0-clause-none c =
    let e = c.args.entry.now in
    let cie = c.cie-cie.result in
    let found = c.in-Some-find_cie.ensures.found in
    let at_offset = ap (λ (b : Cie). b.offset) c.cie-cie.ensures ∙ found.1 cie in
    no_fde_at c.args.address c.args.cies.now e c.in-Some.offset c.in-Some-find_cie.index cie c.requires.rising c.in-Some.is found.0 c.cie-cie.ensures at_offset (λ g at some.
    let same = size_same c.args.address e cie c.in-Ok.fde g c.in-Ok.ensures.found at in
    let none = c.if-fde-eq0.true in
    omega (arith, same, none, some))

pub returns-in-Err-clause-none : goal.returns-in-Err-clause-none
returns-in-Err-clause-none c =
    let e = c.args.entry.now in
    let cie = c.cie-cie.result in
    let found = c.in-Some-find_cie.ensures.found in
    let at_offset = ap (λ (b : Cie). b.offset) c.cie-cie.ensures ∙ found.1 cie in
    no_fde_at c.args.address c.args.cies.now e c.in-Some.offset c.in-Some-find_cie.index cie c.requires.rising c.in-Some.is found.0 c.cie-cie.ensures at_offset (λ g at some. c.in-Err.ensures.none g at)
