use Rattle.std.proofs.Common.{ℕ, ◌≡◌, ◌+◌, List, length, sym, subst, arith}
use Rattle.code_symbols.specs.StringTable.{bytes_of}
use Rattle.code_symbols.specs.SymbolTables.{AreFlagsBefore}
use Rattle.code_symbols.proofs.SectionLemmas.{flags_more, no_section}
use Rattle.code_symbols.proofs.elf.are_text.Goals as goal

pub sections-preserved : goal.sections-preserved
sections-preserved c =
    let names : List ℕ = bytes_of c.args.names.now in
    let i : ℕ = c.sections.section-index in
    subst (λ flags. AreFlagsBefore names c.args.sections.now flags (i + 1)) (sym c.in_ok-push.ensures.items)
    (flags_more names c.args.sections.now c.sections.flags.items i no_section c.contains_str.result c.string.result.now c.sections-test.true
    c.string.ensures.is c.contains_str.ensures c.sections.invariant)

pub returns : goal.returns
returns c =
    let all : c.sections.section-index ≡ length c.args.sections.now = omega arith in
    subst (AreFlagsBefore (bytes_of c.args.names.now) c.args.sections.now c.sections.flags.items) all c.sections.invariant
