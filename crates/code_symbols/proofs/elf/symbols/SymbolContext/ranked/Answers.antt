use Rattle.std.proofs.Common.{inl, sym, ap, ◌∙◌}
use Rattle.code_symbols.specs.ElfSymbols.{is_listed}
use Rattle.code_symbols.proofs.elf.symbols.SymbolContext.ranked.Goals as goal

pub returns-then-not-is_listed-clause-none : goal.returns-then-not-is_listed-clause-none
returns-then-not-is_listed-clause-none c =
    inl (ap (λ o. is_listed c.args.self.now c.args.symbol.now o) (sym c.section_index-section_index.ensures) ∙ sym c.if-not-is_listed.ensures.is)
