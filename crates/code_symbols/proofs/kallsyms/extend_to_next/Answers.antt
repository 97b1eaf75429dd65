use Rattle.std.proofs.Common.{◌≡◌, ◌≤◌, ◌-◌, ◌^◌, inl, inr, arith, get_or, drop, subst}
use Rattle.code_symbols.specs.declared.symbol.Symbol.{Symbol}
use Rattle.code_symbols.specs.Kernel.{ReachNext}
use Rattle.code_symbols.proofs.KernelSizeLemmas.{end_after, extends_more, extends_none, next_end}
use Rattle.code_symbols.proofs.kallsyms.extend_to_next.Goals as goal
use Rattle.code_symbols.proofs.kallsyms.extend_to_next.Goals.{then-start-next_start, else-start-next_start}

abbrev none : Symbol
none = record { start = 0; size = 0; name_start = 0; name_end = 0 }

pub symbols-init : goal.symbols-init
symbols-init c = extends_none c.args.symbols.now

pub overflow_sub-symbols : goal.overflow_sub-symbols
overflow_sub-symbols c =
    let fits : (get_or c.symbols.symbols (c.symbols.at - 1) none).start ≤ 2 ^ 64 - 1 = omega (arith, c.symbols-test.element_fits) in
    end_after c.args.symbols.now c.symbols.symbols c.symbols.at c.symbols.end c.symbols.next_start c.if-start-next_start.end none c.requires c.symbols.invariant c.symbols-test.true fits
    (next_end c.args.symbols.now c.symbols.symbols c.symbols.at c.symbols.end c.symbols.next_start c.if-start-next_start.end none c.requires c.symbols.invariant c.symbols-test.true fits
    (elim c.if-start-next_start.branch [ then-start-next_start w ↦ inl (w.if-start-next_start.true, w.end-is) | else-start-next_start w ↦ inr (w.if-start-next_start.false, w.end-is) ]))

pub symbols-preserved : goal.symbols-preserved
symbols-preserved c =
    let fits : (get_or c.symbols.symbols (c.symbols.at - 1) none).start ≤ 2 ^ 64 - 1 = omega (arith, c.symbols-test.element_fits) in
    extends_more c.args.symbols.now c.symbols.symbols c.symbols.at c.symbols.end c.symbols.next_start c.if-start-next_start.end none c.requires c.symbols.invariant c.symbols-test.true fits
    (next_end c.args.symbols.now c.symbols.symbols c.symbols.at c.symbols.end c.symbols.next_start c.if-start-next_start.end none c.requires c.symbols.invariant c.symbols-test.true fits
    (elim c.if-start-next_start.branch [ then-start-next_start w ↦ inl (w.if-start-next_start.true, w.end-is) | else-start-next_start w ↦ inr (w.if-start-next_start.false, w.end-is) ]))

pub returns : goal.returns
returns c =
    let first : c.symbols.at ≡ 0 = omega (arith, c.symbols-test.false) in
    record {
      same = c.symbols.invariant.same;
      reach = subst (λ k. ReachNext (drop k c.symbols.symbols)) first c.symbols.invariant.reach;
    }
