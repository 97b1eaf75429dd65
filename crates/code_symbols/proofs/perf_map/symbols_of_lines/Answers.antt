use Rattle.std.proofs.Common.{◌+◌, arith, sym, subst}
use Rattle.code_symbols.specs.Text.{IsMapLine}
use Rattle.code_symbols.specs.Lines.{IsLine}
use Rattle.code_symbols.proofs.LineLemmas.{Lists, lists_push, lists_skip, lists_whole}
use Rattle.code_symbols.proofs.MapLineLemmas.{map_lines_unique}
use Rattle.code_symbols.proofs.perf_map.symbols_of_lines.Goals as goal
use Rattle.code_symbols.proofs.perf_map.symbols_of_lines.Goals.{in-Some+in_ok-push, in_default}

pub lines-preserved : goal.lines-preserved
lines-preserved c =
    let text = c.args.text.now in
    let next : IsLine text c.lines.at c.line_end-end.result = record {
      ascends = c.line_end-end.ensures.start;
      within = c.line_end-end.ensures.within;
      starts = λ some. c.lines.invariant.starts some (omega (arith, c.lines-test.true));
      one = c.line_end-end.ensures.one;
      ends = c.line_end-end.ensures.ends;
    } in
    let end = c.line_end-end.result in
    elim c.match-symbol_of_line.branch [
      | in-Some+in_ok-push w ↦
          subst (λ v. Lists IsMapLine text (end + 1) v.items) (sym w.symbols-is)
          (subst (Lists IsMapLine text (end + 1)) (sym w.in_ok-push.ensures.items)
          (lists_push IsMapLine text map_lines_unique c.lines.at end c.lines.symbols.items w.in-Some.symbol c.lines.invariant next w.in-Some.ensures.some))
      | in_default w ↦
          subst (λ v. Lists IsMapLine text (end + 1) v.items) (sym w.symbols-is)
          (lists_skip IsMapLine text c.lines.at end c.lines.symbols.items c.lines.invariant next w.in_default.ensures.none)
    ]

pub returns : goal.returns
returns c = lists_whole IsMapLine c.args.text.now map_lines_unique c.lines.at c.lines.symbols.items c.lines.invariant (omega (arith, c.lines-test.false))
