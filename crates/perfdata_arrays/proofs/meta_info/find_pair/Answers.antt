use Rattle.std.proofs.Common.{subst, sym}
use Rattle.perfdata_arrays.specs.steps.MetaPairs.{FindsPair}
use Rattle.perfdata_arrays.proofs.MetaPairsLemmas.{no_value, pair_found}
use Rattle.perfdata_arrays.proofs.meta_info.find_pair.Goals as goal

pub returns-in_err-value : goal.returns-in_err-value
returns-in_err-value c =
    let key = c.in_ok-key.ensures in
    subst (FindsPair c.args.section.now c.args.offset) (sym c.from_residual-in_err-value.ensures) (no_value c.args.section.now c.args.offset c.in_ok-key.key.now key.0 key.1 c.in_err-value.ensures)

pub returns : goal.returns
returns c =
    let key = c.in_ok-key.ensures in
    let value = c.in_ok-value.ensures in
    pair_found c.args.section.now c.args.offset c.in_ok-key.key.now c.in_ok-value.value.now key.0 key.1 value.0 value.1
