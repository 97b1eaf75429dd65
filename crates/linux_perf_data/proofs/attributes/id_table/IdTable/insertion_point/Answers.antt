use Rattle.std.proofs.Common.{◌+◌, ◌-◌, ◌/◌, ◌<◌, ◌≤◌, ap, arith}
use Rattle.linux_perf_data.specs.steps.IdPairs.{key_at}
use Rattle.linux_perf_data.proofs.IdPairLemmas.{pair_there, bisected_up, bisected_down, bisected_insertion_point}
use Rattle.linux_perf_data.proofs.attributes.id_table.IdTable.insertion_point.Goals as goal

pub halving-preserved-then-key-id : goal.halving-preserved-then-key-id
halving-preserved-then-key-id c =
    let table = c.args.self.now in
    let ps = table.pairs.items in
    let m = c.halving.low + (c.halving.high - c.halving.low) / 2 in
    let order = c.halving.invariant.order in
    let within = c.halving.invariant.within in
    let key = ap (λ p. p.0) (pair_there ps m c.index.result.now (omega arith) c.index.ensures) in
    let low : key_at ps m < c.args.id = (let less = c.if-key-id.true in omega (arith, key, less)) in
    bisected_up ps c.args.id c.halving.low c.halving.high m table.ascending (omega arith) (omega arith) low c.halving.invariant

pub halving-preserved : goal.halving-preserved
halving-preserved c =
    let table = c.args.self.now in
    let ps = table.pairs.items in
    let m = c.halving.low + (c.halving.high - c.halving.low) / 2 in
    let order = c.halving.invariant.order in
    let within = c.halving.invariant.within in
    let key = ap (λ p. p.0) (pair_there ps m c.index.result.now (omega arith) c.index.ensures) in
    let high : c.args.id ≤ key_at ps m = (let more = c.if-key-id.false in omega (arith, key, more)) in
    bisected_down ps c.args.id c.halving.low c.halving.high m table.ascending (omega arith) (omega arith) high c.halving.invariant

pub returns : goal.returns
returns c = bisected_insertion_point c.args.self.now.pairs.items c.args.id c.halving.low c.halving.high c.halving-test.false c.halving.invariant
