use Rattle.std.proofs.Common.{◌^◌, ◌<◌, ◌≤◌, rules, arith, refl, vec_capacity}
use Rattle.linux_perf_data.proofs.ItemCalls.{advanced, item_memory}
use Rattle.linux_perf_data.proofs.records.iter.PerfRecordIter.advance_item.Goals as goal

pub returns-in-Failed-clause-advances : goal.returns-in-Failed-clause-advances
returns-in-Failed-clause-advances g c = (search rules, refl)

pub returns-in-Ended-clause-advances : goal.returns-in-Ended-clause-advances
returns-in-Ended-clause-advances g c = (search rules, refl)

pub returns-clause-advances : goal.returns-clause-advances
returns-clause-advances g c =
    let old = c.args.self.now in
    let fits : old.offset < 2 ^ 64 = omega arith in
    advanced g.R.Source.state old c.clear.new.self _ c.step.new.self c.args.perf_file.now c.step.new.perf_file c.step.result c.in-Running.is fits c.clear.ensures.items c.step.ensures.steps

pub returns-clause-memory_only_to_grow : goal.returns-clause-memory_only_to_grow
returns-clause-memory_only_to_grow g c =
    let old = c.args.self.now in
    let body = c.clear.new.self in
    let fits : old.offset < 2 ^ 64 = omega arith in
    let kept : vec_capacity old.body ≤ vec_capacity body = (let is = c.clear.ensures.capacity in omega (arith, is)) in
    item_memory g.R.Source.state old body _ c.step.new.self c.args.perf_file.now c.step.new.perf_file c.step.result c.in-Running.is fits c.clear.ensures.items kept c.step.ensures.steps
