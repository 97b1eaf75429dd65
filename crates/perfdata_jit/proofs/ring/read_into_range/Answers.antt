use Rattle.std.proofs.Common.{rules, ◌≡◌, ◌-◌, length, arith}
use Rattle.perfdata_jit.proofs.BufferRanges.{drop_written}
use Rattle.perfdata_jit.proofs.ring.read_into_range.Goals as goal

pub returns-clause-after : goal.returns-clause-after
returns-clause-after g c =
    let same : length c.read_front.new.place ≡ c.args.end - c.args.start = search rules in
    drop_written c.args.buffer.now.items c.deref_mut.result.now c.read_front.new.place _ c.args.start c.args.end c.args.buffer.now.len (search rules) (omega (arith, c.requires.ordered)) (omega (arith, c.requires.within)) same (search rules)
