use Rattle.std.proofs.Common.{refl, inl, arith}
use Rattle.perfdata_sources.specs.Raw.{bytes_of}
use Rattle.perfdata_order.proofs.Blocks.{body_appended, block_unchanged, spare_kept, same_count}
use Rattle.perfdata_order.proofs.bodies.Bodies.append_to_current.Goals as goal

pub invariant_of-self : goal.invariant_of-self
invariant_of-self c =
    let old = c.args.self.now in
    let count = same_count old.blocks.items _ old.current c.index_mut.result.now c.append.new.self c.requires.0 c.index_mut.ensures.value refl in
    let reserved = old.reserved in
    record {
      spare_blocks = spare_kept old.blocks.items _ old.current c.index_mut.result.now c.append.new.self c.requires.0 c.index_mut.ensures.value refl old.current old.spare.items (inl refl) old.spare_blocks;
      reserved = omega (arith, count, reserved);
    }

pub returns-in-Ok-clause-appends : goal.returns-in-Ok-clause-appends
returns-in-Ok-clause-appends c =
    let old = c.args.self.now in
    rw c.len.ensures (body_appended old _ old.current c.index_mut.result.now c.append.new.self c.requires.0 c.index_mut.ensures.value refl (bytes_of c.args.body) c.in-Ok.end c.in-Ok.bytes c.in-Ok.ensures)

pub returns-in-Err-clause-appends : goal.returns-in-Err-clause-appends
returns-in-Err-clause-appends c =
    let old = c.args.self.now in
    block_unchanged old.blocks.items _ old.current c.index_mut.result.now c.append.new.self c.requires.0 c.index_mut.ensures.value refl c.in-Err.ensures.0 c.in-Err.ensures.1
