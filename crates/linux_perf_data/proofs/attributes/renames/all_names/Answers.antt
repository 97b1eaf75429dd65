use Rattle.std.proofs.Common.{arith, inl}
use Rattle.linux_perf_data.proofs.RenameLemmas.{below_more, below_none}
use Rattle.linux_perf_data.proofs.attributes.renames.all_names.Goals as goal

pub attributes-init : goal.attributes-init
attributes-init c = below_none c.args.attributes.now c.args.table.now c.new-renames.result.items c.new-renames.ensures.items

pub attributes-preserved : goal.attributes-preserved
attributes-preserved c = below_more c.args.attributes.now c.args.table.now c.attributes.index c.attributes.renames.items c.push_rename.new.renames.items c.attributes-test.true c.attributes.invariant c.in_ok-push_rename.ensures

pub returns : goal.returns
returns c = (c.attributes.invariant.valid, λ k less. inl (c.attributes.invariant.renamed k (let end = c.attributes-test.false in omega (arith, less, end))))
