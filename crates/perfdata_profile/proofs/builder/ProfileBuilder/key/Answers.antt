use Rattle.std.proofs.Common.{rules, ◌≡◌, ap, of_z, subst, sym, to_z, w32}
use Rattle.std.proofs.lemmas.Int.{to_z-of_z}
use Rattle.perfdata_profile.specs.Building.{options_of}
use Rattle.perfdata_profile.specs.steps.Building.{HasThread}
use Rattle.perfdata_profile.specs.Locating.{located_lists}
use Rattle.perfdata_profile.specs.declared.options.ProfileOptions.{ProfileOptions}
use Rattle.perfdata_profile.specs.declared.options.ThreadIds.{ThreadIds}
use Rattle.perfdata_profile.proofs.Building.{chains_kept, has_key, locator_trans}
use Rattle.perfdata_profile.proofs.Looking.{cache_grows}
use Rattle.perfdata_spaces.specs.AddressSpaces.{Follows, mapping_values}
use Rattle.perfdata_profile.proofs.builder.ProfileBuilder.key.Goals as goal

pub returns-clause-grows : goal.returns-clause-grows
returns-clause-grows g c = locator_trans c.args.self.now.locator c.stack_id.new.self.locator c.sample_thread.new.locator c.in_ok-stack.ensures.grows c.in_ok-thread.ensures.grows

pub returns-clause-cache : goal.returns-clause-cache
returns-clause-cache g c = λ before follows holds. cache_grows g.R.Resolver.meaning c.args.self.now.locator.detail (mapping_values c.args.self.now.spaces) c.stack_id.new.self.locator c.sample_thread.new.locator c.in_ok-thread.ensures.grows c.in_ok-thread.ensures.cache (c.in_ok-stack.ensures.cache before follows holds)

pub returns-clause-chains : goal.returns-clause-chains
returns-clause-chains g c = λ before follows holds chains. chains_kept g.R.Resolver.meaning (located_lists c.stack_id.new.self.locator) (located_lists c.sample_thread.new.locator) c.in_ok-thread.ensures.grows.lists c.stack_id.new.self.locator.tables.within c.args.self.now.locator.detail before c.stack_id.new.self.chains (c.in_ok-stack.ensures.chains before follows holds chains)

pub returns-clause-ok : goal.returns-clause-ok
returns-clause-ok g c = λ before follows holds chains.
    let task = c.sample_task-task.result in
    let pid : to_z w32 (of_z w32 task.pid) ≡ task.pid = to_z-of_z w32 task.pid (search rules) in
    let is = rw pid at (c.in_ok-stack.ensures.ok before follows holds chains) in
    let second = located_lists c.sample_thread.new.locator in
    let same_ids = ap (λ (o : ProfileOptions). o.thread_ids) c.in_ok-stack.ensures.options in
    let named = c.in_ok-thread.ensures.ok before (subst (Follows before) (sym c.in_ok-stack.ensures.spaces) follows) in
    let has_thread = subst (λ (ids : ThreadIds). HasThread g.R.Resolver.meaning second ids before task c.in_ok-thread.thread) same_ids named in
    has_key g.R.Resolver.meaning (options_of c.args.self.now) (located_lists c.stack_id.new.self.locator) second c.in_ok-thread.ensures.grows.lists c.stack_id.new.self.locator.tables.within c.in_ok-stack.stack before c.args.misc c.args.sample.now c.args.column task c.in_ok-thread.thread c.frames.new.frames.items c.sample_task-task.ensures (c.in_ok-frames.ensures before follows) is has_thread
