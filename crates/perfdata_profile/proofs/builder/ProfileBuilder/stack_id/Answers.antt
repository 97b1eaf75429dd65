use Rattle.std.proofs.Common.{rules, ◌≡◌, ◌∙◌, ap, List, of_z, inl, inr, refl, subst, sym, to_z, true, w32}
use Rattle.std.proofs.lemmas.Int.{to_z-of_z}
use Rattle.perfdata_profile.specs.Chains.{ChainValue, ChainsHold, IsStackOf}
use Rattle.perfdata_profile.specs.Locating.{located_lists}
use Rattle.perfdata_profile.specs.steps.Chains.{AddsChain}
use Rattle.perfdata_profile.specs.declared.chain_cache.ChainCache.{ChainCache}
use Rattle.perfdata_profile.proofs.Building.{chains_added, chains_kept}
use Rattle.perfdata_stacks.specs.declared.frames.SampleFrame.{SampleFrame}
use Rattle.perfdata_profile.proofs.builder.ProfileBuilder.stack_id.Goals as goal

pub returns-in-Some-clause-ok : goal.returns-in-Some-clause-ok
returns-in-Some-clause-ok g c = λ before follows holds chains.
    let pid : to_z w32 (of_z w32 c.args.origin.pid) ≡ c.args.origin.pid = to_z-of_z w32 c.args.origin.pid (search rules) in
    let found = rw pid at c.in-Some.ensures in
    let is = chains found.0 _ found.1 c.args.origin.time in
    subst (λ (frames : List SampleFrame). IsStackOf g.R.Resolver.meaning c.args.self.now.locator.detail (located_lists c.args.self.now.locator) before c.args.origin.pid c.args.origin.time frames c.in-Some.id) c.as_slice.ensures.value is

pub returns-in-Some-clause-chains : goal.returns-in-Some-clause-chains
returns-in-Some-clause-chains g c = λ before follows holds chains. chains

pub returns-then-not-new-clause-chains : goal.returns-then-not-new-clause-chains
returns-then-not-new-clause-chains g c = λ before follows holds chains.
    let meaning = g.R.Resolver.meaning in
    let detail = c.args.self.now.locator.detail in
    let lists = located_lists c.new_stack.new.self.locator in
    let kept = chains_kept meaning (located_lists c.args.self.now.locator) lists c.in_ok-new.ensures.grows.lists c.args.self.now.locator.tables.within detail before c.args.self.now.chains chains in
    subst (λ (k : ChainCache). ChainsHold meaning detail lists before k) (sym c.in_ok-new.ensures.chains) kept

pub returns-then-not-new-clause-ok : goal.returns-then-not-new-clause-ok
returns-then-not-new-clause-ok g c = λ before follows holds chains. c.in_ok-new.ensures.ok before follows holds c.args.origin.time (inr refl)

pub returns-clause-ok : goal.returns-clause-ok
returns-clause-ok g c = λ before follows holds chains. c.in_ok-new.ensures.ok before follows holds c.args.origin.time (inr refl)

pub returns-clause-chains : goal.returns-clause-chains
returns-clause-chains g c = λ before follows holds chains.
    let meaning = g.R.Resolver.meaning in
    let detail = c.args.self.now.locator.detail in
    let lists = located_lists c.new_stack.new.self.locator in
    let pid : to_z w32 (of_z w32 c.args.origin.pid) ≡ c.args.origin.pid = to_z-of_z w32 c.args.origin.pid (search rules) in
    let fixed : c.in_ok-new.new.is_fixed ≡ true = search rules in
    let kept = chains_kept meaning (located_lists c.args.self.now.locator) lists c.in_ok-new.ensures.grows.lists c.args.self.now.locator.tables.within detail before c.args.self.now.chains chains in
    let holds_before = subst (λ (k : ChainCache). ChainsHold meaning detail lists before k) (sym c.in_ok-new.ensures.chains) kept in
    let frames : c.as_slice-2.result.now ≡ c.args.self.now.frames.items = c.as_slice-2.ensures.value ∙ ap (λ v. v.items) c.in_ok-new.ensures.frames in
    let chain : ChainValue = record { pid = c.args.origin.pid; frames = c.args.self.now.frames.items; id = c.in_ok-new.new.id } in
    let adds : AddsChain c.new_stack.new.self.chains chain c.insert.new.self = subst (λ (fs : List SampleFrame). AddsChain c.new_stack.new.self.chains (record { pid = c.args.origin.pid; frames = fs; id = c.in_ok-new.new.id }) c.insert.new.self) frames (rw pid at c.in_ok-insert.ensures) in
    chains_added meaning lists detail before c.new_stack.new.self.chains c.insert.new.self chain adds holds_before (λ time. c.in_ok-new.ensures.ok before follows holds time (inl fixed))
