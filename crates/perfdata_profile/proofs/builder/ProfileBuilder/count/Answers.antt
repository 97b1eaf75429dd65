use Rattle.std.proofs.Common.{◌∙◌, ap, subst, sym}
use Rattle.perfdata_profile.specs.Building.{HasKey}
use Rattle.perfdata_profile.specs.Chains.{ChainsHold}
use Rattle.perfdata_profile.specs.Locating.{CacheHolds, located_lists}
use Rattle.perfdata_profile.specs.steps.Locating.{LocatorGrows}
use Rattle.perfdata_profile.specs.SampleLists.{ListsIfSome}
use Rattle.perfdata_profile.specs.SampleSums.{TalliesSamples, entries_of}
use Rattle.perfdata_profile.specs.Samples.{applied_in}
use Rattle.perfdata_profile.specs.declared.chain_cache.ChainCache.{ChainCache}
use Rattle.perfdata_profile.specs.declared.locating.Locator.{Locator}
use Rattle.perfdata_profile.specs.declared.options.Detail.{Detail}
use Rattle.perfdata_profile.specs.declared.options.ProfileOptions.{ProfileOptions}
use Rattle.perfdata_profile.specs.declared.sums.SampleSums.{SampleSums}
use Rattle.perfdata_profile.proofs.Building.{builds_counted}
use Rattle.perfdata_profile.proofs.Listing.{on_ok_both}
use Rattle.perfdata_spaces.specs.AddressSpaces.{mapping_values}
use Rattle.perfdata_profile.proofs.builder.ProfileBuilder.count.Goals as goal

pub returns-in-Ok-clause-ok : goal.returns-in-Ok-clause-ok
returns-in-Ok-clause-ok g c = on_ok_both c.count_key.result c.count_key.ensures.ok c.count_key.ensures.list (λ tallies lists options given builds.
    let meaning = g.R.Resolver.meaning in
    let old = c.args.self.now in
    let keyed = c.key.new.self in
    let new = c.count_key.new.self in
    let mapped = mapping_values old.spaces in
    let before = applied_in given in
    let locator = sym c.count_key.ensures.locator in
    let detail = ap (λ (o : ProfileOptions). o.detail) builds.has_options in
    let held = subst (λ (d : Detail). CacheHolds meaning d mapped old.locator) (sym detail) builds.cache in
    let cache = subst (λ (d : Detail). CacheHolds meaning d mapped keyed.locator) detail (c.in-Ok.ensures.cache before builds.follows held) in
    let chains_held = subst (λ (d : Detail). ChainsHold meaning d (located_lists old.locator) before old.chains) (sym detail) builds.chains in
    let chains = subst (λ (d : Detail). ChainsHold meaning d (located_lists keyed.locator) before keyed.chains) detail (c.in-Ok.ensures.chains before builds.follows held chains_held) in
    let has = subst (λ (o : ProfileOptions). HasKey meaning (located_lists keyed.locator) o before c.args.misc c.args.sample.now c.args.weight.column c.in-Ok.key) builds.has_options (c.in-Ok.ensures.ok before builds.follows held chains_held) in
    let chains_after = subst (λ (l : Locator). ChainsHold meaning options.detail (located_lists l) before keyed.chains) locator chains in
    builds_counted meaning options given old new builds c.args.misc c.args.sample.now c.args.weight c.in-Ok.key
    (c.count_key.ensures.options ∙ c.key.ensures.options)
    (c.count_key.ensures.spaces ∙ c.key.ensures.spaces)
    (subst (LocatorGrows old.locator) locator c.key.ensures.grows)
    (subst (CacheHolds meaning options.detail mapped) locator cache)
    (subst (λ (k : ChainCache). ChainsHold meaning options.detail (located_lists new.locator) before k) (sym c.count_key.ensures.chains) chains_after)
    (subst (λ (l : Locator). HasKey meaning (located_lists l) options before c.args.misc c.args.sample.now c.args.weight.column c.in-Ok.key) locator has)
    (λ counted is. tallies counted (subst (TalliesSamples counted) (sym c.key.ensures.sums) is))
    (λ times counted is.
    let sums = subst (λ (s : SampleSums). ListsIfSome times counted (entries_of s) old.samples) (sym c.key.ensures.sums) is in
    lists times counted (subst (ListsIfSome times counted (entries_of keyed.sums)) (sym c.key.ensures.samples) sums)))
