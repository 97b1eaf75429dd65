use Rattle.std.proofs.Common.{rules, ◌≡◌, subst, Some}
use Rattle.perfdata_profile.specs.SampleLists.{ListsIfSome}
use Rattle.perfdata_profile.specs.SampleSums.{entries_of}
use Rattle.perfdata_profile.proofs.Counting.{on_ok_map}
use Rattle.perfdata_profile.proofs.builder.ProfileBuilder.count_key.Goals as goal

pub returns-clause-list : goal.returns-clause-list
returns-clause-list g c =
    let is : c.args.self.now.samples ≡ Some c.in-Some.samples = search rules in
    on_ok_map c.count_listed.result c.count_listed.ensures.list (λ lists times counted listed. lists times counted (subst (ListsIfSome times counted (entries_of c.args.self.now.sums)) is listed))
