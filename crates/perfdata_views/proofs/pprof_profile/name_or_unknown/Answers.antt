use Rattle.std.proofs.Common.{◌∙◌, ap, length, sym}
use Rattle.std.proofs.lemmas.Bool.Decides.{Decides-eqb}
use Rattle.perfdata_views.specs.PprofSamples.{or_unknown}
use Rattle.perfdata_views.proofs.PprofConverting.{some_length, unknown_empty, unknown_other}
use Rattle.perfdata_views.proofs.pprof_profile.name_or_unknown.Goals as goal

pub returns-then-is_empty : goal.returns-then-is_empty
returns-then-is_empty c =
    let name = c.find_name-name.result.now in
    let none = (Decides-eqb (length name) 0).0 (sym c.is_empty.ensures ∙ c.if-is_empty.true) in
    unknown_empty name none ∙ ap or_unknown c.find_name-name.ensures

pub returns-else-is_empty : goal.returns-else-is_empty
returns-else-is_empty c =
    let name = c.find_name-name.result.now in
    unknown_other name (some_length (length name) (sym c.is_empty.ensures ∙ c.if-is_empty.false)) ∙ ap or_unknown c.find_name-name.ensures
