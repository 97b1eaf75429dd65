use Rattle.std.proofs.Common.{◌≡◌, ◌∷◌, [], ◌++◌, sym, subst, ◌∙◌}
use Rattle.std.specs.Prelude.{string_bytes}
use Rattle.std.specs.Option.{option_map}
use Rattle.perfdata_sections.specs.PmuMappings.{last_name, collected_name}
use Rattle.perfdata_sections.proofs.Pmus.{names_push, last_unnamed}
use Rattle.perfdata_sections.proofs.feature_sections.pmu_mappings.insert_name.Goals as goal

pub returns-in-Ok : goal.returns-in-Ok
returns-in-Ok c = λ us before q.
    subst (λ n. collected_name c.insert.new.self q ≡ last_name (us ++ (c.args.number, option_map string_bytes n) ∷ []) q) (sym c.in-Some.is)
    (names_push c.args.names.now c.insert.new.self us c.args.number c.in-Some.name before c.in-Ok.ensures.updates.0 q)

pub returns : goal.returns
returns c = λ us before q.
    subst (λ n. collected_name c.args.names.now q ≡ last_name (us ++ (c.args.number, option_map string_bytes n) ∷ []) q) (sym c.in-None.is)
    (before q ∙ sym (last_unnamed us c.args.number q))
