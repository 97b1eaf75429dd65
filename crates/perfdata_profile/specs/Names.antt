-- The names of a table.
use Rattle.std.specs.Prelude.{ℕ, List, map}
use Rattle.perfdata_profile.specs.declared.names.NameId.{NameId}
use Rattle.perfdata_profile.specs.declared.names.Names.{Names}

-- The names, by id.
abbrev pub names_of : Names → List (List ℕ)
names_of names = map (λ name. name.items) names.names.keys

abbrev pub number_of : NameId → ℕ
number_of id = id.0
