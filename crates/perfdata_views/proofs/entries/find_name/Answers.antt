use Rattle.std.proofs.Common.{◌∙◌, [], List, ℕ, Option, ap}
use Rattle.std.proofs.lemmas.Option.{unwrap_or-slice_get}
use Rattle.std.specs.Option.{unwrap_or}
use Rattle.perfdata_profile.specs.Names.{names_of, number_of}
use Rattle.perfdata_views.proofs.entries.find_name.Goals as goal

pub returns-in-None : goal.returns-in-None
returns-in-None c = ap (λ (o : Option (List ℕ)). unwrap_or o []) c.in-None.ensures ∙ unwrap_or-slice_get (names_of c.args.tables.now.names) (number_of c.args.id) []
