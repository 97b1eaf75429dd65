use Rattle.std.specs.Prelude.{[], ◌∷◌, None, Some}
use Rattle.perfdata_identifiers.proofs.WordOffsets.{from_start-asked}
use Rattle.perfdata_identifiers.proofs.place.parse_info.offset_from_start.Goals as goal

pub returns-in-Some : goal.returns-in-Some
returns-in-Some c k e =
    from_start-asked c.args.format.0 c.args.word.0 k (16 ∷ 0 ∷ 1 ∷ 2 ∷ 3 ∷ 6 ∷ []) (Some c.in-Some.index) e c.in-Some.ensures

pub returns-in-None : goal.returns-in-None
returns-in-None c k e =
    from_start-asked c.args.format.0 c.args.word.0 k (16 ∷ 0 ∷ 1 ∷ 2 ∷ 3 ∷ 6 ∷ []) None e c.in-None.ensures
