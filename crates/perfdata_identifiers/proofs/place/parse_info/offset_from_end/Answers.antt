use Rattle.std.specs.Prelude.{[], ◌∷◌, Some}
use Rattle.std.proofs.Common.{sym}
use Rattle.perfdata_identifiers.proofs.WordOffsets.{from_end-asked, trailing_words-asked}
use Rattle.perfdata_identifiers.proofs.place.parse_info.offset_from_end.Goals as goal

pub returns-in-Some : goal.returns-in-Some
returns-in-Some c k e =
    rw (trailing_words-asked c.args.format.0 c.args.flags.0 (sym (c.if-not-contains.ensures tt)))
    (from_end-asked c.args.format.0 c.args.word.0 k (1 ∷ 2 ∷ 6 ∷ 9 ∷ 7 ∷ 16 ∷ []) (Some c.in-Some.index) c.word_count-count.result e c.in-Some.ensures c.word_count-count.ensures)
