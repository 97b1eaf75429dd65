use Rattle.std.proofs.lemmas.Result.{on_err_weaker}
use Rattle.code_cfi.proofs.UniqueCies.{no_letter_personality}
use Rattle.code_cfi.proofs.cie.read_letter.Goals as goal

pub returns-in-Personality-clause-none : goal.returns-in-Personality-clause-none
returns-in-Personality-clause-none c =
    on_err_weaker c.skip_personality.result (no_letter_personality c.args.letter c.args.bytes.now c.args.augmentation.now c.in-Personality.is) c.skip_personality.ensures.none
