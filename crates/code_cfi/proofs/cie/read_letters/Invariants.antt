use Rattle.std.proofs.Common.{drop}
use Rattle.code_cfi.specs.Cies.{LettersAt, some_augmentation}
use Rattle.code_cfi.specs.declared.cie.Augmentation.{Augmentation}
use Rattle.code_cfi.proofs.cie.read_letters.Given as goal

-- what the remaining letters say after the ones read, all letters say, and the other way round
abbrev pub invariant-letters : goal.invariant-letters
invariant-letters l = record {
  leads : (a : Augmentation) → LettersAt (drop l.byte-index l.letters) l.rest l.augmentation a → LettersAt l.letters l.block some_augmentation a;
  follows : (a : Augmentation) → LettersAt l.letters l.block some_augmentation a → LettersAt (drop l.byte-index l.letters) l.rest l.augmentation a;
}
