-- Steps of private functions: common information entries (DWARF 5, section 6.4.1; the augmentations of the Linux Standard Base, section 10.6.1).
use Rattle.std.specs.Prelude.{ℕ, List}
use Rattle.code_cfi.specs.declared.entry.CfiEntry.{CfiEntry}
use Rattle.code_cfi.specs.declared.cie.Cie.{Cie}
use Rattle.code_cfi.specs.declared.cie.Augmentation.{Augmentation}
use Rattle.code_cfi.specs.declared.cie.Letter.{Letter}
use Rattle.code_cfi.specs.declared.cie.Letter.TheVariants as letters
use Rattle.code_cfi.specs.Cies.{StringAt, SizesAt, ReturnAddressAt, PersonalityAt, LetterAt, LettersAt, AugmentationAt, VersionAt, CieAt}

-- the bytes start with none of these, and the entry is no CIE: they end in it, or something in it is unknown or not supported
abbrev pub NoString : List ℕ → Type 0
NoString bytes = (string rest : List ℕ) → StringAt bytes string rest → ⊥

abbrev pub NoSizes : ℕ → List ℕ → Type 0
NoSizes version bytes = (rest : List ℕ) → SizesAt version bytes rest → ⊥

abbrev pub NoReturnAddress : ℕ → List ℕ → Type 0
NoReturnAddress version bytes = (n : ℕ) (rest : List ℕ) → ReturnAddressAt version bytes n rest → ⊥

abbrev pub NoPersonality : List ℕ → Type 0
NoPersonality bytes = (rest : List ℕ) → PersonalityAt bytes rest → ⊥

abbrev pub NoLetter : Letter → List ℕ → Augmentation → Type 0
NoLetter letter bytes before = (after : Augmentation) (rest : List ℕ) → LetterAt letter bytes before after rest → ⊥

abbrev pub NoLetters : List ℕ → List ℕ → Augmentation → Type 0
NoLetters letters bytes before = (after : Augmentation) → LettersAt letters bytes before after → ⊥

abbrev pub NoAugmentation : List ℕ → List ℕ → Type 0
NoAugmentation string bytes = (a : Augmentation) (rest : List ℕ) → AugmentationAt string bytes a rest → ⊥

abbrev pub NoVersion : List ℕ → Type 0
NoVersion body = (version : ℕ) (string rest : List ℕ) → VersionAt body version string rest → ⊥

abbrev pub NoCie : CfiEntry → Type 0
NoCie e = (c : Cie) → CieAt e c → ⊥
