-- Common information entries (DWARF 5, section 6.4.1; the augmentations of the Linux Standard Base, section 10.6.1).
use Rattle.std.specs.Prelude.{◌≡◌, ◌≢◌, ◌⊎◌, ℕ, ◌+◌, ◌≤◌, ◌==◌, List, [], ◌∷◌, ◌++◌, length, take, Bool, true, false, ◌||◌}
use Rattle.std.specs.List.{All}
use Rattle.code_cfi.specs.Numbers.{Uleb128At, Sleb128At, BlockAt}
use Rattle.code_cfi.specs.Pointers.{EncodedAt}
use Rattle.code_cfi.specs.declared.entry.CfiEntry.{CfiEntry}
use Rattle.code_cfi.specs.declared.cie.Cie.{Cie}
use Rattle.code_cfi.specs.declared.cie.Augmentation.{Augmentation}
use Rattle.code_cfi.specs.declared.cie.Letter.{Letter}
use Rattle.code_cfi.specs.declared.cie.Letter.TheVariants as letters

-- the bytes start with a string and the zero byte that ends it
pub record StringAt (bytes string rest : List ℕ) : Type 0 where
  pub split : bytes ≡ string ++ 0 ∷ rest
  pub not_zero : All (λ b. b ≢ 0) string

-- after the string: version 4 has the size of an address, which is 8, and that of a segment selector, which is 0
pub record SizesAt (version : ℕ) (bytes rest : List ℕ) : Type 0 where
  pub sizes : version ≡ 4 → bytes ≡ 8 ∷ 0 ∷ rest
  pub none : version ≢ 4 → bytes ≡ rest

-- the number of the return address register is a byte in version 1, and an unsigned LEB128 number after it
pub record ReturnAddressAt (version : ℕ) (bytes : List ℕ) (n : ℕ) (rest : List ℕ) : Type 0 where
  pub byte : version ≡ 1 → bytes ≡ n ∷ rest
  pub number : version ≢ 1 → Uleb128At bytes n rest

-- the personality routine: an encoding, and the encoded pointer unless the encoding says that there is none
pub record PersonalityAt (bytes rest : List ℕ) : Type 0 where
  pub encoding : ℕ
  pub mid : List ℕ
  pub split : bytes ≡ encoding ∷ mid
  pub omitted : encoding ≡ 255 → rest ≡ mid
  pub stored : encoding ≢ 255 → (n : ℕ) × EncodedAt encoding mid n rest

-- the letters of an augmentation that have a meaning
abbrev pub letter_code : Letter → ℕ
letter_code letters.Language = 76
letter_code letters.Personality = 80
letter_code letters.PointerEncoding = 82
letter_code letters.SignalFrame = 83
letter_code letters.PointerKey = 66

abbrev pub is_letter : ℕ → Bool
is_letter b = (b == 76) || ((b == 80) || ((b == 82) || ((b == 83) || (b == 66))))

-- what a letter says with the data, and what data is left
abbrev pub LetterAt : Letter → List ℕ → Augmentation → Augmentation → List ℕ → Type 0
LetterAt letters.Language bytes before after rest = (after ≡ before) × (bytes ≡ take 1 bytes ++ rest) × (1 ≤ length bytes)
LetterAt letters.Personality bytes before after rest = (after ≡ before) × PersonalityAt bytes rest
LetterAt letters.PointerEncoding bytes before after rest =
    (bytes ≡ after.pointer_encoding ∷ rest) × (after ≡ record before { pointer_encoding = after.pointer_encoding })
LetterAt letters.SignalFrame bytes before after rest = (rest ≡ bytes) × (after ≡ record before { is_signal = true })
LetterAt letters.PointerKey bytes before after rest = (rest ≡ bytes) × (after ≡ before)

-- a letter with a meaning, and what it says
pub record KnownLetter (b : ℕ) (bytes : List ℕ) (before : Augmentation) (after : Augmentation) (rest : List ℕ) : Type 0 where
  pub letter : Letter
  pub code : letter_code letter ≡ b
  pub says : LetterAt letter bytes before after rest

-- what the letters say with the data, in order, up to the first that has no meaning
abbrev pub LettersAt : List ℕ → List ℕ → Augmentation → Augmentation → Type 0
LettersAt [] bytes before after = after ≡ before
LettersAt (b ∷ bs) bytes before after =
    ((is_letter b ≡ false) × (after ≡ before)) ⊎ ((mid : Augmentation) × (rest : List ℕ) × KnownLetter b bytes before mid rest × LettersAt bs rest mid after)

-- no augmentation, and one that starts with `z`
abbrev pub no_augmentation : Augmentation
no_augmentation = record { has_data = false; pointer_encoding = 0; is_signal = false }

abbrev pub some_augmentation : Augmentation
some_augmentation = record { has_data = true; pointer_encoding = 0; is_signal = false }

-- what the string says with the data, which the bytes start with if the string starts with `z`
pub record AugmentationAt (string bytes : List ℕ) (a : Augmentation) (rest : List ℕ) : Type 0 where
  pub none : string ≡ [] → (a ≡ no_augmentation) × (rest ≡ bytes)
  pub some : string ≢ [] → (letters block : List ℕ) × (string ≡ 122 ∷ letters) × BlockAt bytes block rest × LettersAt letters block some_augmentation a

-- the version and the string, and the sizes of version 4
pub record VersionAt (body : List ℕ) (version : ℕ) (string rest : List ℕ) : Type 0 where
  pub after_version : List ℕ
  pub after_string : List ℕ
  pub version_at : body ≡ version ∷ after_version
  pub known : (version ≡ 1) ⊎ (version ≡ 3) ⊎ (version ≡ 4)
  pub string_at : StringAt after_version string after_string
  pub sizes_at : SizesAt version after_string rest

-- the CIE that an entry is
pub record CieAt (e : CfiEntry) (c : Cie) : Type 0 where
  pub version : ℕ
  pub string : List ℕ
  pub after_sizes : List ℕ
  pub after_code : List ℕ
  pub after_data : List ℕ
  pub after_register : List ℕ
  pub rest : List ℕ
  pub version_at : VersionAt e.body.now version string after_sizes
  pub code_at : Uleb128At after_sizes c.code_factor after_code
  pub data_at : Sleb128At after_code c.data_factor after_data
  pub register_at : ReturnAddressAt version after_data c.return_address after_register
  pub augmentation_at : AugmentationAt string after_register c.augmentation rest
  pub offset_is : c.offset ≡ e.offset
  pub starts : c.instructions.start + length rest ≡ e.end
  pub ends : c.instructions.end ≡ e.end
