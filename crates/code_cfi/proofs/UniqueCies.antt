-- What a CIE has is unique, and where an entry is no CIE.
use Rattle.std.proofs.Common.{◌≡◌, ℕ, ℤ, ◌+◌, ◌-◌, ◌<◌, List, [], ◌∷◌, ◌++◌, length, take, drop, get_or, suc, subst, refl, sym, ap, ◌∙◌, arith, true, false, Option, None, inl, inr, drop-cons}
use Rattle.std.specs.Prelude.{◌≢◌, All, ◌==◌, if◌then◌else◌}
use Rattle.std.specs.List.{AllWithin}
use Rattle.std.specs.Option.{MatchOption}
use Rattle.std.proofs.lemmas.Bool.{cases_eq, true≢false}
use Rattle.std.proofs.lemmas.List.{append_cancel_left, take_all}
use Rattle.std.proofs.lemmas.List.Elements.{All-tail}
use Rattle.code_cfi.specs.Numbers.{Uleb128At, Sleb128At, BlockAt, NoUleb128, NoSleb128}
use Rattle.code_cfi.specs.steps.Numbers.{NoBlock}
use Rattle.code_cfi.specs.Pointers.{EncodedAt}
use Rattle.code_cfi.specs.steps.Pointers.{NoEncoded}
use Rattle.code_cfi.specs.Cies.{StringAt, SizesAt, ReturnAddressAt, PersonalityAt, letter_code, is_letter, LetterAt, KnownLetter, LettersAt, some_augmentation, AugmentationAt, VersionAt, CieAt}
use Rattle.code_cfi.specs.steps.Cies.{NoString, NoSizes, NoReturnAddress, NoPersonality, NoLetter, NoLetters, NoAugmentation, NoVersion, NoCie}
use Rattle.code_cfi.specs.declared.entry.CfiEntry.{CfiEntry}
use Rattle.code_cfi.specs.declared.cie.Cie.{Cie}
use Rattle.code_cfi.specs.declared.cie.Augmentation.{Augmentation}
use Rattle.code_cfi.specs.declared.cie.Letter.{Letter}
use Rattle.code_cfi.specs.declared.cie.Letter.TheVariants as letters
use Rattle.code_cfi.proofs.UniqueNumbers.{encoded_same, uleb128_same, sleb128_same, block_same}

-- the parts of equal lists
head_same : (a b : ℕ) (s t : List ℕ) → a ∷ s ≡ b ∷ t → a ≡ b
head_same a b s t e = ap (λ (l : List ℕ). get_or l 0 0) e

tail_same : (a b : ℕ) (s t : List ℕ) → a ∷ s ≡ b ∷ t → s ≡ t
tail_same a b s t e = ap (λ (l : List ℕ). drop 1 l) e

not_empty : (a : ℕ) (s : List ℕ) → a ∷ s ≢ []
not_empty a s e = let sizes = ap (λ (l : List ℕ). length l) e in omega (arith, sizes)

-- strings
strings_same : (s t r q : List ℕ) → s ++ 0 ∷ r ≡ t ++ 0 ∷ q → All (λ (b : ℕ). b ≢ 0) s → All (λ (b : ℕ). b ≢ 0) t → (s ≡ t) × (r ≡ q)
strings_same [] [] r q e a b = (refl, tail_same 0 0 r q e)
strings_same [] (c ∷ t) r q e a b = absurd (b 0 0 (omega arith) (sym (head_same 0 c r (t ++ 0 ∷ q) e)))
strings_same (c ∷ s) [] r q e a b = absurd (a 0 0 (omega arith) (head_same c 0 (s ++ 0 ∷ r) q e))
strings_same (c ∷ s) (d ∷ t) r q e a b =
    let tails = strings_same s t r q (tail_same c d (s ++ 0 ∷ r) (t ++ 0 ∷ q) e) (All-tail (λ (x : ℕ). x ≢ 0) c s a) (All-tail (λ (x : ℕ). x ≢ 0) d t b) in
    (ap (λ k. k ∷ s) (head_same c d (s ++ 0 ∷ r) (t ++ 0 ∷ q) e) ∙ ap (λ (l : List ℕ). d ∷ l) tails.0, tails.1)

pub string_same : (bytes s t r q : List ℕ) → StringAt bytes s r → StringAt bytes t q → (s ≡ t) × (r ≡ q)
string_same bytes s t r q p o = strings_same s t r q (sym p.split ∙ o.split) p.not_zero o.not_zero

zero_within : (s r : List ℕ) → All (λ (b : ℕ). b ≢ 0) (s ++ 0 ∷ r) → ⊥
zero_within [] r all = all 0 0 (omega arith) refl
zero_within (c ∷ s) r all = zero_within s r (All-tail (λ (x : ℕ). x ≢ 0) c (s ++ 0 ∷ r) all)

pub no_string : (bytes : List ℕ) (found : Option ℕ) (P : ℕ → Type 0) → found ≡ None → MatchOption found (AllWithin (λ (b : ℕ). b ≢ 0) bytes 0 (length bytes)) P → NoString bytes
no_string bytes found P is first string rest at =
    let none : AllWithin (λ (b : ℕ). b ≢ 0) bytes 0 (length bytes) = subst (λ (o : Option ℕ). MatchOption o (AllWithin (λ (b : ℕ). b ≢ 0) bytes 0 (length bytes)) P) is first in
    let all : All (λ (b : ℕ). b ≢ 0) bytes = λ k d within. none k d (omega arith) within in
    zero_within string rest (subst (All (λ (b : ℕ). b ≢ 0)) at.split all)

-- sizes and the return address register
pub sizes_same : (version : ℕ) (bytes r q : List ℕ) → SizesAt version bytes r → SizesAt version bytes q → r ≡ q
sizes_same version bytes r q p o = elim (cases_eq version 4) [
  | inl is ↦ tail_same 0 0 r q (tail_same 8 8 (0 ∷ r) (0 ∷ q) (sym (p.sizes is) ∙ o.sizes is))
  | inr other ↦ sym (p.none other) ∙ o.none other
]

pub return_address_same : (version : ℕ) (bytes : List ℕ) (m n : ℕ) (r q : List ℕ) → ReturnAddressAt version bytes m r → ReturnAddressAt version bytes n q → (m ≡ n) × (r ≡ q)
return_address_same version bytes m n r q p o = elim (cases_eq version 1) [
  | inl is ↦ (let e : m ∷ r ≡ n ∷ q = sym (p.byte is) ∙ o.byte is in (head_same m n r q e, tail_same m n r q e))
  | inr other ↦ uleb128_same bytes m n r q (p.number other) (o.number other)
]

-- the personality routine
pub no_personality : (bytes : List ℕ) (encoding : ℕ) (mid : List ℕ) → bytes ≡ encoding ∷ mid → encoding ≢ 255 → NoEncoded encoding mid → NoPersonality bytes
no_personality bytes encoding mid is other none rest at =
    let e : at.encoding ∷ at.mid ≡ encoding ∷ mid = sym at.split ∙ is in
    let encodings = head_same at.encoding encoding at.mid mid e in
    let stored = at.stored (λ h. other (sym encodings ∙ h)) in
    none stored.0 rest (subst (λ k. EncodedAt k mid stored.0 rest) encodings (subst (λ (bs : List ℕ). EncodedAt at.encoding bs stored.0 rest) (tail_same at.encoding encoding at.mid mid e) stored.1))

personality_same : (bytes r q : List ℕ) → PersonalityAt bytes r → PersonalityAt bytes q → r ≡ q
personality_same bytes r q p o =
    let e : p.encoding ∷ p.mid ≡ o.encoding ∷ o.mid = sym p.split ∙ o.split in
    let encodings = head_same p.encoding o.encoding p.mid o.mid e in
    let mids = tail_same p.encoding o.encoding p.mid o.mid e in
    elim (cases_eq p.encoding 255) [
      | inl is ↦ p.omitted is ∙ mids ∙ sym (o.omitted (sym encodings ∙ is))
      | inr other ↦ (let one = p.stored other in
          let two = o.stored (λ is. other (encodings ∙ is)) in
          let moved = subst (λ k. EncodedAt k o.mid one.0 r) encodings (subst (λ (bs : List ℕ). EncodedAt p.encoding bs one.0 r) mids one.1) in
          (encoded_same o.encoding o.mid one.0 two.0 r q moved two.1).1)
    ]

-- letters by their codes
of_code : ℕ → Letter
of_code n =
    if n == 76 then letters.Language else
    if n == 80 then letters.Personality else
    if n == 82 then letters.PointerEncoding else
    if n == 83 then letters.SignalFrame else letters.PointerKey

code_back : (l : Letter) → of_code (letter_code l) ≡ l
unfolding of_code
code_back letters.Language = refl
code_back letters.Personality = refl
code_back letters.PointerEncoding = refl
code_back letters.SignalFrame = refl
code_back letters.PointerKey = refl

letter_same : (l k : Letter) (b : ℕ) → letter_code l ≡ b → letter_code k ≡ b → l ≡ k
letter_same l k b p q = sym (code_back l) ∙ ap of_code (p ∙ sym q) ∙ code_back k

code_known : (l : Letter) → is_letter (letter_code l) ≡ true
code_known letters.Language = refl
code_known letters.Personality = refl
code_known letters.PointerEncoding = refl
code_known letters.SignalFrame = refl
code_known letters.PointerKey = refl

not_unknown : (l : Letter) (b : ℕ) → letter_code l ≡ b → is_letter b ≡ false → ⊥
not_unknown l b code unknown = true≢false (sym (ap is_letter (sym code) ∙ code_known l) ∙ unknown)

-- what letters say
says_same : (l : Letter) (bytes : List ℕ) (before a c : Augmentation) (r q : List ℕ) → LetterAt l bytes before a r → LetterAt l bytes before c q → (a ≡ c) × (r ≡ q)
says_same letters.Language bytes before a c r q p o = (p.0 ∙ sym o.0, append_cancel_left (take 1 bytes) r q (sym p.1 ∙ o.1))
says_same letters.Personality bytes before a c r q p o = (p.0 ∙ sym o.0, personality_same bytes r q p.1 o.1)
says_same letters.PointerEncoding bytes before a c r q p o =
    let e : a.pointer_encoding ∷ r ≡ c.pointer_encoding ∷ q = sym p.0 ∙ o.0 in
    let encodings = head_same a.pointer_encoding c.pointer_encoding r q e in
    let with_encoding : ℕ → Augmentation = λ k. record before { pointer_encoding = k } in
    (p.1 ∙ ap with_encoding encodings ∙ sym o.1, tail_same a.pointer_encoding c.pointer_encoding r q e)
says_same letters.SignalFrame bytes before a c r q p o = (p.1 ∙ sym o.1, p.0 ∙ sym o.0)
says_same letters.PointerKey bytes before a c r q p o = (p.1 ∙ sym o.1, p.0 ∙ sym o.0)

pub no_letter_personality : (l : Letter) (bytes : List ℕ) (before : Augmentation) → l ≡ letters.Personality → NoPersonality bytes → NoLetter l bytes before
no_letter_personality l bytes before is none after rest at =
    let says : LetterAt letters.Personality bytes before after rest = subst (λ (k : Letter). LetterAt k bytes before after rest) is at in
    none rest says.1

known_same : (b : ℕ) (bytes : List ℕ) (before a c : Augmentation) (r q : List ℕ) → KnownLetter b bytes before a r → KnownLetter b bytes before c q → (a ≡ c) × (r ≡ q)
known_same b bytes before a c r q p o =
    says_same o.letter bytes before a c r q (subst (λ (l : Letter). LetterAt l bytes before a r) (letter_same p.letter o.letter b p.code o.code) p.says) o.says

letters_first : (b : ℕ) (bs bytes rest : List ℕ) (before mid a : Augmentation) → KnownLetter b bytes before mid rest → LettersAt (b ∷ bs) bytes before a → LettersAt bs rest mid a
letters_first b bs bytes rest before mid a known (inl h) = absurd (not_unknown known.letter b known.code h.0)
letters_first b bs bytes rest before mid a known (inr t) =
    let same = known_same b bytes before t.0 mid t.1 rest t.2 known in
    subst (λ (l : List ℕ). LettersAt bs l mid a) same.1 (subst (λ (m : Augmentation). LettersAt bs t.1 m a) same.0 t.3)

letters_same : (bs bytes : List ℕ) (before a c : Augmentation) → LettersAt bs bytes before a → LettersAt bs bytes before c → a ≡ c
letters_same [] bytes before a c p o = p ∙ sym o
letters_same (b ∷ bs) bytes before a c (inl p) (inl o) = p.1 ∙ sym o.1
letters_same (b ∷ bs) bytes before a c (inl p) (inr o) = absurd (not_unknown o.2.letter b o.2.code p.0)
letters_same (b ∷ bs) bytes before a c (inr p) o = letters_same bs p.1 p.0 a c p.3 (letters_first b bs bytes p.1 before p.0 c p.2 o)

no_letter_first : (b : ℕ) (bs bytes : List ℕ) (before a : Augmentation) (l : Letter) → letter_code l ≡ b → NoLetter l bytes before → LettersAt (b ∷ bs) bytes before a → ⊥
no_letter_first b bs bytes before a l code none (inl h) = not_unknown l b code h.0
no_letter_first b bs bytes before a l code none (inr t) =
    none t.0 t.1 (subst (λ (k : Letter). LetterAt k bytes before t.0 t.1) (letter_same t.2.letter l b t.2.code code) t.2.says)

-- the letters from an index on
module _ (bs : List ℕ) (i : ℕ) (bytes : List ℕ) (before : Augmentation) (l : Letter) (within : i < length bs) (code : letter_code l ≡ get_or bs i 0) where
  pub letters_after : (j : ℕ) (rest : List ℕ) (mid a : Augmentation) → suc i ≡ j → LetterAt l bytes before mid rest → LettersAt (drop i bs) bytes before a → LettersAt (drop j bs) rest mid a
  letters_after j rest mid a next says at =
      let split = subst (λ (ls : List ℕ). LettersAt ls bytes before a) (drop-cons bs i 0 within) at in
      subst (λ n. LettersAt (drop n bs) rest mid a) next
      (letters_first (get_or bs i 0) (drop (suc i) bs) bytes rest before mid a (record { letter = l; code = code; says = says }) split)

  pub letters_before : (j : ℕ) (rest : List ℕ) (mid a : Augmentation) → suc i ≡ j → LetterAt l bytes before mid rest → LettersAt (drop j bs) rest mid a → LettersAt (drop i bs) bytes before a
  letters_before j rest mid a next says at =
      subst (λ (ls : List ℕ). LettersAt ls bytes before a) (sym (drop-cons bs i 0 within))
      (inr (mid, rest, record { letter = l; code = code; says = says }, subst (λ n. LettersAt (drop n bs) rest mid a) (sym next) at))

  pub no_letters_at : NoLetter l bytes before → NoLetters (drop i bs) bytes before
  no_letters_at none a at =
      no_letter_first (get_or bs i 0) (drop (suc i) bs) bytes before a l code none (subst (λ (ls : List ℕ). LettersAt ls bytes before a) (drop-cons bs i 0 within) at)

-- augmentations
pub no_augmentation_block : (string bytes : List ℕ) → 0 < length string → NoBlock bytes → NoAugmentation string bytes
no_augmentation_block string bytes some none a rest at =
    let says = at.some (λ e. let sizes = ap (λ (l : List ℕ). length l) e in omega (arith, sizes, some)) in
    none says.1 rest says.3

pub no_augmentation_letters : (string bytes block rest : List ℕ) → 0 < length string → BlockAt bytes block rest → NoLetters (take (length string - 1) (drop 1 string)) block some_augmentation → NoAugmentation string bytes
no_augmentation_letters string bytes block rest some found none a after at =
    let says = at.some (λ e. let sizes = ap (λ (l : List ℕ). length l) e in omega (arith, sizes, some)) in
    let sizes : length string ≡ suc (length says.0) = ap (λ (l : List ℕ). length l) says.2 in
    let dropped : drop 1 string ≡ says.0 = ap (λ (l : List ℕ). drop 1 l) says.2 in
    let taken = take_all (length string - 1) says.0 (omega (arith, sizes)) in
    let same : says.0 ≡ take (length string - 1) (drop 1 string) = sym (ap (λ (l : List ℕ). take (length string - 1) l) dropped ∙ taken) in
    let blocks = (block_same bytes says.1 block after rest says.3 found).0 in
    none a (subst (λ (l : List ℕ). LettersAt l block some_augmentation a) same (subst (λ (l : List ℕ). LettersAt says.0 l some_augmentation a) blocks says.4))

pub augmentation_same : (string bytes : List ℕ) (a c : Augmentation) (r q : List ℕ) → AugmentationAt string bytes a r → AugmentationAt string bytes c q → (a ≡ c) × (r ≡ q)
augmentation_same [] bytes a c r q p o =
    let one = p.none refl in
    let two = o.none refl in
    (one.0 ∙ sym two.0, one.1 ∙ sym two.1)
augmentation_same (b ∷ s) bytes a c r q p o =
    let one = p.some (not_empty b s) in
    let two = o.some (not_empty b s) in
    let same = tail_same 122 122 one.0 two.0 (sym one.2 ∙ two.2) in
    let blocks = block_same bytes one.1 two.1 r q one.3 two.3 in
    (letters_same two.0 two.1 some_augmentation a c (subst (λ (l : List ℕ). LettersAt l two.1 some_augmentation a) same (subst (λ (l : List ℕ). LettersAt one.0 l some_augmentation a) blocks.0 one.4)) two.4, blocks.1)

-- versions
pub no_version_sizes : (body : List ℕ) (v : ℕ) (after_version string after_string : List ℕ) → body ≡ v ∷ after_version → StringAt after_version string after_string → NoSizes v after_string → NoVersion body
no_version_sizes body v after_version string after_string is string_at none w t q at =
    let e : w ∷ at.after_version ≡ v ∷ after_version = sym at.version_at ∙ is in
    let strings = string_same after_version t string at.after_string after_string (subst (λ (l : List ℕ). StringAt l t at.after_string) (tail_same w v at.after_version after_version e) at.string_at) string_at in
    none q (subst (λ (l : List ℕ). SizesAt v l q) strings.1 (subst (λ k. SizesAt k at.after_string q) (head_same w v at.after_version after_version e) at.sizes_at))

pub version_same : (body : List ℕ) (v w : ℕ) (s t r q : List ℕ) → VersionAt body v s r → VersionAt body w t q → (v ≡ w) × (s ≡ t) × (r ≡ q)
version_same body v w s t r q p o =
    let e : v ∷ p.after_version ≡ w ∷ o.after_version = sym p.version_at ∙ o.version_at in
    let versions = head_same v w p.after_version o.after_version e in
    let strings = string_same o.after_version s t p.after_string o.after_string (subst (λ (l : List ℕ). StringAt l s p.after_string) (tail_same v w p.after_version o.after_version e) p.string_at) o.string_at in
    let sizes = sizes_same w o.after_string r q (subst (λ (l : List ℕ). SizesAt w l r) strings.1 (subst (λ k. SizesAt k p.after_string r) versions p.sizes_at)) o.sizes_at in
    (versions, strings.0, sizes)

-- CIEs
module _ (e : CfiEntry) (v : ℕ) (string sizes : List ℕ) (version_at : VersionAt e.body.now v string sizes) where
  versions : (c : Cie) (at : CieAt e c) → (at.version ≡ v) × (at.string ≡ string) × (at.after_sizes ≡ sizes)
  versions c at = version_same e.body.now at.version v at.string string at.after_sizes sizes at.version_at version_at

  code_at : (c : Cie) (at : CieAt e c) → Uleb128At sizes c.code_factor at.after_code
  code_at c at = subst (λ (l : List ℕ). Uleb128At l c.code_factor at.after_code) (versions c at).2 at.code_at

  pub no_cie_code : NoUleb128 sizes → NoCie e
  no_cie_code none c at = none c.code_factor at.after_code (code_at c at)

  module _ (code : ℕ) (after_code : List ℕ) (found_code : Uleb128At sizes code after_code) where
    codes : (c : Cie) (at : CieAt e c) → (c.code_factor ≡ code) × (at.after_code ≡ after_code)
    codes c at = uleb128_same sizes c.code_factor code at.after_code after_code (code_at c at) found_code

    data_at : (c : Cie) (at : CieAt e c) → Sleb128At after_code c.data_factor at.after_data
    data_at c at = subst (λ (l : List ℕ). Sleb128At l c.data_factor at.after_data) (codes c at).1 at.data_at

    pub no_cie_data : NoSleb128 after_code → NoCie e
    no_cie_data none c at = none c.data_factor at.after_data (data_at c at)

    module _ (factor : ℤ) (after_data : List ℕ) (found_data : Sleb128At after_code factor after_data) where
      factors : (c : Cie) (at : CieAt e c) → (c.data_factor ≡ factor) × (at.after_data ≡ after_data)
      factors c at = sleb128_same after_code c.data_factor factor at.after_data after_data (data_at c at) found_data

      register_at : (c : Cie) (at : CieAt e c) → ReturnAddressAt v after_data c.return_address at.after_register
      register_at c at = subst (λ (l : List ℕ). ReturnAddressAt v l c.return_address at.after_register) (factors c at).1
          (subst (λ k. ReturnAddressAt k at.after_data c.return_address at.after_register) (versions c at).0 at.register_at)

      pub no_cie_register : NoReturnAddress v after_data → NoCie e
      no_cie_register none c at = none c.return_address at.after_register (register_at c at)

      module _ (register : ℕ) (after_register : List ℕ) (found_register : ReturnAddressAt v after_data register after_register) where
        registers : (c : Cie) (at : CieAt e c) → (c.return_address ≡ register) × (at.after_register ≡ after_register)
        registers c at = return_address_same v after_data c.return_address register at.after_register after_register (register_at c at) found_register

        augmentation_at : (c : Cie) (at : CieAt e c) → AugmentationAt string after_register c.augmentation at.rest
        augmentation_at c at = subst (λ (l : List ℕ). AugmentationAt string l c.augmentation at.rest) (registers c at).1
            (subst (λ (l : List ℕ). AugmentationAt l at.after_register c.augmentation at.rest) (versions c at).1 at.augmentation_at)

        pub no_cie_augmentation : NoAugmentation string after_register → NoCie e
        no_cie_augmentation none c at = none c.augmentation at.rest (augmentation_at c at)

        module _ (d : Cie) (rest : List ℕ) (found_rest : AugmentationAt string after_register d.augmentation rest) (code_is : d.code_factor ≡ code) (factor_is : d.data_factor ≡ factor) (register_is : d.return_address ≡ register)
            (offset_is : d.offset ≡ e.offset) (starts : d.instructions.start + length rest ≡ e.end) (ends : d.instructions.end ≡ e.end) where
          cie_is : (c : Cie) → CieAt e c → c ≡ d
          cie_is c at =
              let augmentations = augmentation_same string after_register c.augmentation d.augmentation at.rest rest (augmentation_at c at) found_rest in
              let one = at.starts in
              let left = ap (λ (l : List ℕ). length l) augmentations.1 in
              let offsets : c.offset ≡ d.offset = at.offset_is ∙ sym offset_is in
              let code_same : c.code_factor ≡ d.code_factor = (codes c at).0 ∙ sym code_is in
              let factor_same : c.data_factor ≡ d.data_factor = (factors c at).0 ∙ sym factor_is in
              let register_same : c.return_address ≡ d.return_address = (registers c at).0 ∙ sym register_is in
              let start_same : c.instructions.start ≡ d.instructions.start = omega (arith, one, starts, left) in
              let end_same : c.instructions.end ≡ d.instructions.end = at.ends ∙ sym ends in
              let augmentation_is : c.augmentation ≡ d.augmentation = augmentations.0 in
              λ i. record {
                offset = offsets i;
                code_factor = code_same i;
                data_factor = factor_same i;
                return_address = register_same i;
                augmentation = augmentation_is i;
                instructions = record { start = start_same i; end = end_same i };
              }

pub cie_same : (e : CfiEntry) (c d : Cie) → CieAt e c → CieAt e d → c ≡ d
cie_same e c d p q =
    cie_is e q.version q.string q.after_sizes q.version_at d.code_factor q.after_code q.code_at d.data_factor q.after_data q.data_at d.return_address q.after_register q.register_at
    d q.rest q.augmentation_at refl refl refl q.offset_is q.starts q.ends c p
