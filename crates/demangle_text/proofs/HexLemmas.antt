-- Hexadecimal digits, the number that they write, and its character.
use Rattle.std.proofs.Common.{◌≡◌, ◌⊎◌, ℕ, ◌+◌, ◌-◌, ◌*◌, ◌^◌, ◌<◌, ◌≤◌, ◌&&◌, Bool, true, false, cond, List, Option, Some, None, length, get_or, take, refl, sym, ap, ◌∙◌, subst, inl, inr, arith}
use Rattle.std.specs.Char.{digit_value}
use Rattle.std.specs.List.{All, list_all}
use Rattle.std.specs.Option.{SomeIff}
use Rattle.std.proofs.lemmas.List.{take_all}
use Rattle.std.specs.Str.Parse.{digits_value}
use Rattle.std.proofs.lemmas.Bool.Decides.{Decides-by_and}
use Rattle.std.specs.Bool.{Decides}
use Rattle.std.proofs.lemmas.Int.Digits.{digits_value_more}
use Rattle.std.proofs.lemmas.List.Elements.{All-get_or, All-more}
use Rattle.std.proofs.lemmas.Str.Parse.{digits_value-take-le}
use Rattle.demangle_text.specs.Legacy.{IsHexDigit, hex_character, is_hex_digit, is_visible}
use Rattle.demangle_text.specs.steps.Legacy.{IsVisible}

pub hex_step : (ds : List ℕ) (i number next : ℕ) → i < length ds → All IsHexDigit (take i ds) → number ≡ digits_value 16 (take i ds) → IsHexDigit (get_or ds i 0) → next ≡ number * 16 + digit_value (get_or ds i 0) → All IsHexDigit (take (i + 1) ds) × (next ≡ digits_value 16 (take (i + 1) ds))
hex_step ds i number next lt all value is next_is =
    (All-more IsHexDigit ds i 0 lt all is, omega (arith, digits_value_more 16 ds i lt, value, next_is))

pub hex_stop : (ds : List ℕ) (i number : ℕ) → i < length ds → number ≡ digits_value 16 (take i ds) → (¬ (IsHexDigit (get_or ds i 0) × (number * 16 + digit_value (get_or ds i 0) < 2 ^ 64))) → ¬ (All IsHexDigit ds × (digits_value 16 ds < 2 ^ 64))
hex_stop ds i number lt value not all =
    not (All-get_or IsHexDigit ds i 0 lt all.0, omega (arith, digits_value_more 16 ds i lt, value, digits_value-take-le 16 ds (i + 1) (omega arith), all.1))

hex_digit_cases : (b : ℕ) → ((is_hex_digit b ≡ true) × IsHexDigit b) ⊎ ((is_hex_digit b ≡ false) × (¬ IsHexDigit b))
hex_digit_cases b = grind (arith)

decides_digit : (b : ℕ) → Decides (is_hex_digit b) (IsHexDigit b)
decides_digit b = elim (hex_digit_cases b) [
  | inl digit ↦ (λ e. digit.1, λ e. digit.0)
  | inr other ↦ (λ e. absurd (cc), λ e. absurd (other.1 e))
]

pub decides_digits : (ds : List ℕ) → Decides (list_all is_hex_digit ds) (All IsHexDigit ds)
decides_digits ds = Decides-by_and is_hex_digit IsHexDigit (list_all is_hex_digit) decides_digit refl (λ _ _. refl) ds

pub visible_cases : (c : ℕ) → ((is_visible c ≡ true) × IsVisible c) ⊎ ((is_visible c ≡ false) × (¬ IsVisible c))
visible_cases c = grind (arith)

chosen : (a b : Bool) (v : ℕ) → (a ≡ true) → (b ≡ true) → cond (a && b) (Some v) None ≡ Some v
chosen true true v p q = refl
chosen true false v p q = cc
chosen false b v p q = cc

not_chosen : (a b : Bool) (v : ℕ) → ((a ≡ true) → (b ≡ true) → ⊥) → cond (a && b) (Some v) None ≡ None
not_chosen true true v never = absurd (never refl refl)
not_chosen true false v never = refl
not_chosen false b v never = refl

pub hex_some : (ds : List ℕ) → All IsHexDigit ds → IsVisible (digits_value 16 ds) → hex_character ds ≡ Some (digits_value 16 ds)
unfolding hex_character
hex_some ds all is =
    chosen (list_all is_hex_digit ds) (is_visible (digits_value 16 ds)) (digits_value 16 ds) ((decides_digits ds).1 all) (elim (visible_cases (digits_value 16 ds)) [ inl seen ↦ seen.0 | inr hidden ↦ absurd (hidden.1 is) ])

pub hex_none : (ds : List ℕ) → (All IsHexDigit ds → IsVisible (digits_value 16 ds) → ⊥) → hex_character ds ≡ None
unfolding hex_character
hex_none ds never =
    not_chosen (list_all is_hex_digit ds) (is_visible (digits_value 16 ds)) (digits_value 16 ds) (λ a b. never ((decides_digits ds).0 a) (elim (visible_cases (digits_value 16 ds)) [ inl seen ↦ seen.1 | inr hidden ↦ absurd (cc) ]))

-- a number of a character is below 2^64
pub visible_small : (c : ℕ) → IsVisible c → c < 2 ^ 64
visible_small c is = elim is.1 [ inl low ↦ omega (arith, low) | inr high ↦ omega (arith, high.1) ]

-- the number of all digits
pub hex_whole : (ds : List ℕ) (i number : ℕ) → length ds ≤ i → All IsHexDigit (take i ds) → number ≡ digits_value 16 (take i ds) → number < 2 ^ 64 → (All IsHexDigit ds × (digits_value 16 ds < 2 ^ 64)) × (number ≡ digits_value 16 ds)
hex_whole ds i number end all value small =
    let same = take_all i ds end in
    let total : number ≡ digits_value 16 ds = value ∙ ap (digits_value 16) same in
    ((subst (All IsHexDigit) same all, subst (λ (n : ℕ). n < 2 ^ 64) total small), total)

-- the character of a number that digits write
pub visible_is : (ds : List ℕ) (number : ℕ) (r : Option ℕ) → All IsHexDigit ds → number ≡ digits_value 16 ds → SomeIff r (IsVisible number) number → r ≡ hex_character ds
visible_is ds number (Some c) all value is =
    ap Some (is.1 ∙ value) ∙ sym (hex_some ds all (subst IsVisible value is.0))
visible_is ds number None all value is = sym (hex_none ds (λ _ seen. is (subst IsVisible (sym value) seen)))
