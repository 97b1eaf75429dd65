-- What some bytes start with is unique: numbers, blocks and pointers.
use Rattle.std.proofs.Common.{◌≡◌, ℕ, ℤ, ◌+◌, ◌-◌, ◌/◌, ◌%◌, ◌^◌, ◌<◌, ◌≤◌, List, take, drop, subst, refl, sym, ap, ◌∙◌, ⊎_elim, arith}
use Rattle.std.proofs.lemmas.Bool.{cases_lt}
use Rattle.std.specs.Prelude.{if◌then◌else◌, ◌==◌}
use Rattle.code_cfi.specs.Numbers.{IsLeb128, FixedAt, Uleb128At, Sleb128At, BlockAt, NoSleb128, uleb128_value, sleb128_value}
use Rattle.code_cfi.specs.Pointers.{format_code, FormatAt, EncodedAt, PointerAt, sign_extended}
use Rattle.code_cfi.specs.steps.Pointers.{NoFormat}
use Rattle.code_cfi.specs.declared.pointers.Format.{Format}
use Rattle.code_cfi.specs.declared.pointers.Format.TheVariants as formats

leb128_end : (bytes : List ℕ) (s t : ℕ) → IsLeb128 s bytes → IsLeb128 t bytes → s < t → ⊥
leb128_end bytes s t p q less =
    let some = p.some in
    let ends = p.ends in
    let more = q.continues (s - 1) (omega (arith, less, some)) in
    omega (arith, more, ends)

pub leb128_size_same : (bytes : List ℕ) (s t : ℕ) → IsLeb128 s bytes → IsLeb128 t bytes → s ≡ t
leb128_size_same bytes s t p q =
    let low : t ≤ s = ⊎_elim (λ less. absurd (leb128_end bytes s t p q less)) (λ le. le) (cases_lt s t) in
    let high : s ≤ t = ⊎_elim (λ less. absurd (leb128_end bytes t s q p less)) (λ le. le) (cases_lt t s) in
    omega (arith, low, high)

pub fixed_same : (size : ℕ) (bytes : List ℕ) (m n : ℕ) (r s : List ℕ) → FixedAt size bytes m r → FixedAt size bytes n s → (m ≡ n) × (r ≡ s)
fixed_same size bytes m n r s p q = (p.value ∙ sym q.value, p.after ∙ sym q.after)

pub uleb128_same : (bytes : List ℕ) (m n : ℕ) (r s : List ℕ) → Uleb128At bytes m r → Uleb128At bytes n s → (m ≡ n) × (r ≡ s)
uleb128_same bytes m n r s p q =
    let e = leb128_size_same bytes p.size q.size p.encoded q.encoded in
    (p.value ∙ ap (λ k. uleb128_value (take k bytes)) e ∙ sym q.value, p.after ∙ ap (λ k. drop k bytes) e ∙ sym q.after)

pub sleb128_same : (bytes : List ℕ) (m n : ℤ) (r s : List ℕ) → Sleb128At bytes m r → Sleb128At bytes n s → (m ≡ n) × (r ≡ s)
sleb128_same bytes m n r s p q =
    let e = leb128_size_same bytes p.size q.size p.encoded q.encoded in
    (p.value ∙ ap (λ k. sleb128_value (take k bytes)) e ∙ sym q.value, p.after ∙ ap (λ k. drop k bytes) e ∙ sym q.after)

pub block_same : (bytes b c r s : List ℕ) → BlockAt bytes b r → BlockAt bytes c s → (b ≡ c) × (r ≡ s)
block_same bytes b c r s p q =
    let e = uleb128_same bytes p.size q.size p.mid q.mid p.number q.number in
    let sizes = e.0 in
    let mids = e.1 in (
      p.block_is ∙ ap (λ k. take k p.mid) sizes ∙ ap (λ m. take q.size m) mids ∙ sym q.block_is,
      p.after ∙ ap (λ k. drop k p.mid) sizes ∙ ap (λ m. drop q.size m) mids ∙ sym q.after,
    )

-- formats by their codes
of_code : ℕ → Format
of_code n =
    if n == 0 then formats.Absolute else
    if n == 1 then formats.Uleb128 else
    if n == 2 then formats.Unsigned2 else
    if n == 3 then formats.Unsigned4 else
    if n == 4 then formats.Unsigned8 else
    if n == 9 then formats.Sleb128 else
    if n == 10 then formats.Signed2 else
    if n == 11 then formats.Signed4 else formats.Signed8

code_back : (f : Format) → of_code (format_code f) ≡ f
unfolding of_code
code_back formats.Absolute = refl
code_back formats.Uleb128 = refl
code_back formats.Unsigned2 = refl
code_back formats.Unsigned4 = refl
code_back formats.Unsigned8 = refl
code_back formats.Sleb128 = refl
code_back formats.Signed2 = refl
code_back formats.Signed4 = refl
code_back formats.Signed8 = refl

pub format_same : (f g : Format) (code : ℕ) → format_code f ≡ code → format_code g ≡ code → f ≡ g
format_same f g code p q = sym (code_back f) ∙ ap of_code (p ∙ sym q) ∙ code_back g

pub number_same : (f : Format) (bytes : List ℕ) (m n : ℕ) (r s : List ℕ) → FormatAt f bytes m r → FormatAt f bytes n s → (m ≡ n) × (r ≡ s)
number_same formats.Absolute bytes m n r s p q = fixed_same 8 bytes m n r s p q
number_same formats.Uleb128 bytes m n r s p q = uleb128_same bytes m n r s p q
number_same formats.Unsigned2 bytes m n r s p q = fixed_same 2 bytes m n r s p q
number_same formats.Unsigned4 bytes m n r s p q = fixed_same 4 bytes m n r s p q
number_same formats.Unsigned8 bytes m n r s p q = fixed_same 8 bytes m n r s p q
number_same formats.Sleb128 bytes m n r s p q =
    let e = sleb128_same bytes p.signed q.signed r s p.number q.number in
    let signs = e.0 in
    (rw (p.value, q.value, signs) refl, e.1)
number_same formats.Signed2 bytes m n r s p q =
    let e = fixed_same 2 bytes p.unsigned q.unsigned r s p.number q.number in
    (p.value ∙ ap (λ k. sign_extended 32768 k) e.0 ∙ sym q.value, e.1)
number_same formats.Signed4 bytes m n r s p q =
    let e = fixed_same 4 bytes p.unsigned q.unsigned r s p.number q.number in
    (p.value ∙ ap (λ k. sign_extended 2147483648 k) e.0 ∙ sym q.value, e.1)
number_same formats.Signed8 bytes m n r s p q = fixed_same 8 bytes m n r s p q

pub encoded_same : (encoding : ℕ) (bytes : List ℕ) (m n : ℕ) (r s : List ℕ) → EncodedAt encoding bytes m r → EncodedAt encoding bytes n s → (m ≡ n) × (r ≡ s)
encoded_same encoding bytes m n r s p q =
    let f = format_same p.format q.format _ p.code q.code in
    number_same q.format bytes m n r s (subst (λ (g : Format). FormatAt g bytes m r) f p.number) q.number

pub pointer_same : (encoding address : ℕ) (bytes : List ℕ) (m n : ℕ) (r s : List ℕ) → PointerAt encoding address bytes m r → PointerAt encoding address bytes n s → (m ≡ n) × (r ≡ s)
pointer_same encoding address bytes m n r s p q =
    let e = encoded_same encoding bytes p.stored q.stored r s p.number q.number in
    let stored = e.0 in
    (p.value ∙ ap (λ k. (if encoding / 16 == 0 then k else (k + address) % 2 ^ 64)) stored ∙ sym q.value, e.1)

pub no_signed_leb128 : (f : Format) (bytes : List ℕ) → f ≡ formats.Sleb128 → NoSleb128 bytes → NoFormat f bytes
no_signed_leb128 f bytes is none n rest at =
    let signed : FormatAt formats.Sleb128 bytes n rest = subst (λ (g : Format). FormatAt g bytes n rest) is at in
    none signed.signed rest signed.number
