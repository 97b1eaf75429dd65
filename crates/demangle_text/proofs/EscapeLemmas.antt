-- The text of bytes with escapes, and of bytes without.
use Rattle.std.proofs.Common.{◌≡◌, ℕ, ◌<◌, ◌&&◌, Bool, false, cond, List, [], ◌∷◌, ◌++◌, length, Some, None, Option, refl, sym, ap, ◌∙◌, inl, inr, arith, eqb, encode_utf8}
use Rattle.std.specs.List.{All, slice_split, join_with_byte}
use Rattle.std.specs.Option.{option_map_or}
use Rattle.std.proofs.lemmas.List.Elements.{All-head, All-tail}
use Rattle.std.proofs.lemmas.List.Splits.{slice_split_none, slice_split_at, length-slice_split, join_with_byte-slice_split}
use Rattle.demangle_text.specs.Legacy.{is_dollar, with_colons, escaped, text_of_fields, text_of_escapes}
use Rattle.demangle_text.specs.steps.Legacy.{IsEscape, IsNoEscape}

next_field : (plain name : List ℕ) (fields : List (List ℕ)) → 0 < length fields → text_of_fields (plain ∷ (name ∷ fields)) ≡ with_colons plain ++ option_map_or (λ c. encode_utf8 c ++ text_of_fields fields) (escaped name) (36 ∷ join_with_byte 36 (name ∷ fields))
next_field plain name [] some = absurd (omega (arith, some))
next_field plain name (next ∷ fields) some = refl

-- bytes without `$`
pub text_plain : (bytes : List ℕ) → All (λ b. is_dollar b ≡ false) bytes → text_of_escapes bytes ≡ with_colons bytes
text_plain bytes none = ap text_of_fields (slice_split_none is_dollar bytes none)

split_name : (bytes rest : List ℕ) (c : Option ℕ) (e : IsEscape bytes rest c) → slice_split is_dollar bytes ≡ e.name ∷ slice_split is_dollar rest
split_name bytes rest c e = ap (slice_split is_dollar) e.split ∙ slice_split_at is_dollar e.name 36 rest e.first refl

text_name : (plain bytes rest : List ℕ) (c : Option ℕ) → All (λ b. is_dollar b ≡ false) plain → (e : IsEscape bytes rest c) → text_of_escapes (plain ++ 36 ∷ bytes) ≡ with_colons plain ++ option_map_or (λ c. encode_utf8 c ++ text_of_escapes rest) c (36 ∷ bytes)
text_name plain bytes rest c none e =
    let fields = split_name bytes rest c e in
    let joined = join_with_byte-slice_split 36 bytes in
    let some : 0 < length (slice_split is_dollar rest) = omega (arith, length-slice_split is_dollar rest) in
    ap text_of_fields (slice_split_at is_dollar plain 36 bytes none refl ∙ ap (λ (fs : List (List ℕ)). plain ∷ fs) fields)
    ∙ next_field plain e.name (slice_split is_dollar rest) some
    ∙ ap (λ (o : Option ℕ). with_colons plain ++ option_map_or (λ c. encode_utf8 c ++ text_of_escapes rest) o (36 ∷ join_with_byte 36 (e.name ∷ slice_split is_dollar rest))) e.character_is
    ∙ ap (λ (bs : List ℕ). with_colons plain ++ option_map_or (λ c. encode_utf8 c ++ text_of_escapes rest) c (36 ∷ bs)) (ap (join_with_byte 36) (sym fields) ∙ joined)

-- bytes without `$`, and an escape
pub text_escape : (plain bytes rest : List ℕ) (c : ℕ) → All (λ b. is_dollar b ≡ false) plain → IsEscape bytes rest (Some c) → text_of_escapes (plain ++ 36 ∷ bytes) ≡ with_colons plain ++ (encode_utf8 c ++ text_of_escapes rest)
text_escape plain bytes rest c none e = text_name plain bytes rest (Some c) none e

-- bytes without `$`, and a `$` that starts no escape
pub text_no_escape : (plain bytes : List ℕ) → All (λ b. is_dollar b ≡ false) plain → IsNoEscape bytes → text_of_escapes (plain ++ 36 ∷ bytes) ≡ with_colons plain ++ 36 ∷ bytes
text_no_escape plain bytes none (inl last) =
    ap text_of_fields (slice_split_at is_dollar plain 36 bytes none refl ∙ ap (λ (fs : List (List ℕ)). plain ∷ fs) (slice_split_none is_dollar bytes last))
text_no_escape plain bytes none (inr unknown) = text_name plain bytes unknown.0 None none unknown.1

colons-cons : (b : ℕ) (rest : List ℕ) → eqb b 46 ≡ false → with_colons (b ∷ rest) ≡ b ∷ with_colons rest
colons-cons b [] not = refl
colons-cons b (c ∷ rest) not =
    ap (λ (t : Bool). cond (t && eqb c 46) (58 ∷ (58 ∷ with_colons rest)) (b ∷ with_colons (c ∷ rest))) not

pub colons-append : (plain rest : List ℕ) → All (λ b. eqb b 46 ≡ false) plain → with_colons (plain ++ rest) ≡ plain ++ with_colons rest
colons-append [] rest none = refl
colons-append (b ∷ plain) rest none =
    colons-cons b (plain ++ rest) (All-head (λ b. eqb b 46 ≡ false) b plain none)
    ∙ ap (λ (xs : List ℕ). b ∷ xs) (colons-append plain rest (All-tail (λ b. eqb b 46 ≡ false) b plain none))

-- bytes without `.`
pub colons_plain : (bytes : List ℕ) → All (λ b. eqb b 46 ≡ false) bytes → with_colons bytes ≡ bytes
colons_plain [] none = refl
colons_plain (b ∷ bytes) none =
    colons-cons b bytes (All-head (λ b. eqb b 46 ≡ false) b bytes none)
    ∙ ap (λ (xs : List ℕ). b ∷ xs) (colons_plain bytes (All-tail (λ b. eqb b 46 ≡ false) b bytes none))
