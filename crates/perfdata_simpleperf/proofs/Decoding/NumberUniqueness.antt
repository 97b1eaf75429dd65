-- A number, a key and a value at the start of bytes can be decoded in at most one way.
use Rattle.std.proofs.Common.{◌≡◌, ℕ, suc, ◌+◌, ◌*◌, ◌^◌, ◌<◌, ◌≤◌, List, [], ◌∷◌, ◌++◌, length, refl, ap, sym, ◌∙◌, subst, arith, length-append}
use Rattle.std.specs.List.{AllByRecursion}
use Rattle.std.proofs.lemmas.Nat.{pow-add}
use Rattle.perfdata_sections.specs.declared.decode_error.DecodeError.{DecodeError}
use Rattle.perfdata_sections.specs.declared.decode_error.DecodeError.TheVariants as errors
use Rattle.perfdata_simpleperf.specs.Protobuf.WireFormat.{IsVarint, TruncatedVarint, OverlongVarint, Continues, NumberAt, NumberError}

-- a decoder has at most one value and rest, or else at most one error
pub record IsUnique (X : Type 0) (At : X → List ℕ → Type 0) (IsError : DecodeError → Type 0) : Type 0 where
  pub value : (x y : X) (r s : List ℕ) → At x r → At y s → (x ≡ y) × (r ≡ s)
  pub not_both : (x : X) (r : List ℕ) (e : DecodeError) → At x r → IsError e → ⊥
  pub error : (e f : DecodeError) → IsError e → IsError f → e ≡ f

first_same : (a b : ℕ) (xs ys : List ℕ) → a ∷ xs ≡ b ∷ ys → a ≡ b
first_same a b xs ys e = cc

rest_same : (a b : ℕ) (xs ys : List ℕ) → a ∷ xs ≡ b ∷ ys → xs ≡ ys
rest_same a b xs ys e = cc

encoding_same : (s t : List ℕ) (n m : ℕ) (x y : List ℕ) → IsVarint s n → IsVarint t m → s ++ x ≡ t ++ y → (n ≡ m) × (x ≡ y)
encoding_same [] t n m x y p q e = absurd p
encoding_same (b ∷ s) [] n m x y p q e = absurd q
encoding_same (b ∷ []) (c ∷ []) n m x y p q e = (p.1 ∙ first_same b c x y e ∙ sym q.1, rest_same b c x y e)
encoding_same (b ∷ []) (c ∷ d ∷ t) n m x y p q e = let h = first_same b c x (d ∷ (t ++ y)) e in absurd (omega (arith, h, p.0, q.0))
encoding_same (b ∷ c ∷ s) (d ∷ []) n m x y p q e = let h = first_same b d (c ∷ (s ++ x)) y e in absurd (omega (arith, h, p.0, q.0))
encoding_same (b ∷ c ∷ s) (d ∷ f ∷ t) n m x y p q e =
    let h = first_same b d (c ∷ (s ++ x)) (f ∷ (t ++ y)) e in
    let r = encoding_same (c ∷ s) (f ∷ t) p.1 q.1 x y p.3 q.3 (rest_same b d (c ∷ (s ++ x)) (f ∷ (t ++ y)) e) in
    (omega (arith, h, r.0, p.2, q.2), r.1)

encoding_not_truncated : (s x : List ℕ) (n : ℕ) → IsVarint s n → AllByRecursion Continues (s ++ x) → ⊥
encoding_not_truncated [] x n p g = absurd p
encoding_not_truncated (b ∷ []) x n p g = omega (arith, p.0, g.0)
encoding_not_truncated (b ∷ c ∷ s) x n p g = encoding_not_truncated (c ∷ s) x p.1 p.3 g.1

overlong_exceeds : (prefix : List ℕ) (last : ℕ) (y s : List ℕ) (n : ℕ) (x : List ℕ) → AllByRecursion Continues prefix → 1 < last → IsVarint s n → length s ≤ length prefix + 1 → s ++ x ≡ prefix ++ last ∷ y → 2 * 128 ^ length prefix ≤ n
overlong_exceeds prefix last y [] n x g high p short e = absurd p
overlong_exceeds [] last y (b ∷ []) n x g high p short e = let h = first_same b last x y e in omega (arith, h, high, p.1)
overlong_exceeds [] last y (b ∷ c ∷ s) n x g high p short e = absurd (omega (arith, short))
overlong_exceeds (f ∷ prefix) last y (b ∷ []) n x g high p short e = let h = first_same b f x (prefix ++ last ∷ y) e in absurd (omega (arith, h, p.0, g.0))
overlong_exceeds (f ∷ prefix) last y (b ∷ c ∷ s) n x g high p short e =
    let t = rest_same b f (c ∷ (s ++ x)) (prefix ++ last ∷ y) e in
    let r = overlong_exceeds prefix last y (c ∷ s) p.1 x g.1 high p.3 (omega (arith, short)) t in
    let w : 128 ^ (suc (length prefix)) ≡ 128 * 128 ^ length prefix = ap (λ (k : ℕ). 128 ^ k) (let k : suc (length prefix) ≡ 1 + length prefix = omega arith in k) ∙ pow-add 128 1 (length prefix) in
    omega (arith, r, p.0, p.2, w)

pub number_not_overlong : (bs : List ℕ) (n : ℕ) (rest : List ℕ) → NumberAt bs n rest → OverlongVarint 10 bs → ⊥
number_not_overlong bs n rest at l =
    let nine : length l.prefix ≡ 9 = omega (arith, l.at_limit) in
    let short : length at.encoding ≤ length l.prefix + 1 = omega (arith, at.max_len, nine) in
    let high : 2 * 128 ^ length l.prefix ≤ n = overlong_exceeds l.prefix l.last l.rest at.encoding n rest l.all_continue l.exceeds_one at.encodes short (sym at.split ∙ l.split) in
    let power : 128 ^ length l.prefix ≡ 2 ^ 63 = ap (λ (k : ℕ). 128 ^ k) nine in
    omega (arith, high, power, at.in_range)

pub number_not_truncated : (bs : List ℕ) (n : ℕ) (rest : List ℕ) → NumberAt bs n rest → TruncatedVarint 10 bs → ⊥
number_not_truncated bs n rest at c = encoding_not_truncated at.encoding rest n at.encodes (subst (λ (x : List ℕ). AllByRecursion Continues x) at.split c.all_continue)

pub truncated_or_overlong : (bs : List ℕ) → TruncatedVarint 10 bs → OverlongVarint 10 bs → ⊥
truncated_or_overlong bs c l =
    let p = ap length l.split in
    let q = length-append l.prefix (l.last ∷ l.rest) in
    omega (arith, p, q, c.too_few, l.at_limit)

pub number_same : (bs : List ℕ) (n m : ℕ) (r s : List ℕ) → NumberAt bs n r → NumberAt bs m s → (n ≡ m) × (r ≡ s)
number_same bs n m r s p q = encoding_same p.encoding q.encoding n m r s p.encodes q.encodes (sym p.split ∙ q.split)

number_not_both : (bs : List ℕ) (n : ℕ) (r : List ℕ) (e : DecodeError) → NumberAt bs n r → NumberError bs e → ⊥
number_not_both bs n r errors.Truncated at f = number_not_truncated bs n r at f
number_not_both bs n r errors.Varint at f = number_not_overlong bs n r at f
number_not_both bs n r _ at f = f

number_error : (bs : List ℕ) (e f : DecodeError) → NumberError bs e → NumberError bs f → e ≡ f
number_error bs errors.Truncated errors.Truncated p q = refl
number_error bs errors.Varint errors.Varint p q = refl
number_error bs errors.Truncated errors.Varint p q = absurd (truncated_or_overlong bs p q)
number_error bs errors.Varint errors.Truncated p q = absurd (truncated_or_overlong bs q p)
number_error bs errors.Truncated _ p q = absurd q
number_error bs errors.Varint _ p q = absurd q
number_error bs _ _ p q = absurd p

pub number_is_unique : (bs : List ℕ) → IsUnique ℕ (NumberAt bs) (NumberError bs)
number_is_unique bs = record { value = number_same bs; not_both = number_not_both bs; error = number_error bs }
