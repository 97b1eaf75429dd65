-- Numbers are decoded from the start of the bytes, one byte at a time.
use Rattle.std.proofs.Common.{◌≡◌, ℕ, suc, ◌+◌, ◌*◌, ◌-◌, ◌^◌, ◌<◌, ◌≤◌, List, [], ◌∷◌, length, get_or, take, drop, refl, ap, sym, ◌∙◌, subst, arith}
use Rattle.std.proofs.Common.{lit≤, rules, drop-cons}
use Rattle.std.proofs.lemmas.List.{take_all}
use Rattle.std.proofs.lemmas.Nat.{pow-add}
use Rattle.std.proofs.Math.Nat.{pow-le-pow_right, one-le-pow}
use Rattle.perfdata_sections.specs.declared.decode_error.DecodeError.{DecodeError}
use Rattle.perfdata_sections.specs.declared.decode_error.DecodeError.TheVariants as errors
use Rattle.perfdata_simpleperf.specs.Protobuf.WireFormat.{IsVarint, VarintAt, VarintError}

-- the pattern [byte, rest @ ..]
pub first_and_rest : (bytes : List ℕ) → 1 ≤ length bytes → bytes ≡ get_or bytes 0 0 ∷ take (length bytes - 1) (drop 1 bytes)
first_and_rest [] h = absurd (omega (arith, h))
first_and_rest (b ∷ bytes) h =
    let e : suc (length bytes) - 1 ≡ length bytes = omega arith in
    let d : drop 1 (b ∷ bytes) ≡ bytes = search (rules, drop-cons) in
    ap (λ (x : List ℕ). b ∷ x) (sym (rw (e, d) (take_all (length bytes) bytes (omega arith))))

pub varint_last : (most limit b : ℕ) (rest : List ℕ) → 1 ≤ most → b < 128 → b < limit → VarintAt most limit (b ∷ rest) b rest
varint_last most limit b rest le small fits = record { encoding = b ∷ []; encodes = (small, refl); max_len = le; in_range = fits; split = refl }

encoding_more : (s : List ℕ) (high b : ℕ) → 128 ≤ b → IsVarint s high → IsVarint (b ∷ s) (high * 128 + (b - 128))
encoding_more [] high b le h = absurd h
encoding_more (c ∷ s) high b le h = (le, high, omega (arith, le), h)

pub power_more : (k : ℕ) → 2 ≤ k → 128 ^ (k - 1) ≡ 128 * 128 ^ (k - 1 - 1)
power_more k h = let e : k - 1 ≡ 1 + (k - 1 - 1) = omega arith in ap (λ (x : ℕ). 128 ^ x) e ∙ pow-add 128 1 (k - 1 - 1)

pub varint_more : (most high b : ℕ) (rest after : List ℕ) → 2 ≤ most → 128 ≤ b → b < 256 → VarintAt (most - 1) (2 * 128 ^ (most - 1 - 1)) rest high after → VarintAt most (2 * 128 ^ (most - 1)) (b ∷ rest) (high * 128 + (b - 128)) after
varint_more most high b rest after le continues fits at =
    let p = power_more most le in
    let low : high < 2 * 128 ^ (most - 1 - 1) = at.in_range in
    let short = at.max_len in
    record {
      encoding = b ∷ at.encoding;
      encodes = encoding_more at.encoding high b continues at.encodes;
      max_len = (let s : length at.encoding ≤ most - 1 = at.max_len in omega (arith, s, le));
      in_range = omega (arith, p, low, fits, continues);
      split = ap (λ (x : List ℕ). b ∷ x) at.split;
    }

pub varint_error_more : (most b : ℕ) (rest : List ℕ) (e : DecodeError) → 2 ≤ most → 128 ≤ b → VarintError (most - 1) rest e → VarintError most (b ∷ rest) e
varint_error_more most b rest errors.Truncated le continues f = record { all_continue = (continues, f.all_continue); too_few = (let s : length rest < most - 1 = f.too_few in omega (arith, s, le)) }
varint_error_more most b rest errors.Varint le continues f = record { prefix = b ∷ f.prefix; last = f.last; rest = f.rest; all_continue = (continues, f.all_continue); at_limit = (let s : length f.prefix + 1 ≡ most - 1 = f.at_limit in omega (arith, s, le)); exceeds_one = f.exceeds_one; split = ap (λ (x : List ℕ). b ∷ x) f.split }
varint_error_more most b rest errors.Key le continues f = f
varint_error_more most b rest errors.WireType le continues f = f
varint_error_more most b rest errors.Group le continues f = f
varint_error_more most b rest errors.Depth le continues f = f
varint_error_more most b rest errors.Utf8 le continues f = f
varint_error_more most b rest errors.Memory le continues f = f

-- the limit for the remaining bytes is at most the one for 9 bytes
pub power_bound : (k : ℕ) → k ≤ 9 → 128 ^ k ≤ 128 ^ 9
power_bound k h = pow-le-pow_right (lit≤ tt) h

-- `varint_last` for the values of the pattern
pub read_last : (most limit : ℕ) (bytes : List ℕ) → 1 ≤ most → 1 ≤ length bytes → get_or bytes 0 0 < 128 → get_or bytes 0 0 < limit → VarintAt most limit bytes (get_or bytes 0 0) (take (length bytes - 1) (drop 1 bytes))
read_last most limit bytes le long small fits =
    let is = first_and_rest bytes long in
    subst (λ (x : List ℕ). VarintAt most limit x (get_or bytes 0 0) (take (length bytes - 1) (drop 1 bytes))) (sym is) (varint_last most limit (get_or bytes 0 0) (take (length bytes - 1) (drop 1 bytes)) le small fits)

pub read_more : (most high : ℕ) (bytes after : List ℕ) → 2 ≤ most → 1 ≤ length bytes → 128 ≤ get_or bytes 0 0 → get_or bytes 0 0 < 256 → VarintAt (most - 1) (2 * 128 ^ (most - 1 - 1)) (take (length bytes - 1) (drop 1 bytes)) high after → VarintAt most (2 * 128 ^ (most - 1)) bytes (high * 128 + (get_or bytes 0 0 - 128)) after
read_more most high bytes after le long continues fits at =
    let is = first_and_rest bytes long in
    subst (λ (x : List ℕ). VarintAt most (2 * 128 ^ (most - 1)) x (high * 128 + (get_or bytes 0 0 - 128)) after) (sym is) (varint_more most high (get_or bytes 0 0) (take (length bytes - 1) (drop 1 bytes)) after le continues fits at)

pub read_error : (most : ℕ) (bytes : List ℕ) (e : DecodeError) → 2 ≤ most → 1 ≤ length bytes → 128 ≤ get_or bytes 0 0 → VarintError (most - 1) (take (length bytes - 1) (drop 1 bytes)) e → VarintError most bytes e
read_error most bytes e le long continues f =
    let is = first_and_rest bytes long in
    subst (λ (x : List ℕ). VarintError most x e) (sym is) (varint_error_more most (get_or bytes 0 0) (take (length bytes - 1) (drop 1 bytes)) e le continues f)

-- the value fits into 64 bits, hence the sums do
pub high_fits : (most high : ℕ) → 2 ≤ most → most ≤ 10 → high < 2 * 128 ^ (most - 1 - 1) → 128 * high + 128 ≤ 2 ^ 64
high_fits most high le ge low =
    let p = power_more most le in
    let b = power_bound (most - 1) (omega (arith, ge)) in
    let c : 128 ^ 9 ≡ 2 ^ 63 = refl in
    omega (arith, p, b, low, c)

pub small_fits : (most b : ℕ) → 2 ≤ most → b < 128 → b < 2 * 128 ^ (most - 1)
small_fits most b le small =
    let p = power_more most le in
    let one : 1 ≤ 128 ^ (most - 1 - 1) = one-le-pow _ _ (lit≤ tt) in
    omega (arith, p, one, small)
