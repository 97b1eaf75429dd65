-- A line of the kernel's list describes at most one symbol.
use Rattle.std.proofs.Common.{◌≡◌, ◌≢◌, ℕ, ◌+◌, ◌<◌, ◌≤◌, inl, inr, List, ◌∷◌, ◌++◌, length, drop, sym, subst, ap, ◌∙◌, arith, length-append}
use Rattle.std.specs.Prelude.{All}
use Rattle.std.specs.Str.Parse.{digits_value}
use Rattle.std.proofs.lemmas.Bool.{cases_lt}
use Rattle.code_symbols.specs.declared.symbol.Symbol.{Symbol}
use Rattle.code_symbols.specs.Kernel.{IsKernelLine, IsListed}
use Rattle.code_symbols.specs.Text.{IsFieldLen, IsHex}
use Rattle.code_symbols.proofs.LineLemmas.{IsUnique}
use Rattle.code_symbols.proofs.MapLineLemmas.{has_byte, same_symbol, split_unique}

no_longer : (bytes : List ℕ) (c m n : ℕ) → IsFieldLen bytes c m → IsFieldLen bytes c n → m < n → ⊥
no_longer bytes c m n x y lt = y.field m lt (x.ends (omega (arith, lt, y.within)))

-- the first field has one length
field_len_unique : (bytes : List ℕ) (c m n : ℕ) → IsFieldLen bytes c m → IsFieldLen bytes c n → m ≡ n
field_len_unique bytes c m n x y = elim (cases_lt m n) [
  | inl lt ↦ absurd (no_longer bytes c m n x y lt)
  | inr ge ↦ elim (cases_lt n m) [
    | inl lt ↦ absurd (no_longer bytes c n m y x lt)
    | inr le ↦ omega (arith, ge, le)
  ]
]

-- a line is cut at its first space
pub fields_of_line : (line a r : List ℕ) (offset : ℕ) (s : Symbol) → All (λ b. b ≢ 32) a → line ≡ a ++ 32 ∷ r → (l : IsKernelLine line offset s) → (l.address ≡ a) × (l.rest ≡ r)
fields_of_line line a r offset s field is l = split_unique 32 l.address a l.rest r l.address_field field (sym l.line_is ∙ is)

kernel_line_same : (line : List ℕ) (offset : ℕ) (s t : Symbol) → IsKernelLine line offset s → IsKernelLine line offset t → s ≡ t
kernel_line_same line offset s t l m =
    let e = fields_of_line line m.address m.rest offset s m.address_field m.line_is l in
    let long : length l.address ≡ length m.address = ap length e.0 in
    let same_len : l.name_len ≡ m.name_len = field_len_unique (drop 2 m.rest) 9 l.name_len m.name_len (subst (λ r. IsFieldLen (drop 2 r) 9 l.name_len) e.1 l.name_is) m.name_is in
    same_symbol s t
    (l.start_is ∙ ap (digits_value 16) e.0 ∙ sym m.start_is)
    (l.size_is ∙ sym m.size_is)
    (omega (arith, long, l.name_from, m.name_from))
    (omega (arith, long, same_len, l.name_from, m.name_from, l.name_to, m.name_to))

name_within : (line : List ℕ) (offset : ℕ) (s : Symbol) → IsKernelLine line offset s → (offset ≤ s.name_start) × (s.name_start < offset + length line)
name_within line offset s l =
    let long = ap length l.line_is ∙ length-append l.address (32 ∷ l.rest) in
    (omega (arith, l.name_from), omega (arith, long, l.name_from, l.listed.long))

pub kernel_lines_unique : IsUnique IsKernelLine
kernel_lines_unique = record {
  same = kernel_line_same;
  name_from = λ line offset s l. (name_within line offset s l).0;
  name_to = λ line offset s l. (name_within line offset s l).1;
}

-- a line without a space
pub no_address : (line : List ℕ) (offset : ℕ) → All (λ b. b ≢ 32) line → (s : Symbol) → ¬ IsKernelLine line offset s
no_address line offset all s l = has_byte 32 l.address l.rest line l.line_is all

-- fields that aren't those of a symbol
pub no_symbol : (line a r : List ℕ) (offset : ℕ) → All (λ b. b ≢ 32) a → line ≡ a ++ 32 ∷ r → (IsHex a → IsListed r → ((n : ℕ) → IsFieldLen (drop 2 r) 9 n → 0 < n → ⊥)) → (s : Symbol) → ¬ IsKernelLine line offset s
no_symbol line a r offset field is none s l =
    let e = fields_of_line line a r offset s field is l in
    none (subst IsHex e.0 l.hex) (subst IsListed e.1 l.listed) l.name_len (subst (λ x. IsFieldLen (drop 2 x) 9 l.name_len) e.1 l.name_is) l.some_name

-- a field of length 0 has no other length
pub no_name : (bytes : List ℕ) (c n : ℕ) → IsFieldLen bytes c 0 → IsFieldLen bytes c n → 0 < n → ⊥
no_name bytes c n x y lt = no_longer bytes c 0 n x y lt
