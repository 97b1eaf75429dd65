-- A line of a perf-PID.map file describes at most one symbol.
use Rattle.std.proofs.Common.{◌≡◌, ◌≢◌, ℕ, ◌+◌, ◌<◌, ◌≤◌, ◌⊎◌, inl, inr, List, [], ◌∷◌, ◌++◌, length, get_or, refl, sym, subst, ap, ◌∙◌, arith, length-append}
use Rattle.std.specs.Prelude.{All}
use Rattle.std.specs.Str.Parse.{digits_value}
use Rattle.std.proofs.lemmas.Bool.{cases_lt, cases_eq}
use Rattle.std.proofs.lemmas.List.{get_or_at}
use Rattle.std.proofs.lemmas.List.Elements.{All-head, All-tail}
use Rattle.code_symbols.specs.declared.symbol.Symbol.{Symbol}
use Rattle.code_symbols.specs.Text.{HasHexPrefix, IsMapLine, WritesHex}
use Rattle.code_symbols.proofs.LineLemmas.{IsUnique}

-- what is before the first byte `c`, and what is after it
pub split_unique : (c : ℕ) (a b r q : List ℕ) → All (λ x. x ≢ c) a → All (λ x. x ≢ c) b → a ++ c ∷ r ≡ b ++ c ∷ q → (a ≡ b) × (r ≡ q)
split_unique c [] [] r q ha hb e = (refl, cc)
split_unique c [] (y ∷ b) r q ha hb e = let same : y ≡ c = cc in absurd (All-head (λ x. x ≢ c) y b hb same)
split_unique c (x ∷ a) [] r q ha hb e = let same : x ≡ c = cc in absurd (All-head (λ x. x ≢ c) x a ha same)
split_unique c (x ∷ a) (y ∷ b) r q ha hb e =
    let first : x ≡ y = cc in
    let rest : a ++ c ∷ r ≡ b ++ c ∷ q = cc in
    let parts = split_unique c a b r q (All-tail (λ x. x ≢ c) x a ha) (All-tail (λ x. x ≢ c) y b hb) rest in
    let same : a ≡ b = parts.0 in
    (cc, parts.1)

-- a list with this byte isn't without it
pub has_byte : (c : ℕ) (a r line : List ℕ) → line ≡ a ++ c ∷ r → All (λ x. x ≢ c) line → ⊥
has_byte c a r line e all =
    let long = ap length e ∙ length-append a (c ∷ r) in
    all (length a) 0 (omega (arith, long)) (ap (λ l. get_or l (length a) 0) e ∙ get_or_at a c r 0 (length a) refl)

prefix_or_not : (text : List ℕ) → HasHexPrefix text ⊎ (¬ HasHexPrefix text)
prefix_or_not text = elim (cases_lt (length text) 2) [
  | inl short ↦ inr (λ h. omega (arith, short, h.two))
  | inr two ↦ elim (cases_eq (get_or text 0 0) 48) [
    | inl zero_digit ↦ elim (cases_eq (get_or text 1 0) 120) [
      | inl lower ↦ inl (record { two = two; zero = zero_digit; letter = inl lower })
      | inr not_lower ↦ elim (cases_eq (get_or text 1 0) 88) [
        | inl upper ↦ inl (record { two = two; zero = zero_digit; letter = inr upper })
        | inr not_upper ↦ inr (λ h. elim h.letter [ inl lower ↦ not_lower lower | inr upper ↦ not_upper upper ])
      ]
    ]
    | inr other ↦ inr (λ h. other h.zero)
  ]
]

-- a text writes at most one number
pub writes_unique : (text : List ℕ) (m n : ℕ) → WritesHex text m → WritesHex text n → m ≡ n
writes_unique text m n x y =
    let same : x.digits ≡ y.digits = elim (prefix_or_not text) [
      | inl has ↦ x.digits_of.after has ∙ sym (y.digits_of.after has)
      | inr not ↦ x.digits_of.whole not ∙ sym (y.digits_of.whole not)
    ] in
    x.value ∙ ap (digits_value 16) same ∙ sym y.value

-- the fields of a line
pub record HasFields (line a b n : List ℕ) : Type 0 where
  pub first : All (λ x. x ≢ 32) a
  pub second : All (λ x. x ≢ 32) b
  pub is : line ≡ a ++ 32 ∷ (b ++ 32 ∷ n)

pub fields_of : (line : List ℕ) (offset : ℕ) (s : Symbol) (l : IsMapLine line offset s) → HasFields line l.start_digits l.size_digits l.symbol_name
fields_of line offset s l = record { first = l.start_field; second = l.size_field; is = l.line_is }

pub fields_unique : (line a b n x y m : List ℕ) → HasFields line a b n → HasFields line x y m → (a ≡ x) × (b ≡ y) × (n ≡ m)
fields_unique line a b n x y m f g =
    let one = split_unique 32 a x (b ++ 32 ∷ n) (y ++ 32 ∷ m) f.first g.first (sym f.is ∙ g.is) in
    let two = split_unique 32 b y n m f.second g.second one.1 in
    (one.0, two.0, two.1)

-- two symbols with equal fields
pub same_symbol : (s t : Symbol) → s.start ≡ t.start → s.size ≡ t.size → s.name_start ≡ t.name_start → s.name_end ≡ t.name_end → s ≡ t
same_symbol s t a b c d =
    ap (λ x. record { start = x; size = s.size; name_start = s.name_start; name_end = s.name_end }) a
    ∙ ap (λ x. record { start = t.start; size = x; name_start = s.name_start; name_end = s.name_end }) b
    ∙ ap (λ x. record { start = t.start; size = t.size; name_start = x; name_end = s.name_end }) c
    ∙ ap (λ x. record { start = t.start; size = t.size; name_start = t.name_start; name_end = x }) d

map_line_same : (line : List ℕ) (offset : ℕ) (s t : Symbol) → IsMapLine line offset s → IsMapLine line offset t → s ≡ t
map_line_same line offset s t l m =
    let e = fields_unique line l.start_digits l.size_digits l.symbol_name m.start_digits m.size_digits m.symbol_name (fields_of line offset s l) (fields_of line offset t m) in
    let long : length l.symbol_name ≡ length m.symbol_name = ap length e.2 in
    same_symbol s t
    (writes_unique m.start_digits s.start t.start (subst (λ d. WritesHex d s.start) e.0 l.start_is) m.start_is)
    (writes_unique m.size_digits s.size t.size (subst (λ d. WritesHex d s.size) e.1 l.size_is) m.size_is)
    (omega (arith, long, l.name_from, m.name_from))
    (l.name_to ∙ sym m.name_to)

name_within : (line : List ℕ) (offset : ℕ) (s : Symbol) → IsMapLine line offset s → (offset ≤ s.name_start) × (s.name_start < offset + length line)
name_within line offset s l =
    let long = ap length l.line_is ∙ length-append l.start_digits (32 ∷ (l.size_digits ++ 32 ∷ l.symbol_name)) in
    let rest = length-append l.size_digits (32 ∷ l.symbol_name) in
    (omega (arith, long, rest, l.name_from), omega (arith, l.name_from, l.some_name))

pub map_lines_unique : IsUnique IsMapLine
map_lines_unique = record {
  same = map_line_same;
  name_from = λ line offset s l. (name_within line offset s l).0;
  name_to = λ line offset s l. (name_within line offset s l).1;
}

-- a line without a space
pub no_field : (line : List ℕ) (offset : ℕ) → All (λ x. x ≢ 32) line → (s : Symbol) → ¬ IsMapLine line offset s
no_field line offset all s l = has_byte 32 l.start_digits (l.size_digits ++ 32 ∷ l.symbol_name) line l.line_is all

-- a line with one field
pub no_second_field : (line a rest : List ℕ) (offset : ℕ) → All (λ x. x ≢ 32) a → line ≡ a ++ 32 ∷ rest → All (λ x. x ≢ 32) rest → (s : Symbol) → ¬ IsMapLine line offset s
no_second_field line a rest offset first is all s l =
    has_byte 32 l.size_digits l.symbol_name rest (split_unique 32 a l.start_digits rest (l.size_digits ++ 32 ∷ l.symbol_name) first l.start_field (sym is ∙ l.line_is)).1 all

-- fields that aren't those of a symbol
pub no_symbol : (line a b n : List ℕ) (offset : ℕ) → HasFields line a b n → ((s : Symbol) → 0 < length n → WritesHex a s.start → WritesHex b s.size → ⊥) → (s : Symbol) → ¬ IsMapLine line offset s
no_symbol line a b n offset f none s l =
    let e = fields_unique line l.start_digits l.size_digits l.symbol_name a b n (fields_of line offset s l) f in
    none s (subst (λ x. 0 < length x) e.2 l.some_name) (subst (λ x. WritesHex x s.start) e.0 l.start_is) (subst (λ x. WritesHex x s.size) e.1 l.size_is)
