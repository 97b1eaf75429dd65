-- Symbols of the lines of a text, line by line.
use Rattle.std.proofs.Common.{◌≡◌, ℕ, ◌+◌, ◌-◌, ◌<◌, ◌≤◌, ◌⊎◌, inl, inr, List, [], ◌∷◌, ◌++◌, length, drop, get_or, subst, ap, ◌∙◌, arith}
use Rattle.std.specs.Prelude.{All, Contains, slice_range}
use Rattle.std.proofs.lemmas.Bool.{cases_lt}
use Rattle.std.proofs.lemmas.List.{get_or_append_left, get_or_push, length_push, length-drop, length-take-le}
use Rattle.std.proofs.lemmas.List.Elements.{All-push, All-weaker, Contains-append_left, Contains-push}
use Rattle.code_symbols.specs.declared.symbol.Symbol.{Symbol}
use Rattle.code_symbols.specs.Lines.{AreSymbolsOfLines, IsInTextOrder, IsLine, IsSymbolOfLine}

-- two ends of one line are one
line_end_unique : (text : List ℕ) (from a b : ℕ) → IsLine text from a → IsLine text from b → a < b → ⊥
line_end_unique text from a b x y lt = elim x.ends [
  | inl last ↦ omega (arith, last, y.within, lt)
  | inr newline ↦ y.one a x.ascends lt newline
]

pub line_end_same : (text : List ℕ) (from a b : ℕ) → IsLine text from a → IsLine text from b → a ≡ b
line_end_same text from a b x y = elim (cases_lt a b) [
  | inl lt ↦ absurd (line_end_unique text from a b x y lt)
  | inr ge ↦ elim (cases_lt b a) [
    | inl lt ↦ absurd (line_end_unique text from b a y x lt)
    | inr le ↦ omega (arith, ge, le)
  ]
]

-- a line that isn't the last one ends with a newline
newline : (text : List ℕ) (from to : ℕ) → IsLine text from to → to + 1 ≤ length text → get_or text to 0 ≡ 10
newline text from to line inside = elim line.ends [
  | inl last ↦ absurd (omega (arith, last, inside))
  | inr is ↦ is
]

-- one more symbol, whose name is after all others
pub in_order-push : (symbols : List Symbol) (s : Symbol) → IsInTextOrder symbols → All (λ t. t.name_start < s.name_start) symbols → IsInTextOrder (symbols ++ s ∷ [])
in_order-push symbols s order before i j d lt within =
    let all : length (symbols ++ s ∷ []) ≡ length symbols + 1 = length_push symbols s in
    let first : i < length symbols = omega (arith, lt, within, all) in
    let left = get_or_append_left symbols (s ∷ []) d i first in
    elim (cases_lt j (length symbols)) [
      | inl inside ↦ omega (arith, ap (λ t. t.name_start) left, ap (λ t. t.name_start) (get_or_append_left symbols (s ∷ []) d j inside), order i j d lt inside)
      | inr past ↦
          let last : length symbols ≡ j = omega (arith, past, within, all) in
          omega (arith, ap (λ t. t.name_start) left, ap (λ t. t.name_start) (get_or_push symbols s d j last), before i d first)
    ]

-- the length of a line
pub length_of_line : (text : List ℕ) (from to : ℕ) → IsLine text from to → length (slice_range text from to) ≡ to - from
length_of_line text from to line =
    let rest : length (drop from text) ≡ length text - from = length-drop from text in
    let ascends : from ≤ to = line.ascends in
    let within : to ≤ length text = line.within in
    length-take-le (to - from) (drop from text) (omega arith)

-- a line describes at most one symbol, whose name is in it
pub record IsUnique (IsSymbol : List ℕ → ℕ → Symbol → Type 0) : Type 0 where
  pub same : (line : List ℕ) (offset : ℕ) (s t : Symbol) → IsSymbol line offset s → IsSymbol line offset t → s ≡ t
  pub name_from : (line : List ℕ) (offset : ℕ) (s : Symbol) → IsSymbol line offset s → offset ≤ s.name_start
  pub name_to : (line : List ℕ) (offset : ℕ) (s : Symbol) → IsSymbol line offset s → s.name_start < offset + length line

module _ (IsSymbol : List ℕ → ℕ → Symbol → Type 0) (text : List ℕ) where
  -- the symbols of the lines before an offset, at which a line starts
  pub record Lists (at : ℕ) (symbols : List Symbol) : Type 0 where
    pub within : at ≤ length text + 1
    pub starts : 0 < at → at ≤ length text → get_or text (at - 1) 0 ≡ 10
    pub each : All (IsSymbolOfLine IsSymbol text) symbols
    pub before : All (λ s. s.name_start < at) symbols
    pub in_order : IsInTextOrder symbols
    pub every : (from to : ℕ) (s : Symbol) → IsLine text from to → from < at → IsSymbol (slice_range text from to) from s → Contains symbols s

  -- a line that starts before the end of the next one is that line, or before it
  before_or_next : (at end from to : ℕ) → IsLine text at end → IsLine text from to → from < end + 1 → (from < at) ⊎ (from ≡ at)
  before_or_next at end from to next line lt = elim (cases_lt from at) [
    | inl before ↦ inl before
    | inr after ↦ elim (cases_lt at from) [
      | inl later ↦ absurd (next.one (from - 1) (omega (arith, later)) (omega (arith, later, lt)) (line.starts (omega (arith, later))))
      | inr here ↦ inr (omega (arith, after, here))
    ]
  ]

  line_at : (at end from to : ℕ) (s : Symbol) → IsLine text at end → IsLine text from to → from ≡ at → IsSymbol (slice_range text from to) from s → IsSymbol (slice_range text at end) at s
  line_at at end from to s next line here is =
      let moved : IsLine text at to = subst (λ i. IsLine text i to) here line in
      let last : to ≡ end = line_end_same text at to end moved next in
      subst (λ j. IsSymbol (slice_range text at j) at s) last (subst (λ i. IsSymbol (slice_range text i to) i s) here is)

  -- the next line describes no symbol
  pub lists_skip : (at end : ℕ) (symbols : List Symbol) → Lists at symbols → IsLine text at end → ((s : Symbol) → ¬ IsSymbol (slice_range text at end) at s) → Lists (end + 1) symbols
  lists_skip at end symbols l next none =
      let within : end ≤ length text = next.within in
      let later : at ≤ end = next.ascends in
      let past : end + 1 - 1 ≡ end = omega arith in
      record {
        within = omega (arith, within);
        starts = λ some inside. ap (λ i. get_or text i 0) past ∙ newline text at end next inside;
        each = l.each;
        before = All-weaker (λ s. s.name_start < at) (λ s. s.name_start < end + 1) (λ s lt. omega (arith, lt, later)) symbols l.before;
        in_order = l.in_order;
        every = λ from to s line lt is. elim (before_or_next at end from to next line lt) [
          | inl before ↦ l.every from to s line before is
          | inr here ↦ absurd (none s (line_at at end from to s next line here is))
        ];
      }

  -- the next line describes a symbol
  pub lists_push : IsUnique IsSymbol → (at end : ℕ) (symbols : List Symbol) (s : Symbol) → Lists at symbols → IsLine text at end → IsSymbol (slice_range text at end) at s → Lists (end + 1) (symbols ++ s ∷ [])
  lists_push unique at end symbols s l next is =
      let within : end ≤ length text = next.within in
      let later : at ≤ end = next.ascends in
      let past : end + 1 - 1 ≡ end = omega arith in
      let long = length_of_line text at end next in
      let low : at ≤ s.name_start = unique.name_from (slice_range text at end) at s is in
      let high : s.name_start < end + 1 = omega (arith, long, unique.name_to (slice_range text at end) at s is, later) in
      record {
        within = omega (arith, within);
        starts = λ some inside. ap (λ i. get_or text i 0) past ∙ newline text at end next inside;
        each = All-push (IsSymbolOfLine IsSymbol text) symbols s l.each (record { from = at; to = end; is_line = next; is_symbol = is });
        before = All-push (λ t. t.name_start < end + 1) symbols s (All-weaker (λ t. t.name_start < at) (λ t. t.name_start < end + 1) (λ t lt. omega (arith, lt, later)) symbols l.before) high;
        in_order = in_order-push symbols s l.in_order (All-weaker (λ t. t.name_start < at) (λ t. t.name_start < s.name_start) (λ t lt. omega (arith, lt, low)) symbols l.before);
        every = λ from to t line lt other. elim (before_or_next at end from to next line lt) [
          | inl before ↦ Contains-append_left symbols (s ∷ []) t (l.every from to t line before other)
          | inr here ↦ subst (Contains (symbols ++ s ∷ [])) (unique.same (slice_range text at end) at s t is (line_at at end from to t next line here other)) (Contains-push symbols s)
        ];
      }

  -- all lines
  pub lists_whole : IsUnique IsSymbol → (at : ℕ) (symbols : List Symbol) → Lists at symbols → length text ≤ at → AreSymbolsOfLines IsSymbol text symbols
  lists_whole unique at symbols l all = record {
    each = l.each;
    every = λ s h.
        let long = length_of_line text h.from h.to h.is_line in
        let within : h.to ≤ length text = h.is_line.within in
        let low = unique.name_from (slice_range text h.from h.to) h.from s h.is_symbol in
        let high = unique.name_to (slice_range text h.from h.to) h.from s h.is_symbol in
        l.every h.from h.to s h.is_line (omega (arith, long, within, low, high, all)) h.is_symbol;
    in_order = l.in_order;
  }
