-- The rows of line programs, and the states from which they are read again.
use Rattle.std.proofs.Common.{◌≡◌, ℕ, zero, suc, ◌+◌, ◌-◌, ◌<◌, ◌≤◌, List, [], ◌∷◌, ◌++◌, length, take, drop, Bool, true, false, Option, Some, None, refl, sym, ap, ◌∙◌, subst, inl, inr, arith, append_assoc, length-drop, length-append}
use Rattle.std.specs.Prelude.{All, nat_lt, nat_le, ◌||◌, ◌&&◌, not, slice_range, if◌then◌else◌}
use Rattle.std.specs.List.{AllZip, Contains, filter}
use Rattle.std.proofs.lemmas.Bool.{cases_lt}
use Rattle.std.proofs.lemmas.Bool.Decides.{nat_tests}
use Rattle.std.proofs.lemmas.List.{drop-drop, drop_all, drop-append-le, take-append-le, append-nil}
use Rattle.std.proofs.lemmas.List.Elements.{All-nil, All-cons}
use Rattle.code_cfi.specs.Numbers.{Uleb128At}
use Rattle.code_dwarf.specs.steps.LineInstructions.{OperandsAt, StandardAt, ExtendedAt, InstructionAt, NoInstruction}
use Rattle.code_dwarf.specs.steps.LineMachine.{after, effect_of}
use Rattle.code_dwarf.specs.steps.LineRows.{Sequence, Progress, Reads, stepped, moved, descends, last_row, rows_count, counts, counted, first_address, LastRow, is_code_range}
use Rattle.code_dwarf.specs.steps.LineReaders.{row_of, Yields, IsWithin, IsBefore, BeginsWith, Notes, notes_count, first_after, descends_after}
use Rattle.code_dwarf.specs.declared.line_header.LineHeader.{LineHeader}
use Rattle.code_dwarf.specs.declared.line_instruction.LineInstruction.{LineInstruction}
use Rattle.code_dwarf.specs.declared.line_instruction.LineInstruction.TheVariants as instructions
use Rattle.code_dwarf.specs.declared.line_instruction.Registers.{Registers}
use Rattle.code_dwarf.specs.declared.line_instruction.RowEffect.{RowEffect}
use Rattle.code_dwarf.specs.declared.line_instruction.RowEffect.TheVariants as effects
use Rattle.code_dwarf.specs.declared.line_program.Checkpoint.{Checkpoint}
use Rattle.code_dwarf.specs.declared.ranges.AddressRange.{AddressRange}
use Rattle.code_dwarf.proofs.LineInstructionLemmas.{instruction_same}

-- what follows an instruction is the end of the bytes
abbrev pub Suffix : List ℕ → List ℕ → Type 0
Suffix rest bytes = (k : ℕ) × (rest ≡ drop k bytes)

pub suffix_more : (rest mid bytes : List ℕ) → Suffix rest mid → Suffix mid bytes → Suffix rest bytes
suffix_more rest mid bytes p q = (q.0 + p.0, p.1 ∙ ap (λ (l : List ℕ). drop p.0 l) q.1 ∙ drop-drop p.0 q.0 bytes)

whole_suffix : (rest bytes : List ℕ) → rest ≡ bytes → Suffix rest bytes
whole_suffix rest bytes is = (0, is)

operands_suffix : (count : ℕ) (bytes rest : List ℕ) → OperandsAt count bytes rest → Suffix rest bytes
operands_suffix zero bytes rest at = whole_suffix rest bytes at
operands_suffix (suc count) bytes rest (n, mid, first, more) = suffix_more rest mid bytes (operands_suffix count mid rest more) (first.size, first.after)

standard_suffix : (h : LineHeader) (op : ℕ) (bytes : List ℕ) (i : LineInstruction) (rest : List ℕ) → StandardAt h op bytes i rest → Suffix rest bytes
standard_suffix h op bytes instructions.Copy rest at = whole_suffix rest bytes at.1
standard_suffix h op bytes (instructions.AdvanceAddress n) rest at = (at.1.size, at.1.after)
standard_suffix h op bytes (instructions.AdvanceLine z) rest at = (at.1.size, at.1.after)
standard_suffix h op bytes (instructions.SetFile n) rest at = (at.1.size, at.1.after)
standard_suffix h op bytes (instructions.SetColumn n) rest at = (at.1.size, at.1.after)
standard_suffix h op bytes instructions.AdvanceByLast rest at = whole_suffix rest bytes at.1
standard_suffix h op bytes (instructions.AdvanceFixed n) rest at = (2, at.1.after)
standard_suffix h op bytes instructions.Other rest (inl at) = whole_suffix rest bytes at.1
standard_suffix h op bytes instructions.Other rest (inr at) = (at.1.1.size, at.1.1.after)
standard_suffix h op bytes _ rest at = absurd at

extended_suffix : (h : LineHeader) (bytes : List ℕ) (i : LineInstruction) (rest : List ℕ) → ExtendedAt h bytes i rest → Suffix rest bytes
extended_suffix h bytes i rest at = suffix_more rest at.mid bytes (at.size, at.contents_at.after) (at.size_at.size, at.size_at.after)

pub instruction_suffix : (section : List ℕ) (h : LineHeader) (bytes : List ℕ) (i : LineInstruction) (rest : List ℕ) → InstructionAt section h bytes i rest → Suffix rest bytes
instruction_suffix section h bytes i rest at =
    let first : Suffix at.operands bytes = (1, sym (ap (λ (l : List ℕ). drop 1 l) at.split)) in
    let more : Suffix rest at.operands =
    elim (cases_lt at.opcode h.opcode_base) [
      | inr high ↦ whole_suffix rest at.operands (at.special high).1
      | inl low ↦ elim (cases_lt at.opcode 1) [
        | inl zero_is ↦ let is : at.opcode ≡ 0 = omega (arith, zero_is) in extended_suffix h at.operands i rest (at.extended low is)
        | inr some ↦ elim (cases_lt at.opcode 13) [
          | inl known ↦ let most : at.opcode ≤ 12 = omega (arith, known) in standard_suffix h at.opcode at.operands i rest (at.standard low some most)
          | inr unknown ↦ operands_suffix _ at.operands rest (at.unknown low unknown).1
        ]
      ]
    ] in
    suffix_more rest at.operands bytes more first

pub suffix_is : (rest bytes : List ℕ) → Suffix rest bytes → rest ≡ drop (length bytes - length rest) bytes
suffix_is rest bytes p =
    let k = p.0 in
    let sizes : length rest ≡ length bytes - k = ap length p.1 ∙ length-drop k bytes in
    elim (cases_lt (length bytes) k) [
      | inl past ↦
          let none : drop k bytes ≡ [] = drop_all k bytes (omega (arith, past)) in
          let all : drop (length bytes - length rest) bytes ≡ [] = drop_all (length bytes - length rest) bytes (omega (arith, sizes, past)) in
          p.1 ∙ none ∙ sym all
      | inr within ↦
          let same : k ≡ length bytes - length rest = omega (arith, sizes, within) in
          p.1 ∙ ap (λ (n : ℕ). drop n bytes) same
    ]

pub suffix_next : (section : List ℕ) (h : LineHeader) (whole bytes : List ℕ) (i : LineInstruction) (rest : List ℕ) → InstructionAt section h bytes i rest → bytes ≡ drop (length whole - length bytes) whole → rest ≡ drop (length whole - length rest) whole
suffix_next section h whole bytes i rest at is = suffix_is rest whole (suffix_more rest bytes whole (instruction_suffix section h bytes i rest at) (length whole - length bytes, is))

-- one more instruction
pub reads_more : (section : List ℕ) (h : LineHeader) (bytes : List ℕ) (p : Progress) (is : List LineInstruction) (mid : List ℕ) (q : Progress) (i : LineInstruction) (rest : List ℕ) → Reads section h bytes p is mid q → InstructionAt section h mid i rest
    → Reads section h bytes p (is ++ i ∷ []) rest (stepped h i q)
reads_more section h bytes p [] mid q i rest reads at =
    (rest, subst (λ (l : List ℕ). InstructionAt section h l i rest) reads.0 at, (refl, ap (λ (r : Progress). stepped h i r) reads.1))
reads_more section h bytes p (j ∷ is) mid q i rest reads at = (reads.0, reads.1, reads_more section h reads.0 (stepped h j p) is mid q i rest reads.2 at)

pub yields_more : (section : List ℕ) (h : LineHeader) (bytes : List ℕ) (r : Registers) (is : List LineInstruction) (mid : List ℕ) (s : Registers) (rows : List Registers) (i : LineInstruction) (rest : List ℕ) → Yields section h bytes r is mid s rows
    → InstructionAt section h mid i rest → (effect_of i ≡ effects.End → ⊥) → Yields section h bytes r (is ++ i ∷ []) rest (after h i s) (rows ++ row_of (effect_of i) (after h i s))
yields_more section h bytes r [] mid s rows i rest yields at going =
    let there : InstructionAt section h bytes i rest = subst (λ (l : List ℕ). InstructionAt section h l i rest) yields.0 at in
    let state : after h i s ≡ after h i r = ap (λ (x : Registers). after h i x) yields.1 in
    let none : rows ≡ [] = yields.2 in
    let new : List Registers = row_of (effect_of i) (after h i r) in
    let all : rows ++ row_of (effect_of i) (after h i s) ≡ new ++ [] =
    ap (λ (l : List Registers). l ++ row_of (effect_of i) (after h i s)) none ∙ ap (λ (x : Registers). row_of (effect_of i) x) state ∙ sym (append-nil new) in
    (rest, [], there, going, all, (refl, state, refl))
yields_more section h bytes r (j ∷ is) mid s rows i rest (next, more, first, on, split, others) at going =
    let new : List Registers = row_of (effect_of i) (after h i s) in
    let all : rows ++ new ≡ row_of (effect_of j) (after h j r) ++ (more ++ new) = ap (λ (l : List Registers). l ++ new) split ∙ append_assoc (row_of (effect_of j) (after h j r)) more new in
    (next, more ++ new, first, on, all, yields_more section h next (after h j r) is mid s more i rest others at going)

pub within_more : (section : List ℕ) (h : LineHeader) (rows : List Registers) (mid : List ℕ) (end : Registers) (bytes : List ℕ) (r row : Registers) (i : LineInstruction) (rest : List ℕ) → IsWithin section h rows mid end bytes r row
    → InstructionAt section h mid i rest → (effect_of i ≡ effects.End → ⊥) → IsWithin section h (rows ++ row_of (effect_of i) (after h i end)) rest (after h i end) bytes r row
within_more section h rows mid end bytes r row i rest w at going =
    let new : List Registers = row_of (effect_of i) (after h i end) in
    record {
      earlier = w.earlier;
      later = w.later ++ new;
      split = ap (λ (l : List Registers). l ++ new) w.split ∙ append_assoc w.earlier (row ∷ w.later) new;
      instructions = w.instructions ++ i ∷ [];
      yields = yields_more section h bytes r w.instructions mid end w.later i rest w.yields at going;
    }

-- a state at the last row
front : Registers → List Registers → List Registers
front r [] = []
front r (s ∷ rows) = r ∷ front s rows

front_last : (r : Registers) (rows : List Registers) → r ∷ rows ≡ front r rows ++ last_row r rows ∷ []
unfolding front
front_last r [] = refl
front_last r (s ∷ rows) = ap (λ (l : List Registers). r ∷ l) (front_last s rows)

pub within_last : (section : List ℕ) (h : LineHeader) (first : Registers) (rows : List Registers) (rest bytes : List ℕ) (r row : Registers) → rest ≡ bytes → row ≡ last_row first rows → IsWithin section h (first ∷ rows) rest r bytes r row
within_last section h first rows rest bytes r row same is = record {
  earlier = front first rows;
  later = [];
  split = front_last first rows ∙ ap (λ (x : Registers). front first rows ++ x ∷ []) (sym is);
  instructions = [];
  yields = (same, refl, refl);
}

-- a row more
or_assoc : (a b c : Bool) → (a || (b || c)) ≡ ((a || b) || c)
or_assoc true b c = refl
or_assoc false b c = refl

or_none : (a : Bool) → (a || false) ≡ a
or_none true = refl
or_none false = refl

descends_more : (f : Registers) (rows : List Registers) (r : Registers) → descends f (rows ++ r ∷ []) ≡ (descends f rows || nat_lt r.address (last_row f rows).address)
descends_more f [] r = or_none (nat_lt r.address f.address)
descends_more f (s ∷ rows) r = ap (λ (b : Bool). nat_lt s.address f.address || b) (descends_more s rows r) ∙ or_assoc (nat_lt s.address f.address) (descends s rows) (nat_lt r.address (last_row s rows).address)

last_more : (f : Registers) (rows : List Registers) (r : Registers) → last_row f (rows ++ r ∷ []) ≡ r
last_more f [] r = refl
last_more f (s ∷ rows) r = last_more s rows r

pub notes_more : (first : Option Registers) (row : Registers) (falls : Bool) (rows : List Registers) (r : Registers) → Notes first row falls rows → Notes (first_after first r) r (descends_after first row falls r) (rows ++ r ∷ [])
notes_more first row falls [] r n =
    let is : first ≡ None = n.0 in
    let none : falls ≡ false = n.1 in
    (ap (λ (o : Option Registers). first_after o r) is, refl, ap (λ (o : Option Registers). descends_after o row falls r) is ∙ none)
notes_more first row falls (f ∷ rows) r n =
    let is : first ≡ Some f = n.0 in
    let last : row ≡ last_row f rows = n.1 in
    let so_far : falls ≡ descends f rows = n.2 in (
      ap (λ (o : Option Registers). first_after o r) is,
      sym (last_more f rows r),
      ap (λ (o : Option Registers). descends_after o row falls r) is ∙ ap (λ (b : Bool). b || nat_lt r.address row.address) so_far ∙ ap (λ (x : Registers). descends f rows || nat_lt r.address x.address) last
          ∙ sym (descends_more f rows r),
    )

-- what a reader says of a sequence is what there is to say
count_tests : (b : Bool) (n k : ℕ) → (if b then Some n else None) ≡ Some k → (b ≡ true) × (k ≡ n)
count_tests true n k e = let same : n ≡ k = cc in (refl, sym same)
count_tests false n k e = cc

count_fails : (b : Bool) (n : ℕ) → (if b then Some n else None) ≡ None → b ≡ false
count_fails true n e = cc
count_fails false n e = refl

module _ (code : List AddressRange) (first : Option Registers) (row : Registers) (falls : Bool) (end : ℕ) where
  noted : (f : Registers) (rows : List Registers) → Notes first row falls (f ∷ rows) → notes_count code first row falls end ≡ (if rows_count code (f ∷ rows) end then Some f.address else None)
  noted f rows n =
      let is : first ≡ Some f = n.0 in
      let last : row ≡ last_row f rows = n.1 in
      let so_far : falls ≡ descends f rows = n.2 in
      let Test : Bool → Registers → Option ℕ = λ b x. (if not b && (nat_le x.address end && is_code_range code f.address end) then Some f.address else None) in
      ap (λ (o : Option Registers). notes_count code o row falls end) is ∙ ap (λ (b : Bool). Test b row) so_far ∙ ap (λ (x : Registers). Test (descends f rows) x) last

  pub counts_noted : (rows : List Registers) (start : ℕ) → Notes first row falls rows → notes_count code first row falls end ≡ Some start → (counts code (record { rows = rows; end = end }) ≡ true) × (start ≡ first_address rows)
  counts_noted [] start n e =
      let none : notes_count code first row falls end ≡ None = ap (λ (o : Option Registers). notes_count code o row falls end) n.0 in
      cc
  counts_noted (f ∷ rows) start n e = count_tests (rows_count code (f ∷ rows) end) f.address start (sym (noted f rows n) ∙ e)

  pub counts_not_noted : (rows : List Registers) → Notes first row falls rows → notes_count code first row falls end ≡ None → counts code (record { rows = rows; end = end }) ≡ false
  counts_not_noted [] n e = refl
  counts_not_noted (f ∷ rows) n e = count_fails (rows_count code (f ∷ rows) end) f.address (sym (noted f rows n) ∙ e)

-- a state more
pub begins_more : (cs : List Checkpoint) (f : Registers) (rows : List Registers) (c : Checkpoint) → BeginsWith cs (f ∷ rows) → BeginsWith (cs ++ c ∷ []) (f ∷ rows)
begins_more [] f rows c b = absurd b
begins_more (d ∷ cs) f rows c b = b

pub begins_row : (cs : List Checkpoint) (f : Registers) (rows : List Registers) (r : Registers) → BeginsWith cs (f ∷ rows) → BeginsWith cs (f ∷ (rows ++ r ∷ []))
begins_row [] f rows r b = absurd b
begins_row (d ∷ cs) f rows r b = b

pub begins_none : (cs : List Checkpoint) → BeginsWith cs [] → cs ≡ []
begins_none [] b = refl
begins_none (c ∷ cs) b = absurd b

-- the part of a list before some end
pub range_same : {X : Type 0} (xs ys : List X) (a b : ℕ) → b ≤ length xs → slice_range (xs ++ ys) a b ≡ slice_range xs a b
range_same {X} xs ys a b within =
    elim (cases_lt b a) [
      | inl less ↦
          let none : b - a ≡ 0 = omega (arith, less) in
          ap (λ (n : ℕ). take n (drop a (xs ++ ys))) none ∙ sym (ap (λ (n : ℕ). take n (drop a xs)) none)
      | inr le ↦
          let low : a ≤ length xs = omega (arith, le, within) in
          let sizes : length (drop a xs) ≡ length xs - a = length-drop a xs in
          let fits : b - a ≤ length (drop a xs) = omega (arith, sizes, within, le) in
          ap (λ (l : List X). take (b - a) l) (drop-append-le a xs ys low) ∙ take-append-le (b - a) (drop a xs) ys fits
    ]

-- lists of pairs
pub zip_more : {A B : Type 0} (R : A → B → Type 0) (xs : List A) (ys : List B) (x : A) (y : B) → AllZip R xs ys → R x y → AllZip R (xs ++ x ∷ []) (ys ++ y ∷ [])
zip_more R [] [] x y all r = (r, tt)
zip_more R [] (b ∷ ys) x y all r = absurd all
zip_more R (a ∷ xs) [] x y all r = absurd all
zip_more R (a ∷ xs) (b ∷ ys) x y all r = (all.0, zip_more R xs ys x y all.1 r)

pub zip_weaker : {A B : Type 0} (R S : A → B → Type 0) (xs : List A) (ys : List B) → ((x : A) (y : B) → R x y → S x y) → AllZip R xs ys → AllZip S xs ys
zip_weaker R S [] [] f all = tt
zip_weaker R S [] (b ∷ ys) f all = absurd all
zip_weaker R S (a ∷ xs) [] f all = absurd all
zip_weaker R S (a ∷ xs) (b ∷ ys) f all = (f a b all.0, zip_weaker R S xs ys f all.1)

pub zip_at : {A B : Type 0} (R : A → B → Type 0) (xs : List A) (ys : List B) (x : A) → AllZip R xs ys → Contains xs x → (y : B) × Contains ys y × R x y
zip_at R [] [] x all c = absurd (let w = c.1 in omega (arith, w))
zip_at R [] (b ∷ ys) x all c = absurd all
zip_at R (a ∷ xs) [] x all c = absurd all
zip_at R (a ∷ xs) (b ∷ ys) x all (zero, within, is) = (b, (0, omega arith, refl), subst (λ z. R z b) is all.0)
zip_at R (a ∷ xs) (b ∷ ys) x all (suc k, within, is) =
    let there = zip_at R xs ys x all.1 (k, omega (arith, within), is) in
    let inside = there.1.1 in
    (there.0, (suc there.1.0, omega (arith, inside), there.1.2), there.2)

-- rows that don't descend
or_false : (a b : Bool) → (a || b) ≡ false → (a ≡ false) × (b ≡ false)
or_false true b e = cc
or_false false b e = (refl, e)

pub and_true : (a b : Bool) → (a && b) ≡ true → (a ≡ true) × (b ≡ true)
and_true true b e = (refl, e)
and_true false b e = cc

not_true : (a : Bool) → not a ≡ true → a ≡ false
not_true true e = cc
not_true false e = refl

not_less : (a b : ℕ) → nat_lt a b ≡ false → b ≤ a
not_less a b e = grind (arith, nat_tests, e)

rising : (r : Registers) (rows : List Registers) (a : ℕ) → a < r.address → descends r rows ≡ false → All (λ (s : Registers). a < s.address) rows
rising r [] a low e = All-nil (λ (s : Registers). a < s.address)
rising r (s ∷ rows) a low e =
    let parts = or_false (nat_lt s.address r.address) (descends s rows) e in
    let le = not_less s.address r.address parts.0 in
    let high : a < s.address = omega (arith, low, le) in
    All-cons (λ (x : Registers). a < x.address) s rows high (rising s rows a high parts.1)

rising_after : (f : Registers) (earlier : List Registers) (row : Registers) (later : List Registers) → descends f (earlier ++ row ∷ later) ≡ false → descends row later ≡ false
rising_after f [] row later e = (or_false (nat_lt row.address f.address) (descends row later) e).1
rising_after f (s ∷ earlier) row later e = rising_after s earlier row later (or_false (nat_lt s.address f.address) (descends s (earlier ++ row ∷ later)) e).1

rows_rise : (code : List AddressRange) (earlier : List Registers) (row : Registers) (later : List Registers) (end : ℕ) → rows_count code (earlier ++ row ∷ later) end ≡ true → descends row later ≡ false
rows_rise code [] row later end e = not_true (descends row later) (and_true (not (descends row later)) _ e).0
rows_rise code (f ∷ earlier) row later end e = rising_after f earlier row later (not_true (descends f (earlier ++ row ∷ later)) (and_true (not (descends f (earlier ++ row ∷ later))) _ e).0)

pub rises_after : (code : List AddressRange) (s : Sequence) (earlier : List Registers) (row : Registers) (later : List Registers) → counts code s ≡ true → s.rows ≡ earlier ++ row ∷ later → descends row later ≡ false
rises_after code s earlier row later e split = rows_rise code earlier row later s.end (subst (λ (l : List Registers). rows_count code l s.end ≡ true) split e)

-- the next instruction of a sequence that ended
module _ (section : List ℕ) (h : LineHeader) (s : Sequence) (bytes : List ℕ) (r row : Registers) (i : LineInstruction) (rest : List ℕ) (at : InstructionAt section h bytes i rest) where
  -- the instruction ends the sequence, or it is followed by one that does
  data Next : Type 0 where
    ends : (earlier : List Registers) → s.rows ≡ earlier ++ row ∷ [] → effect_of i ≡ effects.End → Next
    goes : (earlier more : List Registers) → s.rows ≡ earlier ++ row ∷ (row_of (effect_of i) (after h i r) ++ more) → (effect_of i ≡ effects.End → ⊥)
        → ((shift : List Registers) (new : Registers) → s.rows ≡ shift ++ new ∷ more → IsBefore section h s rest (after h i r) new) → Next

  next_of : (b : IsBefore section h s bytes r row) (is : List LineInstruction) → Yields section h bytes r is b.rest b.registers b.is_within.later → Next
  next_of b [] yields =
      let there : InstructionAt section h bytes b.last b.after_last = subst (λ (l : List ℕ). InstructionAt section h l b.last b.after_last) yields.0 b.last_at in
      let same : i ≡ b.last = (instruction_same section h bytes i b.last rest b.after_last at there).0 in
      let none : b.is_within.later ≡ [] = yields.2 in
      ends b.is_within.earlier (b.is_within.split ∙ ap (λ (l : List Registers). b.is_within.earlier ++ row ∷ l) none) (ap effect_of same ∙ b.ends)
  next_of b (j ∷ is) (mid, more, first, on, split, others) =
      let same = instruction_same section h bytes j i mid rest first at in
      let is_i : j ≡ i = same.0 in
      let is_rest : mid ≡ rest = same.1 in
      let going : effect_of i ≡ effects.End → ⊥ = λ e. on (ap effect_of is_i ∙ e) in
      let rows_are : b.is_within.later ≡ row_of (effect_of i) (after h i r) ++ more = split ∙ ap (λ (x : LineInstruction). row_of (effect_of x) (after h x r) ++ more) is_i in
      let yields_i : Yields section h mid (after h i r) is b.rest b.registers more = subst (λ (x : LineInstruction). Yields section h mid (after h x r) is b.rest b.registers more) is_i others in
      let yields_rest : Yields section h rest (after h i r) is b.rest b.registers more = subst (λ (l : List ℕ). Yields section h l (after h i r) is b.rest b.registers more) is_rest yields_i in
      goes b.is_within.earlier more (b.is_within.split ∙ ap (λ (l : List Registers). b.is_within.earlier ++ row ∷ l) rows_are) going
      (λ shift new there. record {
        rest = b.rest;
        registers = b.registers;
        is_within = record { earlier = shift; later = more; split = there; instructions = is; yields = yields_rest };
        last = b.last;
        after_last = b.after_last;
        last_at = b.last_at;
        ends = b.ends;
      })

  next : IsBefore section h s bytes r row → Next
  next b = next_of b b.is_within.instructions b.is_within.yields

  pub before_none : effect_of i ≡ effects.None → IsBefore section h s bytes r row → IsBefore section h s rest (after h i r) row
  before_none none b = elim (next b) [
    | ends earlier split is ↦ let e : effects.None ≡ effects.End = sym none ∙ is in cc
    | goes earlier more split going on ↦ on earlier row (split ∙ ap (λ (x : RowEffect). earlier ++ row ∷ (row_of x (after h i r) ++ more)) none)
  ]

  pub before_row : effect_of i ≡ effects.Row → IsBefore section h s bytes r row → IsBefore section h s rest (after h i r) (after h i r)
  before_row is_row b = elim (next b) [
    | ends earlier split is ↦ let e : effects.Row ≡ effects.End = sym is_row ∙ is in cc
    | goes earlier more split going on ↦
        let new = after h i r in
        on (earlier ++ row ∷ []) new (split ∙ ap (λ (x : RowEffect). earlier ++ row ∷ (row_of x new ++ more)) is_row ∙ sym (append_assoc earlier (row ∷ []) (new ∷ more)))
  ]

  pub last_before_end : (a : ℕ) → row.address ≤ a → effect_of i ≡ effects.End → IsBefore section h s bytes r row → LastRow s.rows a row
  last_before_end a low is_end b = elim (next b) [
    | ends earlier split is ↦ record { earlier = earlier; later = []; split = split; low = low; high = All-nil (λ (x : Registers). a < x.address) }
    | goes earlier more split going on ↦ absurd (going is_end)
  ]

  pub last_before_row : (code : List AddressRange) (a : ℕ) → counts code s ≡ true → row.address ≤ a → effect_of i ≡ effects.Row → a < (after h i r).address → IsBefore section h s bytes r row → LastRow s.rows a row
  last_before_row code a counts_is low is_row high b = elim (next b) [
    | ends earlier split is ↦ let e : effects.Row ≡ effects.End = sym is_row ∙ is in cc
    | goes earlier more split going on ↦
        let new = after h i r in
        let all : s.rows ≡ earlier ++ row ∷ (new ∷ more) = split ∙ ap (λ (x : RowEffect). earlier ++ row ∷ (row_of x new ++ more)) is_row in
        let falls : descends row (new ∷ more) ≡ false = rises_after code s earlier row (new ∷ more) counts_is all in
        let rest_falls = (or_false (nat_lt new.address row.address) (descends new more) falls).1 in
        record {
          earlier = earlier;
          later = new ∷ more;
          split = all;
          low = low;
          high = All-cons (λ (x : Registers). a < x.address) new more high (rising new more a high rest_falls);
        }
  ]

none_before : (section : List ℕ) (h : LineHeader) (s : Sequence) (bytes : List ℕ) (r row : Registers) → NoInstruction section h bytes → (b : IsBefore section h s bytes r row) (is : List LineInstruction) → Yields section h bytes r is b.rest b.registers b.is_within.later → ⊥
none_before section h s bytes r row none b [] yields = none b.last b.after_last (subst (λ (l : List ℕ). InstructionAt section h l b.last b.after_last) yields.0 b.last_at)
none_before section h s bytes r row none b (j ∷ is) (mid, more, first, on, split, others) = none j mid first

pub before_some : (section : List ℕ) (h : LineHeader) (s : Sequence) (bytes : List ℕ) (r row : Registers) → NoInstruction section h bytes → IsBefore section h s bytes r row → ⊥
before_some section h s bytes r row none b = none_before section h s bytes r row none b b.is_within.instructions b.is_within.yields
