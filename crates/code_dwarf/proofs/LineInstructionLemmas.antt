-- The instruction of a line program that some bytes start with is unique.
use Rattle.std.proofs.Common.{◌≡◌, ℕ, zero, suc, ℤ, ◌+◌, ◌-◌, ◌<◌, ◌≤◌, List, [], ◌∷◌, length, take, drop, subst, refl, sym, ap, ◌∙◌, inl, inr, arith}
use Rattle.std.proofs.lemmas.Bool.{cases_lt}
use Rattle.std.specs.Prelude.{if◌then◌else◌, ◌==◌}
use Rattle.code_cfi.specs.Numbers.{Uleb128At, Sleb128At, NoUleb128, NoSleb128}
use Rattle.code_cfi.proofs.UniqueNumbers.{uleb128_same, sleb128_same}
use Rattle.code_dwarf.specs.steps.Numbers.{NumberAt, OffsetAt, SplitAt}
use Rattle.code_dwarf.specs.steps.LineInstructions.{OperandsAt, StandardAt, ExtendedIs, ExtendedAt, InstructionAt, operand_count, NoOperands, NoStandard, NotExtended, NoExtended, NoInstruction}
use Rattle.code_dwarf.specs.declared.line_header.LineHeader.{LineHeader}
use Rattle.code_dwarf.specs.declared.line_instruction.LineInstruction.{LineInstruction}
use Rattle.code_dwarf.specs.declared.line_instruction.LineInstruction.TheVariants as instructions
use Rattle.code_dwarf.proofs.NumberLemmas.{number_same, offset_same, no_offset}

-- operands that are skipped
pub operands_same : (count : ℕ) (bytes r s : List ℕ) → OperandsAt count bytes r → OperandsAt count bytes s → r ≡ s
operands_same zero bytes r s p q = p ∙ sym q
operands_same (suc count) bytes r s (a, m, first, more) (b, k, first', more') =
    let e = uleb128_same bytes a b m k first first' in
    operands_same count k r s (subst (λ (l : List ℕ). OperandsAt count l r) e.1 more) more'

pub operands_more : (count next : ℕ) (bytes mid rest : List ℕ) (n : ℕ) → next ≡ suc count → OperandsAt count bytes mid → Uleb128At mid n rest → OperandsAt next bytes rest
operands_more zero next bytes mid rest n is p at = subst (λ (c : ℕ). OperandsAt c bytes rest) (sym is) (n, rest, subst (λ (l : List ℕ). Uleb128At l n rest) p at, refl)
operands_more (suc count) next bytes mid rest n is (a, m, first, more) at =
    subst (λ (c : ℕ). OperandsAt c bytes rest) (sym is) (a, m, first, operands_more count (suc count) m mid rest n refl more at)

pub no_operands : (k count : ℕ) (bytes mid : List ℕ) → k < count → OperandsAt k bytes mid → NoUleb128 mid → NoOperands count bytes
no_operands zero zero bytes mid less at none rest p = absurd (omega (arith, less))
no_operands (suc k) zero bytes mid less at none rest p = absurd (omega (arith, less))
no_operands zero (suc count) bytes mid less at none rest (b, m, first, more) = none b m (subst (λ (l : List ℕ). Uleb128At l b m) (sym at) first)
no_operands (suc k) (suc count) bytes mid less (a, m, first, more) none rest (b, m', first', more') =
    let e = uleb128_same bytes a b m m' first first' in
    no_operands k count m' mid (omega (arith, less)) (subst (λ (l : List ℕ). OperandsAt k l mid) e.1 more) none rest more'

-- what follows a standard opcode that is known
pub data Form : Type 0 where
  plain : LineInstruction → Form
  unsigned : (ℕ → LineInstruction) → Form
  dropped : Form
  signed : Form
  fixed : Form
  unknown : Form

abbrev pub form_of : ℕ → Form
form_of op =
    if op == 1 then plain instructions.Copy else
    if op == 2 then unsigned (λ n. instructions.AdvanceAddress n) else
    if op == 3 then signed else
    if op == 4 then unsigned (λ n. instructions.SetFile n) else
    if op == 5 then unsigned (λ n. instructions.SetColumn n) else
    if op == 6 then plain instructions.Other else
    if op == 7 then plain instructions.Other else
    if op == 8 then plain instructions.AdvanceByLast else
    if op == 9 then fixed else
    if op == 10 then plain instructions.Other else
    if op == 11 then plain instructions.Other else
    if op == 12 then dropped else unknown

abbrev pub FormAt : LineHeader → Form → List ℕ → LineInstruction → List ℕ → Type 0
FormAt h (plain j) bytes i rest = (i ≡ j) × (rest ≡ bytes)
FormAt h (unsigned make) bytes i rest = (n : ℕ) × (i ≡ make n) × Uleb128At bytes n rest
FormAt h dropped bytes i rest = (n : ℕ) × (i ≡ instructions.Other) × Uleb128At bytes n rest
FormAt h signed bytes i rest = (z : ℤ) × (i ≡ instructions.AdvanceLine z) × Sleb128At bytes z rest
FormAt h fixed bytes i rest = (n : ℕ) × (i ≡ instructions.AdvanceFixed n) × NumberAt h.encoding.endian 2 bytes n rest
FormAt h unknown bytes i rest = ⊥

abbrev pub NoForm : LineHeader → Form → List ℕ → Type 0
NoForm h (plain j) bytes = ⊥
NoForm h (unsigned make) bytes = NoUleb128 bytes
NoForm h dropped bytes = NoUleb128 bytes
NoForm h signed bytes = NoSleb128 bytes
NoForm h fixed bytes = length bytes < 2
NoForm h unknown bytes = Unit {0}

module _ (h : LineHeader) (bytes : List ℕ) where
  form_same : (f : Form) (i j : LineInstruction) (r s : List ℕ) → FormAt h f bytes i r → FormAt h f bytes j s → (i ≡ j) × (r ≡ s)
  form_same (plain k) i j r s p q = (p.0 ∙ sym q.0, p.1 ∙ sym q.1)
  form_same (unsigned make) i j r s p q = let e = uleb128_same bytes p.0 q.0 r s p.2 q.2 in (p.1 ∙ ap make e.0 ∙ sym q.1, e.1)
  form_same dropped i j r s p q = let e = uleb128_same bytes p.0 q.0 r s p.2 q.2 in (p.1 ∙ sym q.1, e.1)
  form_same signed i j r s p q = let e = sleb128_same bytes p.0 q.0 r s p.2 q.2 in (p.1 ∙ ap (λ z. instructions.AdvanceLine z) e.0 ∙ sym q.1, e.1)
  form_same fixed i j r s p q = let e = number_same h.encoding.endian 2 bytes p.0 q.0 r s p.2 q.2 in (p.1 ∙ ap (λ n. instructions.AdvanceFixed n) e.0 ∙ sym q.1, e.1)
  form_same unknown i j r s p q = absurd p

  no_form : (f : Form) (i : LineInstruction) (rest : List ℕ) → NoForm h f bytes → FormAt h f bytes i rest → ⊥
  no_form (plain j) i rest none at = none
  no_form (unsigned make) i rest none at = none at.0 rest at.2
  no_form dropped i rest none at = none at.0 rest at.2
  no_form signed i rest none at = none at.0 rest at.2
  no_form fixed i rest none at = let w = at.2.within in omega (arith, w, none)
  no_form unknown i rest none at = at

  by_opcode : (op k : ℕ) (i : LineInstruction) (rest : List ℕ) → op ≡ k → FormAt h (form_of k) bytes i rest → FormAt h (form_of op) bytes i rest
  by_opcode op k i rest is at = subst (λ o. FormAt h (form_of o) bytes i rest) (sym is) at

  form_at : (op : ℕ) (i : LineInstruction) (rest : List ℕ) → StandardAt h op bytes i rest → FormAt h (form_of op) bytes i rest
  form_at op instructions.Copy rest at = by_opcode op 1 _ rest at.0 (refl, at.1)
  form_at op (instructions.AdvanceAddress n) rest at = by_opcode op 2 _ rest at.0 (n, refl, at.1)
  form_at op (instructions.AdvanceLine z) rest at = by_opcode op 3 _ rest at.0 (z, refl, at.1)
  form_at op (instructions.SetFile n) rest at = by_opcode op 4 _ rest at.0 (n, refl, at.1)
  form_at op (instructions.SetColumn n) rest at = by_opcode op 5 _ rest at.0 (n, refl, at.1)
  form_at op instructions.AdvanceByLast rest at = by_opcode op 8 _ rest at.0 (refl, at.1)
  form_at op (instructions.AdvanceFixed n) rest at = by_opcode op 9 _ rest at.0 (n, refl, at.1)
  form_at op instructions.Other rest (inl (inl six, after)) = by_opcode op 6 _ rest six (refl, after)
  form_at op instructions.Other rest (inl (inr (inl seven), after)) = by_opcode op 7 _ rest seven (refl, after)
  form_at op instructions.Other rest (inl (inr (inr (inl ten)), after)) = by_opcode op 10 _ rest ten (refl, after)
  form_at op instructions.Other rest (inl (inr (inr (inr eleven)), after)) = by_opcode op 11 _ rest eleven (refl, after)
  form_at op instructions.Other rest (inr (twelve, (n, at))) = by_opcode op 12 _ rest twelve (n, refl, at)
  form_at op (instructions.Special n) rest at = absurd at
  form_at op instructions.EndSequence rest at = absurd at
  form_at op (instructions.SetAddress n) rest at = absurd at
  form_at op (instructions.DefineFile n) rest at = absurd at

  pub standard_same : (op : ℕ) (i j : LineInstruction) (r s : List ℕ) → StandardAt h op bytes i r → StandardAt h op bytes j s → (i ≡ j) × (r ≡ s)
  standard_same op i j r s p q = form_same (form_of op) i j r s (form_at op i r p) (form_at op j s q)

  pub no_standard : (op k : ℕ) → op ≡ k → NoForm h (form_of k) bytes → NoStandard h op bytes
  no_standard op k is none i rest at = no_form (form_of k) i rest none (subst (λ o. FormAt h (form_of o) bytes i rest) is (form_at op i rest at))

-- extended instructions
address_same : (h : LineHeader) (bytes : List ℕ) (a b : ℕ) (r s : List ℕ) → OffsetAt h.encoding.endian h.encoding.has_64_bit_addresses bytes a r → OffsetAt h.encoding.endian h.encoding.has_64_bit_addresses bytes b s → a ≡ b
address_same h bytes a b r s p q = (offset_same h.encoding.endian h.encoding.has_64_bit_addresses bytes a b r s p q).0

module _ (h : LineHeader) (end op : ℕ) (bytes : List ℕ) where
  other_is : (i : LineInstruction) → (op ≡ 1 → ⊥) → (op ≡ 2 → ⊥) → (op ≡ 3 → 5 ≤ h.encoding.version) → ExtendedIs h end op bytes i → i ≡ instructions.Other
  other_is instructions.Other a b c at = refl
  other_is instructions.EndSequence a b c at = absurd (a at)
  other_is (instructions.SetAddress n) a b c at = absurd (b at.0)
  other_is (instructions.DefineFile n) a b c at = let five = c at.0 in let old = at.1 in absurd (omega (arith, five, old))
  other_is _ a b c at = absurd at

  end_is : (i : LineInstruction) → op ≡ 1 → ExtendedIs h end op bytes i → i ≡ instructions.EndSequence
  end_is instructions.EndSequence is at = refl
  end_is instructions.Other is at = absurd (at.0 is)
  end_is (instructions.SetAddress n) is at = let two = at.0 in absurd (omega (arith, is, two))
  end_is (instructions.DefineFile n) is at = let three = at.0 in absurd (omega (arith, is, three))
  end_is _ is at = absurd at

  address_is : (i : LineInstruction) (a : ℕ) (rest : List ℕ) → op ≡ 2 → OffsetAt h.encoding.endian h.encoding.has_64_bit_addresses bytes a rest → ExtendedIs h end op bytes i → i ≡ instructions.SetAddress a
  address_is (instructions.SetAddress n) a rest is found at = ap (λ k. instructions.SetAddress k) (address_same h bytes n a at.1.0 rest at.1.1 found)
  address_is instructions.Other a rest is found at = absurd (at.1 is)
  address_is instructions.EndSequence a rest is found at = absurd (omega (arith, is, at))
  address_is (instructions.DefineFile n) a rest is found at = let three = at.0 in absurd (omega (arith, is, three))
  address_is _ a rest is found at = absurd at

  file_is : (i : LineInstruction) → op ≡ 3 → h.encoding.version < 5 → ExtendedIs h end op bytes i → i ≡ instructions.DefineFile (end - length bytes)
  file_is (instructions.DefineFile n) is old at = ap (λ k. instructions.DefineFile k) at.2
  file_is instructions.Other is old at = let five = at.2 is in absurd (omega (arith, old, five))
  file_is instructions.EndSequence is old at = absurd (omega (arith, is, at))
  file_is (instructions.SetAddress n) is old at = let two = at.0 in absurd (omega (arith, is, two))
  file_is _ is old at = absurd at

  pub extended_is_same : (i j : LineInstruction) → ExtendedIs h end op bytes i → ExtendedIs h end op bytes j → i ≡ j
  extended_is_same instructions.Other j p q = sym (other_is j p.0 p.1 p.2 q)
  extended_is_same instructions.EndSequence j p q = sym (end_is j p q)
  extended_is_same (instructions.SetAddress a) j p q = sym (address_is j a p.1.0 p.0 p.1.1 q)
  extended_is_same (instructions.DefineFile n) j p q = ap (λ k. instructions.DefineFile k) p.2 ∙ sym (file_is j p.0 p.1 q)
  extended_is_same _ j p q = absurd p

pub split_same : (size : ℕ) (bytes a b r s : List ℕ) → SplitAt size bytes a r → SplitAt size bytes b s → (a ≡ b) × (r ≡ s)
split_same size bytes a b r s p q = (p.block_is ∙ sym q.block_is, p.after ∙ sym q.after)

-- the parts of an extended instruction, as far as they are the same
pub extended_parts : (h : LineHeader) (bytes : List ℕ) (size : ℕ) (mid contents after : List ℕ) (i : LineInstruction) (rest : List ℕ) → Uleb128At bytes size mid → SplitAt size mid contents after → (at : ExtendedAt h bytes i rest) → (at.contents ≡ contents) × (rest ≡ after)
extended_parts h bytes size mid contents after i rest size_at contents_at at =
    let e = uleb128_same bytes at.size size at.mid mid at.size_at size_at in
    let there = subst (λ (l : List ℕ). SplitAt size l at.contents rest) e.1 (subst (λ (n : ℕ). SplitAt n at.mid at.contents rest) e.0 at.contents_at) in
    split_same size mid at.contents contents rest after there contents_at

pub extended_same : (h : LineHeader) (bytes : List ℕ) (i j : LineInstruction) (r s : List ℕ) → ExtendedAt h bytes i r → ExtendedAt h bytes j s → (i ≡ j) × (r ≡ s)
extended_same h bytes i j r s p q =
    let e = extended_parts h bytes q.size q.mid q.contents s i r q.size_at q.contents_at p in
    let ps = p.split in
    let qs = q.split in
    let contents = e.0 in
    let ops : p.opcode ≡ q.opcode = cc (ps, qs, contents) in
    let operands : p.operands ≡ q.operands = cc (ps, qs, contents) in
    let one = subst (λ (l : List ℕ). ExtendedIs h (h.instructions.end - length l) p.opcode p.operands i) e.1 p.is in
    let two = subst (λ (o : ℕ). ExtendedIs h (h.instructions.end - length s) o p.operands i) ops one in
    let three = subst (λ (l : List ℕ). ExtendedIs h (h.instructions.end - length s) q.opcode l i) operands two in
    (extended_is_same h (h.instructions.end - length s) q.opcode q.operands i j three q.is, e.1)

module _ (h : LineHeader) (bytes : List ℕ) (size : ℕ) (mid : List ℕ) (size_at : Uleb128At bytes size mid) where
  pub no_contents : length mid < size → NoExtended h bytes
  no_contents less i rest at =
      let e = uleb128_same bytes at.size size at.mid mid at.size_at size_at in
      let within = at.contents_at.within in
      let sizes = e.0 in
      let lengths = ap length e.1 in
      omega (arith, less, within, sizes, lengths)

  pub no_extended_opcode : (contents after : List ℕ) → SplitAt size mid contents after → contents ≡ [] → NoExtended h bytes
  no_extended_opcode contents after contents_at empty i rest at =
      let e = (extended_parts h bytes size mid contents after i rest size_at contents_at at).0 in
      let s = at.split in
      cc (e, empty, s)

  pub no_extended_operands : (contents after : List ℕ) (opcode : ℕ) (operands : List ℕ) (end : ℕ) → SplitAt size mid contents after → contents ≡ opcode ∷ operands → end ≡ h.instructions.end - length after → NotExtended h end opcode operands → NoExtended h bytes
  no_extended_operands contents after opcode operands end contents_at split end_is none i rest at =
      let e = extended_parts h bytes size mid contents after i rest size_at contents_at at in
      let contents_same = e.0 in
      let s = at.split in
      let ops : at.opcode ≡ opcode = cc (s, split, contents_same) in
      let operands_are : at.operands ≡ operands = cc (s, split, contents_same) in
      let one = subst (λ (l : List ℕ). ExtendedIs h (h.instructions.end - length l) at.opcode at.operands i) e.1 at.is in
      let two = subst (λ (o : ℕ). ExtendedIs h (h.instructions.end - length after) o at.operands i) ops one in
      let three = subst (λ (l : List ℕ). ExtendedIs h (h.instructions.end - length after) opcode l i) operands_are two in
      none i (subst (λ (e : ℕ). ExtendedIs h e opcode operands i) (sym end_is) three)

-- instructions
module _ (section : List ℕ) (h : LineHeader) (bytes : List ℕ) where
  module _ (opcode : ℕ) (operands : List ℕ) (split : bytes ≡ opcode ∷ operands) (below : opcode < h.opcode_base) where
    parts : (i : LineInstruction) (rest : List ℕ) (at : InstructionAt section h bytes i rest) → (at.opcode ≡ opcode) × (at.operands ≡ operands)
    parts i rest at =
        let s = at.split in
        let ops : at.opcode ≡ opcode = cc (s, split) in
        let rests : at.operands ≡ operands = cc (s, split) in
        (ops, rests)

    pub no_extended : opcode ≡ 0 → NoExtended h operands → NoInstruction section h bytes
    no_extended is none i rest at =
        let e = parts i rest at in
        let op = e.0 in
        none i rest (subst (λ (l : List ℕ). ExtendedAt h l i rest) e.1 (at.extended (omega (arith, op, below)) (omega (arith, op, is))))

    pub no_known : 1 ≤ opcode → opcode ≤ 12 → NoStandard h opcode operands → NoInstruction section h bytes
    no_known low high none i rest at =
        let e = parts i rest at in
        let op = e.0 in
        let there = at.standard (omega (arith, op, below)) (omega (arith, op, low)) (omega (arith, op, high)) in
        none i rest (subst (λ (o : ℕ). StandardAt h o operands i rest) e.0 (subst (λ (l : List ℕ). StandardAt h at.opcode l i rest) e.1 there))

    pub no_unknown : 13 ≤ opcode → NoOperands (operand_count section h opcode) operands → NoInstruction section h bytes
    no_unknown low none i rest at =
        let e = parts i rest at in
        let op = e.0 in
        let there = (at.unknown (omega (arith, op, below)) (omega (arith, op, low))).1 in
        none rest (subst (λ (o : ℕ). OperandsAt (operand_count section h o) operands rest) e.0 (subst (λ (l : List ℕ). OperandsAt (operand_count section h at.opcode) l rest) e.1 there))

  -- an instruction with this opcode and these operands
  module _ (opcode : ℕ) (operands : List ℕ) (i : LineInstruction) (rest : List ℕ) where
    record Parts : Type 0 where
      pub special : h.opcode_base ≤ opcode → (i ≡ instructions.Special (opcode - h.opcode_base)) × (rest ≡ operands)
      pub extended : opcode < h.opcode_base → opcode ≡ 0 → ExtendedAt h operands i rest
      pub standard : opcode < h.opcode_base → 1 ≤ opcode → opcode ≤ 12 → StandardAt h opcode operands i rest
      pub unknown : opcode < h.opcode_base → 13 ≤ opcode → (i ≡ instructions.Other) × OperandsAt (operand_count section h opcode) operands rest

  parts_of : (opcode : ℕ) (operands : List ℕ) (i : LineInstruction) (rest : List ℕ) (at : InstructionAt section h bytes i rest) → at.opcode ≡ opcode → at.operands ≡ operands → Parts opcode operands i rest
  parts_of opcode operands i rest at ops rests =
      let there : Parts at.opcode at.operands i rest = record { special = at.special; extended = at.extended; standard = at.standard; unknown = at.unknown } in
      subst (λ (o : ℕ). Parts o operands i rest) ops (subst (λ (l : List ℕ). Parts at.opcode l i rest) rests there)

  parts_same : (opcode : ℕ) (operands : List ℕ) (i j : LineInstruction) (r s : List ℕ) → Parts opcode operands i r → Parts opcode operands j s → (i ≡ j) × (r ≡ s)
  parts_same opcode operands i j r s p q =
      elim (cases_lt opcode h.opcode_base) [
        | inr high ↦ ((p.special high).0 ∙ sym (q.special high).0, (p.special high).1 ∙ sym (q.special high).1)
        | inl low ↦ elim (cases_lt opcode 1) [
          | inl zero_is ↦ let is : opcode ≡ 0 = omega (arith, zero_is) in extended_same h operands i j r s (p.extended low is) (q.extended low is)
          | inr some ↦ elim (cases_lt opcode 13) [
            | inl known ↦ let most : opcode ≤ 12 = omega (arith, known) in standard_same h operands opcode i j r s (p.standard low some most) (q.standard low some most)
            | inr more ↦ ((p.unknown low more).0 ∙ sym (q.unknown low more).0, operands_same (operand_count section h opcode) operands r s (p.unknown low more).1 (q.unknown low more).1)
          ]
        ]
      ]

  pub instruction_same : (i j : LineInstruction) (r s : List ℕ) → InstructionAt section h bytes i r → InstructionAt section h bytes j s → (i ≡ j) × (r ≡ s)
  instruction_same i j r s p q =
      let ps = p.split in
      let qs = q.split in
      let ops : p.opcode ≡ q.opcode = cc (ps, qs) in
      let rests : p.operands ≡ q.operands = cc (ps, qs) in
      parts_same q.opcode q.operands i j r s (parts_of q.opcode q.operands i r p ops rests) (parts_of q.opcode q.operands j s q refl refl)
