-- The instruction that some bytes start with is unique.
use Rattle.std.proofs.Common.{◌≡◌, ℕ, ℤ, ◌+◌, ◌-◌, ◌/◌, ◌%◌, ◌^◌, ◌<◌, ◌≤◌, List, ◌∷◌, length, drop, subst, refl, sym, ap, ◌∙◌, inl, inr, arith}
use Rattle.std.proofs.lemmas.Bool.{cases_lt}
use Rattle.std.specs.Prelude.{if◌then◌else◌, ◌==◌, get_or}
use Rattle.code_cfi.specs.Numbers.{FixedAt, Uleb128At, Sleb128At, NoUleb128, NoSleb128}
use Rattle.code_cfi.specs.Pointers.{PointerAt}
use Rattle.code_cfi.specs.steps.Pointers.{NoPointer}
use Rattle.code_cfi.specs.Instructions.{PairAt, SignedPairAt, ExpressionAt, RegisterExpressionAt, OperandsAt, ShortAt, InstructionAt}
use Rattle.code_cfi.specs.steps.Instructions.{NoPair, NoSignedPair, NoExpression, NoRegisterExpression, NoOperands, NoInstruction}
use Rattle.code_cfi.specs.declared.byte_range.ByteRange.{ByteRange}
use Rattle.code_cfi.specs.declared.instruction.Machine.{Machine}
use Rattle.code_cfi.specs.declared.instruction.Machine.TheVariants as machines
use Rattle.code_cfi.specs.declared.instruction.Encoding.{Encoding}
use Rattle.code_cfi.specs.declared.instruction.Instruction.{Instruction}
use Rattle.code_cfi.specs.declared.instruction.Instruction.TheVariants as instructions
use Rattle.code_cfi.proofs.UniqueNumbers.{fixed_same, uleb128_same, sleb128_same, block_same, pointer_same}

first_same : {X : Type 0} (x y : X) (xs ys : List X) → x ∷ xs ≡ y ∷ ys → x ≡ y
first_same x y xs ys e = ap (λ l. get_or l 0 x) e

tail_same : {X : Type 0} (x y : X) (xs ys : List X) → x ∷ xs ≡ y ∷ ys → xs ≡ ys
tail_same x y xs ys e = ap (drop 1) e

-- pairs and expressions
pub pair_same : (bytes : List ℕ) (a b c d : ℕ) (r s : List ℕ) → PairAt bytes a b r → PairAt bytes c d s → (a ≡ c) × (b ≡ d) × (r ≡ s)
pair_same bytes a b c d r s p q =
    let e = uleb128_same bytes a c p.mid q.mid p.first q.first in
    let f = uleb128_same q.mid b d r s (subst (λ (m : List ℕ). Uleb128At m b r) e.1 p.second) q.second in
    (e.0, f.0, f.1)

pub signed_pair_same : (bytes : List ℕ) (a : ℕ) (b : ℤ) (c : ℕ) (d : ℤ) (r s : List ℕ) → SignedPairAt bytes a b r → SignedPairAt bytes c d s → (a ≡ c) × (b ≡ d) × (r ≡ s)
signed_pair_same bytes a b c d r s p q =
    let e = uleb128_same bytes a c p.mid q.mid p.first q.first in
    let f = sleb128_same q.mid b d r s (subst (λ (m : List ℕ). Sleb128At m b r) e.1 p.second) q.second in
    (e.0, f.0, f.1)

span_same : (a b : ByteRange) → a.start ≡ b.start → a.end ≡ b.end → a ≡ b
span_same a b e f = grind (arith, e, f)

pub expression_same : (end : ℕ) (bytes : List ℕ) (a b : ByteRange) (r s : List ℕ) → ExpressionAt end bytes a r → ExpressionAt end bytes b s → (a ≡ b) × (r ≡ s)
expression_same end bytes a b r s p q =
    let e = block_same bytes p.block q.block r s p.block_at q.block_at in
    let blocks = ap length e.0 in
    let rests = ap length e.1 in
    let pe = p.ends in
    let qe = q.ends in
    let ps = p.starts in
    let qs = q.starts in
    (span_same a b (omega (arith, blocks, rests, pe, qe, ps, qs)) (omega (arith, rests, pe, qe)), e.1)

pub register_expression_same : (end : ℕ) (bytes : List ℕ) (m n : ℕ) (a b : ByteRange) (r s : List ℕ) → RegisterExpressionAt end bytes m a r → RegisterExpressionAt end bytes n b s → (m ≡ n) × (a ≡ b) × (r ≡ s)
register_expression_same end bytes m n a b r s p q =
    let e = uleb128_same bytes m n p.mid q.mid p.first q.first in
    let f = expression_same end q.mid a b r s (subst (λ (k : List ℕ). ExpressionAt end k a r) e.1 p.second) q.second in
    (e.0, f.0, f.1)

pub no_pair : (bytes : List ℕ) (m : ℕ) (mid : List ℕ) → Uleb128At bytes m mid → NoUleb128 mid → NoPair bytes
no_pair bytes m mid at none a b rest p =
    let e = uleb128_same bytes a m p.mid mid p.first at in
    none b rest (subst (λ (k : List ℕ). Uleb128At k b rest) e.1 p.second)

pub no_signed_pair : (bytes : List ℕ) (m : ℕ) (mid : List ℕ) → Uleb128At bytes m mid → NoSleb128 mid → NoSignedPair bytes
no_signed_pair bytes m mid at none a b rest p =
    let e = uleb128_same bytes a m p.mid mid p.first at in
    none b rest (subst (λ (k : List ℕ). Sleb128At k b rest) e.1 p.second)

pub no_register_expression : (end : ℕ) (bytes : List ℕ) (m : ℕ) (mid : List ℕ) → Uleb128At bytes m mid → NoExpression end mid → NoRegisterExpression end bytes
no_register_expression end bytes m mid at none a span rest p =
    let e = uleb128_same bytes a m p.mid mid p.first at in
    none span rest (subst (λ (k : List ℕ). ExpressionAt end k span rest) e.1 p.second)

aarch64_is_not : machines.AArch64 ≡ machines.X86_64 → ⊥
aarch64_is_not e = cc

-- what follows an opcode below 64
pub data Form : Type 0 where
  plain : Instruction → Form
  fixed : ℕ → Form
  location : Form
  unsigned : (ℕ → Instruction) → Form
  dropped : Form
  signed : (ℤ → Instruction) → Form
  pair : (ℕ → ℕ → Instruction) → Form
  signed_pair : (ℕ → ℤ → Instruction) → Form
  expression : (ByteRange → Instruction) → Form
  register_expression : (ℕ → ByteRange → Instruction) → Form
  unknown : Form

abbrev pub sign_form : Machine → Form
sign_form machines.AArch64 = plain instructions.Nop
sign_form machines.X86_64 = unknown

abbrev pub form_of : Encoding → ℕ → Form
form_of e op =
    if op == 0 then plain instructions.Nop else
    if op == 1 then location else
    if op == 2 then fixed 1 else
    if op == 3 then fixed 2 else
    if op == 4 then fixed 4 else
    if op == 5 then pair (λ r n. instructions.Offset r n) else
    if op == 6 then unsigned (λ r. instructions.Restore r) else
    if op == 7 then unsigned (λ r. instructions.Undefined r) else
    if op == 8 then unsigned (λ r. instructions.SameValue r) else
    if op == 9 then pair (λ r s. instructions.Register r s) else
    if op == 10 then plain instructions.RememberState else
    if op == 11 then plain instructions.RestoreState else
    if op == 12 then pair (λ r n. instructions.DefineCfa r n) else
    if op == 13 then unsigned (λ r. instructions.DefineCfaRegister r) else
    if op == 14 then unsigned (λ n. instructions.DefineCfaOffset n) else
    if op == 15 then expression (λ s. instructions.DefineCfaExpression s) else
    if op == 16 then register_expression (λ r s. instructions.Expression r s) else
    if op == 17 then signed_pair (λ r n. instructions.OffsetSigned r n) else
    if op == 18 then signed_pair (λ r n. instructions.DefineCfaSigned r n) else
    if op == 19 then signed (λ n. instructions.DefineCfaOffsetSigned n) else
    if op == 20 then pair (λ r n. instructions.ValueOffset r n) else
    if op == 21 then signed_pair (λ r n. instructions.ValueOffsetSigned r n) else
    if op == 22 then register_expression (λ r s. instructions.ValueExpression r s) else
    if op == 45 then sign_form e.machine else
    if op == 46 then dropped else
    if op == 47 then pair (λ r n. instructions.OffsetNegative r n) else unknown

abbrev pub FormAt : Encoding → Form → List ℕ → Instruction → List ℕ → Type 0
FormAt e (plain j) bytes i rest = (i ≡ j) × (rest ≡ bytes)
FormAt e (fixed size) bytes i rest = (n : ℕ) × (i ≡ instructions.Advance n) × FixedAt size bytes n rest
FormAt e location bytes i rest = (a : ℕ) × (i ≡ instructions.SetLocation a) × PointerAt e.pointers ((e.address + (e.end - length bytes)) % 2 ^ 64) bytes a rest
FormAt e (unsigned make) bytes i rest = (n : ℕ) × (i ≡ make n) × Uleb128At bytes n rest
FormAt e dropped bytes i rest = (n : ℕ) × (i ≡ instructions.Nop) × Uleb128At bytes n rest
FormAt e (signed make) bytes i rest = (n : ℤ) × (i ≡ make n) × Sleb128At bytes n rest
FormAt e (pair make) bytes i rest = (m n : ℕ) × (i ≡ make m n) × PairAt bytes m n rest
FormAt e (signed_pair make) bytes i rest = (m : ℕ) × (n : ℤ) × (i ≡ make m n) × SignedPairAt bytes m n rest
FormAt e (expression make) bytes i rest = (s : ByteRange) × (i ≡ make s) × ExpressionAt e.end bytes s rest
FormAt e (register_expression make) bytes i rest = (n : ℕ) × (s : ByteRange) × (i ≡ make n s) × RegisterExpressionAt e.end bytes n s rest
FormAt e unknown bytes i rest = ⊥

module _ (e : Encoding) (bytes : List ℕ) where
  form_same : (f : Form) (i j : Instruction) (r s : List ℕ) → FormAt e f bytes i r → FormAt e f bytes j s → (i ≡ j) × (r ≡ s)
  form_same (plain k) i j r s p q = (p.0 ∙ sym q.0, p.1 ∙ sym q.1)
  form_same (fixed size) i j r s p q = let h = fixed_same size bytes p.0 q.0 r s p.2 q.2 in (p.1 ∙ ap (λ n. instructions.Advance n) h.0 ∙ sym q.1, h.1)
  form_same location i j r s p q = let h = pointer_same _ _ bytes p.0 q.0 r s p.2 q.2 in (p.1 ∙ ap (λ n. instructions.SetLocation n) h.0 ∙ sym q.1, h.1)
  form_same (unsigned make) i j r s p q = let h = uleb128_same bytes p.0 q.0 r s p.2 q.2 in (p.1 ∙ ap make h.0 ∙ sym q.1, h.1)
  form_same dropped i j r s p q = let h = uleb128_same bytes p.0 q.0 r s p.2 q.2 in (p.1 ∙ sym q.1, h.1)
  form_same (signed make) i j r s p q = let h = sleb128_same bytes p.0 q.0 r s p.2 q.2 in (p.1 ∙ ap make h.0 ∙ sym q.1, h.1)
  form_same (pair make) i j r s p q =
      let h = pair_same bytes p.0 p.1 q.0 q.1 r s p.3 q.3 in
      (p.2 ∙ ap (λ m. make m p.1) h.0 ∙ ap (λ n. make q.0 n) h.1 ∙ sym q.2, h.2)
  form_same (signed_pair make) i j r s p q =
      let h = signed_pair_same bytes p.0 p.1 q.0 q.1 r s p.3 q.3 in
      (p.2 ∙ ap (λ m. make m p.1) h.0 ∙ ap (λ n. make q.0 n) h.1 ∙ sym q.2, h.2)
  form_same (expression make) i j r s p q = let h = expression_same e.end bytes p.0 q.0 r s p.2 q.2 in (p.1 ∙ ap make h.0 ∙ sym q.1, h.1)
  form_same (register_expression make) i j r s p q =
      let h = register_expression_same e.end bytes p.0 q.0 p.1 q.1 r s p.3 q.3 in
      (p.2 ∙ ap (λ m. make m p.1) h.0 ∙ ap (λ n. make q.0 n) h.1 ∙ sym q.2, h.2)
  form_same unknown i j r s p q = absurd p

  signed_form : (machine : Machine) (rest : List ℕ) → machine ≡ machines.AArch64 → rest ≡ bytes → FormAt e (sign_form machine) bytes instructions.Nop rest
  signed_form machines.AArch64 rest is after = (refl, after)
  signed_form machines.X86_64 rest is after = absurd (aarch64_is_not (sym is))

  by_opcode : (op k : ℕ) (i : Instruction) (rest : List ℕ) → op ≡ k → FormAt e (form_of e k) bytes i rest → FormAt e (form_of e op) bytes i rest
  by_opcode op k i rest is at = subst (λ o. FormAt e (form_of e o) bytes i rest) (sym is) at

  pub form_at : (op : ℕ) (i : Instruction) (rest : List ℕ) → OperandsAt e op bytes i rest → FormAt e (form_of e op) bytes i rest
  form_at op instructions.Nop rest (inl h) = by_opcode op 0 _ rest h.0 (refl, h.1)
  form_at op instructions.Nop rest (inr (inl h)) = by_opcode op 45 _ rest h.0 (signed_form e.machine rest h.1 h.2)
  form_at op instructions.Nop rest (inr (inr h)) = by_opcode op 46 _ rest h.0 (h.1.0, refl, h.1.1)
  form_at op (instructions.Advance n) rest (inl h) = by_opcode op 2 _ rest h.0 (n, refl, h.1)
  form_at op (instructions.Advance n) rest (inr (inl h)) = by_opcode op 3 _ rest h.0 (n, refl, h.1)
  form_at op (instructions.Advance n) rest (inr (inr h)) = by_opcode op 4 _ rest h.0 (n, refl, h.1)
  form_at op (instructions.SetLocation a) rest h = by_opcode op 1 _ rest h.0 (a, refl, h.1)
  form_at op (instructions.Offset r n) rest h = by_opcode op 5 _ rest h.0 (r, n, refl, h.1)
  form_at op (instructions.Restore r) rest h = by_opcode op 6 _ rest h.0 (r, refl, h.1)
  form_at op (instructions.Undefined r) rest h = by_opcode op 7 _ rest h.0 (r, refl, h.1)
  form_at op (instructions.SameValue r) rest h = by_opcode op 8 _ rest h.0 (r, refl, h.1)
  form_at op (instructions.Register r s) rest h = by_opcode op 9 _ rest h.0 (r, s, refl, h.1)
  form_at op instructions.RememberState rest h = by_opcode op 10 _ rest h.0 (refl, h.1)
  form_at op instructions.RestoreState rest h = by_opcode op 11 _ rest h.0 (refl, h.1)
  form_at op (instructions.DefineCfa r n) rest h = by_opcode op 12 _ rest h.0 (r, n, refl, h.1)
  form_at op (instructions.DefineCfaRegister r) rest h = by_opcode op 13 _ rest h.0 (r, refl, h.1)
  form_at op (instructions.DefineCfaOffset n) rest h = by_opcode op 14 _ rest h.0 (n, refl, h.1)
  form_at op (instructions.DefineCfaExpression s) rest h = by_opcode op 15 _ rest h.0 (s, refl, h.1)
  form_at op (instructions.Expression r s) rest h = by_opcode op 16 _ rest h.0 (r, s, refl, h.1)
  form_at op (instructions.OffsetSigned r n) rest h = by_opcode op 17 _ rest h.0 (r, n, refl, h.1)
  form_at op (instructions.DefineCfaSigned r n) rest h = by_opcode op 18 _ rest h.0 (r, n, refl, h.1)
  form_at op (instructions.DefineCfaOffsetSigned n) rest h = by_opcode op 19 _ rest h.0 (n, refl, h.1)
  form_at op (instructions.ValueOffset r n) rest h = by_opcode op 20 _ rest h.0 (r, n, refl, h.1)
  form_at op (instructions.ValueOffsetSigned r n) rest h = by_opcode op 21 _ rest h.0 (r, n, refl, h.1)
  form_at op (instructions.ValueExpression r s) rest h = by_opcode op 22 _ rest h.0 (r, s, refl, h.1)
  form_at op (instructions.OffsetNegative r n) rest h = by_opcode op 47 _ rest h.0 (r, n, refl, h.1)

  pub operands_same : (op : ℕ) (i j : Instruction) (r s : List ℕ) → OperandsAt e op bytes i r → OperandsAt e op bytes j s → (i ≡ j) × (r ≡ s)
  operands_same op i j r s p q = form_same (form_of e op) i j r s (form_at op i r p) (form_at op j s q)

  short_same : (high low : ℕ) (i j : Instruction) (r s : List ℕ) → ShortAt high low bytes i r → ShortAt high low bytes j s → (i ≡ j) × (r ≡ s)
  short_same high low (instructions.Advance m) (instructions.Advance n) r s p q = (ap (λ k. instructions.Advance k) (p.1 ∙ sym q.1), p.2 ∙ sym q.2)
  short_same high low (instructions.Advance m) (instructions.Offset t n) r s p q = absurd (omega (arith, p.0, q.0))
  short_same high low (instructions.Advance m) (instructions.Restore t) r s p q = absurd (omega (arith, p.0, q.0))
  short_same high low (instructions.Offset t m) (instructions.Offset u n) r s p q =
      let h = uleb128_same bytes m n r s p.2 q.2 in
      (ap (λ k. instructions.Offset k m) (p.1 ∙ sym q.1) ∙ ap (λ k. instructions.Offset u k) h.0, h.1)
  short_same high low (instructions.Offset t m) (instructions.Advance n) r s p q = absurd (omega (arith, p.0, q.0))
  short_same high low (instructions.Offset t m) (instructions.Restore n) r s p q = absurd (omega (arith, p.0, q.0))
  short_same high low (instructions.Restore t) (instructions.Restore u) r s p q = (ap (λ k. instructions.Restore k) (p.1 ∙ sym q.1), p.2 ∙ sym q.2)
  short_same high low (instructions.Restore t) (instructions.Advance n) r s p q = absurd (omega (arith, p.0, q.0))
  short_same high low (instructions.Restore t) (instructions.Offset u n) r s p q = absurd (omega (arith, p.0, q.0))
  short_same high low (instructions.Advance m) _ r s p q = absurd q
  short_same high low (instructions.Offset t m) _ r s p q = absurd q
  short_same high low (instructions.Restore t) _ r s p q = absurd q
  short_same high low _ j r s p q = absurd p

-- the bytes have no such operands
abbrev pub NoForm : Encoding → Form → List ℕ → Type 0
NoForm e (plain j) bytes = ⊥
NoForm e (fixed size) bytes = length bytes < size
NoForm e location bytes = NoPointer e.pointers ((e.address + (e.end - length bytes)) % 2 ^ 64) bytes
NoForm e (unsigned make) bytes = NoUleb128 bytes
NoForm e dropped bytes = NoUleb128 bytes
NoForm e (signed make) bytes = NoSleb128 bytes
NoForm e (pair make) bytes = NoPair bytes
NoForm e (signed_pair make) bytes = NoSignedPair bytes
NoForm e (expression make) bytes = NoExpression e.end bytes
NoForm e (register_expression make) bytes = NoRegisterExpression e.end bytes
NoForm e unknown bytes = Unit {0}

no_form : (e : Encoding) (bytes : List ℕ) (f : Form) (i : Instruction) (rest : List ℕ) → NoForm e f bytes → FormAt e f bytes i rest → ⊥
no_form e bytes (plain j) i rest none at = none
no_form e bytes (fixed size) i rest none at = let w = at.2.within in omega (arith, w, none)
no_form e bytes location i rest none at = none at.0 rest at.2
no_form e bytes (unsigned make) i rest none at = none at.0 rest at.2
no_form e bytes dropped i rest none at = none at.0 rest at.2
no_form e bytes (signed make) i rest none at = none at.0 rest at.2
no_form e bytes (pair make) i rest none at = none at.0 at.1 rest at.3
no_form e bytes (signed_pair make) i rest none at = none at.0 at.1 rest at.3
no_form e bytes (expression make) i rest none at = none at.0 rest at.2
no_form e bytes (register_expression make) i rest none at = none at.0 at.1 rest at.3
no_form e bytes unknown i rest none at = at

pub none_at : (e : Encoding) (bytes : List ℕ) (op k : ℕ) → op ≡ k → NoForm e (form_of e k) bytes → NoOperands e op bytes
none_at e bytes op k is none i rest at =
    no_form e bytes (form_of e k) i rest none (subst (λ o. FormAt e (form_of e o) bytes i rest) is (form_at e bytes op i rest at))

pub instruction_same : (e : Encoding) (bytes : List ℕ) (i j : Instruction) (r s : List ℕ) → InstructionAt e bytes i r → InstructionAt e bytes j s → (i ≡ j) × (r ≡ s)
instruction_same e bytes i j r s p q =
    let ops = first_same p.opcode q.opcode p.operands q.operands (sym p.split ∙ q.split) in
    let rests = tail_same p.opcode q.opcode p.operands q.operands (sym p.split ∙ q.split) in
    elim (cases_lt q.opcode 64) [
      | inl low ↦ operands_same e q.operands q.opcode i j r s (subst (λ o. OperandsAt e o q.operands i r) ops (subst (λ (bs : List ℕ). OperandsAt e p.opcode bs i r) rests (p.whole (omega (arith, ops, low))))) (q.whole low)
      | inr high ↦ short_same e q.operands (q.opcode / 64) (q.opcode % 64) i j r s (subst (λ o. ShortAt (o / 64) (o % 64) q.operands i r) ops (subst (λ (bs : List ℕ). ShortAt (p.opcode / 64) (p.opcode % 64) bs i r) rests (p.short (omega (arith, ops, high))))) (q.short high)
    ]

no_short : (e : Encoding) (bytes : List ℕ) (low : ℕ) (i : Instruction) (rest : List ℕ) → NoUleb128 bytes → ShortAt 2 low bytes i rest → ⊥
no_short e bytes low (instructions.Advance n) rest none h = absurd (omega (arith, h.0))
no_short e bytes low (instructions.Offset r n) rest none h = none n rest h.2
no_short e bytes low (instructions.Restore r) rest none h = absurd (omega (arith, h.0))
no_short e bytes low _ rest none h = h

pub no_offset : (e : Encoding) (bytes : List ℕ) (opcode : ℕ) (operands : List ℕ) → bytes ≡ opcode ∷ operands → opcode / 64 ≡ 2 → NoUleb128 operands → NoInstruction e bytes
no_offset e bytes opcode operands split high none i rest at =
    let ops = first_same at.opcode opcode at.operands operands (sym at.split ∙ split) in
    let rests = tail_same at.opcode opcode at.operands operands (sym at.split ∙ split) in
    let big : 64 ≤ at.opcode = omega (arith, ops, high) in
    let short = subst (λ k. ShortAt k (at.opcode % 64) operands i rest) (ap (λ k. k / 64) ops ∙ high) (subst (λ (bs : List ℕ). ShortAt (at.opcode / 64) (at.opcode % 64) bs i rest) rests (at.short big)) in
    no_short e operands (at.opcode % 64) i rest none short
