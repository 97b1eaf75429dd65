use Rattle.std.proofs.Common.{arith, ◌≡◌, ◌+◌, ◌≤◌, ◌∙◌, ℕ, List, refl, ap, take, drop, length, length-drop, inr}
use Rattle.perfdata_sources.specs.Raw.{bytes_of}
use Rattle.perfdata_sources.proofs.Numbers.{first_take}
use Rattle.perfdata_records.proofs.NumberPrefixes.{number_within}
use Rattle.perfdata_records.proofs.auxtrace.Auxtrace.parse.Goals as goal

-- the size in the first 40 bytes is the one in the body, and all bytes after these 40 are in the rest
complete_len : (number : ℕ → List ℕ → ℕ) (first : (n m : ℕ) (xs : List ℕ) → n ≤ m → m ≤ length xs → number n (take m xs) ≡ number n xs) (body fixed rest : List ℕ) (size : ℕ)
    → 40 ≤ length body → fixed ≡ take 40 body → rest ≡ drop 40 body → size ≡ number 8 fixed
    → (size ≡ number 8 body) × (length body ≡ 40 + length rest)
complete_len number first body fixed rest size enough fixed_is rest_is size_is = (
  size_is ∙ ap (number 8) fixed_is ∙ first 8 40 body (omega arith) enough,
  omega (arith, length-drop 40 body, ap length rest_is),
)

pub returns-then-len-size-clause-accepts : goal.returns-then-len-size-clause-accepts
returns-then-len-size-clause-accepts g c =
    let number = g.T.ByteOrder.number_of in
    let dropped = c.in_ok-read_exact.ensures.rest in
    let all = complete_len number (first_take number g.met.T.ByteOrder.reads_first) (bytes_of c.args.body) c.read_exact.new.buf (bytes_of c.read_exact.new.self) c.read_u64-size.result
    dropped.enough c.in_ok-read_exact.ensures.read dropped.rest c.read_u64-size.ensures in
    (λ e. cc, λ holds. absurd (c.if-len-size.true (omega (arith, all.0, all.1, c.len.ensures, holds))))

pub returns-then-len-size-clause-error : goal.returns-then-len-size-clause-error
returns-then-len-size-clause-error g c =
    let number = g.T.ByteOrder.number_of in
    let dropped = c.in_ok-read_exact.ensures.rest in
    let all = complete_len number (first_take number g.met.T.ByteOrder.reads_first) (bytes_of c.args.body) c.read_exact.new.buf (bytes_of c.read_exact.new.self) c.read_u64-size.result
    dropped.enough c.in_ok-read_exact.ensures.read dropped.rest c.read_u64-size.ensures in
    inr (dropped.enough, λ holds. c.if-len-size.true (omega (arith, all.0, all.1, c.len.ensures, holds)), c.from.ensures)

pub returns-clause-accepts : goal.returns-clause-accepts
returns-clause-accepts g c =
    let number = g.T.ByteOrder.number_of in
    let dropped = c.in_ok-read_exact.ensures.rest in
    let all = complete_len number (first_take number g.met.T.ByteOrder.reads_first) (bytes_of c.args.body) c.read_exact.new.buf (bytes_of c.read_exact.new.self) c.read_u64-size.result
    dropped.enough c.in_ok-read_exact.ensures.read dropped.rest c.read_u64-size.ensures in
    (λ _. omega (arith, all.0, all.1, c.len.ensures, c.if-len-size.false), λ _. refl)

pub returns-clause-value : goal.returns-clause-value
returns-clause-value g c =
    let number = g.T.ByteOrder.number_of in
    let first = g.met.T.ByteOrder.reads_first in
    let body = bytes_of c.args.body in
    let fixed = c.read_exact.new.buf in
    let fixed_is = c.in_ok-read_exact.ensures.read in
    let dropped = c.in_ok-read_exact.ensures.rest in
    let all = complete_len number (first_take number first) body fixed (bytes_of c.read_exact.new.self) c.read_u64-size.result dropped.enough fixed_is dropped.rest c.read_u64-size.ensures in
    record {
      exact_len = omega (arith, all.0, all.1, c.len.ensures, c.if-len-size.false);
      size = all.0;
      offset = c.read_u64.ensures ∙ number_within number first 8 8 32 40 body fixed fixed_is dropped.enough (omega arith) (omega arith);
      reference = c.read_u64-2.ensures ∙ number_within number first 8 16 24 40 body fixed fixed_is dropped.enough (omega arith) (omega arith);
      index = c.read_u32.ensures ∙ number_within number first 4 24 16 40 body fixed fixed_is dropped.enough (omega arith) (omega arith);
      tid = c.read_u32-2.ensures ∙ number_within number first 4 28 12 40 body fixed fixed_is dropped.enough (omega arith) (omega arith);
      cpu = c.read_u32-3.ensures ∙ number_within number first 4 32 8 40 body fixed fixed_is dropped.enough (omega arith) (omega arith);
      aux_data = dropped.rest;
    }
