use Rattle.std.proofs.Common.{◌≡◌, ℕ, ◌-◌, ◌<◌, ◌≤◌, List, length, take, drop, refl, arith, sym, ap, ◌∙◌}
use Rattle.code_symbols.specs.StringTable.{bytes_of}
use Rattle.code_symbols.specs.Strings.{IsStringAt}
use Rattle.std.proofs.lemmas.List.{get_or_past}
use Rattle.code_symbols.proofs.StringLemmas.{is_string_in}
use Rattle.code_symbols.proofs.elf.strings.Strings.string.Goals as goal

pub returns-then-start-len : goal.returns-then-start-len
returns-then-start-len c =
    let bytes : List ℕ = bytes_of c.args.self.now in
    let start : ℕ = c.args.start in
    let all = c.args.self.now.bytes.ok in
    let past : length bytes < start = omega (arith, c.if-start-len.true, c.len.ensures, all.0) in
    let none : start - start ≡ 0 = omega arith in
    let at : IsStringAt bytes start (take 0 bytes) = record {
      end = start;
      is_end = record {
        ascends = omega arith;
        one = λ k low high. absurd (omega (arith, low, high));
        ends = get_or_past bytes start 0 (omega (arith, past));
      };
      is = sym (ap (λ k. take k (drop start bytes)) none);
    } in
    record { at = at; is = is_string_in bytes start (take 0 bytes) at }

pub returns-clause-is : goal.returns-clause-is
returns-clause-is c =
    let bytes : List ℕ = bytes_of c.args.self.now in
    let start : ℕ = c.args.start in
    let end : ℕ = c.string_end-end.result in
    let all = c.args.self.now.bytes.ok in
    let same : c.deref-2.result.now ≡ bytes = c.deref-2.ensures.value in
    let within : start ≤ length bytes = omega (arith, c.if-start-len.false, c.len.ensures, all.0) in
    let at : IsStringAt bytes start (take (end - start) (drop start bytes)) = record { end = end; is_end = c.string_end-end.ensures.end within; is = refl } in
    ap (λ b. take (end - start) (drop start b)) same ∙ is_string_in bytes start (take (end - start) (drop start bytes)) at
