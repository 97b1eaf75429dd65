use Rattle.std.proofs.Common.{sym, arith}
use Rattle.code_symbols.proofs.ByteLemmas.{found_byte, missing_byte}
use Rattle.code_symbols.proofs.elf.strings.byte_offset.Goals as goal

pub returns-in-Some : goal.returns-in-Some
returns-in-Some c = record {
  is = sym (found_byte c.args.byte c.args.bytes.now c.in-Some.at c.in-Some.ensures.0 c.in-Some.ensures.1);
  within = omega (arith, c.in-Some.ensures.0.high);
}

pub returns-in-None : goal.returns-in-None
returns-in-None c = record {
  is = sym (missing_byte c.args.byte c.args.bytes.now c.in-None.ensures);
  within = omega arith;
}
