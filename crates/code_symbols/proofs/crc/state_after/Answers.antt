use Rattle.std.proofs.Common.{◌/◌, ◌%◌, ap, ◌∙◌, arith}
use Rattle.std.specs.Prelude.{bit_xor}
use Rattle.code_symbols.specs.Crc.{crc_bits}
use Rattle.code_symbols.proofs.CrcLemmas.{two_nibbles}
use Rattle.code_symbols.proofs.crc.state_after.Goals as goal

pub returns : goal.returns
returns c =
    c.next_state-2.ensures ∙ ap (λ s. crc_bits 4 (bit_xor s (c.args.byte / 16 % 16))) c.next_state.ensures
    ∙ two_nibbles c.args.state c.args.byte (omega (arith, c.ranges.byte))
