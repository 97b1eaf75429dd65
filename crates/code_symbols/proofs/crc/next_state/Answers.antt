use Rattle.std.proofs.Common.{◌/◌, ◌%◌, ap, ◌∙◌, arith}
use Rattle.std.specs.Prelude.{bit_xor}
use Rattle.code_symbols.proofs.CrcLemmas.{nibble_step, table_at}
use Rattle.code_symbols.proofs.crc.next_state.Goals as goal

pub returns : goal.returns
returns c =
    ap (λ r. bit_xor r (c.args.state / 16)) (table_at (bit_xor c.args.state c.args.bits % 16) (omega arith))
    ∙ nibble_step c.args.state c.args.bits
