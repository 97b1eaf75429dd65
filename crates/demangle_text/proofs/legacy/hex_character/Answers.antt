use Rattle.std.proofs.Common.{sym}
use Rattle.demangle_text.proofs.HexLemmas.{hex_none, visible_small, visible_is}
use Rattle.demangle_text.proofs.legacy.hex_character.Goals as goal

pub returns-in_err-hex_number : goal.returns-in_err-hex_number
returns-in_err-hex_number c =
    rw c.from_residual.ensures (sym (hex_none c.args.digits.now (λ all is. c.in_err-hex_number.ensures (all, visible_small _ is))))

pub returns : goal.returns
returns c =
    visible_is c.args.digits.now c.in_ok-hex_number.field-0 c.visible.result c.in_ok-hex_number.ensures.0.0 c.in_ok-hex_number.ensures.1 c.visible.ensures
