use Rattle.code_symbols.proofs.TextLemmas.{hex_digits_utf8}
use Rattle.code_symbols.proofs.text.hex_number.Goals as goal

pub returns-in-Err : goal.returns-in-Err
returns-in-Err c = λ h. c.in-Err.ensures.cases.0 (hex_digits_utf8 c.args.digits.now h.0.1)
