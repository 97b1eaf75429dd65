use Rattle.std.proofs.Common.{sym, ◌∙◌}
use Rattle.demangle_text.proofs.ReadLemmas.{no_leading}
use Rattle.demangle_text.proofs.cursor.Cursor.peek_digit.Goals as goal

pub returns-else-is_ascii_digit-clause-none : goal.returns-else-is_ascii_digit-clause-none
returns-else-is_ascii_digit-clause-none c =
    no_leading c.args.self.now.bytes.now c.args.self.now.position c.in_ok-byte.byte (sym c.peek.ensures ∙ c.in_ok-byte.was) (sym c.is_ascii_digit.ensures.value ∙ c.if-is_ascii_digit.false)
