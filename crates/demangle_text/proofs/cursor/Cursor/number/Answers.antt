use Rattle.std.proofs.Common.{arith, ap, length, List, ℕ}
use Rattle.std.specs.Str.Parse.{digits_value}
use Rattle.demangle_text.specs.Cursor.{unread}
use Rattle.demangle_text.specs.Digits.{leading_digits}
use Rattle.demangle_text.proofs.ReadLemmas.{digit_limit, digit_position, digit_step, digit_within}
use Rattle.demangle_text.proofs.cursor.Cursor.number.Goals as goal

pub returns-in_default-push_digit-clause-number : goal.returns-in_default-push_digit-clause-number
returns-in_default-push_digit-clause-number c =
    omega (arith, digit_limit c.digits.self c.digits.number c.in-Some.digit (digits_value 10 (leading_digits (unread c.args.self.now))) c.in-Some.ensures.some c.digits.invariant.3, c.in_default-push_digit.ensures)

pub overflow_add-self : goal.overflow_add-self
overflow_add-self c =
    let within = digit_within c.digits.self c.in-Some.digit c.in-Some.ensures.some in
    let same = c.digits.invariant.0 in
    record { fits = omega (arith, within, ap (λ (bs : List ℕ). length bs) same, c.digits.invariant.4) }

pub digits-smaller : goal.digits-smaller
digits-smaller c = omega (arith, digit_within c.digits.self c.in-Some.digit c.in-Some.ensures.some)

pub digits-preserved : goal.digits-preserved
digits-preserved c = (
  c.digits.invariant.0,
  omega (arith, c.digits.invariant.1),
  omega (arith, digit_position c.digits.self c.in-Some.digit c.in-Some.ensures.some, c.digits.invariant.2),
  digit_step c.digits.self c.digits.number c.in-Some.digit c.in-Some-push_digit.next (digits_value 10 (leading_digits (unread c.args.self.now))) c.in-Some.ensures.some c.in-Some-push_digit.ensures.1 c.digits.invariant.3,
  c.digits.invariant.4,
)
