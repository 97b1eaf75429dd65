use Rattle.std.proofs.Common.{◌≡◌, ◌-◌, ◌+◌, ◌<◌, ◌≤◌, ◌^◌, length}
use Rattle.std.specs.Str.Parse.{digits_value, digits_value_after}
use Rattle.demangle_text.specs.Cursor.{bytes_of, position_of, unread}
use Rattle.demangle_text.specs.Digits.{leading_digits}
use Rattle.demangle_text.proofs.cursor.Cursor.number.Given as goal

abbrev pub invariant-digits : goal.invariant-digits
invariant-digits l =
    (bytes_of l.self ≡ bytes_of l.fn.self)
    × (position_of l.fn.self ≤ position_of l.self)
    × (position_of l.self + length (leading_digits (unread l.self)) ≡ position_of l.fn.self + length (leading_digits (unread l.fn.self)))
    × (digits_value_after 10 l.number (leading_digits (unread l.self)) ≡ digits_value 10 (leading_digits (unread l.fn.self)))
    × (length (bytes_of l.fn.self) < 2 ^ 64)

abbrev pub decreases-digits : goal.decreases-digits
decreases-digits l = length (bytes_of l.self) - position_of l.self
