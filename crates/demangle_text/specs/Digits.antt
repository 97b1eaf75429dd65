-- The decimal digits that bytes start with.
use Rattle.std.specs.Prelude.{ℕ, List, take_while}
use Rattle.std.specs.Char.{is_ascii_digit}

-- the decimal digits that bytes start with
abbrev pub leading_digits : List ℕ → List ℕ
leading_digits bytes = take_while is_ascii_digit bytes
