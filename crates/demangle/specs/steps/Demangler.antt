-- Steps of private functions: the text of a demangler.
use Rattle.std.specs.Prelude.{ℕ}
use Rattle.demangle_text.specs.Text.{limit_of}
use Rattle.demangle.specs.declared.demangler.Demangler.{Demangler}

-- the greatest number of bytes of the text
abbrev pub limit_in : Demangler → ℕ
limit_in d = limit_of d.text
