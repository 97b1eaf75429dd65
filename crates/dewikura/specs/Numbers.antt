-- Numbers that cross to C for a byte order, a truth value, the kind of an input and the style of a text.
use Rattle.std.specs.Prelude.{◌≡◌, ℕ, zero, suc, Bool, true, false, List, Option, None, Some}
use Rattle.perfdata_sources.specs.declared.endian.Endianness.{Endianness}
use Rattle.perfdata_sources.specs.declared.endian.Endianness.TheVariants.{LittleEndian, BigEndian}
use Rattle.demangle_cpp.specs.declared.Style.{Style}
use Rattle.demangle_cpp.specs.declared.Style.TheVariants.{Name, Signature}
use Rattle.linux_perf_data.specs.InputKind.{IsKindOfStart}
use Rattle.linux_perf_data.specs.declared.input_kind.InputKind.{InputKind}
use Rattle.linux_perf_data.specs.declared.input_kind.InputKind.TheVariants.{File, Pipe, JitDump}

-- little-endian for 0, big-endian for all other numbers
abbrev pub endian_from : ℕ → Endianness
endian_from zero = LittleEndian
endian_from (suc n) = BigEndian

-- the name for 0, the whole signature for all other numbers
abbrev pub style_from : ℕ → Style
style_from zero = Name
style_from (suc n) = Signature

-- 1 for true, 0 for false
abbrev pub number_of_bool : Bool → ℕ
number_of_bool false = 0
number_of_bool true = 1

-- 0 for none, 1 for a file, 2 for a pipe, 3 for a jitdump
abbrev pub number_of_kind : Option InputKind → ℕ
number_of_kind None = 0
number_of_kind (Some File) = 1
number_of_kind (Some Pipe) = 2
number_of_kind (Some JitDump) = 3

-- the number of the kind of an input that starts with these bytes
abbrev pub IsNumberOfKind : List ℕ → ℕ → Type 0
IsNumberOfKind bytes number = (kind : Option InputKind) × (number ≡ number_of_kind kind) × IsKindOfStart bytes kind
