-- Steps of private functions: numbers at the start of some bytes: of a fixed size, and LEB128 (DWARF 5, section 7.6).
use Rattle.std.specs.Prelude.{ℕ, ◌-◌, List}
use Rattle.code_cfi.specs.Numbers.{IsLeb128, BlockAt}

-- the bytes start with no LEB128 number: they end in it, it has more than 10 bytes, or it doesn't fit 64 bits
abbrev pub NoLeb128 : List ℕ → Type 0
NoLeb128 bytes = (size : ℕ) → IsLeb128 size bytes → ⊥

-- the bytes start with no block: they start with no number, or with one of more bytes than follow
abbrev pub NoBlock : List ℕ → Type 0
NoBlock bytes = (block rest : List ℕ) → BlockAt bytes block rest → ⊥
