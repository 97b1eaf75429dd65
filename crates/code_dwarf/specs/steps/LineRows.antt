-- The rows of line programs (DWARF 5, sections 6.2.2 and 6.2.5): the sequences of a program, those that count, and the row at an address.
use Rattle.std.specs.Prelude.{◌≡◌, ℕ, ◌<◌, ◌≤◌, nat_lt, nat_le, ◌&&◌, ◌||◌, not, List, [], ◌∷◌, ◌++◌, length, slice_range, Bool, true, false, if◌then◌else◌, All}
use Rattle.std.specs.List.{Contains, filter, list_any}
use Rattle.code_dwarf.specs.steps.LineInstructions.{InstructionAt, NoInstruction}
use Rattle.code_dwarf.specs.steps.LineMachine.{initial, after, effect_of}
use Rattle.code_dwarf.specs.declared.line_header.LineHeader.{LineHeader}
use Rattle.code_dwarf.specs.declared.line_instruction.LineInstruction.{LineInstruction}
use Rattle.code_dwarf.specs.declared.line_instruction.Registers.{Registers}
use Rattle.code_dwarf.specs.declared.line_instruction.RowEffect.{RowEffect}
use Rattle.code_dwarf.specs.declared.line_instruction.RowEffect.TheVariants as effects
use Rattle.code_dwarf.specs.declared.ranges.AddressRange.{AddressRange}

-- a sequence: its rows, and the address after it
pub record Sequence : Type 0 where
  pub rows : List Registers
  pub end : ℕ

-- what there is of a program between two instructions: the sequences that ended, the rows of the one that didn't, and the registers
pub record Progress : Type 0 where
  pub ended : List Sequence
  pub rows : List Registers
  pub registers : Registers

abbrev pub at_start : Progress
at_start = record { ended = []; rows = []; registers = initial }

-- an instruction changes the registers, and then appends a row, ends the sequence, or does neither
abbrev pub moved : RowEffect → Registers → Progress → Progress
moved effects.None r p = record { ended = p.ended; rows = p.rows; registers = r }
moved effects.Row r p = record { ended = p.ended; rows = p.rows ++ r ∷ []; registers = r }
moved effects.End r p = record { ended = p.ended ++ record { rows = p.rows; end = r.address } ∷ []; rows = []; registers = initial }

abbrev pub stepped : LineHeader → LineInstruction → Progress → Progress
stepped h i p = moved (effect_of i) (after h i p.registers) p

-- the bytes start with these instructions, which lead from one progress to another, and the rest follows
abbrev pub Reads : List ℕ → LineHeader → List ℕ → Progress → List LineInstruction → List ℕ → Progress → Type 0
Reads section h bytes p [] rest q = (rest ≡ bytes) × (q ≡ p)
Reads section h bytes p (i ∷ is) rest q = (mid : List ℕ) × InstructionAt section h bytes i mid × Reads section h mid (stepped h i p) is rest q

-- the instructions of a program, if they are within the section
abbrev pub program_bytes : List ℕ → LineHeader → List ℕ
program_bytes section h =
    (if nat_le h.instructions.start h.instructions.end && nat_le h.instructions.end (length section)
    then slice_range section h.instructions.start h.instructions.end else [])

-- what a program leads to: its instructions up to the first that isn't complete, or to their end
pub record Runs (section : List ℕ) (h : LineHeader) (q : Progress) : Type 0 where
  pub instructions : List LineInstruction
  pub rest : List ℕ
  pub reads : Reads section h (program_bytes section h) at_start instructions rest q
  pub ends : NoInstruction section h rest

-- a range of code: it isn't empty, doesn't start at 0, and starts where code is
abbrev pub contains : AddressRange → ℕ → Bool
contains part a = nat_le part.start a && nat_lt a part.end

abbrev pub is_code_range : List AddressRange → ℕ → ℕ → Bool
is_code_range code start end = nat_lt 0 start && (nat_lt start end && list_any (λ part. contains part start) code)

-- whether an address of these rows, which follow a row, is below the one before it
abbrev pub descends : Registers → List Registers → Bool
descends r [] = false
descends r (s ∷ rows) = nat_lt s.address r.address || descends s rows

abbrev pub last_row : Registers → List Registers → Registers
last_row r [] = r
last_row r (s ∷ rows) = last_row s rows

-- a sequence counts if its addresses don't descend, its end included, and from its first row to its end it is a range of code
abbrev pub rows_count : List AddressRange → List Registers → ℕ → Bool
rows_count code [] end = false
rows_count code (r ∷ rows) end = not (descends r rows) && (nat_le (last_row r rows).address end && is_code_range code r.address end)

abbrev pub counts : List AddressRange → Sequence → Bool
counts code s = rows_count code s.rows s.end

abbrev pub counted : List AddressRange → List Sequence → List Sequence
counted code ss = filter (counts code) ss

-- the first address of a sequence
abbrev pub first_address : List Registers → ℕ
first_address [] = 0
first_address (r ∷ rows) = r.address

-- an address is one of a sequence
abbrev pub Holds : Sequence → ℕ → Type 0
Holds s a = (first_address s.rows ≤ a) × (a < s.end)

-- the last row whose address isn't after an address
pub record LastRow (rows : List Registers) (a : ℕ) (row : Registers) : Type 0 where
  pub earlier : List Registers
  pub later : List Registers
  pub split : rows ≡ earlier ++ row ∷ later
  pub low : row.address ≤ a
  pub high : All (λ (r : Registers). a < r.address) later

-- the row is the last one for the address of a sequence that has the address and counts
pub record RowIn (code : List AddressRange) (ended : List Sequence) (a : ℕ) (row : Registers) : Type 0 where
  pub sequence : Sequence
  pub within : Contains (counted code ended) sequence
  pub holds : Holds sequence a
  pub last : LastRow sequence.rows a row
