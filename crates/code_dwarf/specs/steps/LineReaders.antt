-- What is kept of a line program: for each sequence that counts some states of the machine in it, from which its later rows are read again.
use Rattle.std.specs.Prelude.{◌≡◌, ◌⊎◌, ℕ, ◌-◌, ◌<◌, ◌≤◌, nat_lt, nat_le, ◌&&◌, ◌||◌, not, List, [], ◌∷◌, ◌++◌, length, take, drop, slice_range, Bool, true, false, if◌then◌else◌, Option, Some, None, All}
use Rattle.std.specs.List.{AllZip}
use Rattle.code_dwarf.specs.steps.LineInstructions.{InstructionAt, NoInstruction}
use Rattle.code_dwarf.specs.steps.LineMachine.{initial, after, effect_of}
use Rattle.code_dwarf.specs.steps.LineRows.{Sequence, Progress, Runs, program_bytes, is_code_range, descends, last_row, counts, counted, first_address}
use Rattle.code_dwarf.specs.declared.line_header.LineHeader.{LineHeader}
use Rattle.code_dwarf.specs.declared.line_instruction.LineInstruction.{LineInstruction}
use Rattle.code_dwarf.specs.declared.line_instruction.Registers.{Registers}
use Rattle.code_dwarf.specs.declared.line_instruction.RowEffect.{RowEffect}
use Rattle.code_dwarf.specs.declared.line_instruction.RowEffect.TheVariants as effects
use Rattle.code_dwarf.specs.declared.line_program.Checkpoint.{Checkpoint}
use Rattle.code_dwarf.specs.declared.line_program.LineSequence.{LineSequence}
use Rattle.code_dwarf.specs.declared.line_program.LineProgram.{LineProgram}
use Rattle.code_dwarf.specs.declared.line_program.ProgramReader.{ProgramReader}
use Rattle.code_dwarf.specs.declared.ranges.AddressRange.{AddressRange}

-- the rows that an instruction appends, and the rows that instructions append, none of which ends the sequence
abbrev pub row_of : RowEffect → Registers → List Registers
row_of effects.Row r = r ∷ []
row_of _ r = []

abbrev pub Yields : List ℕ → LineHeader → List ℕ → Registers → List LineInstruction → List ℕ → Registers → List Registers → Type 0
Yields section h bytes r [] rest s rows = (rest ≡ bytes) × (s ≡ r) × (rows ≡ [])
Yields section h bytes r (i ∷ is) rest s rows =
    (mid : List ℕ) × (more : List Registers) × InstructionAt section h bytes i mid × (effect_of i ≡ effects.End → ⊥)
    × (rows ≡ row_of (effect_of i) (after h i r) ++ more) × Yields section h mid (after h i r) is rest s more

-- the instructions of a program from a state on
abbrev pub bytes_from : List ℕ → LineHeader → Checkpoint → List ℕ
bytes_from section h c = drop (length (program_bytes section h) - c.left) (program_bytes section h)

-- between two instructions, where the bytes are left, in a sequence that didn't end: the row is one of its rows, and the instructions that follow
-- give those after it
pub record IsWithin (section : List ℕ) (h : LineHeader) (rows : List Registers) (rest : List ℕ) (end : Registers) (bytes : List ℕ)
    (r row : Registers) : Type 0 where
  pub earlier : List Registers
  pub later : List Registers
  pub split : rows ≡ earlier ++ row ∷ later
  pub instructions : List LineInstruction
  pub yields : Yields section h bytes r instructions rest end later

-- and in one that ended
pub record IsBefore (section : List ℕ) (h : LineHeader) (s : Sequence) (bytes : List ℕ) (r row : Registers) : Type 0 where
  pub rest : List ℕ
  pub registers : Registers
  pub is_within : IsWithin section h s.rows rest registers bytes r row
  pub last : LineInstruction
  pub after_last : List ℕ
  pub last_at : InstructionAt section h rest last after_last
  pub ends : effect_of last ≡ effects.End

-- a state of the sequence that didn't end, and of one that ended
abbrev pub IsIn : List ℕ → LineHeader → List Registers → List ℕ → Registers → Checkpoint → Type 0
IsIn section h rows rest end c = IsWithin section h rows rest end (bytes_from section h c) c.registers c.row

abbrev pub IsOf : List ℕ → LineHeader → Sequence → Checkpoint → Type 0
IsOf section h s c = IsBefore section h s (bytes_from section h c) c.registers c.row

-- the first state has the first row
abbrev pub BeginsWith : List Checkpoint → List Registers → Type 0
BeginsWith [] [] = Unit {0}
BeginsWith (c ∷ cs) (r ∷ rows) = c.row ≡ r
BeginsWith _ _ = ⊥

-- what is kept of a sequence
pub record IsKept (section : List ℕ) (h : LineHeader) (code : List AddressRange) (states : List Checkpoint) (q : LineSequence) (s : Sequence) : Type 0 where
  pub counts_is : counts code s ≡ true
  pub starts : q.start ≡ first_address s.rows
  pub ends : q.end ≡ s.end
  pub within : q.last ≤ length states
  pub begins : BeginsWith (slice_range states q.first q.last) s.rows
  pub are : All (IsOf section h s) (slice_range states q.first q.last)

-- what is kept of a program
pub record IsProgram (section : List ℕ) (code : List AddressRange) (program : LineProgram) (p : Progress) : Type 0 where
  pub runs : Runs section program.header p
  pub kept : AllZip (IsKept section program.header code program.checkpoints.items) program.sequences.items (counted code p.ended)

-- the rows of the sequence that didn't end, as a reader notes them
abbrev pub Notes : Option Registers → Registers → Bool → List Registers → Type 0
Notes first row falls [] = (first ≡ None) × (falls ≡ false)
Notes first row falls (r ∷ rows) = (first ≡ Some r) × (row ≡ last_row r rows) × (falls ≡ descends r rows)

-- what a reader has read up to some instructions
pub record Follows (section : List ℕ) (h : LineHeader) (code : List AddressRange) (reader : ProgramReader) (p : Progress) (rest : List ℕ) : Type 0 where
  pub registers_are : reader.registers ≡ p.registers
  pub notes : Notes reader.first reader.row reader.descends p.rows
  pub start_within : reader.start ≤ length reader.checkpoints.items
  pub begins : BeginsWith (drop reader.start reader.checkpoints.items) p.rows
  pub are : All (IsIn section h p.rows rest p.registers) (drop reader.start reader.checkpoints.items)
  pub kept : AllZip (IsKept section h code (take reader.start reader.checkpoints.items)) reader.sequences.items (counted code p.ended)

-- whether the sequence of a reader counts, and what is kept of it
abbrev pub notes_count : List AddressRange → Option Registers → Registers → Bool → ℕ → Option ℕ
notes_count code None row falls end = None
notes_count code (Some r) row falls end = (if not falls && (nat_le row.address end && is_code_range code r.address end) then Some r.address else None)

-- a row was noted
abbrev pub descends_after : Option Registers → Registers → Bool → Registers → Bool
descends_after None row falls r = falls
descends_after (Some f) row falls r = falls || nat_lt r.address row.address

abbrev pub first_after : Option Registers → Registers → Option Registers
first_after None r = Some r
first_after (Some f) r = Some f

pub record NotesRow (old new : ProgramReader) : Type 0 where
  pub registers_are : new.registers ≡ old.registers
  pub first_is : new.first ≡ first_after old.first old.registers
  pub row_is : new.row ≡ old.registers
  pub descends_is : new.descends ≡ descends_after old.first old.row old.descends old.registers
  pub start_is : new.start ≡ old.start
  pub sequences_are : new.sequences.items ≡ old.sequences.items
  pub states_are : new.checkpoints.items ≡ old.checkpoints.items

-- a state was added, unless there is no row yet; the first row's is
abbrev pub AddsState : Option Registers → ℕ → List Checkpoint → Checkpoint → List Checkpoint → Type 0
AddsState None start old c new = new ≡ old
AddsState (Some f) start old c new = (new ≡ old ++ c ∷ []) ⊎ ((new ≡ old) × (start < length old))

pub record NotesState (left : ℕ) (old new : ProgramReader) : Type 0 where
  pub registers_are : new.registers ≡ old.registers
  pub first_is : new.first ≡ old.first
  pub row_is : new.row ≡ old.row
  pub descends_is : new.descends ≡ old.descends
  pub start_is : new.start ≡ old.start
  pub sequences_are : new.sequences.items ≡ old.sequences.items
  pub states_are : AddsState old.first old.start old.checkpoints.items (record { left = left; registers = old.registers; row = old.row }) new.checkpoints.items

-- the sequence ended, and is kept if it counts
abbrev pub KeepsSequence : Option ℕ → ProgramReader → ProgramReader → Type 0
KeepsSequence None old new = (new.sequences.items ≡ old.sequences.items) × (new.checkpoints.items ≡ take old.start old.checkpoints.items)
KeepsSequence (Some start) old new =
    (new.sequences.items ≡ old.sequences.items
    ++ record { start = start; end = old.registers.address; first = old.start; last = length old.checkpoints.items } ∷ [])
    × (new.checkpoints.items ≡ old.checkpoints.items)

pub record EndsSequence (code : List AddressRange) (old new : ProgramReader) : Type 0 where
  pub registers_are : new.registers ≡ initial
  pub first_is : new.first ≡ None
  pub descends_is : new.descends ≡ false
  pub start_is : new.start ≡ length new.checkpoints.items
  pub keeps : KeepsSequence (notes_count code old.first old.row old.descends old.registers.address) old new
