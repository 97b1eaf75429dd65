-- A step from a frame: what is found of its caller.
use Rattle.std.specs.Prelude.{◌≡◌, ◌⊎◌, ℕ, List, [], Bool, true, false, Option, Some, None, Err, if◌then◌else◌}
use Rattle.std.specs.Option.{option_map}
use Rattle.code_cfi.specs.Tables.{IsFdeAt}
use Rattle.code_cfi.specs.FrameTables.{fdes_of, table_of, IsRowAt, NoRowAt}
use Rattle.code_cfi.specs.declared.instruction.Machine.{Machine}
use Rattle.code_cfi.specs.declared.frame_table.FrameTable.{FrameTable}
use Rattle.code_cfi.specs.declared.table.EntryTable.{EntryTable}
use Rattle.code_cfi.specs.declared.table.RowAtAddress.{RowAtAddress}
use Rattle.code_unwind.specs.Frames.{look_up_of}
use Rattle.code_unwind.specs.WithoutCfi.{is_sigreturn, at_plt, at_signal, by_frame_pointer}
use Rattle.code_unwind.specs.Rules.{ByRow}
use Rattle.code_unwind.specs.declared.stack_copy.StackCopy.{StackCopy}
use Rattle.code_unwind.specs.declared.frame.UnwoundFrame.{UnwoundFrame}
use Rattle.code_unwind.specs.declared.frame.FrameOrigin.{FrameOrigin}
use Rattle.code_unwind.specs.declared.frame.FrameOrigin.TheVariants as origins
use Rattle.code_unwind.specs.declared.frame.ChainEnd.TheVariants as ends
use Rattle.code_unwind.specs.declared.code.Plt.{Plt}
use Rattle.code_unwind.specs.declared.code.FileTables.{FileTables}
use Rattle.code_unwind.specs.declared.code.MappedCode.{MappedCode}
use Rattle.code_unwind.specs.declared.code.MappedCode.TheVariants as places
use Rattle.code_unwind.specs.declared.rules.Callee.{Callee}
use Rattle.code_unwind.specs.declared.step.CallerRegisters.{CallerRegisters}

-- the tables of a file
abbrev pub file_tables : Option FrameTable → Option FrameTable → FileTables
file_tables eh_frame debug_frame = record { eh_frame = eh_frame; debug_frame = debug_frame }

-- the entries of a table, if there is a table
abbrev pub entries_of : Option FrameTable → Option EntryTable
entries_of table = option_map (λ t. table_of t) table

-- two tables of a file have the same entries
abbrev pub HasSameEntries : FileTables → FileTables → Type 0
HasSameEntries old new = (entries_of new.eh_frame ≡ entries_of old.eh_frame) × (entries_of new.debug_frame ≡ entries_of old.debug_frame)

-- the FDE of a table at an address in the file, if there is a table
abbrev pub IsFdeIn : Option FrameTable → ℕ → Option ℕ → Type 0
IsFdeIn None address index = index ≡ None
IsFdeIn (Some t) address index = IsFdeAt (fdes_of t) address index

-- the first table of a file with an FDE at an address, and its index there
abbrev pub HasFde : FileTables → ℕ → FrameTable → ℕ → Type 0
HasFde t address table index =
    ((t.eh_frame ≡ Some table) × IsFdeAt (fdes_of table) address (Some index))
    ⊎ (IsFdeIn t.eh_frame address None × (t.debug_frame ≡ Some table) × IsFdeAt (fdes_of table) address (Some index))

abbrev pub HasNoFde : FileTables → ℕ → Type 0
HasNoFde t address = IsFdeIn t.eh_frame address None × IsFdeIn t.debug_frame address None

-- the same where something is mapped
abbrev pub CodeHasFde : MappedCode → FrameTable → ℕ → ℕ → Type 0
CodeHasFde places.Nothing table index address = ⊥
CodeHasFde (places.File tables at plt code) table index address = (address ≡ at) × HasFde tables.now at table index

abbrev pub CodeHasNoFde : MappedCode → Type 0
CodeHasNoFde places.Nothing = Unit {0}
CodeHasNoFde (places.File tables at plt code) = HasNoFde tables.now at

-- the frame as rules see it
pub record IsCallee (m : Machine) (c : StackCopy) (f : UnwoundFrame) (table : FrameTable) (callee : Callee) : Type 0 where
  pub machine_is : callee.machine ≡ m
  pub registers_are : callee.registers.now ≡ f.registers
  pub exact_is : callee.is_exact ≡ f.is_exact
  pub copy_is : callee.copy ≡ c
  pub table_is : callee.table.now ≡ table

-- how the caller was found
abbrev pub origin_by_row : Bool → FrameOrigin
origin_by_row true = origins.SignalFrame
origin_by_row false = origins.Cfi

-- what the row at an address says of the caller
pub record FoundByRow (m : Machine) (c : StackCopy) (f : UnwoundFrame) (table : FrameTable) (index address k : ℕ) (found : CallerRegisters)
    (n : ℕ) : Type 0 where
  pub row : RowAtAddress
  pub row_at : IsRowAt table index address row
  pub callee : Callee
  pub callee_is : IsCallee m c f table callee
  pub by_row : ByRow callee row k found.registers n
  pub signal_is : found.is_signal ≡ row.is_signal
  pub origin_is : found.origin ≡ origin_by_row row.is_signal

-- an FDE that has no row at the address
abbrev pub no_row : CallerRegisters
no_row = record { is_signal = false; origin = origins.Cfi; registers = Err ends.BadCfi }

abbrev pub FoundByFde : Machine → StackCopy → UnwoundFrame → FrameTable → ℕ → ℕ → ℕ → CallerRegisters → ℕ → Type 0
FoundByFde m c f table index address k found n = FoundByRow m c f table index address k found n ⊎ (NoRowAt table index address × (found ≡ no_row) × (n ≡ k))

-- what is known of code without call frame information: the call of rt_sigreturn, or a frame pointer
abbrev pub by_bytes : Machine → StackCopy → UnwoundFrame → List ℕ → CallerRegisters
by_bytes m c f code =
    (if is_sigreturn m code then record { is_signal = true; origin = origins.SignalFrame; registers = at_signal m f.registers c }
    else record { is_signal = false; origin = origins.FramePointer; registers = by_frame_pointer m f.registers c })

-- an entry of a procedure linkage table, if the frame was interrupted there
abbrev pub by_code : Machine → StackCopy → UnwoundFrame → Option Plt → List ℕ → CallerRegisters
by_code m c f None code = by_bytes m c f code
by_code m c f (Some plt) code =
    (if f.is_exact then record { is_signal = false; origin = origins.Plt; registers = at_plt m plt f.registers c } else by_bytes m c f code)

abbrev pub by_mapped_code : Machine → StackCopy → UnwoundFrame → MappedCode → CallerRegisters
by_mapped_code m c f places.Nothing = by_code m c f None []
by_mapped_code m c f (places.File tables at plt code) = by_code m c f plt code.now

-- what a step from a frame finds, where `at` relates addresses to what is mapped there. The call frame information is that at the look-up
-- address; without it the code at the program counter counts
pub record FoundByTables (at : ℕ → MappedCode → Type 0) (m : Machine) (c : StackCopy) (f : UnwoundFrame) (k : ℕ) (found : CallerRegisters)
    (n : ℕ) : Type 0 where
  pub place : MappedCode
  pub place_is : at (look_up_of f) place
  pub table : FrameTable
  pub index : ℕ
  pub address : ℕ
  pub has_fde : CodeHasFde place table index address
  pub by_fde : FoundByFde m c f table index address k found n

pub record FoundByCode (at : ℕ → MappedCode → Type 0) (m : Machine) (c : StackCopy) (f : UnwoundFrame) (k : ℕ) (found : CallerRegisters) (n : ℕ) : Type 0 where
  pub place : MappedCode
  pub place_is : at (look_up_of f) place
  pub no_fde : CodeHasNoFde place
  pub code_place : MappedCode
  pub code_place_is : at f.pc code_place
  pub found_is : found ≡ by_mapped_code m c f code_place
  pub left_is : n ≡ k

abbrev pub Finds : (ℕ → MappedCode → Type 0) → Machine → StackCopy → UnwoundFrame → ℕ → CallerRegisters → ℕ → Type 0
Finds at m c f k found n = FoundByTables at m c f k found n ⊎ FoundByCode at m c f k found n
