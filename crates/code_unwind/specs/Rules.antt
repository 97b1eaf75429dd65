-- The registers of a caller by the rules of a row (DWARF 5, section 6.4.1). Each part says how many operations of expressions are left
-- before and after it.
use Rattle.std.specs.Prelude.{◌≡◌, ◌⊎◌, ℕ, zero, suc, ◌+◌, ◌%◌, ◌^◌, ◌<◌, ◌==◌, ◌&&◌, ◌||◌, List, length, Bool, true, false, Option, Some, None, Result, Ok, Err, if◌then◌else◌, nat_lt, nat_le, slice_range}
use Rattle.code_cfi.specs.FrameTables.{bytes_of}
use Rattle.code_cfi.specs.Rows.{rule_at}
use Rattle.code_cfi.specs.declared.byte_range.ByteRange.{ByteRange}
use Rattle.code_cfi.specs.declared.instruction.Machine.{Machine}
use Rattle.code_cfi.specs.declared.instruction.Machine.TheVariants as machines
use Rattle.code_cfi.specs.declared.row.Cfa.{Cfa}
use Rattle.code_cfi.specs.declared.row.Cfa.TheVariants as cfas
use Rattle.code_cfi.specs.declared.row.Rule.{Rule}
use Rattle.code_cfi.specs.declared.row.Rule.TheVariants as rules
use Rattle.code_cfi.specs.declared.row.Row.{Row}
use Rattle.code_cfi.specs.declared.table.RowAtAddress.{RowAtAddress}
use Rattle.code_unwind.specs.Machines.{register_count, stack_pointer, pc_number}
use Rattle.code_unwind.specs.Stacks.{register_of, word_of}
use Rattle.code_unwind.specs.FrameRegisters.{no_registers, with_register}
use Rattle.code_unwind.specs.Expressions.{Evaluates}
use Rattle.code_unwind.specs.declared.registers.FrameRegisters.{FrameRegisters}
use Rattle.code_unwind.specs.declared.expression.ExpressionError.{ExpressionError}
use Rattle.code_unwind.specs.declared.expression.ExpressionError.TheVariants as errors
use Rattle.code_unwind.specs.declared.frame.ChainEnd.{ChainEnd}
use Rattle.code_unwind.specs.declared.frame.ChainEnd.TheVariants as ends
use Rattle.code_unwind.specs.declared.rules.Callee.{Callee}

-- how a chain ends at an expression that has no value
abbrev pub expression_end : ExpressionError → ChainEnd
expression_end errors.Bad = ends.BadCfi
expression_end errors.Truncated = ends.Truncated

abbrev pub ended : Result ℕ ExpressionError → Result ℕ ChainEnd
ended (Ok value) = Ok value
ended (Err e) = Err (expression_end e)

-- the expression at a span of the section
abbrev pub is_span : List ℕ → ByteRange → Bool
is_span bytes span = (if nat_le span.start span.end then nat_le span.end (length bytes) else false)

pub record HasValue (f : Callee) (span : ByteRange) (first : Option ℕ) (k : ℕ) (result : Result ℕ ChainEnd) (n : ℕ) : Type 0 where
  pub value : Result ℕ ExpressionError
  pub evaluates : Evaluates (record {
    bytes =
        slice_range (bytes_of f.table.now) span.start span.end;
    registers = f.registers.now;
    copy = f.copy;
  }) first k value n
  pub result_is : result ≡ ended value

abbrev pub ExpressionIs : Callee → ByteRange → Option ℕ → ℕ → Result ℕ ChainEnd → ℕ → Type 0
ExpressionIs f span first k result n =
    ((is_span (bytes_of f.table.now) span ≡ true) × HasValue f span first k result n)
    ⊎ ((is_span (bytes_of f.table.now) span ≡ false) × (result ≡ Err ends.BadCfi) × (n ≡ k))

-- the canonical frame address
abbrev pub plus_offset : Option ℕ → ℕ → Result ℕ ChainEnd
plus_offset None offset = Err ends.BadCfi
plus_offset (Some value) offset = Ok ((value + offset) % 2 ^ 64)

abbrev pub CfaIs : Callee → Cfa → ℕ → Result ℕ ChainEnd → ℕ → Type 0
CfaIs f cfas.Undefined k result n = (result ≡ Err ends.BadCfi) × (n ≡ k)
CfaIs f (cfas.Register register offset) k result n = (result ≡ plus_offset (register_of f.registers.now register) offset) × (n ≡ k)
CfaIs f (cfas.Expression span) k result n = ExpressionIs f span None k result n

-- below the stack pointer a stored word is popped already, or not stored yet
abbrev pub is_popped : Option ℕ → ℕ → Bool
is_popped None address = false
is_popped (Some top) address = nat_lt address top

-- whether a register has its own value where the word that it is stored in is popped. The return address and the stack pointer don't, since they
-- would be the frame's own again; x30 of AArch64 does in a frame that was interrupted, since an epilogue loads it before it returns
abbrev pub keeps_popped : Machine → Bool → ℕ → Bool → Bool
keeps_popped m is_exact register false = true
keeps_popped machines.X86_64 is_exact register true = false
keeps_popped machines.AArch64 false register true = false
keeps_popped machines.AArch64 true register true = register == 30

-- without the return address and the stack pointer there is no caller
abbrev pub found_word : Bool → Option ℕ → Result (Option ℕ) ChainEnd
found_word needed (Some word) = Ok (Some word)
found_word true None = Err ends.Truncated
found_word false None = Ok None

-- the value of a register that is stored at an address
abbrev pub stored_value : Callee → ℕ → Bool → ℕ → Result (Option ℕ) ChainEnd
stored_value f register needed address =
    (if is_popped (register_of f.registers.now (stack_pointer f.machine)) address && keeps_popped f.machine f.is_exact register needed
    then Ok (register_of f.registers.now register)
    else found_word needed (word_of f.copy address 8))

abbrev pub stored_value_at : Callee → ℕ → Bool → Result ℕ ChainEnd → Result (Option ℕ) ChainEnd
stored_value_at f register needed (Ok address) = stored_value f register needed address
stored_value_at f register needed (Err e) = Err e

abbrev pub known_value : Result ℕ ChainEnd → Result (Option ℕ) ChainEnd
known_value (Ok value) = Ok (Some value)
known_value (Err e) = Err e

-- the same value, but the stack pointer is the CFA
abbrev pub same_value : Callee → ℕ → ℕ → Option ℕ
same_value f register cfa = (if register == stack_pointer f.machine then Some cfa else register_of f.registers.now register)

-- the caller's value of a register by its rule
abbrev pub ValueIs : Callee → ℕ → Bool → ℕ → Rule → ℕ → Result (Option ℕ) ChainEnd → ℕ → Type 0
ValueIs f register needed cfa rules.SameValue k result n = (result ≡ Ok (same_value f register cfa)) × (n ≡ k)
ValueIs f register needed cfa rules.Undefined k result n = (result ≡ Ok None) × (n ≡ k)
ValueIs f register needed cfa (rules.Offset offset) k result n = (result ≡ stored_value f register needed ((cfa + offset) % 2 ^ 64)) × (n ≡ k)
ValueIs f register needed cfa (rules.ValueOffset offset) k result n = (result ≡ Ok (Some ((cfa + offset) % 2 ^ 64))) × (n ≡ k)
ValueIs f register needed cfa (rules.Register other) k result n = (result ≡ Ok (register_of f.registers.now other)) × (n ≡ k)
ValueIs f register needed cfa (rules.Expression span) k result n =
    (address : Result ℕ ChainEnd) × ExpressionIs f span (Some cfa) k address n × (result ≡ stored_value_at f register needed address)
ValueIs f register needed cfa (rules.ValueExpression span) k result n =
    (value : Result ℕ ChainEnd) × ExpressionIs f span (Some cfa) k value n × (result ≡ known_value value)

-- without these registers there is no caller
abbrev pub is_needed : Callee → RowAtAddress → ℕ → Bool
is_needed f found register = (register == found.return_address) || (register == stack_pointer f.machine)

abbrev pub RegisterIs : Callee → RowAtAddress → ℕ → ℕ → ℕ → Result (Option ℕ) ChainEnd → ℕ → Type 0
RegisterIs f found cfa register k result n = ValueIs f register (is_needed f found register) cfa (rule_at found.row register) k result n

-- the caller's value of a register is set by its rule
abbrev pub SetsRegister : Callee → RowAtAddress → ℕ → ℕ → ℕ → FrameRegisters → FrameRegisters → ℕ → Type 0
SetsRegister f found cfa register k before after n =
    (value : Option ℕ) × RegisterIs f found cfa register k (Ok value) n × (after ≡ with_register before register value)

-- the registers below a number have values by their rules, taken in order
abbrev pub ValuesBelow : Callee → RowAtAddress → ℕ → ℕ → ℕ → FrameRegisters → ℕ → Type 0
ValuesBelow f found cfa zero k values n = (values ≡ no_registers) × (n ≡ k)
ValuesBelow f found cfa (suc register) k values n =
    (before : FrameRegisters) × (mid : ℕ) × ValuesBelow f found cfa register k before mid × SetsRegister f found cfa register mid before values n

-- the values of all registers, or the end at the first that has none
abbrev pub ValuesAre : Callee → RowAtAddress → ℕ → ℕ → Result FrameRegisters ChainEnd → ℕ → Type 0
ValuesAre f found cfa k (Ok values) n = ValuesBelow f found cfa (register_count f.machine) k values n
ValuesAre f found cfa k (Err e) n =
    (register : ℕ) × (before : FrameRegisters) × (mid : ℕ) × (register < register_count f.machine)
    × ValuesBelow f found cfa register k before mid × RegisterIs f found cfa register mid (Err e) n

-- the rule of a register; those that the machine doesn't have have none
abbrev pub register_rule : Machine → Row → ℕ → Rule
register_rule m row register = (if nat_lt register (register_count m) then rule_at row register else rules.SameValue)

-- the return address is the caller's value of its column. Without a rule it is in x30, if the frame was interrupted
abbrev pub link_register : Machine → Bool → FrameRegisters → Result (Option ℕ) ChainEnd
link_register machines.X86_64 exact r = Err ends.BadCfi
link_register machines.AArch64 true r = Ok (register_of r 30)
link_register machines.AArch64 false r = Err ends.BadCfi

abbrev pub return_address_by : Callee → RowAtAddress → FrameRegisters → Rule → Result (Option ℕ) ChainEnd
return_address_by f found caller rules.Undefined = Err ends.Root
return_address_by f found caller rules.SameValue = link_register f.machine f.is_exact f.registers.now
return_address_by f found caller _ = Ok (register_of caller found.return_address)

abbrev pub caller_return_address : Callee → RowAtAddress → FrameRegisters → Result (Option ℕ) ChainEnd
caller_return_address f found caller = return_address_by f found caller (register_rule f.machine found.row found.return_address)

abbrev pub with_pc : Machine → FrameRegisters → Result (Option ℕ) ChainEnd → Result FrameRegisters ChainEnd
with_pc m caller (Ok pc) = Ok (with_register caller (pc_number m) pc)
with_pc m caller (Err e) = Err e

-- the caller's registers after the CFA
abbrev pub AfterCfa : Callee → RowAtAddress → Result ℕ ChainEnd → ℕ → Result FrameRegisters ChainEnd → ℕ → Type 0
AfterCfa f found (Err e) k result n = (result ≡ Err e) × (n ≡ k)
AfterCfa f found (Ok cfa) k result n =
    ((e : ChainEnd) × ValuesAre f found cfa k (Err e) n × (result ≡ Err e))
    ⊎ ((values : FrameRegisters) × ValuesAre f found cfa k (Ok values) n × (result ≡ with_pc f.machine values (caller_return_address f found values)))

-- the caller's registers by a row
abbrev pub ByRow : Callee → RowAtAddress → ℕ → Result FrameRegisters ChainEnd → ℕ → Type 0
ByRow f found k result n = (cfa : Result ℕ ChainEnd) × (mid : ℕ) × CfaIs f found.row.cfa k cfa mid × AfterCfa f found cfa mid result n
