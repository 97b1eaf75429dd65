-- How `==`, hashes and the order of the types of jitdump records depend on their numbers.
use Rattle.std.specs.Prelude.{ℕ}
use Rattle.perfdata_base.specs.Comparisons.{EqualByNumber, HashesByNumber, OrderedByNumber}
use Rattle.perfdata_jit.specs.declared.record.JitDumpRecordType.{JitDumpRecordType}
use Rattle.perfdata_jit.specs.contracts.record.JitDumpRecordTypePartialEq.TheImpl as equality
use Rattle.perfdata_jit.specs.contracts.record.JitDumpRecordTypeHash.TheImpl as hash
use Rattle.perfdata_jit.specs.contracts.record.JitDumpRecordTypePartialOrd.TheImpl as partial_order
use Rattle.perfdata_jit.specs.contracts.record.JitDumpRecordTypeOrd.TheImpl as order

abbrev pub jit_type_number : JitDumpRecordType → ℕ
jit_type_number t = t.0

-- `==` compares types by their numbers.
abbrev pub JitTypesEqualByNumber : Type 0
JitTypesEqualByNumber = EqualByNumber jit_type_number equality.ghosts.eq

-- Equal types have the same hash.
abbrev pub JitTypesHashByNumber : Type 0
JitTypesHashByNumber = HashesByNumber jit_type_number hash.ghosts.hash_input

-- The order of types is that of their numbers.
abbrev pub JitTypesOrderedByNumber : Type 0
JitTypesOrderedByNumber = OrderedByNumber jit_type_number partial_order.ghosts.partial_cmp order.ghosts.cmp
