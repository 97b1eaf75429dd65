-- How `==`, hashes and the order of the types of user records depend on their numbers.
use Rattle.perfdata_base.specs.Comparisons.{EqualByNumber, HashesByNumber, OrderedByNumber}
use Rattle.perfdata_records.specs.UserRecordType.{user_type_number}
use Rattle.perfdata_records.specs.contracts.record.UserRecordTypePartialEq.TheImpl as equality
use Rattle.perfdata_records.specs.contracts.record.UserRecordTypeHash.TheImpl as hash
use Rattle.perfdata_records.specs.contracts.record.UserRecordTypePartialOrd.TheImpl as partial_order
use Rattle.perfdata_records.specs.contracts.record.UserRecordTypeOrd.TheImpl as order

-- `==` compares types by their numbers.
abbrev pub UserTypesEqualByNumber : Type 0
UserTypesEqualByNumber = EqualByNumber user_type_number equality.ghosts.eq

-- Equal types have the same hash.
abbrev pub UserTypesHashByNumber : Type 0
UserTypesHashByNumber = HashesByNumber user_type_number hash.ghosts.hash_input

-- The order of types is that of their numbers.
abbrev pub UserTypesOrderedByNumber : Type 0
UserTypesOrderedByNumber = OrderedByNumber user_type_number partial_order.ghosts.partial_cmp order.ghosts.cmp
