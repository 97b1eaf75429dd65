-- Steps of private functions: checks of attribute consistency.
use Rattle.std.specs.Prelude.{◌≡◌, ◌≢◌, List, Bool, true, false, All, Result, Ok, Err}
use Rattle.perfdata_identifiers.specs.ParseInfo.{id_parse_info_of}
use Rattle.perfdata_sections.specs.declared.error.Error.{Error}
use Rattle.linux_perf_data.specs.Attribute.{Attribute, AreConsistent, ConformsTo, Inconsistency, FirstInconsistency, AreInconsistent}
use Rattle.linux_perf_data.specs.Consistency.{error_of_inconsistency}

-- These attributes have the same id parse info as `first`.
abbrev pub SameIdOffsets : Attribute → List Attribute → Type 0
SameIdOffsets first attrs = All (λ b. id_parse_info_of b.attr ≡ id_parse_info_of first.attr) attrs

abbrev pub TestsIdOffsets : Attribute → List Attribute → Bool → Type 0
TestsIdOffsets first attrs true = SameIdOffsets first attrs
TestsIdOffsets first attrs false = ¬ SameIdOffsets first attrs

abbrev pub TestsSampleIdAll : Bool → Bool → Bool → Type 0
TestsSampleIdAll first own true = own ≡ first
TestsSampleIdAll first own false = own ≢ first

-- Checks that each attribute has IDENTIFIER and the SAMPLE_ID_ALL of `first`. The error reports the first attribute that doesn't.
abbrev pub ChecksEach : {A : Type 0} → Attribute → List Attribute → Result A Error → Type 0
ChecksEach first attrs (Ok _) = All (ConformsTo first) attrs
ChecksEach first attrs (Err e) = (b : Inconsistency) × FirstInconsistency first attrs b × (e ≡ error_of_inconsistency b)

-- Checks that the attributes are consistent. The error reports the first inconsistency.
abbrev pub ChecksConsistency : {A : Type 0} → List Attribute → Result A Error → Type 0
ChecksConsistency attrs (Ok _) = AreConsistent attrs
ChecksConsistency attrs (Err e) = (b : Inconsistency) × AreInconsistent attrs b × (e ≡ error_of_inconsistency b)
