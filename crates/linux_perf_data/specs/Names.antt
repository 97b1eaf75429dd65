-- The names that the section EVENT_DESC gives a pipe's attributes.
use Rattle.std.specs.Prelude.{◌≡◌, ℕ, ◌%◌, ◌^◌, ◌==◌, Bool, false, List, [], ◌∷◌, All, if◌then◌else◌, Option, None, Some}
use Rattle.perfdata_sources.specs.Endian.{number_in}
use Rattle.perfdata_sources.specs.declared.endian.Endianness.{Endianness}
use Rattle.perfdata_sections.specs.AttributeDescription.{DescribedEvent, name_in, ids_in}
use Rattle.perfdata_sections.specs.EventDesc.{BeginsWithEventDesc, DescribesByEventDesc}
use Rattle.perfdata_sections.specs.declared.feature_sections.AttributeDescription.{AttributeDescription}

-- The feature of a record of type 80 with this body: the low 32 bits of its first u64 field. The feature's data follows that
-- field.
abbrev pub feature_in_body : Endianness → List ℕ → ℕ
feature_in_body order body = number_in order 8 body % 2 ^ 32

-- The bytes start with an EVENT_DESC that can be read.
abbrev pub IsReadableEventDesc : Endianness → List ℕ → Type 0
IsReadableEventDesc order bytes = (events : List DescribedEvent) × BeginsWithEventDesc (number_in order) bytes events

-- The EVENT_DESC is absent, or it can be read.
abbrev pub IsReadableOrAbsent : Endianness → Option (List ℕ) → Type 0
IsReadableOrAbsent order None = Unit {0}
IsReadableOrAbsent order (Some bytes) = IsReadableEventDesc order bytes

-- Both lists are nonempty and start with the same identifier.
abbrev pub same_first_id : List ℕ → List ℕ → Bool
same_first_id [] ys = false
same_first_id (x ∷ xs) [] = false
same_first_id (x ∷ xs) (y ∷ ys) = x == y

-- The name of the first description whose first id equals the first of `ids`; `None` if there is no such description.
abbrev pub name_by_first_id : List AttributeDescription → List ℕ → Option (List ℕ)
name_by_first_id [] ids = None
name_by_first_id (d ∷ ds) ids = if same_first_id (ids_in d) ids then name_in d else name_by_first_id ds ids

-- Each attribute has the name that these descriptions give it.
abbrev pub NamedBy : List AttributeDescription → List AttributeDescription → Type 0
NamedBy events ds = All (λ d. name_in d ≡ name_by_first_id events (ids_in d)) ds

-- Each attribute has the name that the EVENT_DESC with these bytes gives it, and none if the section is absent.
abbrev pub NamedByEventDesc : Endianness → Option (List ℕ) → List AttributeDescription → Type 0
NamedByEventDesc order None ds = NamedBy [] ds
NamedByEventDesc order (Some bytes) ds = (events : List AttributeDescription) × DescribesByEventDesc (number_in order) bytes events × NamedBy events ds
