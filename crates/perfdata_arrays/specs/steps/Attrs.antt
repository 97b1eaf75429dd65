-- Steps of private functions: the results for attributes, with their names and IDs.
use Rattle.std.specs.Prelude.{◌≡◌, ℕ, ◌+◌, List, length, Option, None, Some, Result}
use Rattle.perfdata_sections.specs.AttributeDescription.{ids_in}
use Rattle.perfdata_sections.specs.declared.feature_sections.AttributeDescription.{AttributeDescription}
use Rattle.perfdata_arrays.specs.steps.Metadata.{ReportsOf}
use Rattle.perfdata_arrays.specs.declared.metadata.Metadata.{Metadata}
use Rattle.perfdata_arrays.specs.declared.attrs.Attr.{Attr}
use Rattle.perfdata_arrays.specs.declared.attrs.AttrsResult.{AttrsResult}
use Rattle.perfdata_arrays.specs.declared.status.Status.{Status}
use Rattle.perfdata_arrays.specs.Attrs.{name_bytes, ExceedsU64, WritesAttrsOf, WritesNothing}

-- the end offset of an attribute's name and the end index of its IDs, or `None` if one of them doesn't fit in 64 bits
abbrev pub AreEndOffsets : AttributeDescription → ℕ → ℕ → Option (ℕ × ℕ) → Type 0
AreEndOffsets d names ids (Some ends) = (ends.0 ≡ names + length (name_bytes d)) × (ends.1 ≡ ids + length (ids_in d))
AreEndOffsets d names ids None = ExceedsU64 names ids d

-- The result for the attributes of a recording that was read.
abbrev pub ReadsAttrs : Result Metadata Status → List Attr → List ℕ → List ℕ → AttrsResult → List Attr → List ℕ → List ℕ → Type 0
ReadsAttrs read entries names ids outcome entries' names' ids' =
    ReportsOf (WritesAttrsOf entries names ids outcome entries' names' ids') (WritesNothing entries names ids outcome entries' names' ids') read
