-- Checks of attribute consistency.
use Rattle.std.specs.Prelude.{ℕ, ◌+◌, List, [], ◌∷◌, if◌then◌else◌, Option, None, Some}
use Rattle.perfdata_sections.specs.declared.error.Error.{Error}
use Rattle.perfdata_sections.specs.declared.error.Error.TheVariants.{NoIdentifierDespiteMultiEvent, InconsistentSampleIdAllWithMultiEvent}
use Rattle.linux_perf_data.specs.Attribute.{Attribute, Inconsistency, missing_identifier, sample_id_all_differs, has_identifier}

-- The error that reports an inconsistency.
abbrev pub error_of_inconsistency : Inconsistency → Error
error_of_inconsistency (missing_identifier i) = NoIdentifierDespiteMultiEvent i
error_of_inconsistency (sample_id_all_differs i) = InconsistentSampleIdAllWithMultiEvent i

-- The index of the first attribute whose records lack IDENTIFIER, where the first attribute has index `i`.
abbrev pub first_without_identifier : ℕ → List Attribute → Option ℕ
first_without_identifier i [] = None
first_without_identifier i (a ∷ more) = if has_identifier a then first_without_identifier (i + 1) more else Some i
