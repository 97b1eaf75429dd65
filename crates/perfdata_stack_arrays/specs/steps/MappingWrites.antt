-- Mappings and text that are written after others.
use Rattle.std.specs.Prelude.{◌≡◌, ℕ, ◌+◌, List, [], ◌∷◌, length, Option, None, Some}
use Rattle.perfdata_arrays.specs.Overwrites.{with_entries_at}
use Rattle.perfdata_spaces.specs.Mappings.{MappingValue}
use Rattle.perfdata_stack_arrays.specs.Arrays.{saturated}
use Rattle.perfdata_stack_arrays.specs.Mappings.{mapping_entry_of}
use Rattle.perfdata_stack_arrays.specs.declared.mapping.StackMapping.{StackMapping}
use Rattle.perfdata_stack_arrays.specs.declared.state.TextCounts.{TextCounts}

-- The numbers with more bytes of text.
abbrev pub with_text : TextCounts → List ℕ → TextCounts
with_text counts bytes = record { mappings = counts.mappings; text = saturated (counts.text + length bytes) }

abbrev pub with_mapping : TextCounts → TextCounts
with_mapping counts = record { mappings = saturated (counts.mappings + 1); text = counts.text }

-- A mapping, if there is one, and its path are written after those of others.
abbrev pub WritesMapping : TextCounts → Option MappingValue → List StackMapping → List ℕ → TextCounts → List StackMapping → List ℕ → Type 0
WritesMapping counts None mappings text counts' mappings' text' = (counts' ≡ counts) × (mappings' ≡ mappings) × (text' ≡ text)
WritesMapping counts (Some m) mappings text counts' mappings' text' = (counts' ≡ with_text (with_mapping counts) m.path)
    × (mappings' ≡ with_entries_at counts.mappings (mapping_entry_of counts.text m ∷ []) mappings)
    × (text' ≡ with_entries_at counts.text m.path text)
