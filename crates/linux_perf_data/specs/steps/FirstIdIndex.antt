-- Steps of private functions: the index of attributes by their first ids.
use Rattle.std.specs.Prelude.{◌≡◌, ℕ, ◌+◌, ◌<◌, List, [], length, slice_index_or, Result, Ok, Err}
use Rattle.perfdata_sections.specs.declared.feature_sections.AttributeDescription.{AttributeDescription}
use Rattle.linux_perf_data.specs.declared.attributes.first_id_index.FirstIdIndex.{FirstIdIndex}
use Rattle.linux_perf_data.specs.FirstIdIndex.{id_lists_of, IndexesAttributes}

-- It contains all attributes.
abbrev pub IndexesAll : FirstIdIndex → List AttributeDescription → Type 0
IndexesAll x ds = IndexesAttributes x (id_lists_of ds) × (length x.previous.items ≡ length ds)

-- The next attribute, which has these ids, is added. On error, the index contains the same attributes as before.
abbrev pub AddsIds : {A B : Type 0} → FirstIdIndex → List ℕ → Result A B → FirstIdIndex → Type 0
AddsIds old ids (Ok _) new = (length new.previous.items ≡ length old.previous.items + 1)
    × ((lists : List (List ℕ)) → IndexesAttributes old lists → length old.previous.items < length lists
    → slice_index_or lists (length old.previous.items) [] ≡ ids → IndexesAttributes new lists)
AddsIds old ids (Err _) new = (lists : List (List ℕ)) → IndexesAttributes old lists → IndexesAttributes new lists
