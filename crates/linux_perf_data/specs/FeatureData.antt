-- The feature sections of a file: a table with one entry per feature, in ascending order, and the bytes that each entry locates.
use Rattle.std.specs.Prelude.{◌≡◌, ℕ, ◌*◌, ◌<◌, ◌≤◌, ◌++◌, ◌⊎◌, List, [], ◌∷◌, length, take, drop, map, nat_eq, All, Option, None, Vec}
use Rattle.std.specs.Map.{lookup, update_all}
use Rattle.std.specs.Option.{option_map}
use Rattle.std.specs.declared.alloc.Global.{Global}
use Rattle.indexmap.specs.IndexMap.{IndexMap}
use Rattle.perfdata_sources.specs.Endian.{number_in}
use Rattle.perfdata_base.specs.Section.{section_entry_of}
use Rattle.perfdata_identifiers.specs.declared.features.Feature.{Feature}
use Rattle.perfdata_sources.specs.declared.endian.Endianness.{Endianness}
use Rattle.perfdata_base.specs.declared.section.PerfFileSection.{PerfFileSection}

-- A feature's number, and the range of its section.
abbrev pub FeatureEntry : Type 0
FeatureEntry = ℕ × PerfFileSection

-- The table entries of these features, of 16 bytes each, in order.
abbrev pub feature_entries_in : Endianness → List ℕ → List ℕ → List FeatureEntry
feature_entries_in order xs [] = []
feature_entries_in order xs (n ∷ ns) = (n, section_entry_of (number_in order) xs) ∷ feature_entries_in order (drop 16 xs) ns

-- The file contains all bytes of a section, or the section is truncated.
abbrev pub HoldsSection : List ℕ → PerfFileSection → Type 0
HoldsSection all s = s.size ≤ length (drop s.offset all)

abbrev pub SectionTruncated : List ℕ → PerfFileSection → Type 0
SectionTruncated all s = length (drop s.offset all) < s.size

-- The bytes of a section.
abbrev pub section_bytes : List ℕ → PerfFileSection → List ℕ
section_bytes all s = take s.size (drop s.offset all)

-- The section bytes of each entry's feature.
abbrev pub feature_bytes_by : List ℕ → List FeatureEntry → List (ℕ × List ℕ)
feature_bytes_by all es = map (λ e. (e.0, section_bytes all e.1)) es

-- The data of a feature. Each feature has one entry.
abbrev pub feature_data_by : List ℕ → List FeatureEntry → ℕ → Option (List ℕ)
feature_data_by all es = update_all nat_eq (λ _. None) (feature_bytes_by all es)

-- The first entry whose section is truncated. The sections of all earlier entries are complete.
pub record FirstTruncatedSection (all : List ℕ) (es : List FeatureEntry) : Type 0 where
  pub before : List FeatureEntry
  pub entry : FeatureEntry
  pub later : List FeatureEntry
  pub matches : es ≡ before ++ entry ∷ later
  pub complete_before : All (λ e. HoldsSection all e.1) before
  pub is_truncated_here : SectionTruncated all entry.1

module _ (order : Endianness) (all : List ℕ) (at : ℕ) (features : List ℕ) where
  -- The feature table at offset `at`.
  abbrev pub feature_table_of : List FeatureEntry
  feature_table_of = feature_entries_in order (drop at all) features

  -- The table is complete.
  abbrev pub HoldsFeatureTable : Type 0
  HoldsFeatureTable = 16 * length features ≤ length (drop at all)

  -- The table is complete, and each section is.
  abbrev pub HoldsAllSections : Type 0
  HoldsAllSections = HoldsFeatureTable × All (λ e. HoldsSection all e.1) feature_table_of

  -- The table is truncated, or a section is.
  abbrev pub SectionsTruncated : Type 0
  SectionsTruncated = (length (drop at all) < 16 * length features) ⊎ (HoldsFeatureTable × FirstTruncatedSection all feature_table_of)

-- The data of feature `n` in the map.
abbrev pub feature_data_of : {S : Type 0} → IndexMap Feature (Vec ℕ Global) S → ℕ → Option (List ℕ)
feature_data_of m n = option_map (λ v. v.items) (lookup (λ f. nat_eq n f.0) m.entries)
