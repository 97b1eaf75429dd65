-- The build ids in the section BUILD_ID: for each key the last entry with that key.
use Rattle.std.specs.Prelude.{◌≡◌, ℕ, ◌%◌, ◌++◌, List, [], ◌∷◌, filter_map, Option, None, Some, Result, Ok, Err}
use Rattle.std.specs.HashMap.{HashMap}
use Rattle.std.specs.Map.{lookup, update_all}
use Rattle.std.specs.Option.{option_map}
use Rattle.perfdata_sources.specs.Endian.{number_in}
use Rattle.perfdata_sources.specs.CpuMode.{cpu_mode_of}
use Rattle.perfdata_sources.specs.declared.endian.Endianness.{Endianness}
use Rattle.perfdata_records.specs.BuildIdEvent.{BuildIdEntry, IsBuildIdEntry, IsTruncatedBuildIdEntry}
use Rattle.perfdata_records.specs.DsoKey.{Key, key_in, key_of, keys_equal}
use Rattle.perfdata_records.specs.contracts.dso_key.DsoKeyPartialEq.TheImpl.{ghosts}
use Rattle.perfdata_records.specs.declared.dso_info.DsoInfo.{DsoInfo}
use Rattle.perfdata_records.specs.declared.dso_key.DsoKey.{DsoKey}
use Rattle.perfdata_sections.specs.declared.error.Error.{Error}
use Rattle.perfdata_sections.specs.declared.error.Error.TheVariants.{Memory}

abbrev pub PathAndId : Type 0
PathAndId = List ℕ × List ℕ

abbrev pub path_and_id_of : DsoInfo → PathAndId
path_and_id_of i = (i.path.items, i.build_id.items)

-- The key of an entry, with its path and build id; `None` if the path has no key.
abbrev pub keyed_entry : BuildIdEntry → Option (Key × PathAndId)
keyed_entry e = option_map (λ k. (k, (e.path, e.build_id))) (key_of e.path (cpu_mode_of (e.header.misc % 8)))

-- The path and build id of the last entry with a key, if there is one.
abbrev pub last_info : List BuildIdEntry → Key → Option PathAndId
last_info es = update_all keys_equal (λ _. None) (filter_map keyed_entry es)

-- The path and build id in the map for a key.
abbrev pub map_info_at : {S : Type 0} → HashMap DsoKey DsoInfo S → Key → Option PathAndId
map_info_at m k = option_map path_and_id_of (lookup (λ q. keys_equal k (key_in q)) m.entries)

-- The map contains the last entry of each key, and no other key.
abbrev pub MapsLastEntries : {S : Type 0} → HashMap DsoKey DsoInfo S → List BuildIdEntry → Type 0
MapsLastEntries m es = (k : Key) → map_info_at m k ≡ last_info es k

module _ (order : Endianness) where
  -- `xs` starts with these entries, and `rest` follows them.
  abbrev pub BeginsWithEntries : List ℕ → List BuildIdEntry → List ℕ → Type 0
  BeginsWithEntries xs [] rest = xs ≡ rest
  BeginsWithEntries xs (e ∷ es) rest =
      (first : List ℕ) × (after : List ℕ) × (xs ≡ first ++ after) × IsBuildIdEntry (number_in order) first e × BeginsWithEntries after es rest

  -- `xs` consists of these entries and a rest that doesn't contain a whole entry.
  abbrev pub AreBuildIdEntries : List ℕ → List BuildIdEntry → Type 0
  AreBuildIdEntries xs es = (rest : List ℕ) × BeginsWithEntries xs es rest × IsTruncatedBuildIdEntry (number_in order) rest

  -- `xs` starts with entries, and the entry after them isn't truncated.
  abbrev pub HasNextEntry : List ℕ → Type 0
  HasNextEntry xs = (es : List BuildIdEntry) × (rest : List ℕ) × BeginsWithEntries xs es rest × (¬ IsTruncatedBuildIdEntry (number_in order) rest)

  -- Parses the section BUILD_ID. The only error is `Memory`, for an entry that isn't truncated.
  abbrev pub ParsesBuildIds : {S : Type 0} → List ℕ → Result (HashMap DsoKey DsoInfo S) Error → Type 0
  ParsesBuildIds xs (Ok m) = (es : List BuildIdEntry) × AreBuildIdEntries xs es × MapsLastEntries m es
  ParsesBuildIds xs (Err e) = (e ≡ Memory) × HasNextEntry xs

  -- The build ids of an input: an empty map if the section is absent, else those in the section.
  abbrev pub AnswersBuildIds : {S : Type 0} → Option (List ℕ) → Result (HashMap DsoKey DsoInfo S) Error → Type 0
  AnswersBuildIds None (Ok m) = m.entries ≡ []
  AnswersBuildIds None (Err e) = ⊥
  AnswersBuildIds (Some xs) result = ParsesBuildIds xs result

-- The bytes of a section determine its entries.
abbrev pub BuildIdListIsUnique : Type 0
BuildIdListIsUnique = (order : Endianness) (xs : List ℕ) (es fs : List BuildIdEntry) → AreBuildIdEntries order xs es → AreBuildIdEntries order xs fs → es ≡ fs

-- `==` compares keys as `keys_equal` does, including their texts.
abbrev pub KeysEqualByTexts : Type 0
KeysEqualByTexts = (x y : DsoKey) → ghosts.eq x y ≡ keys_equal (key_in x) (key_in y)
