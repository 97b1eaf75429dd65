-- The steps of applying a late metadata record.
use Rattle.std.specs.Prelude.{◌≡◌, ◌≢◌, ◌⊎◌, ℕ, ◌+◌, ◌<◌, ◌≤◌, List, [], ◌∷◌, ◌++◌, length, drop, cond, nat_eq, max, ◌*◌, Option, Some, Result, Ok, Err, Vec, String, string_bytes, vec_len, vec_capacity}
use Rattle.std.specs.Option.{option_map}
use Rattle.std.specs.declared.alloc.Global.{Global}
use Rattle.perfdata_identifiers.specs.Features.{InsertsFeature}
use Rattle.perfdata_sources.specs.Endian.{number_in}
use Rattle.perfdata_sources.specs.declared.endian.Endianness.{Endianness}
use Rattle.perfdata_sections.specs.EventDesc.{IsEventDescError}
use Rattle.perfdata_sections.specs.RecordTypes.{header_attr, header_feature}
use Rattle.perfdata_sections.specs.declared.error.Error.{Error}
use Rattle.perfdata_sections.specs.declared.error.Error.TheVariants.{Memory}
use Rattle.linux_perf_data.specs.declared.attributes.lookup.AttributeLookup.{AttributeLookup}
use Rattle.linux_perf_data.specs.Attribute.{Attribute, HoldsAttribute, attribute_in, Inconsistency, AreInconsistent}
use Rattle.linux_perf_data.specs.AttributeLookup.{Represents}
use Rattle.linux_perf_data.specs.LateMetadata.{SamePerfFile, IsMetadataError}
use Rattle.linux_perf_data.specs.steps.NameTable.{HasTableWithEndian, IsTableOf, name_from_table, names_from_table}
use Rattle.linux_perf_data.specs.FeatureNumbers.{event_desc}
use Rattle.linux_perf_data.specs.steps.FirstIdIndex.{IndexesAll}
use Rattle.linux_perf_data.specs.steps.Renames.{AreRenamesFor, Rename}
use Rattle.linux_perf_data.specs.Names.{IsReadableOrAbsent, NamedByEventDesc, feature_in_body}
use Rattle.linux_perf_data.specs.steps.Names.{name_bytes_of}
use Rattle.linux_perf_data.specs.Consistency.{error_of_inconsistency}
use Rattle.linux_perf_data.specs.PerfFile.{descriptions_of_file, features_of_file, endian_of_file, feature_data_in_file, attributes_of_file}
use Rattle.linux_perf_data.specs.declared.perf_file.late_attribute.LateNames.{LateNames}
use Rattle.linux_perf_data.specs.declared.perf_file.late_attribute.LateNames.TheVariants.{Single, All}
use Rattle.linux_perf_data.specs.declared.attributes.names.NameTable.{NameTable}
use Rattle.linux_perf_data.specs.declared.perf_file.PerfFile.{PerfFile}

-- The two are equal except for the attributes.
pub record SameButAttributes (old new : PerfFile) : Type 0 where
  pub same_endian : endian_of_file new ≡ endian_of_file old
  pub features : features_of_file new ≡ features_of_file old
  pub feature_data : (n : ℕ) → feature_data_in_file new n ≡ feature_data_in_file old n

-- Memory ran out, and the contents of the `PerfFile` are unchanged.
abbrev pub UnchangedOutOfMemory : PerfFile → Error → PerfFile → Type 0
UnchangedOutOfMemory old e new = SamePerfFile old new × (e ≡ Memory)

-- The attribute vector has capacity for one more.
abbrev pub HasSpareCapacity : PerfFile → Type 0
HasSpareCapacity file = vec_len file.attributes < vec_capacity file.attributes

-- Reserves capacity for one more attribute. If there is capacity, nothing changes. Otherwise the new capacity is at most twice
-- the length plus four, or the old capacity if that is greater. The name table is unchanged.
abbrev pub ReservesOne : {A : Type 0} → PerfFile → Result A Error → PerfFile → Type 0
ReservesOne old (Ok _) new = SamePerfFile old new × HasSpareCapacity new × (HasSpareCapacity old → new ≡ old)
    × (vec_capacity new.attributes ≤ max (vec_capacity old.attributes) (2 * vec_len old.attributes + 4)) × (new.name_table ≡ old.name_table)
ReservesOne old (Err e) new = UnchangedOutOfMemory old e new

-- One attribute is appended, and `table` is the new name table.
pub record PushesNamed (old : PerfFile) (a : Attribute) (table : Option NameTable) (new : PerfFile) : Type 0 where
  pub sections : SameButAttributes old new
  pub attributes : attributes_of_file new ≡ attributes_of_file old ++ a ∷ []
  pub name_table : new.name_table ≡ table

-- The name table after a late attribute with these names is added.
abbrev pub name_table_after : PerfFile → LateNames → Option NameTable
name_table_after file (Single name) = file.name_table
name_table_after file (All table names own) = Some table

abbrev pub PushesAttribute : PerfFile → Attribute → LateNames → PerfFile → Type 0
PushesAttribute old a naming new = PushesNamed old a (name_table_after old naming) new

-- The name that the current table gives an attribute with these ids.
abbrev pub IsNameFor : PerfFile → List ℕ → Option (String Global) → Type 0
IsNameFor file ids name = (t : NameTable) × (file.name_table ≡ Some t) × (option_map string_bytes name ≡ name_from_table t ids)

-- The names that a table of EVENT_DESC gives the attributes of the `PerfFile` and one attribute with these ids.
pub record AreNamesForAll (file : PerfFile) (ids : List ℕ) (table : NameTable) (names : Vec (Option (String Global)) Global)
    (own : Option (String Global)) : Type 0 where
  pub matches : IsTableOf table (feature_data_in_file file event_desc)
  pub other_names : name_bytes_of names.items ≡ names_from_table table (descriptions_of_file file)
  pub own_name : option_map string_bytes own ≡ name_from_table table ids

abbrev pub AreLateNamesFor : PerfFile → List ℕ → LateNames → Type 0
AreLateNamesFor file ids (Single name) = IsNameFor file ids name
AreLateNamesFor file ids (All table names own) = AreNamesForAll file ids table names own

-- Looks up the names for a late attribute with these ids, in a table of this byte order. It fails if the EVENT_DESC can't be
-- read. The contract states no cause for a `Memory` error.
abbrev pub FindsLateNames : Endianness → PerfFile → List ℕ → Result LateNames Error → Type 0
FindsLateNames order file ids (Ok naming) = AreLateNamesFor file ids naming × HasTableWithEndian order (name_table_after file naming)
FindsLateNames order file ids (Err e) =
    e ≢ Memory → (bytes : List ℕ) × (feature_data_in_file file event_desc ≡ Some bytes) × IsEventDescError (number_in order) e bytes

-- The data of a feature is replaced.
pub record FeatureReplaced (old : PerfFile) (feature : ℕ) (bytes : List ℕ) (new : PerfFile) : Type 0 where
  pub same_endian : endian_of_file new ≡ endian_of_file old
  pub feature_data : (n : ℕ) → feature_data_in_file new n ≡ cond (nat_eq feature n) (Some bytes) (feature_data_in_file old n)
  pub features : InsertsFeature (features_of_file old) feature (features_of_file new)

abbrev pub ReplacesFeature : {A : Type 0} → PerfFile → ℕ → List ℕ → Result A Error → PerfFile → Type 0
ReplacesFeature old feature bytes (Ok _) new = FeatureReplaced old feature bytes new × (descriptions_of_file new ≡ descriptions_of_file old)
ReplacesFeature old feature bytes (Err e) new = UnchangedOutOfMemory old e new

-- All attributes are indexed by their first ids. On error, the contents of the `PerfFile` are unchanged.
abbrev pub IndexesFile : {A : Type 0} → PerfFile → Result A Error → PerfFile → Type 0
IndexesFile old (Ok _) new = SamePerfFile old new × IndexesAll new.first_id_index (descriptions_of_file new)
IndexesFile old (Err e) new = UnchangedOutOfMemory old e new

-- Finds the renames of the attributes by a table. The error is `Memory`.
abbrev pub FindsFileRenames : PerfFile → NameTable → Result (Vec Rename Global) Error → Type 0
FindsFileRenames file t (Ok renames) = AreRenamesFor (descriptions_of_file file) t renames.items
FindsFileRenames file t (Err e) = e ≡ Memory

-- The EVENT_DESC is replaced, and it names all attributes. On error, the contents of the `PerfFile` are unchanged.
abbrev pub ReplacesEventDesc : {A : Type 0} → Endianness → PerfFile → List ℕ → Result A Error → PerfFile → Type 0
ReplacesEventDesc order old bytes (Ok _) new = FeatureReplaced old event_desc bytes new × (attributes_of_file new ≡ attributes_of_file old)
    × NamedByEventDesc order (Some bytes) (descriptions_of_file new)
ReplacesEventDesc order old bytes (Err e) new = SamePerfFile old new × (e ≢ Memory → IsEventDescError (number_in order) e bytes)

module _ (order : Endianness) where
  -- A late attribute was applied.
  pub record AttributeApplied (lookup : AttributeLookup) (old : PerfFile) (body : List ℕ) (lookup' : AttributeLookup) (new : PerfFile) : Type 0 where
    pub valid_attribute : HoldsAttribute order body
    pub represents : (attrs : List Attribute) → Represents order lookup attrs → Represents order lookup' (attrs ++ attribute_in order body ∷ [])
    pub sections : SameButAttributes old new
    pub attributes : attributes_of_file new ≡ attributes_of_file old ++ attribute_in order body ∷ []
    pub names_match : NamedByEventDesc order (feature_data_in_file old event_desc) (descriptions_of_file new)

  -- The cause of the error: the attribute is invalid, EVENT_DESC can't be read, or it can and the attributes are inconsistent.
  abbrev pub IsAttributeError : AttributeLookup → PerfFile → List ℕ → Error → Type 0
  IsAttributeError lookup old body e =
      IsMetadataError order header_attr body e
      ⊎ ((HoldsAttribute order body × ((bytes : List ℕ) × (feature_data_in_file old event_desc ≡ Some bytes) × IsEventDescError (number_in order) e bytes))
      ⊎ ((b : Inconsistency) × HoldsAttribute order body × IsReadableOrAbsent order (feature_data_in_file old event_desc) × (e ≡ error_of_inconsistency b)
      × ((attrs : List Attribute) → Represents order lookup attrs → AreInconsistent (attrs ++ attribute_in order body ∷ []) b)))

  abbrev pub AppliesAttribute : {A : Type 0} → AttributeLookup → PerfFile → List ℕ → Result A Error → AttributeLookup → PerfFile → Type 0
  AppliesAttribute lookup old body (Ok _) lookup' new = AttributeApplied lookup old body lookup' new
  AppliesAttribute lookup old body (Err e) lookup' new =
      SamePerfFile old new × (e ≡ Memory → HoldsAttribute order body) × (e ≢ Memory → IsAttributeError lookup old body e)

  -- A late feature was applied.
  pub record FeatureApplied (old : PerfFile) (body : List ℕ) (new : PerfFile) : Type 0 where
    pub complete : 8 ≤ length body
    pub feature_replaced : FeatureReplaced old (feature_in_body order body) (drop 8 body) new
    pub attributes : attributes_of_file new ≡ attributes_of_file old
    pub names_match : feature_in_body order body ≡ event_desc → NamedByEventDesc order (Some (drop 8 body)) (descriptions_of_file new)
    pub if_other_feature : feature_in_body order body ≢ event_desc → descriptions_of_file new ≡ descriptions_of_file old

  -- The cause of the error: the feature is invalid, or it is an EVENT_DESC that can't be read.
  abbrev pub IsFeatureError : List ℕ → Error → Type 0
  IsFeatureError body e = IsMetadataError order header_feature body e
      ⊎ ((8 ≤ length body) × (feature_in_body order body ≡ event_desc) × IsEventDescError (number_in order) e (drop 8 body))

  abbrev pub AppliesFeature : {A : Type 0} → PerfFile → List ℕ → Result A Error → PerfFile → Type 0
  AppliesFeature old body (Ok _) new = FeatureApplied old body new
  AppliesFeature old body (Err e) new = SamePerfFile old new × (e ≡ Memory → 8 ≤ length body) × (e ≢ Memory → IsFeatureError body e)
