-- The effect of a late metadata record on a `PerfFile`.
use Rattle.std.proofs.Common.{◌≡◌, ◌≢◌, ℕ, List, [], ◌∷◌, ◌++◌, length, drop, refl, sym, ap, ◌∙◌, subst, arith, inl, inr, append-nil, Some}
use Rattle.std.specs.Prelude.{◌⊎◌, cond, nat_eq, Result, Ok, Err, Vec, vec_len}
use Rattle.std.proofs.lemmas.List.{length-map}
use Rattle.perfdata_identifiers.specs.ParseInfo.{parse_info_of}
use Rattle.perfdata_identifiers.specs.Features.{HasFeature, InsertsFeature}
use Rattle.perfdata_sources.specs.declared.attr.PerfEventAttr.{PerfEventAttr}
use Rattle.perfdata_identifiers.specs.declared.features.FeatureSet.{FeatureSet}
use Rattle.perfdata_sections.specs.Error.{IsInvalidInput}
use Rattle.perfdata_sources.specs.Endian.{number_in}
use Rattle.perfdata_sources.specs.declared.endian.Endianness.{Endianness}
use Rattle.perfdata_sections.specs.EventDesc.{IsEventDescError}
use Rattle.perfdata_sections.specs.declared.feature_sections.AttributeDescription.{AttributeDescription}
use Rattle.perfdata_sections.specs.declared.error.Error.{Error}
use Rattle.perfdata_sections.specs.declared.error.Error.TheVariants.{Memory, Failed}
use Rattle.linux_perf_data.specs.declared.attributes.lookup.AttributeLookup.{AttributeLookup}
use Rattle.linux_perf_data.specs.declared.perf_file.PerfFile.{PerfFile}
use Rattle.linux_perf_data.specs.Attribute.{Attribute, HoldsAttribute, attribute_in, Inconsistency, AreInconsistent, missing_identifier, sample_id_all_differs}
use Rattle.linux_perf_data.specs.Descriptions.{described_attribute, described_attributes}
use Rattle.linux_perf_data.specs.AttributeLookup.{Represents}
use Rattle.linux_perf_data.specs.LateMetadata.{SamePerfFile, IsMetadataType, SameAttributeCount, IsMetadataError, AppliesMetadata}
use Rattle.linux_perf_data.specs.steps.LateSteps.{FeatureReplaced, FindsFileRenames, FindsLateNames, AreLateNamesFor, IsAttributeError, PushesAttribute, AttributeApplied, AppliesAttribute, AppliesFeature, name_table_after}
use Rattle.linux_perf_data.specs.steps.NameTable.{HasTableWithEndian, IsTableOf, name_from_table, names_from_table}
use Rattle.linux_perf_data.specs.FeatureNumbers.{event_desc}
use Rattle.linux_perf_data.specs.Names.{IsReadableOrAbsent, NamedBy, NamedByEventDesc}
use Rattle.linux_perf_data.specs.steps.Renames.{AreRenamesFor, FindsRenames, KeepsName, Rename}
use Rattle.linux_perf_data.specs.declared.attributes.names.NameTable.{NameTable}
use Rattle.std.specs.declared.alloc.Global.{Global}
use Rattle.linux_perf_data.specs.PerfFile.{descriptions_of_file, features_of_file, feature_data_in_file, attributes_of_file}
use Rattle.linux_perf_data.specs.Consistency.{error_of_inconsistency}
use Rattle.linux_perf_data.specs.declared.perf_file.late_attribute.LateNames.{LateNames}
use Rattle.linux_perf_data.specs.declared.perf_file.late_attribute.LateNames.TheVariants.{Single, All}
use Rattle.linux_perf_data.proofs.NameTables.{named_by_kept, named_can, table_can}
use Rattle.linux_perf_data.proofs.RenameLemmas.{renames_for, renames_for_all}

-- ---- an attribute

-- reserving memory for a late attribute leaves its names unchanged
pub fits_reserved : (file reserved : PerfFile) (ids own : List ℕ) (naming : LateNames) → SamePerfFile file reserved → reserved.name_table ≡ file.name_table → own ≡ ids → AreLateNamesFor file ids naming → AreLateNamesFor reserved own naming
fits_reserved file reserved ids own (Single name) same same_table is (t, there, its) = (t, same_table ∙ there, its ∙ ap (name_from_table t) (sym is))
fits_reserved file reserved ids own (All table names name) same same_table is f = record {
  matches = subst (IsTableOf table) (sym (same.feature_data event_desc)) f.matches;
  other_names = f.other_names ∙ ap (names_from_table table) (sym same.descriptions);
  own_name = f.own_name ∙ ap (name_from_table table) (sym is);
}

table_after_reserve : (file reserved : PerfFile) (naming : LateNames) → reserved.name_table ≡ file.name_table → name_table_after reserved naming ≡ name_table_after file naming
table_after_reserve file reserved (Single name) same_table = same_table
table_after_reserve file reserved (All table names name) same_table = refl

-- the attributes of a `PerfFile` that keeps a name table have their names
named_of : (order : Endianness) (file : PerfFile) → HasTableWithEndian order file.name_table → NamedByEventDesc order (feature_data_in_file file event_desc) (descriptions_of_file file)
named_of order file is = named_by_kept order file.name_table (feature_data_in_file file event_desc) (descriptions_of_file file) is file.names_match_table file.empty_without_event_desc file.table_readable file.table_events_match

-- an EVENT_DESC that contains names is readable
pub found_can : (order : Endianness) (file : PerfFile) (ids : List ℕ) (naming : LateNames) → FindsLateNames order file ids (Ok naming) → IsReadableOrAbsent order (feature_data_in_file file event_desc)
found_can order file ids (Single name) (fits, is) = named_can order (feature_data_in_file file event_desc) (descriptions_of_file file) (named_of order file is)
found_can order file ids (All table names name) (fits, is) = table_can order table (feature_data_in_file file event_desc) is fits.matches

pub attribute_applied : (order : Endianness) (lookup lookup' : AttributeLookup) (file reserved new : PerfFile) (body : List ℕ) (a : Attribute) (d : AttributeDescription) (naming : LateNames) (ids : List ℕ) → HoldsAttribute order body → a ≡ attribute_in order body
    → FindsLateNames order file ids (Ok naming) → SamePerfFile file reserved → reserved.name_table ≡ file.name_table → ((attrs : List Attribute) → Represents order lookup attrs → Represents order lookup' (attrs ++ a ∷ [])) → described_attribute d ≡ a
    → PushesAttribute reserved (described_attribute d) naming new → AttributeApplied order lookup file body lookup' new
attribute_applied order lookup lookup' file reserved new body a d naming ids holds is found same same_table represents_more one put =
    let attrs : attributes_of_file new ≡ attributes_of_file file ++ a ∷ [] = put.attributes ∙ ap (λ l. l ++ described_attribute d ∷ []) (ap described_attributes same.descriptions) ∙ ap (λ b. attributes_of_file file ++ b ∷ []) one in
    let bytes : (n : ℕ) → feature_data_in_file new n ≡ feature_data_in_file file n = λ n. put.sections.feature_data n ∙ same.feature_data n in
    let table : new.name_table ≡ name_table_after file naming = put.name_table ∙ table_after_reserve file reserved naming same_table in
    let have : NamedByEventDesc order (feature_data_in_file new event_desc) (descriptions_of_file new) = named_of order new (subst (HasTableWithEndian order) (sym table) found.1) in record {
      valid_attribute = holds;
      represents = λ all k. subst (λ b. Represents order lookup' (all ++ b ∷ [])) is (represents_more all k);
      sections = record {
        same_endian = put.sections.same_endian ∙ same.same_endian;
        features = put.sections.features ∙ same.features;
        feature_data = bytes;
      };
      attributes = attrs ∙ ap (λ b. attributes_of_file file ++ b ∷ []) is;
      names_match = subst (λ o. NamedByEventDesc order o (descriptions_of_file new)) (bytes event_desc) have;
    }

-- the late attribute is inconsistent, or memory runs out
abbrev with_ids : PerfEventAttr → List ℕ → Attribute
with_ids attr ids = record { attr = attr; ids = ids }

pub added_not : (order : Endianness) (lookup : AttributeLookup) (file : PerfFile) (body : List ℕ) (attr : PerfEventAttr) (own added_ids ids : List ℕ) (naming : LateNames) (e : Error) → HoldsAttribute order body → own ≡ added_ids → with_ids attr added_ids ≡ attribute_in order body
    → FindsLateNames order file ids (Ok naming) → (e ≡ Memory) ⊎ ((b : Inconsistency) × (e ≡ error_of_inconsistency b) × ((attrs : List Attribute) → Represents order lookup attrs → AreInconsistent (attrs ++ with_ids attr own ∷ []) b))
    → (e ≡ Memory → HoldsAttribute order body) × (e ≢ Memory → IsAttributeError order lookup file body e)
added_not order lookup file body attr own added_ids ids naming e holds same is found reason = (
  λ _. holds,
  λ other. elim reason [
    | inl memory ↦ absurd (other memory)
    | inr (b, error_is, breaks) ↦
        let all : with_ids attr own ≡ attribute_in order body = ap (with_ids attr) same ∙ is in
        inr (inr (b, holds, found_can order file ids naming found, error_is, λ attrs k. subst (λ a. AreInconsistent (attrs ++ a ∷ []) b) all (breaks attrs k)))
  ],
)

-- ---- an attribute or a feature, as a record of its type

metadata_error_unfailed : (order : Endianness) (record_type : ℕ) (body : List ℕ) (e : Error) → IsMetadataError order record_type body e → e ≢ Failed
metadata_error_unfailed order record_type body e metadata_error f = elim (subst (IsMetadataError order record_type body) f metadata_error) [
  | inl eof ↦ absurd eof.0
  | inr small ↦ absurd small.0
]

desc_unfailed : (order : Endianness) (bytes : List ℕ) (e : Error) → IsEventDescError (number_in order) e bytes → e ≢ Failed
desc_unfailed order bytes e none f = elim (subst (λ t. IsEventDescError (number_in order) t bytes) f none) [
  | inl eof ↦ absurd eof.0
  | inr stops ↦ elim stops.error_here [ inl frame ↦ absurd frame | inr tail ↦ absurd tail.1 ]
]

inconsistency_unfailed : (b : Inconsistency) (e : Error) → e ≡ error_of_inconsistency b → e ≢ Failed
inconsistency_unfailed (missing_identifier i) e is f = cc
inconsistency_unfailed (sample_id_all_differs i) e is f = cc

memory_unfailed : (e : Error) → e ≡ Memory → e ≢ Failed
memory_unfailed e is f = cc

unfailed : (e : Error) → (e ≢ Memory → e ≢ Failed) → e ≢ Failed
unfailed e other f = other (λ m. memory_unfailed e m f) f

-- a file with the features of another has the same features
same_features : (old new : FeatureSet) (n : ℕ) → new ≡ old → HasFeature new n → HasFeature old n
same_features old new n same has = subst (λ set. HasFeature set n) same has

same_count : (order : Endianness) (lookup : AttributeLookup) (file : PerfFile) → vec_len file.attributes ≡ vec_len lookup.parse_infos → SameAttributeCount order lookup file
same_count order lookup file counted attrs k =
    let there = file.attributes.ok in
    let here = lookup.parse_infos.ok in
    let counts = ap length k.parse_infos in
    let all = length-map attrs (λ a. parse_info_of a.attr order) in
    omega (arith, there, here, counts, all, counted)

attribute_at : {A : Type 0} (order : Endianness) (lookup lookup' : AttributeLookup) (file new : PerfFile) (body : List ℕ) (r : Result A Error) → SameAttributeCount order lookup file → AppliesAttribute order lookup file body r lookup' new → AppliesMetadata order lookup file 64 body r lookup' new
attribute_at order lookup lookup' file new body (Ok _) count t = record {
  same_attribute_count = λ _. count;
  valid_attribute = λ _. t.valid_attribute;
  valid_feature = λ k. absurd (omega (arith, k));
  represents = t.represents;
  file_updates = record {
    same_endian = t.sections.same_endian;
    attributes = t.attributes;
    feature_data = t.sections.feature_data;
    features = λ n. (
      λ has. inl (same_features (features_of_file file) (features_of_file new) n t.sections.features has),
      λ either. elim either [
        | inl has ↦ same_features (features_of_file new) (features_of_file file) n (sym t.sections.features) has
        | inr (low, added) ↦ absurd (omega (arith, added.1))
      ],
    );
    names_match = λ _. subst (λ desc. NamedByEventDesc order desc (descriptions_of_file new)) (sym (t.sections.feature_data event_desc)) t.names_match;
    if_not_renamed = λ none. absurd (none (inl refl));
  };
}
attribute_at order lookup lookup' file new body (Err e) count (same, memory, reason) = record {
  same_file = same;
  metadata_type = inl refl;
  not_failed = unfailed e (λ m. elim (reason m) [
    | inl metadata_error ↦ metadata_error_unfailed order 64 body e metadata_error
    | inr (inl (holds, (bytes, there, none))) ↦ desc_unfailed order bytes e none
    | inr (inr (b, holds, can, is, breaks)) ↦ inconsistency_unfailed b e is
  ]);
  if_out_of_memory = λ m. (count, inl (refl, memory m));
  cause = λ m. inr (
    count,
    elim (reason m) [
      | inl metadata_error ↦ inl metadata_error
      | inr (inl (holds, (bytes, there, none))) ↦ inr (inl (bytes, inl (refl, holds, there), none))
      | inr (inr (b, holds, can, is, breaks)) ↦ inr (inr (b, refl, holds, can, is, breaks))
    ],
  );
}

pub attribute_record_applied : {A : Type 0} (order : Endianness) (lookup lookup' : AttributeLookup) (file new : PerfFile) (record_type : ℕ) (body : List ℕ) (r : Result A Error) → record_type ≡ 64 → vec_len file.attributes ≡ vec_len lookup.parse_infos → AppliesAttribute order lookup file body r lookup' new → AppliesMetadata order lookup file record_type body r lookup' new
attribute_record_applied {A = A} order lookup lookup' file new record_type body r is counted applies = subst (λ k. AppliesMetadata order {A = A} lookup file k body r lookup' new) (sym is) (attribute_at order lookup lookup' file new body r (same_count order lookup file counted) applies)

feature_at : {A : Type 0} (order : Endianness) (lookup : AttributeLookup) (file new : PerfFile) (body : List ℕ) (r : Result A Error) → SameAttributeCount order lookup file → AppliesFeature order file body r new → AppliesMetadata order lookup file 80 body r lookup new
feature_at order lookup file new body (Ok _) count t = record {
  same_attribute_count = λ _. count;
  valid_attribute = λ k. absurd (omega (arith, k));
  valid_feature = λ _. t.complete;
  represents = λ attrs k. subst (Represents order lookup) (sym (append-nil attrs)) k;
  file_updates = record {
    same_endian = t.feature_replaced.same_endian;
    attributes = t.attributes ∙ sym (append-nil (attributes_of_file file));
    feature_data = t.feature_replaced.feature_data;
    features = λ n. (
      λ has. elim ((t.feature_replaced.features n).0 has) [ inl before ↦ inl before | inr (low, is) ↦ inr (low, (refl, refl, is)) ],
      λ either. (t.feature_replaced.features n).1 (elim either [ inl before ↦ inl before | inr (low, added) ↦ inr (low, added.2) ]),
    );
    names_match = λ renames. elim renames [
      | inl k ↦ absurd (omega (arith, k))
      | inr (k, desc) ↦
          let there : feature_data_in_file new event_desc ≡ Some (drop 8 body) = t.feature_replaced.feature_data event_desc ∙ ap (λ f. cond (nat_eq f event_desc) (Some (drop 8 body)) (feature_data_in_file file event_desc)) desc in
          subst (λ o. NamedByEventDesc order o (descriptions_of_file new)) (sym there) (t.names_match desc)
    ];
    if_not_renamed = λ none. t.if_other_feature (λ desc. none (inr (refl, desc)));
  };
}
feature_at order lookup file new body (Err e) count (same, memory, reason) = record {
  same_file = same;
  metadata_type = inr refl;
  not_failed = unfailed e (λ m. elim (reason m) [
    | inl metadata_error ↦ metadata_error_unfailed order 80 body e metadata_error
    | inr (there, desc, none) ↦ desc_unfailed order (drop 8 body) e none
  ]);
  if_out_of_memory = λ m. (count, inr (refl, memory m));
  cause = λ m. inr (
    count,
    elim (reason m) [
      | inl metadata_error ↦ inl metadata_error
      | inr (there, desc, none) ↦ inr (inl (drop 8 body, inr (refl, there, desc, refl), none))
    ],
  );
}

pub feature_record_applied : {A : Type 0} (order : Endianness) (lookup : AttributeLookup) (file new : PerfFile) (record_type : ℕ) (body : List ℕ) (r : Result A Error) → record_type ≡ 80 → vec_len file.attributes ≡ vec_len lookup.parse_infos → AppliesFeature order file body r new → AppliesMetadata order lookup file record_type body r lookup new
feature_record_applied {A = A} order lookup file new record_type body r is counted applies = subst (λ k. AppliesMetadata order {A = A} lookup file k body r lookup new) (sym is) (feature_at order lookup file new body r (same_count order lookup file counted) applies)

-- ---- neither

-- a `PerfFile` whose number of attributes isn't that of the lookup
pub mismatch_rejected : (A : Type 0) (order : Endianness) (lookup : AttributeLookup) (file : PerfFile) (record_type : ℕ) (body : List ℕ) (e : Error) → IsMetadataType record_type → IsInvalidInput e → vec_len file.attributes ≢ vec_len lookup.parse_infos
    → AppliesMetadata order {A = A} lookup file record_type body (Err e) lookup file
mismatch_rejected A order lookup file record_type body e metadata is apart = record {
  same_file = record { same_endian = refl; descriptions = refl; features = refl; feature_data = λ n. refl };
  metadata_type = metadata;
  not_failed = λ f. subst IsInvalidInput f is;
  if_out_of_memory = λ m. absurd (subst IsInvalidInput m is);
  cause = λ m. inl (
    is,
    λ attrs k same.
        let there = file.attributes.ok in
        let here = lookup.parse_infos.ok in
        let counts = ap length k.parse_infos in
        let all = length-map attrs (λ a. parse_info_of a.attr order) in
        apart (omega (arith, there, here, counts, all, same)),
  );
}

-- ---- an EVENT_DESC

-- the renames of all attributes
pub found_all : (file : PerfFile) (t : NameTable) (ds : List AttributeDescription) (r : Result (Vec Rename Global) Error) → ds ≡ descriptions_of_file file → FindsRenames ds t (λ k. ⊥) r → FindsFileRenames file t r
found_all file t ds (Ok renames) same (valid, others) = subst (λ l. AreRenamesFor l t renames.items) same (renames_for_all ds t renames.items valid others)
found_all file t ds (Err e) same memory = memory

-- the renames of those whose names differ in the current table
pub found_changed : (file : PerfFile) (before t : NameTable) (ds : List AttributeDescription) (r : Result (Vec Rename Global) Error) → ds ≡ descriptions_of_file file → file.name_table ≡ Some before → FindsRenames ds t (KeepsName ds before t) r → FindsFileRenames file t r
found_changed file before t ds (Ok renames) same is (valid, others) =
    let named : NamedBy before.events.items ds = subst (NamedBy before.events.items) (sym same) (file.names_match_table before is) in
    subst (λ l. AreRenamesFor l t renames.items) same (renames_for ds before t renames.items named valid others)
found_changed file before t ds (Err e) same is memory = memory

pub replaced_after : (old now new : PerfFile) (bytes : List ℕ) → SamePerfFile old now → FeatureReplaced now event_desc bytes new → FeatureReplaced old event_desc bytes new
replaced_after old now new bytes same put = record {
  same_endian = put.same_endian ∙ same.same_endian;
  feature_data = λ n. put.feature_data n ∙ ap (cond (nat_eq event_desc n) (Some bytes)) (same.feature_data n);
  features = subst (λ set. InsertsFeature set event_desc (features_of_file new)) same.features put.features;
}
