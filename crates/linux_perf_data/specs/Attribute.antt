-- The attributes of an input, their consistency, and the attribute of a record.
use Rattle.std.specs.Prelude.{◌≡◌, ◌≢◌, ℕ, ◌+◌, ◌==◌, nat_lt, Bool, true, false, List, [], ◌∷◌, ◌++◌, length, slice_get, All, if◌then◌else◌, Option, None, Some}
use Rattle.std.specs.Option.{option_map}
use Rattle.perfdata_identifiers.specs.ParseInfo.{is_set, id_parse_info_of, parse_info_of}
use Rattle.perfdata_identifiers.specs.RecordFields.{read_identifier, read_time}
use Rattle.perfdata_sources.specs.declared.endian.Endianness.{Endianness}
use Rattle.perfdata_identifiers.specs.declared.place.parse_info.RecordParseInfo.{RecordParseInfo}
pub use Rattle.perfdata_records.specs.HeaderAttr.{Attribute, HoldsAttribute, attribute_in, u64s_of}

-- All attributes have the same id parse info: the identifier is at the same offset in all records.
abbrev pub AreConsistent : List Attribute → Type 0
AreConsistent [] = Unit {0}
AreConsistent (a ∷ more) = All (λ b. id_parse_info_of b.attr ≡ id_parse_info_of a.attr) more

-- How attributes are inconsistent: the records of an attribute lack IDENTIFIER, or its SAMPLE_ID_ALL differs from that of
-- attribute 0.
pub data Inconsistency : Type 0 where
  missing_identifier : ℕ → Inconsistency
  sample_id_all_differs : ℕ → Inconsistency

abbrev pub has_identifier : Attribute → Bool
has_identifier a = is_set a.attr.sample_format.0 16

abbrev pub has_sample_id_all : Attribute → Bool
has_sample_id_all a = is_set a.attr.flags.0 18

-- What each attribute must satisfy if the id parse infos differ: it has IDENTIFIER, and its SAMPLE_ID_ALL is that of attribute 0.
abbrev pub ConformsTo : Attribute → Attribute → Type 0
ConformsTo first a = (has_identifier a ≡ true) × (has_sample_id_all a ≡ has_sample_id_all first)

-- The attribute at `index` is the first that doesn't conform to `first`, and `Cause` holds for it.
pub record FirstNonconformingAt (first : Attribute) (attrs : List Attribute) (index : ℕ) (Cause : Attribute → Type 0) : Type 0 where
  pub earlier : List Attribute
  pub attribute : Attribute
  pub later : List Attribute
  pub elements : attrs ≡ earlier ++ attribute ∷ later
  pub index_matches : length earlier ≡ index
  pub earlier_conform : All (ConformsTo first) earlier
  pub cause : Cause attribute

abbrev pub FirstInconsistency : Attribute → List Attribute → Inconsistency → Type 0
FirstInconsistency first attrs (missing_identifier i) = FirstNonconformingAt first attrs i (λ a. has_identifier a ≡ false)
FirstInconsistency first attrs (sample_id_all_differs i) =
    FirstNonconformingAt first attrs i (λ a. (has_identifier a ≡ true) × (has_sample_id_all a ≢ has_sample_id_all first))

-- The attributes are inconsistent, and this is the first inconsistency.
abbrev pub AreInconsistent : List Attribute → Inconsistency → Type 0
AreInconsistent [] b = ⊥
AreInconsistent (a ∷ more) b = (¬ AreConsistent (a ∷ more)) × FirstInconsistency a (a ∷ more) b

abbrev pub lists_id : ℕ → List ℕ → Bool
lists_id id [] = false
lists_id id (x ∷ xs) = if x == id then true else lists_id id xs

-- The greatest index of an attribute that lists `id`, where the first attribute has index `i`; `best` if none lists it.
abbrev pub last_index_listing : ℕ → ℕ → ℕ → List Attribute → ℕ
last_index_listing id i best [] = best
last_index_listing id i best (a ∷ more) = last_index_listing id (i + 1) (if lists_id id a.ids then i else best) more

abbrev pub attr_index_of_id : Option ℕ → List Attribute → ℕ
attr_index_of_id None attrs = 0
attr_index_of_id (Some id) attrs = last_index_listing id 0 0 attrs

-- The attribute index of a kernel record. It is 0 if there is at most one attribute. If there are several, it is the greatest
-- index of an attribute that lists the record's identifier, which is read with attribute 0's id parse info. It is 0 if no
-- attribute lists the identifier or the record has none.
abbrev pub attr_index_of : Endianness → List Attribute → ℕ → List ℕ → ℕ
attr_index_of order [] record_type body = 0
attr_index_of order (a ∷ []) record_type body = 0
attr_index_of order (a ∷ b ∷ more) record_type body = attr_index_of_id (read_identifier order (id_parse_info_of a.attr) record_type body) (a ∷ b ∷ more)

-- The attribute index of a record, and the parse info of that attribute's records.
pub record EventRef : Type 0 where
  pub index : ℕ
  pub parse_info : RecordParseInfo

-- A kernel record (type below 64) belongs to an attribute. A tool's record belongs to none.
abbrev pub event_of : Endianness → List Attribute → ℕ → List ℕ → Option EventRef
event_of order attrs record_type body = if nat_lt record_type 64
    then option_map (λ a. record {
      index = attr_index_of order attrs record_type body;
      parse_info = parse_info_of a.attr order;
    }) (slice_get attrs (attr_index_of order attrs record_type body))
    else None

abbrev pub event_time : Option EventRef → ℕ → List ℕ → Option ℕ
event_time None record_type body = None
event_time (Some e) record_type body = read_time e.parse_info record_type body
