-- The results of a table and a cache for the attributes of a lookup.
use Rattle.std.proofs.Common.{◌≡◌, ◌≢◌, ℕ, zero, suc, ◌%◌, ◌<◌, List, [], ◌∷◌, Bool, true, false, length, get_or, drop, nat_lt, refl, sym, ap, ◌∙◌, subst, arith, inl, inr}
use Rattle.std.specs.Prelude.{if◌then◌else◌, slice_get, Option, None, Some}
use Rattle.std.specs.Option.{unwrap_or, option_map}
use Rattle.std.proofs.lemmas.Bool.{cases_eq, cond-true, lt-ltb}
use Rattle.perfdata_identifiers.specs.ParseInfo.{id_parse_info_of, parse_info_of}
use Rattle.perfdata_identifiers.specs.RecordFields.{read_identifier, read_time}
use Rattle.perfdata_identifiers.specs.IdCache.{cached_index}
use Rattle.perfdata_identifiers.specs.declared.place.id_cache.IdCache.{IdCache}
use Rattle.perfdata_identifiers.specs.declared.place.parse_info.RecordParseInfo.{RecordParseInfo}
use Rattle.perfdata_sources.specs.declared.endian.Endianness.{Endianness}
use Rattle.linux_perf_data.specs.declared.attributes.lookup.AttributeLookup.{AttributeLookup}
use Rattle.linux_perf_data.specs.declared.attributes.id_table.IdTable.{IdTable}
use Rattle.linux_perf_data.specs.Attribute.{Attribute, EventRef, last_index_listing, lists_id, attr_index_of_id, attr_index_of, event_of, event_time}
use Rattle.linux_perf_data.specs.Layout.{RecordView, record_view}
use Rattle.perfdata_sections.specs.declared.feature_sections.AttributeDescription.{AttributeDescription}
use Rattle.linux_perf_data.specs.Descriptions.{described_attribute, described_attributes, parse_infos_of}
use Rattle.linux_perf_data.specs.IdTable.{id_lookup}
use Rattle.linux_perf_data.specs.steps.IdPairs.{last_index_of_id}
use Rattle.linux_perf_data.specs.IdBounds.{TableIndicesBelow}
use Rattle.linux_perf_data.specs.steps.IdBounds.{ResolvesIds}
use Rattle.linux_perf_data.specs.AttributeLookup.{Represents}
use Rattle.linux_perf_data.specs.steps.AttributeLookup.{event_at}
use Rattle.linux_perf_data.proofs.IdPairLemmas.{greatest_listed, listed_within}

-- after one identifier's index is cached, the property holds for each cached index
pub cache_put : (old new : IdCache) (id index : ℕ) (P : ℕ → ℕ → Type 0) → P id index → cached_index new id ≡ Some index
    → ((other : ℕ) → other ≢ id → other % 64 ≡ id % 64 → cached_index new other ≡ None) → ((other : ℕ) → other % 64 ≢ id % 64 → cached_index new other ≡ cached_index old other)
    → ((other i : ℕ) → cached_index old other ≡ Some i → P other i) → (other i : ℕ) → cached_index new other ≡ Some i → P other i
cache_put old new id index P is put gone kept before other i cached = elim (cases_eq other id) [
  | inl same ↦
      let there : Some index ≡ Some i = sym put ∙ ap (cached_index new) (sym same) ∙ cached in
      let index_is : index ≡ i = cc in
      subst (λ n. P n i) (sym same) (subst (P id) index_is is)
  | inr apart ↦ elim (cases_eq (other % 64) (id % 64)) [
    | inl shared ↦ absurd (let none : ◌≡◌ {A = Option ℕ} None (Some i) = sym (gone other apart shared) ∙ cached in cc)
    | inr elsewhere ↦ before other i (sym (kept other elsewhere) ∙ cached)
  ]
]

-- Kernel records.

pub all_counted : (order : Endianness) (attrs : List Attribute) → length (parse_infos_of order attrs) ≡ length attrs
all_counted order [] = refl
all_counted order (a ∷ attrs) = ap suc (all_counted order attrs)

pub described_counted : (ds : List AttributeDescription) → length (described_attributes ds) ≡ length ds
described_counted [] = refl
described_counted (d ∷ ds) = ap suc (described_counted ds)

-- a non-empty list of attributes has a first one
pub first_more : (ds : List AttributeDescription) (d : AttributeDescription) → 0 < length ds → d ≡ get_or ds 0 d → described_attributes ds ≡ described_attribute d ∷ described_attributes (drop 1 ds)
first_more [] d some is = absurd (omega (arith, some))
first_more (x ∷ ds) d some is = ap (λ y. described_attribute y ∷ described_attributes ds) (sym is)

parse_info_there : (order : Endianness) (attrs : List Attribute) (n i : ℕ) (d : RecordParseInfo) → i < length attrs
    → option_map {U = EventRef} (λ a. record { index = n; parse_info = parse_info_of a.attr order }) (slice_get attrs i) ≡ Some (record { index = n; parse_info = unwrap_or (slice_get (parse_infos_of order attrs) i) d })
parse_info_there order [] n i d inside = absurd (omega (arith, inside))
parse_info_there order (a ∷ attrs) n zero d inside = refl
parse_info_there order (a ∷ attrs) n (suc i) d inside = parse_info_there order attrs n i d (omega (arith, inside))

-- a kernel record has the attribute of this index, with its parse info
event_there : (order : Endianness) (attrs : List Attribute) (record_type : ℕ) (body : List ℕ) (i : ℕ) (d : RecordParseInfo) → record_type < 64 → attr_index_of order attrs record_type body ≡ i → i < length attrs
    → event_of order attrs record_type body ≡ Some (record { index = i; parse_info = unwrap_or (slice_get (parse_infos_of order attrs) i) d })
event_there order attrs record_type body i d kernel at inside =
    cond-true (nat_lt record_type 64) (option_map {U = EventRef} (λ a. record { index = attr_index_of order attrs record_type body; parse_info = parse_info_of a.attr order }) (slice_get attrs (attr_index_of order attrs record_type body))) None (lt-ltb record_type 64 kernel)
    ∙ ap (λ n. option_map {U = EventRef} (λ a. record { index = n; parse_info = parse_info_of a.attr order }) (slice_get attrs n)) at ∙ parse_info_there order attrs i i d inside

index_several : (order : Endianness) (first : Attribute) (more : List Attribute) (record_type : ℕ) (body : List ℕ) (id : ℕ) → length (first ∷ more) ≢ 1 → read_identifier order (id_parse_info_of first.attr) record_type body ≡ Some id
    → attr_index_of order (first ∷ more) record_type body ≡ last_index_listing id 0 0 (first ∷ more)
index_several order first [] record_type body id several is = absurd (several refl)
index_several order first (b ∷ rest) record_type body id several is = ap (λ o. attr_index_of_id o (first ∷ b ∷ rest)) is

index_one : (order : Endianness) (first : Attribute) (more : List Attribute) (record_type : ℕ) (body : List ℕ) → length (first ∷ more) ≡ 1 → attr_index_of order (first ∷ more) record_type body ≡ 0
index_one order first [] record_type body one = refl
index_one order first (b ∷ rest) record_type body one = absurd (omega (arith, one))

index_without : (order : Endianness) (first : Attribute) (more : List Attribute) (record_type : ℕ) (body : List ℕ) → read_identifier order (id_parse_info_of first.attr) record_type body ≡ None → attr_index_of order (first ∷ more) record_type body ≡ 0
index_without order first [] record_type body is = refl
index_without order first (b ∷ rest) record_type body is = ap (λ o. attr_index_of_id o (first ∷ b ∷ rest)) is

-- the attribute of this index in the lookup
event_resolved : (order : Endianness) (k : AttributeLookup) (attrs : List Attribute) (record_type : ℕ) (body : List ℕ) (i : ℕ) → Represents order k attrs → record_type < 64 → attr_index_of order attrs record_type body ≡ i → i < length k.parse_infos.items
    → event_of order attrs record_type body ≡ Some (event_at k i)
event_resolved order k attrs record_type body i knows kernel at inside =
    let count : length k.parse_infos.items ≡ length attrs = ap length knows.parse_infos ∙ all_counted order attrs in
    event_there order attrs record_type body i k.first_parse_info kernel at (omega (arith, inside, count))
    ∙ ap (λ l. Some (record { index = i; parse_info = unwrap_or (slice_get l i) k.first_parse_info })) (sym knows.parse_infos)

parse_infos_nonempty : (order : Endianness) (k : AttributeLookup) (attrs : List Attribute) → Represents order k attrs → 0 < length k.parse_infos.items
parse_infos_nonempty order k attrs knows = (let count = ap length knows.parse_infos ∙ all_counted order attrs ∙ ap length knows.elements in omega (arith, count))

-- a single attribute is that of each kernel record
pub resolves_one : (order : Endianness) (k : AttributeLookup) (attrs : List Attribute) (record_type : ℕ) (body : List ℕ) → Represents order k attrs → record_type < 64 → length k.parse_infos.items ≡ 1 → event_of order attrs record_type body ≡ Some (event_at k 0)
resolves_one order k attrs record_type body knows kernel one =
    let count : length k.parse_infos.items ≡ length (knows.first_attribute ∷ knows.other_attributes) = ap length knows.parse_infos ∙ all_counted order attrs ∙ ap length knows.elements in
    let at : attr_index_of order attrs record_type body ≡ 0 = ap (λ l. attr_index_of order l record_type body) knows.elements ∙ index_one order knows.first_attribute knows.other_attributes record_type body (sym count ∙ one) in
    event_resolved order k attrs record_type body 0 knows kernel at (parse_infos_nonempty order k attrs knows)

-- without an identifier the attribute is the first one
pub resolves_first : (order : Endianness) (k : AttributeLookup) (attrs : List Attribute) (record_type : ℕ) (body : List ℕ) → Represents order k attrs → record_type < 64 → read_identifier k.first_parse_info.endian k.first_parse_info.id_parse_info record_type body ≡ None → event_of order attrs record_type body ≡ Some (event_at k 0)
resolves_first order k attrs record_type body knows kernel is =
    let none : read_identifier order (id_parse_info_of knows.first_attribute.attr) record_type body ≡ None = ap (λ p. read_identifier p.endian p.id_parse_info record_type body) (sym knows.first_parse_info) ∙ is in
    let at : attr_index_of order attrs record_type body ≡ 0 = ap (λ l. attr_index_of order l record_type body) knows.elements ∙ index_without order knows.first_attribute knows.other_attributes record_type body none in
    event_resolved order k attrs record_type body 0 knows kernel at (parse_infos_nonempty order k attrs knows)

-- among several attributes the identifier determines the one
pub resolves_event : (order : Endianness) (k : AttributeLookup) (attrs : List Attribute) (record_type : ℕ) (body : List ℕ) (id i : ℕ) → Represents order k attrs → record_type < 64 → length k.parse_infos.items ≢ 1
    → read_identifier k.first_parse_info.endian k.first_parse_info.id_parse_info record_type body ≡ Some id → i ≡ last_index_listing id 0 0 attrs → i < length k.parse_infos.items → event_of order attrs record_type body ≡ Some (event_at k i)
resolves_event order k attrs record_type body id i knows kernel several is answer inside =
    let count : length k.parse_infos.items ≡ length attrs = ap length knows.parse_infos ∙ all_counted order attrs in
    let id_is : read_identifier order (id_parse_info_of knows.first_attribute.attr) record_type body ≡ Some id = ap (λ p. read_identifier p.endian p.id_parse_info record_type body) (sym knows.first_parse_info) ∙ is in
    let at : attr_index_of order (knows.first_attribute ∷ knows.other_attributes) record_type body ≡ i =
    index_several order knows.first_attribute knows.other_attributes record_type body id (λ one. several (count ∙ ap length knows.elements ∙ one)) id_is ∙ ap (last_index_listing id 0 0) (sym knows.elements) ∙ sym answer in
    event_resolved order k attrs record_type body i knows kernel (ap (λ l. attr_index_of order l record_type body) knows.elements ∙ at) inside

-- lookups with the same parse infos have the same events
pub event_same : (old new : AttributeLookup) (i : ℕ) → new.parse_infos ≡ old.parse_infos → new.first_parse_info ≡ old.first_parse_info → event_at old i ≡ event_at new i
event_same old new i same_infos first =
    ap (λ v. record { index = i; parse_info = unwrap_or (slice_get v.items i) old.first_parse_info }) (sym same_infos) ∙ ap (λ f. record { index = i; parse_info = unwrap_or (slice_get new.parse_infos.items i) f }) (sym first)

-- the indices in the table are those of attributes
pub table_below : (t : IdTable) (attrs : List Attribute) (n : ℕ) → length attrs ≡ n → ((id : ℕ) → id_lookup t id ≡ last_index_of_id id 0 attrs) → TableIndicesBelow t n
table_below t attrs n count resolves id i is = (let inside = listed_within id 0 attrs i (sym (resolves id) ∙ is) in omega (arith, inside, count))

pub table_answers : (t : IdTable) (attrs : List Attribute) → ((id : ℕ) → id_lookup t id ≡ last_index_of_id id 0 attrs) → (id : ℕ) → unwrap_or (id_lookup t id) 0 ≡ last_index_listing id 0 0 attrs
table_answers t attrs resolves id = ap (λ o. unwrap_or o 0) (resolves id) ∙ sym (greatest_listed id 0 0 attrs)

pub table_of_several : (t : IdTable) (attrs : List Attribute) → ((id : ℕ) → id_lookup t id ≡ last_index_of_id id 0 attrs) → ResolvesIds t attrs
table_of_several t attrs resolves = record { in_bounds = table_below t attrs (length attrs) refl resolves; resolves = table_answers t attrs resolves }

-- a table without identifiers resolves those of a single attribute

none_is_some : (n : ℕ) → ◌≡◌ {A = Option ℕ} None (Some n) → ⊥
none_is_some n e = cc

zero_either : (b : Bool) → ◌≡◌ {A = ℕ} (if b then 0 else 0) 0
zero_either true = refl
zero_either false = refl

first_of_one : (id : ℕ) (ds : List AttributeDescription) → length ds ≡ 1 → last_index_listing id 0 0 (described_attributes ds) ≡ 0
first_of_one id [] one = absurd (omega (arith, one))
first_of_one id (d ∷ []) one = zero_either (lists_id id (described_attribute d).ids)
first_of_one id (d ∷ e ∷ ds) one = absurd (omega (arith, one))

pub table_of_one : (t : IdTable) (ds : List AttributeDescription) → length ds ≡ 1 → ((id : ℕ) → id_lookup t id ≡ None) → ResolvesIds t (described_attributes ds)
table_of_one t ds one none = record {
  in_bounds = λ id i is. absurd (none_is_some i (sym (none id) ∙ is));
  resolves = λ id. ap (λ o. unwrap_or o 0) (none id) ∙ sym (first_of_one id ds one);
}

-- A record that is returned.

event_endian : (order : Endianness) (b : Bool) (o : Option Attribute) (i : ℕ) (e : EventRef) → (if b then option_map {U = EventRef} (λ a. record { index = i; parse_info = parse_info_of a.attr order }) o else None) ≡ Some e → e.parse_info.endian ≡ order
event_endian order true (Some a) i e is = (let same : e ≡ record { index = i; parse_info = parse_info_of a.attr order } = cc in ap (λ x. x.parse_info.endian) same)
event_endian order true None i e is = absurd (let off : ◌≡◌ {A = Option EventRef} None (Some e) = is in cc)
event_endian order false o i e is = absurd (let off : ◌≡◌ {A = Option EventRef} None (Some e) = is in cc)

-- the byte order of an event's parse info is that of its attributes
event_order : (order : Endianness) (attrs : List Attribute) (record_type : ℕ) (body : List ℕ) (e : EventRef) → event_of order attrs record_type body ≡ Some e → e.parse_info.endian ≡ order
event_order order attrs record_type body e is = event_endian order (nat_lt record_type 64) (slice_get attrs (attr_index_of order attrs record_type body)) (attr_index_of order attrs record_type body) e is

-- a kernel record in the code is the one in the layout
pub kernel_found : (order : Endianness) (attrs : List Attribute) (offset round record_type misc : ℕ) (body : List ℕ) (e : EventRef) (time : Option ℕ) → event_of order attrs record_type body ≡ Some e → time ≡ read_time e.parse_info record_type body
    → record { offset = offset; round = round; record_type = record_type; misc = misc; endian = e.parse_info.endian; body = body; event = Some e; timestamp = time } ≡ record_view order offset round attrs record_type misc body
kernel_found order attrs offset round record_type misc body e time resolves at =
    let with' : Endianness → Option EventRef → Option ℕ → RecordView = λ o ev t. record { offset = offset; round = round; record_type = record_type; misc = misc; endian = o; body = body; event = ev; timestamp = t } in
    ap (λ o. with' o (Some e) time) (event_order order attrs record_type body e resolves) ∙ ap (λ ev. with' order ev time) (sym resolves) ∙ ap (λ t. with' order (event_of order attrs record_type body) t) (at ∙ ap (λ ev. event_time ev record_type body) (sym resolves))
