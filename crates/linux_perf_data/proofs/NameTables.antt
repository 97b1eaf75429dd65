-- A name table represents the names of descriptions, and attributes have the names of a table.
use Rattle.std.proofs.Common.{◌≡◌, ◌==◌, ℕ, suc, ◌+◌, ◌<◌, ◌≤◌, Bool, true, false, List, [], ◌∷◌, ◌++◌, length, get_or, drop, take, refl, sym, ap, ◌∙◌, subst, arith, inl, inr, eq-eqb, Option, None, Some}
use Rattle.std.specs.Prelude.{cond, if◌then◌else◌, nat_eq, String, Vec, string_bytes}
use Rattle.std.specs.Option.{option_map}
use Rattle.std.specs.BTreeMap.{BTreeMap, get, is_at}
use Rattle.std.specs.Cmp.{nat_cmp_is}
use Rattle.std.specs.Ordering.{is_eq, nat_cmp}
use Rattle.std.specs.declared.cmp.Ordering.TheVariants.{Less, Equal, Greater}
use Rattle.std.proofs.lemmas.Bool.{cases_Bool, cases_eq, cases_order, eqb-true, false≢true, ne_eqb}
use Rattle.std.proofs.lemmas.List.Elements.{All-push}
use Rattle.std.proofs.lemmas.List.{take_more, take_all, map_push, nil_from_length}
use Rattle.std.specs.declared.alloc.Global.{Global}
use Rattle.indexmap.specs.IndexMap.{IndexMap, get as index_get}
use Rattle.perfdata_sources.specs.Endian.{number_in}
use Rattle.perfdata_sources.proofs.Numbers.{in_reads_first}
use Rattle.perfdata_identifiers.specs.declared.features.Feature.{Feature}
use Rattle.perfdata_sources.specs.declared.endian.Endianness.{Endianness}
use Rattle.perfdata_sections.specs.AttributeDescription.{events_in, ids_in, name_in}
use Rattle.perfdata_sections.specs.EventDesc.{DescribesByEventDesc, BeginsWithEventDesc}
use Rattle.perfdata_sections.specs.declared.feature_sections.AttributeDescription.{AttributeDescription}
use Rattle.perfdata_sections.proofs.EventPrefixes.{event_desc_is_unique, event_desc_or_not}
use Rattle.linux_perf_data.specs.FirstIds.{IndexesFirstIds, first_index_with_id}
use Rattle.linux_perf_data.specs.FeatureNumbers.{event_desc}
use Rattle.linux_perf_data.specs.NameTable.{TableHasEvents, TableNamesAll, TableEmptyWithoutEventDesc, TableIsReadable}
use Rattle.linux_perf_data.specs.steps.NameTable.{name_from_table, names_from_table, HasTableWithEndian, IsTableOf}
use Rattle.linux_perf_data.specs.Names.{IsReadableOrAbsent, NamedByEventDesc, NamedBy, name_by_first_id, same_first_id}
use Rattle.linux_perf_data.specs.steps.Names.{name_bytes_of}
use Rattle.linux_perf_data.specs.FeatureData.{feature_data_of}
use Rattle.linux_perf_data.specs.declared.attributes.names.NameTable.{NameTable}
use Rattle.linux_perf_data.proofs.EventDescNames.{described_is_readable}
use Rattle.linux_perf_data.proofs.FeatureTables.{data_put}

-- ---- a map with numbers as keys

pub at_is : (x y : ℕ) → is_at (nat_cmp x) y ≡ (x == y)
at_is x y = elim (cases_order x y) [
  | inl same ↦ ap is_eq (sym (nat_cmp_is x y Equal same)) ∙ sym (eq-eqb x y same)
  | inr (inl less) ↦ ap is_eq (sym (nat_cmp_is x y Less less)) ∙ sym (ne_eqb x y (λ e. omega (arith, less, e)))
  | inr (inr more) ↦ ap is_eq (sym (nat_cmp_is x y Greater more)) ∙ sym (ne_eqb x y (λ e. omega (arith, more, e)))
]

-- ---- the first description of an ID

-- the descriptions from an index on are in the map
pub record PutFrom (first : BTreeMap ℕ ℕ) (descriptions : List AttributeDescription) (index : ℕ) : Type 0 where
  pub within : index ≤ length descriptions
  pub finds : (id : ℕ) → get nat_cmp first id ≡ first_index_with_id id index (drop index descriptions)

-- ---- its name

first_only : (xs : List ℕ) (id : ℕ) (rest : List ℕ) → same_first_id xs (id ∷ rest) ≡ same_first_id xs (id ∷ [])
first_only [] id rest = refl
first_only (x ∷ xs) id rest = refl

no_first : (xs : List ℕ) → same_first_id xs [] ≡ false
no_first [] = refl
no_first (x ∷ xs) = refl

pub no_ids : (descriptions : List AttributeDescription) → name_by_first_id descriptions [] ≡ None
no_ids [] = refl
no_ids (d ∷ ds) = ap (λ b. if b then name_in d else name_by_first_id ds []) (no_first (ids_in d)) ∙ no_ids ds

pub record FoundAt (id i k : ℕ) (rest : List ℕ) (ds : List AttributeDescription) : Type 0 where
  pub at : ℕ
  pub is : k ≡ i + at
  pub there : at < length ds
  pub name : (d : AttributeDescription) → name_by_first_id ds (id ∷ rest) ≡ name_in (get_or ds at d)

found_at : (id i : ℕ) (rest : List ℕ) (ds : List AttributeDescription) (k : ℕ) → first_index_with_id id i ds ≡ Some k → FoundAt id i k rest ds
found_at id i rest [] k is = absurd cc
found_at id i rest (d ∷ ds) k is = elim (cases_Bool (same_first_id (ids_in d) (id ∷ []))) [
  | inl same ↦
      let here : Some i ≡ Some k = sym (ap (λ b. if b then Some i else first_index_with_id id (i + 1) ds) same) ∙ is in
      let own : i ≡ k = cc in record {
        at = 0;
        is = omega (arith, own);
        there = omega arith;
        name = λ x. ap (λ b. if b then name_in d else name_by_first_id ds (id ∷ rest)) (first_only (ids_in d) id rest ∙ same);
      }
  | inr other ↦
      let later : first_index_with_id id (i + 1) ds ≡ Some k = sym (ap (λ b. if b then Some i else first_index_with_id id (i + 1) ds) other) ∙ is in
      let f = found_at id (i + 1) rest ds k later in
      let there = f.there in
      let own = f.is in record {
        at = suc f.at;
        is = omega (arith, own);
        there = omega (arith, there);
        name = λ x. ap (λ b. if b then name_in d else name_by_first_id ds (id ∷ rest)) (first_only (ids_in d) id rest ∙ other) ∙ f.name x;
      }
]

not_found : (id i : ℕ) (rest : List ℕ) (ds : List AttributeDescription) → first_index_with_id id i ds ≡ None → name_by_first_id ds (id ∷ rest) ≡ None
not_found id i rest [] is = refl
not_found id i rest (d ∷ ds) is = elim (cases_Bool (same_first_id (ids_in d) (id ∷ []))) [
  | inl same ↦ absurd (let here : Some i ≡ None = sym (ap (λ b. if b then Some i else first_index_with_id id (i + 1) ds) same) ∙ is in cc)
  | inr other ↦
      let later : first_index_with_id id (i + 1) ds ≡ None = sym (ap (λ b. if b then Some i else first_index_with_id id (i + 1) ds) other) ∙ is in
      ap (λ b. if b then name_in d else name_by_first_id ds (id ∷ rest)) (first_only (ids_in d) id rest ∙ other) ∙ not_found id (i + 1) rest ds later
]

-- only the first ID counts
name_rest : (ds : List AttributeDescription) (id : ℕ) (rest : List ℕ) → name_by_first_id ds (id ∷ rest) ≡ name_by_first_id ds (id ∷ [])
name_rest [] id rest = refl
name_rest (d ∷ ds) id rest =
    ap (λ b. if b then name_in d else name_by_first_id ds (id ∷ rest)) (first_only (ids_in d) id rest)
    ∙ ap (λ n. if same_first_id (ids_in d) (id ∷ []) then name_in d else n) (name_rest ds id rest)

pub name_of_first : (ds : List AttributeDescription) (id : ℕ) (ids : List ℕ) → same_first_id ids (id ∷ []) ≡ true → name_by_first_id ds ids ≡ name_by_first_id ds (id ∷ [])
name_of_first ds id [] has = absurd (false≢true has)
name_of_first ds id (x ∷ rest) has = name_rest ds x rest ∙ ap (λ n. name_by_first_id ds (n ∷ [])) (eqb-true x id has)

-- an ID that isn't in the map of a table has no name
pub unlisted_name : (t : NameTable) (id : ℕ) (rest : List ℕ) → get nat_cmp t.index_by_first_id id ≡ None → name_by_first_id t.events.items (id ∷ rest) ≡ None
unlisted_name t id rest none = not_found id 0 rest t.events.items (sym (t.indexes_first_ids id) ∙ none)

first_of : (l : List ℕ) → 0 < length l → get_or l 0 0 ∷ drop 1 l ≡ l
first_of [] some = absurd (omega (arith, some))
first_of (x ∷ xs) some = refl

module _ (first : BTreeMap ℕ ℕ) (descriptions : List AttributeDescription) (ids : List ℕ) (finds : IndexesFirstIds first descriptions) (some : 0 < length ids) where
  -- the index of the first ID is that of a description, whose name applies
  index_found : (k : ℕ) → Some k ≡ get nat_cmp first (get_or ids 0 0) → FoundAt (get_or ids 0 0) 0 k (drop 1 ids) descriptions
  index_found k there = found_at (get_or ids 0 0) 0 (drop 1 ids) descriptions k (sym (there ∙ finds (get_or ids 0 0)))

  pub index_within : (k : ℕ) → Some k ≡ get nat_cmp first (get_or ids 0 0) → k < length descriptions
  index_within k there = (let f = index_found k there in let at = f.is in let low = f.there in omega (arith, at, low))

  pub name_found : (k : ℕ) (d : AttributeDescription) → Some k ≡ get nat_cmp first (get_or ids 0 0) → name_in (get_or descriptions k d) ≡ name_by_first_id descriptions ids
  name_found k d there =
      let f = index_found k there in
      let at = f.is in
      let same : k ≡ f.at = omega (arith, at) in
      ap (λ n. name_in (get_or descriptions n d)) same ∙ sym (f.name d) ∙ ap (name_by_first_id descriptions) (first_of ids some)

  pub name_missed : None ≡ get nat_cmp first (get_or ids 0 0) → None ≡ name_by_first_id descriptions ids
  name_missed none = sym (not_found (get_or ids 0 0) 0 (drop 1 ids) descriptions (sym (none ∙ finds (get_or ids 0 0)))) ∙ ap (name_by_first_id descriptions) (first_of ids some)

-- ---- a table that is kept

one : {A : Type 0} (x y : A) → Some x ≡ Some y → x ≡ y
one x y same = cc

module _ (t : NameTable) (desc : Option (List ℕ)) (is : IsTableOf t desc) where
  described : (bytes : List ℕ) (other : NameTable) → Some t ≡ Some other → desc ≡ Some bytes → DescribesByEventDesc (number_in other.endian) bytes other.events.items
  described bytes other same there =
      let own : IsTableOf t (Some bytes) = subst (IsTableOf t) there is in
      subst (λ (o : NameTable). IsTableOf o (Some bytes)) (one t other same) own

  pub table_none : TableEmptyWithoutEventDesc (Some t) desc
  table_none other same none =
      let own : IsTableOf t None = subst (IsTableOf t) none is in
      let empty : IsTableOf other None = subst (λ (o : NameTable). IsTableOf o None) (one t other same) own in
      ap length empty

  pub table_some : TableIsReadable (Some t) desc
  table_some other bytes same there unread = unread (described_is_readable other.endian bytes other.events.items (described bytes other same there))

  pub table_events : TableHasEvents (Some t) desc
  table_events other bytes es same there begins = event_desc_is_unique (number_in other.endian) (in_reads_first other.endian) bytes (events_in other.events.items) es (described bytes other same there) begins

pub table_names : (t : NameTable) (ds : List AttributeDescription) → NamedBy t.events.items ds → TableNamesAll (Some t) ds
table_names t ds named other same = subst (λ (o : NameTable). NamedBy o.events.items ds) (one t other same) named

-- the table of a `PerfFile` whose EVENT_DESC is unchanged
module _ (name_table : Option NameTable) (old new : Option (List ℕ)) (remains : (t : NameTable) → name_table ≡ Some t → new ≡ old) where
  pub remains_none : TableEmptyWithoutEventDesc name_table old → TableEmptyWithoutEventDesc name_table new
  remains_none before t same none = before t same (sym (remains t same) ∙ none)

  pub remains_some : TableIsReadable name_table old → TableIsReadable name_table new
  remains_some before t bytes same there = before t bytes same (sym (remains t same) ∙ there)

  pub remains_events : TableHasEvents name_table old → TableHasEvents name_table new
  remains_events before t bytes es same there begins = before t bytes es same (sym (remains t same) ∙ there) begins

none_not_some : (t : NameTable) → None ≡ Some t → ⊥
none_not_some t e = cc

-- without a table there is nothing to show
pub no_names : (ds : List AttributeDescription) → TableNamesAll None ds
no_names ds t same = absurd (none_not_some t same)

pub no_none : (desc : Option (List ℕ)) → TableEmptyWithoutEventDesc None desc
no_none desc t same = absurd (none_not_some t same)

pub no_some : (desc : Option (List ℕ)) → TableIsReadable None desc
no_some desc t bytes same = absurd (none_not_some t same)

pub no_events : (desc : Option (List ℕ)) → TableHasEvents None desc
no_events desc t bytes es same = absurd (none_not_some t same)

-- the data of another feature leave the table valid
pub put_remains : {S : Type 0} (name_table : Option NameTable) (m new : IndexMap Feature (Vec ℕ Global) S) (k : Feature) (v : Vec ℕ Global) → (k.0 ≡ event_desc → name_table ≡ None)
    → ((q : Feature) → index_get (λ f g. nat_eq f.0 g.0) new q ≡ cond (nat_eq k.0 q.0) (Some v) (index_get (λ f g. nat_eq f.0 g.0) m q)) → (t : NameTable) → name_table ≡ Some t → feature_data_of new event_desc ≡ feature_data_of m event_desc
put_remains name_table m new k v other puts t same = elim (cases_eq k.0 event_desc) [
  | inl is ↦ absurd (none_not_some t (sym (other is) ∙ same))
  | inr apart ↦ data_put m new k v puts event_desc ∙ ap (λ b. cond b (Some v.items) (feature_data_of m event_desc)) (ne_eqb k.0 event_desc apart)
]

-- ---- one more attribute

pub pushed_named : (descriptions : List AttributeDescription) (b : Bool) (before items ds : List AttributeDescription) (d : AttributeDescription) → items ≡ (if b then before ++ d ∷ [] else before) → before ≡ ds → NamedBy descriptions ds → name_in d ≡ name_by_first_id descriptions (ids_in d) → NamedBy descriptions items
pushed_named descriptions true before items ds d is same named own = subst (NamedBy descriptions) (sym (is ∙ ap (λ l. l ++ d ∷ []) same)) (All-push (λ x. name_in x ≡ name_by_first_id descriptions (ids_in x)) ds d named own)
pushed_named descriptions false before items ds d is same named own = subst (NamedBy descriptions) (sym (is ∙ same)) named

-- it has its name in the table that is kept
pub kept_names_pushed : (t : NameTable) (name_table : Option NameTable) (b : Bool) (ds items : List AttributeDescription) (d : AttributeDescription) → name_table ≡ Some t → name_in d ≡ name_by_first_id t.events.items (ids_in d) → items ≡ (if b then ds ++ d ∷ [] else ds) → TableNamesAll name_table ds → TableNamesAll name_table items
kept_names_pushed t name_table b ds items d there own is names = subst (λ table. TableNamesAll table items) (sym there) (table_names t items (pushed_named t.events.items b ds items ds d is refl (names t there) own))

-- ---- the facts of a table determine the names of the attributes

pub named_by_kept : (order : Endianness) (name_table : Option NameTable) (desc : Option (List ℕ)) (ds : List AttributeDescription) → HasTableWithEndian order name_table → TableNamesAll name_table ds → TableEmptyWithoutEventDesc name_table desc → TableIsReadable name_table desc → TableHasEvents name_table desc → NamedByEventDesc order desc ds
named_by_kept order None desc ds is names none some events = absurd is
named_by_kept order (Some t) None ds is names none some events =
    let empty : t.events.items ≡ [] = nil_from_length t.events.items (none t refl refl) in
    subst (λ descriptions. NamedBy descriptions ds) empty (names t refl)
named_by_kept order (Some t) (Some bytes) ds is names none some events = elim (event_desc_or_not (number_in t.endian) (in_reads_first t.endian) bytes) [
  | inl (es, begins) ↦
      let own : DescribesByEventDesc (number_in t.endian) bytes t.events.items = subst (BeginsWithEventDesc (number_in t.endian) bytes) (sym (events t bytes es refl refl begins)) begins in
      (t.events.items, subst (λ o. DescribesByEventDesc (number_in o) bytes t.events.items) is own, names t refl)
  | inr unread ↦ absurd (some t bytes refl refl unread)
]

-- the EVENT_DESC of a table is readable
pub table_can : (order : Endianness) (t : NameTable) (desc : Option (List ℕ)) → t.endian ≡ order → IsTableOf t desc → IsReadableOrAbsent order desc
table_can order t None is table = tt
table_can order t (Some bytes) is table = described_is_readable order bytes t.events.items (subst (λ o. DescribesByEventDesc (number_in o) bytes t.events.items) is table)

pub named_can : (order : Endianness) (desc : Option (List ℕ)) (ds : List AttributeDescription) → NamedByEventDesc order desc ds → IsReadableOrAbsent order desc
named_can order None ds named = tt
named_can order (Some bytes) ds (descriptions, is, names) = described_is_readable order bytes descriptions is

-- a table built from EVENT_DESC, from which attributes have their names
pub named_by_table : (order : Endianness) (t : NameTable) (desc : Option (List ℕ)) (ds : List AttributeDescription) → t.endian ≡ order → IsTableOf t desc → NamedBy t.events.items ds → NamedByEventDesc order desc ds
named_by_table order t None ds is table named = subst (λ descriptions. NamedBy descriptions ds) table named
named_by_table order t (Some bytes) ds is table named = (t.events.items, subst (λ o. DescribesByEventDesc (number_in o) bytes t.events.items) is table, named)

-- the copied names of one more attribute, and of all
pub names_more : (t : NameTable) (ds : List AttributeDescription) (i : ℕ) (d : AttributeDescription) (before after : List (Option (String Global))) (name : Option (String Global)) → i < length ds → d ≡ get_or ds i d → option_map string_bytes name ≡ name_from_table t (ids_in d) → after ≡ before ++ name ∷ []
    → name_bytes_of before ≡ names_from_table t (take i ds) → name_bytes_of after ≡ names_from_table t (take (i + 1) ds)
names_more t ds i d before after name inside is new pushed known =
    let name_of = λ (d : AttributeDescription). name_from_table t (ids_in d) in
    let more : take (i + 1) ds ≡ take i ds ++ d ∷ [] = take_more ds i d inside ∙ ap (λ x. take i ds ++ x ∷ []) (sym is) in
    ap name_bytes_of pushed ∙ map_push (λ (n : Option (String Global)). option_map string_bytes n) before name ∙ (λ k. known k ++ new k ∷ []) ∙ sym (ap (names_from_table t) more ∙ map_push name_of (take i ds) d)

pub names_all : (t : NameTable) (ds : List AttributeDescription) (i : ℕ) (names : List (Option (String Global))) → length ds ≤ i → name_bytes_of names ≡ names_from_table t (take i ds) → name_bytes_of names ≡ names_from_table t ds
names_all t ds i names done known = known ∙ ap (names_from_table t) (take_all i ds done)
