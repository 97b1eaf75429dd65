-- The renames of attributes by a new name table.
use Rattle.std.proofs.Common.{◌≡◌, ◌≢◌, ◌==◌, ℕ, zero, suc, ◌+◌, ◌<◌, ◌≤◌, Bool, true, false, List, [], ◌∷◌, ◌++◌, length, map, get_or, set, refl, sym, ap, ◌∙◌, subst, arith, inl, inr, length-set, Option, None, Some}
use Rattle.std.specs.Prelude.{◌⊎◌, ◌||◌, if◌then◌else◌, String, string_bytes}
use Rattle.std.specs.BTreeMap.{get}
use Rattle.std.specs.List.{All, Any, list_any}
use Rattle.std.specs.Option.{is_some, option_map}
use Rattle.std.specs.Ordering.{eq_by_cmp, nat_cmp}
use Rattle.std.specs.declared.alloc.Global.{Global}
use Rattle.std.proofs.lemmas.Bool.{cases_Bool, cases_eq, cases_lt, false≢true}
use Rattle.std.proofs.lemmas.List.{ext_get_or, get_or-set_other, get_or-set_same, get_or_append_left, get_or_default, get_or_push, length-map, length_push, map-set}
use Rattle.std.proofs.lemmas.List.Elements.{All-head, All-nil, All-push, All-tail}
use Rattle.std.proofs.lemmas.List.Quantifiers.{Any-push}
use Rattle.perfdata_sections.specs.AttributeDescription.{ids_in, name_in}
use Rattle.perfdata_sections.specs.declared.feature_sections.AttributeDescription.{AttributeDescription}
use Rattle.linux_perf_data.specs.FirstIdIndex.{has_first_id, id_lists_of, last_with_first_id}
use Rattle.linux_perf_data.specs.steps.FirstIdIndex.{IndexesAll}
use Rattle.linux_perf_data.specs.steps.NameTable.{name_from_table}
use Rattle.linux_perf_data.specs.Names.{NamedBy, name_by_first_id, same_first_id}
use Rattle.linux_perf_data.specs.steps.Names.{names_in}
use Rattle.linux_perf_data.specs.steps.Renames.{AddsRenames, AreRenamesFor, HasOtherFirstId, IsRename, IsRenamed, IsUnlistedOrKept, KeepsName, Rename, ids_at, name_at}
use Rattle.linux_perf_data.specs.declared.attributes.first_id_index.FirstIdIndex.{FirstIdIndex}
use Rattle.linux_perf_data.specs.declared.attributes.names.NameTable.{NameTable}
use Rattle.linux_perf_data.proofs.FirstIdIndexes.{last_found, last_missed}
use Rattle.linux_perf_data.proofs.NameTables.{at_is, name_of_first, no_ids, unlisted_name}
use Rattle.linux_perf_data.proofs.Naming.{all_by_map, set_same}

-- ---- one more rename

any_kept : {X : Type 0} (P : X → Type 0) (xs : List X) (y : X) → Any P xs → Any P (xs ++ y ∷ [])
any_kept P xs y (k, x, less, at, p) = (k, x, (let more = length_push xs y in omega (arith, less, more)), get_or_append_left xs (y ∷ []) x k less ∙ at, p)

pub renamed_more : (ds : List AttributeDescription) (t : NameTable) (old new : List Rename) (index : ℕ) (name : Option (String Global)) → new ≡ old ++ (index, name) ∷ [] → index < length ds → option_map string_bytes name ≡ name_from_table t (ids_at ds index) → AddsRenames ds t (λ k. k ≢ index) old new
renamed_more ds t old new index name is there named = subst (AddsRenames ds t (λ k. k ≢ index) old) (sym is) (record {
  keeps = λ k renamed. any_kept (λ r. r.0 ≡ k) old (index, name) renamed;
  valid = λ all. All-push (IsRename ds t) old (index, name) all (there, named);
  adds = λ k less. elim (cases_eq k index) [
    | inl same ↦ inl (Any-push (λ r. r.0 ≡ k) old (index, name) (sym same))
    | inr apart ↦ inr apart
  ];
})

-- ---- the attributes with a first id

-- the attributes from an index on are renamed, where `next` is the last one before it
pub record RenamedFrom (ds : List AttributeDescription) (t : NameTable) (id : ℕ) (next : Option ℕ) (old now : List Rename) : Type 0 where
  pub index : ℕ
  pub in_bounds : index ≤ length ds
  pub next_is : next ≡ last_with_first_id (id_lists_of ds) id index
  pub skipped_markers : (k : ℕ) → index ≤ k → k < length ds → IsRenamed k now ⊎ HasOtherFirstId ds id k
  pub keeps : (k : ℕ) → IsRenamed k old → IsRenamed k now
  pub valid : All (IsRename ds t) old → All (IsRename ds t) now

pub renamed_none : (ds : List AttributeDescription) (t : NameTable) (x : FirstIdIndex) (id : ℕ) (next : Option ℕ) (old : List Rename) → IndexesAll x ds → next ≡ get nat_cmp x.last id → RenamedFrom ds t id next old old
renamed_none ds t x id next old (indexes, all) is = record {
  index = length ds;
  in_bounds = omega arith;
  next_is = is ∙ indexes.last id ∙ ap (last_with_first_id (id_lists_of ds) id) all;
  skipped_markers = λ k from less. absurd (omega (arith, from, less));
  keeps = λ k renamed. renamed;
  valid = λ valid. valid;
}

module _ (ds : List AttributeDescription) (t : NameTable) (id at : ℕ) (old now : List Rename) (r : RenamedFrom ds t id (Some at) old now) where
  pub next_in_bounds : at < length ds
  next_in_bounds = (let f = last_found (id_lists_of ds) id r.index at (sym r.next_is) in let low = f.below in let bound = r.in_bounds in omega (arith, low, bound))

  pub previous_is : (x : FirstIdIndex) (next : Option ℕ) → IndexesAll x ds → next ≡ get_or x.previous.items at None → next ≡ last_with_first_id (id_lists_of ds) id at
  previous_is x next (indexes, all) is =
      let f = last_found (id_lists_of ds) id r.index at (sym r.next_is) in
      is ∙ indexes.previous id at (let low = next_in_bounds in omega (arith, low, all)) f.has

  pub renamed_from_more : (next : Option ℕ) (new : List Rename) → next ≡ last_with_first_id (id_lists_of ds) id at → AddsRenames ds t (λ k. k ≢ at) now new → RenamedFrom ds t id next old new
  renamed_from_more next new is adds =
      let f = last_found (id_lists_of ds) id r.index at (sym r.next_is) in
      let low = next_in_bounds in record {
        index = at;
        in_bounds = omega (arith, low);
        next_is = is;
        skipped_markers = λ k from less. elim (adds.adds k less) [
          | inl renamed ↦ inl renamed
          | inr apart ↦ elim (cases_lt k r.index) [
            | inl before ↦ inr (f.after k (omega (arith, from, apart)) before)
            | inr after ↦ elim (r.skipped_markers k after less) [ inl renamed ↦ inl (adds.keeps k renamed) | inr other ↦ inr other ]
          ]
        ];
        keeps = λ k renamed. adds.keeps k (r.keeps k renamed);
        valid = λ valid. adds.valid (r.valid valid);
      }

pub renamed_all : (ds : List AttributeDescription) (t : NameTable) (id : ℕ) (old now : List Rename) → RenamedFrom ds t id None old now → AddsRenames ds t (HasOtherFirstId ds id) old now
renamed_all ds t id old now r = record {
  keeps = r.keeps;
  valid = r.valid;
  adds = λ k less. elim (cases_lt k r.index) [
    | inl before ↦ inr (last_missed (id_lists_of ds) id r.index (sym r.next_is) k before)
    | inr after ↦ r.skipped_markers k after less
  ];
}

-- one more than the next index, which decreases
abbrev pub rank : Option ℕ → ℕ
rank None = zero
rank (Some i) = suc i

rank_below : (lists : List (List ℕ)) (id n : ℕ) → rank (last_with_first_id lists id n) ≤ n
rank_below lists id zero = omega arith
rank_below lists id (suc n) = elim (cases_Bool (has_first_id lists id n)) [
  | inl same ↦ subst (λ o. rank o ≤ suc n) (sym (ap (λ b. if b then Some n else last_with_first_id lists id n) same)) (omega arith)
  | inr other ↦ subst (λ o. rank o ≤ suc n) (sym (ap (λ b. if b then Some n else last_with_first_id lists id n) other)) (let less = rank_below lists id n in omega (arith, less))
]

pub rank_smaller : (lists : List (List ℕ)) (id at : ℕ) (next : Option ℕ) → next ≡ last_with_first_id lists id at → rank next < rank (Some at)
rank_smaller lists id at next is = subst (λ o. rank o < suc at) (sym is) (let less = rank_below lists id at in omega (arith, less))

-- ---- the first ids in a table

-- the first of the ids is among some
pub is_first_among : List ℕ → List ℕ → Bool
is_first_among ids some = list_any (λ id. same_first_id ids (id ∷ [])) some

-- the attributes whose first ids aren't in `remaining` are renamed, unless their names stay
pub record RenamesVisited (ds : List AttributeDescription) (listed before after : NameTable) (remaining : List ℕ) (old now : List Rename) : Type 0 where
  pub keeps : (k : ℕ) → IsRenamed k old → IsRenamed k now
  pub valid : All (IsRename ds after) old → All (IsRename ds after) now
  pub adds : (k : ℕ) → k < length ds → IsRenamed k now ⊎ (IsUnlistedOrKept ds listed before after k ⊎ (is_first_among (ids_at ds k) remaining ≡ true))

member_among : (id : ℕ) (rest keys : List ℕ) → list_any (eq_by_cmp nat_cmp id) keys ≡ list_any (λ key. same_first_id (id ∷ rest) (key ∷ [])) keys
member_among id rest [] = refl
member_among id rest (key ∷ keys) = ap (λ b. b || list_any (eq_by_cmp nat_cmp id) keys) (at_is id key) ∙ ap (λ b. (id == key) || b) (member_among id rest keys)

some_or_none : {A : Type 0} (o : Option A) → (o ≡ None) ⊎ (is_some o ≡ true)
some_or_none None = inl refl
some_or_none (Some x) = inr refl

listed_or_not : (listed : NameTable) (keys ids : List ℕ) → ((q : ℕ) → is_some (get nat_cmp listed.index_by_first_id q) ≡ list_any (eq_by_cmp nat_cmp q) keys) → (name_from_table listed ids ≡ None) ⊎ (is_first_among ids keys ≡ true)
unfolding is_first_among
listed_or_not listed keys [] has = inl (no_ids listed.events.items)
listed_or_not listed keys (id ∷ rest) has = elim (some_or_none (get nat_cmp listed.index_by_first_id id)) [
  | inl none ↦ inl (unlisted_name listed id rest none)
  | inr some ↦ inr (sym (has id ∙ member_among id rest keys) ∙ some)
]

pub visited_none : (ds : List AttributeDescription) (listed before after : NameTable) (keys : List ℕ) (old : List Rename) → ((q : ℕ) → is_some (get nat_cmp listed.index_by_first_id q) ≡ list_any (eq_by_cmp nat_cmp q) keys) → RenamesVisited ds listed before after keys old old
visited_none ds listed before after keys old has = record {
  keeps = λ k renamed. renamed;
  valid = λ valid. valid;
  adds = λ k less. elim (listed_or_not listed keys (ids_at ds k) has) [ inl none ↦ inr (inl (inl none)) | inr among ↦ inr (inr among) ];
}

-- both tables give the attributes with a first id the same name
kept_name : (before after : NameTable) (id : ℕ) (ids : List ℕ) → same_first_id ids (id ∷ []) ≡ true → name_from_table after (id ∷ []) ≡ name_from_table before (id ∷ []) → name_from_table after ids ≡ name_from_table before ids
kept_name before after id ids has same = name_of_first after.events.items id ids has ∙ same ∙ sym (name_of_first before.events.items id ids has)

pub visited_kept : (ds : List AttributeDescription) (before after : NameTable) (id : ℕ) (now : List Rename) → name_from_table after (id ∷ []) ≡ name_from_table before (id ∷ []) → AddsRenames ds after (λ k. HasOtherFirstId ds id k ⊎ KeepsName ds before after k) now now
visited_kept ds before after id now same = record {
  keeps = λ k renamed. renamed;
  valid = λ valid. valid;
  adds = λ k less. elim (cases_Bool (has_first_id (id_lists_of ds) id k)) [ inl has ↦ inr (inr (kept_name before after id (ids_at ds k) has same)) | inr other ↦ inr (inl other) ];
}

pub visited_renamed : (ds : List AttributeDescription) (before after : NameTable) (id : ℕ) (now new : List Rename) → AddsRenames ds after (HasOtherFirstId ds id) now new → AddsRenames ds after (λ k. HasOtherFirstId ds id k ⊎ KeepsName ds before after k) now new
visited_renamed ds before after id now new r = record {
  keeps = r.keeps;
  valid = r.valid;
  adds = λ k less. elim (r.adds k less) [ inl renamed ↦ inl renamed | inr other ↦ inr (inl other) ];
}

among_later : (ids remaining : List ℕ) (id : ℕ) → is_first_among ids (id ∷ remaining) ≡ true → same_first_id ids (id ∷ []) ≡ false → is_first_among ids remaining ≡ true
unfolding is_first_among
among_later ids remaining id among other = sym (ap (λ b. b || list_any (λ q. same_first_id ids (q ∷ [])) remaining) other) ∙ among

among_none : (ids remaining : List ℕ) → remaining ≡ [] → is_first_among ids remaining ≡ true → ⊥
unfolding is_first_among
among_none ids remaining none among = false≢true (sym (ap (list_any (λ q. same_first_id ids (q ∷ []))) none) ∙ among)

pub visited_more : (ds : List AttributeDescription) (listed before after : NameTable) (id : ℕ) (remaining later : List ℕ) (old now new : List Rename) → remaining ≡ id ∷ later → RenamesVisited ds listed before after remaining old now → AddsRenames ds after (λ k. HasOtherFirstId ds id k ⊎ KeepsName ds before after k) now new
    → RenamesVisited ds listed before after later old new
visited_more ds listed before after id remaining later old now new is so r = record {
  keeps = λ k renamed. r.keeps k (so.keeps k renamed);
  valid = λ valid. r.valid (so.valid valid);
  adds = λ k less. elim (r.adds k less) [
    | inl renamed ↦ inl renamed
    | inr (inr kept) ↦ inr (inl (inr kept))
    | inr (inl other) ↦ elim (so.adds k less) [
      | inl renamed ↦ inl (r.keeps k renamed)
      | inr (inl exempt) ↦ inr (inl exempt)
      | inr (inr among) ↦ inr (inr (among_later (ids_at ds k) later id (subst (λ l. is_first_among (ids_at ds k) l ≡ true) is among) other))
    ]
  ];
}

pub visited_all : (ds : List AttributeDescription) (listed before after : NameTable) (remaining : List ℕ) (old now : List Rename) → remaining ≡ [] → RenamesVisited ds listed before after remaining old now → AddsRenames ds after (IsUnlistedOrKept ds listed before after) old now
visited_all ds listed before after remaining old now none so = record {
  keeps = so.keeps;
  valid = so.valid;
  adds = λ k less. elim (so.adds k less) [
    | inl renamed ↦ inl renamed
    | inr (inl exempt) ↦ inr exempt
    | inr (inr among) ↦ absurd (among_none (ids_at ds k) remaining none among)
  ];
}

-- the first ids in both tables
pub changed : (ds : List AttributeDescription) (before after : NameTable) (none first all : List Rename) → none ≡ [] → AddsRenames ds after (IsUnlistedOrKept ds before before after) none first → AddsRenames ds after (IsUnlistedOrKept ds after before after) first all
    → All (IsRename ds after) all × ((k : ℕ) → k < length ds → IsRenamed k all ⊎ KeepsName ds before after k)
changed ds before after none first all empty one two = (
  two.valid (one.valid (subst (All (IsRename ds after)) (sym empty) (All-nil (IsRename ds after)))),
  λ k less. elim (two.adds k less) [
    | inl renamed ↦ inl renamed
    | inr (inr kept) ↦ inr kept
    | inr (inl unlisted) ↦ elim (one.adds k less) [
      | inl renamed ↦ inl (two.keeps k renamed)
      | inr (inr kept) ↦ inr kept
      | inr (inl before_unlisted) ↦ inr (unlisted ∙ sym before_unlisted)
    ]
  ],
)

-- ---- all attributes

pub record RenamesBelow (ds : List AttributeDescription) (t : NameTable) (index : ℕ) (now : List Rename) : Type 0 where
  pub valid : All (IsRename ds t) now
  pub renamed : (k : ℕ) → k < index → IsRenamed k now

pub below_none : (ds : List AttributeDescription) (t : NameTable) (now : List Rename) → now ≡ [] → RenamesBelow ds t 0 now
below_none ds t now none = record { valid = subst (All (IsRename ds t)) (sym none) (All-nil (IsRename ds t)); renamed = λ k less. absurd (omega (arith, less)) }

pub below_more : (ds : List AttributeDescription) (t : NameTable) (index : ℕ) (now new : List Rename) → index < length ds → RenamesBelow ds t index now → AddsRenames ds t (λ k. k ≢ index) now new → RenamesBelow ds t (index + 1) new
below_more ds t index now new there so adds = record {
  valid = adds.valid so.valid;
  renamed = λ k less. elim (cases_eq k index) [
    | inl same ↦ elim (adds.adds k (omega (arith, same, there))) [ inl renamed ↦ renamed | inr apart ↦ absurd (apart same) ]
    | inr apart ↦ adds.keeps k (so.renamed k (omega (arith, less, apart)))
  ];
}

-- ---- the names that the attributes have

named_at : (ds : List AttributeDescription) (t : NameTable) (k : ℕ) → k < length ds → NamedBy t.events.items ds → name_at ds k ≡ name_from_table t (ids_at ds k)
named_at [] t k less named = absurd (omega (arith, less))
named_at (d ∷ ds) t zero less named = All-head (λ x. name_in x ≡ name_from_table t (ids_in x)) d ds named
named_at (d ∷ ds) t (suc k) less named = named_at ds t k (omega (arith, less)) (All-tail (λ x. name_in x ≡ name_from_table t (ids_in x)) d ds named)

-- the attributes have the names of a table, and these are their renames by another one
pub renames_for : (ds : List AttributeDescription) (before after : NameTable) (renames : List Rename) → NamedBy before.events.items ds → All (IsRename ds after) renames → ((k : ℕ) → k < length ds → IsRenamed k renames ⊎ KeepsName ds before after k) → AreRenamesFor ds after renames
renames_for ds before after renames named valid others = record {
  valid = valid;
  others = λ k less. elim (others k less) [
    | inl renamed ↦ inl renamed
    | inr kept ↦ inr (named_at ds before k less named ∙ sym kept)
  ];
}

pub renames_for_all : (ds : List AttributeDescription) (after : NameTable) (renames : List Rename) → All (IsRename ds after) renames → ((k : ℕ) → k < length ds → IsRenamed k renames ⊎ ⊥) → AreRenamesFor ds after renames
renames_for_all ds after renames valid others = record {
  valid = valid;
  others = λ k less. elim (others k less) [ inl renamed ↦ inl renamed | inr none ↦ absurd none ];
}

pub renames_in_bounds : (ds : List AttributeDescription) (t : NameTable) (renames : List Rename) → AreRenamesFor ds t renames → All (λ r. r.0 < length ds) renames
renames_in_bounds ds t renames are = λ k d less. (are.valid k d less).0

-- ---- one rename is applied

any_but_last : (k : ℕ) (rs : List Rename) (r : Rename) → r.0 ≢ k → IsRenamed k (rs ++ r ∷ []) → IsRenamed k rs
any_but_last k rs r apart (i, x, less, at, p) = elim (cases_eq i (length rs)) [
  | inl same ↦ absurd (apart (ap (λ (y : Rename). y.0) (sym (get_or_push rs r x i (sym same)) ∙ at) ∙ p))
  | inr other ↦
      let more = length_push rs r in
      let low : i < length rs = omega (arith, less, more, other) in
      (i, x, low, sym (get_or_append_left rs (r ∷ []) x i low) ∙ at, p)
]

-- the last rename, and those before it
pub all_but_last : (P : Rename → Type 0) (rs : List Rename) (r : Rename) → All P (rs ++ r ∷ []) → All P rs × P r
all_but_last P rs r all = (
  λ k d less. subst P (get_or_append_left rs (r ∷ []) d k less) (all k d (let more = length_push rs r in omega (arith, less, more))),
  subst P (get_or_push rs r r (length rs) refl) (all (length rs) r (let more = length_push rs r in omega (arith, more))),
)

module _ (ds : List AttributeDescription) (t : NameTable) (rs : List Rename) (r : Rename) (old new : AttributeDescription) (there : r.0 < length ds) (name : name_in new ≡ option_map string_bytes r.1) (ids : ids_in new ≡ ids_in (get_or ds r.0 old)) where
  same_ids : id_lists_of (set ds r.0 new) ≡ id_lists_of ds
  same_ids = set_same ids_in ds r.0 new (ids ∙ ap ids_in (get_or_default ds r.0 old new there))

  pub rename_applied : AreRenamesFor ds t (rs ++ r ∷ []) → AreRenamesFor (set ds r.0 new) t rs
  rename_applied renames =
      let parts = all_but_last (IsRename ds t) rs r renames.valid in
      let count : length (set ds r.0 new) ≡ length ds = length-set ds r.0 new in
      let names : names_in (set ds r.0 new) ≡ set (names_in ds) r.0 (name_in new) = map-set name_in ds r.0 new in record {
        valid = λ k d less. (
          (let low = (parts.0 k d less).0 in omega (arith, low, count)),
          (parts.0 k d less).1 ∙ ap (λ l. name_from_table t (get_or l (get_or rs k d).0 [])) (sym same_ids),
        );
        others = λ k less. elim (cases_eq k r.0) [
          | inl same ↦ inr (
              ap (λ l. get_or l k None) names ∙ ap (λ n. get_or (set (names_in ds) r.0 (name_in new)) n None) same
              ∙ get_or-set_same (names_in ds) r.0 (name_in new) None (let long = length-map ds name_in in omega (arith, there, long))
              ∙ name ∙ parts.1.1 ∙ ap (λ l. name_from_table t (get_or l r.0 [])) (sym same_ids) ∙ ap (λ n. name_from_table t (ids_at (set ds r.0 new) n)) (sym same)
              )
          | inr apart ↦ elim (renames.others k (omega (arith, less, count))) [
            | inl renamed ↦ inl (any_but_last k rs r (λ same. apart (sym same)) renamed)
            | inr kept ↦ inr (
                ap (λ l. get_or l k None) names ∙ get_or-set_other (names_in ds) r.0 k (name_in new) None apart ∙ kept ∙ ap (λ l. name_from_table t (get_or l k [])) (sym same_ids)
                )
          ]
        ];
      }

names_of_ids : (f : List ℕ → Option (List ℕ)) (ds : List AttributeDescription) (k : ℕ) → k < length ds → get_or (map (λ d. f (ids_in d)) ds) k None ≡ f (ids_at ds k)
names_of_ids f [] k less = absurd (omega (arith, less))
names_of_ids f (d ∷ ds) zero less = refl
names_of_ids f (d ∷ ds) (suc k) less = names_of_ids f ds k (omega (arith, less))

renamed_by_none : (k : ℕ) (renames : List Rename) → renames ≡ [] → IsRenamed k renames → ⊥
renamed_by_none k renames none (i, x, less, at, p) = (let empty = ap length none in omega (arith, less, empty))

-- all renames are applied
pub renames_applied : (ds : List AttributeDescription) (t : NameTable) (renames : List Rename) → renames ≡ [] → AreRenamesFor ds t renames → NamedBy t.events.items ds
renames_applied ds t renames none are =
    let f = name_by_first_id t.events.items in
    all_by_map name_in (λ d. f (ids_in d)) ds (ext_get_or None (names_in ds) (map (λ d. f (ids_in d)) ds) (length-map ds name_in ∙ sym (length-map ds (λ d. f (ids_in d)))) (λ k inside.
    let long = length-map ds name_in in
    let less : k < length ds = omega (arith, inside, long) in
    elim (are.others k less) [
      | inl renamed ↦ absurd (renamed_by_none k renames none renamed)
      | inr kept ↦ kept ∙ sym (names_of_ids f ds k less)
    ]))
