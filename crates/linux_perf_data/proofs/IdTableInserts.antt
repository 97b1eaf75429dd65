-- The lookups in a table of identifiers after an insertion.
use Rattle.std.proofs.Common.{◌≡◌, ◌==◌, ℕ, ◌++◌, List, [], ◌∷◌, Bool, true, false, refl, sym, ap, ◌∙◌}
use Rattle.std.specs.Prelude.{cond, if◌then◌else◌, Option, Some}
use Rattle.std.specs.BTreeMap.{BTreeMap, get, is_at}
use Rattle.std.specs.Map.{lookup}
use Rattle.std.specs.Option.{option_or}
use Rattle.std.specs.Ordering.{nat_cmp}
use Rattle.linux_perf_data.specs.declared.attributes.id_table.IdTable.{IdTable}
use Rattle.linux_perf_data.specs.Attribute.{lists_id}
use Rattle.linux_perf_data.specs.IdTable.{id_lookup}
use Rattle.linux_perf_data.specs.steps.IdTable.{MapsId, MapsIds}
use Rattle.linux_perf_data.specs.IdPairs.{index_of_id}
use Rattle.linux_perf_data.proofs.IdPairLemmas.{Pairs}
use Rattle.linux_perf_data.proofs.NameTables.{at_is}

-- ---- one identifier

late_first : (b : Bool) (index : ℕ) (late first : Option ℕ) → option_or (cond b (Some index) late) first ≡ (if b then Some index else option_or late first)
late_first true index late first = refl
late_first false index late first = refl

pub late_put : (first : Pairs) (old new : BTreeMap ℕ ℕ) (id index : ℕ) → ((q : ℕ) → get nat_cmp new q ≡ cond (is_at (nat_cmp id) q) (Some index) (get nat_cmp old q))
    → (other : ℕ) → option_or (get nat_cmp new other) (index_of_id other first) ≡ (if id == other then Some index else option_or (get nat_cmp old other) (index_of_id other first))
late_put first old new id index puts other =
    ap (λ o. option_or o (index_of_id other first)) (puts other)
    ∙ late_first (is_at (nat_cmp id) other) index (get nat_cmp old other) (index_of_id other first)
    ∙ ap (λ b. if b then Some index else option_or (get nat_cmp old other) (index_of_id other first)) (at_is id other)

pub late_same : (first : Pairs) (old new : BTreeMap ℕ ℕ) → new.entries ≡ old.entries → (other : ℕ) → option_or (get nat_cmp new other) (index_of_id other first) ≡ option_or (get nat_cmp old other) (index_of_id other first)
late_same first old new same other = ap (λ (es : Pairs). option_or (lookup (is_at (nat_cmp other)) es) (index_of_id other first)) same

pub none_late : (first : Pairs) (late : BTreeMap ℕ ℕ) → late.entries ≡ [] → (id : ℕ) → option_or (get nat_cmp late id) (index_of_id id first) ≡ index_of_id id first
none_late first late none id = ap (λ (es : Pairs). option_or (lookup (is_at (nat_cmp id)) es) (index_of_id id first)) none

-- ---- several identifiers

turned : (b c d : Bool) → (if b then true else (if c then true else d)) ≡ (if c then true else (if b then true else d))
turned true true d = refl
turned true false d = refl
turned false c d = refl

listed_last : (x id : ℕ) (ids : List ℕ) → lists_id x (ids ++ id ∷ []) ≡ (if id == x then true else lists_id x ids)
listed_last x id [] = refl
listed_last x id (y ∷ ids) = ap (λ b. if y == x then true else b) (listed_last x id ids) ∙ turned (y == x) (id == x) (lists_id x ids)

chosen : (b c : Bool) (previous put : Option ℕ) → (if b then put else (if c then put else previous)) ≡ (if (if b then true else c) then put else previous)
chosen true c previous put = refl
chosen false c previous put = refl

-- one more identifier
pub puts_more : (old now new : IdTable) (ids : List ℕ) (id n : ℕ) → MapsIds old ids n now → MapsId now id n new → MapsIds old (ids ++ id ∷ []) n new
puts_more old now new ids id n before put x =
    put x ∙ ap (λ o. if id == x then Some n else o) (before x) ∙ chosen (id == x) (lists_id x ids) (id_lookup old x) (Some n)
    ∙ ap (λ b. if b then Some n else id_lookup old x) (sym (listed_last x id ids))
