-- Rows as samples are added.
use Rattle.std.proofs.Common.{◌≡◌, ◌≢◌, ◌∙◌, ◌<◌, ◌≤◌, ◌-◌, ◌+◌, ◌^◌, inl, inr, ap, refl, sym, arith, cond, true≢false, ℕ, zero, suc, Bool, true, false, List, [], ◌∷◌, ◌++◌, length, map, min, slice_get, slice_set, get_or, position, Option, None, Some, Vec, Global, replicate, Result, Ok, Err, OnErr, OnOk}
use Rattle.std.proofs.lemmas.List.{map-append}
use Rattle.std.specs.Map.{keys_of, lookup}
use Rattle.indexmap.specs.IndexMap.{set_value_at}
use Rattle.pprof.specs.Builders.{row_of, rows_of}
use Rattle.pprof.specs.Samples.{AddsSamples, HasKey, NeedMemory, NoneHasKey, Row, padded, raised, set_values, weighted}
use Rattle.pprof.specs.steps.Samples.{RaisesRow}
use Rattle.pprof.specs.declared.builder.RowKey.{RowKey}
use Rattle.pprof.specs.declared.builder.WeightedSamples.{WeightedSamples}
use Rattle.pprof.proofs.Interning.{at_map, found_at, some_same}
use Rattle.pprof.proofs.Keys.{eq_row, row-Decides}

abbrev Entry : Type 0
Entry = RowKey × Vec ℕ Global

from_map : {A B : Type 0} → (f : A → B) (xs : List A) (index : ℕ) (y : B) → slice_get (map f xs) index ≡ Some y → ((x : A) × (slice_get xs index ≡ Some x) × (f x ≡ y))
from_map f [] index y is = cc
from_map f (x ∷ xs) zero y is = (x, refl, some_same (f x) y is)
from_map f (x ∷ xs) (suc index) y is = from_map f xs index y is

cond_none : {X : Type 0} → (b : Bool) (x : X) (rest : Option X) → cond b (Some x) rest ≡ None → (b ≡ false) × (rest ≡ None)
cond_none true x rest is = cc
cond_none false x rest is = (refl, is)

none_found : {K X : Type 0} → (test : K → Bool) (es : List (K × X)) (index : ℕ) (k : K) (x : X) → lookup test es ≡ None → slice_get es index ≡ Some (k, x) → test k ≡ false
none_found test [] index k x none is = cc
none_found {K} {X} test (e ∷ es) zero k x none is = ap (λ (p : K × X). test p.0) (sym (some_same e (k, x) is)) ∙ (cond_none (test e.0) e.1 (lookup test es) none).0
none_found test (e ∷ es) (suc index) k x none is = none_found test es index k x (cond_none (test e.0) e.1 (lookup test es) none).1 is

-- A sum in the place of a value.
pub raised_set : (values : List ℕ) (index number value : ℕ) → index < length values → value ≡ get_or values index value
    → slice_set values index (min (value + number) (2 ^ 64 - 1)) ≡ raised index number values
raised_set [] index number value within is = absurd (omega (arith, within))
raised_set (v ∷ values) zero number value within is = ap (λ (n : ℕ). min (n + number) (2 ^ 64 - 1) ∷ values) is
raised_set (v ∷ values) (suc index) number value within is = ap (λ (vs : List ℕ). v ∷ vs) (raised_set values index number value (omega (arith, within)) is)

pub raised_past : (values : List ℕ) (index number : ℕ) → length values ≤ index → values ≡ raised index number values
raised_past [] index number past = refl
raised_past (v ∷ values) zero number past = absurd (omega (arith, past))
raised_past (v ∷ values) (suc index) number past = ap (λ (vs : List ℕ). v ∷ vs) (raised_past values index number (omega (arith, past)))

-- Other values in an entry are other values in its row.
set_row : (es : List Entry) (index : ℕ) (values : Vec ℕ Global) → rows_of (set_value_at es index values) ≡ set_values (rows_of es) index values.items
set_row [] index values = refl
set_row (e ∷ es) zero values = refl
set_row (e ∷ es) (suc index) values = ap (λ (rows : List Row). row_of e ∷ rows) (set_row es index values)

set_same : (rows : List Row) (index : ℕ) (row : Row) → slice_get rows index ≡ Some row → set_values rows index row.values ≡ rows
set_same [] index row at = refl
set_same (r ∷ rows) zero row at =
    let same : r ≡ row = some_same r row at in
    λ i. record { location_ids = r.location_ids; labels = r.labels; values = (sym same i).values } ∷ rows
set_same (r ∷ rows) (suc index) row at = ap (λ (more : List Row). r ∷ more) (set_same rows index row at)

-- The row with an index is raised if its values become those with the weight.
pub raises : (old new : List Entry) (index type_count : ℕ) (weight : WeightedSamples) (before after : Vec ℕ Global) → slice_get (map (λ (e : Entry). e.1) old) index ≡ Some before
    → new ≡ set_value_at old index after → after.items ≡ weighted weight (padded type_count before.items) → RaisesRow (rows_of old) index type_count weight (rows_of new)
raises old new index type_count weight before after at is items row there =
    let entry = from_map (λ (e : Entry). e.1) old index before at in
    let other = from_map row_of old index row there in
    let same : entry.0 ≡ other.0 = some_same entry.0 other.0 (sym entry.1 ∙ other.1) in
    let values : before.items ≡ row.values = ap (λ (v : Vec ℕ Global). v.items) (sym entry.2) ∙ ap (λ (e : Entry). e.1.items) same ∙ ap (λ (r : Row). r.values) other.2 in
    ap rows_of is ∙ set_row old index after ∙ ap (λ (vs : List ℕ). set_values (rows_of old) index vs) (items ∙ ap (λ (vs : List ℕ). weighted weight (padded type_count vs)) values)

-- The row with an index has its values.
pub lacks_at : (es : List Entry) (index type_count : ℕ) (values : Vec ℕ Global) → slice_get (map (λ (e : Entry). e.1) es) index ≡ Some values → length values.items ≢ type_count
    → (row : Row) → slice_get (rows_of es) index ≡ Some row → length row.values ≢ type_count
lacks_at es index type_count values at lacks row there is =
    let entry = from_map (λ (e : Entry). e.1) es index values at in
    let other = from_map row_of es index row there in
    let same : entry.0 ≡ other.0 = some_same entry.0 other.0 (sym entry.1 ∙ other.1) in
    let kept : values.items ≡ row.values = ap (λ (v : Vec ℕ Global). v.items) (sym entry.2) ∙ ap (λ (e : Entry). e.1.items) same ∙ ap (λ (r : Row). r.values) other.2 in
    lacks (ap (λ (vs : List ℕ). length vs) kept ∙ is)

-- No row changes if its values stay.
pub keeps : (old new : List Entry) (index : ℕ) (before after : Vec ℕ Global) → slice_get (map (λ (e : Entry). e.1) old) index ≡ Some before
    → new ≡ set_value_at old index after → after.items ≡ before.items → rows_of new ≡ rows_of old
keeps old new index before after at is items =
    let entry = from_map (λ (e : Entry). e.1) old index before at in
    let values : after.items ≡ (row_of entry.0).values = items ∙ ap (λ (v : Vec ℕ Global). v.items) (sym entry.2) in
    ap rows_of is ∙ set_row old index after ∙ ap (λ (vs : List ℕ). set_values (rows_of old) index vs) values ∙ set_same (rows_of old) index (row_of entry.0) (at_map row_of old index entry.0 entry.1)

-- What holds after an error holds whichever it is.
pub on_err : {T E : Type 0} {P : Type 0} (result : Result T E) → P → OnErr result P
on_err (Ok value) holds = tt
on_err (Err error) holds = holds

-- The row that is found has the key.
row_at : (old : List Entry) (key : RowKey) (index : ℕ) → position (eq_row key) (keys_of old) ≡ Some index
    → (row : Row) × (slice_get (rows_of old) index ≡ Some row) × HasKey key.labels.items key.location_ids.items row
row_at old key index found =
    let k = found_at (eq_row key) (keys_of old) index found in
    let entry = from_map (λ (e : Entry). e.0) old index k.0 k.1 in
    let same = (row-Decides key k.0).0 k.2 in
    let stored : entry.0.0 ≡ k.0 = entry.2 in (
      row_of entry.0,
      at_map row_of old index entry.0 entry.1,
      record {
        labels_are = ap (λ (r : RowKey). r.labels.items) stored ∙ sym same.1;
        location_ids_are = ap (λ (r : RowKey). r.location_ids.items) stored ∙ sym same.0;
      },
    )

adds_to_row : (old new : List Entry) (key : RowKey) (index type_count types : ℕ) (weight : WeightedSamples) → type_count ≡ types → position (eq_row key) (keys_of old) ≡ Some index
    → RaisesRow (rows_of old) index type_count weight (rows_of new)
    → AddsSamples types (rows_of old) key.labels.items key.location_ids.items weight (rows_of new)
adds_to_row old new key index type_count types weight counted found raised =
    let row = row_at old key index found in
    inl (record {
      index = index;
      row = row.0;
      is_at = row.1;
      has_key = row.2;
      new_is = raised row.0 row.1 ∙ ap (λ (n : ℕ). set_values (rows_of old) index (weighted weight (padded n row.0.values))) counted;
    })

-- The row that is found lacks the value of a type if it can't be raised.
pub row_lacks : {E : Type 0} (result : Result (Unit {0}) E) (old : List Entry) (key : RowKey) (index type_count types : ℕ) → type_count ≡ types
    → position (eq_row key) (keys_of old) ≡ Some index
    → OnErr result ((row : Row) → slice_get (rows_of old) index ≡ Some row → length row.values ≢ type_count)
    → OnErr result (NeedMemory types (rows_of old) key.labels.items key.location_ids.items)
row_lacks (Ok done) old key index type_count types counted found lacks = tt
row_lacks (Err error) old key index type_count types counted found lacks =
    let row = row_at old key index found in
    inr (record {
      index = index;
      row = row.0;
      is_at = row.1;
      has_key = row.2;
      lacks = λ is. lacks row.0 row.1 (is ∙ sym counted);
    })

-- A row that is found is raised.
pub added_to_row : {E : Type 0} (result : Result (Unit {0}) E) (old new : List Entry) (key : RowKey) (index type_count types : ℕ) (weight : WeightedSamples) → type_count ≡ types
    → position (eq_row key) (keys_of old) ≡ Some index → OnOk result (RaisesRow (rows_of old) index type_count weight (rows_of new))
    → OnOk result (AddsSamples types (rows_of old) key.labels.items key.location_ids.items weight (rows_of new))
added_to_row (Ok done) old new key index type_count types weight counted found raised = adds_to_row old new key index type_count types weight counted found raised
added_to_row (Err error) old new key index type_count types weight counted found raised = tt

-- A row that isn't found is absent.
pub none_has_key : (old : List Entry) (key : RowKey) → lookup (eq_row key) old ≡ None → NoneHasKey (rows_of old) key.labels.items key.location_ids.items
none_has_key old key absent index row at has =
    let entry = from_map row_of old index row at in
    let apart = none_found (eq_row key) old index entry.0.0 entry.0.1 absent entry.1 in
    let location_ids : key.location_ids.items ≡ entry.0.0.location_ids.items = sym (ap (λ (r : Row). r.location_ids) entry.2 ∙ has.location_ids_are) in
    let labels : key.labels.items ≡ entry.0.0.labels.items = sym (ap (λ (r : Row). r.labels) entry.2 ∙ has.labels_are) in
    true≢false (sym ((row-Decides key entry.0.0).1 (location_ids, labels)) ∙ apart)

-- A row that isn't found is appended.
pub appends_row : (old new : List Entry) (key : RowKey) (values : Vec ℕ Global) (type_count types : ℕ) (weight : WeightedSamples) → type_count ≡ types → lookup (eq_row key) old ≡ None
    → new ≡ old ++ (key, values) ∷ [] → values.items ≡ weighted weight (replicate type_count 0)
    → AddsSamples types (rows_of old) key.labels.items key.location_ids.items weight (rows_of new)
appends_row old new key values type_count types weight counted absent longer items =
    inr (record {
      none_has_key = none_has_key old key absent;
      new_is = ap rows_of longer ∙ map-append row_of old ((key, values) ∷ [])
          ∙ ap (λ (vs : List ℕ). rows_of old ++ record { location_ids = key.location_ids.items; labels = key.labels.items; values = vs } ∷ [])
          (items ∙ ap (λ (n : ℕ). weighted weight (replicate n 0)) counted);
    })
