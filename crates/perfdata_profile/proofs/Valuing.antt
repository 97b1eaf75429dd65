-- Sums by ids as sums by values.
use Rattle.std.proofs.Common.{◌≡◌, ◌∙◌, ◌<◌, inl, inr, ap, refl, sym, subst, arith, ℕ, suc, List, [], ◌∷◌, length, drop, map, slice_get, slice_index_or, Option, None, Some}
use Rattle.std.proofs.lemmas.Option.{get_or_from_slice_get, slice_get_cases}
use Rattle.std.proofs.lemmas.List.{length-map}
use Rattle.std.proofs.lemmas.List.Sums.{sum_by-cons}
use Rattle.std.specs.List.{sum_by}
use Rattle.std.specs.Option.{option_map}
use Rattle.perfdata_profile.specs.Interning.{IsOnce}
use Rattle.perfdata_profile.specs.Names.{number_of}
use Rattle.perfdata_profile.specs.Profiles.{TalliesValues}
use Rattle.perfdata_profile.specs.Interned.{lines_number, location_number, mapping_number, stack_number}
use Rattle.perfdata_profile.specs.Tallies.{Counted, IsSumOf, IsUnder, Tallies, one_sample, weight_of}
use Rattle.perfdata_profile.specs.Values.{AreLocations, AreNamed, AreOnce, AreWithin, HasFile, HasNames, HasParts, IsKey, IsLines, IsLocation, IsMapping, IsName, IsPlaced, IsStack, LineValue, Lists, LocationValue, RangeValue, SampleValue, line_in, lines_at, lines_value, location_at, location_value, name_at, no_location, no_range, range_at, range_value, sample_value, stack_at}
use Rattle.perfdata_profile.specs.declared.lines.Line.{Line}
use Rattle.perfdata_profile.specs.declared.lines.LinesId.{LinesId}
use Rattle.perfdata_profile.specs.declared.locations.Location.{Location}
use Rattle.perfdata_profile.specs.declared.locations.LocationId.{LocationId}
use Rattle.perfdata_profile.specs.declared.mappings.MappedRange.{MappedRange}
use Rattle.perfdata_profile.specs.declared.mappings.MappingId.{MappingId}
use Rattle.perfdata_profile.specs.declared.names.NameId.{NameId}
use Rattle.perfdata_profile.specs.declared.stacks.StackId.{StackId}
use Rattle.perfdata_profile.specs.declared.sums.SampleKey.{SampleKey}
use Rattle.perfdata_profile.specs.declared.sums.Sums.{Sums}
use Rattle.perfdata_profile.proofs.Elements.{some_same}
use Rattle.perfdata_profile.proofs.Searching.{at_map, map_at}

module _ {A B : Type 0} (f : A → B) (holds : A → Type 0) (other : B → Type 0) (weight : A → ℕ) (size : B → ℕ) where
  pub sum_map : (xs : List A) (sum : ℕ) → ((index : ℕ) (x : A) → slice_get xs index ≡ Some x → (holds x → other (f x)) × (other (f x) → holds x) × (size (f x) ≡ weight x)) → IsSumOf holds weight xs sum → IsSumOf other size (map f xs) sum
  sum_map [] sum same is = is
  sum_map (x ∷ xs) sum same is =
      let here = same 0 x refl in (
        is.0,
        sum_map xs is.0 (λ index. same (suc index)) is.1,
        elim is.2 [
          | inl under ↦ inl (here.0 under.0, omega (arith, under.1, here.2))
          | inr apart ↦ inr (λ o. apart.0 (here.1 o), apart.1)
        ],
      )

pub sum_by_map : {A B : Type 0} → (f : A → B) (weight : A → ℕ) (size : B → ℕ) (xs : List A) → ((x : A) → size (f x) ≡ weight x) → sum_by size (map f xs) ≡ sum_by weight xs
sum_by_map f weight size [] same = refl
sum_by_map f weight size (x ∷ xs) same =
    let rest = sum_by_map f weight size xs same in
    omega (arith, rest, same x, sum_by-cons size (f x) (map f xs), sum_by-cons weight x xs)

cons_same : {A : Type 0} → (x y : A) (xs ys : List A) → x ∷ xs ≡ y ∷ ys → (x ≡ y) × (xs ≡ ys)
cons_same {A} x y xs ys is = (ap (λ (l : List A). slice_index_or l 0 x) is, ap (λ (l : List A). drop 1 l) is)

-- The entry of a number in a table.
pub entry_at : {A : Type 0} → (items : List A) (n : ℕ) → n < length items → ((x : A) × (slice_get items n ≡ Some x))
entry_at items n within = elim (slice_get_cases items n).1 [
  | inl there ↦ (there.0, there.2)
  | inr past ↦ absurd (omega (arith, within, past.0))
]

module _ {A V : Type 0} (f : A → V) (items : List A) (default : V) where
  -- The value of a number in a table.
  pub value_is : (n : ℕ) (x : A) → slice_get items n ≡ Some x → slice_index_or (map f items) n default ≡ f x
  value_is n x at = get_or_from_slice_get (map f items) n (f x) default (at_map f items n x at)

  -- If each item stands once and has its own value, numbers with one value are one.
  pub same_number : (good : A → Type 0) → IsOnce items → ((n : ℕ) (x : A) → slice_get items n ≡ Some x → good x) → ((x y : A) → good x → good y → f x ≡ f y → x ≡ y) → (n m : ℕ) → n < length items → m < length items → slice_index_or (map f items) n default ≡ slice_index_or (map f items) m default → n ≡ m
  same_number good once all same n m within also is =
      let a = entry_at items n within in
      let b = entry_at items m also in
      let values : f a.0 ≡ f b.0 = sym (value_is n a.0 a.1) ∙ is ∙ value_is m b.0 b.1 in
      let items_same : a.0 ≡ b.0 = same a.0 b.0 (all n a.0 a.1) (all m b.0 b.1) values in
      once n m a.0 a.1 (b.1 ∙ ap (λ (x : A). Some x) (sym items_same))

abbrev name_id : ℕ → NameId
name_id n = record { 0 = n }

abbrev mapping_id : ℕ → MappingId
mapping_id n = record { 0 = n }

abbrev lines_id : ℕ → LinesId
lines_id n = record { 0 = n }

abbrev location_id : ℕ → LocationId
location_id n = record { 0 = n }

abbrev stack_id : ℕ → StackId
stack_id n = record { 0 = n }

module _ (lists : Lists) (once : AreOnce lists) (within : AreWithin lists) where
  same_name : (id other : NameId) → IsName lists id → IsName lists other → name_at lists id ≡ name_at lists other → id ≡ other
  same_name id other is also same =
      let a = entry_at lists.names (number_of id) is in
      let b = entry_at lists.names (number_of other) also in
      let names : a.0 ≡ b.0 = sym (get_or_from_slice_get lists.names (number_of id) a.0 [] a.1) ∙ same ∙ get_or_from_slice_get lists.names (number_of other) b.0 [] b.1 in
      ap (λ (n : ℕ). name_id n) (once.names (number_of id) (number_of other) a.0 a.1 (b.1 ∙ ap (λ (n : List ℕ). Some n) (sym names)))

  same_range : (range other : MappedRange) → HasFile lists range → HasFile lists other → range_value lists range ≡ range_value lists other → range ≡ other
  same_range range other is also same =
      let start = ap (λ (v : RangeValue). v.start) same in
      let end = ap (λ (v : RangeValue). v.end) same in
      let page_offset = ap (λ (v : RangeValue). v.page_offset) same in
      let path = same_name range.path other.path is.0 also.0 (ap (λ (v : RangeValue). v.path) same) in
      let build_id = same_name range.build_id other.build_id is.1 also.1 (ap (λ (v : RangeValue). v.build_id) same) in
      λ i. record { start = start i; end = end i; page_offset = page_offset i; path = path i; build_id = build_id i }

  same_mapping : (id other : MappingId) → IsMapping lists id → IsMapping lists other → range_at lists id ≡ range_at lists other → id ≡ other
  same_mapping id other is also same = ap (λ (n : ℕ). mapping_id n) (same_number (range_value lists) lists.ranges no_range (HasFile lists) once.ranges within.ranges same_range (mapping_number id) (mapping_number other) is also same)

  same_placed : (mapping other : Option MappingId) (address also_address : ℕ) → IsPlaced lists mapping address → IsPlaced lists other also_address → option_map (range_at lists) mapping ≡ option_map (range_at lists) other → mapping ≡ other
  same_placed None None address also_address is also same = refl
  same_placed None (Some o) address also_address is also same = cc
  same_placed (Some m) None address also_address is also same = cc
  same_placed (Some m) (Some o) address also_address is also same = ap (λ (id : MappingId). Some id) (same_mapping m o (is m refl).0 (also o refl).0 (some_same (range_at lists m) (range_at lists o) same))

  same_line : (line other : Line) → HasNames lists.names line → HasNames lists.names other → line_in lists.names line ≡ line_in lists.names other → line ≡ other
  same_line line other is also same =
      let function = same_name line.function other.function is.0 also.0 (ap (λ (v : LineValue). v.function) same) in
      let file = same_name line.file other.file is.1 also.1 (ap (λ (v : LineValue). v.file) same) in
      let number = ap (λ (v : LineValue). v.line) same in
      λ i. record { function = function i; file = file i; line = number i }

  same_lines : (lines others : List Line) → AreNamed lists lines → AreNamed lists others → lines_value lists lines ≡ lines_value lists others → lines ≡ others
  same_lines [] [] is also same = refl
  same_lines [] (o ∷ os) is also same = cc
  same_lines (l ∷ ls) [] is also same = cc
  same_lines (l ∷ ls) (o ∷ os) is also same =
      let parts = cons_same (line_in lists.names l) (line_in lists.names o) (lines_value lists ls) (lines_value lists os) same in
      let head = same_line l o (is 0 l refl) (also 0 o refl) parts.0 in
      let tail = same_lines ls os (λ index. is (suc index)) (λ index. also (suc index)) parts.1 in
      λ n. head n ∷ tail n

  same_lines_id : (id other : LinesId) → IsLines lists id → IsLines lists other → lines_at lists id ≡ lines_at lists other → id ≡ other
  same_lines_id id other is also same = ap (λ (n : ℕ). lines_id n) (same_number (lines_value lists) lists.lines [] (AreNamed lists) once.lines within.lines same_lines (lines_number id) (lines_number other) is also same)

  same_location : (location other : Location) → HasParts lists location → HasParts lists other → location_value lists location ≡ location_value lists other → location ≡ other
  same_location location other is also same =
      let mapping = same_placed location.mapping other.mapping location.address other.address is.1 also.1 (ap (λ (v : LocationValue). v.mapping) same) in
      let address = ap (λ (v : LocationValue). v.address) same in
      let lines = same_lines_id location.lines other.lines is.0 also.0 (ap (λ (v : LocationValue). v.lines) same) in
      λ i. record { mapping = mapping i; address = address i; lines = lines i }

  same_location_id : (id other : LocationId) → IsLocation lists id → IsLocation lists other → location_at lists id ≡ location_at lists other → id ≡ other
  same_location_id id other is also same = ap (λ (n : ℕ). location_id n) (same_number (location_value lists) lists.locations no_location (HasParts lists) once.locations within.locations same_location (location_number id) (location_number other) is also same)

  same_stack : (ids others : List LocationId) → AreLocations lists ids → AreLocations lists others → map (location_at lists) ids ≡ map (location_at lists) others → ids ≡ others
  same_stack [] [] is also same = refl
  same_stack [] (o ∷ os) is also same = cc
  same_stack (i ∷ ids) [] is also same = cc
  same_stack (i ∷ ids) (o ∷ os) is also same =
      let parts = cons_same (location_at lists i) (location_at lists o) (map (location_at lists) ids) (map (location_at lists) os) same in
      let head = same_location_id i o (is 0 i refl) (also 0 o refl) parts.0 in
      let tail = same_stack ids os (λ index. is (suc index)) (λ index. also (suc index)) parts.1 in
      λ n. head n ∷ tail n

  same_stack_id : (id other : StackId) → IsStack lists id → IsStack lists other → stack_at lists id ≡ stack_at lists other → id ≡ other
  same_stack_id id other is also same = ap (λ (n : ℕ). stack_id n) (same_number (map (location_at lists)) lists.stacks [] (AreLocations lists) once.stacks within.stacks same_stack (stack_number id) (stack_number other) is also same)

  -- Keys with one value are one.
  pub same_key : (key other : SampleKey) → IsKey lists key → IsKey lists other → sample_value lists key ≡ sample_value lists other → key ≡ other
  same_key key other is also same =
      let name = same_name key.thread.name other.thread.name is.0 also.0 (ap (λ (v : SampleValue). v.thread.name) same) in
      let pid = ap (λ (v : SampleValue). v.thread.pid) same in
      let tid = ap (λ (v : SampleValue). v.thread.tid) same in
      let stack = same_stack_id key.stack other.stack is.1 also.1 (ap (λ (v : SampleValue). v.stack) same) in
      let column = ap (λ (v : SampleValue). v.column) same in
      λ i. record { thread = record { name = name i; pid = pid i; tid = tid i }; stack = stack i; column = column i }

-- Sums by keys as sums by values of the keys, if keys with one value are one.
module _ {K L : Type 0} (f : K → L) (good : K → Type 0) (same : (k o : K) → good k → good o → f k ≡ f o → k ≡ o) (counted : List (Counted K)) (entries : List (K × Sums)) (keys : (index : ℕ) (one : Counted K) → slice_get counted index ≡ Some one → good one.key) (tallies : Tallies counted entries) where
  abbrev valued : Counted K → Counted L
  valued one = record { key = f one.key; weight = one.weight }

  abbrev valued_sums : K × Sums → L × Sums
  valued_sums entry = (f entry.0, entry.1)

  abbrev values : List (Counted L)
  values = map valued counted

  abbrev value_entries : List (L × Sums)
  value_entries = map valued_sums entries

  pub entry_key : (index : ℕ) (key : K) (sums : Sums) → slice_get entries index ≡ Some (key, sums) → good key
  entry_key index key sums at =
      let c = tallies.only index key sums at in
      subst good c.3 (keys c.0 c.1 c.2)

  -- An entry by values is one by ids.
  by_ids : (index : ℕ) (value : L) (sums : Sums) → slice_get value_entries index ≡ Some (value, sums) → ((key : K) × (slice_get entries index ≡ Some (key, sums)) × (f key ≡ value))
  by_ids index value sums at =
      let e = map_at valued_sums entries index (value, sums) at in
      (e.0.0, e.1 ∙ ap (λ (s : Sums). Some (e.0.0, s)) (ap (λ (p : L × Sums). p.1) e.2), ap (λ (p : L × Sums). p.0) e.2)

  column : (size : Counted K → ℕ) (value_size : Counted L → ℕ) (sum : ℕ) (index : ℕ) (value : L) (sums : Sums) → ((one : Counted K) → value_size (valued one) ≡ size one) → slice_get value_entries index ≡ Some (value, sums) → ((key : K) → slice_get entries index ≡ Some (key, sums) → IsSumOf (IsUnder key) size counted sum) → IsSumOf (IsUnder value) value_size values sum
  column size value_size sum index value sums sizes at is =
      let e = by_ids index value sums at in
      let key = entry_key index e.0 sums e.1 in
      sum_map valued (IsUnder e.0) (IsUnder value) size value_size counted sum (λ n one found. (
        (λ under. ap f under ∙ e.2),
        (λ under. same one.key e.0 (keys n one found) key (under ∙ sym e.2)),
        sizes one,
      )) (is e.0 e.1)

  pub tally_values : Tallies values value_entries
  tally_values = record {
    samples = λ index value sums at. column one_sample one_sample sums.samples index value sums (λ one. refl) at (λ key found. tallies.samples index key sums found);
    weights = λ index value sums at. column weight_of weight_of sums.weight index value sums (λ one. refl) at (λ key found. tallies.weights index key sums found);
    all = λ index one found.
        let c = map_at valued counted index one found in
        let e = tallies.all index c.0 c.1 in
        (e.0, e.1, at_map valued_sums entries e.0 (c.0.key, e.1) e.2 ∙ ap (λ (o : Counted L). Some (o.key, e.1)) c.2);
    only = λ index value sums at.
        let e = by_ids index value sums at in
        let c = tallies.only index e.0 sums e.1 in
        (c.0, valued c.1, at_map valued counted c.0 c.1 c.2, ap f c.3 ∙ e.2);
    once = λ first second value s t at also.
        let e = by_ids first value s at in
        let o = by_ids second value t also in
        let key = same o.0 e.0 (entry_key second o.0 t o.1) (entry_key first e.0 s e.1) (o.2 ∙ sym e.2) in
        tallies.once first second e.0 s t e.1 (o.1 ∙ ap (λ (k : K). Some (k, t)) key);
    sum_of_samples = sum_by_map valued_sums (λ (e : K × Sums). e.1.samples) (λ (e : L × Sums). e.1.samples) entries (λ e. refl) ∙ tallies.sum_of_samples ∙ sym (length-map counted valued);
    sum_of_weights = sum_by_map valued_sums (λ (e : K × Sums). e.1.weight) (λ (e : L × Sums). e.1.weight) entries (λ e. refl) ∙ tallies.sum_of_weights ∙ sym (sum_by_map valued weight_of weight_of counted (λ c. refl));
  }

pub tallies_values : TalliesValues
tallies_values lists counted entries once within keys tallies = tally_values (sample_value lists) (IsKey lists) (same_key lists once within) counted entries keys tallies
