-- Tables as entries are added.
use Rattle.std.proofs.Common.{◌≡◌, ◌∙◌, ◌⊎◌, ◌<◌, inl, inr, ap, refl, sym, subst, arith, ℕ, suc, List, [], ◌∷◌, ◌++◌, length, length-append, append_assoc, map, slice_get, Option, None, Some, Result, Ok, Err, IfOk, OnErr}
use Rattle.std.proofs.lemmas.List.{append-nil}
use Rattle.std.proofs.lemmas.Option.{get_or_from_slice_get}
use Rattle.std.specs.Option.{option_map}
use Rattle.perfdata_profile.specs.Interning.{Grows, Interns}
use Rattle.perfdata_profile.specs.Names.{number_of}
use Rattle.perfdata_profile.specs.Interned.{lines_number, location_number, mapping_number, stack_number}
use Rattle.perfdata_profile.specs.Values.{AreLocations, AreNamed, AreNamedIn, AreWithin, HasFile, HasNames, HasParts, IsInMapping, IsKey, IsLines, IsLocation, IsMapping, IsName, IsPlaced, IsStack, Lists, RangeValue, line_in, lines_at, lines_value, location_at, location_value, name_at, name_in, no_location, no_range, range_at, range_value, sample_value, stack_at}
use Rattle.perfdata_profile.specs.steps.Values.{ListsGrow}
use Rattle.perfdata_profile.specs.declared.lines.Line.{Line}
use Rattle.perfdata_profile.specs.declared.lines.LinesId.{LinesId}
use Rattle.perfdata_profile.specs.declared.locations.Location.{Location}
use Rattle.perfdata_profile.specs.declared.locations.LocationId.{LocationId}
use Rattle.perfdata_profile.specs.declared.mappings.MappedRange.{MappedRange}
use Rattle.perfdata_profile.specs.declared.mappings.MappingId.{MappingId}
use Rattle.perfdata_profile.specs.declared.names.NameId.{NameId}
use Rattle.perfdata_profile.specs.declared.stacks.StackId.{StackId}
use Rattle.perfdata_profile.specs.declared.sums.SampleKey.{SampleKey}
use Rattle.perfdata_profile.proofs.Elements.{old_or_last, slice_get_more, some_same}
use Rattle.perfdata_profile.proofs.Valuing.{entry_at, value_is}

pub grows_trans : {A : Type 0} → (first second third : List A) → Grows first second → Grows second third → Grows first third
grows_trans first second third grows more = (grows.0 ++ more.0, more.1 ∙ ap (λ l. l ++ more.0) grows.1 ∙ append_assoc first grows.0 more.0)

pub grows_same : {A : Type 0} → (items : List A) → Grows items items
grows_same items = ([], sym (append-nil items))

pub grows_equal : {A : Type 0} → (old new : List A) → new ≡ old → Grows old new
grows_equal old new is = ([], is ∙ sym (append-nil old))

pub interns_grows : {A : Type 0} → (old new : List A) (item : A) (id : ℕ) → Interns old item id new → Grows old new
interns_grows old new item id interns = elim interns.adds [
  | inl same ↦ grows_equal old new same
  | inr more ↦ (item ∷ [], more)
]

-- An insertion that fails adds nothing.
pub result_grows : {A I E : Type 0} → (number : I → ℕ) (result : Result I E) (old new : List A) (item : A) → IfOk result (λ id. Interns old item (number id) new) → OnErr result (new ≡ old) → Grows old new
result_grows number (Ok id) old new item adds same = interns_grows old new item (number id) adds
result_grows number (Err error) old new item adds same = grows_equal old new same

-- An entry after an insertion was there, or is the new one.
pub old_or_added : {A : Type 0} → (old new : List A) (item : A) (id : ℕ) → Interns old item id new → (index : ℕ) (x : A) → slice_get new index ≡ Some x → (slice_get old index ≡ Some x) ⊎ (x ≡ item)
old_or_added old new item id interns index x at = elim interns.adds [
  | inl same ↦ inl (ap (λ l. slice_get l index) (sym same) ∙ at)
  | inr more ↦ elim (old_or_last old item index x (ap (λ l. slice_get l index) (sym more) ∙ at)) [
    | inl was ↦ inl was
    | inr last ↦ inr last.1
  ]
]

pub at_kept : {A : Type 0} → (old new : List A) → Grows old new → (index : ℕ) (x : A) → slice_get old index ≡ Some x → slice_get new index ≡ Some x
at_kept old new grows index x at = ap (λ l. slice_get l index) grows.1 ∙ slice_get_more old grows.0 index x at

pub within_kept : {A : Type 0} → (old new : List A) → Grows old new → (n : ℕ) → n < length old → n < length new
within_kept old new grows n within =
    let size = ap length grows.1 ∙ length-append old grows.0 in
    omega (arith, within, size)

pub lists_trans : (first second third : Lists) → ListsGrow first second → ListsGrow second third → ListsGrow first third
lists_trans first second third grows more = record {
  names = grows_trans first.names second.names third.names grows.names more.names;
  ranges = grows_trans first.ranges second.ranges third.ranges grows.ranges more.ranges;
  lines = grows_trans first.lines second.lines third.lines grows.lines more.lines;
  locations = grows_trans first.locations second.locations third.locations grows.locations more.locations;
  stacks = grows_trans first.stacks second.stacks third.stacks grows.stacks more.stacks;
}

-- Names of lines stay as names are added.
module _ (old new : List (List ℕ)) (grows : Grows old new) where
  pub names_kept : (id : NameId) → number_of id < length old → name_in new id ≡ name_in old id
  names_kept id is =
      let a = entry_at old (number_of id) is in
      get_or_from_slice_get new (number_of id) a.0 [] (at_kept old new grows (number_of id) a.0 a.1) ∙ sym (get_or_from_slice_get old (number_of id) a.0 [] a.1)

  pub has_names : (line : Line) → HasNames old line → HasNames new line
  has_names line is = (within_kept old new grows (number_of line.function) is.0, within_kept old new grows (number_of line.file) is.1)

  pub named_kept : (lines : List Line) → AreNamedIn old lines → AreNamedIn new lines
  named_kept lines are = λ index line at. has_names line (are index line at)

  pub line_kept : (line : Line) → HasNames old line → line_in new line ≡ line_in old line
  line_kept line is =
      let function = names_kept line.function is.0 in
      let file = names_kept line.file is.1 in
      λ i. record { function = function i; file = file i; line = line.line }

  pub line_values_kept : (lines : List Line) → AreNamedIn old lines → map (line_in new) lines ≡ map (line_in old) lines
  line_values_kept [] are = refl
  line_values_kept (line ∷ lines) are =
      let head = line_kept line (are 0 line refl) in
      let rest = line_values_kept lines (λ index. are (suc index)) in
      λ i. head i ∷ rest i

-- Ids keep their values.
module _ (old new : Lists) (grows : ListsGrow old new) where
  pub name_within : (id : NameId) → IsName old id → IsName new id
  name_within id is = within_kept old.names new.names grows.names (number_of id) is

  pub name_kept : (id : NameId) → IsName old id → name_at new id ≡ name_at old id
  name_kept id is =
      let a = entry_at old.names (number_of id) is in
      get_or_from_slice_get new.names (number_of id) a.0 [] (at_kept old.names new.names grows.names (number_of id) a.0 a.1) ∙ sym (get_or_from_slice_get old.names (number_of id) a.0 [] a.1)

  file_within : (range : MappedRange) → HasFile old range → HasFile new range
  file_within range is = (name_within range.path is.0, name_within range.build_id is.1)

  range_kept : (range : MappedRange) → HasFile old range → range_value new range ≡ range_value old range
  range_kept range is =
      let path = name_kept range.path is.0 in
      let build_id = name_kept range.build_id is.1 in
      λ i. record { start = range.start; end = range.end; page_offset = range.page_offset; path = path i; build_id = build_id i }

  mapping_within : (id : MappingId) → IsMapping old id → IsMapping new id
  mapping_within id is = within_kept old.ranges new.ranges grows.ranges (mapping_number id) is

  in_mapping_kept : (id : MappingId) (address : ℕ) → IsMapping old id → IsInMapping old id address → IsInMapping new id address
  in_mapping_kept id address is placed = λ range at.
      let a = entry_at old.ranges (mapping_number id) is in
      let same : a.0 ≡ range = some_same a.0 range (sym (at_kept old.ranges new.ranges grows.ranges (mapping_number id) a.0 a.1) ∙ at) in
      placed range (a.1 ∙ ap (λ (r : MappedRange). Some r) same)

  pub placed_within : (mapping : Option MappingId) (address : ℕ) → IsPlaced old mapping address → IsPlaced new mapping address
  placed_within mapping address is = λ id at. (mapping_within id (is id at).0, in_mapping_kept id address (is id at).0 (is id at).1)

  pub lines_within : (id : LinesId) → IsLines old id → IsLines new id
  lines_within id is = within_kept old.lines new.lines grows.lines (lines_number id) is

  parts_within : (location : Location) → HasParts old location → HasParts new location
  parts_within location is = (lines_within location.lines is.0, placed_within location.mapping location.address is.1)

  pub location_within : (id : LocationId) → IsLocation old id → IsLocation new id
  location_within id is = within_kept old.locations new.locations grows.locations (location_number id) is

  pub locations_within : (ids : List LocationId) → AreLocations old ids → AreLocations new ids
  locations_within ids is = λ index id at. location_within id (is index id at)

  pub stack_within : (id : StackId) → IsStack old id → IsStack new id
  stack_within id is = within_kept old.stacks new.stacks grows.stacks (stack_number id) is

  pub key_within : (key : SampleKey) → IsKey old key → IsKey new key
  key_within key is = (name_within key.thread.name is.0, stack_within key.stack is.1)

  -- Tables to which entries with ids of entries are added.
  pub within_added : AreWithin old → ((index : ℕ) (range : MappedRange) → slice_get new.ranges index ≡ Some range → (slice_get old.ranges index ≡ Some range) ⊎ HasFile new range) → ((index : ℕ) (list : List Line) → slice_get new.lines index ≡ Some list → (slice_get old.lines index ≡ Some list) ⊎ AreNamed new list) → ((index : ℕ) (location : Location) → slice_get new.locations index ≡ Some location → (slice_get old.locations index ≡ Some location) ⊎ HasParts new location) → ((index : ℕ) (stack : List LocationId) → slice_get new.stacks index ≡ Some stack → (slice_get old.stacks index ≡ Some stack) ⊎ AreLocations new stack) → AreWithin new
  within_added within ranges lines locations stacks = record {
    ranges = λ index range at. elim (ranges index range at) [
      | inl was ↦ file_within range (within.ranges index range was)
      | inr is ↦ is
    ];
    lines = λ index list at. elim (lines index list at) [
      | inl was ↦ named_kept old.names new.names grows.names list (within.lines index list was)
      | inr is ↦ is
    ];
    locations = λ index location at. elim (locations index location at) [
      | inl was ↦ parts_within location (within.locations index location was)
      | inr is ↦ is
    ];
    stacks = λ index stack at. elim (stacks index stack at) [
      | inl was ↦ locations_within stack (within.stacks index stack was)
      | inr is ↦ is
    ];
  }

  module _ (within : AreWithin old) where
    pub mapping_kept : (id : MappingId) → IsMapping old id → range_at new id ≡ range_at old id
    mapping_kept id is =
        let a = entry_at old.ranges (mapping_number id) is in
        value_is (range_value new) new.ranges no_range (mapping_number id) a.0 (at_kept old.ranges new.ranges grows.ranges (mapping_number id) a.0 a.1) ∙ range_kept a.0 (within.ranges (mapping_number id) a.0 a.1) ∙ sym (value_is (range_value old) old.ranges no_range (mapping_number id) a.0 a.1)

    pub placed_kept : (mapping : Option MappingId) (address : ℕ) → IsPlaced old mapping address → option_map (range_at new) mapping ≡ option_map (range_at old) mapping
    placed_kept None address is = refl
    placed_kept (Some id) address is = ap (λ (r : RangeValue). Some r) (mapping_kept id (is id refl).0)

    pub lines_kept : (id : LinesId) → IsLines old id → lines_at new id ≡ lines_at old id
    lines_kept id is =
        let a = entry_at old.lines (lines_number id) is in
        value_is (lines_value new) new.lines [] (lines_number id) a.0 (at_kept old.lines new.lines grows.lines (lines_number id) a.0 a.1) ∙ line_values_kept old.names new.names grows.names a.0 (within.lines (lines_number id) a.0 a.1) ∙ sym (value_is (lines_value old) old.lines [] (lines_number id) a.0 a.1)

    parts_kept : (location : Location) → HasParts old location → location_value new location ≡ location_value old location
    parts_kept location is =
        let mapping = placed_kept location.mapping location.address is.1 in
        let lines = lines_kept location.lines is.0 in
        λ i. record { mapping = mapping i; address = location.address; lines = lines i }

    pub location_kept : (id : LocationId) → IsLocation old id → location_at new id ≡ location_at old id
    location_kept id is =
        let a = entry_at old.locations (location_number id) is in
        value_is (location_value new) new.locations no_location (location_number id) a.0 (at_kept old.locations new.locations grows.locations (location_number id) a.0 a.1) ∙ parts_kept a.0 (within.locations (location_number id) a.0 a.1) ∙ sym (value_is (location_value old) old.locations no_location (location_number id) a.0 a.1)

    pub locations_kept : (ids : List LocationId) → AreLocations old ids → map (location_at new) ids ≡ map (location_at old) ids
    locations_kept [] is = refl
    locations_kept (id ∷ ids) is =
        let head = location_kept id (is 0 id refl) in
        let rest = locations_kept ids (λ index. is (suc index)) in
        λ i. head i ∷ rest i

    pub stack_kept : (id : StackId) → IsStack old id → stack_at new id ≡ stack_at old id
    stack_kept id is =
        let a = entry_at old.stacks (stack_number id) is in
        value_is (map (location_at new)) new.stacks [] (stack_number id) a.0 (at_kept old.stacks new.stacks grows.stacks (stack_number id) a.0 a.1) ∙ locations_kept a.0 (within.stacks (stack_number id) a.0 a.1) ∙ sym (value_is (map (location_at old)) old.stacks [] (stack_number id) a.0 a.1)

    pub key_kept : (key : SampleKey) → IsKey old key → sample_value new key ≡ sample_value old key
    key_kept key is =
        let name = name_kept key.thread.name is.0 in
        let stack = stack_kept key.stack is.1 in
        λ i. record { thread = record { name = name i; pid = key.thread.pid; tid = key.thread.tid }; stack = stack i; column = key.column }

-- What one more name, mapping, list of lines, location or stack changes.
module _ (names : List (List ℕ)) (ranges : List MappedRange) (lines : List (List Line)) (locations : List Location) (stacks : List (List LocationId)) where
  abbrev five : Lists
  five = record { names = names; ranges = ranges; lines = lines; locations = locations; stacks = stacks }

  abbrev with_names : List (List ℕ) → Lists
  with_names more = record { names = more; ranges = ranges; lines = lines; locations = locations; stacks = stacks }

  abbrev with_ranges : List MappedRange → Lists
  with_ranges more = record { names = names; ranges = more; lines = lines; locations = locations; stacks = stacks }

  abbrev with_lines : List (List Line) → Lists
  with_lines more = record { names = names; ranges = ranges; lines = more; locations = locations; stacks = stacks }

  abbrev with_locations : List Location → Lists
  with_locations more = record { names = names; ranges = ranges; lines = lines; locations = more; stacks = stacks }

  abbrev with_stacks : List (List LocationId) → Lists
  with_stacks more = record { names = names; ranges = ranges; lines = lines; locations = locations; stacks = more }

  pub names_grow : (more : List (List ℕ)) → Grows names more → ListsGrow five (with_names more)
  names_grow more grows = record { names = grows; ranges = grows_same ranges; lines = grows_same lines; locations = grows_same locations; stacks = grows_same stacks }

  pub ranges_grow : (more : List MappedRange) → Grows ranges more → ListsGrow five (with_ranges more)
  ranges_grow more grows = record { names = grows_same names; ranges = grows; lines = grows_same lines; locations = grows_same locations; stacks = grows_same stacks }

  pub lines_grow : (more : List (List Line)) → Grows lines more → ListsGrow five (with_lines more)
  lines_grow more grows = record { names = grows_same names; ranges = grows_same ranges; lines = grows; locations = grows_same locations; stacks = grows_same stacks }

  pub locations_grow : (more : List Location) → Grows locations more → ListsGrow five (with_locations more)
  locations_grow more grows = record { names = grows_same names; ranges = grows_same ranges; lines = grows_same lines; locations = grows; stacks = grows_same stacks }

  pub stacks_grow : (more : List (List LocationId)) → Grows stacks more → ListsGrow five (with_stacks more)
  stacks_grow more grows = record { names = grows_same names; ranges = grows_same ranges; lines = grows_same lines; locations = grows_same locations; stacks = grows }

  module _ (within : AreWithin five) where
    pub names_within : (more : List (List ℕ)) → Grows names more → AreWithin (with_names more)
    names_within more grows = within_added five (with_names more) (names_grow more grows) within (λ index range at. inl at) (λ index list at. inl at) (λ index location at. inl at) (λ index stack at. inl at)

    pub range_interned : (more : List MappedRange) (range : MappedRange) (id : ℕ) → HasFile five range → Interns ranges range id more → AreWithin (with_ranges more)
    range_interned more range id is interns = within_added five (with_ranges more) (ranges_grow more (interns_grows ranges more range id interns)) within (λ index r at. elim (old_or_added ranges more range id interns index r at) [
      | inl was ↦ inl was
      | inr same ↦ inr (subst (HasFile (with_ranges more)) (sym same) is)
    ]) (λ index list at. inl at) (λ index location at. inl at) (λ index stack at. inl at)

    pub lines_interned : (more : List (List Line)) (list : List Line) (id : ℕ) → AreNamed five list → Interns lines list id more → AreWithin (with_lines more)
    lines_interned more list id are interns = within_added five (with_lines more) (lines_grow more (interns_grows lines more list id interns)) within (λ index range at. inl at) (λ index l at. elim (old_or_added lines more list id interns index l at) [
      | inl was ↦ inl was
      | inr same ↦ inr (subst (AreNamed (with_lines more)) (sym same) are)
    ]) (λ index location at. inl at) (λ index stack at. inl at)

    pub location_interned : (more : List Location) (location : Location) (id : ℕ) → HasParts five location → Interns locations location id more → AreWithin (with_locations more)
    location_interned more location id is interns = within_added five (with_locations more) (locations_grow more (interns_grows locations more location id interns)) within (λ index range at. inl at) (λ index list at. inl at) (λ index l at. elim (old_or_added locations more location id interns index l at) [
      | inl was ↦ inl was
      | inr same ↦ inr (subst (HasParts (with_locations more)) (sym same) is)
    ]) (λ index stack at. inl at)

    pub stack_interned : (more : List (List LocationId)) (stack : List LocationId) (id : ℕ) → AreLocations five stack → Interns stacks stack id more → AreWithin (with_stacks more)
    stack_interned more stack id is interns = within_added five (with_stacks more) (stacks_grow more (interns_grows stacks more stack id interns)) within (λ index range at. inl at) (λ index list at. inl at) (λ index location at. inl at) (λ index s at. elim (old_or_added stacks more stack id interns index s at) [
      | inl was ↦ inl was
      | inr same ↦ inr (subst (AreLocations (with_stacks more)) (sym same) is)
    ])

    pub range_result : {I E : Type 0} → (number : I → ℕ) (result : Result I E) (more : List MappedRange) (range : MappedRange) → HasFile five range → IfOk result (λ id. Interns ranges range (number id) more) → OnErr result (more ≡ ranges) → AreWithin (with_ranges more)
    range_result number (Ok id) more range is adds same = range_interned more range (number id) is adds
    range_result number (Err error) more range is adds same = subst (λ (l : List MappedRange). AreWithin (with_ranges l)) (sym same) within

    pub lines_result : {I E : Type 0} → (number : I → ℕ) (result : Result I E) (more : List (List Line)) (list : List Line) → AreNamed five list → IfOk result (λ id. Interns lines list (number id) more) → OnErr result (more ≡ lines) → AreWithin (with_lines more)
    lines_result number (Ok id) more list are adds same = lines_interned more list (number id) are adds
    lines_result number (Err error) more list are adds same = subst (λ (l : List (List Line)). AreWithin (with_lines l)) (sym same) within

    pub location_result : {I E : Type 0} → (number : I → ℕ) (result : Result I E) (more : List Location) (location : Location) → HasParts five location → IfOk result (λ id. Interns locations location (number id) more) → OnErr result (more ≡ locations) → AreWithin (with_locations more)
    location_result number (Ok id) more location is adds same = location_interned more location (number id) is adds
    location_result number (Err error) more location is adds same = subst (λ (l : List Location). AreWithin (with_locations l)) (sym same) within

    pub stack_result : {I E : Type 0} → (number : I → ℕ) (result : Result I E) (more : List (List LocationId)) (stack : List LocationId) → AreLocations five stack → IfOk result (λ id. Interns stacks stack (number id) more) → OnErr result (more ≡ stacks) → AreWithin (with_stacks more)
    stack_result number (Ok id) more stack is adds same = stack_interned more stack (number id) is adds
    stack_result number (Err error) more stack is adds same = subst (λ (l : List (List LocationId)). AreWithin (with_stacks l)) (sym same) within

pub nothing : {A : Type 0} → (x : A) → None ≡ Some x → ⊥
nothing x is = cc

pub none_at : {A : Type 0} → (xs : List A) → xs ≡ [] → (index : ℕ) (x : A) → slice_get xs index ≡ Some x → ⊥
none_at xs is index x at = nothing x (ap (λ l. slice_get l index) (sym is) ∙ at)

-- Empty tables.
pub empty_within : (lists : Lists) → lists.ranges ≡ [] → lists.lines ≡ [] → lists.locations ≡ [] → lists.stacks ≡ [] → AreWithin lists
empty_within lists ranges lines locations stacks = record {
  ranges = λ index range at. absurd (none_at lists.ranges ranges index range at);
  lines = λ index list at. absurd (none_at lists.lines lines index list at);
  locations = λ index location at. absurd (none_at lists.locations locations index location at);
  stacks = λ index stack at. absurd (none_at lists.stacks stacks index stack at);
}
