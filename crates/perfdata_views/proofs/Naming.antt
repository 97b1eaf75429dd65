-- The functions of stacks by their ids, and by their names.
use Rattle.std.proofs.Common.{◌≡◌, ◌∙◌, ap, refl, sym, subst, ℕ, zero, suc, List, [], ◌∷◌, ◌++◌, get_or, map, Option, None, Some, slice_get, Result, Ok, Err, IfOk, Vec, Global}
use Rattle.std.proofs.lemmas.List.{map-append}
use Rattle.perfdata_profile.proofs.Searching.{map_at}
use Rattle.perfdata_profile.proofs.Valuing.{value_is}
use Rattle.perfdata_profile.specs.Interned.{lines_number, location_number}
use Rattle.perfdata_profile.specs.Values.{AreWithin, IsName, LineValue, Lists, LocationValue, lines_at, lines_value, location_at, location_value, name_at, no_location}
use Rattle.perfdata_profile.specs.declared.lines.Line.{Line}
use Rattle.perfdata_profile.specs.declared.locations.Location.{Location}
use Rattle.perfdata_profile.specs.declared.locations.LocationId.{LocationId}
use Rattle.perfdata_profile.specs.declared.names.NameId.{NameId}
use Rattle.perfdata_views.specs.Entries.{stack_names}
use Rattle.perfdata_views.specs.steps.Entries.{AreNames, functions_in, line_functions, location_functions, stack_functions}
use Rattle.perfdata_views.proofs.LineSums.{missing}

abbrev pub names_in_lines : List LineValue → List (List ℕ)
names_in_lines lines = map (λ (line : LineValue). line.function) lines

-- Nothing is at a number beyond a table.
pub none_at_number : {A B : Type 0} → (f : A → B) (items : List A) (number : ℕ) (default : B) → slice_get items number ≡ None → get_or (map f items) number default ≡ default
none_at_number f items number default none = sym (missing f items number default (sym none))

module _ (lists : Lists) where
  -- The functions of a location.
  pub functions_found : (id : LocationId) (location : Location) (lines : List Line) → slice_get lists.locations (location_number id) ≡ Some location
      → slice_get lists.lines (lines_number location.lines) ≡ Some lines → location_functions lists id ≡ line_functions lines
  functions_found id location lines at there = ap (functions_in lists) at ∙ value_is line_functions lists.lines [] (lines_number location.lines) lines there

  line_names : (lines : List Line) → map (name_at lists) (line_functions lines) ≡ names_in_lines (lines_value lists lines)
  line_names [] = refl
  line_names (line ∷ lines) = ap (λ (names : List (List ℕ)). name_at lists line.function ∷ names) (line_names lines)

  lines_names : (location : Location) (list : Option (List Line)) → slice_get lists.lines (lines_number location.lines) ≡ list
      → map (name_at lists) (get_or (map line_functions lists.lines) (lines_number location.lines) []) ≡ names_in_lines (lines_at lists location.lines)
  lines_names location None at =
      ap (map (name_at lists)) (none_at_number line_functions lists.lines (lines_number location.lines) [] at)
      ∙ sym (ap names_in_lines (none_at_number (lines_value lists) lists.lines (lines_number location.lines) [] at))
  lines_names location (Some list) at =
      ap (map (name_at lists)) (value_is line_functions lists.lines [] (lines_number location.lines) list at)
      ∙ line_names list
      ∙ sym (ap names_in_lines (value_is (lines_value lists) lists.lines [] (lines_number location.lines) list at))

  location_names : (id : LocationId) (location : Option Location) → slice_get lists.locations (location_number id) ≡ location
      → map (name_at lists) (location_functions lists id) ≡ names_in_lines (location_at lists id).lines
  location_names id None at =
      ap (λ (l : Option Location). map (name_at lists) (functions_in lists l)) at
      ∙ sym (ap (λ (l : LocationValue). names_in_lines l.lines) (none_at_number (location_value lists) lists.locations (location_number id) no_location at))
  location_names id (Some location) at =
      ap (λ (l : Option Location). map (name_at lists) (functions_in lists l)) at
      ∙ lines_names location (slice_get lists.lines (lines_number location.lines)) refl
      ∙ sym (ap (λ (l : LocationValue). names_in_lines l.lines) (value_is (location_value lists) lists.locations no_location (location_number id) location at))

  -- The names of the functions of a stack.
  pub stack_same : (ids : List LocationId) → map (name_at lists) (stack_functions lists ids) ≡ stack_names (map (location_at lists) ids)
  stack_same [] = refl
  stack_same (id ∷ ids) =
      let function : LineValue → List ℕ = λ l. l.function in
      let here = location_names id (slice_get lists.locations (location_number id)) refl in
      map-append (name_at lists) (location_functions lists id) (stack_functions lists ids)
      ∙ ap (λ (names : List (List ℕ)). names ++ map (name_at lists) (stack_functions lists ids)) here
      ∙ ap (λ (names : List (List ℕ)). names_in_lines (location_at lists id).lines ++ names) (stack_same ids)
      ∙ sym (map-append function (location_at lists id).lines _)

  names_append : (first second : List NameId) → AreNames lists first → AreNames lists second → AreNames lists (first ++ second)
  names_append [] second are also = also
  names_append (x ∷ first) second are also = by (names_append first second (λ n. are (suc n)) also)
    where
      by : AreNames lists (first ++ second) → (index : ℕ) (id : NameId) → slice_get (x ∷ (first ++ second)) index ≡ Some id → IsName lists id
      by rest zero id at = are 0 id at
      by rest (suc index) id at = rest index id at

  no_names : AreNames lists []
  no_names index id at = cc

  module _ (within : AreWithin lists) where
    list_named : (location : Location) (list : Option (List Line)) → slice_get lists.lines (lines_number location.lines) ≡ list → AreNames lists (get_or (map line_functions lists.lines) (lines_number location.lines) [])
    list_named location None at = subst (AreNames lists) (sym (none_at_number line_functions lists.lines (lines_number location.lines) [] at)) no_names
    list_named location (Some list) at = subst (AreNames lists) (sym (value_is line_functions lists.lines [] (lines_number location.lines) list at)) (λ index id found.
        let l = map_at (λ (line : Line). line.function) list index id found in
        subst (IsName lists) l.2 (within.lines (lines_number location.lines) list at index l.0 l.1).0)

    location_named : (location : Option Location) → AreNames lists (functions_in lists location)
    location_named None = no_names
    location_named (Some location) = list_named location (slice_get lists.lines (lines_number location.lines)) refl

    -- The functions of a stack have names.
    pub stack_named : (ids : List LocationId) → AreNames lists (stack_functions lists ids)
    stack_named [] = no_names
    stack_named (id ∷ ids) = names_append (location_functions lists id) (stack_functions lists ids) (location_named (slice_get lists.locations (location_number id))) (stack_named ids)

    pub named_result : {E : Type 0} → (result : Result (Vec NameId Global) E) (ids : List LocationId) → IfOk result (λ functions. functions.items ≡ stack_functions lists ids) → IfOk result (λ functions. AreNames lists functions.items)
    named_result (Ok functions) ids is = subst (AreNames lists) (sym is) (stack_named ids)
    named_result (Err error) ids is = tt

  pub names_result : {E : Type 0} → (result : Result (Vec NameId Global) E) (ids : List LocationId) (stack : List LocationValue) → IfOk result (λ functions. functions.items ≡ stack_functions lists ids) → map (location_at lists) ids ≡ stack → IfOk result (λ functions. map (name_at lists) functions.items ≡ stack_names stack)
  names_result (Ok functions) ids stack is located = ap (map (name_at lists)) is ∙ stack_same ids ∙ ap stack_names located
  names_result (Err error) ids stack is located = tt
