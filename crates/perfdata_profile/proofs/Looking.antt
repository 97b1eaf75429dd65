-- Locations as they are looked up.
use Rattle.std.proofs.Common.{◌≡◌, ◌∙◌, ◌≤◌, ◌<◌, ◌&&◌, inl, inr, ap, refl, sym, subst, arith, nat_le, nat_lt, ℕ, Bool, true, false, List, [], length, slice_get, Option, Some}
use Rattle.std.proofs.lemmas.Bool.Decides.{nat_tests}
use Rattle.std.proofs.lemmas.List.{length-map}
use Rattle.std.proofs.lemmas.Option.{get_or_from_slice_get, slice_get_within}
use Rattle.std.specs.Option.{option_map}
use Rattle.perfdata_profile.specs.Caching.{AllCached}
use Rattle.perfdata_profile.specs.steps.Caching.{AddsCached}
use Rattle.perfdata_profile.specs.Interning.{Grows}
use Rattle.perfdata_profile.specs.Locating.{CacheHolds, IsCached, IsFoundLocation, IsNewLocation, located_lists}
use Rattle.perfdata_profile.specs.steps.Locating.{AreFoundLines, HasMapping, IsFoundKey, IsFoundRange, LocatorGrows}
use Rattle.perfdata_profile.specs.Names.{number_of}
use Rattle.perfdata_profile.specs.Resolving.{AreAtOneAddress, AreFileIds, AreFrameLines, FrameValue, Meaning}
use Rattle.perfdata_profile.specs.Samples.{IsLocationOf, IsPlace, IsRange, end_of, is_in_range}
use Rattle.perfdata_profile.specs.Interned.{lines_number, location_number, mapping_number}
use Rattle.perfdata_profile.specs.Values.{AreWithin, LineValue, Lists, line_in, lines_at, lines_value, location_at, location_value, name_at, no_location, no_range, range_at, range_value}
use Rattle.perfdata_profile.specs.steps.Values.{ListsGrow}
use Rattle.perfdata_profile.specs.declared.cache.LocationCache.{LocationCache}
use Rattle.perfdata_profile.specs.declared.cache.MappedAddress.{MappedAddress}
use Rattle.perfdata_profile.specs.declared.lines.Line.{Line}
use Rattle.perfdata_profile.specs.declared.lines.LinesId.{LinesId}
use Rattle.perfdata_profile.specs.declared.locating.FrameLines.{FrameLines}
use Rattle.perfdata_profile.specs.declared.locating.Locator.{Locator}
use Rattle.perfdata_profile.specs.declared.locating.NewLocation.{NewLocation}
use Rattle.perfdata_profile.specs.declared.locating.LocationKey.{LocationKey}
use Rattle.perfdata_profile.specs.declared.locations.Location.{Location}
use Rattle.perfdata_profile.specs.declared.locations.LocationId.{LocationId}
use Rattle.perfdata_profile.specs.declared.mappings.MappedRange.{MappedRange}
use Rattle.perfdata_profile.specs.declared.mappings.MappingId.{MappingId}
use Rattle.perfdata_profile.specs.declared.options.Detail.{Detail}
use Rattle.perfdata_profile.specs.declared.resolver.FileNames.{FileNames}
use Rattle.perfdata_profile.proofs.Elements.{some_same}
use Rattle.perfdata_profile.proofs.Growing.{at_kept, lines_kept, lines_within, location_kept, location_within}
use Rattle.perfdata_profile.proofs.Valuing.{value_is}
use Rattle.perfdata_spaces.specs.Mappings.{MappingValue}
use Rattle.perfdata_stacks.specs.Frames.{lookup_address}

in_range : (start end address : ℕ) → start ≤ address → address < end → (nat_le start address && nat_lt address end) ≡ true
in_range start end address first last = grind (arith, nat_tests)

module _ (meaning : Meaning) where
  -- The range of a mapping that contains the address.
  pub found_range : (lists : Lists) (mapping : MappingValue) (address : ℕ) (range : MappedRange) (id : MappingId) (file : FileNames) → slice_get lists.ranges (mapping_number id) ≡ Some range → range.start ≡ mapping.start → range.end ≡ end_of mapping → range.page_offset ≡ mapping.page_offset → range.path ≡ file.path → range.build_id ≡ file.build_id → AreFileIds (meaning.names_file mapping) lists.names file → range.start ≤ address → address < range.end → IsFoundRange meaning lists mapping address (Some id)
  found_range lists mapping address range id file at start end page_offset path build_id named first last =
      let value : range_at lists id ≡ range_value lists range = value_is (range_value lists) lists.ranges no_range (mapping_number id) range at in
      let path_is : named.path ≡ name_at lists range.path = sym (get_or_from_slice_get lists.names (number_of file.path) named.path [] named.path_at) ∙ ap (name_at lists) (sym path) in
      let build_id_is : named.build_id ≡ name_at lists range.build_id = sym (get_or_from_slice_get lists.names (number_of file.build_id) named.build_id [] named.build_id_at) ∙ ap (name_at lists) (sym build_id) in
      let is_range : IsRange meaning mapping (range_value lists range) = record {
        start = start;
        end = end;
        page_offset = page_offset;
        file = subst (λ (p : List ℕ). meaning.names_file mapping p (name_at lists range.build_id)) path_is (subst (λ (b : List ℕ). meaning.names_file mapping named.path b) build_id_is named.are);
      } in
      let inside : is_in_range mapping address ≡ true = in_range mapping.start (end_of mapping) address (subst (λ (n : ℕ). n ≤ address) start first) (subst (λ (n : ℕ). address < n) end last) in
      record {
        placed = λ other is.
            let same : id ≡ other = some_same id other is in
            subst (λ (m : MappingId). (mapping_number m < length lists.ranges) × ((r : MappedRange) → slice_get lists.ranges (mapping_number m) ≡ Some r → (r.start ≤ address) × (address < r.end))) same (
              slice_get_within lists.ranges (mapping_number id) range at,
              λ r found. subst (λ (v : MappedRange). (v.start ≤ address) × (address < v.end)) (some_same range r (sym at ∙ found)) (first, last),
            );
        is = (inside, subst (IsRange meaning mapping) (sym value) is_range);
      }

  -- The id of a list of lines of a frame.
  pub found_lines : (lists : Lists) (frame : FrameValue) (lines : List Line) (id : LinesId) (is_fixed : Bool) → slice_get lists.lines (lines_number id) ≡ Some lines → AreFrameLines meaning.has_lines frame lists.names lines is_fixed → AreFoundLines meaning lists frame (record { id = id; is_fixed = is_fixed })
  found_lines lists frame lines id is_fixed at are =
      let value : lines_at lists id ≡ lines_value lists lines = value_is (lines_value lists) lists.lines [] (lines_number id) lines at in
      record {
        within = slice_get_within lists.lines (lines_number id) lines at;
        some = subst (λ (l : List LineValue). 0 < length l) (sym value) (subst (λ (n : ℕ). 0 < n) (sym (length-map lines (line_in lists.names))) are.some);
        are = subst (meaning.has_lines frame) (sym value) are.are;
        fixed = λ fixed other same. subst (meaning.has_lines other) (sym value) (are.fixed fixed other same);
      }

  -- The lines of a frame stay those as tables grow.
  pub found_lines_kept : (old new : Lists) → ListsGrow old new → AreWithin old → (frame : FrameValue) (lines : FrameLines) → AreFoundLines meaning old frame lines → AreFoundLines meaning new frame lines
  found_lines_kept old new grows within frame lines found =
      let same : lines_at new lines.id ≡ lines_at old lines.id = lines_kept old new grows within lines.id found.within in
      record {
        within = lines_within old new grows lines.id found.within;
        some = subst (λ (l : List LineValue). 0 < length l) (sym same) found.some;
        are = subst (meaning.has_lines frame) (sym same) found.are;
        fixed = λ fixed other at. subst (meaning.has_lines other) (sym same) (found.fixed fixed other at);
      }

  module _ (detail : Detail) where
    -- A location with the lines of a frame, and with its place.
    module _ (lists : Lists) (frame : FrameValue) (location : Location) (id : LocationId) (at : slice_get lists.locations (location_number id) ≡ Some location) (lines : FrameLines) (lines_is : location.lines ≡ lines.id) (are : AreFoundLines meaning lists frame lines) (place : LocationKey) (mapping_is : location.mapping ≡ place.mapping) (address_is : location.address ≡ place.address) (found : IsFoundKey meaning detail lists frame place) where
      value : location_at lists id ≡ location_value lists location
      value = value_is (location_value lists) lists.locations no_location (location_number id) location at

      same_lines : lines_at lists lines.id ≡ lines_at lists location.lines
      same_lines = ap (λ (l : LinesId). lines_at lists l) (sym lines_is)

      place_is : IsPlace meaning detail frame.mapping (lookup_address frame.frame) (option_map (range_at lists) location.mapping) location.address
      place_is = subst (λ (a : ℕ). IsPlace meaning detail frame.mapping (lookup_address frame.frame) (option_map (range_at lists) location.mapping) a) (sym address_is) (subst (λ (m : Option MappingId). IsPlace meaning detail frame.mapping (lookup_address frame.frame) (option_map (range_at lists) m) place.address) (sym mapping_is) found.is)

      -- It is a location of each frame at the address of the mapping that can have these lines.
      pub location_of : (other : FrameValue) → meaning.has_lines other (lines_at lists lines.id) → AreAtOneAddress frame other → IsFoundLocation meaning detail lists other id
      location_of other named same =
          let other_place : IsPlace meaning detail other.mapping (lookup_address other.frame) (option_map (range_at lists) location.mapping) location.address = subst (λ (m : Option MappingValue). IsPlace meaning detail m (lookup_address other.frame) (option_map (range_at lists) location.mapping) location.address) (sym same.mapping) (subst (λ (a : ℕ). IsPlace meaning detail frame.mapping a (option_map (range_at lists) location.mapping) location.address) (sym same.address) place_is) in
          let of_value : IsLocationOf meaning detail other (location_value lists location) = record {
            are_lines = subst (meaning.has_lines other) same_lines named;
            has_line = subst (λ (l : List LineValue). 0 < length l) same_lines are.some;
            is_place = other_place;
          } in
          record {
            within = slice_get_within lists.locations (location_number id) location at;
            is = subst (IsLocationOf meaning detail other) (sym value) of_value;
          }

      pub new_location : IsNewLocation meaning detail lists frame (record { id = id; is_fixed = lines.is_fixed })
      new_location = record {
        found = location_of frame are.are (record { index = refl; mapping = refl; address = refl });
        fixed = λ is other same. location_of other (are.fixed is other same) same;
      }

    -- Locations stay those of their frames as tables grow.
    pub found_kept : (old new : Lists) → ListsGrow old new → AreWithin old → (frame : FrameValue) (id : LocationId) → IsFoundLocation meaning detail old frame id → IsFoundLocation meaning detail new frame id
    found_kept old new grows within frame id found = record {
      within = location_within old new grows id found.within;
      is = subst (IsLocationOf meaning detail frame) (sym (location_kept old new grows within id found.within)) found.is;
    }

    pub cached_kept : (old new : Lists) → ListsGrow old new → AreWithin old → (mappings : List MappingValue) (cache : LocationCache) → AllCached (IsCached meaning detail old mappings) cache → AllCached (IsCached meaning detail new mappings) cache
    cached_kept old new grows within mappings cache holds = λ n at id found.
        let c = holds n at id found in
        record {
          mapping = c.mapping;
          is_at = c.is_at;
          each = λ frame index mapping address. found_kept old new grows within frame id (c.each frame index mapping address);
        }

    -- Mappings keep their indices.
    pub cached_mapped : (lists : Lists) (old new : List MappingValue) → Grows old new → (cache : LocationCache) → AllCached (IsCached meaning detail lists old) cache → AllCached (IsCached meaning detail lists new) cache
    cached_mapped lists old new grows cache holds = λ n at id found.
        let c = holds n at id found in
        record {
          mapping = c.mapping;
          is_at = at_kept old new grows at.index c.mapping c.is_at;
          each = c.each;
        }

    -- A cached location is one of a frame at the address.
    pub hit : (lists : Lists) (mappings : List MappingValue) (frame : FrameValue) (at : MappedAddress) (id : LocationId) → frame.index ≡ Some at.index → lookup_address frame.frame ≡ at.address → HasMapping mappings frame → IsCached meaning detail lists mappings at id → IsFoundLocation meaning detail lists frame id
    hit lists mappings frame at id index address has cached =
        let m = has at.index index in
        let same : m.0 ≡ cached.mapping = some_same m.0 cached.mapping (sym m.1 ∙ cached.is_at) in
        cached.each frame index (m.2 ∙ ap (λ (v : MappingValue). Some v) same) address

    -- It is one of each frame at the address.
    pub hit_fixed : (lists : Lists) (mappings : List MappingValue) (frame : FrameValue) (at : MappedAddress) (id : LocationId) → frame.index ≡ Some at.index → lookup_address frame.frame ≡ at.address → HasMapping mappings frame → IsCached meaning detail lists mappings at id → IsNewLocation meaning detail lists frame (record { id = id; is_fixed = true })
    hit_fixed lists mappings frame at id index address has cached = record {
      found = hit lists mappings frame at id index address has cached;
      fixed = λ is other same. hit lists mappings other at id (same.index ∙ index) (same.address ∙ address) (λ n here.
          let m = has n (sym same.index ∙ here) in
          (m.0, m.1, same.mapping ∙ m.2)) cached;
    }

    -- A location of one frame alone.
    pub not_fixed : (lists : Lists) (frame : FrameValue) (id : LocationId) → IsFoundLocation meaning detail lists frame id → IsNewLocation meaning detail lists frame (record { id = id; is_fixed = false })
    not_fixed lists frame id found = record { found = found; fixed = λ is other same. cc }

    -- A location that is fixed can be cached.
    pub fixed_cached : (lists : Lists) (mappings : List MappingValue) (frame : FrameValue) (at : MappedAddress) (new : NewLocation) → frame.index ≡ Some at.index → lookup_address frame.frame ≡ at.address → HasMapping mappings frame → new.is_fixed ≡ true → IsNewLocation meaning detail lists frame new → IsCached meaning detail lists mappings at new.id
    fixed_cached lists mappings frame at new index address has fixed is =
        let m = has at.index index in
        record {
          mapping = m.0;
          is_at = m.1;
          each = λ other other_index other_mapping other_address. is.fixed fixed other (record {
            index = other_index ∙ sym index;
            mapping = other_mapping ∙ sym m.2;
            address = other_address ∙ sym address;
          });
        }

    -- What is cached holds as tables grow.
    pub cache_grows : (mappings : List MappingValue) (old new : Locator) → LocatorGrows old new → new.cache ≡ old.cache → CacheHolds meaning detail mappings old → CacheHolds meaning detail mappings new
    cache_grows mappings old new grows same holds = subst (AllCached (IsCached meaning detail (located_lists new) mappings)) (sym same) (cached_kept (located_lists old) (located_lists new) grows.lists old.tables.within mappings old.cache holds)

    -- What is cached holds with one more location.
    pub cached_added : (lists : Lists) (mappings : List MappingValue) (old new : LocationCache) (at : MappedAddress) (id : LocationId) → AddsCached old at id new → AllCached (IsCached meaning detail lists mappings) old → IsCached meaning detail lists mappings at id → AllCached (IsCached meaning detail lists mappings) new
    cached_added lists mappings old new at id adds holds is = λ index key value found. elim (adds index key value found) [
      | inl was ↦ holds index key value was
      | inr added ↦ subst (λ (k : MappedAddress). IsCached meaning detail lists mappings k value) (sym added.0) (subst (λ (v : LocationId). IsCached meaning detail lists mappings at v) (sym added.1) is)
    ]
