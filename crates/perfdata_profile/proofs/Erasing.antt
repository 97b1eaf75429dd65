-- A profile without inlined functions.
use Rattle.std.proofs.Common.{◌<◌, ap, arith, refl, ℕ, ℤ, List, [], ◌∷◌, length, map, Option, None, Some}
use Rattle.perfdata_events.specs.declared.sample.SampleRecord.{SampleRecord}
use Rattle.perfdata_events.specs.declared.fields.task.Task.{Task}
use Rattle.perfdata_profile.specs.Erasing.{SumsStay, own_lines, own_location, own_meaning, own_sample}
use Rattle.perfdata_profile.specs.Profiles.{lists_of, valued_entry}
use Rattle.perfdata_profile.specs.Resolving.{FrameValue, Meaning}
use Rattle.perfdata_profile.specs.SampleSums.{entries_of}
use Rattle.perfdata_profile.specs.Samples.{AreRelated, IsLocationOf, IsPlace, IsRange, IsRangeAt, IsSample, IsThread, Locates}
use Rattle.perfdata_profile.specs.Tallies.{Counted, one_sample, weight_of}
use Rattle.perfdata_profile.specs.Values.{LineValue, LocationValue, RangeValue, SampleValue, ThreadKey}
use Rattle.perfdata_profile.specs.declared.options.Detail.{Detail}
use Rattle.perfdata_profile.specs.declared.options.Detail.TheVariants.{Functions, Locations}
use Rattle.perfdata_profile.specs.declared.options.ProfileOptions.{ProfileOptions}
use Rattle.perfdata_profile.specs.declared.options.ThreadIds.{ThreadIds}
use Rattle.perfdata_profile.specs.declared.sums.Sums.{Sums}
use Rattle.perfdata_profile.proofs.Counting.{counted_map, counted_number}
use Rattle.perfdata_profile.proofs.Merging.{merged}
use Rattle.perfdata_profile.proofs.Searching.{map_at}
use Rattle.perfdata_spaces.specs.Effects.{Applied}
use Rattle.perfdata_spaces.specs.Mappings.{MappingValue}
use Rattle.perfdata_stacks.specs.declared.frames.SampleFrame.{SampleFrame}

own_some : (lines : List LineValue) → 0 < length lines → 0 < length (own_lines lines)
own_some [] some = some
own_some (line ∷ []) some = some
own_some (line ∷ (next ∷ lines)) some = own_some (next ∷ lines) (omega arith)

module _ (meaning : Meaning) where
  abbrev own : Meaning
  own = own_meaning meaning

  own_range : (mapping : MappingValue) (range : RangeValue) → IsRange meaning mapping range → IsRange own mapping range
  own_range mapping range is = record { start = is.start; end = is.end; page_offset = is.page_offset; file = is.file }

  own_range_at : (mapping : Option MappingValue) (address : ℕ) (range : Option RangeValue) → IsRangeAt meaning mapping address range → IsRangeAt own mapping address range
  own_range_at None address range is = is
  own_range_at (Some mapping) address None is = is
  own_range_at (Some mapping) address (Some range) is = (is.0, own_range mapping range is.1)

  own_place : (detail : Detail) (mapping : Option MappingValue) (address : ℕ) (range : Option RangeValue) (placed : ℕ) → IsPlace meaning detail mapping address range placed → IsPlace own detail mapping address range placed
  own_place Functions mapping address range placed is = is
  own_place Locations mapping address range placed is = (own_range_at mapping address range is.0, is.1)

  own_is : (detail : Detail) (frame : FrameValue) (location : LocationValue) → IsLocationOf meaning detail frame location → IsLocationOf own detail frame (own_location location)
  own_is detail frame location is = record {
    are_lines = (location.lines, is.are_lines, refl);
    has_line = own_some location.lines is.has_line;
    is_place = own_place detail frame.mapping _ location.mapping location.address is.is_place;
  }

  own_locates : (detail : Detail) (before : List Applied) (pid : ℤ) (time : Option ℕ) (frame : SampleFrame) (location : LocationValue) → Locates meaning detail before pid time frame location → Locates own detail before pid time frame (own_location location)
  own_locates detail before pid time frame location is = record {
    found = is.found;
    is_found = is.is_found;
    is_location = own_is detail _ location is.is_location;
  }

  own_stack : (detail : Detail) (before : List Applied) (pid : ℤ) (time : Option ℕ) (frames : List SampleFrame) (stack : List LocationValue) → AreRelated (Locates meaning detail before pid time) frames stack → AreRelated (Locates own detail before pid time) frames (map own_location stack)
  own_stack detail before pid time [] [] are = are
  own_stack detail before pid time [] (l ∷ ls) are = absurd are
  own_stack detail before pid time (f ∷ fs) [] are = absurd are
  own_stack detail before pid time (f ∷ fs) (l ∷ ls) are = (own_locates detail before pid time f l are.0, own_stack detail before pid time fs ls are.1)

  own_thread : (ids : ThreadIds) (before : List Applied) (task : Task) (thread : ThreadKey) → IsThread meaning ids before task thread → IsThread own ids before task thread
  own_thread ids before task thread is = record { comm = is.comm; is_comm = is.is_comm; is_name = is.is_name; pid = is.pid; tid = is.tid }

  module _ (options : ProfileOptions) where
    is_own_sample : (before : List Applied) (misc : ℕ) (s : SampleRecord) (column : ℕ) (value : SampleValue) → IsSample meaning options before misc s column value → IsSample own options before misc s column (own_sample value)
    is_own_sample before misc s column value is = record {
      is_thread = own_thread options.thread_ids before _ value.thread is.is_thread;
      frames = is.frames;
      has_frames = is.has_frames;
      are_located = own_stack options.detail before _ s.timestamp is.frames value.stack is.are_located;
      is_column = is.is_column;
    }

    pub sums_stay : SumsStay meaning options
    sums_stay given profile is =
        let entries = map (valued_entry (lists_of profile.tables)) (entries_of profile.sums) in
        let erased : Counted SampleValue → Counted SampleValue = λ one. record { key = own_sample one.key; weight = one.weight } in
        let are = counted_map own_sample (IsSample meaning options) (IsSample own options) is_own_sample given is.counted is.are in
        record {
          counted = map erased is.counted;
          are = are;
          number = counted_number (IsSample own options) given (map erased is.counted) are;
          samples = λ value sum. merged own_sample value is.counted entries is.sums (λ (s : Sums). s.samples) one_sample one_sample sum (λ one. refl) is.sums.samples;
          weights = λ value sum. merged own_sample value is.counted entries is.sums (λ (s : Sums). s.weight) weight_of weight_of sum (λ one. refl) is.sums.weights;
          all = λ index one found.
              let c = map_at erased is.counted index one found in
              let e = is.sums.all index c.0 c.1 in
              (e.0, (c.0.key, e.1), e.2, ap (λ (o : Counted SampleValue). o.key) c.2);
        }
