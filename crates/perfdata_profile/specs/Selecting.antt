-- Which samples of a recording a filter selects.
use Rattle.std.specs.Prelude.{◌≡◌, ◌↔◌, ℕ, Bool, true, false, List, ◌∷◌, [], ◌++◌, Option, None, is_some}
use Rattle.std.specs.Option.{option_map}
use Rattle.perfdata_events.specs.declared.event.EventRecord.{EventRecord}
use Rattle.perfdata_events.specs.declared.event.EventRecord.TheVariants.{Sample}
use Rattle.perfdata_events.specs.declared.sample.SampleRecord.{SampleRecord}
use Rattle.perfdata_profile.specs.Building.{Builds}
use Rattle.perfdata_profile.specs.Resolving.{Meaning}
use Rattle.perfdata_profile.specs.Samples.{Given, applied_in, sample_task}
use Rattle.perfdata_profile.specs.declared.builder.ProfileBuilder.{ProfileBuilder}
use Rattle.perfdata_profile.specs.declared.options.ProfileOptions.{ProfileOptions}
use Rattle.perfdata_profile.specs.declared.sums.SampleWeight.{SampleWeight}
use Rattle.perfdata_selection.specs.Selection.{IsSelected}
use Rattle.perfdata_selection.specs.declared.filter.SampleFilter.{SampleFilter}
use Rattle.perfdata_selection.specs.declared.filter.SampleOrigin.{SampleOrigin}
use Rattle.perfdata_spaces.specs.AddressSpaces.{name_effects}
use Rattle.perfdata_spaces.specs.Effects.{Applied}
use Rattle.perfdata_spaces.specs.NameHistories.{IsName}

-- What a filter compares of a sample: its thread's name after the records before it, its ids, its processor and its time.
pub record IsOrigin (before : List Applied) (sample : SampleRecord) (origin : SampleOrigin) : Type 0 where
  pub thread_name : IsName (sample_task sample).tid (name_effects before) (option_map (λ name. name.now) origin.comm)
  pub pid : origin.pid ≡ (sample_task sample).pid
  pub tid : origin.tid ≡ (sample_task sample).tid
  pub cpu : origin.cpu ≡ sample.cpu
  pub time : origin.time ≡ sample.timestamp

-- Whether a filter selects a sample after records.
pub record Selects (before : List Applied) (filter : SampleFilter) (sample : SampleRecord) (is_selected : Bool) : Type 0 where
  pub origin : SampleOrigin
  pub is_origin : IsOrigin before sample origin
  pub is : (is_selected ≡ true) ↔ IsSelected filter origin

abbrev pub weight_if : Bool → Option SampleWeight → Option SampleWeight
weight_if true weight = weight
weight_if false weight = None

-- The weight of a sample that a filter selects stays, that of another sample goes.
pub record LeavesWeight (before : List Applied) (filter : SampleFilter) (sample : SampleRecord) (weight left : Option SampleWeight)
    : Type 0 where
  pub is_selected : Bool
  pub selects : Selects before filter sample is_selected
  pub is_left : left ≡ weight_if is_selected weight

-- A filter selects among samples alone.
abbrev pub FiltersWeight : List Applied → SampleFilter → EventRecord → Option SampleWeight → Option SampleWeight → Type 0
FiltersWeight before filter (Sample sample) weight left = LeavesWeight before filter sample weight left
FiltersWeight before filter event weight left = left ≡ weight

module _ {R : Type 0} (meaning : Meaning) (options : ProfileOptions) where
  -- A record was added with the weight that a filter leaves.
  pub record AddsSelected (given : List Given) (filter : SampleFilter) (misc : ℕ) (event : EventRecord) (weight : Option SampleWeight)
      (counted : Bool) (builder : ProfileBuilder R) : Type 0 where
    pub left : Option SampleWeight
    pub filters : FiltersWeight (applied_in given) filter event weight left
    pub counts : counted ≡ is_some left
    pub builds : Builds meaning options (given ++ record { misc = misc; event = event; weight = left } ∷ []) builder
