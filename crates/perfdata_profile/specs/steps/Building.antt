-- Steps of private functions: a profile as it is built.
use Rattle.std.specs.Prelude.{ℕ, ℤ, List, map, Option}
use Rattle.perfdata_profile.specs.Resolving.{Meaning}
use Rattle.perfdata_profile.specs.Samples.{AreRelated, IsThread, Locates}
use Rattle.perfdata_profile.specs.Values.{AreLocations, IsName, Lists, location_at, thread_key}
use Rattle.perfdata_profile.specs.declared.locations.LocationId.{LocationId}
use Rattle.perfdata_profile.specs.declared.options.Detail.{Detail}
use Rattle.perfdata_profile.specs.declared.options.ThreadIds.{ThreadIds}
use Rattle.perfdata_profile.specs.declared.sums.Thread.{Thread}
use Rattle.perfdata_events.specs.declared.fields.task.Task.{Task}
use Rattle.perfdata_spaces.specs.Effects.{Applied}
use Rattle.perfdata_stacks.specs.declared.frames.SampleFrame.{SampleFrame}

module _ (meaning : Meaning) where
  -- A stack has the ids of locations of frames.
  pub record HasStack (lists : Lists) (detail : Detail) (before : List Applied) (pid : ℤ) (time : Option ℕ) (frames : List SampleFrame)
      (stack : List LocationId) : Type 0 where
    pub within : AreLocations lists stack
    pub are : AreRelated (Locates meaning detail before pid time) frames (map (location_at lists) stack)

  -- A thread has the id of a name of a thread.
  pub record HasThread (lists : Lists) (ids : ThreadIds) (before : List Applied) (task : Task) (thread : Thread) : Type 0 where
    pub within : IsName lists thread.name
    pub is : IsThread meaning ids before task (thread_key lists thread)
