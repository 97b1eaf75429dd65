-- The stacks of whole chains.
use Rattle.std.specs.Prelude.{◌≡◌, ℕ, ℤ, List, map, Option, slice_get, slice_range, Some}
use Rattle.perfdata_profile.specs.Resolving.{Meaning}
use Rattle.perfdata_profile.specs.Samples.{AreRelated, Locates}
use Rattle.perfdata_profile.specs.Values.{IsStack, Lists, stack_at}
use Rattle.perfdata_profile.specs.declared.chain_cache.Chain.{Chain}
use Rattle.perfdata_profile.specs.declared.chain_cache.ChainCache.{ChainCache}
use Rattle.perfdata_profile.specs.declared.options.Detail.{Detail}
use Rattle.perfdata_profile.specs.declared.stacks.StackId.{StackId}
use Rattle.perfdata_spaces.specs.Effects.{Applied}
use Rattle.perfdata_stacks.specs.declared.frames.SampleFrame.{SampleFrame}

-- All frames of a sample of a process, and the id of their stack.
pub record ChainValue : Type 0 where
  pub pid : ℤ
  pub frames : List SampleFrame
  pub id : StackId

abbrev pub chain_value : List SampleFrame → Chain → ChainValue
chain_value frames chain = record { pid = chain.pid; frames = slice_range frames chain.start chain.end; id = chain.id }

-- The chains that are cached.
abbrev pub chains_in : ChainCache → List ChainValue
chains_in cache = map (chain_value cache.frames.items) cache.chains.items

module _ (meaning : Meaning) (detail : Detail) (lists : Lists) (before : List Applied) where
  -- An id is that of a stack of the locations of frames after records.
  pub record IsStackOf (pid : ℤ) (time : Option ℕ) (frames : List SampleFrame) (id : StackId) : Type 0 where
    pub within : IsStack lists id
    pub are : AreRelated (Locates meaning detail before pid time) frames (stack_at lists id)

  -- A cached id is that of a stack of these frames of this process after these records, at each time.
  abbrev pub ChainsHold : ChainCache → Type 0
  ChainsHold cache = (index : ℕ) (chain : ChainValue) → slice_get (chains_in cache) index ≡ Some chain
      → (time : Option ℕ) → IsStackOf chain.pid time chain.frames chain.id
