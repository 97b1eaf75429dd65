-- Steps of private functions: the state of a `BufferedReader`, and what its calls do.
use Rattle.std.specs.Prelude.{◌≡◌, ℕ, ◌-◌, ◌≤◌, drop}
use Rattle.perfdata_sources.specs.Source.{State}
use Rattle.perfdata_jit.specs.ReadBuffer.{IsContiguous, IsOverflowConsumed, overflow_capacity, ring_capacity}
use Rattle.perfdata_jit.specs.declared.buffered_reader.BufferedReader.{BufferedReader}
use Rattle.perfdata_jit.specs.BufferedReader.{source_of, buffered_in, overflow_len_of, overflow_capacity_of, ring_capacity_of, has_seek_failed}

module _ {R : Type 0} (state : R → State) where
  -- The first n buffered bytes are consumed, and nothing else changes. An overflow buffer no longer than n is consumed
  -- completely.
  pub record ConsumesBuffered (n : ℕ) (old new : BufferedReader R) : Type 0 where
    pub buffered_bytes : buffered_in new ≡ drop n (buffered_in old)
    pub source : source_of new ≡ source_of old
    pub overflow_size : overflow_len_of new ≡ overflow_len_of old
    pub overflow_consumed : overflow_len_of old ≤ n → IsOverflowConsumed new.buffer
    pub keeps_contiguous : (m : ℕ) → n ≤ m → IsContiguous m old.buffer → IsContiguous (m - n) new.buffer
    pub overflow_capacity : overflow_capacity_of new ≡ overflow_capacity_of old
    pub ring_capacity : ring_capacity_of new ≡ ring_capacity_of old
    pub seek_state_kept : has_seek_failed new ≡ has_seek_failed old
