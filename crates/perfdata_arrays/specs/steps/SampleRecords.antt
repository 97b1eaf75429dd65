-- Steps of private functions: the samples of records and their frames.
use Rattle.std.specs.Prelude.{◌≡◌, ℕ, ◌+◌, ◌-◌, ◌<◌, ◌≤◌, Bool, false, List, length, Option, None, Some, Result, Ok, Err}
use Rattle.perfdata_arrays.specs.Overwrites.{with_entries_at}
use Rattle.perfdata_arrays.specs.declared.samples.frame.FrameEntry.{FrameEntry}

-- ---- the frames of a sample

-- The frames don't fit after `used` elements of an array with this capacity, and not all are counted.
abbrev pub ExceedsFrames : List FrameEntry → Bool → ℕ → ℕ → Option ℕ → Type 0
ExceedsFrames own counts_all capacity used None = counts_all ≡ false → used + length own ≤ capacity
ExceedsFrames own counts_all capacity used (Some count) = (counts_all ≡ false) × (count ≡ length own) × (capacity < used + count)

-- The frames are written after the first elements, up to the capacity. If they don't fit, and not all are counted, nothing is written.
abbrev pub AddsFrames : List FrameEntry → Bool → ℕ → List FrameEntry → Result ℕ ℕ → List FrameEntry → Type 0
AddsFrames own counts_all used old (Ok count) new =
    (count ≡ length own) × (counts_all ≡ false → used + length own ≤ length old) × (new ≡ with_entries_at used own old)
AddsFrames own counts_all used old (Err count) new = (counts_all ≡ false) × (count ≡ length own) × (length old < used + length own) × (new ≡ old)
