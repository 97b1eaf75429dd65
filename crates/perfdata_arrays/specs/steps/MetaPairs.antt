-- Steps of private functions: the results for the pairs of simpleperf's meta info.
use Rattle.std.specs.Prelude.{◌≡◌, ◌⊎◌, ℕ, ◌+◌, ◌≤◌, ◌<◌, List, [], ◌∷◌, length, drop, Option, None, Some}
use Rattle.std.specs.Borrow.{Bor}
use Rattle.perfdata_sections.specs.HeaderString.{before_nul}
use Rattle.perfdata_simpleperf.specs.MetaInfo.{Pair, nul_segments, pair_up}
use Rattle.perfdata_arrays.specs.MetaPairs.{offset_after, HasPairAt}

-- ---- segments

-- the section has these segments from an offset on, and none past its end
abbrev pub AreSegmentsFrom : List ℕ → ℕ → List (List ℕ) → Type 0
AreSegmentsFrom section offset segments =
    ((offset ≤ length section) × (segments ≡ nul_segments (drop offset section))) ⊎ ((length section < offset) × (segments ≡ []))

-- the segment at an offset
abbrev pub FindsSegment : List ℕ → ℕ → Option (Bor (List ℕ)) → Type 0
FindsSegment section offset None = length section < offset
FindsSegment section offset (Some segment) = (offset ≤ length section) × (segment.now ≡ before_nul (drop offset section))

-- The segments from an offset on begin with this pair.
pub record IsPairAt (section : List ℕ) (offset : ℕ) (p : Pair) : Type 0 where
  pub within : offset_after offset p ≤ length section + 1
  pub bytes_at : HasPairAt section offset p
  pub is_next : (segments : List (List ℕ)) → AreSegmentsFrom section offset segments
      → (later : List (List ℕ)) × (pair_up segments ≡ p ∷ pair_up later) × AreSegmentsFrom section (offset_after offset p) later

-- the pair at an offset; or fewer than two segments follow
abbrev pub FindsPair : List ℕ → ℕ → Option (Bor (List ℕ) × Bor (List ℕ)) → Type 0
FindsPair section offset None = (segments : List (List ℕ)) → AreSegmentsFrom section offset segments → pair_up segments ≡ []
FindsPair section offset (Some p) = IsPairAt section offset (p.0.now, p.1.now)
