-- The unread part of meta info.
use Rattle.std.specs.Prelude.{ℕ, List, [], Option, None, Some}
use Rattle.std.specs.Borrow.{Bor}
use Rattle.perfdata_simpleperf.specs.MetaInfo.{Pair, nul_segments, pair_up}
use Rattle.perfdata_simpleperf.specs.declared.simpleperf.meta_info.Pairs.{Pairs}

-- the segments of the unread bytes
abbrev pub remaining_segments : Option (Bor (List ℕ)) → List (List ℕ)
remaining_segments None = []
remaining_segments (Some rest) = nul_segments rest.now

-- the remaining pairs
abbrev pub remaining_pairs : Pairs → List Pair
remaining_pairs pairs = pair_up (remaining_segments pairs.rest)

abbrev pub pair_of : Bor (List ℕ) × Bor (List ℕ) → Pair
pair_of p = (p.0.now, p.1.now)
