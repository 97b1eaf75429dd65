-- Steps of private functions: the folded lines of two profiles, side by side.
use Rattle.std.specs.Prelude.{ℕ, List, Vec}
use Rattle.std.specs.declared.alloc.Global.{Global}
use Rattle.std.specs.Option.{unwrap_or}
use Rattle.perfdata_views.specs.Counts.{Added, count_of}
use Rattle.perfdata_views.specs.Differences.{line_text}
use Rattle.perfdata_views.specs.declared.counts.LineCounts.{LineCounts}

-- A line without its count.
abbrev pub key_of : Vec ℕ Global × ℕ → Added
key_of line = record { line = line.0.items; weight = 0 }

-- A line with its count in an old profile and its own.
abbrev pub columns_of : LineCounts → (ℕ → ℕ) → Vec ℕ Global × ℕ → List ℕ
columns_of old written line = line_text line.0.items (written (unwrap_or (count_of old line.0.items) 0)) line.1
