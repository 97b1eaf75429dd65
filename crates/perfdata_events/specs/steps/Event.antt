-- Steps of private functions: the parsed form of a kernel record, by its type (`enum perf_event_type` of Linux's `perf_event.h`).
use Rattle.std.specs.Prelude.{◌==◌, ℕ, ◌&&◌, not, Bool}
use Rattle.perfdata_events.specs.declared.format.EventFormat.{EventFormat}
use Rattle.perfdata_events.specs.Event.{has_known_values}

-- A record of this type consists of counter values whose offsets aren't known.
abbrev pub has_unknown_values : EventFormat → ℕ → Bool
has_unknown_values format kind = (kind == 8) && not (has_known_values format)
