-- The times that records are sorted by.
use Rattle.std.specs.Prelude.{ℕ, ◌==◌, ◌||◌, Option, None, Some, if◌then◌else◌}
use Rattle.linux_perf_data.specs.declared.records.iter.RecordPlace.{RecordPlace}

-- 0 and 2^64 - 1 stand for no time.
abbrev pub key_of_time : Option ℕ → Option ℕ
key_of_time None = None
key_of_time (Some time) = if (time == 0) || (time == 18446744073709551615) then None else Some time

-- The time that a record is sorted by, if it is timed.
abbrev pub time_key_of : RecordPlace → Option ℕ
time_key_of place = key_of_time place.timestamp
