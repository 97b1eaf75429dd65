-- `struct read_format` of Linux's `perf_event.h`. Without PERF_FORMAT_GROUP (bit 3 of the read format): { u64 value; { u64 time_enabled; }
-- && PERF_FORMAT_TOTAL_TIME_ENABLED (0) { u64 time_running; } && PERF_FORMAT_TOTAL_TIME_RUNNING (1) { u64 id; } && PERF_FORMAT_ID (2)
-- { u64 lost; } && PERF_FORMAT_LOST (4) }. With it: { u64 nr; { u64 time_enabled; } && (0) { u64 time_running; } && (1) { u64 value;
-- { u64 id; } && (2) { u64 lost; } && (4) } cntr[nr]; }.
use Rattle.std.specs.Prelude.{◌≡◌, ℕ, ◌+◌, ◌-◌, ◌*◌, ◌/◌, ◌≤◌, ◌⊎◌, Bool, true, false, List, [], ◌∷◌, length, slice_index, Some, None, if◌then◌else◌}
use Rattle.perfdata_identifiers.specs.ParseInfo.{is_set}
use Rattle.perfdata_events.specs.ReadFormat.{TOTAL_TIME_ENABLED, TOTAL_TIME_RUNNING, ID, GROUP, LOST}
use Rattle.perfdata_events.specs.Fields.{u64_at}
use Rattle.perfdata_events.specs.Format.{Outcome, encodes, fails, IsTruncated, fixed, both, led}
use Rattle.perfdata_events.specs.Words.{AreU64s, u64s_in, words_size, after, word_after}
use Rattle.perfdata_events.specs.declared.fields.read_values.CounterValue.{CounterValue}
use Rattle.perfdata_events.specs.declared.fields.read_values.Details.{Details}
use Rattle.perfdata_events.specs.declared.fields.read_values.Times.{Times}
use Rattle.perfdata_events.specs.declared.fields.read_values.SingleValues.{SingleValues}
use Rattle.perfdata_events.specs.declared.fields.read_values.GroupValues.{GroupValues}
use Rattle.perfdata_events.specs.declared.fields.read_values.ReadValues.{ReadValues}
use Rattle.perfdata_events.specs.declared.fields.read_values.ReadValues.TheVariants.{Single, Group}

-- The value of a single counter and its details.
abbrev pub single_of : SingleValues → ℕ × Details
single_of v = (v.value, record { time_enabled = v.time_enabled; time_running = v.time_running; id = v.id; lost = v.lost })

-- The counters of a group: whether each has an id and a lost count, and of each its value, its id and its lost count, as far as they
-- are there.
pub record Counters : Type 0 where
  pub has_id : Bool
  pub has_lost : Bool
  pub numbers : List ℕ

-- The times of a group, and its counters.
abbrev pub group_of : GroupValues → Times × Counters
group_of v = (
  record { time_enabled = v.time_enabled; time_running = v.time_running },
  record { has_id = v.has_id; has_lost = v.has_lost; numbers = u64s_in v.numbers },
)

pub data Values : Type 0 where
  single : ℕ × Details → Values
  group : Times × Counters → Values

abbrev pub values_of : ReadValues → Values
values_of (Single v) = single (single_of v)
values_of (Group v) = group (group_of v)

-- How many numbers a counter of a group has: the value, the id (bit 2), the lost count (bit 4).
abbrev pub counter_width : Bool → Bool → ℕ
counter_width has_id has_lost = 1 + (if has_id then 1 else 0) + (if has_lost then 1 else 0)

-- The number of counters of a group, and the counter at an index: the value is its first number, then the id, and the lost count is its
-- last number.
abbrev pub counter_count : GroupValues → ℕ
counter_count v = length (u64s_in v.numbers) / counter_width v.has_id v.has_lost

abbrev pub counter_at : GroupValues → ℕ → CounterValue
counter_at v index = record {
  value = slice_index (u64s_in v.numbers) (counter_width v.has_id v.has_lost * index);
  id = if v.has_id then Some (slice_index (u64s_in v.numbers) (counter_width v.has_id v.has_lost * index + 1)) else None;
  lost =
      if v.has_lost then Some (slice_index (u64s_in v.numbers) (counter_width v.has_id v.has_lost * index + (counter_width v.has_id v.has_lost - 1))) else None;
}

module _ (number : ℕ → List ℕ → ℕ) (format : ℕ) where
  -- The words with the bits 0, 1, 2, 4.
  pub record AreDetails (xs : List ℕ) (value : Details) (rest : List ℕ) : Type 0 where
    pub enough : words_size format (TOTAL_TIME_ENABLED ∷ TOTAL_TIME_RUNNING ∷ ID ∷ LOST ∷ []) ≤ length xs
    pub time_enabled_is : value.time_enabled ≡ word_after format [] TOTAL_TIME_ENABLED (u64_at number 0) xs
    pub time_running_is : value.time_running ≡ word_after format (TOTAL_TIME_ENABLED ∷ []) TOTAL_TIME_RUNNING (u64_at number 0) xs
    pub id_is : value.id ≡ word_after format (TOTAL_TIME_ENABLED ∷ TOTAL_TIME_RUNNING ∷ []) ID (u64_at number 0) xs
    pub lost_is : value.lost ≡ word_after format (TOTAL_TIME_ENABLED ∷ TOTAL_TIME_RUNNING ∷ ID ∷ []) LOST (u64_at number 0) xs
    pub rest_is : rest ≡ after format (TOTAL_TIME_ENABLED ∷ TOTAL_TIME_RUNNING ∷ ID ∷ LOST ∷ []) xs

  abbrev pub details : List ℕ → Outcome Details → Type 0
  details xs (encodes value rest) = AreDetails xs value rest
  details xs (fails kind) = IsTruncated (words_size format (TOTAL_TIME_ENABLED ∷ TOTAL_TIME_RUNNING ∷ ID ∷ LOST ∷ [])) xs kind

  -- The words with the bits 0, 1.
  pub record AreTimes (xs : List ℕ) (value : Times) (rest : List ℕ) : Type 0 where
    pub enough : words_size format (TOTAL_TIME_ENABLED ∷ TOTAL_TIME_RUNNING ∷ []) ≤ length xs
    pub time_enabled_is : value.time_enabled ≡ word_after format [] TOTAL_TIME_ENABLED (u64_at number 0) xs
    pub time_running_is : value.time_running ≡ word_after format (TOTAL_TIME_ENABLED ∷ []) TOTAL_TIME_RUNNING (u64_at number 0) xs
    pub rest_is : rest ≡ after format (TOTAL_TIME_ENABLED ∷ TOTAL_TIME_RUNNING ∷ []) xs

  abbrev pub times : List ℕ → Outcome Times → Type 0
  times xs (encodes value rest) = AreTimes xs value rest
  times xs (fails kind) = IsTruncated (words_size format (TOTAL_TIME_ENABLED ∷ TOTAL_TIME_RUNNING ∷ [])) xs kind

  -- The value, and its details.
  abbrev pub single_values : List ℕ → Outcome (ℕ × Details) → Type 0
  single_values = both (fixed 8 (u64_at number 0)) (λ _. details)

  -- This many counters, each with an id if bit 2 is set, and with a lost count if bit 4 is set.
  pub record AreCounters (count : ℕ) (xs : List ℕ) (value : Counters) (rest : List ℕ) : Type 0 where
    pub has_id_is : value.has_id ≡ is_set format ID
    pub has_lost_is : value.has_lost ≡ is_set format LOST
    pub numbers_are : AreU64s number (counter_width (is_set format ID) (is_set format LOST) * count) xs value.numbers rest

  abbrev pub counters : ℕ → List ℕ → Outcome Counters → Type 0
  counters count xs (encodes value rest) = AreCounters count xs value rest
  counters count xs (fails kind) = IsTruncated (8 * (counter_width (is_set format ID) (is_set format LOST) * count)) xs kind

  -- The number of counters, the times, and the counters.
  abbrev pub group_values : List ℕ → Outcome (Times × Counters) → Type 0
  group_values = led (fixed 8 (u64_at number 0)) (λ count. both times (λ _. counters count))

  abbrev pub read_values : List ℕ → Outcome Values → Type 0
  read_values xs (encodes (single value) rest) = (is_set format GROUP ≡ false) × single_values xs (encodes value rest)
  read_values xs (encodes (group value) rest) = (is_set format GROUP ≡ true) × group_values xs (encodes value rest)
  read_values xs (fails kind) = ((is_set format GROUP ≡ false) × single_values xs (fails kind)) ⊎ ((is_set format GROUP ≡ true) × group_values xs (fails kind))
