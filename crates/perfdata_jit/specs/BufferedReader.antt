-- The state of a `BufferedReader`, and what its calls do.
use Rattle.std.specs.Prelude.{◌≡◌, ℕ, ◌+◌, ◌-◌, ◌<◌, ◌≤◌, ◌⊎◌, IsTrue, Bool, true, false, List, ◌++◌, length, IfSome, Option, None, Some, Result, Ok, Err}
use Rattle.std.specs.IoError.{error_kind}
use Rattle.std.specs.declared.io.Error.{Error}
use Rattle.std.specs.declared.io.ErrorKind.TheVariants.{Other, OutOfMemory}
use Rattle.perfdata_sources.specs.Raw.{bytes_of}
use Rattle.perfdata_sources.specs.declared.raw.RawData.{RawData}
use Rattle.perfdata_sources.specs.Source.{State, all_bytes_of, prepend, Consumed, EndedOrPaused, SourceFailed}
use Rattle.perfdata_jit.specs.ReadBuffer.{read_buffer_bytes, IsContiguous, IsOverflowConsumed, overflow_len, overflow_capacity, ring_capacity}
use Rattle.perfdata_jit.specs.declared.buffered_reader.BufferedReader.{BufferedReader}

-- the source
abbrev pub source_of : {R : Type 0} → BufferedReader R → R
source_of r = r.source

-- the bytes that are read but not consumed
abbrev pub buffered_in : {R : Type 0} → BufferedReader R → List ℕ
buffered_in r = read_buffer_bytes r.buffer

-- the next `n` buffered bytes are in one piece
abbrev pub IsNextContiguous : {R : Type 0} → ℕ → BufferedReader R → Type 0
IsNextContiguous n r = IsContiguous n r.buffer

-- the length of the overflow buffer
abbrev pub overflow_len_of : {R : Type 0} → BufferedReader R → ℕ
overflow_len_of r = overflow_len r.buffer

-- the capacity of the overflow buffer
abbrev pub overflow_capacity_of : {R : Type 0} → BufferedReader R → ℕ
overflow_capacity_of r = overflow_capacity r.buffer

-- the capacity of the ring
abbrev pub ring_capacity_of : {R : Type 0} → BufferedReader R → ℕ
ring_capacity_of r = ring_capacity r.buffer

-- whether a seek has failed; the position of the source is unspecified then
abbrev pub has_seek_failed : {R : Type 0} → BufferedReader R → Bool
has_seek_failed r = r.seek_failed

-- neither an error nor an empty read was counted
pub record SameCounts (old new : State) : Type 0 where
  pub errors : new.errors ≡ old.errors
  pub pauses : new.pauses ≡ old.pauses

-- after seeks, all bytes of the source are the same, and a steady source remains steady
pub record SameSource (old new : State) : Type 0 where
  pub all : all_bytes_of new.position ≡ all_bytes_of old.position
  pub steady : IsTrue old.steady → IsTrue new.steady

-- an allocation failed for n bytes, which exceed the capacity of the ring
pub record IsOverflowAllocError (size n : ℕ) (e : Error) : Type 0 where
  pub exceeds_ring : size < n
  pub kind : error_kind e ≡ OutOfMemory

-- the reader fails because a seek has failed, and its state is unchanged
pub record FailsAfterSeekError {J : Type 0} (is_gone : Bool) (old : J) (e : Error) (new : J) : Type 0 where
  pub seek_failed : is_gone ≡ true
  pub kind : error_kind e ≡ Other
  pub unchanged : new ≡ old

module _ {R : Type 0} (state : R → State) where
  -- the source's state in contracts
  abbrev pub reader_source_state : BufferedReader R → State
  reader_source_state r = state r.source

  -- the buffered bytes, followed by the remaining bytes of the source
  abbrev pub unread_bytes : BufferedReader R → Option (List ℕ)
  unread_bytes r = prepend (buffered_in r) (reader_source_state r).bytes

  -- Bytes may have been read, and are buffered after the earlier ones. No byte is lost.
  pub record KeepsBytes (old new : BufferedReader R) : Type 0 where
    pub consumed_bytes : List ℕ
    pub consumes : Consumed (reader_source_state old) consumed_bytes (reader_source_state new)
    pub buffer_content : buffered_in new ≡ buffered_in old ++ consumed_bytes
    pub unread_bytes : unread_bytes old ≡ unread_bytes new
    pub ring_capacity : ring_capacity_of new ≡ ring_capacity_of old
    pub seek_state_kept : has_seek_failed new ≡ has_seek_failed old

  -- If fewer than n bytes were buffered, the source was read, and the overflow buffer is shorter than n. Otherwise the
  -- source is unchanged, and the overflow buffer doesn't grow. If n bytes fit in the ring, the overflow buffer doesn't
  -- grow, and its capacity is unchanged.
  pub record ReadsOnlyFor (n : ℕ) (old new : BufferedReader R) : Type 0 where
    pub overflow_bound : length (buffered_in old) < n → overflow_len_of new < n
    pub no_growth_if_buffered : n ≤ length (buffered_in old) → overflow_len_of new ≤ overflow_len_of old
    pub no_growth_if_fits : n ≤ ring_capacity_of old → overflow_len_of new ≤ overflow_len_of old
    pub no_allocation_if_fits : n ≤ ring_capacity_of old → overflow_capacity_of new ≡ overflow_capacity_of old
    pub source_unchanged : n ≤ length (buffered_in old) → source_of new ≡ source_of old

  -- n bytes are buffered, and the source wasn't read after that, since it counted nothing; if they were buffered before,
  -- nothing changed
  pub record BufferedEnough (n : ℕ) (old new : BufferedReader R) : Type 0 where
    pub keeps_bytes : KeepsBytes old new
    pub reads_only_needed : ReadsOnlyFor n old new
    pub unchanged : n ≤ length (buffered_in old) → new ≡ old
    pub buffer_unchanged : n ≤ length (buffered_in old) → buffered_in new ≡ buffered_in old
    pub is_buffered : n ≤ length (buffered_in new)
    pub same_counts : SameCounts (reader_source_state old) (reader_source_state new)

  -- fewer than n bytes are buffered: one read was empty, and no read failed
  pub record BufferedTooFew (n : ℕ) (old new : BufferedReader R) : Type 0 where
    pub keeps_bytes : KeepsBytes old new
    pub reads_only_needed : ReadsOnlyFor n old new
    pub too_few : length (buffered_in new) < n
    pub ended_or_paused : EndedOrPaused (reader_source_state old) (reader_source_state new)
    pub at_most_one_pause : (reader_source_state new).pauses ≤ (reader_source_state old).pauses + 1
    pub errors : (reader_source_state new).errors ≡ (reader_source_state old).errors

  -- fewer than n bytes are buffered: the source failed, or an allocation failed for more bytes than the ring's capacity; no
  -- read was empty
  pub record BufferingError (n : ℕ) (old : BufferedReader R) (e : Error) (new : BufferedReader R) : Type 0 where
    pub keeps_bytes : KeepsBytes old new
    pub reads_only_needed : ReadsOnlyFor n old new
    pub too_few : length (buffered_in new) < n
    pub cause : SourceFailed (reader_source_state old) (reader_source_state new)
        ⊎ (IsOverflowAllocError (ring_capacity_of old) n e × SameCounts (reader_source_state old) (reader_source_state new))
    pub pauses : (reader_source_state new).pauses ≡ (reader_source_state old).pauses

  -- what a call to buffer n bytes does
  abbrev pub EnsuresBuffered : ℕ → BufferedReader R → Result Bool Error → BufferedReader R → Type 0
  EnsuresBuffered n old (Ok true) new = BufferedEnough n old new
  EnsuresBuffered n old (Ok false) new = BufferedTooFew n old new
  EnsuresBuffered n old (Err e) new = BufferingError n old e new

  -- The first n of the unread bytes are returned as this part and consumed. If they were buffered before, no byte was read;
  -- otherwise the overflow buffer is consumed completely.
  pub record PartConsumed (n : ℕ) (old : BufferedReader R) (part : List ℕ) (new : BufferedReader R) : Type 0 where
    pub exact_len : length part ≡ n
    pub unread_bytes : unread_bytes old ≡ prepend part (unread_bytes new)
    pub consumed_bytes : List ℕ
    pub consumes : Consumed (reader_source_state old) consumed_bytes (reader_source_state new)
    pub buffer_content : buffered_in old ++ consumed_bytes ≡ part ++ buffered_in new
    pub if_buffered : n ≤ length (buffered_in old) → buffered_in old ≡ part ++ buffered_in new
    pub reads_only_needed : ReadsOnlyFor n old new
    pub overflow_consumed : length (buffered_in old) < n → IsOverflowConsumed new.buffer
    pub keeps_contiguous : (m : ℕ) → n ≤ m → IsContiguous m old.buffer → IsContiguous (m - n) new.buffer
    pub same_counts : SameCounts (reader_source_state old) (reader_source_state new)
    pub ring_capacity : ring_capacity_of new ≡ ring_capacity_of old
    pub seek_ok_before : has_seek_failed old ≡ false
    pub seek_ok_after : has_seek_failed new ≡ false

  -- the part isn't available yet, and no byte is lost
  pub record PartNotReady (n : ℕ) (old new : BufferedReader R) : Type 0 where
    pub not_ready : BufferedTooFew n old new
    pub seek_ok_before : has_seek_failed old ≡ false

  -- the call fails, and no byte is lost
  pub record ConsumeError (n : ℕ) (old : BufferedReader R) (e : Error) (new : BufferedReader R) : Type 0 where
    pub error : BufferingError n old e new
    pub seek_ok_before : has_seek_failed old ≡ false

  -- what a call for the next n bytes does
  abbrev pub ConsumesData : ℕ → BufferedReader R → Result (Option RawData) Error → BufferedReader R → Type 0
  ConsumesData n old (Ok (Some part)) new = PartConsumed n old (bytes_of part) new
  ConsumesData n old (Ok None) new = PartNotReady n old new
  ConsumesData n old (Err e) new = ConsumeError n old e new ⊎ FailsAfterSeekError (has_seek_failed old) old e new

  -- the next sixteen bytes are copied and consumed; if they weren't buffered before, the overflow buffer is empty
  pub record HeaderConsumed (old : BufferedReader R) (header : List ℕ) (new : BufferedReader R) : Type 0 where
    pub consumes : PartConsumed 16 old header new
    pub overflow_empty : length (buffered_in old) < 16 → overflow_len_of new ≡ 0

  -- what a call for a copy of the next sixteen bytes does
  abbrev pub ConsumesHeader : BufferedReader R → Result (Option (List ℕ)) Error → BufferedReader R → Type 0
  ConsumesHeader old (Ok (Some header)) new = HeaderConsumed old header new
  ConsumesHeader old (Ok None) new = PartNotReady 16 old new
  ConsumesHeader old (Err e) new = ConsumeError 16 old e new ⊎ FailsAfterSeekError (has_seek_failed old) old e new

  -- the first n of the unread bytes are skipped; the source is unchanged if they were buffered
  pub record PartSkipped (n : ℕ) (old new : BufferedReader R) : Type 0 where
    pub skipped_bytes : List ℕ
    pub exact_len : length skipped_bytes ≡ n
    pub unread_bytes : unread_bytes old ≡ prepend skipped_bytes (unread_bytes new)
    pub if_buffered : n ≤ length (buffered_in old) → buffered_in old ≡ skipped_bytes ++ buffered_in new
    pub buffered_prefix : (rest : List ℕ) × (buffered_in old ++ rest ≡ skipped_bytes ++ buffered_in new)
    pub source_unchanged : n ≤ length (buffered_in old) → source_of new ≡ source_of old
    pub overflow_size : overflow_len_of new ≤ overflow_len_of old
    pub ring_capacity : ring_capacity_of new ≡ ring_capacity_of old
    pub same_counts : SameCounts (reader_source_state old) (reader_source_state new)
    pub same_source : SameSource (reader_source_state old) (reader_source_state new)
    pub seek_ok_before : has_seek_failed old ≡ false
    pub seek_ok_after : has_seek_failed new ≡ false

  -- n bytes aren't buffered, and nothing is skipped; a steady source has too few remaining bytes
  pub record BytesNotSkipped (n : ℕ) (old new : BufferedReader R) : Type 0 where
    pub too_few : length (buffered_in old) < n
    pub too_few_in_source : IsTrue (reader_source_state old).steady → IfSome (reader_source_state old).bytes (λ xs. length (buffered_in old) + length xs < n)
    pub buffer_content : buffered_in new ≡ buffered_in old
    pub unread_bytes : unread_bytes old ≡ unread_bytes new
    pub overflow_size : overflow_len_of new ≡ overflow_len_of old
    pub ring_capacity : ring_capacity_of new ≡ ring_capacity_of old
    pub same_counts : SameCounts (reader_source_state old) (reader_source_state new)
    pub same_source : SameSource (reader_source_state old) (reader_source_state new)
    pub seek_ok_before : has_seek_failed old ≡ false
    pub seek_ok_after : has_seek_failed new ≡ false

  -- n bytes aren't buffered, and a seek failed
  pub record SkipSeekError (n : ℕ) (old new : BufferedReader R) : Type 0 where
    pub too_few : length (buffered_in old) < n
    pub source_failed : SourceFailed (reader_source_state old) (reader_source_state new)
    pub pauses : (reader_source_state new).pauses ≡ (reader_source_state old).pauses
    pub same_source : SameSource (reader_source_state old) (reader_source_state new)
    pub buffer_content : buffered_in new ≡ buffered_in old
    pub overflow_size : overflow_len_of new ≡ overflow_len_of old
    pub ring_capacity : ring_capacity_of new ≡ ring_capacity_of old
    pub seek_ok_before : has_seek_failed old ≡ false
    pub seek_failed_after : has_seek_failed new ≡ true

  -- what a skip of n bytes does
  abbrev pub SkipsBytes : ℕ → BufferedReader R → Result Bool Error → BufferedReader R → Type 0
  SkipsBytes n old (Ok true) new = PartSkipped n old new
  SkipsBytes n old (Ok false) new = BytesNotSkipped n old new
  SkipsBytes n old (Err e) new = SkipSeekError n old new ⊎ FailsAfterSeekError (has_seek_failed old) old e new
