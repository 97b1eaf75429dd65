-- The state of a byte source as contracts see it, and the effect of calls on it.
use Rattle.std.specs.Prelude.{◌≡◌, ◌≢◌, ℕ, ◌+◌, ◌-◌, ◌^◌, ◌<◌, ◌≤◌, Bool, true, false, IsTrue, List, [], ◌++◌, length, take, drop, Option, None, Some, Result, Ok, Err, ◌⊎◌, pos, negsuc, IfSome}
use Rattle.std.specs.declared.io.SeekFrom.{SeekFrom}
use Rattle.std.specs.declared.io.SeekFrom.TheVariants.{Start, End, Current}
use Rattle.std.specs.IoError.{error_kind}
use Rattle.std.specs.declared.io.Error.{Error}
use Rattle.std.specs.declared.io.ErrorKind.TheVariants.{UnexpectedEof, OutOfMemory}
use Rattle.perfdata_sources.specs.declared.source.append.AppendError.{AppendError}
use Rattle.perfdata_sources.specs.declared.source.counted.Counted.{Counted}
use Rattle.perfdata_sources.specs.declared.source.append.AppendError.TheVariants.{Memory, Source}

-- all bytes of a source that can seek, and the offset of the next read
pub record Position : Type 0 where
  pub all_bytes : List ℕ
  pub offset : ℕ

-- The state of a source as contracts see it: its remaining bytes in order, if they are known; its counts of I/O errors and of
-- empty reads; whether it is steady, with no further error and no further empty read; and its position, if its bytes are known
-- and it can seek.
pub record State : Type 0 where
  pub bytes : Option (List ℕ)
  pub errors : ℕ
  pub pauses : ℕ
  pub steady : Bool
  pub position : Option Position

-- the remaining bytes before a read of this prefix
abbrev pub prepend : List ℕ → Option (List ℕ) → Option (List ℕ)
prepend prefix None = None
prepend prefix (Some rest) = Some (prefix ++ rest)

-- the position n bytes further
abbrev pub advance_by : ℕ → Option Position → Option Position
advance_by n None = None
advance_by n (Some p) = Some (record { all_bytes = p.all_bytes; offset = p.offset + n })

-- the position at offset n
abbrev pub at_offset : ℕ → Option Position → Option Position
at_offset n None = None
at_offset n (Some p) = Some (record { all_bytes = p.all_bytes; offset = n })

-- all bytes, if they are known
abbrev pub all_bytes_of : Option Position → Option (List ℕ)
all_bytes_of None = None
all_bytes_of (Some p) = Some p.all_bytes

-- the bytes from the position on
abbrev pub remaining_from : Option Position → Option (List ℕ)
remaining_from None = None
remaining_from (Some p) = Some (drop p.offset p.all_bytes)

-- a source of these bytes, which never fails
abbrev pub memory_source : List ℕ → State
memory_source bytes = record { bytes = Some bytes; errors = 0; pauses = 0; steady = true; position = None }

-- a source of these bytes from an offset on, which never fails
abbrev pub memory_source_at : List ℕ → ℕ → State
memory_source_at all at = record {
  bytes = Some (drop at all);
  errors = 0;
  pauses = 0;
  steady = true;
  position = Some (record { all_bytes = all; offset = at });
}

-- the start of these bytes
abbrev pub at_start : List ℕ → Position
at_start all = record { all_bytes = all; offset = 0 }

-- a source whose bytes are unknown
abbrev pub opaque_source : ℕ → ℕ → State
opaque_source errors pauses = record { bytes = None; errors = errors; pauses = pauses; steady = false; position = None }

-- a reader of std as a source
abbrev pub counted_state : {R : Type 0} → Counted R → State
counted_state c = opaque_source c.errors c.pauses

-- a count increases, or it is at its maximum
abbrev pub CountIncreases : ℕ → ℕ → Type 0
CountIncreases old new = new < 2 ^ 64 - 1 → old < new

-- a steady source stays steady, and its counts are unchanged
pub record StaysSteady (old new : State) : Type 0 where
  pub steady : IsTrue new.steady
  pub errors : new.errors ≡ old.errors
  pub pauses : new.pauses ≡ old.pauses

-- Exactly these bytes were consumed, a prefix of the remaining bytes. No count decreased.
pub record Consumed (old : State) (prefix : List ℕ) (new : State) : Type 0 where
  pub bytes : old.bytes ≡ prepend prefix new.bytes
  pub position : new.position ≡ advance_by (length prefix) old.position
  pub errors : old.errors ≤ new.errors
  pub pauses : old.pauses ≤ new.pauses
  pub steady : IsTrue old.steady → StaysSteady old new

-- the source failed; a steady source never fails
pub record SourceFailed (old new : State) : Type 0 where
  pub count_increases : CountIncreases old.errors new.errors
  pub not_steady : ¬ IsTrue old.steady

-- a read was empty though bytes remain; a steady source never pauses
pub record SourcePaused (old new : State) : Type 0 where
  pub count_increases : CountIncreases old.pauses new.pauses
  pub not_steady : ¬ IsTrue old.steady

-- a read returned no bytes: the source paused, unless its remaining bytes are known to be none
abbrev pub EndedOrPaused : State → State → Type 0
EndedOrPaused old new = new.bytes ≢ Some [] → SourcePaused old new

-- n bytes were read into a buffer; if n is 0, the source ended or paused
pub record ReadInto (old : State) (buf : List ℕ) (n : ℕ) (new : State) : Type 0 where
  pub within : n ≤ length buf
  pub consumes : Consumed old (take n buf) new
  pub if_empty : n ≡ 0 → EndedOrPaused old new

-- the effect of one read into a buffer, with the content of the buffer after the read
abbrev pub Reads : {E : Type 0} → State → List ℕ → Result ℕ E → State → Type 0
Reads old buf (Ok n) new = ReadInto old buf n new
Reads old buf (Err e) new = Consumed old [] new × SourceFailed old new

-- a count at its maximum stays there
abbrev pub StaysSaturated : ℕ → ℕ → Type 0
StaysSaturated old new = old ≡ 2 ^ 64 - 1 → new ≡ 2 ^ 64 - 1

-- the effect of one read on the counts: an error leaves the count of pauses unchanged, a success that of errors, and bytes leave
-- both; each count increases by one at most
abbrev pub CountsRead : {E : Type 0} → State → Result ℕ E → State → Type 0
CountsRead old (Ok n) new = (new.errors ≡ old.errors) × (0 < n → new.pauses ≡ old.pauses) × (new.pauses ≤ old.pauses + 1) × StaysSaturated old.pauses new.pauses
CountsRead old (Err e) new = (new.pauses ≡ old.pauses) × (new.errors ≤ old.errors + 1) × StaysSaturated old.errors new.errors

-- No call reads on after an empty read. A call for up to count bytes has no empty read if it returns that many, one at most if it
-- returns fewer, and none if it fails.
abbrev pub PausesOnlyIfIncomplete : {E : Type 0} → ℕ → State → Result ℕ E → State → Type 0
PausesOnlyIfIncomplete count old (Ok n) new = (n ≡ count → new.pauses ≡ old.pauses) × (new.pauses ≤ old.pauses + 1)
PausesOnlyIfIncomplete count old (Err e) new = new.pauses ≡ old.pauses

-- A call for an exact number of bytes has no empty read if it succeeds, and one at most if it fails.
abbrev pub PausesOnlyOnError : {A E : Type 0} → State → Result A E → State → Type 0
PausesOnlyOnError old (Ok _) new = new.pauses ≡ old.pauses
PausesOnlyOnError old (Err e) new = new.pauses ≤ old.pauses + 1

-- the effect of a seek on the counts: a success leaves both unchanged, an error that of pauses
abbrev pub CountsSeek : {E : Type 0} → State → Result ℕ E → State → Type 0
CountsSeek old (Ok at) new = (new.errors ≡ old.errors) × (new.pauses ≡ old.pauses)
CountsSeek old (Err e) new = (new.pauses ≡ old.pauses) × StaysSaturated old.errors new.errors

-- each count can still increase
pub record CanCount (s : State) : Type 0 where
  pub errors : s.errors < 2 ^ 64 - 1
  pub pauses : s.pauses < 2 ^ 64 - 1

-- a buffer was filled, or n bytes of it before the source ended or paused
pub record BufferFilled (old : State) (buf : List ℕ) (n : ℕ) (new : State) : Type 0 where
  pub within : n ≤ length buf
  pub consumes : Consumed old (take n buf) new
  pub if_incomplete : n < length buf → EndedOrPaused old new

-- fewer than count bytes were consumed
pub record PartlyRead (old : State) (count : ℕ) (new : State) : Type 0 where
  pub consumed_bytes : List ℕ
  pub too_few : length consumed_bytes < count
  pub consumes : Consumed old consumed_bytes new

-- the effect of filling a buffer
abbrev pub FillsBuffer : {E : Type 0} → State → List ℕ → Result ℕ E → State → Type 0
FillsBuffer old buf (Ok n) new = BufferFilled old buf n new
FillsBuffer old buf (Err e) new = PartlyRead old (length buf) new × SourceFailed old new

-- n of count bytes were consumed; fewer than count only if the source ended or paused
pub record SkippedUpTo (old : State) (count n : ℕ) (new : State) : Type 0 where
  pub bytes : List ℕ
  pub exact_len : length bytes ≡ n
  pub within : n ≤ count
  pub consumes : Consumed old bytes new
  pub if_incomplete : n < count → EndedOrPaused old new

-- the effect of skipping up to count bytes
abbrev pub SkipsUpTo : {E : Type 0} → State → ℕ → Result ℕ E → State → Type 0
SkipsUpTo old count (Ok n) new = SkippedUpTo old count n new
SkipsUpTo old count (Err e) new = PartlyRead old count new × SourceFailed old new

-- n of count bytes were consumed, fewer than count only if the source ended or paused; the buffer contains them after its old
-- content
pub record AppendedUpTo (old : State) (buffered : List ℕ) (count n : ℕ) (now : List ℕ) (new : State) : Type 0 where
  pub bytes : List ℕ
  pub exact_len : length bytes ≡ n
  pub within : n ≤ count
  pub buffer_content : now ≡ buffered ++ bytes
  pub consumes : Consumed old bytes new
  pub if_incomplete : n < count → EndedOrPaused old new

-- fewer than count bytes were consumed, and the buffer is at most one chunk longer than its old content with these bytes
pub record PartlyAppended (old : State) (buffered count now : ℕ) (new : State) : Type 0 where
  pub partial_read : PartlyRead old count new
  pub buffer_bound : now ≤ buffered + length partial_read.consumed_bytes + 4096

-- the effect of appending up to count bytes to a buffer
abbrev pub AppendsUpTo : State → List ℕ → ℕ → Result ℕ AppendError → List ℕ → State → Type 0
AppendsUpTo old buffered count (Ok n) now new = AppendedUpTo old buffered count n now new
AppendsUpTo old buffered count (Err Memory) now new = PartlyAppended old (length buffered) count (length now) new
AppendsUpTo old buffered count (Err (Source e)) now new = PartlyAppended old (length buffered) count (length now) new × SourceFailed old new

-- the remaining bytes are those from the position on; both are known, or neither
abbrev pub RemainsFromPosition : State → Type 0
RemainsFromPosition s = s.bytes ≡ remaining_from s.position

-- all bytes, if they are known, are fewer than 2 ^ 63
abbrev pub SizeFitsI64 : State → Type 0
SizeFitsI64 s = IfSome (all_bytes_of s.position) (λ all. length all < 2 ^ 63)

-- the position, if it is known, fits in 64 bits
abbrev pub PositionFitsU64 : State → Type 0
PositionFitsU64 s = IfSome s.position (λ p. p.offset < 2 ^ 64)

-- after a seek all bytes are the same, and no count decreased
pub record AfterSeek (old new : State) : Type 0 where
  pub from_position : RemainsFromPosition new
  pub all_bytes : all_bytes_of new.position ≡ all_bytes_of old.position
  pub errors : old.errors ≤ new.errors
  pub pauses : old.pauses ≤ new.pauses
  pub steady : IsTrue old.steady → StaysSteady old new

-- a length that a source shows at some moment: that of a prefix of all bytes, and of all bytes if the source is steady
pub record VisibleLength (steady : Bool) (p : Position) : Type 0 where
  pub len : ℕ
  pub within : len ≤ length p.all_bytes
  pub whole_if_steady : IsTrue steady → len ≡ length p.all_bytes

-- the target of a seek; from the end, it depends on the visible length
abbrev pub LeadsTo : Bool → SeekFrom → Position → ℕ → Type 0
LeadsTo steady (Start n) p at = at ≡ n
LeadsTo steady (Current (pos n)) p at = at ≡ p.offset + n
LeadsTo steady (Current (negsuc n)) p at = at + (n + 1) ≡ p.offset
LeadsTo steady (End (pos n)) p at = (shown : VisibleLength steady p) × (at ≡ shown.len + n)
LeadsTo steady (End (negsuc n)) p at = (shown : VisibleLength steady p) × (at + (n + 1) ≡ shown.len)

-- the target isn't in 0 to 2^64 - 1
abbrev pub LeadsNowhere : Bool → SeekFrom → Position → Type 0
LeadsNowhere steady (Start n) p = 2 ^ 64 ≤ n
LeadsNowhere steady (Current (pos n)) p = 2 ^ 64 ≤ p.offset + n
LeadsNowhere steady (Current (negsuc n)) p = p.offset < n + 1
LeadsNowhere steady (End (pos n)) p = (shown : VisibleLength steady p) × (2 ^ 64 ≤ shown.len + n)
LeadsNowhere steady (End (negsuc n)) p = (shown : VisibleLength steady p) × (shown.len < n + 1)

-- the seek reached its target
pub record SeekSucceeded (old : State) (to : SeekFrom) (at : ℕ) (new : State) : Type 0 where
  pub after_seek : AfterSeek old new
  pub position : new.position ≡ at_offset at old.position
  pub target : (p : Position) → old.position ≡ Some p → LeadsTo old.steady to p at

-- the target is out of range
pub record SeekOutOfRange (old : State) (to : SeekFrom) : Type 0 where
  pub start : Position
  pub at_start : old.position ≡ Some start
  pub out_of_range : LeadsNowhere old.steady to start

-- the effect of a seek: it reaches its target, or it fails because the target is out of range or the source failed, and then the
-- position is unspecified
abbrev pub Seeks : {E : Type 0} → State → SeekFrom → Result ℕ E → State → Type 0
Seeks old to (Ok at) new = SeekSucceeded old to at new
Seeks old to (Err e) new = AfterSeek old new × (SourceFailed old new ⊎ SeekOutOfRange old to)

-- the source ended or paused, which is an unexpected end, or it failed
abbrev pub EndedOrFailed : Error → State → State → Type 0
EndedOrFailed e old new = ((error_kind e ≡ UnexpectedEof) × EndedOrPaused old new) ⊎ SourceFailed old new

-- a read of exactly count bytes failed: fewer were consumed, and then the source ended or paused, which is an unexpected end, or
-- it failed
pub record ReadExactError (old : State) (count : ℕ) (e : Error) (new : State) : Type 0 where
  pub consumed_bytes : List ℕ
  pub too_few : length consumed_bytes < count
  pub consumes : Consumed old consumed_bytes new
  pub cause : EndedOrFailed e old new

-- the effect of filling a whole buffer
abbrev pub ReadsExactly : {A : Type 0} → State → List ℕ → Result A Error → State → Type 0
ReadsExactly old buf (Ok _) new = Consumed old buf new
ReadsExactly old buf (Err e) new = ReadExactError old (length buf) e new

-- count bytes were skipped
pub record SkippedExactly (old : State) (count : ℕ) (new : State) : Type 0 where
  pub bytes : List ℕ
  pub exact_len : length bytes ≡ count
  pub consumes : Consumed old bytes new

-- the effect of skipping exactly count bytes
abbrev pub SkipsExactly : {A : Type 0} → State → ℕ → Result A Error → State → Type 0
SkipsExactly old count (Ok _) new = SkippedExactly old count new
SkipsExactly old count (Err e) new = ReadExactError old count e new

-- count bytes were consumed, and the buffer contains them after its old content
pub record AppendedExactly (old : State) (buffered : List ℕ) (count : ℕ) (now : List ℕ) (new : State) : Type 0 where
  pub bytes : List ℕ
  pub exact_len : length bytes ≡ count
  pub buffer_content : now ≡ buffered ++ bytes
  pub consumes : Consumed old bytes new

-- the effect of appending exactly count bytes to a buffer; no empty read is counted if memory runs out
abbrev pub AppendsExactly : {A : Type 0} → State → List ℕ → ℕ → Result A AppendError → List ℕ → State → Type 0
AppendsExactly old buffered count (Ok _) now new = AppendedExactly old buffered count now new
AppendsExactly old buffered count (Err Memory) now new = PartlyAppended old (length buffered) count (length now) new × (new.pauses ≡ old.pauses)
AppendsExactly old buffered count (Err (Source e)) now new = PartlyAppended old (length buffered) count (length now) new × EndedOrFailed e old new

-- the I/O error for an error of an append: of kind OutOfMemory if memory ran out, else the source's own error
abbrev pub IsIoErrorOf : AppendError → Error → Type 0
IsIoErrorOf Memory e = error_kind e ≡ OutOfMemory
IsIoErrorOf (Source own) e = e ≡ own
