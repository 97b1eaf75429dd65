-- The section EVENT_DESC of Linux's perf: a count of events and a frame size, of four bytes each, and the events. An event is a
-- frame of that size, a count of four bytes, a string with the event's name, and that many ids.
use Rattle.std.specs.Prelude.{◌≡◌, ◌≢◌, ℕ, ◌*◌, ◌<◌, ◌≤◌, ◌⊎◌, List, [], ◌∷◌, ◌++◌, length, drop, Option, Result, Ok, Err, IfSome, Vec, string_bytes}
use Rattle.std.specs.Option.{option_map}
use Rattle.std.specs.declared.alloc.Global.{Global}
use Rattle.perfdata_sources.specs.Source.{State, Consumed, SourceFailed, AfterSeek, advance_by}
use Rattle.perfdata_sources.specs.declared.attr.PerfEventAttr.{PerfEventAttr}
use Rattle.perfdata_sources.specs.declared.source.append.AppendError.{AppendError}
use Rattle.perfdata_sources.specs.declared.source.append.AppendError.TheVariants.{Memory as NoMemory, Source}
use Rattle.perfdata_sections.specs.AttributeDescription.{DescribedEvent, event_in, events_in}
use Rattle.perfdata_sections.specs.AttrFrames.{IsAttrInFrame, IsFrameError, ConsumesFrameError, IsFrameReadError, FrameRead}
use Rattle.perfdata_sections.specs.Error.{IsUnexpectedEof, IsIoError}
use Rattle.perfdata_sections.specs.EventIds.{AreIds}
use Rattle.perfdata_sections.specs.ParsedPart.{PartRead, PartPartlyRead, PartReadError}
use Rattle.perfdata_sections.specs.Items.{SomeBytes, NextReadError, IsTruncationOf, IsReadErrorOf, IsShorterThan}
use Rattle.perfdata_sections.specs.HeaderString.{IsHeaderString, IsHeaderStringOf, IsTruncatedString}
use Rattle.perfdata_sections.specs.declared.feature_sections.AttributeDescription.{AttributeDescription}
use Rattle.perfdata_sections.specs.declared.feature_sections.event_desc.NameAndIds.{NameAndIds}
use Rattle.perfdata_sections.specs.declared.error.Error.{Error}
use Rattle.perfdata_sections.specs.declared.error.Error.TheVariants.{Memory}

module _ (number : ℕ → List ℕ → ℕ) where
  -- ---- the part of an event after its frame

  -- `xs` is exactly the part of an event after its frame: the count, the name, and that many ids.
  pub record IsNameAndIds (xs : List ℕ) (name : Option (List ℕ)) (ids : List ℕ) : Type 0 where
    pub count_bytes : List ℕ
    pub name_bytes : List ℕ
    pub id_bytes : List ℕ
    pub matches : xs ≡ count_bytes ++ (name_bytes ++ id_bytes)
    pub exact_len : length count_bytes ≡ 4
    pub valid_string : IsHeaderStringOf number name_bytes name
    pub elements : AreIds number (number 4 count_bytes) id_bytes ids

  -- `xs` is a count, a name, and fewer ids than the count.
  pub record IsTruncatedInIds (xs : List ℕ) : Type 0 where
    pub count_bytes : List ℕ
    pub name_bytes : List ℕ
    pub id_bytes : List ℕ
    pub matches : xs ≡ count_bytes ++ (name_bytes ++ id_bytes)
    pub exact_len : length count_bytes ≡ 4
    pub valid_string : IsHeaderString number name_bytes
    pub too_few : length id_bytes < 8 * number 4 count_bytes

  -- `xs` ends in the count, in the name, or in the ids.
  abbrev pub IsTruncatedNameAndIds : List ℕ → Type 0
  IsTruncatedNameAndIds xs = (length xs < 4) ⊎ (((4 ≤ length xs) × IsTruncatedString number (drop 4 xs)) ⊎ IsTruncatedInIds xs)

  -- What reading the part after the frame does. Memory runs out only after the count and the length of the
  -- name.
  abbrev pub ReadsNameAndIds : State → Result NameAndIds AppendError → State → Type 0
  ReadsNameAndIds old (Ok t) new = PartRead (λ xs t. IsNameAndIds xs (option_map string_bytes t.name) t.event_ids.items) old t new
  ReadsNameAndIds old (Err NoMemory) new = PartPartlyRead (λ xs. 8 ≤ length xs) old new
  ReadsNameAndIds old (Err (Source e)) new = PartReadError IsTruncatedNameAndIds old e new

  -- ---- events

  module _ (attr_size : ℕ) where
    -- `xs` is exactly one event: a frame, and the part after it.
    pub record IsEvent (xs : List ℕ) (d : DescribedEvent) : Type 0 where
      pub frame_bytes : List ℕ
      pub after_frame : List ℕ
      pub matches : xs ≡ frame_bytes ++ after_frame
      pub exact_len : length frame_bytes ≡ attr_size
      pub attr_in_frame : IsAttrInFrame number attr_size frame_bytes d.attr
      pub name_and_ids : IsNameAndIds after_frame d.name d.ids

    -- `xs` consists of these events, one after another.
    abbrev pub AreEvents : List ℕ → List DescribedEvent → Type 0
    AreEvents xs [] = xs ≡ []
    AreEvents xs (d ∷ ds) = (first : List ℕ) × (rest : List ℕ) × (xs ≡ first ++ rest) × IsEvent first d × AreEvents rest ds

    -- `xs` doesn't start with a frame, or the part after the frame is truncated.
    abbrev pub IsEventError : Error → List ℕ → Type 0
    IsEventError e xs = IsFrameError number attr_size e xs
        ⊎ (((a : PerfEventAttr) × IsAttrInFrame number attr_size xs a) × IsUnexpectedEof e × IsTruncatedNameAndIds (drop attr_size xs))

    -- A frame is read, and the source's position is at the end of the frame. The padding of the frame may be missing.
    pub record PaddedFrameRead (old : State) (a : PerfEventAttr) (new : State) : Type 0 where
      pub after_seek : AfterSeek old new
      pub position : new.position ≡ advance_by attr_size old.position
      pub is_possible : SomeBytes (λ xs. IsAttrInFrame number attr_size xs a)
      pub matches : IfSome old.bytes (λ xs. IsAttrInFrame number attr_size xs a)

    -- A frame is read, and the seek to its end fails. The error is the seek's.
    pub record FrameEndSeekError (old : State) (e : Error) (new : State) : Type 0 where
      pub attr : PerfEventAttr
      pub mid : State
      pub frame_read : FrameRead number attr_size old attr mid
      pub io_error : IsIoError e
      pub source_failed : SourceFailed mid new

    -- A frame is read, and reading the part after it fails.
    pub record NameAndIdsError (old : State) (e : Error) (new : State) : Type 0 where
      pub attr : PerfEventAttr
      pub mid : State
      pub frame_read : PaddedFrameRead old attr mid
      pub error : NextReadError (IsTruncationOf IsTruncatedNameAndIds) (IsReadErrorOf IsTruncatedNameAndIds) mid e new

    abbrev pub FrameReadError : State → Error → State → Type 0
    FrameReadError old e new = NextReadError (ConsumesFrameError number attr_size) (IsFrameReadError number attr_size) old e new

    -- What reading a frame and seeking to its end does.
    abbrev pub ReadsPaddedFrame : State → Result PerfEventAttr Error → State → Type 0
    ReadsPaddedFrame old (Ok a) new = PaddedFrameRead old a new
    ReadsPaddedFrame old (Err e) new = AfterSeek old new × (FrameReadError old e new ⊎ FrameEndSeekError old e new)

    -- Reading an event fails at its frame, at the seek to the frame's end, or after it.
    abbrev pub EventReadError : State → Error → State → Type 0
    EventReadError old e new = FrameReadError old e new ⊎ (FrameEndSeekError old e new ⊎ NameAndIdsError old e new)

    -- What reading an event does. If memory runs out, no cause is specified.
    abbrev pub ReadsEvent : State → Result AttributeDescription Error → State → Type 0
    ReadsEvent old (Ok d) new = PartRead (λ xs d. IsEvent xs (event_in d)) old d new
    ReadsEvent old (Err e) new = AfterSeek old new × (e ≢ Memory → EventReadError old e new)

    -- Memory runs out after a frame, and after the count of ids and the length of the name.
    pub record EventNeedsMemory (old new : State) : Type 0 where
      pub attr : PerfEventAttr
      pub mid : State
      pub frame_read : PaddedFrameRead old attr mid
      pub partly_read : PartPartlyRead (λ xs. 8 ≤ length xs) mid new

    module _ (count : ℕ) where
      -- `count` events are read.
      pub record EventsRead (old : State) (ds : List AttributeDescription) (new : State) : Type 0 where
        pub exact_len : length ds ≡ count
        pub bytes : List ℕ
        pub consumes : Consumed old bytes new
        pub elements : AreEvents bytes (events_in ds)

      -- The first events are read, fewer than `count`, and reading the next fails.
      pub record EventsReadError (old : State) (e : Error) (new : State) : Type 0 where
        pub before : List DescribedEvent
        pub mid : State
        pub bytes_before : List ℕ
        pub too_few : length before < count
        pub consumes : Consumed old bytes_before mid
        pub elements : AreEvents bytes_before before
        pub error : EventReadError mid e new

      -- The first events are read, fewer than `count`, and memory runs out in the next, or for its description.
      pub record EventsNeedMemory (old new : State) : Type 0 where
        pub before : List DescribedEvent
        pub mid : State
        pub bytes_before : List ℕ
        pub too_few : length before < count
        pub consumes : Consumed old bytes_before mid
        pub elements : AreEvents bytes_before before
        pub needs : EventNeedsMemory mid new ⊎ ((d : AttributeDescription) × PartRead (λ xs d. IsEvent xs (event_in d)) mid d new)

      -- What reading `count` events does.
      abbrev pub ReadsEvents : State → Result (Vec AttributeDescription Global) Error → State → Type 0
      ReadsEvents old (Ok v) new = EventsRead old v.items new
      ReadsEvents old (Err e) new = AfterSeek old new × (e ≢ Memory → EventsReadError old e new)

  -- ---- the section

  -- The number of events of a section, from its first eight bytes.
  abbrev pub event_count_of : List ℕ → ℕ
  event_count_of header = number 4 header

  abbrev pub frame_size_of : List ℕ → ℕ
  frame_size_of header = number 4 (drop 4 header)

  -- `xs` is exactly a section of these events.
  pub record IsEventDesc (xs : List ℕ) (ds : List DescribedEvent) : Type 0 where
    pub header : List ℕ
    pub event_bytes : List ℕ
    pub matches : xs ≡ header ++ event_bytes
    pub exact_len : length header ≡ 8
    pub count : length ds ≡ event_count_of header
    pub elements : AreEvents (frame_size_of header) event_bytes ds

  -- `xs` starts with a section of exactly these events.
  abbrev pub BeginsWithEventDesc : List ℕ → List DescribedEvent → Type 0
  BeginsWithEventDesc xs ds = (prefix : List ℕ) × (rest : List ℕ) × (xs ≡ prefix ++ rest) × IsEventDesc prefix ds

  -- The descriptions describe the events of the section at the start of `xs`, in order.
  abbrev pub DescribesByEventDesc : List ℕ → List AttributeDescription → Type 0
  DescribesByEventDesc xs ds = BeginsWithEventDesc xs (events_in ds)

  -- The first events are valid, fewer than the section's count, and `e` is the error of the next.
  pub record ErrorAtEvent (e : Error) (xs : List ℕ) : Type 0 where
    pub header : List ℕ
    pub bytes_before : List ℕ
    pub rest : List ℕ
    pub before : List DescribedEvent
    pub matches : xs ≡ header ++ (bytes_before ++ rest)
    pub exact_len : length header ≡ 8
    pub too_few : length before < event_count_of header
    pub elements : AreEvents (frame_size_of header) bytes_before before
    pub error_here : IsEventError (frame_size_of header) e rest

  -- The first error in the section.
  abbrev pub IsEventDescError : Error → List ℕ → Type 0
  IsEventDescError e xs = (IsUnexpectedEof e × (length xs < 8)) ⊎ ErrorAtEvent e xs

  -- The first eight bytes are read, and reading the events after them fails.
  pub record EventsErrorAfterHeader (old : State) (e : Error) (new : State) : Type 0 where
    pub header : List ℕ
    pub mid : State
    pub exact_len : length header ≡ 8
    pub consumes : Consumed old header mid
    pub error : EventsReadError (frame_size_of header) (event_count_of header) mid e new

  -- The first failure while the section is read.
  abbrev pub EventDescReadError : State → Error → State → Type 0
  EventDescReadError old e new = NextReadError (IsTruncationOf (IsShorterThan 8)) (IsReadErrorOf (IsShorterThan 8)) old e new ⊎ EventsErrorAfterHeader old e new

  -- The first eight bytes are read, and memory runs out for an event after them.
  pub record EventDescNeedsMemory (old new : State) : Type 0 where
    pub header : List ℕ
    pub mid : State
    pub exact_len : length header ≡ 8
    pub consumes : Consumed old header mid
    pub needs : EventsNeedMemory (frame_size_of header) (event_count_of header) mid new

  -- What reading the section at the source's position does. On success, exactly its bytes are consumed. If memory runs out, no
  -- cause is specified.
  abbrev pub ReadsEventDesc : State → Result (Vec AttributeDescription Global) Error → State → Type 0
  ReadsEventDesc old (Ok v) new = PartRead (λ xs ds. IsEventDesc xs (events_in ds)) old v.items new
  ReadsEventDesc old (Err e) new = AfterSeek old new × (e ≢ Memory → EventDescReadError old e new)
