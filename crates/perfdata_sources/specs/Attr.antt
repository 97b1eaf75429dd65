-- Event attributes as their bytes describe them (`perf_event_attr` in Linux's `perf_event.h`).
use Rattle.std.specs.Prelude.{◌≡◌, ℕ, ◌+◌, ◌-◌, ◌<◌, ◌≤◌, ◌⊎◌, ◌++◌, List, length, drop, Result, Ok, Err, nat_eq, nat_le, if◌then◌else◌}
use Rattle.std.specs.Int.{w32, cast_signed}
use Rattle.std.specs.IoError.{error_kind}
use Rattle.std.specs.declared.io.Error.{Error}
use Rattle.std.specs.declared.io.ErrorKind.TheVariants.{UnexpectedEof, InvalidData}
use Rattle.perfdata_sources.specs.Source.{State, Consumed, EndedOrPaused, SourceFailed, ReadExactError}
use Rattle.perfdata_sources.specs.declared.attr.PerfEventAttr.{PerfEventAttr}

module _ (number : ℕ → List ℕ → ℕ) where
  -- the size of an attribute in bytes: its second u32 field, where 0 means 64
  abbrev pub own_size : List ℕ → ℕ
  own_size xs = if nat_eq (number 4 (drop 4 xs)) 0 then 64 else number 4 (drop 4 xs)

  -- the field of n bytes at an offset: the number there, or 0 if it isn't completely within the own bytes
  unfoldable pub field : ℕ → ℕ → ℕ → List ℕ → ℕ
  field own n at xs = if nat_le (at + n) own then number n (drop at xs) else 0

  -- the attribute whose own size is `own`
  unfoldable pub attr_of_size : ℕ → List ℕ → PerfEventAttr
  attr_of_size own xs = record {
    type_ = field own 4 0 xs;
    size = own;
    config = field own 8 8 xs;
    period_or_freq = field own 8 16 xs;
    sample_format = record { 0 = field own 8 24 xs };
    read_format = field own 8 32 xs;
    flags = record { 0 = field own 8 40 xs };
    wakeup = field own 4 48 xs;
    bp_type = field own 4 52 xs;
    config1 = field own 8 56 xs;
    config2 = field own 8 64 xs;
    branch_sample_type = field own 8 72 xs;
    sample_regs_user = field own 8 80 xs;
    sample_stack_user = field own 4 88 xs;
    clockid = cast_signed w32 (field own 4 92 xs);
    sample_regs_intr = field own 8 96 xs;
    aux_watermark = field own 4 104 xs;
    sample_max_stack = field own 2 108 xs;
    aux_sample_size = field own 4 112 xs;
    sig_data = field own 8 120 xs;
    config3 = field own 8 128 xs;
  }

  -- the attribute at the start of these bytes
  abbrev pub attr_of : List ℕ → PerfEventAttr
  attr_of xs = attr_of_size (own_size xs) xs

  -- These bytes start with this attribute, whose own size is at least 64.
  pub record IsAttr (xs : List ℕ) (a : PerfEventAttr) : Type 0 where
    pub min_size : 64 ≤ own_size xs
    pub complete : own_size xs ≤ length xs
    pub matches : a ≡ attr_of xs

  -- exactly the bytes of this attribute were consumed
  pub record AttrParsed (old : State) (a : PerfEventAttr) (own : ℕ) (new : State) : Type 0 where
    pub bytes : List ℕ
    pub exact_len : length bytes ≡ own
    pub size : a.size ≡ own
    pub consumes : Consumed old bytes new
    pub matches : IsAttr bytes a

  -- the size in these bytes is 1 to 63
  abbrev pub IsTooSmall : List ℕ → Type 0
  IsTooSmall xs = (8 ≤ length xs) × (own_size xs < 64)

  -- these bytes end before the first eight bytes of an attribute, or before its own size
  abbrev pub IsTruncatedAttr : List ℕ → Type 0
  IsTruncatedAttr xs = (length xs < 8) ⊎ ((64 ≤ own_size xs) × (length xs < own_size xs))

  -- The consumed bytes are no attribute. They are incomplete, because the source ended or paused, which is an unexpected end, or
  -- failed; or they are eight, and the size in them is 1 to 63.
  abbrev pub AttrErrorCause : (List ℕ → Type 0) → State → List ℕ → Error → State → Type 0
  AttrErrorCause Unfinished old prefix e new =
      (Unfinished prefix × (((error_kind e ≡ UnexpectedEof) × EndedOrPaused old new) ⊎ SourceFailed old new))
      ⊎ ((length prefix ≡ 8) × (own_size prefix < 64) × (error_kind e ≡ InvalidData))

  -- the parse failed after these bytes were consumed
  pub record AttrParseError (old : State) (e : Error) (new : State) : Type 0 where
    pub consumed_bytes : List ℕ
    pub consumes : Consumed old consumed_bytes new
    pub cause : AttrErrorCause IsTruncatedAttr old consumed_bytes e new

  -- the effect of parsing an attribute on the source
  abbrev pub ParsesAttr : State → Result (PerfEventAttr × ℕ) Error → State → Type 0
  ParsesAttr old (Ok r) new = AttrParsed old r.0 r.1 new
  ParsesAttr old (Err e) new = AttrParseError old e new

  -- the bytes don't start with an attribute, and the error has the matching kind
  abbrev pub IsInvalidAttr : Error → List ℕ → Type 0
  IsInvalidAttr e xs = ((error_kind e ≡ UnexpectedEof) × IsTruncatedAttr xs) ⊎ ((error_kind e ≡ InvalidData) × IsTooSmall xs)

  -- the first eight bytes were consumed, and they contain this size
  pub record OwnSizeRead (old : State) (header : List ℕ) (own : ℕ) (new : State) : Type 0 where
    pub consumes : Consumed old header new
    pub matches : own ≡ own_size header
    pub min_size : 64 ≤ own

  -- there are fewer than eight bytes, or the size in them is 1 to 63
  pub record OwnSizeReadError (old : State) (e : Error) (new : State) : Type 0 where
    pub consumed_bytes : List ℕ
    pub consumes : Consumed old consumed_bytes new
    pub cause : AttrErrorCause (λ xs. length xs < 8) old consumed_bytes e new

  -- the effect of reading the first eight bytes
  abbrev pub ReadsOwnSize : State → List ℕ → Result ℕ Error → State → Type 0
  ReadsOwnSize old header (Ok own) new = OwnSizeRead old header own new
  ReadsOwnSize old header (Err e) new = OwnSizeReadError old e new

  -- the bytes after the first eight were consumed, and complete the attribute
  pub record AttrRestRead (old : State) (header : List ℕ) (own : ℕ) (a : PerfEventAttr) (new : State) : Type 0 where
    pub rest : List ℕ
    pub exact_len : 8 + length rest ≡ own
    pub consumes : Consumed old rest new
    pub matches : a ≡ attr_of_size own (header ++ rest)

  -- the effect of reading the bytes after the first eight
  abbrev pub ReadsAttrRest : State → List ℕ → ℕ → Result PerfEventAttr Error → State → Type 0
  ReadsAttrRest old header own (Ok a) new = AttrRestRead old header own a new
  ReadsAttrRest old header own (Err e) new = ReadExactError old (own - 8) e new
