-- The header of a perf.data pipe as its bytes describe it (`perf_pipe_file_header`).
use Rattle.std.specs.Prelude.{◌≡◌, ℕ, ◌-◌, ◌<◌, ◌≤◌, ◌+◌, ◌⊎◌, IsTrue, Bool, true, false, List, ◌++◌, length, take, drop, Result, Ok, Err}
use Rattle.std.specs.declared.io.Error.{Error}
use Rattle.perfdata_sources.specs.Source.{State, Consumed, EndedOrPaused, SourceFailed, ReadExactError}
use Rattle.perfdata_sources.specs.Endian.{number_in}
use Rattle.perfdata_base.specs.Header.{endian_by_first_byte}
use Rattle.perfdata_base.specs.declared.header.pipe.PerfPipeHeader.{PerfPipeHeader}

-- the header in 16 bytes
abbrev pub pipe_header_of : List ℕ → PerfPipeHeader
pipe_header_of xs = record { magic = take 8 xs; size = number_in (endian_by_first_byte xs) 8 (drop 8 xs) }

-- Sixteen bytes with this header were consumed, and then its extra bytes. These are fewer than its size requires only if the
-- source ended or paused.
pub record PipeHeaderParsed (old : State) (h : PerfPipeHeader) (new : State) : Type 0 where
  pub bytes : List ℕ
  pub exact_len : length bytes ≡ 16
  pub matches : h ≡ pipe_header_of bytes
  pub extra : List ℕ
  pub within : length extra ≤ h.size - 16
  pub consumes : Consumed old (bytes ++ extra) new
  pub if_incomplete : length extra < h.size - 16 → EndedOrPaused old new

-- sixteen bytes were consumed, and the source failed in the extra bytes after them
pub record ExtraReadError (old : State) (new : State) : Type 0 where
  pub bytes : List ℕ
  pub exact_len : length bytes ≡ 16
  pub consumed_bytes : List ℕ
  pub too_few : length consumed_bytes < (pipe_header_of bytes).size - 16
  pub consumes : Consumed old (bytes ++ consumed_bytes) new
  pub source_failed : SourceFailed old new

-- the effect of parsing a pipe header on the source; it fails if fewer than 16 bytes are read or the source fails
abbrev pub ParsesPipeHeader : State → Result PerfPipeHeader Error → State → Type 0
ParsesPipeHeader old (Ok h) new = PipeHeaderParsed old h new
ParsesPipeHeader old (Err e) new = ReadExactError old 16 e new ⊎ ExtraReadError old new

-- all extra bytes of a header were read, or fewer because the source ended or paused
abbrev pub IsExtraComplete : ℕ → State → List ℕ → Bool → State → Type 0
IsExtraComplete count old extra true new = length extra ≡ count
IsExtraComplete count old extra false new = (length extra < count) × EndedOrPaused old new

-- sixteen bytes with this header were consumed, and then all or some of its extra bytes
pub record PipeHeaderWithExtraParsed (old : State) (h : PerfPipeHeader) (whole : Bool) (new : State) : Type 0 where
  pub bytes : List ℕ
  pub exact_len : length bytes ≡ 16
  pub matches : h ≡ pipe_header_of bytes
  pub extra : List ℕ
  pub consumes : Consumed old (bytes ++ extra) new
  pub extra_complete : IsExtraComplete (h.size - 16) old extra whole new

-- the effect of parsing a pipe header, with a flag that is true if all of its bytes were read
abbrev pub ParsesPipeHeaderWithExtra : State → Result (PerfPipeHeader × Bool) Error → State → Type 0
ParsesPipeHeaderWithExtra old (Ok r) new = PipeHeaderWithExtraParsed old r.0 r.1 new
ParsesPipeHeaderWithExtra old (Err e) new = ReadExactError old 16 e new ⊎ ExtraReadError old new

-- no read was empty if all bytes were read; otherwise one at most
abbrev pub PausesOnlyInExtra : State → Result (PerfPipeHeader × Bool) Error → State → Type 0
PausesOnlyInExtra old (Ok r) new = (IsTrue r.1 → new.pauses ≡ old.pauses) × (new.pauses ≤ old.pauses + 1)
PausesOnlyInExtra old (Err e) new = new.pauses ≤ old.pauses + 1
