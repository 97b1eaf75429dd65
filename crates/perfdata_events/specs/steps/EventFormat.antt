-- Steps of private functions: what the bodies of one attribute's records hold, and where the fields of a record end.
use Rattle.std.specs.Prelude.{◌≡◌, ℕ, ◌≤◌, List, length, Result, Ok, Err}
use Rattle.std.specs.IoError.{error_kind}
use Rattle.std.specs.declared.io.Error.{Error}
use Rattle.perfdata_sources.specs.Raw.{bytes_of}
use Rattle.perfdata_sources.specs.declared.raw.RawData.{RawData}
use Rattle.perfdata_events.specs.Format.{IsTruncated}
use Rattle.perfdata_events.specs.declared.format.EventFormat.{EventFormat}
use Rattle.perfdata_events.specs.EventFormat.{trailing_size, before_trailing, trailing}

pub record SplitsAtTrailing (format : EventFormat) (body : List ℕ) (parts : RawData × RawData) : Type 0 where
  pub enough : trailing_size format ≤ length body
  pub fields_are : bytes_of parts.0 ≡ before_trailing format body
  pub trailing_is : bytes_of parts.1 ≡ trailing format body

abbrev pub SplitsTrailing : EventFormat → List ℕ → Result (RawData × RawData) Error → Type 0
SplitsTrailing format body (Ok parts) = SplitsAtTrailing format body parts
SplitsTrailing format body (Err e) = IsTruncated (trailing_size format) body (error_kind e)
