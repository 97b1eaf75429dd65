-- Kinds of errors.
use Rattle.std.specs.Prelude.{◌≡◌}
use Rattle.std.specs.IoError.{error_kind}
use Rattle.std.specs.declared.io.ErrorKind.TheVariants.{UnexpectedEof, Unsupported, InvalidInput, InvalidData}
use Rattle.perfdata_sections.specs.declared.error.Error.{Error}
use Rattle.perfdata_sections.specs.declared.error.Error.TheVariants.{IoError}

-- The input is truncated, and no `ReadError` applies.
abbrev pub IsUnexpectedEof : Error → Type 0
IsUnexpectedEof (IoError e) = error_kind e ≡ UnexpectedEof
IsUnexpectedEof _ = ⊥

-- The input can't be handled.
abbrev pub IsUnsupported : Error → Type 0
IsUnsupported (IoError e) = error_kind e ≡ Unsupported
IsUnsupported _ = ⊥

-- The input is invalid.
abbrev pub IsInvalidData : Error → Type 0
IsInvalidData (IoError e) = error_kind e ≡ InvalidData
IsInvalidData _ = ⊥

-- The input requires something impossible.
abbrev pub IsInvalidInput : Error → Type 0
IsInvalidInput (IoError e) = error_kind e ≡ InvalidInput
IsInvalidInput _ = ⊥

-- An I/O error, such as the source's own.
abbrev pub IsIoError : Error → Type 0
IsIoError (IoError _) = Unit {0}
IsIoError _ = ⊥
