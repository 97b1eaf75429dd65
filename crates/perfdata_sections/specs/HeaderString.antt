-- Strings in a file: a length of four bytes, and that many bytes. The text is the bytes before the first NUL.
use Rattle.std.specs.Prelude.{◌≡◌, ℕ, ◌+◌, ◌<◌, ◌≤◌, ◌==◌, ◌⊎◌, List, length, drop, if◌then◌else◌, Option, None, Some, Result, Ok, Err, String, string_bytes}
use Rattle.std.specs.IoError.{error_kind}
use Rattle.std.specs.List.{before_first}
use Rattle.std.specs.Option.{option_map}
use Rattle.std.specs.Str.{is_utf8}
use Rattle.std.specs.declared.alloc.Global.{Global}
use Rattle.std.specs.declared.io.Error.{Error}
use Rattle.std.specs.declared.io.ErrorKind.TheVariants.{OutOfMemory}
use Rattle.perfdata_sources.specs.Source.{State}
use Rattle.perfdata_sources.specs.declared.source.append.AppendError.{AppendError}
use Rattle.perfdata_sources.specs.declared.source.append.AppendError.TheVariants.{Memory, Source}
use Rattle.perfdata_sections.specs.ParsedPart.{PartRead, PartPartlyRead, PartReadError}

-- The bytes before the first NUL, or all bytes if there is none.
abbrev pub before_nul : List ℕ → List ℕ
before_nul xs = before_first (λ b. b == 0) xs

-- The bytes as a text, or `None` if they aren't UTF-8.
abbrev pub utf8_text : List ℕ → Option (List ℕ)
utf8_text xs = if is_utf8 xs then Some xs else None

module _ (number : ℕ → List ℕ → ℕ) where
  -- `xs` is exactly one string: the length in four bytes, and that many bytes.
  abbrev pub IsHeaderString : List ℕ → Type 0
  IsHeaderString xs = (4 ≤ length xs) × (length xs ≡ 4 + number 4 xs)

  -- `xs` is truncated: it ends in the length, or before the end of the string.
  abbrev pub IsTruncatedString : List ℕ → Type 0
  IsTruncatedString xs = 4 ≤ length xs → length xs < 4 + number 4 xs

  -- `xs` is truncated after the length: it ends before the end of the string's bytes.
  abbrev pub IsTruncatedText : List ℕ → Type 0
  IsTruncatedText xs = (4 ≤ length xs) × (length xs < 4 + number 4 xs)

  -- `xs` is exactly one string with this text, which is `None` if it isn't UTF-8.
  abbrev pub IsHeaderStringOf : List ℕ → Option (List ℕ) → Type 0
  IsHeaderStringOf xs text = IsHeaderString xs × (text ≡ utf8_text (before_nul (drop 4 xs)))

  -- What reading a string does. `Memory` reports an allocation failure, which follows the length.
  abbrev pub ReadsHeaderString : State → Result (Option (String Global)) AppendError → State → Type 0
  ReadsHeaderString old (Ok r) new = PartRead IsHeaderStringOf old (option_map string_bytes r) new
  ReadsHeaderString old (Err Memory) new = PartPartlyRead IsTruncatedText old new
  ReadsHeaderString old (Err (Source e)) new = PartReadError IsTruncatedString old e new

  -- Like `ReadsHeaderString`, but an allocation failure is an I/O error of kind `OutOfMemory`.
  abbrev pub ParsesHeaderString : State → Result (Option (String Global)) Error → State → Type 0
  ParsesHeaderString old (Ok r) new = PartRead IsHeaderStringOf old (option_map string_bytes r) new
  ParsesHeaderString old (Err e) new = ((error_kind e ≡ OutOfMemory) × PartPartlyRead IsTruncatedText old new) ⊎ PartReadError IsTruncatedString old e new
