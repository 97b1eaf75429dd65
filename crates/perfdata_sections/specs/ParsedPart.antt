-- Parts of a file at the source's position, and what reading them does.
use Rattle.std.specs.Prelude.{◌≡◌, ⊤, ℕ, List, length, Result, Ok, Err, Vec}
use Rattle.std.specs.declared.alloc.Global.{Global}
use Rattle.std.specs.declared.io.Error.{Error}
use Rattle.perfdata_sources.specs.Source.{State, Consumed, EndedOrFailed, PartlyRead, ReadExactError}
use Rattle.perfdata_sources.specs.declared.source.append.AppendError.{AppendError}
use Rattle.perfdata_sources.specs.declared.source.append.AppendError.TheVariants.{Memory, Source}
use Rattle.perfdata_sections.specs.declared.error.Error.{Error as FileError}
use Rattle.perfdata_sections.specs.declared.error.Error.TheVariants.{IoError, Memory as OfMemory}

-- `Is xs d`: the bytes `xs` are exactly the part with the value `d`.
module _ {D : Type 0} (Is : List ℕ → D → Type 0) where
  -- The part is read.
  pub record PartRead (old : State) (d : D) (new : State) : Type 0 where
    pub bytes : List ℕ
    pub consumes : Consumed old bytes new
    pub matches : Is bytes d

-- `IsTruncated xs`: the bytes `xs` are a truncated part.
module _ (IsTruncated : List ℕ → Type 0) where
  -- Only these bytes of the part are consumed, for which `IsTruncated` holds.
  pub record PartPartlyRead (old new : State) : Type 0 where
    pub bytes : List ℕ
    pub is_truncated : IsTruncated bytes
    pub consumes : Consumed old bytes new

  -- The part is truncated: the source ended or paused, which is an unexpected end of file, or it failed.
  pub record PartReadError (old : State) (e : Error) (new : State) : Type 0 where
    pub bytes : List ℕ
    pub is_truncated : IsTruncated bytes
    pub consumes : Consumed old bytes new
    pub cause : EndedOrFailed e old new

-- A part of `size` bytes whose value is `of` these bytes.
module _ {D : Type 0} (size : ℕ) (of : List ℕ → D) where
  -- `xs` is exactly the part with the value `d`.
  abbrev pub IsPart : List ℕ → D → Type 0
  IsPart xs d = (length xs ≡ size) × (d ≡ of xs)

  -- What reading the part does.
  abbrev pub ParsesPart : State → Result D Error → State → Type 0
  ParsesPart old (Ok d) new = PartRead IsPart old d new
  ParsesPart old (Err e) new = ReadExactError old size e new

-- What reading `count` bytes into a new `Vec` does. If memory runs out, fewer than `count` bytes are consumed.
abbrev pub ReadsBytes : State → ℕ → Result (Vec ℕ Global) AppendError → State → Type 0
ReadsBytes old count (Ok v) new = (length v.items ≡ count) × Consumed old v.items new
ReadsBytes old count (Err Memory) new = PartlyRead old count new
ReadsBytes old count (Err (Source e)) new = ReadExactError old count e new

-- No empty read is counted if memory runs out.
abbrev pub NoPauseIfOutOfMemory : {A : Type 0} → State → Result A AppendError → State → Type 0
NoPauseIfOutOfMemory old (Ok _) new = ⊤
NoPauseIfOutOfMemory old (Err e) new = e ≡ Memory → new.pauses ≡ old.pauses

-- The file error for an `AppendError`.
abbrev pub file_error_of : AppendError → FileError
file_error_of Memory = OfMemory
file_error_of (Source e) = IoError e
