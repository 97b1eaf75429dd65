-- Skipping bytes of a source by seeks, if it has that many.
use Rattle.std.specs.Prelude.{◌≡◌, ℕ, ◌<◌, IsTrue, IfSome, List, length, Bool, true, false, Result, Ok, Err}
use Rattle.std.specs.declared.io.Error.{Error}
use Rattle.perfdata_sources.specs.Source.{State, prepend, SourceFailed}
use Rattle.perfdata_jit.specs.BufferedReader.{SameCounts, SameSource}

-- the next `count` bytes are skipped
pub record SkippedBySeek (old : State) (count : ℕ) (new : State) : Type 0 where
  pub bytes : List ℕ
  pub exact_len : length bytes ≡ count
  pub matches : old.bytes ≡ prepend bytes new.bytes
  pub same_counts : SameCounts old new
  pub same_source : SameSource old new

-- the source's position is unchanged; a steady source has fewer than `count` bytes
pub record NotSkippedBySeek (old : State) (count : ℕ) (new : State) : Type 0 where
  pub matches : new.bytes ≡ old.bytes
  pub too_few : 0 < count → IsTrue old.steady → IfSome old.bytes (λ xs. length xs < count)
  pub same_counts : SameCounts old new
  pub same_source : SameSource old new

-- a seek failed, and the position of the source is unspecified
pub record SkipBySeekError (old new : State) : Type 0 where
  pub source_failed : SourceFailed old new
  pub pauses : new.pauses ≡ old.pauses
  pub same_source : SameSource old new

-- what skipping `count` bytes does
abbrev pub SkipsBySeek : State → ℕ → Result Bool Error → State → Type 0
SkipsBySeek old count (Ok true) new = SkippedBySeek old count new
SkipsBySeek old count (Ok false) new = NotSkippedBySeek old count new
SkipsBySeek old count (Err e) new = SkipBySeekError old new
