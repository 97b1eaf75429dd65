-- Steps of private functions: the header of a perf.data file as its bytes describe it (`perf_file_header`).
use Rattle.std.specs.Prelude.{◌≡◌, ℕ, ◌+◌, ◌-◌, ◌^◌, ◌<◌, ◌≤◌, ◌⊎◌, pos, Result, Ok, Err}
use Rattle.std.specs.IoError.{error_kind}
use Rattle.std.specs.declared.io.Error.{Error}
use Rattle.std.specs.declared.io.ErrorKind.TheVariants.{InvalidInput}
use Rattle.std.specs.declared.io.SeekFrom.TheVariants.{Current}
use Rattle.perfdata_sources.specs.Source.{State, advance_by, SizeFitsI64, AfterSeek, SourceFailed, SeekOutOfRange}

-- after the first 104 bytes of a header of this size, the later bytes were skipped
pub record ExtraSkipped (old : State) (size : ℕ) (new : State) : Type 0 where
  pub extra_fits : size < 104 + 2 ^ 63
  pub after_seek : AfterSeek old new
  pub position : new.position ≡ advance_by (size - 104) old.position

-- skipping them failed: they are 2^63 or more, and the source is unchanged; or the source failed or the target is out of range
pub record ExtraSeekError (old : State) (size : ℕ) (e : Error) (new : State) : Type 0 where
  pub has_extra : 104 < size
  pub after_seek : AfterSeek old new
  pub cause : ((104 + 2 ^ 63 ≤ size) × (error_kind e ≡ InvalidInput) × (new ≡ old))
      ⊎ ((size < 104 + 2 ^ 63) × (SourceFailed old new ⊎ (SizeFitsI64 old × SeekOutOfRange old (Current (pos (size - 104))))))

-- the effect of skipping the bytes of a header after the first 104
abbrev pub SkipsExtra : {A : Type 0} → State → ℕ → Result A Error → State → Type 0
SkipsExtra old size (Ok _) new = ExtraSkipped old size new
SkipsExtra old size (Err e) new = ExtraSeekError old size e new
