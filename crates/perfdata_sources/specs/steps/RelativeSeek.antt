-- Steps of private functions: seeks of a reader whose position is known.
use Rattle.std.specs.Prelude.{ℕ, ℤ, List, Option}
use Rattle.std.specs.Io.Seek.{IsAtOffset, IsSeekTarget}
use Rattle.std.specs.declared.io.SeekFrom.{SeekFrom}

-- the offset from the current position to the target of a seek that isn't from the end
pub record IsRelativeSeek (here : ℕ) (to : SeekFrom) (offset : ℤ) (there : ℕ) : Type 0 where
  pub lands_at : IsAtOffset here offset there
  pub target : (bytes : Option (List ℕ)) → IsSeekTarget here bytes to there
