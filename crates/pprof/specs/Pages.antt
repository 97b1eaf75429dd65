-- Pages that show a profile.
use Rattle.std.specs.Prelude.{◌≡◌, ℕ, List, ◌++◌}
use Rattle.base64.specs.Engines.{standard}
use Rattle.base64.specs.GeneralPurpose.{encode_of}

-- A page contains bytes in base64.
pub record Embeds (contents page : List ℕ) : Type 0 where
  pub start : List ℕ
  pub end : List ℕ
  pub is : page ≡ start ++ encode_of standard contents ++ end
