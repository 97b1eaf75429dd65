-- A demangler of Rust's names before its first name.
use Rattle.std.specs.Prelude.{◌≡◌, false, []}
use Rattle.demangle_text.specs.declared.v0.RustNames.{RustNames}

-- it has no task, and nothing of a name
pub record IsUnused (names : RustNames) : Type 0 where
  pub tasks : names.tasks.items ≡ []
  pub characters : names.characters.items ≡ []
  pub string : names.string.items ≡ []
  pub steps : names.steps ≡ 0
  pub is_skipping : names.is_skipping ≡ false
  pub lifetimes : names.lifetimes ≡ 0
  pub is_open : names.is_open ≡ false
