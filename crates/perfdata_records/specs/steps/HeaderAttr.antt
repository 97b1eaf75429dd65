-- Steps of private functions: the body of a record with an event's attribute: the attribute, and whole ids of eight bytes each to the end of the body.
use Rattle.std.specs.Prelude.{◌≡◌, ◌≢◌, ℕ, ◌-◌, ◌%◌, ◌≤◌, ◌⊎◌, List, length}
use Rattle.std.specs.IoError.{error_kind}
use Rattle.std.specs.declared.io.Error.{Error}
use Rattle.std.specs.declared.io.ErrorKind.TheVariants.{UnexpectedEof, OutOfMemory}

-- The bytes after the attribute have this error: the last id is truncated, or memory ran out for the ids.
abbrev pub IsIdsError : List ℕ → Error → Type 0
IsIdsError bytes e =
    ((error_kind e ≡ UnexpectedEof) × (length bytes % 8 ≢ 0))
    ⊎ ((error_kind e ≡ OutOfMemory) × (length bytes % 8 ≡ 0) × (8 ≤ length bytes))
