-- What is known of an address.
use Rattle.std.specs.Prelude.{◌≡◌, None}
use Rattle.code_dwarf.specs.declared.frames.SourceFrames.{SourceFrames}

-- No line of a line program is known.
abbrev pub HasNoRow : SourceFrames → Type 0
HasNoRow frames = frames.row ≡ None
