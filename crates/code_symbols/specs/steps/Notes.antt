-- Steps of private functions: notes.
use Rattle.std.specs.Prelude.{◌≡◌, ℕ, ◌<◌, List}
use Rattle.code_symbols.specs.Notes.{IsComplete, IsOtherNote, after_notes, description_end, description_start, owner_end}
use Rattle.code_symbols.specs.declared.elf.input.Encoding.{Encoding}
use Rattle.code_symbols.specs.declared.elf.notes.NoteLayout.{NoteLayout}

-- the note at the start of the bytes is complete and has these ends
pub record IsLayout (e : Encoding) (alignment : ℕ) (bytes : List ℕ) (layout : NoteLayout) : Type 0 where
  pub complete : IsComplete e alignment bytes
  pub owner_end_is : layout.owner_end ≡ owner_end e bytes
  pub description_is : layout.description ≡ description_start e alignment bytes
  pub description_end_is : layout.description_end ≡ description_end e alignment bytes

-- these are the bytes after some notes, which are complete ones without the build id
pub record FollowOthers (e : Encoding) (alignment : ℕ) (bytes rest : List ℕ) : Type 0 where
  pub count : ℕ
  pub before : (k : ℕ) → k < count → IsOtherNote e alignment (after_notes e alignment bytes k)
  pub is : rest ≡ after_notes e alignment bytes count
