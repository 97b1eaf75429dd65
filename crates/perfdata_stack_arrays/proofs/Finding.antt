-- Frames as they are looked up.
use Rattle.std.proofs.Common.{◌≡◌, ◌∙◌, ap, refl, sym, arith, ℕ, ℤ, ◌+◌, ◌^◌, ◌<◌, List, [], ◌∷◌, ◌++◌, length, Bool, true, false, Option, Some}
use Rattle.std.specs.Prelude.{slice_get}
use mir.Val.{bool_byte}
use Rattle.std.specs.Option.{option_map}
use Rattle.perfdata_arrays.specs.Overwrites.{with_entries_at}
use Rattle.perfdata_spaces.specs.Effects.{Applied}
use Rattle.perfdata_spaces.specs.Mappings.{MappingValue}
use Rattle.perfdata_stacks.specs.Frames.{lookup_address}
use Rattle.perfdata_stacks.specs.declared.frames.SampleFrame.{SampleFrame}
use Rattle.perfdata_arrays.proofs.Arrays.{no_entries}
use Rattle.perfdata_arrays.specs.Tasks.{one_if_true}
use Rattle.perfdata_stack_arrays.proofs.ArrayWrites.{count_append, more_at, related_push}
use Rattle.perfdata_stack_arrays.specs.Arrays.{saturated}
use Rattle.perfdata_stack_arrays.specs.Frames.{IsFrameOf, frame_entry_at, place_of}
use Rattle.perfdata_stack_arrays.specs.steps.Frames.{FindsFileOffset, WritesFrames, mapping_offset}
use Rattle.perfdata_stack_arrays.specs.declared.frame.FileOffset.{FileOffset}
use Rattle.perfdata_stack_arrays.specs.declared.frame.StackFrame.{StackFrame}

-- The place of the mapping with an index.
pub place_with : (mappings : List MappingValue) (index : Option ℕ) (i address : ℕ) (mapping : Option MappingValue) → index ≡ Some i → mapping ≡ slice_get mappings i
    → place_of (option_map (λ m. record { index = i; mapping = m }) mapping) address ≡ mapping_offset mappings index address
place_with mappings index i address mapping is found =
    ap (λ o. place_of (option_map (λ m. record { index = i; mapping = m }) o) address) found ∙ ap (λ o. mapping_offset mappings o address) (sym is)

-- The entry at the place that was found.
pub frame_found : (before : List Applied) (pid : ℤ) (frame : SampleFrame) (place : FileOffset) (entry : StackFrame) → FindsFileOffset before pid (lookup_address frame) frame.frame.context place → entry ≡ frame_entry_at frame place → IsFrameOf before pid frame entry
frame_found before pid frame place entry (found, is_found, place_is) entry_is = record {
  found = found;
  is_found = is_found;
  entry_is = entry_is ∙ ap (frame_entry_at frame) place_is;
}

pub writes_none : (before : List Applied) (pid : ℤ) (used : ℕ) (old : List StackFrame) → WritesFrames before pid [] used old 0 old
writes_none before pid used old = record { own = []; are = tt; count_is = refl; written = no_entries used old }

-- One more frame.
pub writes_more : (before : List Applied) (pid : ℤ) (frames : List SampleFrame) (frame : SampleFrame) (used : ℕ) (old now new : List StackFrame) (count index more : ℕ) (entry : StackFrame)
    → WritesFrames before pid frames used old count now → IsFrameOf before pid frame entry → length old < 2 ^ 63 → index ≡ saturated (used + count) → new ≡ with_entries_at index (entry ∷ []) now → more ≡ saturated (count + 1)
    → WritesFrames before pid (frames ++ frame ∷ []) used old more new
writes_more before pid frames frame used old now new count index more entry writes is short index_is written more_is =
    let own = writes.own in
    let counted = writes.count_is in
    let here : index ≡ saturated (used + length own) = omega (arith, index_is, counted) in
    record {
      own = own ++ entry ∷ [];
      are = related_push (IsFrameOf before pid) frames own frame entry writes.are is;
      count_is = more_is ∙ ap (λ n. saturated (n + 1)) counted ∙ count_append own (entry ∷ []);
      written = written ∙ ap (with_entries_at index (entry ∷ [])) writes.written ∙ more_at used index own (entry ∷ []) old here short;
    }

pub one_of_bool : (b : Bool) → bool_byte b ≡ one_if_true b
one_of_bool true = refl
one_of_bool false = refl
