-- Steps of private functions: what the locations in mappings have.
use Rattle.std.specs.Prelude.{◌≡◌, ℕ, ◌+◌, ◌-◌, ◌<◌, false, true, List, length, slice_index_or}
use Rattle.std.specs.List.{list_any}
use Rattle.pprof.specs.Tables.{Place, any_in, has_filename, has_inlined, has_number}
use Rattle.pprof.specs.declared.builder.FunctionNames.{FunctionNames}
use Rattle.pprof.specs.declared.builder.MappedFile.{MappedFile}
use Rattle.pprof.specs.declared.builder.SourceFlags.{SourceFlags}
use Rattle.pprof.specs.declared.profile.Mapping.{Mapping}

abbrev pub no_flags : SourceFlags
no_flags = record { has_filenames = false; has_line_numbers = false; has_inline_frames = false }

-- What the locations in the mapping with an id have.
abbrev pub flags_of : List FunctionNames → List Place → ℕ → SourceFlags
flags_of functions places id = record {
  has_filenames = any_in (list_any (has_filename functions)) id places;
  has_line_numbers = any_in (list_any has_number) id places;
  has_inline_frames = any_in has_inlined id places;
}

-- Flags are those of mappings by their index.
abbrev pub AreFlags : List FunctionNames → List Place → List SourceFlags → Type 0
AreFlags functions places flags = (index : ℕ) → index < length flags → slice_index_or flags index no_flags ≡ flags_of functions places (index + 1)

-- The message of a mapping with these flags.
abbrev pub row_with : SourceFlags → ℕ → MappedFile → Mapping
row_with flags id file = record {
  id = id;
  memory_start = file.memory_start;
  memory_limit = file.memory_limit;
  file_offset = file.file_offset;
  filename = file.filename;
  build_id = file.build_id;
  has_functions = true;
  has_filenames = flags.has_filenames;
  has_line_numbers = flags.has_line_numbers;
  has_inline_frames = flags.has_inline_frames;
}

abbrev pub flagged_row : List SourceFlags → ℕ → MappedFile → Mapping
flagged_row flags id file = row_with (slice_index_or flags (id - 1) no_flags) id file
