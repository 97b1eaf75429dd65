-- The entries of mappings, and the text with the names of threads and the paths of mappings.
use Rattle.std.specs.Prelude.{ℕ, ◌+◌, List, [], ◌∷◌, ◌++◌, length, map, min, replicate}
use Rattle.std.specs.List.{flat_map}
use Rattle.linux_perf_data.specs.RecordEntries.{with_prefix}
use Rattle.perfdata_spaces.specs.Effects.{Applied, NameEffect, Names, Inherits, KeepsAll, added, name_effect, space_effect}
use Rattle.perfdata_spaces.specs.Mappings.{MappingValue}
use Rattle.perfdata_spaces.specs.declared.mapping.MappingKind.{MappingKind}
use Rattle.perfdata_spaces.specs.declared.mapping.MappingKind.TheVariants.{Code, Data, KernelSymbol}
use Rattle.perfdata_stack_arrays.specs.Arrays.{saturated}
use Rattle.perfdata_stack_arrays.specs.declared.mapping.StackMapping.{StackMapping}

-- The number of a kind.
abbrev pub kind_code : MappingKind → ℕ
kind_code Code = 0
kind_code Data = 1
kind_code KernelSymbol = 2

-- The bytes of a build id, and zeros after them: 20 bytes.
abbrev pub padded_build_id : List ℕ → List ℕ
padded_build_id id = with_prefix id (replicate 20 0)

-- The entry of a mapping whose path is at this offset in the text.
abbrev pub mapping_entry_of : ℕ → MappingValue → StackMapping
mapping_entry_of path_offset m = record {
  start = m.start;
  length = m.byte_length;
  page_offset = m.page_offset;
  path_offset = path_offset;
  path_size = length m.path;
  pid = m.pid;
  kind = kind_code m.kind;
  protection = m.protection;
  flags = m.flags;
  build_id = padded_build_id m.build_id;
  build_id_size = min 20 (length m.build_id);
}

-- The name that an effect gives to a thread.
abbrev pub name_in : NameEffect → List ℕ
name_in (Names tid bytes) = bytes
name_in (Inherits tid parent) = []
name_in KeepsAll = []

-- The path of the mapping that a record adds.
abbrev pub path_of : Applied → List ℕ
path_of applied = flat_map (λ (m : MappingValue). m.path) (added (space_effect applied))

-- What a record adds to the text: the name of a thread, or the path of a mapping.
abbrev pub text_of : Applied → List ℕ
text_of applied = name_in (name_effect applied) ++ path_of applied

-- The text of records: all names and paths, in order.
abbrev pub text_in : List Applied → List ℕ
text_in records = flat_map text_of records

-- The entry of the mapping that a record adds, if it adds one. The text before the record has `size` bytes.
abbrev pub mappings_of : ℕ → Applied → List StackMapping
mappings_of size applied = map (mapping_entry_of (saturated (size + length (name_in (name_effect applied))))) (added (space_effect applied))

abbrev pub mappings_from : ℕ → List Applied → List StackMapping
mappings_from size [] = []
mappings_from size (applied ∷ records) = mappings_of size applied ++ mappings_from (size + length (text_of applied)) records

-- The entries of all mappings that records add, in order.
abbrev pub mappings_in : List Applied → List StackMapping
mappings_in records = mappings_from 0 records
