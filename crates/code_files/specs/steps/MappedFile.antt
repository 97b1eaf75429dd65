-- Steps of private functions: what a mapped file that is open says.
use Rattle.std.specs.Prelude.{ℕ, List}
use Rattle.code_files.specs.declared.mapped_file.MappedFile.{MappedFile}

-- The build id of the file, and the recorded one.
abbrev pub id_of : MappedFile → List ℕ
id_of file = file.build_id.items

abbrev pub recorded_id_of : MappedFile → List ℕ
recorded_id_of file = file.recorded.items
