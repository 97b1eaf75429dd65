-- Section FILE has records, or a first error, in at most one way.
use Rattle.std.proofs.Common.{◌≡◌, ℕ, ◌⊎◌, List, map, Result, Vec, IfOk, IfErr, IsErrAnd, MatchResult}
use Rattle.std.specs.declared.alloc.Global.{Global}
use Rattle.std.specs.declared.io.ErrorKind.{ErrorKind}
use Rattle.perfdata_sources.specs.Endian.{number_in}
use Rattle.perfdata_sources.specs.declared.endian.Endianness.{Endianness}
use Rattle.perfdata_simpleperf.specs.FileRecord.{FileValue, record_value}
use Rattle.perfdata_simpleperf.specs.FileSection.{IsFileSectionOf, FileSectionError, ReportsFileSectionError, ReportsV1Error}
use Rattle.perfdata_simpleperf.specs.FileV1.{IsV1, V1Error}
use Rattle.perfdata_simpleperf.specs.Chunks.{ChunkError}
use Rattle.perfdata_sections.specs.declared.error.Error.{Error}
use Rattle.perfdata_sections.specs.declared.error.Error.TheVariants.{Memory}
use Rattle.perfdata_simpleperf.specs.declared.simpleperf.file_record.SimpleperfFileRecord.{SimpleperfFileRecord}
use Rattle.perfdata_simpleperf.proofs.ChunkLemmas.{UniqueChunk, only_chunks, first_chunk_error}
use Rattle.perfdata_simpleperf.proofs.V1Uniqueness.{v1_same, v1_not_both, v1_error}

module _ (endian : Endianness) where
  records_are_unique : UniqueChunk endian (IsV1 (number_in endian)) (V1Error (number_in endian))
  records_are_unique = record { value = v1_same (number_in endian); not_both = v1_not_both (number_in endian); error = v1_error (number_in endian) }

  pub only_records : (bs : List ℕ) (r : Result (Vec SimpleperfFileRecord Global) Error) → IfOk r (λ v. IsFileSectionOf endian bs (map record_value v.items))
      → IfErr r (λ e. (e ≡ Memory) ⊎ ((f : ChunkError ErrorKind) × FileSectionError endian bs f × ReportsFileSectionError f e)) → (vs : List FileValue) → IsFileSectionOf endian bs vs
      → MatchResult r (λ v. map record_value v.items ≡ vs) (λ e. e ≡ Memory)
  only_records bs r on_ok on_error vs p = only_chunks endian (IsV1 (number_in endian)) (V1Error (number_in endian)) records_are_unique ReportsV1Error record_value bs r on_ok on_error vs p

  pub first_record : (bs : List ℕ) (r : Result (Vec SimpleperfFileRecord Global) Error) → IfOk r (λ v. IsFileSectionOf endian bs (map record_value v.items))
      → IfErr r (λ e. (e ≡ Memory) ⊎ ((f : ChunkError ErrorKind) × FileSectionError endian bs f × ReportsFileSectionError f e)) → (f : ChunkError ErrorKind) → FileSectionError endian bs f
      → IsErrAnd r (λ e. (e ≡ Memory) ⊎ ReportsFileSectionError f e)
  first_record bs r on_ok on_error f p = first_chunk_error endian (IsV1 (number_in endian)) (V1Error (number_in endian)) records_are_unique ReportsV1Error record_value bs r on_ok on_error f p
