-- Section FILE2 has messages, or a first error, in at most one way.
use Rattle.std.proofs.Common.{◌≡◌, ℕ, ◌⊎◌, inl, inr, subst, List, map, Result, Ok, Err, Vec, IfOk, IfErr, IsErrAnd, MatchResult}
use Rattle.std.specs.declared.alloc.Global.{Global}
use Rattle.perfdata_sources.specs.declared.endian.Endianness.{Endianness}
use Rattle.perfdata_simpleperf.specs.File2.{IsFile2Of, File2Error, File2NeedsMemory, ReportsFile2Error, ReportsMessageError}
use Rattle.perfdata_simpleperf.specs.FileRecord.{FileValue, record_value}
use Rattle.perfdata_simpleperf.specs.Chunks.{ChunkError, truncated_length, exceeds_section, invalid_record}
use Rattle.perfdata_simpleperf.specs.Protobuf.Messages.{FileMessageError}
use Rattle.perfdata_simpleperf.specs.Protobuf.Values.{IsFileRecord}
use Rattle.perfdata_sections.specs.declared.error.Error.{Error}
use Rattle.perfdata_sections.specs.declared.error.Error.TheVariants.{Memory}
use Rattle.perfdata_sections.specs.declared.decode_error.DecodeError.{DecodeError}
use Rattle.perfdata_simpleperf.specs.declared.simpleperf.file_record.SimpleperfFileRecord.{SimpleperfFileRecord}
use Rattle.perfdata_simpleperf.proofs.ChunkLemmas.{UniqueChunk, only_chunks, first_chunk_error}
use Rattle.perfdata_simpleperf.proofs.Decoding.MessageUniqueness.{file_not_both, file_error}
use Rattle.perfdata_simpleperf.proofs.Decoding.ValueUniqueness.{record_same}

messages_are_unique : (endian : Endianness) → UniqueChunk endian IsFileRecord FileMessageError
messages_are_unique endian = record {
  value = record_same;
  not_both = λ bs d f r w. file_not_both bs r.0 f r.1 w;
  error = file_error;
}

pub only_messages : (endian : Endianness) (bs : List ℕ) (r : Result (Vec SimpleperfFileRecord Global) Error) → IfOk r (λ v. IsFile2Of endian bs (map record_value v.items)) → IfErr r (λ e. (e ≡ Memory) ⊎ ((f : ChunkError DecodeError) × File2Error endian bs f × ReportsFile2Error f e)) → (vs : List FileValue) → IsFile2Of endian bs vs → MatchResult r (λ v. map record_value v.items ≡ vs) (λ e. e ≡ Memory)
only_messages endian bs r on_ok on_error vs p = only_chunks endian IsFileRecord FileMessageError (messages_are_unique endian) ReportsMessageError record_value bs r on_ok on_error vs p

pub first_message : (endian : Endianness) (bs : List ℕ) (r : Result (Vec SimpleperfFileRecord Global) Error) → IfOk r (λ v. IsFile2Of endian bs (map record_value v.items)) → IfErr r (λ e. (e ≡ Memory) ⊎ ((f : ChunkError DecodeError) × File2Error endian bs f × ReportsFile2Error f e)) → (f : ChunkError DecodeError) → File2Error endian bs f → IsErrAnd r (λ e. (e ≡ Memory) ⊎ ReportsFile2Error f e)
first_message endian bs r on_ok on_error f p = first_chunk_error endian IsFileRecord FileMessageError (messages_are_unique endian) ReportsMessageError record_value bs r on_ok on_error f p

-- no error of the section is reported as an allocation failure
reports_no_memory : (f : ChunkError DecodeError) → ReportsFile2Error f Memory → ⊥
reports_no_memory truncated_length reports = reports
reports_no_memory exceeds_section reports = absurd cc
reports_no_memory (invalid_record f) reports = absurd cc

-- an allocation failure has its cause
pub file2_memory : {A : Type 0} (endian : Endianness) (bs : List ℕ) (r : Result A Error) → IfErr r (λ e. ((e ≡ Memory) × File2NeedsMemory endian bs) ⊎ ((f : ChunkError DecodeError) × File2Error endian bs f × ReportsFile2Error f e)) → IfErr r (λ e. e ≡ Memory → File2NeedsMemory endian bs)
file2_memory endian bs (Ok a) error = tt
file2_memory endian bs (Err e) error = λ memory. elim error [
  | inl cause ↦ cause.1
  | inr other ↦ absurd (reports_no_memory other.0 (subst (ReportsFile2Error other.0) memory other.2))
]
