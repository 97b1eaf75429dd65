-- The sample_id fields of Linux's `perf_event.h`, which say who wrote a record, when and where. They end the body of a record that isn't
-- a sample if the attribute has the flag sample_id_all: { u32 pid, tid; } && PERF_SAMPLE_TID, { u64 time; } && PERF_SAMPLE_TIME,
-- { u64 id; } && PERF_SAMPLE_ID, { u64 stream_id; } && PERF_SAMPLE_STREAM_ID, { u32 cpu, res; } && PERF_SAMPLE_CPU,
-- { u64 id; } && PERF_SAMPLE_IDENTIFIER. A word is named by its bit of the sample format: TID 1, TIME 2, ID 6, STREAM_ID 9, CPU 7,
-- IDENTIFIER 16.
use Rattle.std.specs.Prelude.{◌≡◌, ℕ, ◌≤◌, List, [], ◌∷◌, length}
use Rattle.perfdata_events.specs.SampleFormat.{TID, TIME, ID, CPU, STREAM_ID, IDENTIFIER}
use Rattle.perfdata_events.specs.Fields.{u32_at, u64_at}
use Rattle.perfdata_events.specs.Format.{Outcome, encodes, fails, IsTruncated}
use Rattle.perfdata_events.specs.Words.{words_size, after, word_after}
use Rattle.perfdata_events.specs.Task.{task_at}
use Rattle.perfdata_events.specs.declared.sample_id.SampleId.{SampleId}

module _ (number : ℕ → List ℕ → ℕ) where
  module _ (format : ℕ) where
    -- The fields, in the order of the bits 1, 2, 6, 9, 7, 16.
    pub record IsSampleId (xs : List ℕ) (value : SampleId) (rest : List ℕ) : Type 0 where
      pub enough : words_size format (TID ∷ TIME ∷ ID ∷ STREAM_ID ∷ CPU ∷ IDENTIFIER ∷ []) ≤ length xs
      pub task_is : value.task ≡ word_after format [] TID (task_at number) xs
      pub timestamp_is : value.timestamp ≡ word_after format (TID ∷ []) TIME (u64_at number 0) xs
      pub id_is : value.id ≡ word_after format (TID ∷ TIME ∷ []) ID (u64_at number 0) xs
      pub stream_id_is : value.stream_id ≡ word_after format (TID ∷ TIME ∷ ID ∷ []) STREAM_ID (u64_at number 0) xs
      pub cpu_is : value.cpu ≡ word_after format (TID ∷ TIME ∷ ID ∷ STREAM_ID ∷ []) CPU (u32_at number 0) xs
      pub identifier_is : value.identifier ≡ word_after format (TID ∷ TIME ∷ ID ∷ STREAM_ID ∷ CPU ∷ []) IDENTIFIER (u64_at number 0) xs
      pub rest_is : rest ≡ after format (TID ∷ TIME ∷ ID ∷ STREAM_ID ∷ CPU ∷ IDENTIFIER ∷ []) xs

    abbrev pub sample_id : List ℕ → Outcome SampleId → Type 0
    sample_id xs (encodes value rest) = IsSampleId xs value rest
    sample_id xs (fails kind) = IsTruncated (words_size format (TID ∷ TIME ∷ ID ∷ STREAM_ID ∷ CPU ∷ IDENTIFIER ∷ [])) xs kind
