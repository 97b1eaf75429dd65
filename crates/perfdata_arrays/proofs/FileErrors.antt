-- An error in opening a file in memory is an error of its bytes.
use Rattle.std.proofs.Common.{◌≢◌, ℕ, List, refl, inl, inr}
use Rattle.std.specs.Prelude.{IsTrue}
use Rattle.perfdata_sources.specs.Source.{State, at_start, memory_source_at}
use Rattle.perfdata_sections.specs.declared.error.Error.{Error}
use Rattle.perfdata_sections.specs.declared.error.Error.TheVariants.{Memory}
use Rattle.linux_perf_data.specs.FileOpening.{IsFileError, SourceErrorInOpening}
use Rattle.linux_perf_data.specs.OpenedFile.{FileParseError}

-- an infallible source has no source error in an opening
steady_source_owes_nothing : (old final_state : State) (e : Error) → IsTrue old.steady → SourceErrorInOpening old e final_state → ⊥
steady_source_owes_nothing old final_state e steady (inl (is, failed)) = failed.not_steady steady
steady_source_owes_nothing old final_state e steady (inr (inl (is, paused))) = paused.not_steady steady
steady_source_owes_nothing old final_state e steady (inr (inr (is, inl failed))) = failed.not_steady steady
steady_source_owes_nothing old final_state e steady (inr (inr (is, inr paused))) = paused.not_steady steady

module _ (bytes : List ℕ) where
  -- an error in opening a file is an error of its bytes
  pub file_open_error : (e : Error) → FileParseError (memory_source_at bytes 0) e → e ≢ Memory → IsFileError (at_start bytes) e
  file_open_error e error other = elim (error.cause other) [
    | inl stops ↦ stops
    | inr owes ↦ absurd (steady_source_owes_nothing (memory_source_at bytes 0) error.final_state e refl owes)
  ]
