-- The results for a feature's bytes.
use Rattle.std.specs.Prelude.{◌≡◌, ℕ, List, length, Option, None, Some}
use Rattle.linux_perf_data.specs.declared.perf_file.PerfFile.{PerfFile}
use Rattle.linux_perf_data.specs.PerfFile.{feature_data_in_file}
use Rattle.linux_perf_data.specs.RecordEntries.{with_prefix}
use Rattle.perfdata_arrays.specs.Metadata.{ReportsFile, ReportsPipe}
use Rattle.perfdata_arrays.specs.declared.features.FeatureResult.{FeatureResult}
use Rattle.perfdata_arrays.specs.declared.status.Status.{Status}

-- The bytes of a feature are written over the start of a buffer, up to its capacity, and their number is reported. If there is no
-- feature, the buffer is unchanged.
abbrev pub CopiesFeature : Option (List ℕ) → List ℕ → FeatureResult → List ℕ → Type 0
CopiesFeature None old outcome new = (outcome.is_present ≡ 0) × (outcome.size ≡ 0) × (new ≡ old)
CopiesFeature (Some bytes) old outcome new = (outcome.is_present ≡ 1) × (outcome.size ≡ length bytes) × (new ≡ with_prefix bytes old)

-- the bytes of a feature, and the status of the recording
abbrev pub CopiesFeatureOf : ℕ → List ℕ → FeatureResult → List ℕ → PerfFile → Status → Type 0
CopiesFeatureOf n old outcome new file status = (outcome.status ≡ status) × CopiesFeature (feature_data_in_file file n) old outcome new

abbrev pub CopiesNothing : List ℕ → FeatureResult → List ℕ → Status → Type 0
CopiesNothing old outcome new status = (outcome.status ≡ status) × CopiesFeature None old outcome new

-- The result for a feature of a file: the bytes of its section. If the file doesn't open, nothing is written.
abbrev pub ReadsFileFeature : List ℕ → ℕ → List ℕ → FeatureResult → List ℕ → Type 0
ReadsFileFeature bytes n old outcome new = ReportsFile bytes (CopiesFeatureOf n old outcome new) (CopiesNothing old outcome new)

-- The result for a feature of a pipe: its last bytes, up to the pipe's end or first error. If the pipe doesn't open, nothing is
-- written.
abbrev pub ReadsPipeFeature : List ℕ → ℕ → List ℕ → FeatureResult → List ℕ → Type 0
ReadsPipeFeature bytes n old outcome new = ReportsPipe bytes (CopiesFeatureOf n old outcome new) (CopiesNothing old outcome new)
