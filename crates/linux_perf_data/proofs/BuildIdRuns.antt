-- Consecutive build ID entries of a section.
use Rattle.std.proofs.Common.{◌≡◌, ◌++◌, ℕ, List, [], ◌∷◌, refl, ◌∙◌}
use Rattle.std.specs.HashMap.{HashMap}
use Rattle.perfdata_sources.specs.Endian.{number_in}
use Rattle.perfdata_sources.specs.declared.endian.Endianness.{Endianness}
use Rattle.perfdata_records.specs.BuildIdEvent.{BuildIdEntry, IsBuildIdEntry}
use Rattle.perfdata_records.specs.declared.dso_info.DsoInfo.{DsoInfo}
use Rattle.perfdata_records.specs.declared.dso_key.DsoKey.{DsoKey}
use Rattle.linux_perf_data.specs.BuildIds.{MapsLastEntries, BeginsWithEntries}

module _ (order : Endianness) where
  begins_push : (xs rest : List ℕ) (es : List BuildIdEntry) (e : BuildIdEntry) (first new : List ℕ) → BeginsWithEntries order xs es rest → rest ≡ first ++ new → IsBuildIdEntry (number_in order) first e → BeginsWithEntries order xs (es ++ e ∷ []) new
  begins_push xs rest [] e first new all split is = (first, new, all ∙ split, is, refl)
  begins_push xs rest (d ∷ es) e first new (one, after, before, is_one, begins) split is = (one, after, before, is_one, begins_push after rest es e first new begins split is)

  -- one more entry
  pub run_more : {S : Type 0} (xs old new : List ℕ) (m n : HashMap DsoKey DsoInfo S) (e : BuildIdEntry) → (es : List BuildIdEntry) × BeginsWithEntries order xs es old × MapsLastEntries m es
      → (first : List ℕ) × (old ≡ first ++ new) × IsBuildIdEntry (number_in order) first e → ((es : List BuildIdEntry) → MapsLastEntries m es → MapsLastEntries n (es ++ e ∷ []))
      → (es : List BuildIdEntry) × BeginsWithEntries order xs es new × MapsLastEntries n es
  run_more xs old new m n e (es, begins, maps) (first, split, is) keeps = (es ++ e ∷ [], begins_push xs old es e first new begins split is, keeps es maps)
