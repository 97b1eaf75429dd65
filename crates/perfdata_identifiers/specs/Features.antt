-- The features of a perf.data file: their names, and the features in a set of bits.
use Rattle.std.specs.Prelude.{◌≡◌, ◌⊎◌, ◌↔◌, ℕ, ◌-◌, ◌/◌, ◌%◌, ◌++◌, ◌<◌, Bool, IsTrue, List, [], ◌∷◌, codes, filter, find, slice_index, Option}
use Rattle.std.specs.Option.{option_map, unwrap_or}
use Rattle.std.specs.Bool.{nat_eq}
use Rattle.std.specs.Fmt.{decimal}
use Rattle.std.specs.List.{range_with_len}
use Rattle.perfdata_identifiers.specs.ParseInfo.{is_set}
use Rattle.perfdata_identifiers.specs.declared.features.FeatureSet.{FeatureSet}
use Rattle.perfdata_identifiers.specs.declared.features.FeatureSetIter.{FeatureSetIter}

-- the names of the features, by their numbers
abbrev pub feature_names : List (ℕ × List ℕ)
feature_names =
    (1, codes "TRACING_DATA") ∷
    (2, codes "BUILD_ID") ∷
    (3, codes "HOSTNAME") ∷
    (4, codes "OSRELEASE") ∷
    (5, codes "VERSION") ∷
    (6, codes "ARCH") ∷
    (7, codes "NRCPUS") ∷
    (8, codes "CPUDESC") ∷
    (9, codes "CPUID") ∷
    (10, codes "TOTAL_MEM") ∷
    (11, codes "CMDLINE") ∷
    (12, codes "EVENT_DESC") ∷
    (13, codes "CPU_TOPOLOGY") ∷
    (14, codes "NUMA_TOPOLOGY") ∷
    (15, codes "BRANCH_STACK") ∷
    (16, codes "PMU_MAPPINGS") ∷
    (17, codes "GROUP_DESC") ∷
    (18, codes "AUXTRACE") ∷
    (19, codes "STAT") ∷
    (20, codes "CACHE") ∷
    (21, codes "SAMPLE_TIME") ∷
    (22, codes "SAMPLE_TOPOLOGY") ∷
    (23, codes "CLOCKID") ∷
    (24, codes "DIR_FORMAT") ∷
    (25, codes "BPF_PROG_INFO") ∷
    (26, codes "BPF_BTF") ∷
    (27, codes "COMPRESSED") ∷
    (28, codes "CPU_PMU_CAPS") ∷
    (29, codes "CLOCK_DATA") ∷
    (30, codes "HYBRID_TOPOLOGY") ∷
    (31, codes "HYBRID_CPU_PMU_CAPS") ∷
    (128, codes "SIMPLEPERF_FILE") ∷
    (129, codes "SIMPLEPERF_META_INFO") ∷
    (130, codes "SIMPLEPERF_DEBUG_UNWIND") ∷
    (131, codes "SIMPLEPERF_DEBUG_UNWIND_FILE") ∷
    (132, codes "SIMPLEPERF_FILE2") ∷ []

-- the name of a feature's constant
unfoldable pub feature_name : ℕ → Option (List ℕ)
feature_name n = option_map (λ row. row.1) (find (λ row. nat_eq n row.0) feature_names)

-- the printed text of a feature
abbrev pub feature_text : ℕ → List ℕ
feature_text n = unwrap_or (feature_name n) (codes "Unknown Feature " ++ decimal n)

-- whether a set contains feature n, which is bit n mod 64 of element n div 64
abbrev pub has_bit : FeatureSet → ℕ → Bool
has_bit set n = is_set (slice_index set.0 (n / 64)) (n % 64)

-- a set contains feature n
abbrev pub HasFeature : FeatureSet → ℕ → Type 0
HasFeature set n = (n < 256) × IsTrue (has_bit set n)

-- the new set contains the features of the old one, and this feature if it is below 256
abbrev pub InsertsFeature : FeatureSet → ℕ → FeatureSet → Type 0
InsertsFeature old feature new = (n : ℕ) → HasFeature new n ↔ (HasFeature old n ⊎ ((n < 256) × (feature ≡ n)))

-- the features of a set from n on, ascending; all features are below 256
unfoldable pub features_from : FeatureSet → ℕ → List ℕ
features_from set n = filter (has_bit set) (range_with_len n (256 - n))

-- the features of a set, ascending
abbrev pub features_of : FeatureSet → List ℕ
features_of set = features_from set 0

-- the features that an iterator still returns
abbrev pub remaining_features : FeatureSetIter → List ℕ
remaining_features it = features_from it.set it.next
