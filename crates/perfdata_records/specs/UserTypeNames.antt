-- The names of the user record types, and how `Debug` prints them.
use Rattle.std.specs.Prelude.{ℕ, ◌++◌, List, [], ◌∷◌, codes, find, Option, None, Some}
use Rattle.std.specs.Bool.{nat_eq}
use Rattle.std.specs.Fmt.{decimal}
use Rattle.std.specs.Option.{option_map}

-- The names of the types that perf and simpleperf write, by their numbers.
abbrev pub user_type_names : List (ℕ × List ℕ)
user_type_names =
    (64, codes "PERF_HEADER_ATTR") ∷
    (65, codes "PERF_HEADER_EVENT_TYPE") ∷
    (66, codes "PERF_HEADER_TRACING_DATA") ∷
    (67, codes "PERF_HEADER_BUILD_ID") ∷
    (68, codes "PERF_FINISHED_ROUND") ∷
    (69, codes "PERF_ID_INDEX") ∷
    (70, codes "PERF_AUXTRACE_INFO") ∷
    (71, codes "PERF_AUXTRACE") ∷
    (72, codes "PERF_AUXTRACE_ERROR") ∷
    (73, codes "PERF_THREAD_MAP") ∷
    (74, codes "PERF_CPU_MAP") ∷
    (75, codes "PERF_STAT_CONFIG") ∷
    (76, codes "PERF_STAT") ∷
    (77, codes "PERF_STAT_ROUND") ∷
    (78, codes "PERF_EVENT_UPDATE") ∷
    (79, codes "PERF_TIME_CONV") ∷
    (80, codes "PERF_HEADER_FEATURE") ∷
    (81, codes "PERF_COMPRESSED") ∷
    (83, codes "PERF_COMPRESSED2") ∷
    (32769, codes "SIMPLEPERF_KERNEL_SYMBOL") ∷
    (32770, codes "SIMPLEPERF_DSO") ∷
    (32771, codes "SIMPLEPERF_SYMBOL") ∷
    (32772, codes "SIMPLEPERF_SPLIT") ∷
    (32773, codes "SIMPLEPERF_SPLIT_END") ∷
    (32774, codes "SIMPLEPERF_EVENT_ID") ∷
    (32775, codes "SIMPLEPERF_CALLCHAIN") ∷
    (32776, codes "SIMPLEPERF_UNWINDING_RESULT") ∷
    (32777, codes "SIMPLEPERF_TRACING_DATA") ∷ []

-- The name of a type's constant.
unfoldable pub user_type_name : ℕ → Option (List ℕ)
user_type_name n = option_map (λ row. row.1) (find (λ row. nat_eq n row.0) user_type_names)

-- A type as `Debug` prints it, by its number and its name.
abbrev pub user_type_text_of : ℕ → Option (List ℕ) → List ℕ
user_type_text_of n None = codes "Unknown UserRecordType " ++ decimal n
user_type_text_of n (Some name) = codes "\"" ++ (name ++ codes "\"")

-- A type as `Debug` prints it, by its number.
abbrev pub user_type_text : ℕ → List ℕ
user_type_text n = user_type_text_of n (user_type_name n)
