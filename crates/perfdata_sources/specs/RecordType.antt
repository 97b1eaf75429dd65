-- The types of records with their names.
use Rattle.std.specs.Prelude.{ℕ, nat_eq, List, [], ◌∷◌, codes, find, Option}
use Rattle.std.specs.Option.{option_map, option_or}

-- the names of the types of the kernel's records (`perf_event_type` in Linux's `perf_event.h`), by number
abbrev pub kernel_type_names : List (ℕ × List ℕ)
kernel_type_names =
    (1, codes "MMAP") ∷
    (2, codes "LOST") ∷
    (3, codes "COMM") ∷
    (4, codes "EXIT") ∷
    (5, codes "THROTTLE") ∷
    (6, codes "UNTHROTTLE") ∷
    (7, codes "FORK") ∷
    (8, codes "READ") ∷
    (9, codes "SAMPLE") ∷
    (10, codes "MMAP2") ∷
    (11, codes "AUX") ∷
    (12, codes "ITRACE_START") ∷
    (13, codes "LOST_SAMPLES") ∷
    (14, codes "SWITCH") ∷
    (15, codes "SWITCH_CPU_WIDE") ∷
    (16, codes "NAMESPACES") ∷
    (17, codes "KSYMBOL") ∷
    (18, codes "BPF_EVENT") ∷
    (19, codes "CGROUP") ∷
    (20, codes "TEXT_POKE") ∷
    (21, codes "AUX_OUTPUT_HW_ID") ∷ []

-- the name of a type of kernel's records
unfoldable pub kernel_type_name : ℕ → Option (List ℕ)
kernel_type_name n = option_map (λ row. row.1) (find (λ row. nat_eq n row.0) kernel_type_names)

-- the names of the types of perf's records (`perf_user_event_type` in the sources of Linux's perf), by number
abbrev pub perf_type_names : List (ℕ × List ℕ)
perf_type_names =
    (64, codes "HEADER_ATTR") ∷
    (65, codes "HEADER_EVENT_TYPE") ∷
    (66, codes "HEADER_TRACING_DATA") ∷
    (67, codes "HEADER_BUILD_ID") ∷
    (68, codes "FINISHED_ROUND") ∷
    (69, codes "ID_INDEX") ∷
    (70, codes "AUXTRACE_INFO") ∷
    (71, codes "AUXTRACE") ∷
    (72, codes "AUXTRACE_ERROR") ∷
    (73, codes "THREAD_MAP") ∷
    (74, codes "CPU_MAP") ∷
    (75, codes "STAT_CONFIG") ∷
    (76, codes "STAT") ∷
    (77, codes "STAT_ROUND") ∷
    (78, codes "EVENT_UPDATE") ∷
    (79, codes "TIME_CONV") ∷
    (80, codes "HEADER_FEATURE") ∷
    (81, codes "COMPRESSED") ∷
    (82, codes "FINISHED_INIT") ∷
    (83, codes "COMPRESSED2") ∷ []

-- the name of a type of perf's records
unfoldable pub perf_type_name : ℕ → Option (List ℕ)
perf_type_name n = option_map (λ row. row.1) (find (λ row. nat_eq n row.0) perf_type_names)

-- the names of the types of simpleperf's records, by number
abbrev pub simpleperf_type_names : List (ℕ × List ℕ)
simpleperf_type_names =
    (32769, codes "SIMPLEPERF_KERNEL_SYMBOL") ∷
    (32770, codes "SIMPLEPERF_DSO") ∷
    (32771, codes "SIMPLEPERF_SYMBOL") ∷
    (32772, codes "SIMPLEPERF_SPLIT") ∷
    (32773, codes "SIMPLEPERF_SPLIT_END") ∷
    (32774, codes "SIMPLEPERF_EVENT_ID") ∷
    (32775, codes "SIMPLEPERF_CALLCHAIN") ∷
    (32776, codes "SIMPLEPERF_UNWINDING_RESULT") ∷
    (32777, codes "SIMPLEPERF_TRACING_DATA") ∷ []

-- the name of a type of simpleperf's records
unfoldable pub simpleperf_type_name : ℕ → Option (List ℕ)
simpleperf_type_name n = option_map (λ row. row.1) (find (λ row. nat_eq n row.0) simpleperf_type_names)

-- the name of a record type
abbrev pub record_type_name : ℕ → Option (List ℕ)
record_type_name n = option_or (option_or (kernel_type_name n) (perf_type_name n)) (simpleperf_type_name n)
