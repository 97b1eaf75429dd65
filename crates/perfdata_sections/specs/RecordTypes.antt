-- The types of user records that the reader itself treats (Linux's tools/lib/perf/include/perf/event.h).
use Rattle.std.specs.Prelude.{ℕ}

-- an attribute, in a pipe
abbrev pub header_attr : ℕ
header_attr = 64

-- a round marker
abbrev pub finished_round : ℕ
finished_round = 68

-- a record that aux data follow
abbrev pub auxtrace : ℕ
auxtrace = 71

-- the threads of a process
abbrev pub thread_map : ℕ
thread_map = 73

-- the data of a feature, in a pipe
abbrev pub header_feature : ℕ
header_feature = 80

-- compressed records
abbrev pub compressed_type : ℕ
compressed_type = 81

-- compressed records, with padding
abbrev pub compressed2_type : ℕ
compressed2_type = 83
