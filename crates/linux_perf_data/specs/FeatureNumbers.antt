-- The numbers of EVENT_DESC and of the features that have an accessor (Linux's perf.data format, and simpleperf's).
use Rattle.std.specs.Prelude.{ℕ}

abbrev pub build_id : ℕ
build_id = 2

abbrev pub hostname : ℕ
hostname = 3

abbrev pub os_release : ℕ
os_release = 4

abbrev pub version : ℕ
version = 5

abbrev pub arch : ℕ
arch = 6

abbrev pub nr_cpus : ℕ
nr_cpus = 7

abbrev pub cpu_desc : ℕ
cpu_desc = 8

abbrev pub cpuid : ℕ
cpuid = 9

abbrev pub total_mem : ℕ
total_mem = 10

abbrev pub cmd_line : ℕ
cmd_line = 11

abbrev pub event_desc : ℕ
event_desc = 12

abbrev pub pmu_mappings : ℕ
pmu_mappings = 16

abbrev pub sample_time : ℕ
sample_time = 21

abbrev pub clock_id : ℕ
clock_id = 23

abbrev pub compressed : ℕ
compressed = 27

abbrev pub clock_data : ℕ
clock_data = 29

abbrev pub simpleperf_file : ℕ
simpleperf_file = 128

abbrev pub simpleperf_meta_info : ℕ
simpleperf_meta_info = 129

abbrev pub simpleperf_file2 : ℕ
simpleperf_file2 = 132
