-- The bits of the sample format, by their numbers (`perf_event_sample_format` of Linux's `perf_event.h`).
use Rattle.std.specs.Prelude.{ℕ}

abbrev pub IP : ℕ
IP = 0

abbrev pub TID : ℕ
TID = 1

abbrev pub TIME : ℕ
TIME = 2

abbrev pub ADDR : ℕ
ADDR = 3

abbrev pub READ : ℕ
READ = 4

abbrev pub CALLCHAIN : ℕ
CALLCHAIN = 5

abbrev pub ID : ℕ
ID = 6

abbrev pub CPU : ℕ
CPU = 7

abbrev pub PERIOD : ℕ
PERIOD = 8

abbrev pub STREAM_ID : ℕ
STREAM_ID = 9

abbrev pub RAW : ℕ
RAW = 10

abbrev pub BRANCH_STACK : ℕ
BRANCH_STACK = 11

abbrev pub REGS_USER : ℕ
REGS_USER = 12

abbrev pub STACK_USER : ℕ
STACK_USER = 13

abbrev pub WEIGHT : ℕ
WEIGHT = 14

abbrev pub DATA_SRC : ℕ
DATA_SRC = 15

abbrev pub IDENTIFIER : ℕ
IDENTIFIER = 16

abbrev pub TRANSACTION : ℕ
TRANSACTION = 17

abbrev pub REGS_INTR : ℕ
REGS_INTR = 18

abbrev pub PHYS_ADDR : ℕ
PHYS_ADDR = 19

abbrev pub AUX : ℕ
AUX = 20

abbrev pub CGROUP : ℕ
CGROUP = 21

abbrev pub DATA_PAGE_SIZE : ℕ
DATA_PAGE_SIZE = 22

abbrev pub CODE_PAGE_SIZE : ℕ
CODE_PAGE_SIZE = 23

abbrev pub WEIGHT_STRUCT : ℕ
WEIGHT_STRUCT = 24
