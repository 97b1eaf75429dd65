-- PERF_RECORD_SAMPLE of Linux's `perf_event.h`. Each field is there if its bit of the sample format is set. The fields in order, with
-- their bits: IDENTIFIER 16, IP 0, TID 1, TIME 2, ADDR 3, ID 6, STREAM_ID 9, CPU 7, PERIOD 8, READ 4, CALLCHAIN 5, RAW 10,
-- BRANCH_STACK 11, REGS_USER 12, STACK_USER 13, WEIGHT 14 or WEIGHT_STRUCT 24, DATA_SRC 15, TRANSACTION 17, REGS_INTR 18,
-- PHYS_ADDR 19, CGROUP 21, DATA_PAGE_SIZE 22, CODE_PAGE_SIZE 23, AUX 20. The kernel writes them in this order
-- (`perf_output_sample`); a comment in `perf_event.h` puts AUX before the page sizes.
use Rattle.std.specs.Prelude.{◌≡◌, ℕ, ◌+◌, ◌*◌, ◌/◌, ◌≤◌, ◌==◌, not, List, [], ◌∷◌, length, slice_index, Option}
use Rattle.std.specs.Option.{option_map}
use Rattle.perfdata_sources.specs.Raw.{bytes_of}
use Rattle.perfdata_identifiers.specs.ParseInfo.{is_set}
use Rattle.perfdata_events.specs.SampleFormat.{IP, TID, TIME, ADDR, READ, CALLCHAIN, ID, CPU, PERIOD, STREAM_ID, RAW, BRANCH_STACK, REGS_USER, STACK_USER, IDENTIFIER}
use Rattle.perfdata_events.specs.BranchType.{HW_INDEX, COUNTERS}
use Rattle.perfdata_events.specs.Fields.{u32_at, u64_at}
use Rattle.perfdata_events.specs.Format.{Outcome, encodes, fails, IsTruncated, block, fixed, both, led, optional}
use Rattle.perfdata_events.specs.Words.{u64s, u64s_in, word, words_size, after, word_after}
use Rattle.perfdata_events.specs.Task.{task_at}
use Rattle.perfdata_events.specs.ReadValues.{Values, values_of, read_values}
use Rattle.perfdata_events.specs.CallChain.{chain, chain_values_of}
use Rattle.perfdata_events.specs.SampleRegisters.{registers, registers_of}
use Rattle.perfdata_events.specs.SampleEnd.{End, sample_end}
use Rattle.perfdata_events.specs.EventFormat.{register_masks_of}
use Rattle.perfdata_events.specs.declared.format.EventFormat.{EventFormat}
use Rattle.perfdata_events.specs.declared.sample.parts.BranchEntry.{BranchEntry}
use Rattle.perfdata_events.specs.declared.sample.parts.BranchStack.{BranchStack}
use Rattle.perfdata_events.specs.declared.sample.parts.UserStack.{UserStack}
use Rattle.perfdata_events.specs.declared.sample.words.OriginFields.{OriginFields}
use Rattle.perfdata_events.specs.declared.sample.words.EventFields.{EventFields}
use Rattle.perfdata_events.specs.declared.sample.SampleRecord.{SampleRecord}

-- The hardware index, the numbers of the entries (three each: from, to, flags), and the counters.
abbrev pub branches_of : BranchStack → Option ℕ × (List ℕ × Option (List ℕ))
branches_of v = (v.hw_index, (u64s_in v.entries, option_map u64s_in v.counters))

-- The number of branches, and the branch at an index.
abbrev pub branch_count : BranchStack → ℕ
branch_count v = length (u64s_in v.entries) / 3

abbrev pub branch_at : BranchStack → ℕ → BranchEntry
branch_at v index = record {
  from = slice_index (u64s_in v.entries) (3 * index);
  to = slice_index (u64s_in v.entries) (3 * index + 1);
  flags = slice_index (u64s_in v.entries) (3 * index + 2);
}

-- The bytes of a stack, and their dynamic size.
abbrev pub stack_of : UserStack → List ℕ × Option ℕ
stack_of v = (bytes_of v.bytes, v.dynamic_size)

module _ (number : ℕ → List ℕ → ℕ) where
  -- { u32 size; char data[size]; }
  abbrev pub raw_data : List ℕ → Outcome (List ℕ) → Type 0
  raw_data = led (fixed 4 (u32_at number 0)) block

  -- { u64 nr; { u64 hw_idx; } && PERF_SAMPLE_BRANCH_HW_INDEX (bit 17 of the branch sample type); { u64 from, to, flags; } lbr[nr];
  -- { u64 counters[nr]; } && PERF_SAMPLE_BRANCH_COUNTERS (19) }
  abbrev pub branch_stack : ℕ → List ℕ → Outcome (Option ℕ × (List ℕ × Option (List ℕ))) → Type 0
  branch_stack branch_type = led (fixed 8 (u64_at number 0)) (λ count.
      both (word (is_set branch_type HW_INDEX) (u64_at number 0)) (λ _.
      both (u64s number (3 * count)) (λ _.
      optional (is_set branch_type COUNTERS) (u64s number count))))

  -- { u64 size; char data[size]; u64 dyn_size; }, the last only if the size isn't 0
  abbrev pub user_stack : List ℕ → Outcome (List ℕ × Option ℕ) → Type 0
  user_stack = led (fixed 8 (u64_at number 0)) (λ size. both (block size) (λ _. word (not (size == 0)) (u64_at number 0)))

  module _ (format : ℕ) where
    -- The words with the bits 16, 0, 1, 2.
    pub record AreOriginWords (xs : List ℕ) (value : OriginFields) (rest : List ℕ) : Type 0 where
      pub enough : words_size format (IDENTIFIER ∷ IP ∷ TID ∷ TIME ∷ []) ≤ length xs
      pub identifier_is : value.identifier ≡ word_after format [] IDENTIFIER (u64_at number 0) xs
      pub ip_is : value.ip ≡ word_after format (IDENTIFIER ∷ []) IP (u64_at number 0) xs
      pub task_is : value.task ≡ word_after format (IDENTIFIER ∷ IP ∷ []) TID (task_at number) xs
      pub timestamp_is : value.timestamp ≡ word_after format (IDENTIFIER ∷ IP ∷ TID ∷ []) TIME (u64_at number 0) xs
      pub rest_is : rest ≡ after format (IDENTIFIER ∷ IP ∷ TID ∷ TIME ∷ []) xs

    abbrev pub origin_words : List ℕ → Outcome OriginFields → Type 0
    origin_words xs (encodes value rest) = AreOriginWords xs value rest
    origin_words xs (fails kind) = IsTruncated (words_size format (IDENTIFIER ∷ IP ∷ TID ∷ TIME ∷ [])) xs kind

    -- The words with the bits 3, 6, 9, 7.
    pub record AreEventWords (xs : List ℕ) (value : EventFields) (rest : List ℕ) : Type 0 where
      pub enough : words_size format (ADDR ∷ ID ∷ STREAM_ID ∷ CPU ∷ []) ≤ length xs
      pub address_is : value.address ≡ word_after format [] ADDR (u64_at number 0) xs
      pub id_is : value.id ≡ word_after format (ADDR ∷ []) ID (u64_at number 0) xs
      pub stream_id_is : value.stream_id ≡ word_after format (ADDR ∷ ID ∷ []) STREAM_ID (u64_at number 0) xs
      pub cpu_is : value.cpu ≡ word_after format (ADDR ∷ ID ∷ STREAM_ID ∷ []) CPU (u32_at number 0) xs
      pub rest_is : rest ≡ after format (ADDR ∷ ID ∷ STREAM_ID ∷ CPU ∷ []) xs

    abbrev pub event_words : List ℕ → Outcome EventFields → Type 0
    event_words xs (encodes value rest) = AreEventWords xs value rest
    event_words xs (fails kind) = IsTruncated (words_size format (ADDR ∷ ID ∷ STREAM_ID ∷ CPU ∷ [])) xs kind

-- The values of a sample in three parts, each a value and then the others.
abbrev pub Start : Type 0
Start = OriginFields × (EventFields × (Option ℕ × (Option Values × Option (List ℕ))))

abbrev pub Middle : Type 0
Middle = Option (List ℕ) × (Option (Option ℕ × (List ℕ × Option (List ℕ))) × (Option (ℕ × List ℕ) × Option (List ℕ × Option ℕ)))

abbrev pub sample_of : SampleRecord → Start × (Middle × End)
sample_of v = (
  (
    record { identifier = v.identifier; ip = v.ip; task = v.task; timestamp = v.timestamp },
    (
      record { address = v.address; id = v.id; stream_id = v.stream_id; cpu = v.cpu },
      (v.period, (option_map values_of v.values, option_map chain_values_of v.call_chain)),
    ),
  ),
  (
    (option_map bytes_of v.raw, (option_map branches_of v.branch_stack, (option_map registers_of v.user_registers, option_map stack_of v.user_stack))),
    (
      v.weight,
      (
        record { data_source = v.data_source; transaction = v.transaction },
        (
          option_map registers_of v.interrupt_registers,
          (
            record { physical_address = v.physical_address; cgroup = v.cgroup; data_page_size = v.data_page_size; code_page_size = v.code_page_size },
            option_map bytes_of v.aux_data,
          ),
        ),
      ),
    ),
  ),
)

module _ (number : ℕ → List ℕ → ℕ) (format : EventFormat) where
  -- The fields up to the call chain.
  abbrev pub sample_start : List ℕ → Outcome Start → Type 0
  sample_start =
      both (origin_words number format.sample_format.0) (λ _.
      both (event_words number format.sample_format.0) (λ _.
      both (word (is_set format.sample_format.0 PERIOD) (u64_at number 0)) (λ _.
      both (optional (is_set format.sample_format.0 READ) (read_values number format.read_format.0)) (λ _.
      optional (is_set format.sample_format.0 CALLCHAIN) (chain number)))))

  -- The fields from the raw data to the user stack.
  abbrev pub sample_middle : List ℕ → Outcome Middle → Type 0
  sample_middle =
      both (optional (is_set format.sample_format.0 RAW) (raw_data number)) (λ _.
      both (optional (is_set format.sample_format.0 BRANCH_STACK) (branch_stack number format.branch_sample_type.0)) (λ _.
      both (optional (is_set format.sample_format.0 REGS_USER) (registers number (register_masks_of format).user)) (λ _.
      optional (is_set format.sample_format.0 STACK_USER) (user_stack number))))

  abbrev pub sample : List ℕ → Outcome (Start × (Middle × End)) → Type 0
  sample = both sample_start (λ _. both sample_middle (λ _. sample_end number format.sample_format.0 (register_masks_of format)))
