-- The fields of PERF_RECORD_SAMPLE of Linux's `perf_event.h` from the weight on. Each field is there if its bit of the sample format is
-- set. The fields in order, with their bits: WEIGHT 14 or WEIGHT_STRUCT 24, DATA_SRC 15, TRANSACTION 17, REGS_INTR 18, PHYS_ADDR 19,
-- CGROUP 21, DATA_PAGE_SIZE 22, CODE_PAGE_SIZE 23, AUX 20. The kernel writes them in this order (`perf_output_sample`); a comment in
-- `perf_event.h` puts AUX before the page sizes.
use Rattle.std.specs.Prelude.{◌≡◌, ℕ, ◌/◌, ◌%◌, ◌^◌, ◌≤◌, ◌||◌, List, [], ◌∷◌, length, Option}
use Rattle.std.specs.Option.{option_map}
use Rattle.perfdata_sources.specs.Raw.{bytes_of}
use Rattle.perfdata_identifiers.specs.ParseInfo.{is_set}
use Rattle.perfdata_events.specs.SampleFormat.{WEIGHT, DATA_SRC, TRANSACTION, REGS_INTR, PHYS_ADDR, AUX, CGROUP, DATA_PAGE_SIZE, CODE_PAGE_SIZE, WEIGHT_STRUCT}
use Rattle.perfdata_events.specs.Fields.{u64_at}
use Rattle.perfdata_events.specs.Format.{Outcome, encodes, fails, IsTruncated, block, fixed, both, led, optional}
use Rattle.perfdata_events.specs.Words.{word, words_size, after, word_after}
use Rattle.perfdata_events.specs.SampleRegisters.{registers, registers_of}
use Rattle.perfdata_events.specs.declared.fields.registers.RegisterMasks.{RegisterMasks}
use Rattle.perfdata_events.specs.declared.sample.end.DataWords.{DataWords}
use Rattle.perfdata_events.specs.declared.sample.end.PageFields.{PageFields}
use Rattle.perfdata_events.specs.declared.sample.end.SampleEnd.{SampleEnd}
use Rattle.perfdata_events.specs.declared.sample.end.WeightStruct.{WeightStruct}

-- The numbers of a weight. union perf_sample_weight { u64 full; struct { u32 var1_dw; u16 var2_w; u16 var3_w; }; }: on a big-endian
-- machine the numbers are in the opposite order, so they are at the same bits of the word.
abbrev pub weight_struct_of : ℕ → WeightStruct
weight_struct_of weight = record {
  var1_dw = weight % 2 ^ 32;
  var2_w = weight / 2 ^ 32 % 2 ^ 16;
  var3_w = weight / 2 ^ 48;
}

-- The values of the fields, each a value and then the others.
abbrev pub End : Type 0
End = Option ℕ × (DataWords × (Option (ℕ × List ℕ) × (PageFields × Option (List ℕ))))

abbrev pub end_of : SampleEnd → End
end_of v = (v.weight, (v.data, (option_map registers_of v.interrupt_registers, (v.pages, option_map bytes_of v.aux_data))))

module _ (number : ℕ → List ℕ → ℕ) where
  -- { u64 size; char data[size]; }
  abbrev pub aux_data : List ℕ → Outcome (List ℕ) → Type 0
  aux_data = led (fixed 8 (u64_at number 0)) block

  module _ (format : ℕ) where
    -- The words with the bits 15, 17.
    pub record AreDataWords (xs : List ℕ) (value : DataWords) (rest : List ℕ) : Type 0 where
      pub enough : words_size format (DATA_SRC ∷ TRANSACTION ∷ []) ≤ length xs
      pub data_source_is : value.data_source ≡ word_after format [] DATA_SRC (u64_at number 0) xs
      pub transaction_is : value.transaction ≡ word_after format (DATA_SRC ∷ []) TRANSACTION (u64_at number 0) xs
      pub rest_is : rest ≡ after format (DATA_SRC ∷ TRANSACTION ∷ []) xs

    abbrev pub data_words : List ℕ → Outcome DataWords → Type 0
    data_words xs (encodes value rest) = AreDataWords xs value rest
    data_words xs (fails kind) = IsTruncated (words_size format (DATA_SRC ∷ TRANSACTION ∷ [])) xs kind

    -- The words with the bits 19, 21, 22, 23.
    pub record ArePageWords (xs : List ℕ) (value : PageFields) (rest : List ℕ) : Type 0 where
      pub enough : words_size format (PHYS_ADDR ∷ CGROUP ∷ DATA_PAGE_SIZE ∷ CODE_PAGE_SIZE ∷ []) ≤ length xs
      pub physical_address_is : value.physical_address ≡ word_after format [] PHYS_ADDR (u64_at number 0) xs
      pub cgroup_is : value.cgroup ≡ word_after format (PHYS_ADDR ∷ []) CGROUP (u64_at number 0) xs
      pub data_page_size_is : value.data_page_size ≡ word_after format (PHYS_ADDR ∷ CGROUP ∷ []) DATA_PAGE_SIZE (u64_at number 0) xs
      pub code_page_size_is : value.code_page_size ≡ word_after format (PHYS_ADDR ∷ CGROUP ∷ DATA_PAGE_SIZE ∷ []) CODE_PAGE_SIZE (u64_at number 0) xs
      pub rest_is : rest ≡ after format (PHYS_ADDR ∷ CGROUP ∷ DATA_PAGE_SIZE ∷ CODE_PAGE_SIZE ∷ []) xs

    abbrev pub page_words : List ℕ → Outcome PageFields → Type 0
    page_words xs (encodes value rest) = ArePageWords xs value rest
    page_words xs (fails kind) = IsTruncated (words_size format (PHYS_ADDR ∷ CGROUP ∷ DATA_PAGE_SIZE ∷ CODE_PAGE_SIZE ∷ [])) xs kind

    module _ (masks : RegisterMasks) where
      -- The fields from the weight on.
      abbrev pub sample_end : List ℕ → Outcome End → Type 0
      sample_end =
          both (word (is_set format WEIGHT || is_set format WEIGHT_STRUCT) (u64_at number 0)) (λ _.
          both data_words (λ _.
          both (optional (is_set format REGS_INTR) (registers number masks.interrupt)) (λ _.
          both page_words (λ _.
          optional (is_set format AUX) aux_data))))
