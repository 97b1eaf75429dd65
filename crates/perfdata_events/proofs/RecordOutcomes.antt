-- Each list of bytes has exactly one outcome in the format of each record.
use Rattle.std.proofs.Common.{◌≡◌, ℕ, ◌*◌, ◌<◌, ◌≤◌, ◌⊎◌, inl, inr, Bool, true, false, List, [], ◌∷◌, length, take, drop, refl, sym, ap, ◌∙◌, arith}
use Rattle.std.specs.Prelude.{slice_index}
use Rattle.std.specs.declared.io.ErrorKind.TheVariants.{UnexpectedEof, InvalidData}
use Rattle.std.proofs.lemmas.Bool.{cases_lt}
use Rattle.perfdata_identifiers.specs.ParseInfo.{is_set}
use Rattle.perfdata_events.specs.OneOutcome.{HasOneOutcome}
use Rattle.perfdata_events.specs.Format.{Outcome, encodes, fails, fixed}
use Rattle.perfdata_events.specs.Fields.{u32_at, u64_at}
use Rattle.perfdata_events.specs.Words.{u64s, u64s_of, words_size, after, word_after}
use Rattle.perfdata_events.specs.SampleId.{sample_id}
use Rattle.perfdata_events.specs.Task.{task_at}
use Rattle.perfdata_events.specs.ReadValues.{details, times, Counters, counter_width, counters, single_values, group_values, read_values, Values, single, group}
use Rattle.perfdata_events.specs.Read.{read}
use Rattle.perfdata_events.specs.Mmap.{mapping_at}
use Rattle.perfdata_events.specs.Mmap2.{protection_at, mmap2}
use Rattle.perfdata_events.specs.FileId.{file_id, file_id_at, FileId}
use Rattle.perfdata_events.specs.Sample.{origin_words, event_words, raw_data, branch_stack, user_stack, sample_start, sample_middle, sample}
use Rattle.perfdata_events.specs.SampleEnd.{data_words, page_words, aux_data, sample_end}
use Rattle.perfdata_events.specs.CallChain.{chain}
use Rattle.perfdata_events.specs.SampleRegisters.{registers}
use Rattle.perfdata_events.specs.EventFormat.{register_masks_of}
use Rattle.perfdata_events.specs.declared.format.EventFormat.{EventFormat}
use Rattle.perfdata_events.specs.declared.sample_id.SampleId.{SampleId}
use Rattle.perfdata_events.specs.declared.fields.read_values.Details.{Details}
use Rattle.perfdata_events.specs.declared.fields.read_values.Times.{Times}
use Rattle.perfdata_events.specs.declared.sample.words.OriginFields.{OriginFields}
use Rattle.perfdata_events.specs.declared.sample.words.EventFields.{EventFields}
use Rattle.perfdata_events.specs.declared.sample.end.DataWords.{DataWords}
use Rattle.perfdata_events.specs.declared.sample.end.PageFields.{PageFields}
use Rattle.perfdata_events.proofs.OneOutcomes.{one_by_size, one_fixed, one_block, one_word, one_both, one_led, one_optional, one_fixed_and_text}

true_or_false : (b : Bool) → (b ≡ true) ⊎ (b ≡ false)
true_or_false true = inl refl
true_or_false false = inr refl

module _ (number : ℕ → List ℕ → ℕ) where
  pub one_u64s : (n : ℕ) → HasOneOutcome (u64s number n)
  one_u64s n = one_by_size (u64s number n) (λ _. 8 * n) (λ xs. u64s_of number n xs) (λ xs. drop (8 * n) xs) (record {
    there = λ xs all. record { enough = all; values_are = refl; rest_is = refl };
    enough = λ xs v r q. q.enough;
    value_is = λ xs v r q. q.values_are;
    rest_is = λ xs v r q. q.rest_is;
    short = λ xs kind q. q;
    truncated = λ xs kind q. q;
  })

  sample_id_at : ℕ → List ℕ → SampleId
  sample_id_at format xs = record { task = word_after format [] 1 (task_at number) xs; timestamp = word_after format (1 ∷ []) 2 (u64_at number 0) xs; id = word_after format (1 ∷ 2 ∷ []) 6 (u64_at number 0) xs; stream_id = word_after format (1 ∷ 2 ∷ 6 ∷ []) 9 (u64_at number 0) xs; cpu = word_after format (1 ∷ 2 ∷ 6 ∷ 9 ∷ []) 7 (u32_at number 0) xs; identifier = word_after format (1 ∷ 2 ∷ 6 ∷ 9 ∷ 7 ∷ []) 16 (u64_at number 0) xs }

  pub one_sample_id : (format : ℕ) → HasOneOutcome (sample_id number format)
  unfolding sample_id_at
  one_sample_id format = one_by_size (sample_id number format) (λ _. words_size format (1 ∷ 2 ∷ 6 ∷ 9 ∷ 7 ∷ 16 ∷ [])) (λ xs. sample_id_at format xs) (λ xs. after format (1 ∷ 2 ∷ 6 ∷ 9 ∷ 7 ∷ 16 ∷ []) xs) (record {
    there = λ xs all. record { enough = all; task_is = refl; timestamp_is = refl; id_is = refl; stream_id_is = refl; cpu_is = refl; identifier_is = refl; rest_is = refl };
    enough = λ xs v r q. q.enough;
    value_is = λ xs v r q. λ i. record { task = q.task_is i; timestamp = q.timestamp_is i; id = q.id_is i; stream_id = q.stream_id_is i; cpu = q.cpu_is i; identifier = q.identifier_is i };
    rest_is = λ xs v r q. q.rest_is;
    short = λ xs kind q. q;
    truncated = λ xs kind q. q;
  })

  details_at : ℕ → List ℕ → Details
  details_at format xs = record { time_enabled = word_after format [] 0 (u64_at number 0) xs; time_running = word_after format (0 ∷ []) 1 (u64_at number 0) xs; id = word_after format (0 ∷ 1 ∷ []) 2 (u64_at number 0) xs; lost = word_after format (0 ∷ 1 ∷ 2 ∷ []) 4 (u64_at number 0) xs }

  pub one_details : (format : ℕ) → HasOneOutcome (details number format)
  unfolding details_at
  one_details format = one_by_size (details number format) (λ _. words_size format (0 ∷ 1 ∷ 2 ∷ 4 ∷ [])) (λ xs. details_at format xs) (λ xs. after format (0 ∷ 1 ∷ 2 ∷ 4 ∷ []) xs) (record {
    there = λ xs all. record { enough = all; time_enabled_is = refl; time_running_is = refl; id_is = refl; lost_is = refl; rest_is = refl };
    enough = λ xs v r q. q.enough;
    value_is = λ xs v r q. λ i. record { time_enabled = q.time_enabled_is i; time_running = q.time_running_is i; id = q.id_is i; lost = q.lost_is i };
    rest_is = λ xs v r q. q.rest_is;
    short = λ xs kind q. q;
    truncated = λ xs kind q. q;
  })

  times_at : ℕ → List ℕ → Times
  times_at format xs = record { time_enabled = word_after format [] 0 (u64_at number 0) xs; time_running = word_after format (0 ∷ []) 1 (u64_at number 0) xs }

  pub one_times : (format : ℕ) → HasOneOutcome (times number format)
  unfolding times_at
  one_times format = one_by_size (times number format) (λ _. words_size format (0 ∷ 1 ∷ [])) (λ xs. times_at format xs) (λ xs. after format (0 ∷ 1 ∷ []) xs) (record {
    there = λ xs all. record { enough = all; time_enabled_is = refl; time_running_is = refl; rest_is = refl };
    enough = λ xs v r q. q.enough;
    value_is = λ xs v r q. λ i. record { time_enabled = q.time_enabled_is i; time_running = q.time_running_is i };
    rest_is = λ xs v r q. q.rest_is;
    short = λ xs kind q. q;
    truncated = λ xs kind q. q;
  })

  counters_at : ℕ → ℕ → List ℕ → Counters
  counters_at format n xs = record { has_id = is_set format 2; has_lost = is_set format 4; numbers = u64s_of number (counter_width (is_set format 2) (is_set format 4) * n) xs }

  one_counters : (format n : ℕ) → HasOneOutcome (counters number format n)
  unfolding counters_at
  one_counters format n = one_by_size (counters number format n) (λ _. 8 * (counter_width (is_set format 2) (is_set format 4) * n)) (λ xs. counters_at format n xs) (λ xs. drop (8 * (counter_width (is_set format 2) (is_set format 4) * n)) xs) (record {
    there = λ xs all. record { has_id_is = refl; has_lost_is = refl; numbers_are = record { enough = all; values_are = refl; rest_is = refl } };
    enough = λ xs v r q. q.numbers_are.enough;
    value_is = λ xs v r q. λ i. record { has_id = q.has_id_is i; has_lost = q.has_lost_is i; numbers = q.numbers_are.values_are i };
    rest_is = λ xs v r q. q.numbers_are.rest_is;
    short = λ xs kind q. q;
    truncated = λ xs kind q. q;
  })

  origin_words_at : ℕ → List ℕ → OriginFields
  origin_words_at format xs = record { identifier = word_after format [] 16 (u64_at number 0) xs; ip = word_after format (16 ∷ []) 0 (u64_at number 0) xs; task = word_after format (16 ∷ 0 ∷ []) 1 (task_at number) xs; timestamp = word_after format (16 ∷ 0 ∷ 1 ∷ []) 2 (u64_at number 0) xs }

  pub one_origin_words : (format : ℕ) → HasOneOutcome (origin_words number format)
  unfolding origin_words_at
  one_origin_words format = one_by_size (origin_words number format) (λ _. words_size format (16 ∷ 0 ∷ 1 ∷ 2 ∷ [])) (λ xs. origin_words_at format xs) (λ xs. after format (16 ∷ 0 ∷ 1 ∷ 2 ∷ []) xs) (record {
    there = λ xs all. record { enough = all; identifier_is = refl; ip_is = refl; task_is = refl; timestamp_is = refl; rest_is = refl };
    enough = λ xs v r q. q.enough;
    value_is = λ xs v r q. λ i. record { identifier = q.identifier_is i; ip = q.ip_is i; task = q.task_is i; timestamp = q.timestamp_is i };
    rest_is = λ xs v r q. q.rest_is;
    short = λ xs kind q. q;
    truncated = λ xs kind q. q;
  })

  event_words_at : ℕ → List ℕ → EventFields
  event_words_at format xs = record { address = word_after format [] 3 (u64_at number 0) xs; id = word_after format (3 ∷ []) 6 (u64_at number 0) xs; stream_id = word_after format (3 ∷ 6 ∷ []) 9 (u64_at number 0) xs; cpu = word_after format (3 ∷ 6 ∷ 9 ∷ []) 7 (u32_at number 0) xs }

  pub one_event_words : (format : ℕ) → HasOneOutcome (event_words number format)
  unfolding event_words_at
  one_event_words format = one_by_size (event_words number format) (λ _. words_size format (3 ∷ 6 ∷ 9 ∷ 7 ∷ [])) (λ xs. event_words_at format xs) (λ xs. after format (3 ∷ 6 ∷ 9 ∷ 7 ∷ []) xs) (record {
    there = λ xs all. record { enough = all; address_is = refl; id_is = refl; stream_id_is = refl; cpu_is = refl; rest_is = refl };
    enough = λ xs v r q. q.enough;
    value_is = λ xs v r q. λ i. record { address = q.address_is i; id = q.id_is i; stream_id = q.stream_id_is i; cpu = q.cpu_is i };
    rest_is = λ xs v r q. q.rest_is;
    short = λ xs kind q. q;
    truncated = λ xs kind q. q;
  })

  data_words_at : ℕ → List ℕ → DataWords
  data_words_at format xs = record { data_source = word_after format [] 15 (u64_at number 0) xs; transaction = word_after format (15 ∷ []) 17 (u64_at number 0) xs }

  pub one_data_words : (format : ℕ) → HasOneOutcome (data_words number format)
  unfolding data_words_at
  one_data_words format = one_by_size (data_words number format) (λ _. words_size format (15 ∷ 17 ∷ [])) (λ xs. data_words_at format xs) (λ xs. after format (15 ∷ 17 ∷ []) xs) (record {
    there = λ xs all. record { enough = all; data_source_is = refl; transaction_is = refl; rest_is = refl };
    enough = λ xs v r q. q.enough;
    value_is = λ xs v r q. λ i. record { data_source = q.data_source_is i; transaction = q.transaction_is i };
    rest_is = λ xs v r q. q.rest_is;
    short = λ xs kind q. q;
    truncated = λ xs kind q. q;
  })

  page_words_at : ℕ → List ℕ → PageFields
  page_words_at format xs = record { physical_address = word_after format [] 19 (u64_at number 0) xs; cgroup = word_after format (19 ∷ []) 21 (u64_at number 0) xs; data_page_size = word_after format (19 ∷ 21 ∷ []) 22 (u64_at number 0) xs; code_page_size = word_after format (19 ∷ 21 ∷ 22 ∷ []) 23 (u64_at number 0) xs }

  pub one_page_words : (format : ℕ) → HasOneOutcome (page_words number format)
  unfolding page_words_at
  one_page_words format = one_by_size (page_words number format) (λ _. words_size format (19 ∷ 21 ∷ 22 ∷ 23 ∷ [])) (λ xs. page_words_at format xs) (λ xs. after format (19 ∷ 21 ∷ 22 ∷ 23 ∷ []) xs) (record {
    there = λ xs all. record { enough = all; physical_address_is = refl; cgroup_is = refl; data_page_size_is = refl; code_page_size_is = refl; rest_is = refl };
    enough = λ xs v r q. q.enough;
    value_is = λ xs v r q. λ i. record { physical_address = q.physical_address_is i; cgroup = q.cgroup_is i; data_page_size = q.data_page_size_is i; code_page_size = q.code_page_size_is i };
    rest_is = λ xs v r q. q.rest_is;
    short = λ xs kind q. q;
    truncated = λ xs kind q. q;
  })

  one_u64 : HasOneOutcome (fixed 8 (u64_at number 0))
  one_u64 = one_fixed 8 (u64_at number 0)

  pub one_single : (format : ℕ) → HasOneOutcome (single_values number format)
  one_single format = one_both _ _ one_u64 (λ _. one_details format)

  pub one_group : (format : ℕ) → HasOneOutcome (group_values number format)
  one_group format = one_led _ _ one_u64 (λ count. one_both _ _ (one_times format) (λ _. one_counters format count))

  pub one_chain : HasOneOutcome (chain number)
  one_chain = one_led _ _ one_u64 (λ n. one_u64s n)

  pub one_raw_data : HasOneOutcome (raw_data number)
  one_raw_data = one_led _ _ (one_fixed 4 (u32_at number 0)) one_block

  pub one_aux_data : HasOneOutcome (aux_data number)
  one_aux_data = one_led _ _ one_u64 one_block

  pub one_branch_stack : (branch_type : ℕ) → HasOneOutcome (branch_stack number branch_type)
  one_branch_stack branch_type = one_led _ _ one_u64 (λ n. one_both _ _ (one_word _ _) (λ _. one_both _ _ (one_u64s _) (λ _. one_optional _ (one_u64s n) _)))

  pub one_registers : (mask : ℕ) → HasOneOutcome (registers number mask)
  one_registers mask = one_both _ _ one_u64 (λ abi. one_u64s _)

  pub one_user_stack : HasOneOutcome (user_stack number)
  one_user_stack = one_led _ _ one_u64 (λ size. one_both _ _ (one_block size) (λ _. one_word _ _))

  abbrev as_single : Outcome (ℕ × Details) → Outcome Values
  as_single (encodes v r) = encodes (single v) r
  as_single (fails kind) = fails kind

  single_there : (format : ℕ) → is_set format 3 ≡ false → (xs : List ℕ) (o : Outcome (ℕ × Details)) → single_values number format xs o → read_values number format xs (as_single o)
  single_there format e xs (encodes v r) q = (e, q)
  single_there format e xs (fails kind) q = inl (e, q)

  single_only : (format : ℕ) → is_set format 3 ≡ false → (xs : List ℕ) (o : Outcome (ℕ × Details)) → ((p : Outcome (ℕ × Details)) → single_values number format xs p → p ≡ o)
      → (p : Outcome Values) → read_values number format xs p → p ≡ as_single o
  single_only format e xs o only (encodes (single v) r) q = let d = only (encodes v r) q.1 in λ i. as_single (d i)
  single_only format e xs o only (encodes (group v) r) q = let d : true ≡ false = sym q.0 ∙ e in absurd cc
  single_only format e xs o only (fails kind) (inl q) = let d = only (fails kind) q.1 in λ i. as_single (d i)
  single_only format e xs o only (fails kind) (inr q) = let d : true ≡ false = sym q.0 ∙ e in absurd cc

  abbrev as_group : Outcome (Times × Counters) → Outcome Values
  as_group (encodes v r) = encodes (group v) r
  as_group (fails kind) = fails kind

  group_there : (format : ℕ) → is_set format 3 ≡ true → (xs : List ℕ) (o : Outcome (Times × Counters)) → group_values number format xs o → read_values number format xs (as_group o)
  group_there format e xs (encodes v r) q = (e, q)
  group_there format e xs (fails kind) q = inr (e, q)

  group_only : (format : ℕ) → is_set format 3 ≡ true → (xs : List ℕ) (o : Outcome (Times × Counters)) → ((p : Outcome (Times × Counters)) → group_values number format xs p → p ≡ o)
      → (p : Outcome Values) → read_values number format xs p → p ≡ as_group o
  group_only format e xs o only (encodes (single v) r) q = let d : false ≡ true = sym q.0 ∙ e in absurd cc
  group_only format e xs o only (encodes (group v) r) q = let d = only (encodes v r) q.1 in λ i. as_group (d i)
  group_only format e xs o only (fails kind) (inl q) = let d : false ≡ true = sym q.0 ∙ e in absurd cc
  group_only format e xs o only (fails kind) (inr q) = let d = only (fails kind) q.1 in λ i. as_group (d i)

  pub one_read_values : (format : ℕ) → HasOneOutcome (read_values number format)
  one_read_values format xs = elim (true_or_false (is_set format 3)) [
    | inl e ↦ let o = one_group format xs in (as_group o.0, group_there format e xs o.0 o.1, group_only format e xs o.0 o.2)
    | inr e ↦ let o = one_single format xs in (as_single o.0, single_there format e xs o.0 o.1, single_only format e xs o.0 o.2)
  ]

  pub one_read : (format : ℕ) → HasOneOutcome (read number format)
  one_read format = one_both _ _ (one_fixed 8 (task_at number)) (λ _. one_read_values format)

  short_id : (b : Bool) (xs : List ℕ) → length xs < 24 → (p : Outcome FileId) → file_id number b xs p → p ≡ fails UnexpectedEof
  short_id b xs fewer (encodes v r) q = let enough : 24 ≤ length xs = q.enough in absurd (omega arith)
  short_id b xs fewer (fails kind) (inl q) = ap (λ k. fails k) q.kind_is
  short_id b xs fewer (fails kind) (inr q) = let enough : 24 ≤ length xs = q.enough in absurd (omega arith)

  large_id : (b : Bool) (xs : List ℕ) → 24 ≤ length xs → b ≡ true → 20 < slice_index (take 24 xs) 0 → (p : Outcome FileId) → file_id number b xs p → p ≡ fails InvalidData
  large_id b xs all e large (encodes v r) q = let fits : slice_index (take 24 xs) 0 ≤ 20 = q.size_fits e in absurd (omega arith)
  large_id b xs all e large (fails kind) (inl q) = let fewer : length xs < 24 = q.too_few in absurd (omega arith)
  large_id b xs all e large (fails kind) (inr q) = ap (λ k. fails k) q.kind_is

  fitting_id : (b : Bool) (xs : List ℕ) → 24 ≤ length xs → (b ≡ true → slice_index (take 24 xs) 0 ≤ 20) → (p : Outcome FileId) → file_id number b xs p → p ≡ encodes (file_id_at number b (take 24 xs)) (drop 24 xs)
  fitting_id b xs all fits (encodes v r) q = λ i. encodes (q.value_is i) (q.rest_is i)
  fitting_id b xs all fits (fails kind) (inl q) = let fewer : length xs < 24 = q.too_few in absurd (omega arith)
  fitting_id b xs all fits (fails kind) (inr q) =
      let small : slice_index (take 24 xs) 0 ≤ 20 = fits q.is_a_build_id in
      let large : 20 < slice_index (take 24 xs) 0 = q.too_large in
      absurd (omega arith)

  abbrev OneOf : Bool → List ℕ → Type 0
  OneOf b xs = (outcome : Outcome FileId) × file_id number b xs outcome × ((other : Outcome FileId) → file_id number b xs other → other ≡ outcome)

  complete_id : (b : Bool) (xs : List ℕ) → 24 ≤ length xs → (b ≡ true → slice_index (take 24 xs) 0 ≤ 20) → OneOf b xs
  complete_id b xs all fits =
      (encodes (file_id_at number b (take 24 xs)) (drop 24 xs), record { enough = all; size_fits = fits; value_is = refl; rest_is = refl }, fitting_id b xs all fits)

  checked_id : (b : Bool) (xs : List ℕ) → 24 ≤ length xs → OneOf b xs
  checked_id false xs all = complete_id false xs all (λ (e : false ≡ true). absurd cc)
  checked_id true xs all = elim (cases_lt 20 (slice_index (take 24 xs) 0)) [
    | inl large ↦ (fails InvalidData, inr record { enough = all; is_a_build_id = refl; too_large = large; kind_is = refl }, large_id true xs all refl large)
    | inr fits ↦ complete_id true xs all (λ _. fits)
  ]

  pub one_file_id : (is_build_id : Bool) → HasOneOutcome (file_id number is_build_id)
  one_file_id b xs = elim (cases_lt (length xs) 24) [
    | inl fewer ↦ (fails UnexpectedEof, inl record { too_few = fewer; kind_is = refl }, short_id b xs fewer)
    | inr all ↦ checked_id b xs all
  ]

  pub one_mmap2 : (misc : ℕ) → HasOneOutcome (mmap2 number misc)
  one_mmap2 misc = one_both _ _ (one_fixed 32 (mapping_at number misc)) (λ _. one_both _ _ (one_file_id (is_set misc 14)) (λ _. one_fixed_and_text 8 (protection_at number)))

  module _ (format : EventFormat) where
    pub one_sample_start : HasOneOutcome (sample_start number format)
    one_sample_start =
        one_both _ _ (one_origin_words format.sample_format.0) (λ _.
        one_both _ _ (one_event_words format.sample_format.0) (λ _.
        one_both _ _ (one_word _ _) (λ _.
        one_both _ _ (one_optional _ (one_read_values format.read_format.0) _) (λ _.
        one_optional _ one_chain _))))

    pub one_sample_middle : HasOneOutcome (sample_middle number format)
    one_sample_middle =
        one_both _ _ (one_optional _ one_raw_data _) (λ _.
        one_both _ _ (one_optional _ (one_branch_stack format.branch_sample_type.0) _) (λ _.
        one_both _ _ (one_optional _ (one_registers format.sample_regs_user) _) (λ _.
        one_optional _ one_user_stack _)))

    pub one_sample_end : HasOneOutcome (sample_end number format.sample_format.0 (register_masks_of format))
    one_sample_end =
        one_both _ _ (one_word _ _) (λ _.
        one_both _ _ (one_data_words format.sample_format.0) (λ _.
        one_both _ _ (one_optional _ (one_registers format.sample_regs_intr) _) (λ _.
        one_both _ _ (one_page_words format.sample_format.0) (λ _.
        one_optional _ one_aux_data _))))

    pub one_sample : HasOneOutcome (sample number format)
    one_sample = one_both _ _ one_sample_start (λ _. one_both _ _ one_sample_middle (λ _. one_sample_end))
