-- Each format consumes a prefix of the bytes.
use Rattle.std.proofs.Common.{◌≡◌, ℕ, ◌++◌, ◌∷◌, [], Bool, List, take, drop, refl, sym, ap, ◌∙◌, append_assoc}
use Rattle.std.specs.Prelude.{None, Some}
use Rattle.std.proofs.lemmas.List.{take-append-drop}
use Rattle.perfdata_identifiers.specs.ParseInfo.{is_set}
use Rattle.perfdata_events.specs.Prefix.{ConsumesPrefix}
use Rattle.perfdata_events.specs.Format.{Outcome, block, text, fixed, fixed_and_text, fixed_and_block, both, led, optional}
use Rattle.perfdata_events.specs.Fields.{u32_at, u64_at}
use Rattle.perfdata_events.specs.Words.{u64s, word, word_size, after, fixed_and_u64s}
use Rattle.perfdata_events.specs.SampleId.{sample_id}
use Rattle.perfdata_events.specs.Task.{task_at}
use Rattle.perfdata_events.specs.ReadValues.{details, times, counters, single_values, group_values, read_values, single, group}
use Rattle.perfdata_events.specs.Read.{read}
use Rattle.perfdata_events.specs.Mmap.{mapping_at}
use Rattle.perfdata_events.specs.Mmap2.{protection_at, mmap2}
use Rattle.perfdata_events.specs.FileId.{file_id}
use Rattle.perfdata_events.specs.Sample.{origin_words, event_words, raw_data, branch_stack, user_stack, sample_start, sample_middle, sample}
use Rattle.perfdata_events.specs.SampleEnd.{data_words, page_words, aux_data, sample_end}
use Rattle.perfdata_events.specs.CallChain.{chain}
use Rattle.perfdata_events.specs.SampleRegisters.{registers}
use Rattle.perfdata_events.specs.EventFormat.{register_masks_of}
use Rattle.perfdata_events.specs.declared.format.EventFormat.{EventFormat}

-- The bytes before a rest that drops n bytes.
before_drop : (n : ℕ) (xs rest : List ℕ) → rest ≡ drop n xs → (consumed : List ℕ) × (xs ≡ consumed ++ rest)
before_drop n xs rest is = (take n xs, sym (take-append-drop n xs) ∙ ap (λ l. take n xs ++ l) (sym is))

-- Two prefixes, one after the other.
two_prefixes : (xs ys zs : List ℕ) → (consumed : List ℕ) × (xs ≡ consumed ++ ys) → (consumed : List ℕ) × (ys ≡ consumed ++ zs) → (consumed : List ℕ) × (xs ≡ consumed ++ zs)
two_prefixes xs ys zs one two = (one.0 ++ two.0, one.1 ∙ ap (λ l. one.0 ++ l) two.1 ∙ sym (append_assoc one.0 two.0 zs))

pub prefix_fixed : {V : Type 0} (n : ℕ) (value_of : List ℕ → V) → ConsumesPrefix (fixed n value_of)
prefix_fixed n value_of xs v r q = before_drop n xs r q.rest_is

prefix_block : (n : ℕ) → ConsumesPrefix (block n)
prefix_block n xs v r q = before_drop n xs r q.rest_is

prefix_text : ConsumesPrefix text
prefix_text xs v r q = (v ++ (0 ∷ []), q.split ∙ sym (append_assoc v (0 ∷ []) r))

pub prefix_fixed_and_text : {V : Type 0} (n : ℕ) (value_of : List ℕ → V) → ConsumesPrefix (fixed_and_text n value_of)
prefix_fixed_and_text n value_of xs v r q = two_prefixes xs (drop n xs) r (before_drop n xs (drop n xs) refl) (prefix_text (drop n xs) v.1 r q.string_is)

pub prefix_fixed_and_block : {V : Type 0} (n : ℕ) (value_of : List ℕ → V) (size_of : List ℕ → ℕ) → ConsumesPrefix (fixed_and_block n value_of size_of)
prefix_fixed_and_block n value_of size_of xs v r q = two_prefixes xs (drop n xs) r (before_drop n xs (drop n xs) refl) (before_drop (size_of (take n xs)) (drop n xs) r q.block_is.rest_is)

prefix_word : {V : Type 0} (present : Bool) (value_of : List ℕ → V) → ConsumesPrefix (word present value_of)
prefix_word present value_of xs v r q = before_drop (word_size present) xs r q.rest_is

prefix_both : {A B : Type 0} (first : List ℕ → Outcome A → Type 0) (second : A → List ℕ → Outcome B → Type 0) → ConsumesPrefix first → ((a : A) → ConsumesPrefix (second a)) → ConsumesPrefix (both first second)
prefix_both first second one other xs v r q = two_prefixes xs q.middle r (one xs v.0 q.middle q.starts) (other v.0 q.middle v.1 r q.goes_on)

prefix_led : {A B : Type 0} (first : List ℕ → Outcome A → Type 0) (second : A → List ℕ → Outcome B → Type 0) → ConsumesPrefix first → ((a : A) → ConsumesPrefix (second a)) → ConsumesPrefix (led first second)
prefix_led first second one other xs v r q = two_prefixes xs q.middle r (one xs q.lead q.middle q.starts) (other q.lead q.middle v r q.goes_on)

prefix_optional : {V : Type 0} (format : List ℕ → Outcome V → Type 0) → ConsumesPrefix format → (present : Bool) → ConsumesPrefix (optional present format)
prefix_optional format one present xs (Some v) r q = one xs v r q.1
prefix_optional format one present xs None r q = ([], sym q.1)

-- The bytes after words are those after a prefix.
after_prefix : (format : ℕ) (bits xs : List ℕ) → (consumed : List ℕ) × (xs ≡ consumed ++ after format bits xs)
after_prefix format [] xs = ([], refl)
after_prefix format (bit ∷ bits) xs =
    let size = word_size (is_set format bit) in
    two_prefixes xs (drop size xs) (after format bits (drop size xs)) (before_drop size xs (drop size xs) refl) (after_prefix format bits (drop size xs))

before_words : (format : ℕ) (bits xs rest : List ℕ) → rest ≡ after format bits xs → (consumed : List ℕ) × (xs ≡ consumed ++ rest)
before_words format bits xs rest is = let p = after_prefix format bits xs in (p.0, p.1 ∙ ap (λ l. p.0 ++ l) (sym is))

module _ (number : ℕ → List ℕ → ℕ) where
  prefix_u64s : (n : ℕ) → ConsumesPrefix (u64s number n)
  prefix_u64s n xs v r q = before_drop _ xs r q.rest_is

  pub prefix_fixed_and_u64s : {V : Type 0} (n : ℕ) (value_of : List ℕ → V) (count_of : List ℕ → ℕ) → ConsumesPrefix (fixed_and_u64s number n value_of count_of)
  prefix_fixed_and_u64s n value_of count_of xs v r q = two_prefixes xs (drop n xs) r (before_drop n xs (drop n xs) refl) (prefix_u64s (count_of (take n xs)) (drop n xs) v.1 r q.numbers_are)

  pub prefix_sample_id : (format : ℕ) → ConsumesPrefix (sample_id number format)
  prefix_sample_id format xs v r q = before_words format (1 ∷ 2 ∷ 6 ∷ 9 ∷ 7 ∷ 16 ∷ []) xs r q.rest_is

  pub prefix_details : (format : ℕ) → ConsumesPrefix (details number format)
  prefix_details format xs v r q = before_words format (0 ∷ 1 ∷ 2 ∷ 4 ∷ []) xs r q.rest_is

  pub prefix_times : (format : ℕ) → ConsumesPrefix (times number format)
  prefix_times format xs v r q = before_words format (0 ∷ 1 ∷ []) xs r q.rest_is

  prefix_counters : (format n : ℕ) → ConsumesPrefix (counters number format n)
  prefix_counters format n xs v r q = before_drop _ xs r q.numbers_are.rest_is

  pub prefix_origin_words : (format : ℕ) → ConsumesPrefix (origin_words number format)
  prefix_origin_words format xs v r q = before_words format (16 ∷ 0 ∷ 1 ∷ 2 ∷ []) xs r q.rest_is

  pub prefix_event_words : (format : ℕ) → ConsumesPrefix (event_words number format)
  prefix_event_words format xs v r q = before_words format (3 ∷ 6 ∷ 9 ∷ 7 ∷ []) xs r q.rest_is

  pub prefix_data_words : (format : ℕ) → ConsumesPrefix (data_words number format)
  prefix_data_words format xs v r q = before_words format (15 ∷ 17 ∷ []) xs r q.rest_is

  pub prefix_page_words : (format : ℕ) → ConsumesPrefix (page_words number format)
  prefix_page_words format xs v r q = before_words format (19 ∷ 21 ∷ 22 ∷ 23 ∷ []) xs r q.rest_is

  prefix_u64 : ConsumesPrefix (fixed 8 (u64_at number 0))
  prefix_u64 = prefix_fixed 8 (u64_at number 0)

  prefix_single : (format : ℕ) → ConsumesPrefix (single_values number format)
  prefix_single format = prefix_both _ _ prefix_u64 (λ _. prefix_details format)

  prefix_group : (format : ℕ) → ConsumesPrefix (group_values number format)
  prefix_group format = prefix_led _ _ prefix_u64 (λ count. prefix_both _ _ (prefix_times format) (λ _. prefix_counters format count))

  prefix_values : (format : ℕ) → ConsumesPrefix (read_values number format)
  prefix_values format xs (single v) r q = prefix_single format xs v r q.1
  prefix_values format xs (group v) r q = prefix_group format xs v r q.1

  pub prefix_read : (format : ℕ) → ConsumesPrefix (read number format)
  prefix_read format = prefix_both _ _ (prefix_fixed 8 (task_at number)) (λ _. prefix_values format)

  prefix_file_id : (b : Bool) → ConsumesPrefix (file_id number b)
  prefix_file_id b xs v r q = before_drop 24 xs r q.rest_is

  pub prefix_mmap2 : (misc : ℕ) → ConsumesPrefix (mmap2 number misc)
  prefix_mmap2 misc = prefix_both _ _ (prefix_fixed 32 (mapping_at number misc)) (λ _. prefix_both _ _ (prefix_file_id (is_set misc 14)) (λ _. prefix_fixed_and_text 8 (protection_at number)))

  prefix_chain : ConsumesPrefix (chain number)
  prefix_chain = prefix_led _ _ prefix_u64 (λ n. prefix_u64s n)

  prefix_raw_data : ConsumesPrefix (raw_data number)
  prefix_raw_data = prefix_led _ _ (prefix_fixed 4 (u32_at number 0)) prefix_block

  prefix_aux_data : ConsumesPrefix (aux_data number)
  prefix_aux_data = prefix_led _ _ prefix_u64 prefix_block

  prefix_branch_stack : (branch_type : ℕ) → ConsumesPrefix (branch_stack number branch_type)
  prefix_branch_stack branch_type = prefix_led _ _ prefix_u64 (λ n. prefix_both _ _ (prefix_word _ _) (λ _. prefix_both _ _ (prefix_u64s _) (λ _. prefix_optional (u64s number n) (prefix_u64s n) (is_set branch_type 19))))

  prefix_registers : (mask : ℕ) → ConsumesPrefix (registers number mask)
  prefix_registers mask = prefix_both _ _ prefix_u64 (λ abi. prefix_u64s _)

  prefix_user_stack : ConsumesPrefix (user_stack number)
  prefix_user_stack = prefix_led _ _ prefix_u64 (λ size. prefix_both _ _ (prefix_block size) (λ _. prefix_word _ _))

  module _ (format : EventFormat) where
    prefix_start : ConsumesPrefix (sample_start number format)
    prefix_start =
        prefix_both _ _ (prefix_origin_words format.sample_format.0) (λ _.
        prefix_both _ _ (prefix_event_words format.sample_format.0) (λ _.
        prefix_both _ _ (prefix_word _ _) (λ _.
        prefix_both _ _ (prefix_optional (read_values number format.read_format.0) (prefix_values format.read_format.0) (is_set format.sample_format.0 4)) (λ _.
        prefix_optional (chain number) prefix_chain (is_set format.sample_format.0 5)))))

    prefix_middle : ConsumesPrefix (sample_middle number format)
    prefix_middle =
        prefix_both _ _ (prefix_optional (raw_data number) prefix_raw_data (is_set format.sample_format.0 10)) (λ _.
        prefix_both _ _ (prefix_optional (branch_stack number format.branch_sample_type.0) (prefix_branch_stack format.branch_sample_type.0) (is_set format.sample_format.0 11)) (λ _.
        prefix_both _ _ (prefix_optional (registers number format.sample_regs_user) (prefix_registers format.sample_regs_user) (is_set format.sample_format.0 12)) (λ _.
        prefix_optional (user_stack number) prefix_user_stack (is_set format.sample_format.0 13))))

    prefix_end : ConsumesPrefix (sample_end number format.sample_format.0 (register_masks_of format))
    prefix_end =
        prefix_both _ _ (prefix_word _ _) (λ _.
        prefix_both _ _ (prefix_data_words format.sample_format.0) (λ _.
        prefix_both _ _ (prefix_optional (registers number format.sample_regs_intr) (prefix_registers format.sample_regs_intr) (is_set format.sample_format.0 18)) (λ _.
        prefix_both _ _ (prefix_page_words format.sample_format.0) (λ _.
        prefix_optional (aux_data number) prefix_aux_data (is_set format.sample_format.0 20)))))

    pub prefix_sample : ConsumesPrefix (sample number format)
    prefix_sample = prefix_both _ _ prefix_start (λ _. prefix_both _ _ prefix_middle (λ _. prefix_end))
