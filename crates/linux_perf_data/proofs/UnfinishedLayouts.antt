-- The records of an unfinished file are exactly its whole records.
use Rattle.std.proofs.Common.{◌≡◌, ℕ, ◌+◌, ◌-◌, ◌^◌, ◌<◌, ◌≤◌, ◌++◌, List, [], ◌∷◌, length, take, drop, refl, sym, ap, ◌∙◌, subst, arith, inl, inr, IsTrue, append_assoc, append-nil, length-append, length-take, take-append-drop}
use Rattle.std.specs.Prelude.{◌⊎◌, All, Some}
use Rattle.std.specs.List.{concat}
use Rattle.std.proofs.Math.ListN.{drop_of_length-le}
use Rattle.std.proofs.Math.Seq.{drop-append_seam, take-append_seam}
use Rattle.std.proofs.lemmas.Bool.{cases_lt}
use Rattle.std.proofs.lemmas.List.{drop-take}
use Rattle.std.proofs.lemmas.List.Elements.{All-head, All-tail, All-weaker}
use Rattle.perfdata_sources.specs.Source.{Position}
use Rattle.perfdata_sources.specs.declared.endian.Endianness.{Endianness}
use Rattle.perfdata_base.specs.declared.header.PerfHeader.{PerfHeader}
use Rattle.linux_perf_data.specs.Attribute.{Attribute, AreConsistent}
use Rattle.linux_perf_data.specs.Layout.{IsRecord, RecordView, LayoutEnd, ends_complete, Layout, record_views, attributes_in_records, record_type_of, record_size_of, total_size_of}
use Rattle.linux_perf_data.specs.UnfinishedFile.{has_whole_data, IsWholeRecord, IsPartialRecord, HasInvalidSize, IsRecordsSize, IsDataSize, UnfinishedRecords}
use Rattle.linux_perf_data.proofs.ConsistencyLemmas.{consistent_prefix}
use Rattle.linux_perf_data.proofs.LayoutSteps.{layout_stop, layout_more}
use Rattle.linux_perf_data.proofs.LayoutUniqueness.{remaining_is_unique}
use Rattle.linux_perf_data.proofs.RecordHeaders.{record_least, record_type_prefix, size_first_part, size_in_total_size, total_size_front}

-- ---- whole records before what isn't whole

module _ (order : Endianness) where
  whole_least : (p : List ℕ) → IsWholeRecord order p → 8 ≤ length p
  whole_least p is = let least = is.min_size in let long = is.exact_len in let inside = size_in_total_size order p in omega (arith, least, long, inside)

  whole_traced : (p : List ℕ) → IsWholeRecord order p → record_type_of order p ≡ 71 → 16 ≤ length p
  whole_traced p is traced = let least = is.aux_min_size traced in let long = is.exact_len in let inside = size_in_total_size order p in omega (arith, least, long, inside)

  whole_length : (p r : List ℕ) → IsWholeRecord order p → total_size_of order (p ++ r) ≡ length p
  whole_length p r is = total_size_front order p r (whole_least p is) (whole_traced p is) ∙ sym is.exact_len

  -- bytes that start with a whole record
  record StartsWhole (rest : List ℕ) : Type 0 where
    pub least : 8 ≤ record_size_of order rest
    pub traced : record_type_of order rest ≡ 71 → 48 ≤ record_size_of order rest
    pub size_fits : record_size_of order rest ≤ length rest
    pub total_fits : total_size_of order rest ≤ length rest

  starts_whole : (rest p r : List ℕ) → IsWholeRecord order p → rest ≡ p ++ r → StartsWhole rest
  starts_whole rest p r is split =
      let long = whole_least p is in
      let all = ap length split in
      let sum = length-append p r in
      let size : record_size_of order rest ≡ record_size_of order p = ap (record_size_of order) split ∙ size_first_part order p r long in
      let type : record_type_of order rest ≡ record_type_of order p = ap (record_type_of order) split ∙ record_type_prefix order p r long in
      let total : total_size_of order rest ≡ length p = ap (total_size_of order) split ∙ whole_length p r is in
      let least = is.min_size in
      let inside = size_in_total_size order p in
      let exact = is.exact_len in
      record {
        least = omega (arith, size, least);
        traced = λ traced. (let more = is.aux_min_size (sym type ∙ traced) in omega (arith, size, more));
        size_fits = omega (arith, size, inside, exact, all, sum);
        total_fits = omega (arith, total, all, sum);
      }

  -- no whole record starts in a partial one, or where the size is invalid
  not_partial : (rest : List ℕ) → StartsWhole rest → IsPartialRecord order rest → ⊥
  not_partial rest is (inl few) = let least = is.least in let fits = is.size_fits in omega (arith, few, least, fits)
  not_partial rest is (inr (least, inl few)) = let fits = is.size_fits in omega (arith, few, fits)
  not_partial rest is (inr (least, inr (traced, more, few))) = let fits = is.total_fits in omega (arith, few, fits)

  not_invalid : (rest : List ℕ) → StartsWhole rest → HasInvalidSize order rest → ⊥
  not_invalid rest is (long, inl small) = let least = is.least in omega (arith, small, least)
  not_invalid rest is (long, inr (fits, traced, small)) = let more = is.traced traced in omega (arith, small, more)

  abbrev Stops : List ℕ → Type 0
  Stops rest = IsPartialRecord order rest ⊎ HasInvalidSize order rest

  not_whole : (rest p r : List ℕ) → Stops rest → IsWholeRecord order p → rest ≡ p ++ r → ⊥
  not_whole rest p r (inl part) is split = not_partial rest (starts_whole rest p r is split) part
  not_whole rest p r (inr invalid) is split = not_invalid rest (starts_whole rest p r is split) invalid

  partial_or_invalid : (rest : List ℕ) → IsPartialRecord order rest → HasInvalidSize order rest → ⊥
  partial_or_invalid rest (inl few) (long, x) = omega (arith, few, long)
  partial_or_invalid rest (inr (least, inl few)) (long, inl small) = omega (arith, least, small)
  partial_or_invalid rest (inr (least, inl few)) (long, inr (fits, traced, small)) = omega (arith, few, fits)
  partial_or_invalid rest (inr (least, inr (traced, more, few))) (long, inl small) = omega (arith, least, small)
  partial_or_invalid rest (inr (least, inr (traced, more, few))) (long, inr (fits, also, small)) = omega (arith, more, small)

  -- bytes split into whole records and a rest in one way
  split_is_unique : (ps qs : List (List ℕ)) (rest later : List ℕ) → All (IsWholeRecord order) ps → All (IsWholeRecord order) qs → Stops rest → Stops later → concat ps ++ rest ≡ concat qs ++ later → (ps ≡ qs) × (rest ≡ later)
  split_is_unique [] [] rest later are others x y e = (refl, e)
  split_is_unique [] (q ∷ qs) rest later are others x y e = absurd (not_whole rest q (concat qs ++ later) x (All-head (IsWholeRecord order) q qs others) (e ∙ append_assoc q (concat qs) later))
  split_is_unique (p ∷ ps) [] rest later are others x y e = absurd (not_whole later p (concat ps ++ rest) y (All-head (IsWholeRecord order) p ps are) (sym e ∙ append_assoc p (concat ps) rest))
  split_is_unique (p ∷ ps) (q ∷ qs) rest later are others x y e =
      let a = concat ps ++ rest in
      let b = concat qs ++ later in
      let cut : p ++ a ≡ q ++ b = sym (append_assoc p (concat ps) rest) ∙ e ∙ append_assoc q (concat qs) later in
      let long : length p ≡ length q = sym (whole_length p a (All-head (IsWholeRecord order) p ps are)) ∙ ap (total_size_of order) cut ∙ whole_length q b (All-head (IsWholeRecord order) q qs others) in
      let same : p ≡ q = sym (take-append_seam p a) ∙ ap (take (length p)) cut ∙ ap (λ n. take n (q ++ b)) long ∙ take-append_seam q b in
      let next : a ≡ b = sym (drop-append_seam p a) ∙ ap (drop (length p)) cut ∙ ap (λ n. drop n (q ++ b)) long ∙ drop-append_seam q b in
      let more = split_is_unique ps qs rest later (All-tail (IsWholeRecord order) p ps are) (All-tail (IsWholeRecord order) q qs others) x y next in
      (ap (λ r. r ∷ ps) same ∙ ap (λ rs. q ∷ rs) more.0, more.1)

  -- whole records before a partial one determine the size of the records
  size_of_whole : (bytes : List ℕ) (ps : List (List ℕ)) (rest : List ℕ) (size : ℕ) → bytes ≡ concat ps ++ rest → All (IsWholeRecord order) ps → IsPartialRecord order rest → IsRecordsSize order bytes size → size ≡ length (concat ps)
  size_of_whole bytes ps rest size split are part sized = go sized.ends
    where
      go : (IsPartialRecord order sized.rest × (size ≡ length (concat sized.raw_records))) ⊎ (HasInvalidSize order sized.rest × (size ≡ length bytes)) → size ≡ length (concat ps)
      go (inl (also, is)) = is ∙ sym (ap (λ rs. length (concat rs)) (split_is_unique ps sized.raw_records rest sized.rest are sized.elements (inl part) (inl also) (sym split ∙ sized.split)).0)
      go (inr (invalid, is)) =
          let same = (split_is_unique ps sized.raw_records rest sized.rest are sized.elements (inl part) (inr invalid) (sym split ∙ sized.split)).1 in
          absurd (partial_or_invalid sized.rest (subst (IsPartialRecord order) same part) invalid)

  -- ---- the layout of whole records

  whole_layout : (ps : List (List ℕ)) (later : List ℕ) (size offset : ℕ) (attrs : List Attribute) → All (IsRecord order) ps → AreConsistent attrs → size ≡ offset + length (concat ps) → size < 2 ^ 64 → Layout order (concat ps ++ later) (Some size) offset attrs ps ends_complete
  whole_layout [] later size offset attrs are rule ends fits =
      layout_stop order later (Some size) offset attrs ends_complete (omega (arith, ends, fits)) rule (omega (arith, ends))
  whole_layout (p ∷ ps) later size offset attrs are rule ends fits =
      let is = All-head (IsRecord order) p ps are in
      let sum = length-append p (concat ps) in
      let next : size ≡ offset + length p + length (concat ps) = omega (arith, ends, sum) in
      let long = record_least order p is in
      layout_more order (concat (p ∷ ps) ++ later) (concat ps ++ later) p (Some size) offset attrs ps ends_complete
      (record { is_record = is; valid_attribute = λ none. absurd cc; valid_feature = λ none. absurd cc; valid_event_desc = λ none. absurd cc })
      (append_assoc p (concat ps) later)
      (omega (arith, next, long))
      (subst (λ a. Layout order (concat ps ++ later) (Some size) (offset + length p) a ps ends_complete) (sym (append-nil attrs)) (whole_layout ps later size (offset + length p) attrs (All-tail (IsRecord order) p ps are) rule next fits))

  -- the visible bytes from an offset on are a prefix of all
  visible_prefix : (at len : ℕ) (all : List ℕ) → (more : List ℕ) × (drop at all ≡ drop at (take len all) ++ more)
  visible_prefix at len all = elim (cases_lt len at) [
    | inl past ↦ (drop at all, (let few = length-take len all in let short : length (take len all) ≤ at = omega (arith, few, past) in let none : drop at (take len all) ≡ [] = drop_of_length-le (take len all) short in sym (ap (λ l. l ++ drop at all) none)))
    | inr inside ↦ (
      drop (len - at) (drop at all),
      (let whole : at + (len - at) ≡ len = omega (arith, inside) in
          let seen : drop at (take len all) ≡ take (len - at) (drop at all) = ap (λ k. drop at (take k all)) (sym whole) ∙ drop-take at (len - at) all in
          sym (ap (λ l. l ++ drop (len - at) (drop at all)) seen ∙ take-append-drop (len - at) (drop at all))),
    )
  ]

  pub whole_records_remain : (p : Position) (h : PerfHeader) (len size : ℕ) (attrs : List Attribute) (raw_records : List (List ℕ)) (rest : List ℕ) (records : List RecordView) (end : LayoutEnd)
      → ¬ IsTrue (has_whole_data h len) → drop h.data_section.offset (take len p.all_bytes) ≡ concat raw_records ++ rest → All (IsRecord order) raw_records → IsPartialRecord order rest → IsDataSize order h p.all_bytes len size → size < 2 ^ 64
      → UnfinishedRecords p order h size attrs records end → (records ≡ record_views order (Some size) 0 0 attrs raw_records) × (end ≡ ends_complete)
  whole_records_remain p h len size attrs raw_records rest records end unfinished split are part sized fits come =
      let at = h.data_section.offset in
      let wholes = All-weaker (IsRecord order) (IsWholeRecord order) (λ r is. record { min_size = is.min_size; aux_min_size = is.aux_min_size; exact_len = is.exact_len }) raw_records are in
      let counted : size ≡ length (concat raw_records) = elim sized [
        | inl (whole, is) ↦ absurd (unfinished whole)
        | inr (other, is) ↦ size_of_whole (drop at (take len p.all_bytes)) raw_records rest size split wholes part is
      ] in
      let visible = visible_prefix at len p.all_bytes in
      let all : drop at p.all_bytes ≡ concat raw_records ++ (rest ++ visible.0) = visible.1 ∙ ap (λ l. l ++ visible.0) split ∙ append_assoc (concat raw_records) rest visible.0 in
      let rule = consistent_prefix attrs (attributes_in_records order (Some size) come.raw_records) come.layout.consistent in
      let layout = whole_layout raw_records (rest ++ visible.0) size 0 attrs are rule (omega (arith, counted)) fits in
      remaining_is_unique order (drop at p.all_bytes) (Some size) 0 0 attrs records (record_views order (Some size) 0 0 attrs raw_records) end ends_complete come
      (record { raw_records = raw_records; layout = subst (λ b. Layout order b (Some size) 0 attrs raw_records ends_complete) (sym all) layout; elements = refl })
