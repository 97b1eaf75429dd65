-- The time and the identifier of `sample_id` are those at the offsets that the reader uses.
use Rattle.std.proofs.Common.{◌≡◌, ◌≢◌, ℕ, ◌-◌, ◌<◌, ◌≤◌, inl, inr, true, false, List, ◌∷◌, [], length, take, drop, refl, sym, ap, subst, ◌∙◌, arith}
use Rattle.std.specs.Prelude.{◌==◌, nat_lt, cond, filter, Option, Some, None}
use Rattle.std.specs.Option.{option_map, option_and_then, option_or}
use Rattle.std.proofs.lemmas.Bool.Decides.{nat_tests}
use Rattle.perfdata_sources.specs.Raw.{bytes_of}
use Rattle.perfdata_sources.specs.Endian.{number_in}
use Rattle.perfdata_identifiers.specs.ParseInfo.{is_set, identifier_word, sample_words, trailing_words, offset_from_start, offset_from_end, parse_info_of, id_parse_info_of}
use Rattle.perfdata_identifiers.specs.BodyFields.{checked_offset_from_start, checked_offset_from_end, u64_field_at}
use Rattle.perfdata_identifiers.specs.RecordFields.{read_time, read_identifier}
use Rattle.perfdata_sources.specs.declared.attr.PerfEventAttr.{PerfEventAttr}
use Rattle.perfdata_base.specs.declared.event.raw_event_record.RawEventRecord.{RawEventRecord}
use Rattle.perfdata_sources.specs.declared.endian.Endianness.{Endianness}
use Rattle.perfdata_events.proofs.Offsets.{set_or_not, after_length, value_from_start, value_from_end}
use Rattle.perfdata_events.specs.EventFormat.{event_format_of, trailing_size, trailing}
use Rattle.perfdata_events.specs.Fields.{u64_at}
use Rattle.perfdata_events.specs.RecordId.{IsLeadingId, IsTrailingId, IsSampleIdOf}
use Rattle.perfdata_events.specs.Words.{words_size, word_if, after, word_after}
use Rattle.perfdata_events.specs.declared.sample_id.SampleId.{SampleId}

abbrev trailing_bits : List ℕ
trailing_bits = 1 ∷ 2 ∷ 6 ∷ 9 ∷ 7 ∷ 16 ∷ []

module _ (order : Endianness) (body : List ℕ) where
  abbrev number_at : Option ℕ → Option ℕ
  number_at offset = option_map (λ at. number_in order 8 (drop at body)) offset

  abbrev from_start : Option ℕ → Option ℕ
  from_start o = number_at (option_and_then (checked_offset_from_start (length body)) o)

  abbrev from_end : Option ℕ → Option ℕ
  from_end o = number_at (option_and_then (checked_offset_from_end (length body)) o)

  in_sample : (start back : Option ℕ) (kind : ℕ) → kind ≡ 9 → from_start start ≡ u64_field_at order start back kind body
  in_sample start back kind e = ap (λ k. u64_field_at order start back k body) (sym e)

  in_other : (start back : Option ℕ) (kind : ℕ) → kind < 64 → kind ≢ 9 → from_end back ≡ u64_field_at order start back kind body
  in_other start back kind lt ne =
      let low : nat_lt kind 64 ≡ true = grind (arith, nat_tests) in
      let other : (kind == 9) ≡ false = grind (arith, nat_tests) in
      sym (ap (λ b. number_at (cond b (cond (kind == 9) (option_and_then (checked_offset_from_start (length body)) start) (option_and_then (checked_offset_from_end (length body)) back)) None)) low
      ∙ ap (λ b. number_at (cond b (option_and_then (checked_offset_from_start (length body)) start) (option_and_then (checked_offset_from_end (length body)) back))) other)

module _ (attr : PerfEventAttr) (order : Endianness) where
  abbrev bits : ℕ
  bits = attr.sample_format.0

  abbrev flags : ℕ
  flags = attr.flags.0

  module _ (body : List ℕ) (id : SampleId) where
    sample_time : IsLeadingId (event_format_of attr order) body id → id.timestamp ≡ from_start order body (offset_from_start (sample_words bits) 2)
    sample_time is =
        let origin = is.header_bytes_is.starts in
        let enough = origin.enough in
        ap (λ (v : SampleId). v.timestamp) is.id_is ∙ origin.timestamp_is
        ∙ value_from_start bits 2 (16 ∷ 0 ∷ 1 ∷ []) (3 ∷ 6 ∷ []) refl refl refl order body (omega (arith, enough))

    sample_identifier : IsLeadingId (event_format_of attr order) body id → option_or id.identifier id.id ≡ from_start order body (offset_from_start (sample_words bits) (identifier_word bits))
    sample_identifier is =
        let origin = is.header_bytes_is.starts in
        let event = is.header_bytes_is.goes_on in
        let enough = origin.enough in
        let more = event.enough in
        let identifier : id.identifier ≡ word_after bits [] 16 (u64_at (number_in order) 0) body = ap (λ (v : SampleId). v.identifier) is.id_is ∙ origin.identifier_is in
        elim (set_or_not (is_set bits 16)) [
          | inl e ↦
              let some : id.identifier ≡ Some (u64_at (number_in order) 0 (take 8 body)) = identifier ∙ ap (λ b. cond b (Some (u64_at (number_in order) 0 (take 8 body))) None) e in
              ap (λ o. option_or o id.id) some ∙ sym some ∙ identifier
              ∙ value_from_start bits 16 [] (0 ∷ 1 ∷ 2 ∷ 3 ∷ 6 ∷ []) refl refl refl order body (omega (arith, enough))
              ∙ ap (λ b. from_start order body (offset_from_start (sample_words bits) (cond b 16 6))) (sym e)
          | inr e ↦
              let mid = after_length bits (16 ∷ 0 ∷ 1 ∷ 2 ∷ []) body enough in
              let same = ap length origin.rest_is in
              ap (λ o. option_or o id.id) (identifier ∙ ap (λ b. cond b (Some (u64_at (number_in order) 0 (take 8 body))) None) e)
              ∙ ap (λ (v : SampleId). v.id) is.id_is ∙ event.id_is ∙ ap (word_after bits (3 ∷ []) 6 (u64_at (number_in order) 0)) origin.rest_is
              ∙ value_from_start bits 6 (16 ∷ 0 ∷ 1 ∷ 2 ∷ 3 ∷ []) [] refl refl refl order body (omega (arith, enough, more, mid, same))
              ∙ ap (λ b. from_start order body (offset_from_start (sample_words bits) (cond b 16 6))) (sym e)
        ]

    module _ (set : is_set flags 18 ≡ true) (is : IsTrailingId (event_format_of attr order) body id) where
      size : trailing_size (event_format_of attr order) ≡ words_size bits trailing_bits
      size = ap (λ b. cond b (words_size bits trailing_bits) 0) set

      enough_bytes : words_size bits trailing_bits ≤ length body
      enough_bytes = subst (λ n. n ≤ length body) size is.enough

      to_trailing : (word : ℕ) → from_end order body (offset_from_end (filter (is_set bits) trailing_bits) word) ≡ from_end order body (offset_from_end (trailing_words bits flags) word)
      to_trailing word = ap (λ b. from_end order body (offset_from_end (cond b (filter (is_set bits) trailing_bits) []) word)) (sym set)

      to_end : (word : ℕ) (before : List ℕ) → word_after bits before word (u64_at (number_in order) 0) (trailing (event_format_of attr order) body)
          ≡ word_after bits before word (u64_at (number_in order) 0) (drop (length body - words_size bits trailing_bits) body)
      to_end word before = ap (λ n. word_after bits before word (u64_at (number_in order) 0) (drop (length body - n) body)) size

      other_time : id.timestamp ≡ from_end order body (offset_from_end (trailing_words bits flags) 2)
      other_time =
          is.id_is.timestamp_is ∙ to_end 2 (1 ∷ [])
          ∙ value_from_end bits 2 (1 ∷ []) (6 ∷ 9 ∷ 7 ∷ 16 ∷ []) refl refl refl order body enough_bytes
          ∙ to_trailing 2

      other_identifier : option_or id.identifier id.id ≡ from_end order body (offset_from_end (trailing_words bits flags) (identifier_word bits))
      other_identifier =
          let ys : List ℕ = after bits (1 ∷ 2 ∷ 6 ∷ 9 ∷ 7 ∷ []) (trailing (event_format_of attr order) body) in
          let identifier : id.identifier ≡ word_if (is_set bits 16) (u64_at (number_in order) 0) ys = is.id_is.identifier_is in
          elim (set_or_not (is_set bits 16)) [
            | inl e ↦
                let some : id.identifier ≡ Some (u64_at (number_in order) 0 (take 8 ys)) = identifier ∙ ap (λ b. cond b (Some (u64_at (number_in order) 0 (take 8 ys))) None) e in
                ap (λ o. option_or o id.id) some ∙ sym some ∙ identifier ∙ to_end 16 (1 ∷ 2 ∷ 6 ∷ 9 ∷ 7 ∷ [])
                ∙ value_from_end bits 16 (1 ∷ 2 ∷ 6 ∷ 9 ∷ 7 ∷ []) [] refl refl refl order body enough_bytes
                ∙ to_trailing 16
                ∙ ap (λ b. from_end order body (offset_from_end (trailing_words bits flags) (cond b 16 6))) (sym e)
            | inr e ↦
                ap (λ o. option_or o id.id) (identifier ∙ ap (λ b. cond b (Some (u64_at (number_in order) 0 (take 8 ys))) None) e)
                ∙ is.id_is.id_is ∙ to_end 6 (1 ∷ 2 ∷ [])
                ∙ value_from_end bits 6 (1 ∷ 2 ∷ []) (9 ∷ 7 ∷ 16 ∷ []) refl refl refl order body enough_bytes
                ∙ to_trailing 6
                ∙ ap (λ b. from_end order body (offset_from_end (trailing_words bits flags) (cond b 16 6))) (sym e)
          ]

    -- Without the flag no field has an offset from the end.
    no_offset : (word : ℕ) → is_set flags 18 ≡ false → None ≡ from_end order body (offset_from_end (trailing_words bits flags) word)
    no_offset word unset = ap (λ b. from_end order body (offset_from_end (cond b (filter (is_set bits) trailing_bits) []) word)) (sym unset)

pub time_agrees : (attr : PerfEventAttr) (order : Endianness) (raw : RawEventRecord) (id : SampleId) → raw.record_type.0 < 64 → IsSampleIdOf (event_format_of attr order) raw id
    → id.timestamp ≡ read_time (parse_info_of attr order) raw.record_type.0 (bytes_of raw.body)
time_agrees attr order raw id lt is =
    let body : List ℕ = bytes_of raw.body in
    let start : Option ℕ = offset_from_start (sample_words (bits attr order)) 2 in
    let back : Option ℕ = offset_from_end (trailing_words (bits attr order) (flags attr order)) 2 in
    elim is [
      | inl q ↦ sample_time attr order body id (q.1) ∙ in_sample order body start back raw.record_type.0 (q.0)
      | inr other ↦ elim other [
        | inl q ↦ other_time attr order body id (q.1) (q.2) ∙ in_other order body start back raw.record_type.0 lt (q.0)
        | inr q ↦ ap (λ (v : SampleId). v.timestamp) (q.2) ∙ no_offset attr order body id 2 (q.1) ∙ in_other order body start back raw.record_type.0 lt (q.0)
      ]
    ]

pub identifier_agrees : (attr : PerfEventAttr) (order : Endianness) (raw : RawEventRecord) (id : SampleId) → raw.record_type.0 < 64 → IsSampleIdOf (event_format_of attr order) raw id
    → option_or id.identifier id.id ≡ read_identifier order (id_parse_info_of attr) raw.record_type.0 (bytes_of raw.body)
identifier_agrees attr order raw id lt is =
    let body : List ℕ = bytes_of raw.body in
    let word : ℕ = identifier_word (bits attr order) in
    let start : Option ℕ = offset_from_start (sample_words (bits attr order)) word in
    let back : Option ℕ = offset_from_end (trailing_words (bits attr order) (flags attr order)) word in
    elim is [
      | inl q ↦ sample_identifier attr order body id (q.1) ∙ in_sample order body start back raw.record_type.0 (q.0)
      | inr other ↦ elim other [
        | inl q ↦ other_identifier attr order body id (q.1) (q.2) ∙ in_other order body start back raw.record_type.0 lt (q.0)
        | inr q ↦ ap (λ (v : SampleId). option_or v.identifier v.id) (q.2) ∙ no_offset attr order body id word (q.1) ∙ in_other order body start back raw.record_type.0 lt (q.0)
      ]
    ]
