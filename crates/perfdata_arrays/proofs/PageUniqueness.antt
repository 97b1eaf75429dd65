-- Consecutive pages of a file are one page, and a page is unique.
use Rattle.std.proofs.Common.{◌≡◌, ℕ, ◌+◌, ◌≤◌, ◌++◌, List, [], ◌∷◌, length, take, drop, refl, sym, ap, ◌∙◌, subst, arith, inl, inr, append_assoc, append-nil, length-append, Some}
use Rattle.std.specs.Prelude.{map}
use Rattle.std.proofs.Math.Seq.{take-append_seam}
use Rattle.perfdata_sources.specs.Source.{at_start}
use Rattle.perfdata_sections.specs.AttributeDescription.{DescribedEvent, attr_in, events_in, ids_in}
use Rattle.perfdata_sections.specs.declared.feature_sections.AttributeDescription.{AttributeDescription}
use Rattle.linux_perf_data.specs.declared.in_memory.position.RecordPosition.{RecordPosition}
use Rattle.linux_perf_data.specs.Attribute.{Attribute}
use Rattle.linux_perf_data.specs.Descriptions.{described_attributes}
use Rattle.linux_perf_data.specs.InMemoryPositions.{FileRecordsFrom, round_at}
use Rattle.linux_perf_data.specs.Reading.{end_after}
use Rattle.linux_perf_data.specs.Layout.{LayoutEnd, RecordView, record_views}
use Rattle.linux_perf_data.specs.Laws.{DescribeSame}
use Rattle.linux_perf_data.specs.PerfFile.{attributes_of_file, descriptions_of_file, endian_of_file}
use Rattle.linux_perf_data.proofs.FileUniqueness.{file_description_is_unique}
use Rattle.linux_perf_data.proofs.LayoutUniqueness.{layout_exists, remaining_is_unique}
use Rattle.perfdata_arrays.specs.Pages.{IsPage, PageIsUnique, PagesJoin, layout_end_status, position_after, round_after}
use Rattle.perfdata_arrays.specs.declared.status.Status.{Status}

abbrev attribute_of_event : DescribedEvent → Attribute
attribute_of_event e = record { attr = e.attr; ids = e.ids }

attributes_of_events : (ds : List AttributeDescription) → map attribute_of_event (events_in ds) ≡ described_attributes ds
attributes_of_events [] = refl
attributes_of_events (d ∷ ds) = ap (λ l. record { attr = attr_in d; ids = ids_in d } ∷ l) (attributes_of_events ds)

-- the records of a page, as those of a file
abbrev Remain : {base capacity : ℕ} {from next : RecordPosition} {records : List RecordView} {status : Status} (bytes : List ℕ) → IsPage bytes base from capacity records status next → RecordPosition → List RecordView → LayoutEnd → Type 0
Remain bytes page q = FileRecordsFrom bytes (endian_of_file page.file) page.header q (attributes_of_file page.file)

module _ (bytes : List ℕ) {base base' capacity capacity' : ℕ} {from from' next next' : RecordPosition} {records records' : List RecordView} {status status' : Status}
    (a : IsPage bytes base from capacity records status next) (b : IsPage bytes base' from' capacity' records' status' next') where
  pub same : DescribeSame a.header b.header a.file b.file
  same = file_description_is_unique (at_start bytes) a.header b.header a.file b.file a.describes b.describes

  pub same_attributes : attributes_of_file a.file ≡ attributes_of_file b.file
  same_attributes = sym (attributes_of_events (descriptions_of_file a.file)) ∙ ap (map attribute_of_event) same.events ∙ attributes_of_events (descriptions_of_file b.file)

  same_remaining : Remain bytes a ≡ Remain bytes b
  same_remaining = λ i q. FileRecordsFrom bytes (same.same_endian i) (same.header i) q (same_attributes i)

  pub of_first : (q : RecordPosition) (rs : List RecordView) (end : LayoutEnd) → Remain bytes b q rs end → Remain bytes a q rs end
  of_first q rs end remain = subst (λ C. C q rs end) (sym same_remaining) remain

  pub of_second : (q : RecordPosition) (rs : List RecordView) (end : LayoutEnd) → Remain bytes a q rs end → Remain bytes b q rs end
  of_second q rs end remain = subst (λ C. C q rs end) same_remaining remain

  pub same_base : base ≡ base'
  same_base = a.first_record_at ∙ ap (λ h. h.data_section.offset) same.header ∙ sym b.first_record_at

-- ---- the position after records

end_after-append : (offset : ℕ) (first later : List RecordView) → end_after offset (first ++ later) ≡ end_after (end_after offset first) later
end_after-append offset [] later = refl
end_after-append offset (h ∷ hs) later = end_after-append (h.offset + 8 + length h.body) hs later

round_after-append : (round : ℕ) (first later : List RecordView) → round_after round (first ++ later) ≡ round_after (round_after round first) later
round_after-append round [] later = refl
round_after-append round (h ∷ hs) later = round_after-append h.round hs later

-- the position after some records and then others
position_after-append : (from middle : RecordPosition) (first later : List RecordView) → middle ≡ position_after from first → middle.round ≤ middle.offset → position_after middle later ≡ position_after from (first ++ later)
position_after-append from middle first later is fits =
    let kept : round_at middle ≡ middle.round = omega (arith, fits) in
    let offset : end_after middle.offset later ≡ end_after from.offset (first ++ later) = ap (λ q. end_after q.offset later) is ∙ sym (end_after-append from.offset first later) in
    let round : round_after (round_at middle) later ≡ round_after (round_at from) (first ++ later) = ap (λ n. round_after n later) (kept ∙ ap (λ q. q.round) is) ∙ sym (round_after-append (round_at from) first later) in
    λ i. record { offset = offset i; round = round i }

pub pages_join : PagesJoin
pages_join bytes base later_base capacity later_capacity from middle next records later status a full b = record {
  file = a.file;
  header = a.header;
  describes = a.describes;
  first_record_at = a.first_record_at;
  extends_remaining = λ rest end remain.
      subst (λ l. Remain bytes a from l end) (sym (append_assoc records later rest)) (a.extends_remaining (later ++ rest) end (of_first bytes a b middle (later ++ rest) end (b.extends_remaining rest end (of_second bytes a b next rest end remain))));
  ends = elim b.ends [
    | inl all ↦ (let second = all.1 in inl (all.0, omega (arith, full, second, length-append records later)))
    | inr ended ↦ (let fewer = ended.0 in inr (omega (arith, full, fewer, length-append records later), (ended.1.0, of_first bytes a b next [] ended.1.0 ended.1.1, ended.1.2)))
  ];
  next_position = b.next_position ∙ position_after-append from middle records later a.next_position a.next_round_fits;
  next_fits = b.next_fits;
  next_round_fits = b.next_round_fits;
}

-- some records follow a page
module _ (bytes : List ℕ) {base capacity : ℕ} {from next : RecordPosition} {records : List RecordView} {status : Status} (page : IsPage bytes base from capacity records status next) where
  pub some_follow : (rest : List RecordView) × ((end : LayoutEnd) × Remain bytes page from (records ++ rest) end)
  some_follow =
      let order = endian_of_file page.file in
      let attrs = attributes_of_file page.file in
      let after = drop (page.header.data_section.offset + next.offset) bytes in
      let layout = layout_exists order after (Some page.header.data_section.size) next.offset attrs page.next_fits page.describes.consistent in
      let rest = record_views order (Some page.header.data_section.size) next.offset (round_at next) attrs layout.0 in
      (rest, (layout.1.0, page.extends_remaining rest layout.1.0 (record { raw_records = layout.0; layout = layout.1.1; elements = refl })))

-- equally many first records of equal lists
pub first_equal : (a b x y : List RecordView) → a ++ x ≡ b ++ y → length a ≡ length b → a ≡ b
first_equal a b x y is long = sym (take-append_seam a x) ∙ ap (take (length a)) is ∙ ap (λ n. take n (b ++ y)) long ∙ take-append_seam b y

pub page_is_unique : PageIsUnique
page_is_unique bytes base base' capacity capacity' from next next' records records' status status' bound a b =
    let same_next : records ≡ records' → next ≡ next' = λ same. a.next_position ∙ ap (position_after from) same ∙ sym b.next_position in
    elim a.ends [
      | inl full ↦ elim b.ends [
        | inl full' ↦ elim bound [
          | inl same_capacity ↦
              let x = some_follow bytes a in
              let y = some_follow bytes b in
              let unique = remaining_is_unique _ _ _ _ _ _ _ _ _ _ x.1.1 (of_first bytes a b from (records' ++ y.0) y.1.0 y.1.1) in
              let long = full.1 in
              let long' = full'.1 in
              let same = first_equal records records' x.0 y.0 unique.0 (omega (arith, long, long', same_capacity)) in
              (same, full.0 ∙ sym full'.0, same_base bytes a b, same_next same)
          | inr fewer ↦ (let long = full.1 in let less = fewer.0 in absurd (omega (arith, long, less)))
        ]
        | inr ended' ↦ elim bound [
          | inl same_capacity ↦
              let x = some_follow bytes a in
              let unique = remaining_is_unique _ _ _ _ _ _ _ _ _ _ x.1.1 (of_first bytes a b from (records' ++ []) ended'.1.0 (b.extends_remaining [] ended'.1.0 ended'.1.1)) in
              let long = full.1 in
              let less = ended'.0 in
              absurd (omega (arith, long, less, same_capacity, ap length unique.0, length-append records x.0, length-append records' []))
          | inr fewer ↦ (let long = full.1 in let less = fewer.0 in absurd (omega (arith, long, less)))
        ]
      ]
      | inr ended ↦ elim b.ends [
        | inl full' ↦ elim bound [
          | inl same_capacity ↦
              let y = some_follow bytes b in
              let unique = remaining_is_unique _ _ _ _ _ _ _ _ _ _ (a.extends_remaining [] ended.1.0 ended.1.1) (of_first bytes a b from (records' ++ y.0) y.1.0 y.1.1) in
              let long = full'.1 in
              let less = ended.0 in
              absurd (omega (arith, long, less, same_capacity, ap length unique.0, length-append records [], length-append records' y.0))
          | inr fewer ↦ (let long = full'.1 in let less = fewer.1 in absurd (omega (arith, long, less)))
        ]
        | inr ended' ↦
            let unique = remaining_is_unique _ _ _ _ _ _ _ _ _ _ (a.extends_remaining [] ended.1.0 ended.1.1) (of_first bytes a b from (records' ++ []) ended'.1.0 (b.extends_remaining [] ended'.1.0 ended'.1.1)) in
            let same = sym (append-nil records) ∙ unique.0 ∙ append-nil records' in
            (same, ended.1.2 ∙ ap layout_end_status unique.1 ∙ sym ended'.1.2, same_base bytes a b, same_next same)
      ]
    ]
