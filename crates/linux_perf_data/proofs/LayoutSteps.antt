-- The remaining records before a raw record, from those after it.
use Rattle.std.proofs.Common.{◌≡◌, ◌≢◌, ◌==◌, ℕ, ◌+◌, ◌^◌, ◌<◌, ◌++◌, List, [], ◌∷◌, Bool, true, false, length, drop, refl, sym, ap, ◌∙◌, subst, arith, append_assoc, length-append}
use Rattle.std.specs.Prelude.{if◌then◌else◌}
use Rattle.std.specs.List.{concat}
use Rattle.std.proofs.lemmas.List.{append-nil}
use Rattle.std.proofs.lemmas.List.Elements.{All-nil, All-cons}
use Rattle.perfdata_sources.specs.declared.endian.Endianness.{Endianness}
use Rattle.linux_perf_data.specs.Attribute.{Attribute, AreConsistent}
use Rattle.linux_perf_data.specs.Layout.{SectionSize, MayStartAt, IsEnd, IsValidRecord, attributes_in_record, attributes_in_records, LayoutError, ErrorAt, LayoutEnd, ends_complete, ends_with_error, EndsWith, Layout, all_but_last, RecordView, record_views, record_view_in, RemainingRecords, record_type_of}

rule_alone : (attrs : List Attribute) → AreConsistent attrs → AreConsistent (attrs ++ [])
rule_alone attrs rule = subst AreConsistent (sym (append-nil attrs)) rule

-- a layout without raw records
pub layout_stop : (order : Endianness) (bytes : List ℕ) (bound : SectionSize) (offset : ℕ) (attrs : List Attribute) (end : LayoutEnd) → offset < 2 ^ 64 → AreConsistent attrs
    → EndsWith order bound offset attrs bytes end → Layout order bytes bound offset attrs [] end
layout_stop order bytes bound offset attrs end fits rule ends =
    let z : offset ≡ offset + 0 = omega arith in
    record {
      rest = bytes;
      split = refl;
      elements = All-nil (IsValidRecord order bound);
      starts_in_section = λ some. absurd (some refl);
      end_fits = omega arith;
      consistent = rule_alone attrs rule;
      end_matches = subst (λ a. EndsWith order bound (offset + 0) a bytes end) (sym (append-nil attrs)) (subst (λ o. EndsWith order bound o attrs bytes end) z ends);
    }

-- the records end here and none remains
pub nothing_more : (order : Endianness) (bytes : List ℕ) (bound : SectionSize) (offset round : ℕ) (attrs : List Attribute) → offset < 2 ^ 64 → AreConsistent attrs
    → IsEnd order bound offset bytes → RemainingRecords order bytes bound offset round attrs [] ends_complete
nothing_more order bytes bound offset round attrs fits rule done = record {
  raw_records = [];
  layout = layout_stop order bytes bound offset attrs ends_complete fits rule done;
  elements = refl;
}

-- a layout error is here and no record remains
pub error_next : (order : Endianness) (bytes : List ℕ) (bound : SectionSize) (offset round : ℕ) (attrs : List Attribute) (f : LayoutError) → offset < 2 ^ 64 → AreConsistent attrs
    → MayStartAt bound offset → ErrorAt order bound offset attrs bytes f → RemainingRecords order bytes bound offset round attrs [] (ends_with_error f)
error_next order bytes bound offset round attrs f fits rule more fault = record {
  raw_records = [];
  layout = layout_stop order bytes bound offset attrs (ends_with_error f) fits rule (more, fault);
  elements = refl;
}

begins : (p : List ℕ) (ps : List (List ℕ)) (bound : SectionSize) (offset : ℕ) → MayStartAt bound offset
    → (ps ≢ [] → MayStartAt bound (offset + length p + length (concat (all_but_last ps)))) → MayStartAt bound (offset + length (concat (all_but_last (p ∷ ps))))
begins p [] bound offset more later = let z : offset ≡ offset + 0 = omega arith in subst (MayStartAt bound) z more
begins p (q ∷ qs) bound offset more later =
    let z : offset + length p + length (concat (all_but_last (q ∷ qs))) ≡ offset + length (p ++ concat (all_but_last (q ∷ qs))) = omega (arith, length-append p (concat (all_but_last (q ∷ qs)))) in
    subst (MayStartAt bound) z (later (λ e. cc))

-- a raw record before a layout
pub layout_more : (order : Endianness) (bytes later p : List ℕ) (bound : SectionSize) (offset : ℕ) (attrs : List Attribute) (ps : List (List ℕ)) (end : LayoutEnd) → IsValidRecord order bound p → bytes ≡ p ++ later → MayStartAt bound offset
    → Layout order later bound (offset + length p) (attrs ++ attributes_in_record order bound (record_type_of order p) (drop 8 p)) ps end → Layout order bytes bound offset attrs (p ∷ ps) end
layout_more order bytes later p bound offset attrs ps end is cut more layout =
    let sum : offset + length p + length (concat ps) ≡ offset + length (p ++ concat ps) = omega (arith, length-append p (concat ps)) in
    let fits = layout.end_fits in
    let adds = attributes_in_record order bound (record_type_of order p) (drop 8 p) in
    let same : (attrs ++ adds) ++ attributes_in_records order bound ps ≡ attrs ++ (adds ++ attributes_in_records order bound ps) = append_assoc attrs adds (attributes_in_records order bound ps) in
    record {
      rest = layout.rest;
      split = cut ∙ ap (λ l. p ++ l) layout.split ∙ sym (append_assoc p (concat ps) layout.rest);
      elements = All-cons (IsValidRecord order bound) p ps is layout.elements;
      starts_in_section = λ _. begins p ps bound offset more layout.starts_in_section;
      end_fits = omega (arith, sum, fits);
      consistent = subst AreConsistent same layout.consistent;
      end_matches = subst (λ a. EndsWith order bound (offset + length (p ++ concat ps)) a layout.rest end) same (subst (λ o. EndsWith order bound o ((attrs ++ adds) ++ attributes_in_records order bound ps) layout.rest end) sum layout.end_matches);
    }

returned_more : (order : Endianness) (b : Bool) (bound : SectionSize) (offset round later : ℕ) (attrs : List Attribute) (h : RecordView) (ps : List (List ℕ)) (rs : List RecordView) → later ≡ (if b then round + 1 else round) → rs ≡ record_views order bound offset later attrs ps
    → (if b then rs else h ∷ rs) ≡ (if b then record_views order bound offset (round + 1) attrs ps else h ∷ record_views order bound offset round attrs ps)
returned_more order true bound offset round later attrs h ps rs is are = are ∙ ap (λ r. record_views order bound offset r attrs ps) is
returned_more order false bound offset round later attrs h ps rs is are = ap (λ l. h ∷ l) (are ∙ ap (λ r. record_views order bound offset r attrs ps) is)

-- A raw record before the remaining records: a marker increments the round, any other raw record is returned.
pub remaining_more : (order : Endianness) (bytes later p : List ℕ) (bound : SectionSize) (offset round round' : ℕ) (attrs : List Attribute) (rs : List RecordView) (end : LayoutEnd) → IsValidRecord order bound p → bytes ≡ p ++ later → MayStartAt bound offset
    → round' ≡ (if record_type_of order p == 68 then round + 1 else round)
    → RemainingRecords order later bound (offset + length p) round' (attrs ++ attributes_in_record order bound (record_type_of order p) (drop 8 p)) rs end
    → RemainingRecords order bytes bound offset round attrs (if record_type_of order p == 68 then rs else record_view_in order offset round attrs p ∷ rs) end
remaining_more order bytes later p bound offset round round' attrs rs end is cut more turn come = record {
  raw_records = p ∷ come.raw_records;
  layout = layout_more order bytes later p bound offset attrs come.raw_records end is cut more come.layout;
  elements = returned_more order (record_type_of order p == 68) bound (offset + length p) round round' (attrs ++ attributes_in_record order bound (record_type_of order p) (drop 8 p)) (record_view_in order offset round attrs p) come.raw_records rs turn come.elements;
}
