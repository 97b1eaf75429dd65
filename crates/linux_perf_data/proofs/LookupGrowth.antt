-- The attribute lookup after one more attribute.
use Rattle.std.proofs.Common.{◌≡◌, ◌≢◌, ℕ, ◌+◌, ◌++◌, List, [], ◌∷◌, Bool, true, false, length, refl, sym, ap, ◌∙◌, subst, arith}
use Rattle.std.specs.Prelude.{if◌then◌else◌, Option, None, Some}
use Rattle.std.specs.Option.{option_or, unwrap_or}
use Rattle.std.proofs.lemmas.List.{map-append}
use Rattle.perfdata_identifiers.specs.IdCache.{cached_index}
use Rattle.perfdata_identifiers.specs.ParseInfo.{id_parse_info_of, parse_info_of}
use Rattle.perfdata_sources.specs.declared.endian.Endianness.{Endianness}
use Rattle.linux_perf_data.specs.declared.attributes.lookup.AttributeLookup.{AttributeLookup}
use Rattle.linux_perf_data.specs.Attribute.{Attribute, AreConsistent, missing_identifier, sample_id_all_differs, has_identifier, AreInconsistent, lists_id, last_index_listing}
use Rattle.linux_perf_data.specs.IdTable.{id_lookup}
use Rattle.linux_perf_data.specs.steps.IdTable.{MapsIds}
use Rattle.linux_perf_data.specs.AttributeLookup.{Represents}
use Rattle.linux_perf_data.specs.Consistency.{first_without_identifier}
use Rattle.linux_perf_data.proofs.LookupIds.{all_counted}
use Rattle.linux_perf_data.proofs.OneMoreAttribute.{consistent_more, inconsistent_before, inconsistent_lacking, inconsistent_differing, unidentified_more, greatest_more}

pub lookup_counted : (order : Endianness) (k : AttributeLookup) (attrs : List Attribute) → Represents order k attrs → length k.parse_infos.items ≡ length attrs
lookup_counted order k attrs knows = ap length knows.parse_infos ∙ all_counted order attrs

-- ---- consistency

module _ (order : Endianness) (k : AttributeLookup) (attrs : List Attribute) (knows : Represents order k attrs) (a : Attribute) where
  abbrev of_first : Type 0
  of_first = id_parse_info_of a.attr ≡ k.first_parse_info.id_parse_info

  rule_here : AreConsistent (knows.first_attribute ∷ knows.other_attributes)
  rule_here = subst AreConsistent knows.elements knows.consistent

  same_first : of_first → id_parse_info_of a.attr ≡ id_parse_info_of knows.first_attribute.attr
  same_first same = same ∙ ap (λ p. p.id_parse_info) knows.first_parse_info

  other_first : ¬ of_first → id_parse_info_of a.attr ≢ id_parse_info_of knows.first_attribute.attr
  other_first apart same = apart (same ∙ sym (ap (λ p. p.id_parse_info) knows.first_parse_info))

  missing_here : (o : Option ℕ) → k.first_without_identifier ≡ o → first_without_identifier 0 (knows.first_attribute ∷ knows.other_attributes) ≡ o
  missing_here o is = ap (first_without_identifier 0) (sym knows.elements) ∙ sym knows.first_without_identifier ∙ is

  counted_here : (n : ℕ) → n ≡ length k.parse_infos.items → n ≡ length (knows.first_attribute ∷ knows.other_attributes)
  counted_here n count = count ∙ lookup_counted order k attrs knows ∙ ap length knows.elements

  pub keeps_more : of_first → AreConsistent (attrs ++ a ∷ [])
  keeps_more same = subst (λ l. AreConsistent (l ++ a ∷ [])) (sym knows.elements) (consistent_more knows.first_attribute knows.other_attributes a rule_here (same_first same))

  -- the first attribute without IDENTIFIER causes the inconsistency
  pub old_inconsistent : (i : ℕ) → ¬ of_first → k.first_without_identifier ≡ Some i → AreInconsistent (attrs ++ a ∷ []) (missing_identifier i)
  old_inconsistent i apart is =
      subst (λ l. AreInconsistent (l ++ a ∷ []) (missing_identifier i)) (sym knows.elements) (inconsistent_before knows.first_attribute knows.other_attributes a rule_here i (other_first apart) (missing_here (Some i) is))

  -- the new attribute causes the inconsistency
  pub new_missing : (n : ℕ) → ¬ of_first → k.first_without_identifier ≡ None → n ≡ length k.parse_infos.items → has_identifier a ≡ false → AreInconsistent (attrs ++ a ∷ []) (missing_identifier n)
  new_missing n apart is count is_missing =
      subst (λ l. AreInconsistent (l ++ a ∷ []) (missing_identifier n)) (sym knows.elements) (inconsistent_lacking knows.first_attribute knows.other_attributes a rule_here n (other_first apart) (missing_here None is) (counted_here n count) is_missing)

  pub new_differs : (n : ℕ) → ¬ of_first → k.first_without_identifier ≡ None → n ≡ length k.parse_infos.items → has_identifier a ≡ true → AreInconsistent (attrs ++ a ∷ []) (sample_id_all_differs n)
  new_differs n apart is count has =
      subst (λ l. AreInconsistent (l ++ a ∷ []) (sample_id_all_differs n)) (sym knows.elements) (inconsistent_differing knows.first_attribute knows.other_attributes a rule_here n (other_first apart) (missing_here None is) (counted_here n count) has)

-- ---- the new lookup

listed_best : (b : Bool) (n : ℕ) (o : Option ℕ) → unwrap_or (if b then Some n else o) 0 ≡ (if b then n else unwrap_or o 0)
listed_best true n o = refl
listed_best false n o = refl

pub represents_more : (order : Endianness) (old new : AttributeLookup) (attrs : List Attribute) (a : Attribute) (n : ℕ) → Represents order old attrs → AreConsistent (attrs ++ a ∷ []) → n ≡ length old.parse_infos.items → new.first_parse_info ≡ old.first_parse_info
    → new.parse_infos.items ≡ old.parse_infos.items ++ parse_info_of a.attr order ∷ [] → new.first_without_identifier ≡ option_or old.first_without_identifier (if has_identifier a then None else Some n) → MapsIds old.table a.ids n new.table
    → ((id : ℕ) → cached_index new.cache id ≡ None) → Represents order new (attrs ++ a ∷ [])
represents_more order old new attrs a n k all_consistent count first infos missing puts cleared =
    let counted_before = lookup_counted order old attrs k in
    let counted : n ≡ 0 + length attrs = omega (arith, count, counted_before) in
    record {
      first_attribute = k.first_attribute;
      other_attributes = k.other_attributes ++ a ∷ [];
      elements = ap (λ l. l ++ a ∷ []) k.elements;
      consistent = all_consistent;
      first_parse_info = first ∙ k.first_parse_info;
      parse_infos = infos ∙ ap (λ l. l ++ parse_info_of a.attr order ∷ []) k.parse_infos ∙ sym (map-append (λ (b : Attribute). parse_info_of b.attr order) attrs (a ∷ []));
      first_without_identifier = missing ∙ ap (λ o. option_or o (if has_identifier a then None else Some n)) k.first_without_identifier ∙ sym (unidentified_more 0 attrs a n counted);
      table = λ id. ap (λ o. unwrap_or o 0) (puts id) ∙ listed_best (lists_id id a.ids) n (id_lookup old.table id) ∙ ap (λ g. if lists_id id a.ids then n else g) (k.table id)
          ∙ ap (λ m. if lists_id id a.ids then m else last_index_listing id 0 0 attrs) counted ∙ sym (greatest_more id 0 0 attrs a);
      cache = λ id i cached. absurd (let none : ◌≡◌ {A = Option ℕ} None (Some i) = sym (cleared id) ∙ cached in cc);
    }
