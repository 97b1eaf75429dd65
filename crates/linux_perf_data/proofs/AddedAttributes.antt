-- The attributes that records add.
use Rattle.std.proofs.Common.{◌≡◌, ◌≢◌, ◌==◌, ℕ, ◌+◌, ◌++◌, List, [], ◌∷◌, Bool, true, false, length, drop, refl, sym, ap, ◌∙◌, arith, append_assoc, append-nil, eqb-true}
use Rattle.std.specs.Prelude.{if◌then◌else◌, None, Some}
use Rattle.std.proofs.lemmas.Bool.{cond-false, ne_eqb}
use Rattle.perfdata_sources.specs.declared.endian.Endianness.{Endianness}
use Rattle.linux_perf_data.specs.Attribute.{Attribute, attribute_in}
use Rattle.linux_perf_data.specs.Layout.{SectionSize, attributes_in_record, attributes_in_records, RecordView, record_views, record_view_in, attributes_in_views, record_type_of}

-- a record of another type adds none
pub adds_none : (order : Endianness) (bound : SectionSize) (kind : ℕ) (body : List ℕ) → kind ≢ 64 → attributes_in_record order bound kind body ≡ []
adds_none order None kind body other = cond-false (kind == 64) (attribute_in order body ∷ []) [] (ne_eqb kind 64 other)
adds_none order (Some size) kind body other = refl

-- the attributes of two lists of records, one after the other
pub added_append : (order : Endianness) (bound : SectionSize) (hs later : List RecordView) → attributes_in_views order bound (hs ++ later) ≡ attributes_in_views order bound hs ++ attributes_in_views order bound later
added_append order bound [] later = refl
added_append order bound (h ∷ hs) later =
    ap (λ l. attributes_in_record order bound h.record_type h.body ++ l) (added_append order bound hs later)
    ∙ sym (append_assoc (attributes_in_record order bound h.record_type h.body) (attributes_in_views order bound hs) (attributes_in_views order bound later))

pub added_one : (order : Endianness) (bound : SectionSize) (hs : List RecordView) (h : RecordView) → attributes_in_views order bound (hs ++ h ∷ []) ≡ attributes_in_views order bound hs ++ attributes_in_record order bound h.record_type h.body
added_one order bound hs h = added_append order bound hs (h ∷ []) ∙ ap (λ l. attributes_in_views order bound hs ++ l) (append-nil (attributes_in_record order bound h.record_type h.body))

step : (order : Endianness) (bound : SectionSize) (b : Bool) (h : RecordView) (adds more : List Attribute) (marked plain : List RecordView) → adds ≡ attributes_in_record order bound h.record_type h.body → (b ≡ true → adds ≡ [])
    → attributes_in_views order bound marked ≡ more → attributes_in_views order bound plain ≡ more → attributes_in_views order bound (if b then marked else h ∷ plain) ≡ adds ++ more
step order bound true h adds more marked plain is empty same same' = same ∙ ap (λ l. l ++ more) (sym (empty refl))
step order bound false h adds more marked plain is empty same same' = ap (λ l. l ++ attributes_in_views order bound plain) (sym is) ∙ ap (λ l. adds ++ l) same'

-- Markers add no attributes: the raw records and the returned records add the same.
pub attributes_in_views_of_records : (order : Endianness) (bound : SectionSize) (offset round : ℕ) (attrs : List Attribute) (ps : List (List ℕ)) → attributes_in_views order bound (record_views order bound offset round attrs ps) ≡ attributes_in_records order bound ps
attributes_in_views_of_records order bound offset round attrs [] = refl
attributes_in_views_of_records order bound offset round attrs (p ∷ ps) =
    let adds = attributes_in_record order bound (record_type_of order p) (drop 8 p) in
    let next = attrs ++ adds in
    step order bound (record_type_of order p == 68) (record_view_in order offset round attrs p) adds (attributes_in_records order bound ps)
    (record_views order bound (offset + length p) (round + 1) next ps) (record_views order bound (offset + length p) round next ps) refl
    (λ marker. adds_none order bound (record_type_of order p) (drop 8 p) (λ attribute. let kind = eqb-true (record_type_of order p) 68 marker in omega (arith, attribute, kind)))
    (attributes_in_views_of_records order bound (offset + length p) (round + 1) next ps) (attributes_in_views_of_records order bound (offset + length p) round next ps)
