-- Each list of bytes has exactly one layout.
use Rattle.std.proofs.Common.{◌≡◌, ◌≢◌, ℕ, zero, suc, ◌+◌, ◌^◌, ◌<◌, ◌≤◌, ◌++◌, List, [], ◌∷◌, length, drop, refl, sym, ap, ◌∙◌, subst, arith, append_assoc, length-append}
use Rattle.std.specs.Prelude.{None, Some}
use Rattle.std.specs.List.{concat}
use Rattle.std.proofs.lemmas.List.{append-nil}
use Rattle.std.proofs.lemmas.List.Elements.{All-head, All-tail}
use Rattle.perfdata_sources.specs.declared.endian.Endianness.{Endianness}
use Rattle.linux_perf_data.specs.Attribute.{Attribute, AreConsistent}
use Rattle.linux_perf_data.specs.Layout.{SectionSize, MayStartAt, IsValidRecord, attributes_in_record, attributes_in_records, all_but_last, LayoutEnd, ends_complete, EndsWith, Layout, RecordView, record_views, RemainingRecords, record_type_of}
use Rattle.linux_perf_data.proofs.RecordHeaders.{record_least, same_prefix}
use Rattle.linux_perf_data.proofs.ConsistencyLemmas.{consistent_prefix}
use Rattle.linux_perf_data.proofs.LayoutSteps.{layout_stop, layout_more}
use Rattle.linux_perf_data.proofs.RecordsOrErrors.{Standing, ended, piece, IsRecordOrErrorAt, record_or_error_at, stands_one, ended_or_record}

abbrev end_of : Standing → LayoutEnd
end_of (ended e) = e
end_of (piece p) = ends_complete

begins_before : (bound : SectionSize) (offset n : ℕ) → MayStartAt bound (offset + n) → MayStartAt bound offset
begins_before None offset n begins = tt
begins_before (Some size) offset n begins = omega (arith, begins)

begins_tail : (p : List ℕ) (ps : List (List ℕ)) (bound : SectionSize) (offset : ℕ) → MayStartAt bound (offset + length (concat (all_but_last (p ∷ ps)))) → ps ≢ [] → MayStartAt bound (offset + length p + length (concat (all_but_last ps)))
begins_tail p [] bound offset begins some = absurd (some refl)
begins_tail p (q ∷ qs) bound offset begins some =
    let z : offset + length (p ++ concat (all_but_last (q ∷ qs))) ≡ offset + length p + length (concat (all_but_last (q ∷ qs))) = omega (arith, length-append p (concat (all_but_last (q ∷ qs)))) in
    subst (MayStartAt bound) z begins

-- the start of a layout
ends_here : (order : Endianness) (bytes : List ℕ) (bound : SectionSize) (offset : ℕ) (attrs : List Attribute) (e : LayoutEnd) → Layout order bytes bound offset attrs [] e → IsRecordOrErrorAt order bound offset attrs bytes (ended e)
ends_here order bytes bound offset attrs e l =
    let z : offset + 0 ≡ offset = omega arith in
    let same : bytes ≡ l.rest = l.split in
    subst (λ r. EndsWith order bound offset attrs r e) (sym same) (subst (λ a. EndsWith order bound offset a l.rest e) (append-nil attrs) (subst (λ o. EndsWith order bound o (attrs ++ []) l.rest e) z l.end_matches))

piece_here : (order : Endianness) (bytes p : List ℕ) (bound : SectionSize) (offset : ℕ) (attrs : List Attribute) (ps : List (List ℕ)) (e : LayoutEnd) → Layout order bytes bound offset attrs (p ∷ ps) e → IsRecordOrErrorAt order bound offset attrs bytes (piece p)
piece_here order bytes p bound offset attrs ps e l =
    let fits = l.end_fits in
    let adds = attributes_in_record order bound (record_type_of order p) (drop 8 p) in
    let is = All-head (IsValidRecord order bound) p ps l.elements in (
      begins_before bound offset (length (concat (all_but_last (p ∷ ps)))) (l.starts_in_section (λ e. cc)),
      record { is_record = is.is_record; after_record = concat ps ++ l.rest; split = l.split ∙ append_assoc p (concat ps) l.rest; end_fits = omega (arith, fits, length-append p (concat ps)) },
      is,
      consistent_prefix (attrs ++ adds) (attributes_in_records order bound ps) (subst AreConsistent (sym (append_assoc attrs adds (attributes_in_records order bound ps))) l.consistent),
    )

-- the layout after its first raw record
layout_tail : (order : Endianness) (bytes p : List ℕ) (bound : SectionSize) (offset : ℕ) (attrs : List Attribute) (ps : List (List ℕ)) (e : LayoutEnd) → (l : Layout order bytes bound offset attrs (p ∷ ps) e)
    → Layout order (concat ps ++ l.rest) bound (offset + length p) (attrs ++ attributes_in_record order bound (record_type_of order p) (drop 8 p)) ps e
layout_tail order bytes p bound offset attrs ps e l =
    let sum : offset + length (p ++ concat ps) ≡ offset + length p + length (concat ps) = omega (arith, length-append p (concat ps)) in
    let fits = l.end_fits in
    let adds = attributes_in_record order bound (record_type_of order p) (drop 8 p) in
    let same : attrs ++ (adds ++ attributes_in_records order bound ps) ≡ (attrs ++ adds) ++ attributes_in_records order bound ps = sym (append_assoc attrs adds (attributes_in_records order bound ps)) in
    record {
      rest = l.rest;
      split = refl;
      elements = All-tail (IsValidRecord order bound) p ps l.elements;
      starts_in_section = begins_tail p ps bound offset (l.starts_in_section (λ e. cc));
      end_fits = omega (arith, sum, fits);
      consistent = subst AreConsistent same l.consistent;
      end_matches = subst (λ o. EndsWith order bound o ((attrs ++ adds) ++ attributes_in_records order bound ps) l.rest e) sum (subst (λ a. EndsWith order bound (offset + length (p ++ concat ps)) a l.rest e) same l.end_matches);
    }

pub layout_is_unique : (order : Endianness) (ps qs : List (List ℕ)) (bytes : List ℕ) (bound : SectionSize) (offset : ℕ) (attrs : List Attribute) (e f : LayoutEnd)
    → Layout order bytes bound offset attrs ps e → Layout order bytes bound offset attrs qs f → (ps ≡ qs) × (e ≡ f)
layout_is_unique order [] [] bytes bound offset attrs e f l m =
    (refl, ap end_of (stands_one order bound offset attrs bytes (ended e) (ended f) (ends_here order bytes bound offset attrs e l) (ends_here order bytes bound offset attrs f m)))
layout_is_unique order [] (q ∷ qs) bytes bound offset attrs e f l m =
    absurd (ended_or_record e q (stands_one order bound offset attrs bytes (ended e) (piece q) (ends_here order bytes bound offset attrs e l) (piece_here order bytes q bound offset attrs qs f m)))
layout_is_unique order (p ∷ ps) [] bytes bound offset attrs e f l m =
    absurd (ended_or_record f p (stands_one order bound offset attrs bytes (ended f) (piece p) (ends_here order bytes bound offset attrs f m) (piece_here order bytes p bound offset attrs ps e l)))
layout_is_unique order (p ∷ ps) (q ∷ qs) bytes bound offset attrs e f l m =
    let is = All-head (IsValidRecord order bound) p ps l.elements in
    let is' = All-head (IsValidRecord order bound) q qs m.elements in
    let same = same_prefix order p q (concat ps ++ l.rest) (concat qs ++ m.rest) is.is_record is'.is_record
    (sym (append_assoc p (concat ps) l.rest) ∙ sym l.split ∙ m.split ∙ append_assoc q (concat qs) m.rest) in
    let next = λ (r : List ℕ). attrs ++ attributes_in_record order bound (record_type_of order r) (drop 8 r) in
    let other = layout_tail order bytes q bound offset attrs qs f m in
    let moved : Layout order (concat qs ++ m.rest) bound (offset + length p) (next p) qs f = subst (λ r. Layout order (concat qs ++ m.rest) bound (offset + length r) (next r) qs f) (sym same.0) other in
    let again : Layout order (concat ps ++ l.rest) bound (offset + length p) (next p) qs f = subst (λ b. Layout order b bound (offset + length p) (next p) qs f) (sym same.1) moved in
    let rest = layout_is_unique order ps qs (concat ps ++ l.rest) bound (offset + length p) (next p) e f (layout_tail order bytes p bound offset attrs ps e l) again in
    (ap (λ x. x ∷ ps) same.0 ∙ ap (λ xs. q ∷ xs) rest.0, rest.1)

pub remaining_is_unique : (order : Endianness) (bytes : List ℕ) (bound : SectionSize) (offset round : ℕ) (attrs : List Attribute) (rs ss : List RecordView) (e f : LayoutEnd)
    → RemainingRecords order bytes bound offset round attrs rs e → RemainingRecords order bytes bound offset round attrs ss f → (rs ≡ ss) × (e ≡ f)
remaining_is_unique order bytes bound offset round attrs rs ss e f x y =
    let same = layout_is_unique order x.raw_records y.raw_records bytes bound offset attrs e f x.layout y.layout in
    (x.elements ∙ ap (record_views order bound offset round attrs) same.0 ∙ sym y.elements, same.1)

-- a layout with its raw records and its end
abbrev SomeLayout : Endianness → List ℕ → SectionSize → ℕ → List Attribute → Type 0
SomeLayout order bytes bound offset attrs = (pieces : List (List ℕ)) × ((end : LayoutEnd) × Layout order bytes bound offset attrs pieces end)

-- a layout from the record or error at its start, and from the layout after that record
layout_from : (order : Endianness) (bytes : List ℕ) (bound : SectionSize) (offset : ℕ) (attrs : List Attribute) (s : Standing) → offset < 2 ^ 64 → AreConsistent attrs → IsRecordOrErrorAt order bound offset attrs bytes s
    → ((p later : List ℕ) → bytes ≡ p ++ later → 8 ≤ length p → offset + length p < 2 ^ 64 → AreConsistent (attrs ++ attributes_in_record order bound (record_type_of order p) (drop 8 p))
    → SomeLayout order later bound (offset + length p) (attrs ++ attributes_in_record order bound (record_type_of order p) (drop 8 p)))
    → SomeLayout order bytes bound offset attrs
layout_from order bytes bound offset attrs (ended e) fits rule is more = ([], (e, layout_stop order bytes bound offset attrs e fits rule is))
layout_from order bytes bound offset attrs (piece p) fits rule is more =
    let starts_with_record = is.1 in
    let r = more p starts_with_record.after_record starts_with_record.split (record_least order p starts_with_record.is_record) starts_with_record.end_fits is.3 in
    (p ∷ r.0, (r.1.0, layout_more order bytes starts_with_record.after_record p bound offset attrs r.0 r.1.0 is.2 starts_with_record.split is.0 r.1.1))

some_layout_in : (order : Endianness) (n : ℕ) (bytes : List ℕ) (bound : SectionSize) (offset : ℕ) (attrs : List Attribute) → length bytes ≤ n → offset < 2 ^ 64 → AreConsistent attrs → SomeLayout order bytes bound offset attrs
some_layout_in order zero bytes bound offset attrs too_few fits rule =
    let s = record_or_error_at order bound offset attrs bytes rule in
    layout_from order bytes bound offset attrs s.0 fits rule s.1 (λ p later cut long _ _. absurd (let l = ap length cut in omega (arith, l, length-append p later, too_few, long)))
some_layout_in order (suc n) bytes bound offset attrs too_few fits rule =
    let s = record_or_error_at order bound offset attrs bytes rule in
    layout_from order bytes bound offset attrs s.0 fits rule s.1 (λ p later cut long end_fits_u64 kept.
    let l = ap length cut in
    some_layout_in order n later bound (offset + length p) (attrs ++ attributes_in_record order bound (record_type_of order p) (drop 8 p)) (omega (arith, l, length-append p later, too_few, long)) end_fits_u64 kept)

pub layout_exists : (order : Endianness) (bytes : List ℕ) (bound : SectionSize) (offset : ℕ) (attrs : List Attribute) → offset < 2 ^ 64 → AreConsistent attrs
    → (pieces : List (List ℕ)) × ((end : LayoutEnd) × Layout order bytes bound offset attrs pieces end)
layout_exists order bytes bound offset attrs fits rule = some_layout_in order (length bytes) bytes bound offset attrs (omega arith) fits rule
