-- At an offset is either the end of a layout, an error or a raw record: exactly one of them, and only one.
use Rattle.std.proofs.Common.{◌≡◌, ◌≢◌, ℕ, ◌+◌, ◌-◌, ◌%◌, ◌^◌, ◌<◌, ◌≤◌, ◌++◌, List, length, take, drop, refl, sym, ap, ◌∙◌, subst, arith, inl, inr, length-append}
use Rattle.std.specs.Prelude.{◌⊎◌, None, Some}
use Rattle.std.proofs.lemmas.Bool.{cases_eq, cases_lt}
use Rattle.std.proofs.lemmas.List.{append-nil, length-take-le, take-append-drop}
use Rattle.perfdata_sources.specs.Endian.{number_in}
use Rattle.perfdata_sources.specs.Attr.{own_size, IsTooSmall}
use Rattle.perfdata_sources.proofs.Numbers.{in_reads_first}
use Rattle.perfdata_sources.specs.declared.endian.Endianness.{Endianness}
use Rattle.linux_perf_data.specs.Attribute.{Attribute, AreConsistent, Inconsistency, AreInconsistent, HoldsAttribute}
use Rattle.perfdata_sections.proofs.EventPrefixes.{event_desc_or_not}
use Rattle.linux_perf_data.specs.FeatureNumbers.{event_desc}
use Rattle.linux_perf_data.specs.Names.{IsReadableEventDesc, feature_in_body}
use Rattle.linux_perf_data.specs.Layout.{SectionSize, MayStartAt, IsCompressed, IsRecord, IsValidRecord, IsEnd, HasRecordHeader, HasCompleteBody, HasInvalidMetadata, StartsWithRecord, attributes_in_record, LayoutError, truncated_header, size_below_header, end_overflows, truncated_body, compressed_record, aux_body_too_short, aux_end_overflows, truncated_aux_data, invalid_metadata, MetadataError, truncated_metadata, attr_size_too_small, IsTruncatedAttribute, invalid_event_desc, HasInvalidEventDesc, inconsistent_attributes, ErrorAt, LayoutEnd, ends_complete, ends_with_error, EndsWith, record_type_of, record_size_of, total_size_of}
use Rattle.linux_perf_data.proofs.RecordHeaders.{record_type_prefix, size_first_part, total_size_front, total_size_plain, size_in_total_size, record_least, record_length, same_prefix}
use Rattle.linux_perf_data.proofs.ConsistencyLemmas.{consistent_not_inconsistent, inconsistency_is_unique, consistent_or_not}

pub data Standing : Type 0 where
  ended : LayoutEnd → Standing
  piece : List ℕ → Standing

abbrev pub IsRecordOrErrorAt : Endianness → SectionSize → ℕ → List Attribute → List ℕ → Standing → Type 0
IsRecordOrErrorAt order bound offset attrs rest (ended e) = EndsWith order bound offset attrs rest e
IsRecordOrErrorAt order bound offset attrs rest (piece p) =
    MayStartAt bound offset × StartsWithRecord order offset rest p × IsValidRecord order bound p × AreConsistent (attrs ++ attributes_in_record order bound (record_type_of order p) (drop 8 p))

-- a section that ends before an offset
abbrev Over : SectionSize → ℕ → Type 0
Over None offset = ⊥
Over (Some size) offset = size ≤ offset

-- a truncated record: the end in a pipe, an error in a file
abbrev truncated_as : SectionSize → LayoutError → Standing
truncated_as None f = ended ends_complete
truncated_as (Some size) f = ended (ends_with_error f)

over_begins : (bound : SectionSize) (offset : ℕ) → Over bound offset → MayStartAt bound offset → ⊥
over_begins None offset over begins = over
over_begins (Some size) offset over begins = omega (arith, over, begins)

-- a truncated attribute isn't complete
pub truncated_or_complete : (order : Endianness) (body : List ℕ) → IsTruncatedAttribute order body → HoldsAttribute order body → ⊥
truncated_or_complete order body (inl (inl short)) holds = let header_bytes = holds.has_fixed_part in omega (arith, short, header_bytes)
truncated_or_complete order body (inl (inr (least, short))) holds = let there = holds.complete in omega (arith, short, there)
truncated_or_complete order body (inr cut) holds = cut.partial_id holds.whole_ids

pub truncated_or_small : (order : Endianness) (body : List ℕ) → IsTruncatedAttribute order body → IsTooSmall (number_in order) body → ⊥
truncated_or_small order body (inl (inl short)) small = let header_bytes = small.0 in omega (arith, short, header_bytes)
truncated_or_small order body (inl (inr (least, short))) small = let below = small.1 in omega (arith, least, below)
truncated_or_small order body (inr cut) small = let least = cut.min_size in let below = small.1 in omega (arith, least, below)

-- One test: it ends the search with this result, or the search continues.
abbrev Test : Standing → Standing → Type 0 → Type 0 → Type 0 → Type 0
Test s found P Q More = ((s ≡ found) × P) ⊎ (Q × More)

test_one : (s t found : Standing) (P Q X Y : Type 0) → (P → Q → ⊥) → (X → Y → s ≡ t) → Test s found P Q X → Test t found P Q Y → s ≡ t
test_one s t found P Q X Y apart later (inl x) (inl y) = x.0 ∙ sym y.0
test_one s t found P Q X Y apart later (inl x) (inr y) = absurd (apart x.1 y.0)
test_one s t found P Q X Y apart later (inr x) (inl y) = absurd (apart y.1 x.0)
test_one s t found P Q X Y apart later (inr x) (inr y) = later x.1 y.1

-- All tests in their order: those of a record header, those of a body, and those of a complete record.
module _ (order : Endianness) (bound : SectionSize) (offset : ℕ) (attrs : List Attribute) (rest : List ℕ) where
  -- a complete record whose metadata is invalid for this cause
  abbrev IsErrorOfContents : LayoutError → List ℕ → Type 0
  IsErrorOfContents (invalid_metadata w) p = HasInvalidMetadata order w p
  IsErrorOfContents (invalid_event_desc o bytes) p = (o ≡ order) × HasInvalidEventDesc order bytes p
  IsErrorOfContents _ p = ⊥

  abbrev Bad : Standing → Type 0
  Bad s = (f : LayoutError) × (s ≡ ended (ends_with_error f)) × (bound ≡ None) × ((p : List ℕ) × StartsWithRecord order offset rest p × IsErrorOfContents f p)

  abbrev Unruly : Standing → Type 0
  Unruly s = (b : Inconsistency) × (s ≡ ended (ends_with_error (inconsistent_attributes b))) × (bound ≡ None)
      × ((p : List ℕ) × StartsWithRecord order offset rest p × IsValidRecord order None p × AreInconsistent (attrs ++ attributes_in_record order None (record_type_of order p) (drop 8 p)) b)

  abbrev Good : Standing → Type 0
  Good s = (p : List ℕ) × (s ≡ piece p) × StartsWithRecord order offset rest p × IsValidRecord order bound p × AreConsistent (attrs ++ attributes_in_record order bound (record_type_of order p) (drop 8 p))

  abbrev OfRecord : Standing → Type 0
  OfRecord s = Bad s ⊎ (Unruly s ⊎ Good s)

  abbrev OfBody : Standing → Type 0
  OfBody s =
      Test s (ended (ends_with_error compressed_record)) (IsCompressed (record_type_of order rest)) (¬ IsCompressed (record_type_of order rest)) (
      Test s (ended (ends_with_error aux_body_too_short)) ((record_type_of order rest ≡ 71) × (record_size_of order rest < 48)) (record_type_of order rest ≡ 71 → 48 ≤ record_size_of order rest) (
      Test s (ended (ends_with_error aux_end_overflows)) ((record_type_of order rest ≡ 71) × (2 ^ 64 ≤ offset + total_size_of order rest)) (record_type_of order rest ≡ 71 → offset + total_size_of order rest < 2 ^ 64) (
      Test s (ended (ends_with_error truncated_aux_data)) ((record_type_of order rest ≡ 71) × (length rest < total_size_of order rest)) (record_type_of order rest ≡ 71 → total_size_of order rest ≤ length rest) (
      OfRecord s))))

  abbrev OfAll : Standing → Type 0
  OfAll s =
      Test s (ended ends_complete) (Over bound offset) (MayStartAt bound offset) (
      Test s (truncated_as bound truncated_header) (length rest < 8) (8 ≤ length rest) (
      Test s (ended (ends_with_error size_below_header)) (record_size_of order rest < 8) (8 ≤ record_size_of order rest) (
      Test s (ended (ends_with_error end_overflows)) (2 ^ 64 ≤ offset + record_size_of order rest) (offset + record_size_of order rest < 2 ^ 64) (
      Test s (truncated_as bound truncated_body) (length rest < record_size_of order rest) (record_size_of order rest ≤ length rest) (
      OfBody s)))))

  past_header : (s : Standing) → MayStartAt bound offset → HasRecordHeader order offset rest → Test s (truncated_as bound truncated_body) (length rest < record_size_of order rest) (record_size_of order rest ≤ length rest) (OfBody s) → OfAll s
  past_header s begins header_bytes x = inr (begins, inr (header_bytes.complete_header, inr (header_bytes.min_size, inr (header_bytes.end_fits, x))))

  past_body : (s : Standing) → MayStartAt bound offset → HasCompleteBody order offset rest → OfBody s → OfAll s
  past_body s begins body x = past_header s begins body.header (inr (body.complete, x))

  not_compressed : record_type_of order rest ≡ 71 → ¬ IsCompressed (record_type_of order rest)
  not_compressed traced (inl other) = omega (arith, traced, other)
  not_compressed traced (inr other) = omega (arith, traced, other)

  -- a first record determines the record type of the bytes
  prefix_kind : (p : List ℕ) → StartsWithRecord order offset rest p → record_type_of order rest ≡ record_type_of order p
  prefix_kind p starts_with_record = ap (record_type_of order) starts_with_record.split ∙ record_type_prefix order p starts_with_record.after_record (record_least order p starts_with_record.is_record)

  prefix_size : (p : List ℕ) → StartsWithRecord order offset rest p → record_size_of order rest ≡ record_size_of order p
  prefix_size p starts_with_record = ap (record_size_of order) starts_with_record.split ∙ size_first_part order p starts_with_record.after_record (record_least order p starts_with_record.is_record)

  prefix_extent : (p : List ℕ) → StartsWithRecord order offset rest p → total_size_of order rest ≡ length p
  prefix_extent p starts_with_record = ap (total_size_of order) starts_with_record.split ∙ record_length order p starts_with_record.after_record starts_with_record.is_record

  prefix_length : (p : List ℕ) → StartsWithRecord order offset rest p → length p ≤ length rest
  prefix_length p starts_with_record = let l = ap length starts_with_record.split in omega (arith, l, length-append p starts_with_record.after_record)

  prefix_body : (p : List ℕ) → StartsWithRecord order offset rest p → HasCompleteBody order offset rest
  prefix_body p starts_with_record =
      let least = starts_with_record.is_record.min_size in
      let fits = starts_with_record.end_fits in
      let size = prefix_size p starts_with_record in
      let extent = prefix_extent p starts_with_record in
      let inside = size_in_total_size order rest in
      let long = prefix_length p starts_with_record in
      record {
        header = record { complete_header = omega (arith, long, record_least order p starts_with_record.is_record); min_size = omega (arith, size, least); end_fits = omega (arith, fits, extent, inside) };
        complete = omega (arith, extent, inside, long);
      }

  past_record : (s : Standing) (p : List ℕ) → MayStartAt bound offset → StartsWithRecord order offset rest p → OfRecord s → OfAll s
  past_record s p begins starts_with_record x =
      let extent = prefix_extent p starts_with_record in
      let fits = starts_with_record.end_fits in
      let long = prefix_length p starts_with_record in
      let kind = prefix_kind p starts_with_record in
      let size = prefix_size p starts_with_record in
      past_body s begins (prefix_body p starts_with_record) (inr (
        (λ packed. starts_with_record.is_record.not_compressed (subst IsCompressed kind packed)),
        inr (
          (λ traced. let least = starts_with_record.is_record.aux_min_size (sym kind ∙ traced) in omega (arith, size, least)),
          inr (
            (λ traced. omega (arith, extent, fits)),
            inr (
              (λ traced. omega (arith, extent, long)),
              x,
            ),
          ),
        ),
      ))

  record_one : (p q : List ℕ) → StartsWithRecord order offset rest p → StartsWithRecord order offset rest q → p ≡ q
  record_one p q x y = (same_prefix order p q x.after_record y.after_record x.is_record y.is_record (sym x.split ∙ y.split)).0

  none_or_piece : (w : MetadataError) (p q : List ℕ) → StartsWithRecord order offset rest p → StartsWithRecord order offset rest q → HasInvalidMetadata order w p → IsValidRecord order None q → ⊥
  none_or_piece truncated_metadata p q x y (inl (kind, bad)) is = let e = sym (record_one p q x y) in truncated_or_complete order (drop 8 p) bad ((subst (IsValidRecord order None) e is).valid_attribute refl kind)
  none_or_piece truncated_metadata p q x y (inr (kind, bad)) is = let e = sym (record_one p q x y) in let long = (subst (IsValidRecord order None) e is).valid_feature refl kind in omega (arith, long, bad)
  none_or_piece attr_size_too_small p q x y (kind, bad) is = let e = sym (record_one p q x y) in let least = ((subst (IsValidRecord order None) e is).valid_attribute refl kind).min_size in let small = bad.1 in omega (arith, least, small)

  unnamed_or_piece : (bytes p : List ℕ) → HasInvalidEventDesc order bytes p → IsValidRecord order None p → ⊥
  unnamed_or_piece bytes p none is = none.not_readable (subst (IsReadableEventDesc order) (sym none.data_bytes) (is.valid_event_desc refl none.record_type none.matches))

  error_or_piece : (f : LayoutError) (p q : List ℕ) → StartsWithRecord order offset rest p → StartsWithRecord order offset rest q → IsErrorOfContents f p → IsValidRecord order None q → ⊥
  error_or_piece (invalid_metadata w) p q x y bad is = none_or_piece w p q x y bad is
  error_or_piece (invalid_event_desc o bytes) p q x y (same, none) is = unnamed_or_piece bytes p none (subst (IsValidRecord order None) (sym (record_one p q x y)) is)
  error_or_piece _ p q x y bad is = absurd bad

  spoilt_same : (v w : MetadataError) (p : List ℕ) → HasInvalidMetadata order v p → HasInvalidMetadata order w p → v ≡ w
  spoilt_same truncated_metadata truncated_metadata p x y = refl
  spoilt_same attr_size_too_small attr_size_too_small p x y = refl
  spoilt_same truncated_metadata attr_size_too_small p (inl (kind, cut)) (other, small) = absurd (truncated_or_small order (drop 8 p) cut small)
  spoilt_same truncated_metadata attr_size_too_small p (inr (kind, cut)) (other, small) = absurd (omega (arith, kind, other))
  spoilt_same attr_size_too_small truncated_metadata p (other, small) (inl (kind, cut)) = absurd (truncated_or_small order (drop 8 p) cut small)
  spoilt_same attr_size_too_small truncated_metadata p (other, small) (inr (kind, cut)) = absurd (omega (arith, kind, other))

  spoilt_or_unnamed : (w : MetadataError) (bytes p : List ℕ) → HasInvalidMetadata order w p → HasInvalidEventDesc order bytes p → ⊥
  spoilt_or_unnamed truncated_metadata bytes p (inl (kind, cut)) none = let other = none.record_type in omega (arith, kind, other)
  spoilt_or_unnamed truncated_metadata bytes p (inr (kind, short)) none = let there = none.complete in omega (arith, short, there)
  spoilt_or_unnamed attr_size_too_small bytes p (kind, small) none = let other = none.record_type in omega (arith, kind, other)

  error_same : (f g : LayoutError) (p : List ℕ) → IsErrorOfContents f p → IsErrorOfContents g p → f ≡ g
  error_same (invalid_metadata v) (invalid_metadata w) p x y = ap invalid_metadata (spoilt_same v w p x y)
  error_same (invalid_metadata v) (invalid_event_desc o bytes) p x (same, y) = absurd (spoilt_or_unnamed v bytes p x y)
  error_same (invalid_event_desc o bytes) (invalid_metadata w) p (same, x) y = absurd (spoilt_or_unnamed w bytes p y x)
  error_same (invalid_event_desc o bytes) (invalid_event_desc r others) p (same, x) (same', y) = ap (λ e. invalid_event_desc e bytes) (same ∙ sym same') ∙ ap (invalid_event_desc r) (x.data_bytes ∙ sym y.data_bytes)
  error_same (invalid_metadata v) _ p x y = absurd y
  error_same (invalid_event_desc o bytes) _ p x y = absurd y
  error_same _ g p x y = absurd x

  of_record_one : (s t : Standing) → OfRecord s → OfRecord t → s ≡ t
  of_record_one s t (inl x) (inl y) =
      let bad = subst (IsErrorOfContents x.0) (record_one x.3.0 y.3.0 x.3.1 y.3.1) x.3.2 in
      x.1 ∙ ap (λ f. ended (ends_with_error f)) (error_same x.0 y.0 y.3.0 bad y.3.2) ∙ sym y.1
  of_record_one s t (inl x) (inr (inl y)) = absurd (error_or_piece x.0 x.3.0 y.3.0 x.3.1 y.3.1 x.3.2 y.3.2)
  of_record_one s t (inl x) (inr (inr y)) = absurd (error_or_piece x.0 x.3.0 y.0 x.3.1 y.2 x.3.2 (subst (λ b. IsValidRecord order b y.0) x.2 y.3))
  of_record_one s t (inr (inl x)) (inl y) = absurd (error_or_piece y.0 y.3.0 x.3.0 y.3.1 x.3.1 y.3.2 x.3.2)
  of_record_one s t (inr (inl x)) (inr (inl y)) =
      let breaks = subst (λ p. AreInconsistent (attrs ++ attributes_in_record order None (record_type_of order p) (drop 8 p)) x.0) (record_one x.3.0 y.3.0 x.3.1 y.3.1) x.3.3 in
      x.1 ∙ ap (λ b. ended (ends_with_error (inconsistent_attributes b))) (inconsistency_is_unique (attrs ++ attributes_in_record order None (record_type_of order y.3.0) (drop 8 y.3.0)) x.0 y.0 breaks y.3.3) ∙ sym y.1
  of_record_one s t (inr (inl x)) (inr (inr y)) =
      let breaks = subst (λ p. AreInconsistent (attrs ++ attributes_in_record order None (record_type_of order p) (drop 8 p)) x.0) (record_one x.3.0 y.0 x.3.1 y.2) x.3.3 in
      let rule = subst (λ b. AreConsistent (attrs ++ attributes_in_record order b (record_type_of order y.0) (drop 8 y.0))) x.2 y.4 in
      absurd (consistent_not_inconsistent (attrs ++ attributes_in_record order None (record_type_of order y.0) (drop 8 y.0)) x.0 rule breaks)
  of_record_one s t (inr (inr x)) (inl y) = absurd (error_or_piece y.0 y.3.0 x.0 y.3.1 x.2 y.3.2 (subst (λ b. IsValidRecord order b x.0) y.2 x.3))
  of_record_one s t (inr (inr x)) (inr (inl y)) =
      let breaks = subst (λ p. AreInconsistent (attrs ++ attributes_in_record order None (record_type_of order p) (drop 8 p)) y.0) (record_one y.3.0 x.0 y.3.1 x.2) y.3.3 in
      let rule = subst (λ b. AreConsistent (attrs ++ attributes_in_record order b (record_type_of order x.0) (drop 8 x.0))) y.2 x.4 in
      absurd (consistent_not_inconsistent (attrs ++ attributes_in_record order None (record_type_of order x.0) (drop 8 x.0)) y.0 rule breaks)
  of_record_one s t (inr (inr x)) (inr (inr y)) = x.1 ∙ ap piece (record_one x.0 y.0 x.2 y.2) ∙ sym y.1

  of_body_one : (s t : Standing) → OfBody s → OfBody t → s ≡ t
  of_body_one s t x y =
      test_one s t _ _ _ _ _ (λ is isnt. isnt is)
      (test_one s t _ _ _ _ _ (λ is isnt. let a = is.1 in let b = isnt is.0 in omega (arith, a, b))
      (test_one s t _ _ _ _ _ (λ is isnt. let a = is.1 in let b = isnt is.0 in omega (arith, a, b))
      (test_one s t _ _ _ _ _ (λ is isnt. let a = is.1 in let b = isnt is.0 in omega (arith, a, b))
      (of_record_one s t)))) x y

  of_all_one : (s t : Standing) → OfAll s → OfAll t → s ≡ t
  of_all_one s t x y =
      test_one s t _ _ _ _ _ (over_begins bound offset)
      (test_one s t _ _ _ _ _ (λ is isnt. omega (arith, is, isnt))
      (test_one s t _ _ _ _ _ (λ is isnt. omega (arith, is, isnt))
      (test_one s t _ _ _ _ _ (λ is isnt. omega (arith, is, isnt))
      (test_one s t _ _ _ _ _ (λ is isnt. omega (arith, is, isnt))
      (of_body_one s t))))) x y

whole_tests : (order : Endianness) (bound : SectionSize) (offset : ℕ) (attrs : List Attribute) (rest : List ℕ) → IsEnd order bound offset rest → OfAll order bound offset attrs rest (ended ends_complete)
whole_tests order None offset attrs rest is = elim (cases_lt (length rest) 8) [
  | inl short ↦ inr (tt, inl (refl, short))
  | inr long ↦ past_header order None offset attrs rest (ended ends_complete) tt (is long).0 (inl (refl, (is long).1))
]
whole_tests order (Some size) offset attrs rest is = inl (refl, is)

error_tests : (order : Endianness) (bound : SectionSize) (offset : ℕ) (attrs : List Attribute) (rest : List ℕ) (f : LayoutError) → MayStartAt bound offset → ErrorAt order bound offset attrs rest f
    → OfAll order bound offset attrs rest (ended (ends_with_error f))
error_tests order None offset attrs rest truncated_header begins is = absurd (is.0 refl)
error_tests order (Some size) offset attrs rest truncated_header begins is = inr (begins, inl (refl, is.1))
error_tests order bound offset attrs rest size_below_header begins is = inr (begins, inr (is.0, inl (refl, is.1)))
error_tests order bound offset attrs rest end_overflows begins is = inr (begins, inr (is.0, inr (is.1, inl (refl, is.2))))
error_tests order None offset attrs rest truncated_body begins is = absurd (is.0 refl)
error_tests order (Some size) offset attrs rest truncated_body begins is = past_header order (Some size) offset attrs rest (ended (ends_with_error truncated_body)) begins is.1 (inl (refl, is.2))
error_tests order bound offset attrs rest compressed_record begins is = past_body order bound offset attrs rest (ended (ends_with_error compressed_record)) begins is.0 (inl (refl, is.1))
error_tests order bound offset attrs rest aux_body_too_short begins is =
    past_body order bound offset attrs rest (ended (ends_with_error aux_body_too_short)) begins is.0 (inr (not_compressed order bound offset attrs rest is.1, inl (refl, (is.1, is.2))))
error_tests order bound offset attrs rest aux_end_overflows begins is =
    let t = is.0 in
    past_body order bound offset attrs rest (ended (ends_with_error aux_end_overflows)) begins t.complete_body
    (inr (not_compressed order bound offset attrs rest t.record_type, inr ((λ _. t.min_size), inl (refl, (t.record_type, is.1)))))
error_tests order bound offset attrs rest truncated_aux_data begins is =
    let t = is.0 in
    past_body order bound offset attrs rest (ended (ends_with_error truncated_aux_data)) begins t.complete_body
    (inr (not_compressed order bound offset attrs rest t.record_type, inr ((λ _. t.min_size), inr ((λ _. is.1), inl (refl, (t.record_type, is.2))))))
error_tests order bound offset attrs rest (invalid_metadata cause) begins is =
    past_record order bound offset attrs rest (ended (ends_with_error (invalid_metadata cause))) is.1.0 begins is.1.1 (inl (invalid_metadata cause, refl, is.0, is.1))
error_tests order bound offset attrs rest (invalid_event_desc o bytes) begins is =
    past_record order bound offset attrs rest (ended (ends_with_error (invalid_event_desc o bytes))) is.2.0 begins is.2.1 (inl (invalid_event_desc o bytes, refl, is.0, (is.2.0, is.2.1, (is.1, is.2.2))))
error_tests order bound offset attrs rest (inconsistent_attributes b) begins is =
    past_record order bound offset attrs rest (ended (ends_with_error (inconsistent_attributes b))) is.1.0 begins is.1.1 (inr (inl (b, refl, is.0, is.1)))

tests_of : (order : Endianness) (bound : SectionSize) (offset : ℕ) (attrs : List Attribute) (rest : List ℕ) (s : Standing) → IsRecordOrErrorAt order bound offset attrs rest s → OfAll order bound offset attrs rest s
tests_of order bound offset attrs rest (ended ends_complete) is = whole_tests order bound offset attrs rest is
tests_of order bound offset attrs rest (ended (ends_with_error f)) is = error_tests order bound offset attrs rest f is.0 is.1
tests_of order bound offset attrs rest (piece p) is = past_record order bound offset attrs rest (piece p) p is.0 is.1 (inr (inr (p, refl, is.1, is.2, is.3)))

-- the result at an offset is unique
pub stands_one : (order : Endianness) (bound : SectionSize) (offset : ℕ) (attrs : List Attribute) (rest : List ℕ) (s t : Standing)
    → IsRecordOrErrorAt order bound offset attrs rest s → IsRecordOrErrorAt order bound offset attrs rest t → s ≡ t
stands_one order bound offset attrs rest s t x y = of_all_one order bound offset attrs rest s t (tests_of order bound offset attrs rest s x) (tests_of order bound offset attrs rest t y)

-- A result exists at each offset.

abbrev Found : Endianness → SectionSize → ℕ → List Attribute → List ℕ → Type 0
Found order bound offset attrs rest = (s : Standing) × IsRecordOrErrorAt order bound offset attrs rest s

begins_or_over : (bound : SectionSize) (offset : ℕ) → MayStartAt bound offset ⊎ Over bound offset
begins_or_over None offset = inl tt
begins_or_over (Some size) offset = cases_lt offset size

found_over : (order : Endianness) (bound : SectionSize) (offset : ℕ) (attrs : List Attribute) (rest : List ℕ) → Over bound offset → Found order bound offset attrs rest
found_over order None offset attrs rest over = absurd over
found_over order (Some size) offset attrs rest over = (ended ends_complete, over)

found_short : (order : Endianness) (bound : SectionSize) (offset : ℕ) (attrs : List Attribute) (rest : List ℕ) → MayStartAt bound offset → length rest < 8 → Found order bound offset attrs rest
found_short order None offset attrs rest begins short = (ended ends_complete, λ long. omega (arith, short, long))
found_short order (Some size) offset attrs rest begins short = (ended (ends_with_error truncated_header), (begins, ((λ e. cc), short)))

found_truncated : (order : Endianness) (bound : SectionSize) (offset : ℕ) (attrs : List Attribute) (rest : List ℕ) → MayStartAt bound offset → HasRecordHeader order offset rest → length rest < record_size_of order rest → Found order bound offset attrs rest
found_truncated order None offset attrs rest begins header_bytes cut = (ended ends_complete, λ long. (header_bytes, cut))
found_truncated order (Some size) offset attrs rest begins header_bytes cut = (ended (ends_with_error truncated_body), (begins, ((λ e. cc), header_bytes, cut)))

-- a body holds a complete attribute, or is truncated, or its attribute is too small
pub complete_truncated_or_small : (order : Endianness) (body : List ℕ) → HoldsAttribute order body ⊎ (IsTruncatedAttribute order body ⊎ IsTooSmall (number_in order) body)
complete_truncated_or_small order body = elim (cases_lt (length body) 8) [
  | inl short ↦ inr (inl (inl (inl short)))
  | inr header_bytes ↦ elim (cases_lt (own_size (number_in order) body) 64) [
    | inl small ↦ inr (inr (header_bytes, small))
    | inr least ↦ elim (cases_lt (length body) (own_size (number_in order) body)) [
      | inl cut ↦ inr (inl (inl (inr (least, cut))))
      | inr there ↦ elim (cases_eq ((length body - own_size (number_in order) body) % 8) 0) [
        | inl even ↦ inl (record { has_fixed_part = header_bytes; min_size = least; complete = there; whole_ids = even })
        | inr odd ↦ inr (inl (inr (record { has_fixed_part = header_bytes; min_size = least; complete = there; partial_id = odd })))
      ]
    ]
  ]
]

-- A record of a feature contains its number, and names if the feature is EVENT_DESC.
names_or_none : (order : Endianness) (p : List ℕ) → IsRecord order p → record_type_of order p ≡ 80 → 8 ≤ length (drop 8 p) → IsValidRecord order None p ⊎ ((bytes : List ℕ) × HasInvalidEventDesc order bytes p)
names_or_none order p is kind long = elim (cases_eq (feature_in_body order (drop 8 p)) event_desc) [
  | inr other ↦ inl (record { is_record = is; valid_attribute = λ _ e. absurd (omega (arith, kind, e)); valid_feature = λ _ _. long; valid_event_desc = λ _ _ e. absurd (other e) })
  | inl named ↦ elim (event_desc_or_not (number_in order) (in_reads_first order) (drop 16 p)) [
    | inl described ↦ inl (record { is_record = is; valid_attribute = λ _ e. absurd (omega (arith, kind, e)); valid_feature = λ _ _. long; valid_event_desc = λ _ _ _. described })
    | inr unread ↦ inr (drop 16 p, record { record_type = kind; complete = long; matches = named; data_bytes = refl; not_readable = unread })
  ]
]

abbrev PieceOrNone : Endianness → List ℕ → Type 0
PieceOrNone order p = IsValidRecord order None p ⊎ (((cause : MetadataError) × HasInvalidMetadata order cause p) ⊎ ((bytes : List ℕ) × HasInvalidEventDesc order bytes p))

pub record_or_error : (order : Endianness) (p : List ℕ) → IsRecord order p → IsValidRecord order None p ⊎ (((cause : MetadataError) × HasInvalidMetadata order cause p) ⊎ ((bytes : List ℕ) × HasInvalidEventDesc order bytes p))
record_or_error order p is = elim (cases_eq (record_type_of order p) 64) as (λ _. PieceOrNone order p) [
  | inl attribute ↦ elim (complete_truncated_or_small order (drop 8 p)) as (λ _. PieceOrNone order p) [
    | inl holds ↦ inl (record { is_record = is; valid_attribute = λ _ _. holds; valid_feature = λ _ other. absurd (omega (arith, attribute, other)); valid_event_desc = λ _ other _. absurd (omega (arith, attribute, other)) })
    | inr (inl cut) ↦ inr (inl (truncated_metadata, inl (attribute, cut)))
    | inr (inr small) ↦ inr (inl (attr_size_too_small, (attribute, small)))
  ]
  | inr plain ↦ elim (cases_eq (record_type_of order p) 80) as (λ _. PieceOrNone order p) [
    | inr other ↦ inl (record { is_record = is; valid_attribute = λ _ e. absurd (plain e); valid_feature = λ _ e. absurd (other e); valid_event_desc = λ _ e _. absurd (other e) })
    | inl feature ↦ elim (cases_lt (length (drop 8 p)) 8) as (λ _. PieceOrNone order p) [
      | inl short ↦ inr (inl (truncated_metadata, inr (feature, short)))
      | inr long ↦ elim (names_or_none order p is feature long) as (λ _. PieceOrNone order p) [ inl good ↦ inl good | inr none ↦ inr (inr none) ]
    ]
  ]
]

found_record : (order : Endianness) (bound : SectionSize) (offset : ℕ) (attrs : List Attribute) (rest p : List ℕ) → AreConsistent attrs → MayStartAt bound offset → StartsWithRecord order offset rest p → Found order bound offset attrs rest
found_record order (Some size) offset attrs rest p rule begins starts_with_record =
    (piece p, (begins, starts_with_record, record { is_record = starts_with_record.is_record; valid_attribute = λ e. absurd (cc); valid_feature = λ e. absurd (cc); valid_event_desc = λ e. absurd (cc) }, subst AreConsistent (sym (append-nil attrs)) rule))
found_record order None offset attrs rest p rule begins starts_with_record = elim (record_or_error order p starts_with_record.is_record) [
  | inr (inl bad) ↦ (ended (ends_with_error (invalid_metadata bad.0)), (begins, (refl, (p, starts_with_record, bad.1))))
  | inr (inr none) ↦ (ended (ends_with_error (invalid_event_desc order none.0)), (begins, (refl, refl, (p, starts_with_record, none.1))))
  | inl is ↦ elim (consistent_or_not (attrs ++ attributes_in_record order None (record_type_of order p) (drop 8 p))) [
    | inl kept ↦ (piece p, (begins, starts_with_record, is, kept))
    | inr broken ↦ (ended (ends_with_error (inconsistent_attributes broken.0)), (begins, (refl, (p, starts_with_record, is, broken.1))))
  ]
]

-- a complete record at the start of the bytes
pub starts_with_record_of : (order : Endianness) (offset : ℕ) (rest : List ℕ) → HasCompleteBody order offset rest → ¬ IsCompressed (record_type_of order rest) → (record_type_of order rest ≡ 71 → 48 ≤ record_size_of order rest)
    → offset + total_size_of order rest < 2 ^ 64 → total_size_of order rest ≤ length rest → StartsWithRecord order offset rest (take (total_size_of order rest) rest)
starts_with_record_of order offset rest body plain aux end_fits_u64 there =
    let p = take (total_size_of order rest) rest in
    let suffix = drop (total_size_of order rest) rest in
    let cut : p ++ suffix ≡ rest = take-append-drop (total_size_of order rest) rest in
    let long : length p ≡ total_size_of order rest = length-take-le (total_size_of order rest) rest there in
    let inside = size_in_total_size order rest in
    let least = body.header.min_size in
    let header_bytes : 8 ≤ length p = omega (arith, long, inside, least) in
    let kind : record_type_of order rest ≡ record_type_of order p = ap (record_type_of order) (sym cut) ∙ record_type_prefix order p suffix header_bytes in
    let size : record_size_of order rest ≡ record_size_of order p = ap (record_size_of order) (sym cut) ∙ size_first_part order p suffix header_bytes in
    let extent : total_size_of order rest ≡ total_size_of order p =
    ap (total_size_of order) (sym cut) ∙ total_size_front order p suffix header_bytes (λ traced. let t = aux (kind ∙ traced) in omega (arith, t, long, inside)) in
    record {
      is_record = record {
        min_size = omega (arith, size, least);
        not_compressed = λ packed. plain (subst IsCompressed (sym kind) packed);
        aux_min_size = λ traced. (let t = aux (kind ∙ traced) in omega (arith, t, size));
        exact_len = long ∙ extent;
      };
      after_record = suffix;
      split = sym cut;
      end_fits = omega (arith, long, end_fits_u64);
    }

neither : (kind : ℕ) → kind ≢ 81 → kind ≢ 83 → ¬ IsCompressed kind
neither kind isnt isnt' (inl is) = isnt is
neither kind isnt isnt' (inr is) = isnt' is

pub packed_or_not : (kind : ℕ) → IsCompressed kind ⊎ (¬ IsCompressed kind)
packed_or_not kind = elim (cases_eq kind 81) [
  | inl is ↦ inl (inl is)
  | inr isnt ↦ elim (cases_eq kind 83) [ inl is ↦ inl (inr is) | inr isnt' ↦ inr (neither kind isnt isnt') ]
]

found_aux : (order : Endianness) (bound : SectionSize) (offset : ℕ) (attrs : List Attribute) (rest : List ℕ) → AreConsistent attrs → MayStartAt bound offset → HasCompleteBody order offset rest → record_type_of order rest ≡ 71 → Found order bound offset attrs rest
found_aux order bound offset attrs rest rule begins body traced = elim (cases_lt (record_size_of order rest) 48) [
  | inl short ↦ (ended (ends_with_error aux_body_too_short), (begins, (body, traced, short)))
  | inr least ↦ elim (cases_lt (offset + total_size_of order rest) (2 ^ 64)) [
    | inr far ↦ (ended (ends_with_error aux_end_overflows), (begins, (record { complete_body = body; record_type = traced; min_size = least }, far)))
    | inl end_fits_u64 ↦ elim (cases_lt (length rest) (total_size_of order rest)) [
      | inl cut ↦ (ended (ends_with_error truncated_aux_data), (begins, (record { complete_body = body; record_type = traced; min_size = least }, end_fits_u64, cut)))
      | inr there ↦ found_record order bound offset attrs rest (take (total_size_of order rest) rest) rule begins
          (starts_with_record_of order offset rest body (not_compressed order bound offset attrs rest traced) (λ _. least) end_fits_u64 there)
    ]
  ]
]

found_body : (order : Endianness) (bound : SectionSize) (offset : ℕ) (attrs : List Attribute) (rest : List ℕ) → AreConsistent attrs → MayStartAt bound offset → HasCompleteBody order offset rest → Found order bound offset attrs rest
found_body order bound offset attrs rest rule begins body = elim (packed_or_not (record_type_of order rest)) [
  | inl packed ↦ (ended (ends_with_error compressed_record), (begins, (body, packed)))
  | inr plain ↦ elim (cases_eq (record_type_of order rest) 71) [
    | inl traced ↦ found_aux order bound offset attrs rest rule begins body traced
    | inr untraced ↦
        let extent = total_size_plain order rest untraced in
        let end_fits_u64 = body.header.end_fits in
        let there = body.complete in
        found_record order bound offset attrs rest (take (total_size_of order rest) rest) rule begins
        (starts_with_record_of order offset rest body plain (λ traced. absurd (untraced traced)) (omega (arith, extent, end_fits_u64)) (omega (arith, extent, there)))
  ]
]

-- if the attributes are consistent, the layout ends or a raw record follows
pub record_or_error_at : (order : Endianness) (bound : SectionSize) (offset : ℕ) (attrs : List Attribute) (rest : List ℕ) → AreConsistent attrs → (s : Standing) × IsRecordOrErrorAt order bound offset attrs rest s
record_or_error_at order bound offset attrs rest rule = elim (begins_or_over bound offset) [
  | inr over ↦ found_over order bound offset attrs rest over
  | inl begins ↦ elim (cases_lt (length rest) 8) [
    | inl short ↦ found_short order bound offset attrs rest begins short
    | inr header_bytes ↦ elim (cases_lt (record_size_of order rest) 8) [
      | inl small ↦ (ended (ends_with_error size_below_header), (begins, (header_bytes, small)))
      | inr least ↦ elim (cases_lt (offset + record_size_of order rest) (2 ^ 64)) [
        | inr far ↦ (ended (ends_with_error end_overflows), (begins, (header_bytes, least, far)))
        | inl end_fits_u64 ↦ elim (cases_lt (length rest) (record_size_of order rest)) [
          | inl cut ↦ found_truncated order bound offset attrs rest begins (record { complete_header = header_bytes; min_size = least; end_fits = end_fits_u64 }) cut
          | inr there ↦ found_body order bound offset attrs rest rule begins (record { header = record { complete_header = header_bytes; min_size = least; end_fits = end_fits_u64 }; complete = there })
        ]
      ]
    ]
  ]
]

-- The same for errors and raw records.

abbrev error_of : Standing → LayoutError
error_of (ended ends_complete) = truncated_header
error_of (ended (ends_with_error f)) = f
error_of (piece p) = truncated_header

pub error_one : (order : Endianness) (bound : SectionSize) (offset : ℕ) (attrs : List Attribute) (rest : List ℕ) (f g : LayoutError) → MayStartAt bound offset
    → ErrorAt order bound offset attrs rest f → ErrorAt order bound offset attrs rest g → f ≡ g
error_one order bound offset attrs rest f g begins x y =
    ap error_of (stands_one order bound offset attrs rest (ended (ends_with_error f)) (ended (ends_with_error g)) (begins, x) (begins, y))

pub ended_or_record : (e : LayoutEnd) (p : List ℕ) → ended e ≡ piece p → ⊥
ended_or_record e p same = cc

pub no_error : (order : Endianness) (bound : SectionSize) (offset : ℕ) (attrs : List Attribute) (rest p : List ℕ) (f : LayoutError) → MayStartAt bound offset → StartsWithRecord order offset rest p → IsValidRecord order bound p
    → AreConsistent (attrs ++ attributes_in_record order bound (record_type_of order p) (drop 8 p)) → ErrorAt order bound offset attrs rest f → ⊥
no_error order bound offset attrs rest p f begins starts_with_record is rule fault =
    ended_or_record (ends_with_error f) p (stands_one order bound offset attrs rest (ended (ends_with_error f)) (piece p) (begins, fault) (begins, starts_with_record, is, rule))

abbrev EndFaultOrPiece : Endianness → SectionSize → ℕ → List Attribute → List ℕ → Type 0
EndFaultOrPiece order bound offset attrs rest =
    IsEnd order bound offset rest ⊎ (((f : LayoutError) × ErrorAt order bound offset attrs rest f)
    ⊎ ((p : List ℕ) × StartsWithRecord order offset rest p × IsValidRecord order bound p × AreConsistent (attrs ++ attributes_in_record order bound (record_type_of order p) (drop 8 p))))

sorted : (order : Endianness) (bound : SectionSize) (offset : ℕ) (attrs : List Attribute) (rest : List ℕ) (s : Standing) → IsRecordOrErrorAt order bound offset attrs rest s → EndFaultOrPiece order bound offset attrs rest
sorted order bound offset attrs rest (ended ends_complete) is = inl is
sorted order bound offset attrs rest (ended (ends_with_error f)) is = inr (inl (f, is.1))
sorted order bound offset attrs rest (piece p) is = inr (inr (p, is.1, is.2, is.3))

pub end_error_or_record : (order : Endianness) (bound : SectionSize) (offset : ℕ) (attrs : List Attribute) (rest : List ℕ) → AreConsistent attrs → IsEnd order bound offset rest ⊎ (((f : LayoutError) × ErrorAt order bound offset attrs rest f)
    ⊎ ((p : List ℕ) × StartsWithRecord order offset rest p × IsValidRecord order bound p × AreConsistent (attrs ++ attributes_in_record order bound (record_type_of order p) (drop 8 p))))
end_error_or_record order bound offset attrs rest rule = let s = record_or_error_at order bound offset attrs rest rule in sorted order bound offset attrs rest s.0 s.1
