-- The metadata of metadata records, with one more record.
use Rattle.std.proofs.Common.{◌≡◌, ℕ, ◌++◌, ◌==◌, List, [], ◌∷◌, Bool, true, false, drop, refl, sym, ap, ◌∙◌, subst, arith, inl, inr, append_assoc, append-nil, Option, None, Some}
use Rattle.std.specs.Prelude.{◌⊎◌, IsSome, cond, nat_eq, if◌then◌else◌}
use Rattle.std.specs.Map.{update_all, update}
use Rattle.std.proofs.lemmas.Bool.{eq-eqb, eqb-true}
use Rattle.std.proofs.lemmas.List.Sums.{fold-append}
use Rattle.perfdata_identifiers.specs.Features.{InsertsFeature}
use Rattle.perfdata_sources.specs.Endian.{number_in}
use Rattle.perfdata_sources.specs.declared.endian.Endianness.{Endianness}
use Rattle.perfdata_records.specs.HeaderFeature.{IsHeaderFeature}
use Rattle.perfdata_records.specs.declared.user_record.HeaderFeature.{HeaderFeature}
use Rattle.linux_perf_data.specs.Descriptions.{described_attributes}
use Rattle.linux_perf_data.specs.LateMetadata.{features_in_record}
use Rattle.linux_perf_data.specs.Layout.{attributes_in_records, attributes_in_record, record_type_of}
use Rattle.linux_perf_data.specs.Names.{feature_in_body}
use Rattle.linux_perf_data.specs.PipeOpening.{features_in_records, feature_data_in}
use Rattle.linux_perf_data.specs.steps.PipeSteps.{RecordAdded, CollectsMetadata}
use Rattle.linux_perf_data.specs.FeatureData.{feature_data_of}
use Rattle.linux_perf_data.specs.declared.metadata_records.PipeMetadata.{PipeMetadata}

-- the data of a feature are inserted
pub feature_added : (order : Endianness) (body : List ℕ) (old new : PipeMetadata) (h : HeaderFeature) → IsHeaderFeature (number_in order) body h → new.attributes ≡ old.attributes
    → ((n : ℕ) → feature_data_of new.sections n ≡ cond (nat_eq h.feature.0 n) (Some h.bytes.items) (feature_data_of old.sections n)) → InsertsFeature old.features h.feature.0 new.features → RecordAdded order 80 body old new
feature_added order body old new h is same puts set = record {
  valid_attribute = λ k. absurd (omega (arith, k));
  valid_feature = λ _. is.has_fixed_part;
  attributes = ap (λ v. described_attributes v.items) same ∙ sym (append-nil (described_attributes old.attributes.items));
  feature_data = λ n. puts n ∙ ap (λ k. cond (nat_eq k n) (Some h.bytes.items) (feature_data_of old.sections n)) is.feature_number
      ∙ ap (λ l. cond (nat_eq (feature_in_body order body) n) (Some l) (feature_data_of old.sections n)) is.all_data;
  features = λ n. (
    λ has. elim ((set n).0 has) [ inl before ↦ inl before | inr put ↦ inr (put.0, (refl, sym is.feature_number ∙ put.1)) ],
    λ either. (set n).1 (elim either [ inl before ↦ inl before | inr put ↦ inr (put.0, is.feature_number ∙ put.1.1) ]),
  );
}

-- ---- one more record

attributes_one : (order : Endianness) (ps : List (List ℕ)) (p : List ℕ) → attributes_in_records order None (ps ++ p ∷ []) ≡ attributes_in_records order None ps ++ attributes_in_record order None (record_type_of order p) (drop 8 p)
attributes_one order [] p = append-nil (attributes_in_record order None (record_type_of order p) (drop 8 p))
attributes_one order (q ∷ qs) p =
    ap (λ l. attributes_in_record order None (record_type_of order q) (drop 8 q) ++ l) (attributes_one order qs p)
    ∙ sym (append_assoc (attributes_in_record order None (record_type_of order q) (drop 8 q)) (attributes_in_records order None qs) (attributes_in_record order None (record_type_of order p) (drop 8 p)))

features_one : (order : Endianness) (ps : List (List ℕ)) (p : List ℕ) → features_in_records order (ps ++ p ∷ []) ≡ features_in_records order ps ++ features_in_record order None (record_type_of order p) (drop 8 p)
features_one order [] p = append-nil (features_in_record order None (record_type_of order p) (drop 8 p))
features_one order (q ∷ qs) p =
    ap (λ l. features_in_record order None (record_type_of order q) (drop 8 q) ++ l) (features_one order qs p)
    ∙ sym (append_assoc (features_in_record order None (record_type_of order q) (drop 8 q)) (features_in_records order qs) (features_in_record order None (record_type_of order p) (drop 8 p)))

-- the same insertions into equal data give equal data
updates_same : (f g : ℕ → Option (List ℕ)) (xs : List (ℕ × List ℕ)) → ((n : ℕ) → f n ≡ g n) → (n : ℕ) → update_all nat_eq f xs n ≡ update_all nat_eq g xs n
updates_same f g [] same n = same n
updates_same f g (x ∷ xs) same n = updates_same (update nat_eq f x.0 (Some x.1)) (update nat_eq g x.0 (Some x.1)) xs (λ q. ap (λ o. cond (nat_eq x.0 q) (Some x.1) o) (same q)) n

described_one : (order : Endianness) (ps : List (List ℕ)) (p : List ℕ) (n : ℕ) → feature_data_in order (ps ++ p ∷ []) n ≡ update_all nat_eq (feature_data_in order ps) (features_in_record order None (record_type_of order p) (drop 8 p)) n
described_one order ps p n =
    ap (λ l. update_all nat_eq (λ _. None) l n) (features_one order ps p)
    ∙ ap (λ f. f n) (fold-append (λ (g : ℕ → Option (List ℕ)) (q : ℕ × List ℕ). update nat_eq g q.0 (Some q.1)) (λ _. None) (features_in_records order ps) (features_in_record order None (record_type_of order p) (drop 8 p)))

-- the features that have data after an insertion
pub is_some_of : (t : Bool) (d : List ℕ) (o : Option (List ℕ)) → IsSome (cond t (Some d) o) → IsSome o ⊎ (t ≡ true)
is_some_of true d o some = inr refl
is_some_of false d o some = inl some

pub some_of : (t : Bool) (d : List ℕ) (o : Option (List ℕ)) → IsSome o ⊎ (t ≡ true) → IsSome (cond t (Some d) o)
some_of true d o either = refl
some_of false d o (inl some) = some
some_of false d o (inr is) = absurd cc

is_brought : (t : Bool) (f n : ℕ) (d : List ℕ) (g : ℕ → Option (List ℕ)) → IsSome (update_all nat_eq g (if t then (f, d) ∷ [] else []) n) → IsSome (g n) ⊎ ((t ≡ true) × (nat_eq f n ≡ true))
is_brought true f n d g some = elim (is_some_of (nat_eq f n) d (g n) some) [ inl before ↦ inl before | inr is ↦ inr (refl, is) ]
is_brought false f n d g some = inl some

brought_some : (t : Bool) (f n : ℕ) (d : List ℕ) (g : ℕ → Option (List ℕ)) → IsSome (g n) ⊎ ((t ≡ true) × (nat_eq f n ≡ true)) → IsSome (update_all nat_eq g (if t then (f, d) ∷ [] else []) n)
brought_some true f n d g (inl before) = some_of (nat_eq f n) d (g n) (inl before)
brought_some true f n d g (inr is) = some_of (nat_eq f n) d (g n) (inr is.1)
brought_some false f n d g (inl before) = before
brought_some false f n d g (inr is) = absurd (let e = is.0 in cc)

pub metadata_more : (order : Endianness) (ps : List (List ℕ)) (p : List ℕ) (m m' : PipeMetadata) → CollectsMetadata order ps m → RecordAdded order (record_type_of order p) (drop 8 p) m m' → CollectsMetadata order (ps ++ p ∷ []) m'
metadata_more order ps p m m' described g =
    let kind = record_type_of order p in
    let body = drop 8 p in
    let more = λ (n : ℕ). described_one order ps p n in record {
      attributes = g.attributes ∙ ap (λ l. l ++ attributes_in_record order None kind body) described.attributes ∙ sym (attributes_one order ps p);
      feature_data = λ n. g.feature_data n ∙ updates_same (feature_data_of m.sections) (feature_data_in order ps) (features_in_record order None kind body) described.feature_data n ∙ sym (more n);
      features = λ n. (
        λ has. elim ((g.features n).0 has) [
          | inl before ↦ (
              let both = (described.features n).0 before in
              (both.0, subst IsSome (sym (more n)) (brought_some (kind == 80) (feature_in_body order body) n (drop 8 body) (feature_data_in order ps) (inl both.1))))
          | inr put ↦ (put.0, subst IsSome (sym (more n)) (brought_some (kind == 80) (feature_in_body order body) n (drop 8 body) (feature_data_in order ps) (inr (eq-eqb kind 80 put.1.0, eq-eqb (feature_in_body order body) n put.1.1))))
        ],
        λ both. (g.features n).1 (elim (is_brought (kind == 80) (feature_in_body order body) n (drop 8 body) (feature_data_in order ps) (subst IsSome (more n) both.1)) [
          | inl before ↦ inl ((described.features n).1 (both.0, before))
          | inr is ↦ inr (both.0, (eqb-true kind 80 is.0, eqb-true (feature_in_body order body) n is.1))
        ]),
      );
    }
