-- The metadata that several records add to a `PerfFile`.
use Rattle.std.proofs.Common.{◌≡◌, ◌≢◌, ◌==◌, ℕ, ◌++◌, List, [], ◌∷◌, drop, refl, sym, ap, ◌∙◌, subst, inl, inr, append_assoc, append-nil, nat_eq}
use Rattle.std.specs.Prelude.{◌⊎◌, Option, None, Some}
use Rattle.std.specs.Map.{update, update_all}
use Rattle.std.proofs.lemmas.Bool.{cases_eq, cond-true, cond-false, eq-eqb, ne_eqb}
use Rattle.perfdata_sections.specs.AttributeDescription.{events_in}
use Rattle.perfdata_sections.specs.declared.feature_sections.AttributeDescription.{AttributeDescription}
use Rattle.perfdata_sources.specs.declared.endian.Endianness.{Endianness}
use Rattle.linux_perf_data.specs.Layout.{SectionSize, RecordView, attributes_in_record, attributes_in_views}
use Rattle.linux_perf_data.specs.LateMetadata.{features_in_record, features_in_views, ProvidesFeature, SomeProvideFeature, RenamesEvents, AccumulatesNone, AccumulatesOneMore, EventDescStaysValid}
use Rattle.linux_perf_data.specs.FeatureNumbers.{event_desc}
use Rattle.linux_perf_data.specs.Names.{NamedByEventDesc, IsReadableOrAbsent, feature_in_body}
use Rattle.linux_perf_data.specs.PerfFile.{attributes_of_file, feature_data_in_file, descriptions_of_file}
use Rattle.linux_perf_data.proofs.AddedAttributes.{added_one}

pub holds_none : AccumulatesNone
holds_none order bound file = record {
  same_endian = refl;
  attributes = sym (append-nil (attributes_of_file file));
  feature_data = λ n. refl;
  features = λ n. (λ x. inl x, λ s. elim s [ inl x ↦ x | inr e ↦ absurd e.1 ]);
  names_match = λ n. n;
}

all_append : (xs ys : List (ℕ × List ℕ)) (f : ℕ → Option (List ℕ)) → update_all nat_eq f (xs ++ ys) ≡ update_all nat_eq (update_all nat_eq f xs) ys
all_append [] ys f = refl
all_append (x ∷ xs) ys f = all_append xs ys (update nat_eq f x.0 (Some x.1))

brought_features_one : (order : Endianness) (bound : SectionSize) (hs : List RecordView) (h : RecordView) → features_in_views order bound (hs ++ h ∷ []) ≡ features_in_views order bound hs ++ features_in_record order bound h.record_type h.body
brought_features_one order bound [] h = append-nil (features_in_record order bound h.record_type h.body)
brought_features_one order bound (g ∷ hs) h =
    ap (λ l. features_in_record order bound g.record_type g.body ++ l) (brought_features_one order bound hs h)
    ∙ sym (append_assoc (features_in_record order bound g.record_type g.body) (features_in_views order bound hs) (features_in_record order bound h.record_type h.body))

brought_feature_there : (order : Endianness) (bound : SectionSize) (n : ℕ) (hs : List RecordView) (h : RecordView) → SomeProvideFeature order bound n hs ⊎ ProvidesFeature order bound n h.record_type h.body → SomeProvideFeature order bound n (hs ++ h ∷ [])
brought_feature_there order bound n [] h (inl e) = absurd e
brought_feature_there order bound n [] h (inr b) = inl b
brought_feature_there order bound n (g ∷ hs) h (inl (inl b)) = inl b
brought_feature_there order bound n (g ∷ hs) h (inl (inr b)) = inr (brought_feature_there order bound n hs h (inl b))
brought_feature_there order bound n (g ∷ hs) h (inr b) = inr (brought_feature_there order bound n hs h (inr b))

brought_feature_back : (order : Endianness) (bound : SectionSize) (n : ℕ) (hs : List RecordView) (h : RecordView) → SomeProvideFeature order bound n (hs ++ h ∷ []) → SomeProvideFeature order bound n hs ⊎ ProvidesFeature order bound n h.record_type h.body
brought_feature_back order bound n [] h (inl b) = inr b
brought_feature_back order bound n [] h (inr e) = absurd e
brought_feature_back order bound n (g ∷ hs) h (inl b) = inl (inl b)
brought_feature_back order bound n (g ∷ hs) h (inr b) = elim (brought_feature_back order bound n hs h b) [ inl c ↦ inl (inr c) | inr c ↦ inr c ]

-- a record of no feature, or of another feature, leaves EVENT_DESC unchanged
adds_plain : (order : Endianness) (record_type : ℕ) (body : List ℕ) (f : ℕ → Option (List ℕ)) (n : ℕ) → record_type ≢ 80 → update_all nat_eq f (features_in_record order None record_type body) n ≡ f n
adds_plain order record_type body f n other = ap (λ fs. update_all nat_eq f fs n) (cond-false (record_type == 80) ((feature_in_body order body, drop 8 body) ∷ []) [] (ne_eqb record_type 80 other))

adds_other : (order : Endianness) (record_type : ℕ) (body : List ℕ) (f : ℕ → Option (List ℕ)) (n : ℕ) → record_type ≡ 80 → feature_in_body order body ≢ n → update_all nat_eq f (features_in_record order None record_type body) n ≡ f n
adds_other order record_type body f n is other =
    ap (λ fs. update_all nat_eq f fs n) (cond-true (record_type == 80) ((feature_in_body order body, drop 8 body) ∷ []) [] (eq-eqb record_type 80 is))
    ∙ cond-false (nat_eq (feature_in_body order body) n) (Some (drop 8 body)) (f n) (ne_eqb (feature_in_body order body) n other)

-- a record renames the events or leaves EVENT_DESC unchanged
settled : (order : Endianness) (bound : SectionSize) (record_type : ℕ) (body : List ℕ) (f : ℕ → Option (List ℕ)) → RenamesEvents order bound record_type body
    ⊎ ((¬ RenamesEvents order bound record_type body) × (update_all nat_eq f (features_in_record order bound record_type body) event_desc ≡ f event_desc))
settled order (Some size) record_type body f = inr ((λ e. e), refl)
settled order None record_type body f = elim (cases_eq record_type 64) [
  | inl attribute ↦ inl (inl attribute)
  | inr other ↦ elim (cases_eq record_type 80) [
    | inr neither ↦ inr ((λ gives. elim gives [ inl a ↦ other a | inr b ↦ neither b.0 ]), adds_plain order record_type body f event_desc neither)
    | inl feature ↦ elim (cases_eq (feature_in_body order body) event_desc) [
      | inl desc ↦ inl (inr (feature, desc))
      | inr another ↦ inr ((λ gives. elim gives [ inl a ↦ other a | inr b ↦ another b.1 ]), adds_other order record_type body f event_desc feature another)
    ]
  ]
]

named_still : (order : Endianness) (a b : Option (List ℕ)) (ds es : List AttributeDescription) → b ≡ a → es ≡ ds → NamedByEventDesc order a ds → NamedByEventDesc order b es
named_still order a b ds es same are n = subst (λ x. NamedByEventDesc order x es) (sym same) (subst (NamedByEventDesc order a) (sym are) n)

pub holds_more : AccumulatesOneMore
holds_more order bound records h old now new before updates = record {
  same_endian = updates.same_endian ∙ before.same_endian;
  attributes = updates.attributes ∙ ap (λ l. l ++ attributes_in_record order bound h.record_type h.body) before.attributes
      ∙ append_assoc (attributes_of_file old) (attributes_in_views order bound records) (attributes_in_record order bound h.record_type h.body)
      ∙ ap (λ l. attributes_of_file old ++ l) (sym (added_one order bound records h));
  feature_data = λ n. updates.feature_data n ∙ (λ i. update_all nat_eq (λ m. before.feature_data m i) (features_in_record order bound h.record_type h.body) n)
      ∙ sym (ap (λ g. g n) (all_append (features_in_views order bound records) (features_in_record order bound h.record_type h.body) (feature_data_in_file old)))
      ∙ ap (λ l. update_all nat_eq (feature_data_in_file old) l n) (sym (brought_features_one order bound records h));
  features = λ n. (
    λ is. elim ((updates.features n).0 is) [
      | inl earlier ↦ elim ((before.features n).0 earlier) [ inl first ↦ inl first | inr some ↦ inr (some.0, brought_feature_there order bound n records h (inl some.1)) ]
      | inr here ↦ inr (here.0, brought_feature_there order bound n records h (inr here.1))
    ],
    λ is. elim is [
      | inl first ↦ (updates.features n).1 (inl ((before.features n).1 (inl first)))
      | inr some ↦ elim (brought_feature_back order bound n records h some.1) [
        | inl earlier ↦ (updates.features n).1 (inl ((before.features n).1 (inr (some.0, earlier))))
        | inr here ↦ (updates.features n).1 (inr (some.0, here))
      ]
    ],
  );
  names_match = λ first. elim (settled order bound h.record_type h.body (feature_data_in_file now)) [
    | inl gives ↦ updates.names_match gives
    | inr same ↦ named_still order (feature_data_in_file now event_desc) (feature_data_in_file new event_desc) (descriptions_of_file now) (descriptions_of_file new) (updates.feature_data event_desc ∙ same.1) (updates.if_not_renamed same.0) (before.names_match first)
  ];
}

-- an EVENT_DESC from which attributes have names is readable
pub can_name : (order : Endianness) (o : Option (List ℕ)) (ds : List AttributeDescription) → NamedByEventDesc order o ds → IsReadableOrAbsent order o
can_name order None ds named = tt
can_name order (Some bytes) ds named = (events_in named.0, named.1)

pub event_desc_stays_valid : EventDescStaysValid
event_desc_stays_valid order bound record_type body old new can updates = elim (settled order bound record_type body (feature_data_in_file old)) [
  | inl gives ↦ can_name order (feature_data_in_file new event_desc) (descriptions_of_file new) (updates.names_match gives)
  | inr same ↦ subst (IsReadableOrAbsent order) (sym (updates.feature_data event_desc ∙ same.1)) can
]
