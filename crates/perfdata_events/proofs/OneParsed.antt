-- A body has at most one parsed form, and none if it has an error.
use Rattle.std.proofs.Common.{◌≡◌, ◌≢◌, ℕ, ◌<◌, ◌≤◌, Bool, true, false, inl, inr, List, length, refl, sym, ap, ◌∙◌, arith}
use Rattle.std.specs.Prelude.{◌==◌, ◌&&◌, not, nat_le, nat_lt, Option, Some, None, if◌then◌else◌}
use Rattle.std.specs.declared.io.ErrorKind.{ErrorKind}
use Rattle.std.proofs.lemmas.Bool.{cases_eq}
use Rattle.std.proofs.lemmas.Bool.Decides.{nat_tests}
use Rattle.perfdata_sources.specs.Raw.{bytes_of}
use Rattle.perfdata_base.specs.declared.event.raw_event_record.RawEventRecord.{RawEventRecord}
use Rattle.perfdata_events.specs.Format.{Outcome, encodes, fails}
use Rattle.perfdata_events.specs.OneOutcome.{HasOneOutcome}
use Rattle.perfdata_events.specs.EventFormat.{trailing_size, before_trailing}
use Rattle.perfdata_events.specs.Event.{kind_of, number, row_of, has_known_fields, has_known_values, IsUnparsed, IsParsed, ParseFails}
use Rattle.perfdata_events.specs.EventView.{EventView, event_view, sample_view, raw_view}
use Rattle.perfdata_events.proofs.RecordOutcomes.{one_sample}
use Rattle.perfdata_events.proofs.RowLaws.{laws_of, fields_fail}
use Rattle.perfdata_events.specs.Sample.{sample, sample_of}
use Rattle.perfdata_events.specs.declared.format.EventFormat.{EventFormat}
use Rattle.perfdata_events.specs.declared.event.EventRecord.{EventRecord}
use Rattle.perfdata_events.specs.declared.event.EventRecord.TheVariants.{Read, ContextSwitch, Sample, Raw}

-- The view of a decoded value; none of an error.
abbrev view_in : {V : Type 0} → (V → EventView) → Outcome V → Option EventView
view_in view (encodes v rest) = Some (view v)
view_in view (fails kind) = None

some_same : (a b : EventView) → Some a ≡ Some b → a ≡ b
some_same a b e = cc

module _ (format : EventFormat) (raw : RawEventRecord) where
  abbrev body : List ℕ
  body = bytes_of raw.body

  abbrev fields : List ℕ
  fields = before_trailing format body

  one_sample_record : HasOneOutcome (sample (number format raw) format)
  one_sample_record = one_sample (number format raw) format

  -- What the fields of a record that isn't a sample decode to, by its type.
  abbrev fields_view : ℕ → Option EventView
  fields_view k = view_in (laws_of format raw k).view ((laws_of format raw k).one fields).0

  -- What the body decodes to, by its type, by what is known of its fields, and by whether the sample_id fields are complete.
  abbrev body_view : ℕ → Bool → Bool → Bool → Option EventView
  body_view k known_fields known_values enough =
      if k == 0 then Some (raw_view raw) else
      if nat_lt 21 k then Some (raw_view raw) else
      if k == 9 then (if known_fields then view_in sample_view (one_sample_record body).0 else Some (raw_view raw)) else
      if (k == 8) && not known_values then Some (raw_view raw) else
      if enough then fields_view k else None

  abbrev is_enough : Bool
  is_enough = nat_le (trailing_size format) (length body)

  -- It decodes to one view at most.
  abbrev only_view : Option EventView
  only_view = body_view (kind_of format raw) (has_known_fields format) (has_known_values format) is_enough

  by_type : (k : ℕ) → ((known_fields : Bool) → body_view k known_fields true true ≡ fields_view k)
      → kind_of format raw ≡ k → (known : body_view k (has_known_fields format) (has_known_values format) true ≡ body_view k (has_known_fields format) true true)
      → trailing_size format ≤ length body → (o : Outcome (row_of format raw k).Value) → (row_of format raw k).fields fields o → only_view ≡ view_in (laws_of format raw k).view o
  by_type k selects is_kind known enough o q =
      let complete : is_enough ≡ true = grind (arith, nat_tests) in
      ap (λ n. body_view n (has_known_fields format) (has_known_values format) is_enough) is_kind
      ∙ ap (λ b. body_view k (has_known_fields format) (has_known_values format) b) complete
      ∙ known ∙ selects (has_known_fields format) ∙ ap (view_in (laws_of format raw k).view) (sym (((laws_of format raw k).one fields).2 o q))

  at_sample : kind_of format raw ≡ 9 → has_known_fields format ≡ true → (o : Outcome _) → sample (number format raw) format body o → only_view ≡ view_in sample_view o
  at_sample e known o q =
      ap (λ n. body_view n (has_known_fields format) (has_known_values format) is_enough) e
      ∙ ap (λ b. body_view 9 b (has_known_values format) is_enough) known
      ∙ ap (view_in sample_view) (sym ((one_sample_record body).2 o q))

  unparsed_view : IsUnparsed format raw → only_view ≡ Some (raw_view raw)
  unparsed_view (inl e) = ap (λ n. body_view n (has_known_fields format) (has_known_values format) is_enough) e
  unparsed_view (inr (inl high)) =
      let some : (kind_of format raw == 0) ≡ false = grind (arith, nat_tests) in
      let beyond : nat_lt 21 (kind_of format raw) ≡ true = grind (arith, nat_tests) in
      rw (some, beyond) refl
  unparsed_view (inr (inr (inl q))) =
      ap (λ n. body_view n (has_known_fields format) (has_known_values format) is_enough) q.0
      ∙ ap (λ b. body_view 9 b (has_known_values format) is_enough) q.1
  unparsed_view (inr (inr (inr q))) =
      ap (λ n. body_view n (has_known_fields format) (has_known_values format) is_enough) q.0
      ∙ ap (λ b. body_view 8 (has_known_fields format) b is_enough) q.1

  parsed_view : (event : EventRecord) → IsParsed format raw event → only_view ≡ Some (event_view event)
  parsed_view (Sample v) q = at_sample q.is_type q.known (encodes (sample_of v) q.padding) q.event_is
  parsed_view (Raw v) q = unparsed_view q.1 ∙ ap (λ r. Some (raw_view r)) (sym q.0)
  parsed_view (Read v) q = by_type 8 (λ known_fields. refl) q.1.event_is.0 (ap (λ b. body_view 8 (has_known_fields format) b true) q.0) q.1.enough (encodes _ q.1.padding) q.1.event_is.1
  parsed_view (ContextSwitch v) q = elim q.event_is [
    | inl e ↦ by_type 14 (λ known_fields. refl) e.0 refl q.enough (encodes v q.padding) e.1
    | inr e ↦ by_type 15 (λ known_fields. refl) e.0 refl q.enough (encodes v q.padding) e.1
  ]
  parsed_view event q = by_type _ (λ known_fields. refl) q.event_is.0 refl q.enough (encodes _ q.padding) q.event_is.1

  has_values : (kind_of format raw ≡ 8 → has_known_values format ≡ true) → ((kind_of format raw == 8) && not (has_known_values format)) ≡ false
  has_values known = elim (cases_eq (kind_of format raw) 8) [
    | inl e ↦ ap (λ n. (n == 8) && not (has_known_values format)) e ∙ ap not (known e)
    | inr h ↦ let other : (kind_of format raw == 8) ≡ false = grind (arith, nat_tests) in ap (λ b. b && not (has_known_values format)) other
  ]

  module _ (from : 1 ≤ kind_of format raw) (to : kind_of format raw ≤ 21) (no_sample : kind_of format raw ≢ 9) (known : kind_of format raw ≡ 8 → has_known_values format ≡ true) where
    split_view : only_view ≡ (if is_enough then fields_view (kind_of format raw) else None)
    split_view =
        let some : (kind_of format raw == 0) ≡ false = grind (arith, nat_tests) in
        let within : nat_lt 21 (kind_of format raw) ≡ false = grind (arith, nat_tests) in
        let other : (kind_of format raw == 9) ≡ false = grind (arith, nat_tests) in
        let values : ((kind_of format raw == 8) && not (has_known_values format)) ≡ false = has_values known in
        rw (some, within, other, values) refl

    truncated_view : length body < trailing_size format → only_view ≡ None
    truncated_view fewer =
        let short : is_enough ≡ false = grind (arith, nat_tests) in
        split_view ∙ ap (λ b. if b then fields_view (kind_of format raw) else None) short

    failed_fields : (kind : ErrorKind) → trailing_size format ≤ length body → (row_of format raw (kind_of format raw)).fields fields (fails kind) → only_view ≡ None
    failed_fields kind enough q =
        let complete : is_enough ≡ true = grind (arith, nat_tests) in
        let laws = laws_of format raw (kind_of format raw) in
        split_view ∙ ap (λ b. if b then fields_view (kind_of format raw) else None) complete ∙ ap (view_in laws.view) (sym ((laws.one fields).2 (fails kind) q))

  failed_view : (kind : ErrorKind) → ParseFails format raw kind → only_view ≡ None
  failed_view kind (inl q) = at_sample q.0 q.1 (fails kind) q.2
  failed_view kind (inr (from, to, no_sample, known, inl short)) = truncated_view from to no_sample known short.too_few
  failed_view kind (inr (from, to, no_sample, known, inr (enough, q))) = failed_fields from to no_sample known kind enough (fields_fail format raw fields kind q)

  pub one_parsed : (a b : EventRecord) → IsParsed format raw a → IsParsed format raw b → event_view a ≡ event_view b
  one_parsed a b p q = some_same (event_view a) (event_view b) (sym (parsed_view a p) ∙ parsed_view b q)

  pub parsed_or_failed : (event : EventRecord) (kind : ErrorKind) → IsParsed format raw event → ParseFails format raw kind → ⊥
  parsed_or_failed event kind p q = let e : Some (event_view event) ≡ None = sym (parsed_view event p) ∙ failed_view kind q in absurd cc
