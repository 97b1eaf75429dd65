-- The samples and frames that records add.
use Rattle.std.proofs.Common.{◌≡◌, ℕ, ◌+◌, Bool, true, false, not, List, [], ◌∷◌, length, refl, sym, ap, ◌∙◌, subst, arith, inr, Option, None, Some}
use Rattle.std.specs.Prelude.{◌==◌, map}
use Rattle.std.specs.Option.{option_map}
use Rattle.std.specs.Int.RustNames.{bit_and}
use Rattle.perfdata_sources.specs.declared.endian.Endianness.{Endianness}
use Rattle.linux_perf_data.specs.Attribute.{Attribute}
use Rattle.linux_perf_data.specs.Layout.{RecordView}
use Rattle.perfdata_events.proofs.OneOutcomes.{one_both, one_led, one_optional, one_word}
use Rattle.perfdata_events.proofs.RecordOutcomes.{one_chain, one_event_words, one_origin_words, one_read_values}
use Rattle.perfdata_events.specs.CallChain.{chain_values_of}
use Rattle.perfdata_events.specs.Event.{has_known_fields}
use Rattle.perfdata_events.specs.Format.{Outcome, encodes, fails}
use Rattle.perfdata_events.specs.OneOutcome.{HasOneOutcome}
use Rattle.perfdata_events.specs.declared.format.EventFormat.{EventFormat}
use Rattle.perfdata_arrays.proofs.KindLaws.{KindLaws, counts_same}
use Rattle.perfdata_arrays.specs.Bodies.{IsBody, WordValues, bits, chain_after_values, number, values_of_words, word_bits, words}
use Rattle.perfdata_arrays.specs.SampleRecords.{AddsOf, IsSampleOf, after_frames, envelope_of, frames_of_body, sample_kind}
use Rattle.perfdata_arrays.specs.Samples.{chain_entries, error_code, known_bits, no_words, sample_of, sample_with}
use Rattle.perfdata_arrays.specs.declared.samples.body.BodyError.{BodyError}
use Rattle.perfdata_arrays.specs.declared.samples.body.BodyError.TheVariants.{Truncated, UnknownFields}
use Rattle.perfdata_arrays.specs.declared.samples.body.SampleBody.{SampleBody}
use Rattle.perfdata_arrays.specs.declared.samples.body.SampleBody.TheVariants.{Complete, Words, Nothing}
use Rattle.perfdata_arrays.specs.declared.samples.body.SampleWords.{SampleWords}
use Rattle.perfdata_arrays.specs.declared.samples.frame.FrameEntry.{FrameEntry}
use Rattle.perfdata_arrays.specs.declared.samples.sample.Sample.{Sample}
use Rattle.perfdata_arrays.specs.declared.samples.sample.SampleEnvelope.{SampleEnvelope}

-- ---- a body

-- the values that a body contains, wherever its bytes are
data BodyView : Type 0 where
  complete_view : WordValues → Option (List ℕ) → BodyView
  words_view : WordValues → BodyError → BodyView
  nothing_view : BodyView

abbrev view_of : SampleBody → BodyView
view_of (Complete v call_chain) = complete_view (values_of_words v) (option_map chain_values_of call_chain)
view_of (Words v error) = words_view (values_of_words v) error
view_of Nothing = nothing_view

module _ (format : EventFormat) where
  one_words : HasOneOutcome (words format)
  one_words = one_both _ _ (one_origin_words (number format) (bits format)) (λ _. one_both _ _ (one_event_words (number format) (bits format)) (λ _. one_word _ _))

  one_chain_after : HasOneOutcome (chain_after_values format)
  one_chain_after = one_led _ _ (one_optional _ (one_read_values (number format) format.read_format.0) _) (λ _. one_optional _ (one_chain (number format)) _)

  abbrev view_of_chain : WordValues → Outcome (Option (List ℕ)) → BodyView
  view_of_chain v (encodes values rest) = complete_view v values
  view_of_chain v (fails kind) = words_view v Truncated

  abbrev view_of_rest : Bool → WordValues → List ℕ → BodyView
  view_of_rest true v rest = view_of_chain v (one_chain_after rest).0
  view_of_rest false v rest = words_view v UnknownFields

  abbrev view_of_outcome : Outcome WordValues → BodyView
  view_of_outcome (encodes v rest) = view_of_rest (has_known_fields format) v rest
  view_of_outcome (fails kind) = nothing_view

  -- what a body contains is what its bytes determine
  body_view : (body : List ℕ) (b : SampleBody) → IsBody format body b → view_of b ≡ view_of_outcome (one_words body).0
  body_view body (Complete v c) is =
      let origin = is.start_is in
      let event = origin.goes_on in
      let period = event.goes_on in
      let counters = period.goes_on in
      let values : WordValues = values_of_words v in
      let chain_values : Option (List ℕ) = option_map chain_values_of c in
      let starts : words format body (encodes values period.middle) = record { middle = origin.middle; starts = origin.starts; goes_on = record { middle = event.middle; starts = event.starts; goes_on = period.starts } } in
      let after : chain_after_values format period.middle (encodes chain_values is.rest) = record { lead = is.values; middle = counters.middle; starts = counters.starts; goes_on = counters.goes_on } in
      ap (view_of_chain values) ((one_chain_after period.middle).2 (encodes chain_values is.rest) after)
      ∙ ap (λ k. view_of_rest k values period.middle) (sym is.known) ∙ ap view_of_outcome ((one_words body).2 (encodes values period.middle) starts)
  body_view body (Words v UnknownFields) is = ap (λ k. view_of_rest k (values_of_words v) is.rest) (sym is.unknown) ∙ ap view_of_outcome ((one_words body).2 (encodes (values_of_words v) is.rest) is.words_are)
  body_view body (Words v Truncated) is =
      ap (view_of_chain (values_of_words v)) ((one_chain_after is.rest).2 (fails is.kind) is.error)
      ∙ ap (λ k. view_of_rest k (values_of_words v) is.rest) (sym is.known) ∙ ap view_of_outcome ((one_words body).2 (encodes (values_of_words v) is.rest) is.words_are)
  body_view body Nothing is = ap view_of_outcome ((one_words body).2 (fails is.0) is.1)

  same_view : (body : List ℕ) (b c : SampleBody) → IsBody format body b → IsBody format body c → view_of b ≡ view_of c
  same_view body b c is other = body_view body b is ∙ sym (body_view body c other)

-- ---- a sample

abbrev words_of_values : WordValues → SampleWords
words_of_values v = record { origin = v.0; event = v.1.0; period = v.1.1 }

abbrev sample_of_view : SampleEnvelope → EventFormat → BodyView → Sample
sample_of_view envelope format (complete_view v chain_values) = sample_with envelope (words_of_values v) (bit_and format.sample_format.0 known_bits) 0
sample_of_view envelope format (words_view v error) = sample_with envelope (words_of_values v) (bit_and format.sample_format.0 word_bits) (error_code error)
sample_of_view envelope format nothing_view = sample_with envelope no_words 0 1

by_view : (envelope : SampleEnvelope) (format : EventFormat) (b : SampleBody) → sample_of envelope format b ≡ sample_of_view envelope format (view_of b)
by_view envelope format (Complete v c) = refl
by_view envelope format (Words v e) = refl
by_view envelope format Nothing = refl

abbrev frames_of_view : Bool → BodyView → List FrameEntry
frames_of_view true (complete_view v (Some values)) = chain_entries values
frames_of_view true (complete_view v None) = []
frames_of_view true (words_view v error) = []
frames_of_view true nothing_view = []
frames_of_view false view = []

frames_by_view : (wants : Bool) (b : SampleBody) → frames_of_body wants b ≡ frames_of_view wants (view_of b)
frames_by_view true (Complete v (Some c)) = refl
frames_by_view true (Complete v None) = refl
frames_by_view true (Words v e) = refl
frames_by_view true Nothing = refl
frames_by_view false b = refl

module _ (order : Endianness) (attrs : List Attribute) (wants : Bool) where
  module _ (used : ℕ) (h : RecordView) where
    sample_is_unique : (s t : Sample) (f g : List FrameEntry) → IsSampleOf order attrs wants used h s f → IsSampleOf order attrs wants used h t g → (s ≡ t) × (f ≡ g)
    sample_is_unique s t f g a b =
        let both : Some a.format ≡ Some b.format = sym a.format_is ∙ b.format_is in
        let same_format : a.format ≡ b.format = cc in
        let view = same_view a.format h.body a.body b.body a.body_is (subst (λ x. IsBody x h.body b.body) (sym same_format) b.body_is) in
        let frames : f ≡ g = a.frames_are ∙ frames_by_view wants a.body ∙ ap (frames_of_view wants) view ∙ sym (frames_by_view wants b.body) ∙ sym b.frames_are in (
          a.sample_is ∙ by_view (envelope_of order attrs h used (length f)) a.format a.body ∙ (λ i. sample_of_view (envelope_of order attrs h used (length (frames i))) (same_format i) (view i))
              ∙ sym (by_view (envelope_of order attrs h used (length g)) b.format b.body) ∙ sym b.sample_is,
          frames,
        )

    -- a record adds the same
    pub adds_unique : (s t : List Sample) (f g : List FrameEntry) → AddsOf order attrs wants used h s f → AddsOf order attrs wants used h t g → (s ≡ t) × (f ≡ g)
    adds_unique [] [] f g a b = (refl, a.1 ∙ sym b.1)
    adds_unique [] (t ∷ []) f g a b = (let e : None ≡ Some b.format = sym a.0 ∙ b.format_is in absurd cc)
    adds_unique [] (t ∷ u ∷ more) f g a b = absurd b
    adds_unique (s ∷ []) [] f g a b = (let e : None ≡ Some a.format = sym b.0 ∙ a.format_is in absurd cc)
    adds_unique (s ∷ []) (t ∷ []) f g a b = (let same = sample_is_unique s t f g a b in (ap (λ x. x ∷ []) same.0, same.1))
    adds_unique (s ∷ []) (t ∷ u ∷ more) f g a b = absurd b
    adds_unique (s ∷ u ∷ more) t f g a b = absurd a

  -- ---- after other frames

  sample_later : (h : RecordView) (n used count : ℕ) (format : EventFormat) (b : SampleBody) → after_frames n (sample_of (envelope_of order attrs h used count) format b) ≡ sample_of (envelope_of order attrs h (n + used) count) format b
  sample_later h n used count format (Complete v c) = refl
  sample_later h n used count format (Words v e) = refl
  sample_later h n used count format Nothing = refl

  is_sample_later : (h : RecordView) (n used : ℕ) (s : Sample) (f : List FrameEntry) → IsSampleOf order attrs wants used h s f → IsSampleOf order attrs wants (n + used) h (after_frames n s) f
  is_sample_later h n used s f a = record {
    format = a.format;
    format_is = a.format_is;
    body = a.body;
    body_is = a.body_is;
    frames_are = a.frames_are;
    sample_is = ap (after_frames n) a.sample_is ∙ sample_later h n used (length f) a.format a.body;
  }

  pub adds_later : (h : RecordView) (n used : ℕ) (s : List Sample) (f : List FrameEntry) → AddsOf order attrs wants used h s f → AddsOf order attrs wants (n + used) h (map (after_frames n) s) f
  adds_later h n used [] f a = a
  adds_later h n used (s ∷ []) f a = is_sample_later h n used s f a
  adds_later h n used (s ∷ t ∷ more) f a = absurd a

unmoved : (s : Sample) → after_frames 0 s ≡ s
unmoved s = (let start : 0 + s.frames_start ≡ s.frames_start = omega arith in (λ i. record s { frames_start = start i }))

-- ---- frames that aren't wanted

adds_unwanted : (order : Endianness) (attrs : List Attribute) (used : ℕ) (h : RecordView) (s : List Sample) (f : List FrameEntry) → AddsOf order attrs false used h s f → f ≡ []
adds_unwanted order attrs used h [] f adds = adds.1
adds_unwanted order attrs used h (s ∷ []) f adds = adds.frames_are
adds_unwanted order attrs used h (s ∷ t ∷ more) f adds = absurd adds

pub sample_laws : KindLaws sample_kind
sample_laws = record {
  unique = λ wants order attrs base used h s t f g. adds_unique order attrs wants used h s t f g;
  none = λ wants order attrs base used h f adds. adds.1;
  unshifted = unmoved;
  moves = λ wants order attrs base n used h s f. adds_later order attrs wants h n used s f;
  too_many = λ capacity frames_capacity count used s f needed exceeds. inr exceeds.2;
  one_report = λ capacity frames_capacity count used s f a b p q. counts_same a b (p.0 ∙ sym q.0) (p.1 ∙ sym q.1);
  fits = λ frames_capacity none order attrs base capacity count used h s f needed adds fewer within exceeds.
      (let unwanted : not (frames_capacity == 0) ≡ false = rw none refl in
      let many = exceeds.2 in
      omega (arith, many, within, none, ap length (adds_unwanted order attrs used h s f (subst (λ w. AddsOf order attrs w used h s f) unwanted adds))));
}
