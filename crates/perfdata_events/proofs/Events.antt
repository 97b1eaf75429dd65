-- The fields of an event before the sample_id fields.
use Rattle.std.proofs.Common.{◌≡◌, ◌≢◌, ℕ, ◌≤◌, Bool, true, false, inl, inr, List, length, refl, sym, subst, arith}
use Rattle.std.proofs.lemmas.Bool.{and_cases}
use Rattle.std.proofs.lemmas.Bool.Decides.{nat_tests}
use Rattle.std.specs.Prelude.{◌==◌, not, Result, Ok, Err, IfOk, IfErr}
use Rattle.std.specs.IoError.{error_kind}
use Rattle.std.specs.Result.{MatchResult, IsOkAnd}
use Rattle.std.specs.declared.io.Error.{Error}
use Rattle.perfdata_sources.specs.Raw.{bytes_of}
use Rattle.perfdata_base.specs.declared.event.raw_event_record.RawEventRecord.{RawEventRecord}
use Rattle.perfdata_events.specs.EventFormat.{trailing_size, before_trailing}
use Rattle.perfdata_events.specs.Event.{IsEvent, IsParsed, EventFails, DecodesEvent, ParseFails, kind_of, number, has_known_values, has_known_fields}
use Rattle.perfdata_events.specs.steps.Event.{has_unknown_values}
use Rattle.perfdata_events.specs.Format.{Decodes}
use Rattle.perfdata_events.specs.Sample.{sample, sample_of}
use Rattle.perfdata_events.specs.declared.format.EventFormat.{EventFormat}
use Rattle.perfdata_events.specs.declared.sample.SampleRecord.{SampleRecord}
use Rattle.perfdata_events.specs.declared.event.EventRecord.{EventRecord}
use Rattle.perfdata_events.specs.declared.event.EventRecord.TheVariants.{Read, Sample, Raw}

not_false : (b : Bool) → not b ≡ false → b ≡ true
not_false true h = refl
not_false false h = sym h

pub known_values : (format : EventFormat) (kind : ℕ) → has_unknown_values format kind ≡ false → kind ≡ 8 → has_known_values format ≡ true
known_values format kind h same = elim (and_cases (kind == 8) (not (has_known_values format)) h) [
  | inl other ↦ absurd (grind (arith, nat_tests))
  | inr known ↦ not_false (has_known_values format) known
]

-- An event that isn't a sample, parsed from the bytes before the sample_id fields, is the parsed form of the record.
pub parsed_split : (format : EventFormat) (raw : RawEventRecord) (event : EventRecord) → trailing_size format ≤ length (bytes_of raw.body)
    → (kind_of format raw ≡ 8 → has_known_values format ≡ true)
    → (fields : List ℕ) → fields ≡ before_trailing format (bytes_of raw.body) → (padding : List ℕ) → IsEvent format raw fields event padding → IsParsed format raw event
parsed_split format raw (Sample v) enough known fields same padding is = absurd is
parsed_split format raw (Raw v) enough known fields same padding is = absurd is
parsed_split format raw (Read v) enough known fields same padding is = (known is.0, record { enough = enough; padding = padding; event_is = subst (λ (l : List ℕ). IsEvent format raw l (Read v) padding) same is })
parsed_split format raw event enough known fields same padding is = record { enough = enough; padding = padding; event_is = subst (λ (l : List ℕ). IsEvent format raw l event padding) same is }

-- What the fields before the sample_id fields decode to is the parsed form of the record, or its first error.
module _ (format : EventFormat) (raw : RawEventRecord) (enough : trailing_size format ≤ length (bytes_of raw.body)) (known : kind_of format raw ≡ 8 → has_known_values format ≡ true) (fields padding : List ℕ) (same : fields ≡ before_trailing format (bytes_of raw.body)) where
  pub parsed_fields : (result : Result EventRecord Error) → DecodesEvent format raw fields result padding → IfOk result (λ event. IsParsed format raw event)
  parsed_fields (Ok event) is = parsed_split format raw event enough known fields same padding is
  parsed_fields (Err e) is = tt

  pub failed_fields : (result : Result EventRecord Error) → 1 ≤ kind_of format raw → kind_of format raw ≤ 21 → kind_of format raw ≢ 9 → DecodesEvent format raw fields result padding
      → IfErr result (λ error. ParseFails format raw (error_kind error))
  failed_fields (Ok event) from to no_sample is = tt
  failed_fields (Err e) from to no_sample is = inr (from, to, no_sample, known, inr (enough, subst (λ (l : List ℕ). EventFails format raw l (error_kind e)) same is))

-- What the body of a sample decodes to is the parsed form of the record, or its first error.
module _ (format : EventFormat) (raw : RawEventRecord) (is_sample : kind_of format raw ≡ 9) (known : has_known_fields format ≡ true) (padding : List ℕ) where
  pub parsed_sample : (decoded : Result SampleRecord Error) (result : Result EventRecord Error) → Decodes (sample (number format raw) format) sample_of (bytes_of raw.body) decoded padding
      → MatchResult decoded (λ v. IsOkAnd result (λ (event : EventRecord). event ≡ Sample v)) (λ e. result ≡ Err e)
      → IfOk result (λ event. IsParsed format raw event)
  parsed_sample (Ok v) (Ok event) is same = subst (IsParsed format raw) (sym same) record { is_type = is_sample; known = known; padding = padding; event_is = is }
  parsed_sample (Ok v) (Err e) is same = tt
  parsed_sample (Err e) result is same = subst (λ (r : Result EventRecord Error). IfOk r (λ event. IsParsed format raw event)) (sym same) tt

  pub failed_sample : (decoded : Result SampleRecord Error) (result : Result EventRecord Error) → Decodes (sample (number format raw) format) sample_of (bytes_of raw.body) decoded padding
      → MatchResult decoded (λ v. IsOkAnd result (λ (event : EventRecord). event ≡ Sample v)) (λ e. result ≡ Err e)
      → IfErr result (λ error. ParseFails format raw (error_kind error))
  failed_sample (Ok v) (Ok event) is same = tt
  failed_sample (Ok v) (Err e) is same = absurd same
  failed_sample (Err e) result is same = subst (λ (r : Result EventRecord Error). IfErr r (λ error. ParseFails format raw (error_kind error))) (sym same) (inl (is_sample, known, is))
