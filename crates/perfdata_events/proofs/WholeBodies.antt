-- The fields of a parsed record, its padding and its sample_id fields are the bytes of its body.
use Rattle.std.proofs.Common.{◌≡◌, ℕ, ◌-◌, ◌≤◌, ◌++◌, inl, inr, List, length, sym, ap, subst, ◌∙◌, append_assoc, arith, length-drop}
use Rattle.std.proofs.lemmas.List.{take-append-drop}
use Rattle.perfdata_sources.specs.Raw.{bytes_of}
use Rattle.perfdata_base.specs.declared.event.raw_event_record.RawEventRecord.{RawEventRecord}
use Rattle.perfdata_events.specs.Format.{encodes}
use Rattle.perfdata_events.specs.EventFormat.{trailing_size, before_trailing, trailing}
use Rattle.perfdata_events.specs.Event.{IsEvent, IsSplit, IsParsed, number}
use Rattle.perfdata_events.specs.WholeBody.{IsWhole, IsWholeBody}
use Rattle.perfdata_events.proofs.Prefixes.{prefix_sample}
use Rattle.perfdata_events.proofs.RowLaws.{prefix_of}
use Rattle.perfdata_events.specs.Sample.{sample, sample_of}
use Rattle.perfdata_events.specs.declared.format.EventFormat.{EventFormat}
use Rattle.perfdata_events.specs.declared.event.EventRecord.{EventRecord}
use Rattle.perfdata_events.specs.declared.event.EventRecord.TheVariants.{Read, ContextSwitch, Sample, Raw}

module _ (format : EventFormat) (raw : RawEventRecord) where
  event_prefix : (event : EventRecord) (xs rest : List ℕ) → IsEvent format raw xs event rest → (consumed : List ℕ) × (xs ≡ consumed ++ rest)
  event_prefix (Sample v) xs rest q = absurd q
  event_prefix (Raw v) xs rest q = absurd q
  event_prefix (ContextSwitch v) xs rest (inl q) = prefix_of format raw 14 v xs rest q
  event_prefix (ContextSwitch v) xs rest (inr q) = prefix_of format raw 15 v xs rest q
  event_prefix event xs rest q = prefix_of format raw _ _ xs rest q

  whole_split : (event : EventRecord) → IsSplit format raw event → IsWhole format raw event
  whole_split event q =
      let body : List ℕ = bytes_of raw.body in
      let size : ℕ = length body - trailing_size format in
      let p = event_prefix event (before_trailing format body) q.padding q.event_is in
      let enough : trailing_size format ≤ length body = q.enough in
      record {
        fields = p.0;
        padding = q.padding;
        bytes_are = sym (take-append-drop size body) ∙ ap (λ l. l ++ trailing format body) p.1 ∙ append_assoc p.0 q.padding (trailing format body);
        ids_size = length-drop size body ∙ omega (arith, enough);
        fields_are = subst (λ (l : List ℕ). IsEvent format raw l event q.padding) p.1 q.event_is;
      }

  pub parsed_whole : (event : EventRecord) → IsParsed format raw event → IsWholeBody format raw event
  parsed_whole (Sample v) q =
      let p = prefix_sample (number format raw) format (bytes_of raw.body) (sample_of v) q.padding q.event_is in
      record {
        fields = p.0;
        padding = q.padding;
        bytes_are = p.1;
        fields_are = subst (λ (l : List ℕ). sample (number format raw) format l (encodes (sample_of v) q.padding)) p.1 q.event_is;
      }
  parsed_whole (Raw v) q = tt
  parsed_whole (Read v) q = whole_split (Read v) q.1
  parsed_whole event q = whole_split event q
