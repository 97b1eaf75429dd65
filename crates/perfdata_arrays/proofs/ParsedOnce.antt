-- A record has one parsed form, wherever its bytes are.
use Rattle.std.proofs.Common.{◌≡◌, ℕ, List, refl, subst}
use Rattle.std.specs.declared.io.ErrorKind.{ErrorKind}
use Rattle.perfdata_sources.specs.Raw.{bytes_of}
use Rattle.perfdata_base.specs.declared.event.raw_event_record.RawEventRecord.{RawEventRecord}
use Rattle.perfdata_identifiers.specs.declared.place.parse_info.RecordParseInfo.{RecordParseInfo}
use Rattle.perfdata_sources.specs.declared.raw.RawData.TheVariants.{Single}
use Rattle.perfdata_events.proofs.OneParsed.{one_parsed, parsed_or_failed}
use Rattle.perfdata_events.specs.Event.{IsParsed, ParseFails}
use Rattle.perfdata_events.specs.EventView.{event_view}
use Rattle.perfdata_events.specs.declared.event.EventRecord.{EventRecord}
use Rattle.perfdata_events.specs.declared.event.EventRecord.TheVariants.{Read, Sample, Raw}
use Rattle.perfdata_events.specs.declared.format.EventFormat.{EventFormat}

-- a raw record with these fields, in one slice
abbrev pub in_one_slice : RecordParseInfo → ℕ → ℕ → List ℕ → RawEventRecord
in_one_slice places kind misc bytes = record { record_type = record { 0 = kind }; misc = misc; body = Single (record { ref_ptr = (0, 0); now = bytes }); parse_info = places }

-- An unparsed record is kept as it is.
abbrev pub with_raw : RawEventRecord → EventRecord → EventRecord
with_raw raw (Raw v) = Raw raw
with_raw raw e = e

module _ (format : EventFormat) (raw : RawEventRecord) (places : RecordParseInfo) where
  abbrev moved : RawEventRecord
  moved = in_one_slice places raw.record_type.0 raw.misc (bytes_of raw.body)

  parsed_moved : (e : EventRecord) → IsParsed format raw e → IsParsed format moved (with_raw moved e)
  parsed_moved (Raw v) q = (refl, q.1)
  parsed_moved (Sample v) q = record { is_type = q.is_type; known = q.known; padding = q.padding; event_is = q.event_is }
  parsed_moved (Read v) q = (q.0, record { enough = q.1.enough; padding = q.1.padding; event_is = q.1.event_is })
  parsed_moved e q = record { enough = q.enough; padding = q.padding; event_is = q.event_is }

  fails_moved : (kind : ErrorKind) → ParseFails format raw kind → ParseFails format moved kind
  fails_moved kind q = q

-- The parsed forms of records with the same fields are the same, but for a record that isn't parsed; and there is none if there is an error.
module _ (format : EventFormat) (raw other : RawEventRecord) (same_type : raw.record_type.0 ≡ other.record_type.0) (same_misc : raw.misc ≡ other.misc) (same_body : bytes_of raw.body ≡ bytes_of other.body) where
  abbrev pub both : RawEventRecord
  both = in_one_slice raw.parse_info other.record_type.0 other.misc (bytes_of other.body)

  same_moved : moved format raw raw.parse_info ≡ both
  same_moved = λ i. in_one_slice raw.parse_info (same_type i) (same_misc i) (same_body i)

  pub one_event : (a b : EventRecord) → IsParsed format raw a → IsParsed format other b → event_view (with_raw both a) ≡ event_view (with_raw both b)
  one_event a b p q = one_parsed format both (with_raw both a) (with_raw both b) (subst (λ r. IsParsed format r (with_raw r a)) same_moved (parsed_moved format raw raw.parse_info a p)) (parsed_moved format other raw.parse_info b q)

  pub never_both : (a : EventRecord) (kind : ErrorKind) → IsParsed format raw a → ParseFails format other kind → ⊥
  never_both a kind p q = parsed_or_failed format both (with_raw both a) kind (subst (λ r. IsParsed format r (with_raw r a)) same_moved (parsed_moved format raw raw.parse_info a p)) (fails_moved format other raw.parse_info kind q)
