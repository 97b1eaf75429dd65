-- The parsed form of a tool's record, by its type.
use Rattle.std.specs.Prelude.{◌≡◌, ◌≢◌, ℕ, ◌⊎◌, List}
use Rattle.std.specs.declared.io.Error.{Error}
use Rattle.perfdata_sources.specs.Raw.{bytes_of}
use Rattle.perfdata_sections.specs.RecordTypes.{header_attr, auxtrace, thread_map, header_feature}
use Rattle.perfdata_records.specs.UserRecordType.{user_type_number}
use Rattle.perfdata_records.specs.ThreadMap.{threads_of, IsThreadMap, IsThreadMapError}
use Rattle.perfdata_records.specs.Auxtrace.{IsAuxtrace, IsAuxtraceError}
use Rattle.perfdata_records.specs.HeaderAttr.{HoldsAttributeWith, attribute_with, attribute_of, IsHeaderAttrError}
use Rattle.perfdata_records.specs.HeaderFeature.{IsHeaderFeature, IsHeaderFeatureError}
use Rattle.perfdata_records.specs.declared.user_record.RawUserRecord.{RawUserRecord}
use Rattle.perfdata_records.specs.declared.user_record.UserRecord.{UserRecord}
use Rattle.perfdata_records.specs.declared.user_record.UserRecord.TheVariants.{ThreadMap, HeaderAttr, HeaderFeature, Auxtrace, Raw}

-- Records of this type aren't parsed.
pub record IsUnparsedType (record_type : ℕ) : Type 0 where
  pub no_attribute : record_type ≢ header_attr
  pub no_auxtrace : record_type ≢ auxtrace
  pub no_threads : record_type ≢ thread_map
  pub no_feature : record_type ≢ header_feature

module _ (number : ℕ → List ℕ → ℕ) where
  -- The parsed form of a record by its type. A record of another type remains raw.
  abbrev pub IsUserRecord : RawUserRecord → UserRecord → Type 0
  IsUserRecord raw (HeaderAttr header) = (user_type_number raw.record_type ≡ header_attr) × HoldsAttributeWith number (bytes_of raw.body)
      × (attribute_of header ≡ attribute_with number (bytes_of raw.body))
  IsUserRecord raw (Auxtrace parsed) = (user_type_number raw.record_type ≡ auxtrace) × IsAuxtrace number (bytes_of raw.body) parsed
  IsUserRecord raw (ThreadMap map) = (user_type_number raw.record_type ≡ thread_map) × IsThreadMap number (bytes_of raw.body) (threads_of map)
  IsUserRecord raw (HeaderFeature header) = (user_type_number raw.record_type ≡ header_feature) × IsHeaderFeature number (bytes_of raw.body) header
  IsUserRecord raw (Raw same) = (same ≡ raw) × IsUnparsedType (user_type_number raw.record_type)

  -- The body has this error in the format of the record's type.
  abbrev pub IsUserRecordError : RawUserRecord → Error → Type 0
  IsUserRecordError raw e =
      ((user_type_number raw.record_type ≡ header_attr) × IsHeaderAttrError number (bytes_of raw.body) e)
      ⊎ (((user_type_number raw.record_type ≡ auxtrace) × IsAuxtraceError number (bytes_of raw.body) e)
      ⊎ (((user_type_number raw.record_type ≡ thread_map) × IsThreadMapError number (bytes_of raw.body) e)
      ⊎ ((user_type_number raw.record_type ≡ header_feature) × IsHeaderFeatureError (bytes_of raw.body) e)))
