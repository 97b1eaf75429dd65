-- The body of a record with a feature's data: a number of eight bytes, whose low 32 bits are the feature's number, and the data.
use Rattle.std.specs.Prelude.{◌≡◌, ℕ, ◌%◌, ◌^◌, ◌<◌, ◌≤◌, ◌⊎◌, List, length, drop}
use Rattle.std.specs.IoError.{error_kind}
use Rattle.std.specs.declared.io.Error.{Error}
use Rattle.std.specs.declared.io.ErrorKind.TheVariants.{OutOfMemory}
use Rattle.perfdata_sources.specs.Raw.{EndsBefore}
use Rattle.perfdata_records.specs.declared.user_record.HeaderFeature.{HeaderFeature}

module _ (number : ℕ → List ℕ → ℕ) where
  -- The body is that of this feature record.
  pub record IsHeaderFeature (body : List ℕ) (header : HeaderFeature) : Type 0 where
    pub has_fixed_part : 8 ≤ length body
    pub feature_number : header.feature.0 ≡ number 8 body % 2 ^ 32
    pub all_data : header.bytes.items ≡ drop 8 body

-- The body has this error: the first eight bytes are truncated, or there is data and memory ran out for it.
abbrev pub IsHeaderFeatureError : List ℕ → Error → Type 0
IsHeaderFeatureError body e = EndsBefore 8 body e ⊎ ((8 < length body) × (error_kind e ≡ OutOfMemory))
