-- The body of a record with an event's attribute: the attribute, and whole ids of eight bytes each to the end of the body.
use Rattle.std.specs.Prelude.{◌≡◌, ◌≢◌, ℕ, ◌+◌, ◌-◌, ◌/◌, ◌%◌, ◌≤◌, ◌⊎◌, List, length, drop}
use Rattle.std.specs.IoError.{error_kind}
use Rattle.std.specs.declared.io.Error.{Error}
use Rattle.std.specs.declared.io.ErrorKind.TheVariants.{UnexpectedEof, InvalidData, OutOfMemory}
use Rattle.perfdata_sources.specs.Endian.{number_in}
use Rattle.perfdata_sources.specs.Attr.{own_size, attr_of, IsTooSmall, IsTruncatedAttr}
use Rattle.perfdata_sources.specs.declared.endian.Endianness.{Endianness}
use Rattle.perfdata_sources.specs.declared.attr.PerfEventAttr.{PerfEventAttr}
pub use Rattle.perfdata_sections.specs.EventIds.{u64s_of}
use Rattle.perfdata_records.specs.declared.user_record.HeaderAttr.{HeaderAttr}

-- An event's attribute with the ids of its records.
pub record Attribute : Type 0 where
  pub attr : PerfEventAttr
  pub ids : List ℕ

module _ (number : ℕ → List ℕ → ℕ) where
  -- `body` contains a complete attribute, and whole ids to its end.
  pub record HoldsAttributeWith (body : List ℕ) : Type 0 where
    pub has_fixed_part : 8 ≤ length body
    pub min_size : 64 ≤ own_size number body
    pub complete : own_size number body ≤ length body
    pub whole_ids : (length body - own_size number body) % 8 ≡ 0

  abbrev pub attribute_with : List ℕ → Attribute
  attribute_with body = record {
    attr = attr_of number body;
    ids = u64s_of number ((length body - own_size number body) / 8) (drop (own_size number body) body);
  }

  -- The attribute is complete, and the last id after it is truncated.
  pub record HasTruncatedId (body : List ℕ) : Type 0 where
    pub has_fixed_part : 8 ≤ length body
    pub min_size : 64 ≤ own_size number body
    pub complete : own_size number body ≤ length body
    pub partial_id : (length body - own_size number body) % 8 ≢ 0

  -- The body has this error: the attribute or the last id is truncated, the attribute's own size is below 64, or there are ids
  -- and memory ran out for them.
  abbrev pub IsHeaderAttrError : List ℕ → Error → Type 0
  IsHeaderAttrError body e =
      ((error_kind e ≡ UnexpectedEof) × (IsTruncatedAttr number body ⊎ HasTruncatedId body))
      ⊎ (((error_kind e ≡ InvalidData) × IsTooSmall number body)
      ⊎ ((error_kind e ≡ OutOfMemory) × HoldsAttributeWith body × (own_size number body + 8 ≤ length body)))

-- `HoldsAttributeWith` and `attribute_with` for a byte order.
abbrev pub HoldsAttribute : Endianness → List ℕ → Type 0
HoldsAttribute endian body = HoldsAttributeWith (number_in endian) body

abbrev pub attribute_in : Endianness → List ℕ → Attribute
attribute_in endian body = attribute_with (number_in endian) body

-- The contents of the record.
abbrev pub attribute_of : HeaderAttr → Attribute
attribute_of header = record { attr = header.attr; ids = header.ids.items }
