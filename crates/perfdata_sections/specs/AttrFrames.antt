-- Attributes in frames. A frame has `attr_size` bytes and starts with an attribute, which has its own size.
use Rattle.std.specs.Prelude.{◌≡◌, ℕ, ◌+◌, ◌^◌, ◌<◌, ◌≤◌, ◌⊎◌, List, [], length, take, None, Result, Ok, Err, Vec}
use Rattle.std.specs.declared.alloc.Global.{Global}
use Rattle.perfdata_sources.specs.Source.{State, Consumed, SourceFailed, SourcePaused}
use Rattle.perfdata_sources.specs.Attr.{own_size, IsAttr, IsTooSmall}
use Rattle.perfdata_sources.specs.declared.attr.PerfEventAttr.{PerfEventAttr}
use Rattle.perfdata_base.specs.declared.section.PerfFileSection.{PerfFileSection}
use Rattle.perfdata_sections.specs.AttributeDescription.{attr_in, name_in, ids_in}
use Rattle.perfdata_sections.specs.Error.{IsUnexpectedEof, IsIoError}
use Rattle.perfdata_sections.specs.Items.{NextReadError, ReadsItemAt, AreItems, SomeItemsRead, ReadsItems}
use Rattle.perfdata_sections.specs.declared.feature_sections.AttributeDescription.{AttributeDescription}
use Rattle.perfdata_sections.specs.declared.error.Error.{Error}
use Rattle.perfdata_sections.specs.declared.error.Error.TheVariants.{Read, InconsistentAttributeSizes}
use Rattle.perfdata_sections.specs.declared.error.ReadError.TheVariants.{PerfEventAttr as OfAttr}

-- An error of a source that failed or paused while attributes were read: an I/O error on failure, an unexpected end of file on a
-- pause, or `Read(PerfEventAttr)` on either.
abbrev pub IsAttributesSourceError : State → Error → State → Type 0
IsAttributesSourceError old e new =
    (IsIoError e × SourceFailed old new) ⊎ ((IsUnexpectedEof e × SourcePaused old new) ⊎ ((e ≡ Read OfAttr) × (SourceFailed old new ⊎ SourcePaused old new)))

module _ (number : ℕ → List ℕ → ℕ) (attr_size : ℕ) where
  -- `xs` starts with the attribute `a` in a frame. The padding of the frame may be missing.
  pub record IsAttrInFrame (xs : List ℕ) (a : PerfEventAttr) : Type 0 where
    pub matches : IsAttr number xs a
    pub within : own_size number xs ≤ attr_size

  -- `xs` ends before the first eight bytes of the attribute, or before the end of the attribute's own size, which fits the frame.
  abbrev pub IsTruncatedFrame : List ℕ → Type 0
  IsTruncatedFrame xs = (length xs < 8) ⊎ ((64 ≤ own_size number xs) × (own_size number xs ≤ attr_size) × (length xs < own_size number xs))

  -- `xs` doesn't start with a frame, and this is the error: the attribute is truncated, its own size is below 64, or its own size
  -- is above the frame's.
  abbrev pub IsFrameError : Error → List ℕ → Type 0
  IsFrameError (Read OfAttr) xs = IsTruncatedFrame xs ⊎ IsTooSmall number xs
  IsFrameError (InconsistentAttributeSizes own size) xs = (8 ≤ length xs) × (own ≡ own_size number xs) × (size ≡ attr_size) × (64 ≤ own) × (attr_size < own)
  IsFrameError _ xs = ⊥

  -- Like `IsFrameError`. A reader consumes this prefix of `xs` to detect the error: all bytes if the frame is truncated, else the
  -- first eight.
  abbrev pub ConsumesFrameError : Error → List ℕ → List ℕ → Type 0
  ConsumesFrameError e prefix xs = IsFrameError e xs × ((IsTruncatedFrame xs × (prefix ≡ xs)) ⊎ ((¬ IsTruncatedFrame xs) × (prefix ≡ take 8 xs)))

  -- A read of a frame failed or paused after the bytes `xs` of it.
  abbrev pub IsFrameReadError : Error → List ℕ → State → State → Type 0
  IsFrameReadError e xs old new = ((e ≡ Read OfAttr) × IsTruncatedFrame xs) × (SourceFailed old new ⊎ SourcePaused old new)

  -- An attribute in a frame is read, and no byte after the attribute's own size is consumed.
  pub record FrameRead (old : State) (a : PerfEventAttr) (new : State) : Type 0 where
    pub bytes : List ℕ
    pub exact_len : length bytes ≡ a.size
    pub fits_frame : a.size ≤ attr_size
    pub consumes : Consumed old bytes new
    pub matches : IsAttrInFrame bytes a

  -- What reading a frame at the source's position does.
  abbrev pub ReadsFrame : State → Result PerfEventAttr Error → State → Type 0
  ReadsFrame old (Ok a) new = FrameRead old a new
  ReadsFrame old (Err e) new = NextReadError ConsumesFrameError IsFrameReadError old e new

  -- What reading a frame at an offset does.
  abbrev pub ReadsFrameAt : State → ℕ → Result PerfEventAttr Error → State → Type 0
  ReadsFrameAt old at result new = ReadsItemAt IsAttrInFrame ConsumesFrameError IsFrameReadError old at result new

  -- The description of an attribute in a section of frames only, without name and ids.
  pub record IsPlainDescription (xs : List ℕ) (d : AttributeDescription) : Type 0 where
    pub attr_in_frame : IsAttrInFrame xs (attr_in d)
    pub name : name_in d ≡ None
    pub ids : ids_in d ≡ []

  module _ (section : PerfFileSection) where
    -- The section is invalid whatever the bytes are: the frame size is 0, or the section ends past 2^64 - 1.
    abbrev pub IsInvalidAttrSection : Type 0
    IsInvalidAttrSection = (attr_size ≡ 0) ⊎ (2 ^ 64 ≤ section.offset + section.size)

    -- The section contains exactly these attributes, one after another: as many frames as fit into its size.
    abbrev pub DescribesByAttrSection : List ℕ → List AttributeDescription → Type 0
    DescribesByAttrSection all ds = AreItems IsPlainDescription attr_size section.offset section.size all ds

    -- The first attributes of a valid section are read, at least one. Memory runs out for the description of the last.
    abbrev pub AttrSectionNeedsMemory : State → Type 0
    AttrSectionNeedsMemory old = (¬ IsInvalidAttrSection) × SomeItemsRead IsPlainDescription attr_size old section.offset section.size

    -- What reading the section does. An invalid section leaves the source unchanged. Otherwise all attributes are read; or
    -- reading fails after the first attributes: the next bytes are no frame, a read of them fails or pauses, or the seek to them
    -- fails. Only a failed seek is reported as an I/O error.
    abbrev pub ReadsAttrSection : State → Result (Vec AttributeDescription Global) Error → State → Type 0
    ReadsAttrSection old (Ok v) new =
        (¬ IsInvalidAttrSection) × ReadsItems IsPlainDescription ConsumesFrameError IsFrameReadError attr_size old section.offset section.size (Ok v) new
    ReadsAttrSection old (Err e) new =
        (IsInvalidAttrSection × (e ≡ Read OfAttr) × (new ≡ old))
        ⊎ ((¬ IsInvalidAttrSection) × ReadsItems IsPlainDescription ConsumesFrameError IsFrameReadError attr_size old section.offset section.size (Err e) new)
