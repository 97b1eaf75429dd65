-- Items at offsets of a file, alone or one after another, and what reading them does to a source.
use Rattle.std.specs.Prelude.{◌≡◌, ◌≢◌, ℕ, ◌+◌, ◌*◌, ◌/◌, ◌<◌, ◌≤◌, ◌⊎◌, List, [], ◌∷◌, length, take, drop, All, Option, Result, Ok, Err, IfSome, Vec}
use Rattle.std.specs.declared.alloc.Global.{Global}
use Rattle.perfdata_sources.specs.Source.{State, Consumed, SourceFailed, SourcePaused, AfterSeek, all_bytes_of, at_offset}
use Rattle.perfdata_sections.specs.Error.{IsIoError, IsUnexpectedEof}
use Rattle.perfdata_sections.specs.declared.error.Error.{Error}
use Rattle.perfdata_sections.specs.declared.error.Error.TheVariants.{Memory}

-- Some bytes satisfy `P`.
abbrev pub SomeBytes : (List ℕ → Type 0) → Type 0
SomeBytes P = (xs : List ℕ) × P xs

-- `IsNot e prefix xs`: the bytes `xs` don't start with an item, for the error `e`, and a reader consumes the prefix `prefix` of
-- `xs` to detect that. `IsOfRead e prefix old new`: a read of an item failed or paused after its bytes `prefix`, with the error
-- `e`.
module _ (IsNot : Error → List ℕ → List ℕ → Type 0) (IsOfRead : Error → List ℕ → State → State → Type 0) where
  -- The cause of the error `e` of an item, of which the bytes `prefix` are consumed. Some bytes with this prefix have this error,
  -- and the source's bytes satisfy `Shows` if they are known; or a read failed or paused.
  abbrev pub ReadErrorCause : State → Option (List ℕ) → (List ℕ → Type 0) → List ℕ → Error → State → Type 0
  ReadErrorCause old bytes Shows prefix e new = (SomeBytes (IsNot e prefix) × IfSome bytes Shows) ⊎ IsOfRead e prefix old new

  -- Reading an item at the source's position fails.
  pub record NextReadError (old : State) (e : Error) (new : State) : Type 0 where
    pub consumed_bytes : List ℕ
    pub consumes : Consumed old consumed_bytes new
    pub cause : ReadErrorCause old old.bytes (IsNot e consumed_bytes) consumed_bytes e new

  -- Reading an item at an offset fails, and the source's position is after the consumed bytes of the item.
  pub record ReadErrorAt (old : State) (at : ℕ) (e : Error) (new : State) : Type 0 where
    pub consumed_bytes : List ℕ
    pub position : new.position ≡ at_offset (at + length consumed_bytes) old.position
    pub at_position : IfSome (all_bytes_of old.position) (λ all. take (length consumed_bytes) (drop at all) ≡ consumed_bytes)
    pub cause : ReadErrorCause old (all_bytes_of old.position) (λ all. IsNot e consumed_bytes (drop at all)) consumed_bytes e new

  -- Reading an item at an offset fails, or the seek to the offset fails, and the error is the seek's.
  abbrev pub ReadOrSeekErrorAt : State → ℕ → Error → State → Type 0
  ReadOrSeekErrorAt old at e new = ReadErrorAt old at e new ⊎ (IsIoError e × SourceFailed old new)

-- The bytes `xs` are too few for an item. A read consumes all of them and ends with an unexpected end of file.
abbrev pub IsTruncationOf : (List ℕ → Type 0) → Error → List ℕ → List ℕ → Type 0
IsTruncationOf IsTruncated e prefix xs = IsUnexpectedEof e × IsTruncated xs × (prefix ≡ xs)

-- A read of an item failed with the source's own error after the bytes `xs`, or paused, which is an unexpected end of file.
abbrev pub IsReadErrorOf : (List ℕ → Type 0) → Error → List ℕ → State → State → Type 0
IsReadErrorOf IsTruncated e xs old new = IsTruncated xs × ((IsIoError e × SourceFailed old new) ⊎ (IsUnexpectedEof e × SourcePaused old new))

-- `xs` has fewer than `n` bytes.
abbrev pub IsShorterThan : ℕ → List ℕ → Type 0
IsShorterThan n xs = length xs < n

-- `IsOne xs d`: the bytes `xs` start with the item `d`.
module _ {D : Type 0} (IsOne : List ℕ → D → Type 0) where
  -- Some bytes start with the item `d`, and those of the source at the offset do if all its bytes are known.
  pub record ItemRead (old : State) (at : ℕ) (d : D) (new : State) : Type 0 where
    pub after_seek : AfterSeek old new
    pub is_possible : SomeBytes (λ xs. IsOne xs d)
    pub matches : IfSome (all_bytes_of old.position) (λ all. IsOne (drop at all) d)

  module _ (step : ℕ) where
    -- The items are one after another from an offset on, at a distance of `step` bytes.
    abbrev pub ItemsAt : List ℕ → ℕ → List D → Type 0
    ItemsAt all at [] = Unit {0}
    ItemsAt all at (d ∷ ds) = IsOne (drop at all) d × ItemsAt all (at + step) ds

    -- The `size` bytes at `offset` contain exactly these items.
    pub record AreItems (offset size : ℕ) (all : List ℕ) (ds : List D) : Type 0 where
      pub count : length ds ≡ size / step
      pub items_match : ItemsAt all offset ds

    -- `size / step` items are read. Some bytes start with each of them, and the source contains them if all its bytes are known.
    pub record ItemsRead (old : State) (offset size : ℕ) (ds : List D) (new : State) : Type 0 where
      pub after_seek : AfterSeek old new
      pub count : length ds ≡ size / step
      pub is_possible : All (λ d. SomeBytes (λ xs. IsOne xs d)) ds
      pub matches : IfSome (all_bytes_of old.position) (λ all. AreItems offset size all ds)

    -- The first items are read, at least one.
    pub record SomeItemsRead (old : State) (offset size : ℕ) : Type 0 where
      pub items : List D
      pub is_nonempty : 0 < length items
      pub within : length items ≤ size / step
      pub is_possible : All (λ d. SomeBytes (λ xs. IsOne xs d)) items
      pub elements : IfSome (all_bytes_of old.position) (λ all. ItemsAt all offset items)

  -- `Fails old at e new`: reading an item at the offset `at` fails with `e`.
  module _ (Fails : State → ℕ → Error → State → Type 0) where
    -- The first items are read, fewer than `size / step`, and reading the next at its offset fails.
    pub record ItemsReadErrorBy (step : ℕ) (old : State) (offset size : ℕ) (e : Error) (new : State) : Type 0 where
      pub before : List D
      pub too_few : length before < size / step
      pub is_possible : All (λ d. SomeBytes (λ xs. IsOne xs d)) before
      pub elements : IfSome (all_bytes_of old.position) (λ all. ItemsAt step all offset before)
      pub error : Fails old (offset + length before * step) e new

    -- What reading an item at an offset does. If memory runs out, no cause is specified.
    abbrev pub ReadsItemAtBy : State → ℕ → Result D Error → State → Type 0
    ReadsItemAtBy old at (Ok d) new = ItemRead old at d new
    ReadsItemAtBy old at (Err e) new = AfterSeek old new × (e ≢ Memory → Fails old at e new)

    -- What reading all items of a part of `size` bytes does. If memory runs out, no cause is specified.
    abbrev pub ReadsItemsBy : ℕ → State → ℕ → ℕ → Result (Vec D Global) Error → State → Type 0
    ReadsItemsBy step old offset size (Ok v) new = ItemsRead step old offset size v.items new
    ReadsItemsBy step old offset size (Err e) new = AfterSeek old new × (e ≢ Memory → ItemsReadErrorBy step old offset size e new)

  -- The same for items whose errors are those of their bytes, of a read, or of the seek to them.
  module _ (IsNot : Error → List ℕ → List ℕ → Type 0) (IsOfRead : Error → List ℕ → State → State → Type 0) where
    abbrev pub ReadsItemAt : State → ℕ → Result D Error → State → Type 0
    ReadsItemAt old at result new = ReadsItemAtBy (ReadOrSeekErrorAt IsNot IsOfRead) old at result new

    abbrev pub ReadsItems : ℕ → State → ℕ → ℕ → Result (Vec D Global) Error → State → Type 0
    ReadsItems step old offset size result new = ReadsItemsBy (ReadOrSeekErrorAt IsNot IsOfRead) step old offset size result new
