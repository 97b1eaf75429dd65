-- A file record as older simpleperf writes it in section FILE: consecutive parts, each of which can depend on those before it.
-- For each part, `At` says that the bytes begin with the encoding of a value, followed by `rest`. `Error` says that they don't,
-- and with which kind of error. The error of consecutive parts is that of the first invalid part, from left to right.
use Rattle.std.specs.Prelude.{◌≡◌, ◌≢◌, ℕ, ◌-◌, ◌^◌, ◌<◌, ◌≤◌, ◌⊎◌, List, [], ◌∷◌, length, drop}
use Rattle.std.specs.declared.io.ErrorKind.{ErrorKind}
use Rattle.std.specs.declared.io.ErrorKind.TheVariants.{UnexpectedEof, InvalidData}
use Rattle.perfdata_simpleperf.specs.FileRecord.{SymbolValue, Info, no_info, dex_file, elf_file, kernel_module, FileValue}
use Rattle.perfdata_simpleperf.specs.NulText.{TextAt, TextError}

-- a part, followed by another
module _ {A B : Type 0} (FirstAt : List ℕ → A → List ℕ → Type 0) (NextAt : A → List ℕ → B → List ℕ → Type 0) where
  abbrev pub SequenceAt : List ℕ → A × B → List ℕ → Type 0
  SequenceAt bs p rest = (mid : List ℕ) × FirstAt bs p.0 mid × NextAt p.0 mid p.1 rest

module _ {A : Type 0} (FirstAt : List ℕ → A → List ℕ → Type 0) (FirstError : List ℕ → ErrorKind → Type 0) (NextError : A → List ℕ → ErrorKind → Type 0) where
  abbrev pub SequenceError : List ℕ → ErrorKind → Type 0
  SequenceError bs kind = FirstError bs kind ⊎ ((a : A) × (mid : List ℕ) × FirstAt bs a mid × NextError a mid kind)

-- consecutive parts of one type
module _ {A : Type 0} (ItemAt : List ℕ → A → List ℕ → Type 0) where
  abbrev pub RepeatedAt : List ℕ → List A → List ℕ → Type 0
  RepeatedAt bs [] rest = rest ≡ bs
  RepeatedAt bs (a ∷ more) rest = (mid : List ℕ) × ItemAt bs a mid × RepeatedAt mid more rest

  -- fewer than `count` parts, followed by an error in the next
  pub record RepeatedError (ItemError : List ℕ → ErrorKind → Type 0) (count : ℕ) (bs : List ℕ) (kind : ErrorKind) : Type 0 where
    pub earlier : List A
    pub mid : List ℕ
    pub too_few : length earlier < count
    pub elements : RepeatedAt bs earlier mid
    pub error_here : ItemError mid kind

module _ (number : ℕ → List ℕ → ℕ) where
  -- an integer of `size` bytes
  pub record IntegerAt (size : ℕ) (bs : List ℕ) (n : ℕ) (rest : List ℕ) : Type 0 where
    pub enough : size ≤ length bs
    pub value : n ≡ number size bs
    pub rest_matches : rest ≡ drop size bs

  abbrev pub IntegerError : ℕ → List ℕ → ErrorKind → Type 0
  IntegerError size bs kind = (kind ≡ UnexpectedEof) × (length bs < size)

  -- a 4-byte number that isn't above a bound, which can depend on the bytes after the number
  module _ (bound : List ℕ → ℕ) where
    pub record BoundedAt (bs : List ℕ) (n : ℕ) (rest : List ℕ) : Type 0 where
      pub reads : IntegerAt 4 bs n rest
      pub in_bounds : n ≤ bound rest

    pub record ExceedsBound (bs : List ℕ) : Type 0 where
      pub value : ℕ
      pub rest : List ℕ
      pub reads : IntegerAt 4 bs value rest
      pub exceeds_bound : bound rest < value

    abbrev pub BoundedError : List ℕ → ErrorKind → Type 0
    BoundedError bs kind = IntegerError 4 bs kind ⊎ ((kind ≡ InvalidData) × ExceedsBound bs)

  -- a count, which isn't above the number of bytes after it, and that many parts
  module _ {A : Type 0} (ItemAt : List ℕ → A → List ℕ → Type 0) where
    abbrev pub CountedAt : List ℕ → List A → List ℕ → Type 0
    CountedAt bs ds rest = SequenceAt (BoundedAt length) (λ n mid es end. (n ≡ length es) × RepeatedAt ItemAt mid es end) bs (length ds, ds) rest

    abbrev pub CountedError : (List ℕ → ErrorKind → Type 0) → List ℕ → ErrorKind → Type 0
    CountedError ItemError bs kind = SequenceError (BoundedAt length) (BoundedError length) (RepeatedError ItemAt ItemError) bs kind

  -- a symbol: its address, its length, and its name up to a NUL
  abbrev pub SymbolAt : List ℕ → SymbolValue → List ℕ → Type 0
  SymbolAt bs s rest = SequenceAt (IntegerAt 8) (λ _. SequenceAt (IntegerAt 4) (λ _. TextAt)) bs (s.vaddr, (s.len, s.name)) rest

  abbrev pub SymbolError : List ℕ → ErrorKind → Type 0
  SymbolError bs kind = SequenceError (IntegerAt 8) (IntegerError 8) (λ _. SequenceError (IntegerAt 4) (IntegerError 4) (λ _. TextError)) bs kind

  -- an offset, which is the greatest 64-bit number if no bytes remain
  abbrev pub OffsetAt : List ℕ → ℕ → List ℕ → Type 0
  OffsetAt bs n rest = ((length bs ≡ 0) × (n ≡ 2 ^ 64 - 1) × (rest ≡ bs)) ⊎ ((0 < length bs) × IntegerAt 8 bs n rest)

  abbrev pub OffsetError : List ℕ → ErrorKind → Type 0
  OffsetError bs kind = (0 < length bs) × IntegerError 8 bs kind

  -- the end of a record of this type: offsets for a DEX file, an offset for an ELF file or a kernel module, else nothing
  abbrev pub InfoAt : ℕ → List ℕ → Info → List ℕ → Type 0
  InfoAt type_ bs (dex_file offsets) rest = (type_ ≡ 3) × CountedAt (IntegerAt 8) bs offsets rest
  InfoAt type_ bs (elf_file offset) rest = (type_ ≡ 2) × OffsetAt bs offset rest
  InfoAt type_ bs (kernel_module offset) rest = (type_ ≡ 1) × OffsetAt bs offset rest
  InfoAt type_ bs no_info rest = (type_ ≢ 1) × (type_ ≢ 2) × (type_ ≢ 3) × (rest ≡ bs)

  abbrev pub InfoError : ℕ → List ℕ → ErrorKind → Type 0
  InfoError type_ bs kind = ((type_ ≡ 3) × CountedError (IntegerAt 8) (IntegerError 8) bs kind) ⊎ (((type_ ≡ 1) ⊎ (type_ ≡ 2)) × OffsetError bs kind)

  -- after a path and a type: the lowest address, the symbols, and the information for the type
  abbrev pub AfterTypeAt : ℕ → List ℕ → ℕ × (List SymbolValue × Info) → List ℕ → Type 0
  AfterTypeAt type_ bs tail rest = SequenceAt (IntegerAt 8) (λ _. SequenceAt (CountedAt SymbolAt) (λ _. InfoAt type_)) bs tail rest

  abbrev pub AfterTypeError : ℕ → List ℕ → ErrorKind → Type 0
  AfterTypeError type_ bs kind =
      SequenceError (IntegerAt 8) (IntegerError 8) (λ _. SequenceError (CountedAt SymbolAt) (CountedError SymbolAt SymbolError) (λ _. InfoError type_)) bs kind

  -- a record: its path up to a NUL, its type, which is at most 5, and what follows these
  abbrev pub V1At : List ℕ → FileValue → List ℕ → Type 0
  V1At bs v rest = SequenceAt TextAt (λ _. SequenceAt (BoundedAt (λ _. 5)) AfterTypeAt) bs (v.path, (v.type_, (v.min_vaddr, (v.symbol, v.info)))) rest

  -- the bytes begin with a record of this value, whatever follows
  abbrev pub IsV1 : List ℕ → FileValue → Type 0
  IsV1 bs v = (rest : List ℕ) × V1At bs v rest

  -- the error of the first invalid part
  abbrev pub V1Error : List ℕ → ErrorKind → Type 0
  V1Error bs kind = SequenceError TextAt TextError (λ _. SequenceError (BoundedAt (λ _. 5)) (BoundedError (λ _. 5)) AfterTypeError) bs kind
