-- The bytes that an ELF file loads into memory.
use Rattle.std.specs.Prelude.{◌≡◌, ℕ, ◌+◌, ◌-◌, ◌^◌, ◌<◌, ◌≤◌, List, ◌∷◌, ◌++◌, Option, None, Some, All, MatchOption, length, min, slice_range, take}
use Rattle.code_symbols.specs.declared.elf.code.FileRange.{FileRange}
use Rattle.code_symbols.specs.declared.elf.header.Segment.{Segment}

-- the segment has bytes of the file at the address
pub record HasBytesAt (s : Segment) (x : ℕ) : Type 0 where
  pub starts : s.address ≤ x
  pub ends : x < s.address + s.file_size
  pub fits : s.offset + (x - s.address) < 2 ^ 64

-- the bytes of the segment from the address on, which it has
pub record IsRangeFrom (s : Segment) (x : ℕ) (r : FileRange) : Type 0 where
  pub has : HasBytesAt s x
  pub offset_is : r.offset ≡ s.offset + (x - s.address)
  pub size_is : r.size ≡ s.file_size - (x - s.address)

-- these are the bytes of the first segment that has some at the address
pub record IsFirstRange (segments : List Segment) (x : ℕ) (r : FileRange) : Type 0 where
  pub before : List Segment
  pub segment : Segment
  pub after : List Segment
  pub list : segments ≡ before ++ segment ∷ after
  pub is : IsRangeFrom segment x r
  pub first : All (λ s. ¬ HasBytesAt s x) before

-- the same, or `None` exactly if no segment has bytes at the address
abbrev pub IsRangeOf : List Segment → ℕ → Option FileRange → Type 0
IsRangeOf segments x None = All (λ s. ¬ HasBytesAt s x) segments
IsRangeOf segments x (Some r) = IsFirstRange segments x r

-- the buffer starts with `count` bytes of the file from an offset on
pub record StartsWithBytes (all : List ℕ) (r : FileRange) (count : ℕ) (buffer : List ℕ) : Type 0 where
  pub count_is : count ≡ min r.size (length buffer)
  pub bytes_are : take count buffer ≡ slice_range all r.offset (r.offset + count)

-- the buffer starts with the bytes that are loaded at an address, as many as there are and as it has
pub record HasCodeAt (all : List ℕ) (segments : List Segment) (x count : ℕ) (buffer : List ℕ) : Type 0 where
  pub range : Option FileRange
  pub is_range : IsRangeOf segments x range
  pub is : MatchOption range (count ≡ 0) (λ r. StartsWithBytes all r count buffer)
