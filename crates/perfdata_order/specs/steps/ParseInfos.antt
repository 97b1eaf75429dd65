-- Steps of private functions: the parse infos that were found, by their indices.
use Rattle.std.specs.Prelude.{◌≡◌, ◌≢◌, ℕ, ◌⊎◌, [], ◌∷◌, ◌++◌, length, Some, Result, Ok, Err}
use Rattle.std.specs.declared.alloc.AllocError.{AllocError}
use Rattle.perfdata_identifiers.specs.declared.place.parse_info.RecordParseInfo.{RecordParseInfo}
use Rattle.perfdata_order.specs.declared.parse_infos.ParseInfos.{ParseInfos}
use Rattle.perfdata_order.specs.ParseInfos.{parse_infos_of, found_at}

-- Each parse info keeps its index.
abbrev pub KeepsFound : ParseInfos → ParseInfos → Type 0
KeepsFound old new = (index : ℕ) (parse_info : RecordParseInfo) → found_at old index ≡ Some parse_info → found_at new index ≡ Some parse_info

abbrev pub IsUnchanged : ParseInfos → ParseInfos → Type 0
IsUnchanged old new = parse_infos_of new ≡ parse_infos_of old

-- The parse info was found at this index.
pub record IsFound (old : ParseInfos) (parse_info : RecordParseInfo) (index : ℕ) (new : ParseInfos) : Type 0 where
  pub at_index : found_at old index ≡ Some parse_info
  pub unchanged : IsUnchanged old new

-- The parse info wasn't found, and is the last one now.
pub record IsAdded (old : ParseInfos) (parse_info : RecordParseInfo) (index : ℕ) (new : ParseInfos) : Type 0 where
  pub was_absent : (other : ℕ) → found_at old other ≢ Some parse_info
  pub is_last : index ≡ length (parse_infos_of old)
  pub one_more : parse_infos_of new ≡ parse_infos_of old ++ parse_info ∷ []

-- If memory runs out, the parse infos are unchanged.
abbrev pub FindsIndex : ParseInfos → RecordParseInfo → Result ℕ AllocError → ParseInfos → Type 0
FindsIndex old parse_info (Ok index) new = IsFound old parse_info index new ⊎ IsAdded old parse_info index new
FindsIndex old parse_info (Err e) new = IsUnchanged old new
