-- The parsed form of the bodies of a jitdump's records (Linux's jitdump specification). Numbers have fixed offsets, strings
-- end at their first NUL, and bytes after a body's last part are ignored.
use Rattle.std.specs.Prelude.{◌≡◌, ℕ, ◌+◌, ◌<◌, ◌≤◌, ◌⊎◌, List, [], ◌∷◌, ◌++◌, length, drop, slice_range, slice_index_or, Option, MatchOption}
use Rattle.std.specs.List.{All, Contains}
use Rattle.std.specs.IoError.{error_kind}
use Rattle.std.specs.declared.io.Error.{Error}
use Rattle.std.specs.declared.io.ErrorKind.TheVariants.{UnexpectedEof, OutOfMemory}
use Rattle.perfdata_sources.specs.Raw.{bytes_of, HasNoNul, SplitsAtNul}
use Rattle.perfdata_jit.specs.declared.records.JitCodeLoadRecord.{JitCodeLoadRecord}
use Rattle.perfdata_jit.specs.declared.records.JitCodeMoveRecord.{JitCodeMoveRecord}
use Rattle.perfdata_jit.specs.declared.records.JitCodeDebugInfoRecord.{JitCodeDebugInfoRecord}
use Rattle.perfdata_jit.specs.declared.records.JitCodeDebugInfoEntry.{JitCodeDebugInfoEntry}
use Rattle.perfdata_jit.specs.declared.records.JitCodeUnwindingInfoRecord.{JitCodeUnwindingInfoRecord}

-- the entry at the start of the bytes is truncated: its sixteen bytes are, or no NUL ends its path
abbrev pub IsTruncatedDebugEntry : List ℕ → Type 0
IsTruncatedDebugEntry bytes = (length bytes < 16) ⊎ ((16 ≤ length bytes) × HasNoNul (drop 16 bytes))

module _ (number : ℕ → List ℕ → ℕ) where
  -- A function that was compiled: pid and tid of four bytes each, mapping address, code address, code size and code index
  -- of eight bytes each, and then the function's name and the code.
  pub record IsLoad (body : List ℕ) (load : JitCodeLoadRecord) : Type 0 where
    pub process : load.pid ≡ number 4 body
    pub thread : load.tid ≡ number 4 (drop 4 body)
    pub mapping : load.vma ≡ number 8 (drop 8 body)
    pub address : load.code_addr ≡ number 8 (drop 16 body)
    pub index : load.code_index ≡ number 8 (drop 32 body)
    pub size : length (bytes_of load.code_bytes) ≡ number 8 (drop 24 body)
    pub after_body : List ℕ
    pub name_text : SplitsAtNul (drop 40 body) (bytes_of load.function_name) (bytes_of load.code_bytes ++ after_body)

  -- the name is complete, and the code after it is truncated
  pub record IsTruncatedCode (body : List ℕ) : Type 0 where
    pub name : List ℕ
    pub after_body : List ℕ
    pub name_text : SplitsAtNul (drop 40 body) name after_body
    pub too_few : length after_body < number 8 (drop 24 body)

  -- the body is no load record: the forty bytes or the code are truncated, or no NUL ends the name
  pub record IsLoadError (body : List ℕ) (e : Error) : Type 0 where
    pub cause : (length body < 40) ⊎ (((40 ≤ length body) × HasNoNul (drop 40 body)) ⊎ ((40 ≤ length body) × IsTruncatedCode body))
    pub kind : error_kind e ≡ UnexpectedEof

  -- a function that was moved, from 48 bytes
  abbrev pub move_of : List ℕ → JitCodeMoveRecord
  move_of body = record {
    pid = number 4 body;
    tid = number 4 (drop 4 body);
    vma = number 8 (drop 8 body);
    old_code_addr = number 8 (drop 16 body);
    new_code_addr = number 8 (drop 24 body);
    code_size = number 8 (drop 32 body);
    code_index = number 8 (drop 40 body);
  }

  -- A debug entry at the start of the bytes: the code address of eight bytes, line and column of four bytes each, and the
  -- path of the file.
  pub record IsDebugEntry (bytes : List ℕ) (entry : JitCodeDebugInfoEntry) (rest : List ℕ) : Type 0 where
    pub address : entry.code_addr ≡ number 8 bytes
    pub line_number : entry.line ≡ number 4 (drop 8 bytes)
    pub column_number : entry.column ≡ number 4 (drop 12 bytes)
    pub path_text : SplitsAtNul (drop 16 bytes) (bytes_of entry.file_path) rest

  -- the bytes are these consecutive entries, followed by the rest
  abbrev pub AreDebugEntries : List ℕ → List JitCodeDebugInfoEntry → List ℕ → Type 0
  AreDebugEntries bytes [] rest = rest ≡ bytes
  AreDebugEntries bytes (entry ∷ entries) rest = (after_entry : List ℕ) × IsDebugEntry bytes entry after_entry × AreDebugEntries after_entry entries rest

  -- the source locations of code: its address and the number of entries of eight bytes each, and the entries
  pub record IsDebugInfo (body : List ℕ) (info : JitCodeDebugInfoRecord) : Type 0 where
    pub min_len : 16 ≤ length body
    pub address : info.code_addr ≡ number 8 body
    pub count : length info.entries.items ≡ number 8 (drop 8 body)
    pub after_body : List ℕ
    pub elements : AreDebugEntries (drop 16 body) info.entries.items after_body

  -- `count` entries are parsed from the start of the bytes
  pub record ReadsDebugEntries (count : ℕ) (bytes : List ℕ) (entries : List JitCodeDebugInfoEntry) (rest : List ℕ) : Type 0 where
    pub exact_len : length entries ≡ count
    pub elements : AreDebugEntries bytes entries rest

  -- fewer than `count` entries are complete, and the one after them is truncated
  pub record HasTruncatedDebugEntry (count : ℕ) (bytes : List ℕ) : Type 0 where
    pub entries : List JitCodeDebugInfoEntry
    pub after_body : List ℕ
    pub elements : AreDebugEntries bytes entries after_body
    pub too_few : length entries < count
    pub is_truncated : IsTruncatedDebugEntry after_body

  -- the bytes begin with one entry or more, at most `count`
  pub record BeginsWithDebugEntries (count : ℕ) (bytes : List ℕ) : Type 0 where
    pub entries : List JitCodeDebugInfoEntry
    pub after_body : List ℕ
    pub elements : AreDebugEntries bytes entries after_body
    pub is_nonempty : 0 < length entries
    pub within : length entries ≤ count

  -- parsing `count` entries fails: an entry is truncated, or an allocation failed for a complete entry
  abbrev pub IsDebugEntriesError : ℕ → List ℕ → Error → Type 0
  IsDebugEntriesError count bytes e =
      ((error_kind e ≡ UnexpectedEof) × HasTruncatedDebugEntry count bytes)
      ⊎ ((error_kind e ≡ OutOfMemory) × BeginsWithDebugEntries count bytes)

  -- the body is no debug info: the sixteen bytes or an entry are truncated, or an allocation for the entries failed
  abbrev pub IsDebugInfoError : List ℕ → Error → Type 0
  IsDebugInfoError body e =
      ((length body < 16) × (error_kind e ≡ UnexpectedEof))
      ⊎ ((16 ≤ length body) × IsDebugEntriesError (number 8 (drop 8 body)) (drop 16 body) e)

  -- Unwinding info: the sizes of the data, of its index and of the mapped part of eight bytes each, and the data, which
  -- starts with the index.
  pub record IsUnwinding (body : List ℕ) (unwinding : JitCodeUnwindingInfoRecord) : Type 0 where
    pub min_len : 24 ≤ length body
    pub mapped : unwinding.mapped_size ≡ number 8 (drop 16 body)
    pub index : length (bytes_of unwinding.eh_frame_hdr) ≡ number 8 (drop 8 body)
    pub whole : length (bytes_of unwinding.eh_frame_hdr) + length (bytes_of unwinding.eh_frame) ≡ number 8 body
    pub after_body : List ℕ
    pub split : drop 24 body ≡ bytes_of unwinding.eh_frame_hdr ++ (bytes_of unwinding.eh_frame ++ after_body)

  -- the body is no unwinding info: the 24 bytes or the data are truncated, or the index is longer than the data
  pub record IsUnwindingError (body : List ℕ) (e : Error) : Type 0 where
    pub cause : (length body < 24) ⊎ ((24 ≤ length body) × ((length body < 24 + number 8 body) ⊎ (number 8 body < number 8 (drop 8 body))))
    pub kind : error_kind e ≡ UnexpectedEof

-- The code of a load record follows the name and its NUL, at this offset from the start of the record header of sixteen
-- bytes.
abbrev pub CodeIsAtOffset : Type 0
CodeIsAtOffset = (number : ℕ → List ℕ → ℕ) (header body : List ℕ) (load : JitCodeLoadRecord) → length header ≡ 16 → IsLoad number body load
    → (let offset = 57 + length (bytes_of load.function_name) in slice_range (header ++ body) offset (offset + length (bytes_of load.code_bytes))
    ≡ bytes_of load.code_bytes)

-- the last entry with the greatest address that is not above this address
pub record IsGreatestBelow (entries : List JitCodeDebugInfoEntry) (address : ℕ) (entry : JitCodeDebugInfoEntry) : Type 0 where
  pub is_entry : Contains entries entry
  pub at_most_address : entry.code_addr ≤ address
  pub greatest : All (λ other. other.code_addr ≤ address → other.code_addr ≤ entry.code_addr) entries
  pub last : (k : ℕ) (other : JitCodeDebugInfoEntry) → is_entry.0 < k → k < length entries → address < (slice_index_or entries k other).code_addr

-- the result is such an entry, or none if all addresses are above this address
abbrev pub IsLookup : List JitCodeDebugInfoEntry → ℕ → Option JitCodeDebugInfoEntry → Type 0
IsLookup entries address result = MatchOption result (All (λ other. address < other.code_addr) entries) (λ entry. IsGreatestBelow entries address entry)
