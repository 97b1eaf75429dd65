-- The body of a thread map: the number of entries in eight bytes, and the entries, of 24 bytes each.
use Rattle.std.specs.Prelude.{◌≡◌, ℕ, zero, suc, ◌+◌, ◌*◌, ◌/◌, ◌^◌, ◌<◌, ◌≤◌, ◌⊎◌, List, [], ◌∷◌, length, take, drop}
use Rattle.std.specs.IoError.{error_kind}
use Rattle.std.specs.declared.io.Error.{Error}
use Rattle.std.specs.declared.io.ErrorKind.TheVariants.{UnexpectedEof, InvalidData}
use Rattle.perfdata_sources.specs.Raw.{bytes_of}
use Rattle.perfdata_sources.specs.Endian.{number_in}
use Rattle.perfdata_records.specs.Thread.{Thread, thread_at}
use Rattle.perfdata_records.specs.declared.thread_map.ThreadMap.{ThreadMap}
use Rattle.perfdata_records.specs.declared.thread_map.ThreadMapIter.{ThreadMapIter}

module _ (number : ℕ → List ℕ → ℕ) where
  -- The first `n` threads, one after another.
  abbrev pub threads_in : ℕ → List ℕ → List Thread
  threads_in zero bytes = []
  threads_in (suc n) bytes = thread_at number bytes ∷ threads_in n (drop 24 bytes)

  -- The body is a map of these threads. Bytes after the entries are ignored.
  pub record IsThreadMap (body : List ℕ) (threads : List Thread) : Type 0 where
    pub has_fixed_part : 8 ≤ length body
    pub complete : 8 + number 8 body * 24 ≤ length body
    pub elements : threads ≡ threads_in (number 8 body) (drop 8 body)

  -- `entries` are the bytes of the entries in the body, without the bytes after them.
  abbrev pub AreThreadEntries : List ℕ → List ℕ → Type 0
  AreThreadEntries body entries = entries ≡ take (number 8 body * 24) (drop 8 body)

  -- The body has this error: the first eight bytes are truncated, the entries have 2^64 bytes or more, or the entries are
  -- truncated.
  abbrev pub IsThreadMapError : List ℕ → Error → Type 0
  IsThreadMapError body e =
      ((length body < 8) × (error_kind e ≡ UnexpectedEof))
      ⊎ (((8 ≤ length body) × (2 ^ 64 ≤ number 8 body * 24) × (error_kind e ≡ InvalidData))
      ⊎ ((8 ≤ length body) × (number 8 body * 24 < 2 ^ 64) × (length body < 8 + number 8 body * 24) × (error_kind e ≡ UnexpectedEof)))

-- The bytes of a map's entries.
abbrev pub entry_bytes_of : ThreadMap → List ℕ
entry_bytes_of map = bytes_of map.entries

-- The threads of a map, in order.
abbrev pub threads_of : ThreadMap → List Thread
threads_of map = threads_in (number_in map.endian) (length (bytes_of map.entries) / 24) (bytes_of map.entries)

-- The threads that an iterator hasn't returned yet.
abbrev pub remaining_threads : ThreadMapIter → List Thread
remaining_threads iter = threads_in (number_in iter.endian) (length (bytes_of iter.rest) / 24) (bytes_of iter.rest)
