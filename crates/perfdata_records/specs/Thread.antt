-- A thread map entry of 24 bytes: eight for the thread id, and 16 for the name, which ends at its first NUL.
use Rattle.std.specs.Prelude.{ℕ, List, take, drop}
use Rattle.perfdata_sources.specs.Raw.{bytes_of}
use Rattle.perfdata_sections.specs.HeaderString.{before_nul}
use Rattle.perfdata_records.specs.declared.thread_map.ThreadMapEntry.{ThreadMapEntry}

-- A thread id and the bytes of the thread's name.
pub record Thread : Type 0 where
  pub tid : ℕ
  pub name : List ℕ

-- The thread at the start of `bytes`.
abbrev pub thread_at : (ℕ → List ℕ → ℕ) → List ℕ → Thread
thread_at number bytes = record { tid = number 8 bytes; name = before_nul (take 16 (drop 8 bytes)) }

-- The thread of an entry.
abbrev pub thread_of : ThreadMapEntry → Thread
thread_of entry = record { tid = entry.tid; name = bytes_of entry.name }
