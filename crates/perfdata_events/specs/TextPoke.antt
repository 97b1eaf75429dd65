-- PERF_RECORD_TEXT_POKE of Linux's `perf_event.h`: { u64 addr; u16 old_len; u16 new_len; u8 bytes[]; }. The bytes are `old_len` old
-- ones and then `new_len` new ones.
use Rattle.std.specs.Prelude.{ℕ, ◌+◌, ◌++◌, List, length}
use Rattle.perfdata_sources.specs.Raw.{bytes_of}
use Rattle.perfdata_events.specs.Format.{Outcome, fixed_and_block}
use Rattle.perfdata_events.specs.Fields.{u16_at, u64_at}
use Rattle.perfdata_events.specs.declared.kernel.TextPokeRecord.{TextPokeRecord}

-- The address of the code, and the numbers of old and new bytes.
pub record Poke : Type 0 where
  pub address : ℕ
  pub old_len : ℕ
  pub new_len : ℕ

-- The parts of a record, and its old and new bytes one after the other.
abbrev pub poke_of : TextPokeRecord → Poke × List ℕ
poke_of v = (
  record { address = v.address; old_len = length (bytes_of v.old_bytes); new_len = length (bytes_of v.new_bytes) },
  bytes_of v.old_bytes
      ++ bytes_of v.new_bytes,
)

module _ (number : ℕ → List ℕ → ℕ) where
  abbrev pub poke_at : List ℕ → Poke
  poke_at bytes = record { address = u64_at number 0 bytes; old_len = u16_at number 8 bytes; new_len = u16_at number 10 bytes }

  abbrev pub text_poke : List ℕ → Outcome (Poke × List ℕ) → Type 0
  text_poke = fixed_and_block 12 poke_at (λ bytes. u16_at number 8 bytes + u16_at number 10 bytes)
