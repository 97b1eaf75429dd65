-- PERF_RECORD_KSYMBOL of Linux's `perf_event.h`: { u64 addr; u32 len; u16 ksym_type; u16 flags; char name[]; }
use Rattle.std.specs.Prelude.{ℕ, List}
use Rattle.perfdata_sources.specs.Raw.{bytes_of}
use Rattle.perfdata_events.specs.Format.{Outcome, fixed_and_text}
use Rattle.perfdata_events.specs.Fields.{u16_at, u32_at, u64_at}
use Rattle.perfdata_events.specs.declared.kernel.KsymbolRecord.{KsymbolRecord}

-- A kernel symbol without its name.
pub record Symbol : Type 0 where
  pub address : ℕ
  pub byte_length : ℕ
  pub symbol_type : ℕ
  pub flags : ℕ

-- The symbol of a record, and the bytes of its name.
abbrev pub symbol_of : KsymbolRecord → Symbol × List ℕ
symbol_of v = (record { address = v.address; byte_length = v.length; symbol_type = v.symbol_type; flags = v.flags }, bytes_of v.name)

module _ (number : ℕ → List ℕ → ℕ) where
  abbrev pub symbol_at : List ℕ → Symbol
  symbol_at bytes = record {
    address = u64_at number 0 bytes;
    byte_length = u32_at number 8 bytes;
    symbol_type = u16_at number 12 bytes;
    flags = u16_at number 14 bytes;
  }

  abbrev pub ksymbol : List ℕ → Outcome (Symbol × List ℕ) → Type 0
  ksymbol = fixed_and_text 16 symbol_at
