-- Bytes that are read after the buffered ones.
use Rattle.std.proofs.Common.{◌≡◌, ℕ, List, ◌++◌, length, take, sym, ap, ◌∙◌, subst, append_assoc}
use Rattle.std.proofs.lemmas.List.{length-take-le}
use Rattle.perfdata_sources.specs.Source.{State, ReadInto, Consumed}
use Rattle.perfdata_jit.specs.steps.RingFilling.{RingFilled, FillsRing}
use Rattle.std.specs.Prelude.{Result, Ok, Err}

-- a read into the buffer range after the buffered bytes
pub read_after : (old new : State) (buf before after read_bytes : List ℕ) (n : ℕ) → ReadInto old buf n new → take n buf ≡ read_bytes → after ≡ before ++ read_bytes
    → RingFilled old before n after new
read_after old new buf before after read_bytes n read is holds = record {
  consumed_bytes = read_bytes;
  exact_len = ap length (sym is) ∙ length-take-le n buf read.within;
  consumes = subst (λ l. Consumed old l new) is read.consumes;
  buffer_content = holds;
  if_empty = read.if_empty;
}

-- a prefix of the buffered bytes is unchanged
pub fills_after : {E : Type 0} (old new : State) (prefix before after : List ℕ) (r : Result ℕ E) → FillsRing old before r after new → FillsRing old (prefix ++ before) r (prefix ++ after) new
fills_after old new prefix before after (Ok n) f = record {
  consumed_bytes = f.consumed_bytes;
  exact_len = f.exact_len;
  consumes = f.consumes;
  buffer_content = ap (λ l. prefix ++ l) f.buffer_content ∙ sym (append_assoc prefix before f.consumed_bytes);
  if_empty = f.if_empty;
}
fills_after old new prefix before after (Err e) f = record { consumes = f.consumes; buffer_content = ap (λ l. prefix ++ l) f.buffer_content; source_failed = f.source_failed }
