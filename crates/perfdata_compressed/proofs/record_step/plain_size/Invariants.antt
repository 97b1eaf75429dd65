use Rattle.std.proofs.Common.{◌≡◌, ℕ, ◌<◌}
use Rattle.std.specs.Prelude.{drop}
use Rattle.perfdata_compressed.specs.RecordSteps.{PlainRecords}
use Rattle.perfdata_compressed.proofs.record_step.plain_size.Given as goal

abbrev pub invariant-loop : goal.invariant-loop
invariant-loop l = record {
  whole : l.size < 18446744073709551615 → (count : ℕ) × PlainRecords l.endian count l.bytes l.size;
  rest : l.size < 18446744073709551615 → l.rest ≡ drop l.size l.bytes;
}
