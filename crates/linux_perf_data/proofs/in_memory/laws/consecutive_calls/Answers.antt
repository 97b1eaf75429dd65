use Rattle.std.proofs.Common.{refl}
use Rattle.linux_perf_data.proofs.InMemoryReadings.{one_call_more}
use Rattle.linux_perf_data.proofs.in_memory.laws.consecutive_calls.Goals as goal

pub returns : goal.returns
returns c = record { none = λ records file. (refl, refl); more = one_call_more }
