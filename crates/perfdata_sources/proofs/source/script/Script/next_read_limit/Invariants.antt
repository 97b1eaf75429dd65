use Rattle.std.proofs.Common.{◌≡◌, ◌-◌, vec_len}
use Rattle.perfdata_sources.specs.Script.{script_state}
use Rattle.perfdata_sources.proofs.source.script.Script.next_read_limit.Given as goal

abbrev pub invariant-growths : goal.invariant-growths
invariant-growths l = script_state l.self ≡ script_state l.fn.self

abbrev pub decreases-growths : goal.decreases-growths
decreases-growths l = vec_len l.self.steps - l.self.next_step
