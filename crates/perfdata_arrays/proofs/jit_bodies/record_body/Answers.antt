use Rattle.std.proofs.Common.{◌+◌, ◌-◌, ap, take}
use Rattle.perfdata_arrays.proofs.OverwriteLemmas.{take-drop-length}
use Rattle.perfdata_arrays.proofs.jit_bodies.record_body.Goals as goal

pub returns : goal.returns
returns c = ap (take (c.args.entry.now.size - 16)) (take-drop-length (c.args.entry.now.offset + 16) c.args.bytes.now)
