use Rattle.std.proofs.Common.{ℕ, List, Option, Result, Ok, Err, OnOk}
use Rattle.std.specs.Io.KnownBytes.{Appends}
use Rattle.perfdata_views.proofs.flame.svg.write_svg.Goals as goal

appended : {T E : Type 0} (result : Result T E) (old new : Option (List ℕ)) (picture : List ℕ) → OnOk result (Appends old new picture) → OnOk result ((p : List ℕ) × Appends old new p)
appended (Ok done) old new picture appends = (picture, appends)
appended (Err error) old new picture appends = appends

pub returns : goal.returns
returns g c = appended c.write_all.result (g.W.Write.contents c.args.out.now) (g.W.Write.contents c.write_all.new.self) c.as_slice.result.now c.write_all.ensures.bytes
