use Rattle.std.proofs.Common.{w32}
use Rattle.std.proofs.lemmas.Int.{to_z-of_z}
use Rattle.perfdata_spaces.proofs.Finding.{finds}
use Rattle.perfdata_spaces.proofs.address_spaces.AddressSpaces.find_index.Goals as goal

pub returns : goal.returns
returns c = λ records follows.
    let is = rw (to_z-of_z w32 c.args.pid c.ranges.pid) at c.find_index.ensures in
    rw is (finds records c.args.self.now c.args.pid c.args.address c.args.context c.ranges.address.fits follows)
