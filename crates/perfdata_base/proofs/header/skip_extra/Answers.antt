use Rattle.std.proofs.Common.{arith, ◌-◌, ◌<◌, ◌^◌, pos, w64}
use Rattle.std.proofs.lemmas.Int.{ints, to_z-of_z}
use Rattle.perfdata_base.proofs.Headers.{extra_skipped}
use Rattle.perfdata_base.proofs.header.skip_extra.Goals as goal

pub returns-in_ok-seek_to-in-Ok-clause-skips : goal.returns-in_ok-seek_to-in-Ok-clause-skips
returns-in_ok-seek_to-in-Ok-clause-skips g c =
    let fits = c.in-Ok.ensures in
    let low : c.args.header_size - 104 < 2 ^ 63 = omega (arith, ints, fits) in
    extra_skipped _ _ c.args.header_size _ low (rw (fits.1, to_z-of_z w64 (pos (c.args.header_size - 104)) fits.0) at c.in_ok-seek_to-in-Ok.ensures.seeks)
