use Rattle.perfdata_listing.proofs.JitListingLemmas.{lists_jit}
use Rattle.perfdata_listing.proofs.jit.list_jit.Goals as goal

pub returns-in-Ok : goal.returns-in-Ok
returns-in-Ok g c = lists_jit g.R.Source.state c.args.source 4096 c.in-Ok.reader c.in-Ok.ensures.opens _ _ _ _ c.list_jit_records.ensures
