use Rattle.std.proofs.Common.{refl, inl, inr}
use Rattle.perfdata_listing.proofs.JitListingLemmas.{live_jit}
use Rattle.perfdata_listing.proofs.jit.list_live_jit.Goals as goal

pub returns-in-Ok-clause-lists : goal.returns-in-Ok-clause-lists
returns-in-Ok-clause-lists g c = live_jit g.R.Source.state c.args.source 65536 c.in-Ok.reader c.in-Ok.ensures.opens _ _ _ _ c.list_live_jit_records.ensures.lists

pub returns-in-Ok-clause-flushes : goal.returns-in-Ok-clause-flushes
returns-in-Ok-clause-flushes g c = inl (c.in-Ok.reader, c.in-Ok.ensures.opens, c.list_live_jit_records.new.reader, c.list_live_jit_records.ensures.flushes)

pub returns-in-Err-clause-flushes : goal.returns-in-Err-clause-flushes
returns-in-Err-clause-flushes g c = inr (refl, refl)
