use Rattle.std.proofs.Common.{arith, Ok, subst}
use Rattle.perfdata_listing.specs.JitListing.{ListsNextJit}
use Rattle.perfdata_listing.proofs.JitListingLemmas.{listed_all, so_far_more, so_far_none, records_listing_fails}
use Rattle.perfdata_listing.proofs.jit.list_jit_records.Goals as goal

pub records-init : goal.records-init
records-init g c = record { count_below_offset = omega arith; listed = so_far_none g.R.Source.state _ _ c.requires.0 }

pub records-preserved : goal.records-preserved
records-preserved g c =
    let before = c.records.invariant in
    let step = subst (λ b. ListsNextJit g.R.Source.state c.records.reader (g.W.Write.contents c.records.out) (Ok b) (g.W.Write.contents c.list_next.new.out) c.list_next.new.reader) c.in-Ok-true.field-0-test c.in-Ok-true.ensures in
    record {
      count_below_offset = (let a = step.1.offset in let b = step.1.matches.record_bytes_valid.min_size in let f = before.count_below_offset in omega arith);
      listed = so_far_more g.R.Source.state _ _ _ before.listed step;
    }

pub returns-in-Ok-false : goal.returns-in-Ok-false
returns-in-Ok-false g c = listed_all g.R.Source.state _ _ _ c.records.invariant.listed (subst (λ b. ListsNextJit g.R.Source.state c.records.reader (g.W.Write.contents c.records.out) (Ok b) (g.W.Write.contents c.list_next.new.out) c.list_next.new.reader) c.in-Ok-false.field-0-test c.in-Ok-false.ensures)

pub returns-in-Err : goal.returns-in-Err
returns-in-Err g c = records_listing_fails g.R.Source.state _ _ _ c.list_next.new.reader c.in-Err.cause c.requires.1 c.records.invariant.listed c.in-Err.ensures
