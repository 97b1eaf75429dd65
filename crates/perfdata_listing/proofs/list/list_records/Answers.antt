use Rattle.std.proofs.Common.{arith, Ok, subst}
use Rattle.perfdata_listing.specs.Listing.{ListsNext}
use Rattle.perfdata_listing.proofs.ListingLemmas.{so_far_none, listed_all, so_far_more, records_listing_fails}
use Rattle.perfdata_listing.proofs.list.list_records.Goals as goal

pub records-preserved : goal.records-preserved
records-preserved g c =
    let before = c.records.invariant in
    let step = subst (λ b. ListsNext g.L.LineFormat.is_line g.L.LineFormat.allocates g.R.Source.state c.records.records c.records.perf_file (g.W.Write.contents c.records.out) (Ok b) (g.W.Write.contents c.list_next.new.out) c.list_next.new.records c.list_next.new.perf_file) c.in-Ok-true.field-0-test c.in-Ok-true.ensures in
    record {
      offset_in_range = step.1.offset_fits;
      count_below_offset = (let a = step.1.offset in let b = step.1.record_offset in let f = before.count_below_offset in omega arith);
      listed = so_far_more g.L.LineFormat.is_line g.L.LineFormat.allocates g.R.Source.state _ _ _ before.listed step;
    }

pub returns-in-Ok-false : goal.returns-in-Ok-false
returns-in-Ok-false g c = listed_all g.L.LineFormat.is_line g.L.LineFormat.allocates g.R.Source.state _ _ _ c.requires.not_failed c.records.invariant.listed (subst (λ b. ListsNext g.L.LineFormat.is_line g.L.LineFormat.allocates g.R.Source.state c.records.records c.records.perf_file (g.W.Write.contents c.records.out) (Ok b) (g.W.Write.contents c.list_next.new.out) c.list_next.new.records c.list_next.new.perf_file) c.in-Ok-false.field-0-test c.in-Ok-false.ensures)

pub returns-in-Err : goal.returns-in-Err
returns-in-Err g c = records_listing_fails g.L.LineFormat.is_line g.L.LineFormat.allocates g.R.Source.state _ _ _ c.list_next.new.records c.list_next.new.perf_file c.in-Err.cause c.requires.not_failed c.requires.matching_file c.records.invariant.listed c.in-Err.ensures

pub records-init : goal.records-init
records-init g c = record {
  offset_in_range = (let fits = c.requires.not_failed.offset_fits in omega arith);
  count_below_offset = omega arith;
  listed = so_far_none g.L.LineFormat.is_line g.L.LineFormat.allocates g.R.Source.state c.args.records.now c.args.perf_file.now (g.W.Write.contents c.args.out.now);
}
