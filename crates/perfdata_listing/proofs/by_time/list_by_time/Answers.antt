use Rattle.std.proofs.Common.{arith, Ok, subst}
use Rattle.perfdata_order.proofs.InMemorySteps.{returns_each_record_once, reads_records_of_input}
use Rattle.perfdata_listing.specs.steps.ByTime.{ListsNextByTime}
use Rattle.perfdata_listing.proofs.ByTimeLemmas.{listed_none, listed_more, listed_to_end, listing_fails, returned_fits}
use Rattle.perfdata_listing.proofs.by_time.list_by_time.Goals as goal

pub records-init : goal.records-init
records-init g c = record {
  count_fits = omega arith;
  listed = listed_none g.L.LineFormat.is_line g.L.LineFormat.allocates c.new-records.result c.args.reader.perf_file (g.W.Write.contents c.args.out.now);
}

pub overflow_add-lines : goal.overflow_add-lines
overflow_add-lines g c =
    let step = subst (λ b. ListsNextByTime g.L.LineFormat.is_line g.L.LineFormat.allocates c.records.records c.records.perf_file (g.W.Write.contents c.records.out) (Ok b) (g.W.Write.contents c.list_next.new.out) c.list_next.new.records c.list_next.new.perf_file) c.in-Ok-true.field-0-test c.in-Ok-true.ensures in
    let more = listed_more g.L.LineFormat.is_line g.L.LineFormat.allocates _ _ _ _ _ _ _ _ _ _ c.records.invariant.listed step in
    let fits = returned_fits returns_each_record_once reads_records_of_input _ _ _ _ _ more.steps c.new-records.ensures more.taken in
    omega (arith, fits, more.count)

pub records-preserved : goal.records-preserved
records-preserved g c =
    let step = subst (λ b. ListsNextByTime g.L.LineFormat.is_line g.L.LineFormat.allocates c.records.records c.records.perf_file (g.W.Write.contents c.records.out) (Ok b) (g.W.Write.contents c.list_next.new.out) c.list_next.new.records c.list_next.new.perf_file) c.in-Ok-true.field-0-test c.in-Ok-true.ensures in
    let more = listed_more g.L.LineFormat.is_line g.L.LineFormat.allocates _ _ _ _ _ _ _ _ _ _ c.records.invariant.listed step in
    let fits = returned_fits returns_each_record_once reads_records_of_input _ _ _ _ _ more.steps c.new-records.ensures more.taken in
    record {
      count_fits = omega (arith, fits, more.count);
      listed = more;
    }

pub returns-in-Ok-false : goal.returns-in-Ok-false
returns-in-Ok-false g c = listed_to_end g.L.LineFormat.is_line g.L.LineFormat.allocates _ _ _ _ _ _ _ _ _ _ _ c.new-records.ensures c.records.invariant.listed
    (subst (λ b. ListsNextByTime g.L.LineFormat.is_line g.L.LineFormat.allocates c.records.records c.records.perf_file (g.W.Write.contents c.records.out) (Ok b) (g.W.Write.contents c.list_next.new.out) c.list_next.new.records c.list_next.new.perf_file) c.in-Ok-false.field-0-test c.in-Ok-false.ensures)

pub returns-in-Err : goal.returns-in-Err
returns-in-Err g c = listing_fails g.L.LineFormat.is_line g.L.LineFormat.allocates _ _ _ _ _ _ _ _ _ _ _ c.in-Err.cause c.new-records.ensures c.records.invariant.listed c.in-Err.ensures
