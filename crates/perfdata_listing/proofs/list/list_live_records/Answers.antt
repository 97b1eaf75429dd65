use Rattle.std.proofs.Common.{arith, Ok, refl, rules, subst, inl, inr}
use Rattle.perfdata_listing.specs.Listing.{ListsNext}
use Rattle.perfdata_listing.proofs.ListingLemmas.{so_far_none, more_flushed, listed_all, listed_until_flush_error, so_far_kept, so_far_more, records_listing_fails}
use Rattle.perfdata_listing.proofs.list.list_live_records.Goals as goal

pub records-preserved : goal.records-preserved
records-preserved g c =
    let before = c.records.invariant in
    let step = subst (λ b. ListsNext g.L.LineFormat.is_line g.L.LineFormat.allocates g.R.Source.state c.records.records c.records.perf_file (g.W.Write.contents c.flush_before_blocking.new.out) (Ok b) (g.W.Write.contents c.list_next_live.new.out) c.list_next_live.new.records c.list_next_live.new.perf_file) c.in-Ok-true.field-0-test c.in-Ok-true.ensures in
    record {
      offset_in_range = step.1.offset_fits;
      count_below_offset = (let a = step.1.offset in let b = step.1.record_offset in let f = before.count_below_offset in omega arith);
      live = more_flushed g.L.LineFormat.is_line g.L.LineFormat.allocates g.R.Source.state g.W.FlushPending.pending g.W.Write.contents c.records.lines c.args.records.now c.args.perf_file.now c.args.out.now before.live (record { flushed = c.flush_before_blocking.new.out; contents_kept = c.flush_before_blocking.ensures.contents_kept; may_block = search rules; lists_next = step });
      listed = so_far_more g.L.LineFormat.is_line g.L.LineFormat.allocates g.R.Source.state _ _ _ (so_far_kept g.L.LineFormat.is_line g.L.LineFormat.allocates g.R.Source.state _ _ _ before.listed c.flush_before_blocking.ensures.contents_kept) step;
    }

pub returns-in-Ok-false-clause-lists : goal.returns-in-Ok-false-clause-lists
returns-in-Ok-false-clause-lists g c = listed_all g.L.LineFormat.is_line g.L.LineFormat.allocates g.R.Source.state _ _ _ c.requires.not_failed (so_far_kept g.L.LineFormat.is_line g.L.LineFormat.allocates g.R.Source.state _ _ _ c.records.invariant.listed c.flush_before_blocking.ensures.contents_kept) (subst (λ b. ListsNext g.L.LineFormat.is_line g.L.LineFormat.allocates g.R.Source.state c.records.records c.records.perf_file (g.W.Write.contents c.flush_before_blocking.new.out) (Ok b) (g.W.Write.contents c.list_next_live.new.out) c.list_next_live.new.records c.list_next_live.new.perf_file) c.in-Ok-false.field-0-test c.in-Ok-false.ensures)

pub returns-in-Err-list_next_live-clause-lists : goal.returns-in-Err-list_next_live-clause-lists
returns-in-Err-list_next_live-clause-lists g c =
    inl (records_listing_fails g.L.LineFormat.is_line g.L.LineFormat.allocates g.R.Source.state _ _ _ c.list_next_live.new.records c.list_next_live.new.perf_file c.in-Err-list_next_live.cause c.requires.not_failed c.requires.matching_file (so_far_kept g.L.LineFormat.is_line g.L.LineFormat.allocates g.R.Source.state _ _ _ c.records.invariant.listed c.flush_before_blocking.ensures.contents_kept) c.in-Err-list_next_live.ensures)

pub returns-in-Err-clause-lists : goal.returns-in-Err-clause-lists
returns-in-Err-clause-lists g c = inr (tt, listed_until_flush_error g.L.LineFormat.is_line g.L.LineFormat.allocates g.R.Source.state _ _ _ c.requires.not_failed c.records.invariant.listed c.in-Err.ensures.on_error c.in-Err.ensures.contents_kept)

pub returns-in-Ok-false-clause-flushes : goal.returns-in-Ok-false-clause-flushes
returns-in-Ok-false-clause-flushes g c = (
  c.records.records,
  c.records.perf_file,
  c.records.out,
  c.records.invariant.live,
  record {
    flushed = c.flush_before_blocking.new.out;
    contents_kept = c.flush_before_blocking.ensures.contents_kept;
    may_block = search rules;
    lists_next = subst (λ b. ListsNext g.L.LineFormat.is_line g.L.LineFormat.allocates g.R.Source.state c.records.records c.records.perf_file (g.W.Write.contents c.flush_before_blocking.new.out) (Ok b) (g.W.Write.contents c.list_next_live.new.out) c.list_next_live.new.records c.list_next_live.new.perf_file) c.in-Ok-false.field-0-test c.in-Ok-false.ensures;
  },
)

pub returns-in-Err-list_next_live-clause-flushes : goal.returns-in-Err-list_next_live-clause-flushes
returns-in-Err-list_next_live-clause-flushes g c = (
  c.records.records,
  c.records.perf_file,
  c.records.out,
  c.records.invariant.live,
  inl (record {
    flushed = c.flush_before_blocking.new.out;
    contents_kept = c.flush_before_blocking.ensures.contents_kept;
    may_block = search rules;
    lists_next = c.in-Err-list_next_live.ensures;
  }),
)

pub returns-in-Err-clause-flushes : goal.returns-in-Err-clause-flushes
returns-in-Err-clause-flushes g c = (c.records.records, c.records.perf_file, c.records.out, c.records.invariant.live, inr (tt, refl, refl))

pub records-init : goal.records-init
records-init g c = record {
  offset_in_range = (let fits = c.requires.not_failed.offset_fits in omega arith);
  count_below_offset = omega arith;
  live = (refl, refl, refl);
  listed = so_far_none g.L.LineFormat.is_line g.L.LineFormat.allocates g.R.Source.state c.args.records.now c.args.perf_file.now (g.W.Write.contents c.args.out.now);
}
