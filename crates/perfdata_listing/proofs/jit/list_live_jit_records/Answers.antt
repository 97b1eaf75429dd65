use Rattle.std.proofs.Common.{arith, Ok, refl, rules, subst, inl, inr}
use Rattle.perfdata_listing.specs.JitListing.{ListsNextJit}
use Rattle.perfdata_listing.proofs.JitListingLemmas.{more_flushed, listed_all, listed_until_flush_error, so_far_kept, so_far_more, so_far_none, records_listing_fails}
use Rattle.perfdata_listing.proofs.jit.list_live_jit_records.Goals as goal

pub records-init : goal.records-init
records-init g c = record { count_below_offset = omega arith; live = (refl, refl); listed = so_far_none g.R.Source.state _ _ c.requires.0 }

pub records-preserved : goal.records-preserved
records-preserved g c =
    let before = c.records.invariant in
    let flush = c.flush_before_blocking.ensures in
    let step = subst (λ b. ListsNextJit g.R.Source.state c.flush_before_blocking.new.reader (g.W.Write.contents c.flush_before_blocking.new.out) (Ok b) (g.W.Write.contents c.list_next_live.new.out) c.list_next_live.new.reader) c.in-Ok-true.field-0-test c.in-Ok-true.ensures in
    record {
      count_below_offset = (let a = step.1.offset in let b = step.1.matches.record_bytes_valid.min_size in let f = before.count_below_offset in let s = flush.unread.keeps_position.offset in omega arith);
      live = more_flushed g.R.Source.state g.W.FlushPending.pending g.W.Write.contents c.records.lines c.args.reader.now c.args.out.now before.live (record { reader = c.flush_before_blocking.new.reader; unread = flush.unread; flushed = c.flush_before_blocking.new.out; contents_kept = flush.contents_kept; may_block = search rules; lists_next = step });
      listed = so_far_more g.R.Source.state _ _ _ (so_far_kept g.R.Source.state _ _ _ before.listed flush.unread.keeps_position flush.contents_kept) step;
    }

pub returns-in-Ok-false-clause-lists : goal.returns-in-Ok-false-clause-lists
returns-in-Ok-false-clause-lists g c =
    let flush = c.flush_before_blocking.ensures in
    listed_all g.R.Source.state _ _ _ (so_far_kept g.R.Source.state _ _ _ c.records.invariant.listed flush.unread.keeps_position flush.contents_kept) (subst (λ b. ListsNextJit g.R.Source.state c.flush_before_blocking.new.reader (g.W.Write.contents c.flush_before_blocking.new.out) (Ok b) (g.W.Write.contents c.list_next_live.new.out) c.list_next_live.new.reader) c.in-Ok-false.field-0-test c.in-Ok-false.ensures)

pub returns-in-Err-list_next_live-clause-lists : goal.returns-in-Err-list_next_live-clause-lists
returns-in-Err-list_next_live-clause-lists g c =
    let flush = c.flush_before_blocking.ensures in
    inl (records_listing_fails g.R.Source.state _ _ _ c.list_next_live.new.reader c.in-Err-list_next_live.cause c.requires.1 (so_far_kept g.R.Source.state _ _ _ c.records.invariant.listed flush.unread.keeps_position flush.contents_kept) c.in-Err-list_next_live.ensures)

pub returns-in-Err-clause-lists : goal.returns-in-Err-clause-lists
returns-in-Err-clause-lists g c = inr (tt, listed_until_flush_error g.R.Source.state _ _ _ c.records.invariant.listed c.in-Err.ensures.unread.keeps_position c.in-Err.ensures.contents_kept)

pub returns-in-Ok-false-clause-flushes : goal.returns-in-Ok-false-clause-flushes
returns-in-Ok-false-clause-flushes g c = (
  c.records.reader,
  c.records.out,
  c.records.invariant.live,
  record {
    reader = c.flush_before_blocking.new.reader;
    unread = c.flush_before_blocking.ensures.unread;
    flushed = c.flush_before_blocking.new.out;
    contents_kept = c.flush_before_blocking.ensures.contents_kept;
    may_block = search rules;
    lists_next = subst (λ b. ListsNextJit g.R.Source.state c.flush_before_blocking.new.reader (g.W.Write.contents c.flush_before_blocking.new.out) (Ok b) (g.W.Write.contents c.list_next_live.new.out) c.list_next_live.new.reader) c.in-Ok-false.field-0-test c.in-Ok-false.ensures;
  },
)

pub returns-in-Err-list_next_live-clause-flushes : goal.returns-in-Err-list_next_live-clause-flushes
returns-in-Err-list_next_live-clause-flushes g c = (
  c.records.reader,
  c.records.out,
  c.records.invariant.live,
  inl (record {
    reader = c.flush_before_blocking.new.reader;
    unread = c.flush_before_blocking.ensures.unread;
    flushed = c.flush_before_blocking.new.out;
    contents_kept = c.flush_before_blocking.ensures.contents_kept;
    may_block = search rules;
    lists_next = c.in-Err-list_next_live.ensures;
  }),
)

pub returns-in-Err-clause-flushes : goal.returns-in-Err-clause-flushes
returns-in-Err-clause-flushes g c = (c.records.reader, c.records.out, c.records.invariant.live, inr (tt, c.in-Err.ensures.unread))
