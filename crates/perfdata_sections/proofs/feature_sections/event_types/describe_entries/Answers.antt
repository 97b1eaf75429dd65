use Rattle.std.proofs.Common.{refl, ◌∙◌}
use Rattle.std.proofs.lemmas.Result.{err_from_is_err_and}
use Rattle.perfdata_sources.proofs.ReadErrors.{after_seek_more}
use Rattle.perfdata_sections.specs.EventTypes.{type_name_at}
use Rattle.perfdata_sections.proofs.Entries.{descriptions_one, descriptions_more, descriptions_error, after_more}
use Rattle.perfdata_sections.proofs.feature_sections.event_types.describe_entries.Goals as goal

pub returns-in_err-event_ids-clause-reads : goal.returns-in_err-event_ids-clause-reads
returns-in_err-event_ids-clause-reads g c =
    let p = err_from_is_err_and c.from_residual.result c.from_residual.ensures.1 in
    rw (p.1, p.2) (descriptions_error g.T.ByteOrder.number_of g.met.T.ByteOrder.reads_first (type_name_at c.args.types.now) _ _ _ c.args.entries.now c.entries.index _ c.entries.all.items _ c.entries.invariant.after_seek c.entries-test.true
    c.entries.invariant.descriptions_match c.entries.invariant.position c.entries.invariant.pauses c.in_err-event_ids.ensures.reads)

pub entries-preserved : goal.entries-preserved
entries-preserved g c =
    record {
      descriptions_match = descriptions_more g.T.ByteOrder.number_of g.met.T.ByteOrder.reads_first _ (type_name_at c.args.types.now) c.args.entries.now c.entries.index _ c.entries.all.items c.push.new.self.items _ c.entries-test.true c.entries.invariant.descriptions_match
          c.in_ok-push.ensures.items
          (descriptions_one g.T.ByteOrder.number_of g.met.T.ByteOrder.reads_first (type_name_at c.args.types.now) c.entries.index _ _ _ _ c.entries.invariant.after_seek refl c.in_ok-name.ensures c.in_ok-event_ids.ensures.reads.1);
      after_seek = after_seek_more _ _ _ c.entries.invariant.after_seek c.in_ok-event_ids.ensures.reads.0;
      position = after_more g.T.ByteOrder.number_of g.met.T.ByteOrder.reads_first _ _ _ c.args.entries.now c.entries.index _ c.entries-test.true c.entries.invariant.position c.in_ok-event_ids.ensures.position;
      pauses = c.in_ok-event_ids.ensures.pauses ∙ c.entries.invariant.pauses;
      same_loan = c.in_ok-event_ids.ensures.same_loan ∙ c.entries.invariant.same_loan;
    }
