use Rattle.std.proofs.Common.{rules, ◌≡◌, ◌*◌, ◌-◌, length, arith, ◌∙◌}
use Rattle.std.proofs.lemmas.Result.{err_from_is_err_and}
use Rattle.perfdata_sections.proofs.IdLists.{ids_more, ids_error}
use Rattle.perfdata_sections.proofs.feature_sections.event_ids.read_ids.Goals as goal

pub returns-in_err-append_ids-clause-reads : goal.returns-in_err-append_ids-clause-reads
returns-in_err-append_ids-clause-reads g c =
    let p = err_from_is_err_and c.from_residual.result c.from_residual.ensures.1 in
    let at = c.reads.invariant in
    let size : length c.append_ids.new.buf ≡ 8 * c.min-wanted.result = search rules in
    rw (p.1, p.2) (ids_error g.T.ByteOrder.number_of g.met.T.ByteOrder.reads_first (c.args.count - c.reads.remaining) c.min-wanted.result c.args.count _ _ _ _ c.reads.ids.items _ _ at.prefix_read size (omega (arith, at.within)) c.in_err-append_ids.ensures.reads)

pub reads-preserved : goal.reads-preserved
reads-preserved g c =
    let at = c.reads.invariant in
    let size : length c.append_ids.new.buf ≡ 8 * c.min-wanted.result = search rules in
    record {
      within = omega (arith, at.within);
      prefix_read = ids_more g.T.ByteOrder.number_of g.met.T.ByteOrder.reads_first (c.args.count - c.reads.remaining) c.min-wanted.result _ _ _ _ _ c.reads.ids.items _ at.prefix_read size (omega (arith, at.within)) c.in_ok-append_ids.ensures.reads;
      pauses = c.in_ok-append_ids.ensures.pauses ∙ at.pauses;
      same_loan = c.append_ids.ensures.same_loan ∙ at.same_loan;
    }
