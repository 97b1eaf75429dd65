use Rattle.std.proofs.Common.{refl, ◌+◌, ◌∙◌}
use Rattle.std.proofs.lemmas.Result.{err_from_is_err_and}
use Rattle.perfdata_sections.proofs.ItemRuns.{at_offset_same}
use Rattle.perfdata_sections.specs.declared.feature_sections.event_types.EventTypeEntry.{EventTypeEntry}
use Rattle.perfdata_sections.proofs.Entries.{entry_there, entry_truncated}
use Rattle.perfdata_sections.proofs.feature_sections.event_types.read_entry.Goals as goal

pub returns-clause-reads : goal.returns-clause-reads
returns-clause-reads g c =
    let entry : EventTypeEntry = record { attr = c.in_ok-attr.attr; ids = c.in_ok-ids.ids } in
    entry_there g.T.ByteOrder.number_of g.met.T.ByteOrder.reads_first c.args.attr_size _ _ _ c.args.at c.in_ok-attr.attr c.in_ok-ids.ids entry refl refl c.in_ok-attr.ensures.reads c.in_ok-ids.ensures.reads

pub returns-in_err-ids-clause-reads : goal.returns-in_err-ids-clause-reads
returns-in_err-ids-clause-reads g c =
    let p = err_from_is_err_and c.from_residual-in_err-ids.result c.from_residual-in_err-ids.ensures.1 in
    rw (p.1, p.2) (entry_truncated g.T.ByteOrder.number_of g.met.T.ByteOrder.reads_first c.args.attr_size _ _ _ c.args.at c.in_ok-attr.attr _ c.in_ok-attr.ensures.reads c.in_err-ids.ensures.reads)

pub returns-clause-position : goal.returns-clause-position
returns-clause-position g c = c.in_ok-ids.ensures.position ∙ at_offset_same (c.args.at + c.args.attr_size + 16) _ _ c.in_ok-attr.ensures.reads.after_seek.all_bytes
