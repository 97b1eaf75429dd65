use Rattle.std.proofs.Common.{arith, ap, ◌≡◌, ◌+◌, ◌-◌, ◌<◌, ◌≤◌, ◌∙◌}
use Rattle.std.proofs.lemmas.Result.{err_from_is_err_and}
use Rattle.perfdata_sources.specs.Source.{at_offset}
use Rattle.perfdata_sections.specs.EventTypes.{IsEventTypeEntry, EventTypeEntryReadError}
use Rattle.perfdata_sections.proofs.ItemRuns.{at_offset_same, items_complete, items_more, items_error}
use Rattle.perfdata_sections.proofs.Entries.{entry_later}
use Rattle.perfdata_sections.proofs.feature_sections.event_types.read_entries.Goals as goal

pub returns-in_err-entry-clause-reads : goal.returns-in_err-entry-clause-reads
returns-in_err-entry-clause-reads g c =
    let some : 0 < c.args.attr_size + 16 = omega arith in
    let more : c.args.attr_size + 16 ≤ c.args.section.now.offset + c.args.section.now.size - c.entries.at = omega arith in
    let p = err_from_is_err_and c.from_residual.result c.from_residual.ensures.1 in
    rw (p.1, p.2) (items_error (IsEventTypeEntry g.T.ByteOrder.number_of c.args.attr_size) (c.args.attr_size + 16) c.args.section.now.offset c.args.section.now.size _ _ c.entries.at _ some c.entries.invariant.so_far
    (EventTypeEntryReadError g.T.ByteOrder.number_of c.args.attr_size) (g.C.Source.state c.read_entry.new.source) _
    (λ k. entry_later g.T.ByteOrder.number_of g.met.T.ByteOrder.reads_first c.args.attr_size _ _ _ k _ c.entries.invariant.so_far.after_seek) more c.in_err-entry.ensures.reads)

pub entries-preserved : goal.entries-preserved
entries-preserved g c =
    let some : 0 < c.args.attr_size + 16 = omega arith in
    let more : c.args.attr_size + 16 ≤ c.args.section.now.offset + c.args.section.now.size - c.entries.at = omega arith in
    let on : c.entries.at + c.args.attr_size + 16 ≡ c.entries.at + (c.args.attr_size + 16) = omega arith in
    record {
      so_far = items_more (IsEventTypeEntry g.T.ByteOrder.number_of c.args.attr_size) (c.args.attr_size + 16) c.args.section.now.offset c.args.section.now.size _ _ c.entries.at _ some c.entries.invariant.so_far
          (g.C.Source.state c.read_entry.new.source) c.in_ok-entry.entry c.push.new.self.items more c.in_ok-push.ensures.items c.in_ok-entry.ensures.reads;
      position = λ _. c.in_ok-entry.ensures.position ∙ at_offset_same (c.entries.at + c.args.attr_size + 16) _ _ c.entries.invariant.so_far.after_seek.all_bytes ∙ ap (λ k. at_offset k (g.C.Source.state c.args.source.now).position) on;
      pauses = c.in_ok-entry.ensures.pauses ∙ c.entries.invariant.pauses;
      same_loan = c.in_ok-entry.ensures.same_loan ∙ c.entries.invariant.same_loan;
    }

pub returns-clause-reads : goal.returns-clause-reads
returns-clause-reads g c =
    let some : 0 < c.args.attr_size + 16 = omega arith in
    let less : c.args.section.now.offset + c.args.section.now.size - c.entries.at < c.args.attr_size + 16 = omega arith in
    items_complete (IsEventTypeEntry g.T.ByteOrder.number_of c.args.attr_size) (c.args.attr_size + 16) c.args.section.now.offset c.args.section.now.size _ _ c.entries.at _ some c.entries.invariant.so_far less

pub returns-clause-position : goal.returns-clause-position
returns-clause-position g c = λ some. c.entries.invariant.position some ∙ ap (λ k. at_offset k (g.C.Source.state c.args.source.now).position) c.entries.invariant.so_far.offset_matches
