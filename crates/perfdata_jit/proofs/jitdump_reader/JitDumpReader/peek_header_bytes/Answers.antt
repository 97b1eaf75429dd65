use Rattle.std.proofs.Common.{refl, ap, sym, ◌∙◌, subst, Ok, Some}
use Rattle.perfdata_jit.proofs.RecordHeaders.{read_kept, header_peeked}
use Rattle.perfdata_jit.specs.BufferedReader.{ConsumesHeader}
use Rattle.perfdata_jit.proofs.jitdump_reader.JitDumpReader.peek_header_bytes.Goals as goal

pub returns-in-Some-clause-peeks_header : goal.returns-in-Some-clause-peeks_header
returns-in-Some-clause-peeks_header g c = read_kept g.R.Source.state c.args.self.now c.copy_header.result (c.in-Some.is ∙ ap Some (sym c.copy_header.ensures.same)) c.copy_header.ensures.long c.in_ok-check_no_seek_failed.ensures.ok

pub returns-clause-peeks_header : goal.returns-clause-peeks_header
returns-clause-peeks_header g c =
    let state = g.R.Source.state in
    let old = c.args.self.now in
    let consumed = subst (λ o. ConsumesHeader state old.reader (Ok o) c.consume_header.new.self) c.in-Some-2.is c.in_ok-header.ensures.consumes in
    header_peeked state old _ c.in-Some-2.header consumed c.in-None.is refl refl (record { header = refl; same_endian = refl; ring_capacity = consumed.consumes.ring_capacity })
