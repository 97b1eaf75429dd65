use Rattle.std.proofs.Common.{vec_capacity}
use Rattle.std.proofs.lemmas.Result.{err_from_is_err_and}
use Rattle.linux_perf_data.proofs.BodiesWithAux.{body_exceeds, aux_exceeds, content_auxtrace, content_not_auxtrace}
use Rattle.linux_perf_data.proofs.SourceViews.{read_true}
use Rattle.linux_perf_data.proofs.records.framing.read_record_body.Goals as goal

pub returns-clause-reads : goal.returns-clause-reads
returns-clause-reads g c =
    let a = g.R.Source.state c.args.source.now in
    let b = g.R.Source.state c.append_body.new.source in
    let appended = read_true a b c.args.body.now.items _ c.append_body.new.body.items _ c.if-not-branch.false c.in_ok-append_body.ensures.appends in
    content_auxtrace c.args.endian a b (g.R.Source.state c.read_aux_data.new.source) c.args.header c.args.body.now.items c.append_body.new.body.items c.read_aux_data.new.body.items c.args.end _ c.requires.empty c.requires.size
    c.if-is_compressed.ensures c.if-header-ne-PERF_RECORD_AUXTRACE.false appended c.in_ok-read_aux_data.ensures.reads

pub returns-in_err-read_aux_data-clause-reads : goal.returns-in_err-read_aux_data-clause-reads
returns-in_err-read_aux_data-clause-reads g c =
    let p = err_from_is_err_and c.from_residual-in_err-read_aux_data.result c.from_residual-in_err-read_aux_data.ensures.1 in
    let a = g.R.Source.state c.args.source.now in
    let b = g.R.Source.state c.append_body.new.source in
    let appended = read_true a b c.args.body.now.items _ c.append_body.new.body.items _ c.if-not-branch.false c.in_ok-append_body.ensures.appends in
    rw (p.1, p.2) (content_not_auxtrace c.args.endian a b (g.R.Source.state c.read_aux_data.new.source) c.args.header c.args.body.now.items c.append_body.new.body.items c.read_aux_data.new.body.items c.args.end _ c.requires.empty c.requires.size
    c.if-header-ne-PERF_RECORD_AUXTRACE.false appended c.in_err-read_aux_data.ensures.reads)

pub returns-in_err-append_body-clause-memory_only_to_grow : goal.returns-in_err-append_body-clause-memory_only_to_grow
returns-in_err-append_body-clause-memory_only_to_grow g c =
    let p = err_from_is_err_and c.from_residual.result c.from_residual.ensures.1 in
    rw (p.1, p.2) (λ m. body_exceeds c.args.endian (g.R.Source.state c.args.source.now) (g.R.Source.state c.append_body.new.source) c.args.header c.args.body.now.items _ (vec_capacity c.args.body.now) c.requires.empty c.in_err-append_body.ensures.appends.0 (c.in_err-append_body.ensures.memory_only_to_grow m))

pub returns-in_err-read_aux_data-clause-memory_only_to_grow : goal.returns-in_err-read_aux_data-clause-memory_only_to_grow
returns-in_err-read_aux_data-clause-memory_only_to_grow g c =
    let p = err_from_is_err_and c.from_residual-in_err-read_aux_data.result c.from_residual-in_err-read_aux_data.ensures.1 in
    let a = g.R.Source.state c.args.source.now in
    let b = g.R.Source.state c.append_body.new.source in
    let appended = read_true a b c.args.body.now.items _ c.append_body.new.body.items _ c.if-not-branch.false c.in_ok-append_body.ensures.appends in
    rw (p.1, p.2) (λ m. aux_exceeds c.args.endian a b (g.R.Source.state c.read_aux_data.new.source) c.args.header c.args.body.now.items c.append_body.new.body.items c.read_aux_data.new.body.items c.args.end (vec_capacity c.args.body.now) (vec_capacity c.append_body.new.body)
    c.in_err-read_aux_data.field-0.0 c.requires.empty c.if-header-ne-PERF_RECORD_AUXTRACE.false appended c.in_err-read_aux_data.ensures.reads c.in_ok-append_body.ensures.capacity m (c.in_err-read_aux_data.ensures.memory_only_to_grow m))
