use Rattle.std.proofs.Common.{inl, inr, ◌∷◌, [], map, subst, sym, ap, ◌∙◌, List}
use Rattle.std.proofs.lemmas.List.{map-append}
use Rattle.std.proofs.lemmas.Result.{err_from_is_err_and}
use Rattle.perfdata_simpleperf.specs.FileRecord.{FileValue, record_value}
use Rattle.perfdata_simpleperf.specs.Chunks.{ChunksAt}
use Rattle.perfdata_simpleperf.proofs.ChunkLemmas.{chunk_shorter, chunks_then, bad_chunk}
use Rattle.perfdata_simpleperf.proofs.simpleperf.chunks.parse_chunks.Goals as goal

pub returns-in_err-record-clause-on_error : goal.returns-in_err-record-clause-on_error
returns-in_err-record-clause-on_error g c =
    let r = c.from_residual-in_err-record in
    let p = err_from_is_err_and r.result r.ensures.1 in
    let format = g.S.ChunkFormat in
    rw (p.1, p.2) (bad_chunk c.args.endian (format.decodes_to c.args.endian) (format.is_invalid_for c.args.endian) format.needs_memory format.is_reported_by _ _ _ _ _ _ c.chunks.invariant c.in_ok-chunk.ensures.on_ok c.in_err-record.ensures.on_error)

pub chunks-smaller : goal.chunks-smaller
chunks-smaller g c = chunk_shorter c.args.endian _ _ _ c.in_ok-chunk.ensures.on_ok

pub chunks-preserved : goal.chunks-preserved
chunks-preserved g c =
    let r = c.in_ok-record.record in
    let decodes_to = g.S.ChunkFormat.decodes_to c.args.endian in
    let then = chunks_then c.args.endian decodes_to _ _ _ _ (record_value r) _ c.chunks.invariant c.in_ok-chunk.ensures.on_ok c.in_ok-record.ensures.on_ok in
    let all = ap (λ xs. map record_value xs) c.in_ok-push.ensures.items ∙ map-append record_value _ (r ∷ []) in
    subst (λ (vs : List FileValue). ChunksAt c.args.endian decodes_to c.args.bytes.now vs c.in_ok-chunk.after.now) (sym all) then

pub returns-in_err-push-clause-on_error : goal.returns-in_err-push-clause-on_error
returns-in_err-push-clause-on_error g c =
    let r = c.from_residual-in_err-push in
    let p = err_from_is_err_and r.result r.ensures.1 in
    rw p.1 (inl (p.2, record { earlier = _; mid = _; elements = c.chunks.invariant; chunk = _; rest = _; reads = c.in_ok-chunk.ensures.on_ok; needs = inr (record_value c.in_ok-record.record, c.in_ok-record.ensures.on_ok) }))
