use Rattle.std.proofs.Common.{rules, arith, inl, inr, ◌≡◌, ◌+◌, ◌++◌, [], ◌∷◌, take, drop, refl, sym, ap, ◌∙◌, subst, Ok, Err, Some, None, length-drop}
use Rattle.linux_perf_data.specs.declared.in_memory.position.RecordPosition.{RecordPosition}
use Rattle.perfdata_chunks.specs.Chunks.{AreFrames, ReadsChunk, ReadsNext, WritesEntries, counted, round_count}
use Rattle.perfdata_chunks.proofs.ChunkLemmas.{frame_type, next_frames, next_round, next_round_fits, next_writes}
use Rattle.perfdata_chunks.proofs.records.chunk_records.Goals as goal

pub records-preserved : goal.records-preserved
records-preserved c =
    let before = c.records.invariant in
    let order = c.args.endian in
    let chunk = c.args.chunk.now in
    let offset = c.args.position.now.offset in
    let from : RecordPosition = record { offset = offset; round = c.min-position.result } in
    let at = c.records.position in
    let start = c.records.start in
    let next = c.in-Ok-Some.next in
    let rest = drop start chunk in
    let found : ReadsNext order at start rest (Ok (Some next)) = subst (ReadsNext order at start rest) (c.in-Ok-Some.is ∙ ap Ok c.in-Ok-Some.field-0-is) c.read_next.ensures in
    let frames = before.frames.0 in
    let all = frames ++ take next.frame.size rest ∷ [] in
    let more = next_frames order offset chunk frames c.records.count start at.offset next.frame before.frames.1 before.offset found.0 in
    let count : c.write_next-count.result ≡ c.records.count + counted next.frame.header.type_ = c.write_next-count.ensures.counted ∙ ap (λ n. c.records.count + n) found.1 in
    let are : AreFrames order offset chunk all c.write_next-count.result (start + next.frame.size) = subst (λ n. AreFrames order offset chunk all n (start + next.frame.size)) (sym count) more in
    let writes = next_writes order from at chunk frames c.records.count start c.write_next-count.result next c.args.entries.now c.records.entries c.write_next-count.new.entries before.frames.1 before.offset before.frames.3 found before.frames.2 c.write_next-count.ensures.counted c.write_next-count.ensures.written in
    let round = next_round order at.offset rest next.frame frames c.min-position.result at.round c.position_after.result.round found.0 before.frames.3 c.position_after.ensures.round in
    let fits = c.write_next-count.ensures.fits in
    let same = c.records.auto.entries in
    let in_rest = found.0.within in
    let end = found.0.end in
    let was_within = before.within in
    let was_at = before.offset in
    let moved = c.position_after.ensures.offset in
    record {
      frames = (all, are, writes, round);
      fits = omega (arith, fits, same);
      within = omega (arith, in_rest, length-drop start chunk, was_within);
      offset = omega (arith, moved, end, was_at);
      round_fits = next_round_fits order rest next.frame at.offset at.round c.position_after.result.round c.position_after.result.offset found.0 before.round_fits c.position_after.ensures.round moved;
    }

pub returns-then-next-eq-PERF_RECORD_HEADER_ATTR : goal.returns-then-next-eq-PERF_RECORD_HEADER_ATTR
returns-then-next-eq-PERF_RECORD_HEADER_ATTR c =
    let before = c.records.invariant in
    let order = c.args.endian in
    let chunk = c.args.chunk.now in
    let offset = c.args.position.now.offset in
    let from : RecordPosition = record { offset = offset; round = c.min-position.result } in
    let at = c.records.position in
    let start = c.records.start in
    let next = c.in-Ok-Some.next in
    let rest = drop start chunk in
    let found : ReadsNext order at start rest (Ok (Some next)) = subst (ReadsNext order at start rest) (c.in-Ok-Some.is ∙ ap Ok c.in-Ok-Some.field-0-is) c.read_next.ensures in
    let frames = before.frames.0 in
    let all = frames ++ take next.frame.size rest ∷ [] in
    let more = next_frames order offset chunk frames c.records.count start at.offset next.frame before.frames.1 before.offset found.0 in
    let count : c.write_next-count.result ≡ c.records.count + counted next.frame.header.type_ = c.write_next-count.ensures.counted ∙ ap (λ n. c.records.count + n) found.1 in
    let are : AreFrames order offset chunk all c.write_next-count.result (start + next.frame.size) = subst (λ n. AreFrames order offset chunk all n (start + next.frame.size)) (sym count) more in
    let writes = next_writes order from at chunk frames c.records.count start c.write_next-count.result next c.args.entries.now c.records.entries c.write_next-count.new.entries before.frames.1 before.offset before.frames.3 found before.frames.2 c.write_next-count.ensures.counted c.write_next-count.ensures.written in
    let round = next_round order at.offset rest next.frame frames c.min-position.result at.round c.position_after.result.round found.0 before.frames.3 c.position_after.ensures.round in
    let fits = c.write_next-count.ensures.fits in
    let same = c.records.auto.entries in
    let in_rest = found.0.within in
    let end = found.0.end in
    let was_within = before.within in
    let was_at = before.offset in
    let moved = c.position_after.ensures.offset in
    let kind : next.frame.header.type_ ≡ 64 = search rules in
    let first = c.min-position.ensures in
    subst (λ r. ReadsChunk order chunk c.args.attrs.now c.args.position.now c.args.entries.now r c.position_after.result c.write_next-count.new.entries) (sym c.chunk_result-then-next-eq-PERF_RECORD_HEADER_ATTR.ensures)
    (inl (record {
      frames = all;
      are = are;
      fits = omega (arith, fits, same);
      within = omega (arith, in_rest, length-drop start chunk, was_within);
      writes = subst (λ n. WritesEntries order (record { offset = offset; round = n }) all c.args.entries.now c.write_next-count.result c.write_next-count.new.entries) first writes;
      next_offset = omega (arith, moved, end, was_at);
      next_round = round ∙ ap (λ n. n + round_count order all) first;
      ends = inl (refl, inr (inl (frames, (take next.frame.size rest, refl, sym (frame_type order at.offset rest next.frame found.0) ∙ kind))));
    }))

pub returns-in-Ok-None : goal.returns-in-Ok-None
returns-in-Ok-None c =
    let before = c.records.invariant in
    let order = c.args.endian in
    let chunk = c.args.chunk.now in
    let at = c.records.position in
    let rest = drop c.records.start chunk in
    let none : ReadsNext order at c.records.start rest (Ok None) = subst (ReadsNext order at c.records.start rest) (c.in-Ok-None.is ∙ ap Ok c.in-Ok-None.field-0-is) c.read_next.ensures in
    let first = c.min-position.ensures in
    subst (λ r. ReadsChunk order chunk c.args.attrs.now c.args.position.now c.args.entries.now r at c.records.entries) (sym c.chunk_result-in-Ok-None.ensures)
    (inl (record {
      frames = before.frames.0;
      are = before.frames.1;
      fits = before.fits;
      within = before.within;
      writes = subst (λ n. WritesEntries order (record { offset = c.args.position.now.offset; round = n }) before.frames.0 c.args.entries.now c.records.count c.records.entries) first before.frames.2;
      next_offset = before.offset;
      next_round = before.frames.3 ∙ ap (λ n. n + round_count order before.frames.0) first;
      ends = inl (refl, inr (inr none));
    }))

pub returns-in-Err : goal.returns-in-Err
returns-in-Err c =
    let before = c.records.invariant in
    let order = c.args.endian in
    let chunk = c.args.chunk.now in
    let at = c.records.position in
    let rest = drop c.records.start chunk in
    let failed : ReadsNext order at c.records.start rest (Err c.in-Err.status) = subst (ReadsNext order at c.records.start rest) c.in-Err.is c.read_next.ensures in
    let test = c.records-test.true in
    let same = c.records.auto.entries in
    let first = c.min-position.ensures in
    subst (λ r. ReadsChunk order chunk c.args.attrs.now c.args.position.now c.args.entries.now r at c.records.entries) (sym c.chunk_result-in-Err.ensures)
    (inl (record {
      frames = before.frames.0;
      are = before.frames.1;
      fits = before.fits;
      within = before.within;
      writes = subst (λ n. WritesEntries order (record { offset = c.args.position.now.offset; round = n }) before.frames.0 c.args.entries.now c.records.count c.records.entries) first before.frames.2;
      next_offset = before.offset;
      next_round = before.frames.3 ∙ ap (λ n. n + round_count order before.frames.0) first;
      ends = inr (omega (arith, test, same), failed);
    }))
