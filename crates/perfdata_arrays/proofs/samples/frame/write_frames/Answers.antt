use Rattle.std.proofs.Common.{ap, arith, sym, ◌∙◌, ◌++◌, [], ◌∷◌, length, append_assoc, length-append}
use Rattle.std.specs.Prelude.{map}
use Rattle.std.proofs.lemmas.List.{length-map, map_push}
use Rattle.linux_perf_data.specs.RecordEntries.{with_prefix}
use Rattle.perfdata_events.specs.CallChain.{chain_values_of, remaining_frames}
use Rattle.perfdata_events.specs.declared.fields.call_chain.CallContext.TheVariants.{User}
use Rattle.perfdata_arrays.proofs.FrameLemmas.{frames_within}
use Rattle.perfdata_arrays.specs.Samples.{frame_entry_of}
use Rattle.perfdata_arrays.proofs.samples.frame.write_frames.Goals as goal

pub overflow_add-count : goal.overflow_add-count
overflow_add-count c =
    let before = c.frames.invariant in
    let split = ap length before.split in
    let next = ap length c.in-Some.ensures.steps in
    let within = frames_within User (chain_values_of c.args.chain.now) in
    let values = c.len-count.ensures in
    let count = before.count_is in
    omega (arith, split, next, within, values, count, length-append before.done (remaining_frames c.frames.rest))

pub frames-preserved : goal.frames-preserved
frames-preserved c =
    let before = c.frames.invariant in
    let done = before.done in
    let frame = c.in-Some.frame in
    let count = before.count_is in
    let array = c.args.entries.now in
    record {
      done = done ++ frame ∷ [];
      split = before.split ∙ ap (λ l. done ++ l) c.in-Some.ensures.steps ∙ sym (append_assoc done (frame ∷ []) (remaining_frames c.next.new.self));
      count_is = omega (arith, count, length-append done (frame ∷ []));
      written = c.write_entry.ensures.one_more (map frame_entry_of done) array (count ∙ sym (length-map done frame_entry_of)) before.written
          ∙ ap (λ e. with_prefix (map frame_entry_of done ++ e ∷ []) array) c.new.ensures ∙ ap (λ l. with_prefix l array) (sym (map_push frame_entry_of done frame));
    }
