use Rattle.std.proofs.Common.{◌∙◌, ap, arith, inl, inr, refl, Ok, Err}
use Rattle.perfdata_stack_arrays.proofs.Returned.{entries_fit}
use Rattle.perfdata_stack_arrays.proofs.Walks.{AreShort, nothing_so_far, one_more, runs_out, walk_ends}
use Rattle.perfdata_stack_arrays.proofs.stacks.walk_stacks.Goals as goal

pub records-init : goal.records-init
records-init c = record {
  so_far = nothing_so_far c.args.records.now c.args.perf_file.now (record { stacks = c.args.stacks.now; frames = c.args.frames.now; mappings = c.args.mappings.now; text = c.args.text.now }) c.new-state.result c.new-state.ensures;
  returned_fits = omega arith;
}

pub overflow_add-returned : goal.overflow_add-returned
overflow_add-returned c =
    let step = rw (c.in-Ok-Some.is ∙ ap Ok c.in-Ok-Some.field-0-is) at c.next_record.ensures in
    let short : AreShort (record { stacks = c.args.stacks.now; frames = c.args.frames.now; mappings = c.args.mappings.now; text = c.args.text.now }) = record { stacks = omega arith; frames = omega arith; mappings = omega arith; text = omega arith } in
    let more = one_more _ _ _ _ _ _ _ _ _ c.records.invariant.so_far (c.in-Ok-Some.place, c.in-Ok-Some.record) _ _ step short _ _ _ c.in-Ok.ensures in
    let fits = entries_fit _ _ _ _ _ _ c.requires more.read in
    let returned = more.returned_is in
    omega (arith, fits, returned)

pub records-preserved : goal.records-preserved
records-preserved c =
    let step = rw (c.in-Ok-Some.is ∙ ap Ok c.in-Ok-Some.field-0-is) at c.next_record.ensures in
    let short : AreShort (record { stacks = c.args.stacks.now; frames = c.args.frames.now; mappings = c.args.mappings.now; text = c.args.text.now }) = record { stacks = omega arith; frames = omega arith; mappings = omega arith; text = omega arith } in
    let more = one_more _ _ _ _ _ _ _ _ _ c.records.invariant.so_far (c.in-Ok-Some.place, c.in-Ok-Some.record) _ _ step short _ _ _ c.in-Ok.ensures in
    let fits = entries_fit _ _ _ _ _ _ c.requires more.read in
    let returned = more.returned_is in
    record { so_far = more; returned_fits = omega (arith, fits, returned) }

pub returns-in-Err-added : goal.returns-in-Err-added
returns-in-Err-added c =
    let step = rw (c.in-Ok-Some.is ∙ ap Ok c.in-Ok-Some.field-0-is) at c.next_record.ensures in
    let short : AreShort (record { stacks = c.args.stacks.now; frames = c.args.frames.now; mappings = c.args.mappings.now; text = c.args.text.now }) = record { stacks = omega arith; frames = omega arith; mappings = omega arith; text = omega arith } in
    let keeps = c.in-Err-added.ensures.keeps in
    walk_ends _ _ _ _ _ _ _ _ _ _ _ _ _ _ _ c.stack_totals.ensures c.records.invariant.so_far keeps.totals.counts
    (λ i. record { stacks = keeps.same_stacks i; frames = keeps.same_frames i; mappings = keeps.totals.mappings_kept i; text = keeps.totals.text_kept i })
    (inr (runs_out _ _ _ _ _ _ _ _ _ c.records.invariant.so_far (c.in-Ok-Some.place, c.in-Ok-Some.record) _ _ step short _ _ _ c.from.ensures c.in-Err-added.ensures))

pub returns-in-Ok-None : goal.returns-in-Ok-None
returns-in-Ok-None c =
    let ended = rw (c.in-Ok-None.is ∙ ap Ok c.in-Ok-None.field-0-is) at c.next_record.ensures in
    walk_ends _ _ _ _ _ _ _ _ _ _ _ _ (Ok tt) _ _ c.stack_totals-in-Ok-None.ensures c.records.invariant.so_far refl refl ended

pub returns-in-Err : goal.returns-in-Err
returns-in-Err c =
    let failed = rw c.in-Err.is at c.next_record.ensures in
    walk_ends _ _ _ _ _ _ _ _ _ _ _ _ (Err c.in-Err.error) _ _ c.stack_totals-in-Err.ensures c.records.invariant.so_far refl refl (inl failed)
