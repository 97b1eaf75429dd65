use Rattle.std.proofs.Common.{refl, ap, inl, inr}
use Rattle.std.proofs.lemmas.Result.{err_from_is_err_and}
use Rattle.linux_perf_data.specs.RecordInput.{section_size_in}
use Rattle.linux_perf_data.proofs.InMemoryCalls.{body_processed, body_rejected}
use Rattle.linux_perf_data.proofs.in_memory.iter.process_record.Goals as goal

pub returns-in_ok-apply_metadata-in-Pipe-clause-processes : goal.returns-in_ok-apply_metadata-in-Pipe-clause-processes
returns-in_ok-apply_metadata-in-Pipe-clause-processes c = λ buffer buffered.
    body_processed c.args.records.now _ buffer refl c.args.perf_file.now c.apply_metadata.new.perf_file c.args.offset c.args.round c.args.header c.identify-identified.result c.identify-identified.new.lookup c.args.body.now buffered (ap section_size_in c.in-Pipe.is)
    c.identify-identified.ensures.identifies c.identify-identified.ensures.keeps_attributes c.in_ok-apply_metadata-in-Pipe.ensures.applies (λ isnt. c.in_ok-apply_metadata-in-Pipe.ensures.other (λ attribute. isnt (inl attribute)) (λ feature. isnt (inr feature))) (record { source = refl; same_endian = refl; body = refl; offset = refl; round = refl; input = refl }) refl

pub returns-in_err-apply_metadata-in-Pipe-clause-processes : goal.returns-in_err-apply_metadata-in-Pipe-clause-processes
returns-in_err-apply_metadata-in-Pipe-clause-processes c =
    let p = err_from_is_err_and c.from_residual.result c.from_residual.ensures.1 in
    rw (p.1, p.2) (λ buffer buffered. body_rejected c.args.records.now _ buffer refl c.args.perf_file.now c.apply_metadata.new.perf_file c.args.header c.in_err-apply_metadata-in-Pipe.field-0.0 c.identify-identified.new.lookup c.args.body.now buffered (ap section_size_in c.in-Pipe.is) c.identify-identified.ensures.keeps_attributes
    c.in_err-apply_metadata-in-Pipe.ensures.applies (record { source = refl; same_endian = refl; body = refl; offset = refl; round = refl; input = refl }))
