use Rattle.std.proofs.Common.{sym, ap, ◌∙◌, refl, length, Some}
use Rattle.std.proofs.lemmas.Option.{slice_get_read}
use Rattle.std.specs.Prelude.{slice_get}
use Rattle.linux_perf_data.specs.PerfFile.{descriptions_of_file, endian_of_file}
use Rattle.perfdata_events.specs.EventFormat.{native_format_of}
use Rattle.perfdata_stack_arrays.proofs.Formats.{format_at}
use Rattle.perfdata_stack_arrays.proofs.events.event_format.Goals as goal

pub returns : goal.returns
returns c = λ places.
    (let index = c.args.attr_index in
    let all = c.event_attributes.result.now in
    let lookup = c.in_ok-description.ensures.lookup in
    let found = ap (λ l. slice_get l index) (sym c.event_attributes.ensures.are) ∙ slice_get_read all (length all) index c.in_ok-description.description.now refl lookup.3.0 lookup.1 in
    format_at (endian_of_file c.args.perf_file.now) (descriptions_of_file c.args.perf_file.now) index places c.in_ok-description.description.now found
    ∙ ap Some (sym (c.new.ensures ∙ (λ i. native_format_of (c.attributes.ensures i) (c.endian.ensures i)))))
