use Rattle.std.proofs.Common.{subst}
use Rattle.std.specs.Option.{option_map}
use Rattle.std.proofs.lemmas.Result.{err_from_is_err_and}
use Rattle.linux_perf_data.specs.steps.AttributeSources.{ReadsSimpleperfSection}
use Rattle.linux_perf_data.proofs.FileAttributes.{desc_read, types_read, meta_info_error, named_read}
use Rattle.linux_perf_data.proofs.NamedErrors.{file_event_desc, file_types, file_simpleperf, file_attrs, file_meta_info}
use Rattle.linux_perf_data.proofs.file.opening.read_attributes.Goals as goal

pub returns-then-header-ne0-clause-reads : goal.returns-then-header-ne0-clause-reads
returns-then-header-ne0-clause-reads g c =
    rw (c.in-None.is) (types_read c.args.endian c.args.header.now (g.C.Source.state c.args.source.now) (g.met.C.PlacedSource.remaining_from_position _) _ _ _ c.if-header-ne0.true c.read_event_types.ensures.reads)

pub returns-in_ok-types-in-Some-meta_info-clause-reads : goal.returns-in_ok-types-in-Some-meta_info-clause-reads
returns-in_ok-types-in-Some-meta_info-clause-reads g c =
    let h = c.args.header.now in
    let a = g.C.Source.state c.args.source.now in
    let reads = subst (λ types. ReadsSimpleperfSection c.args.endian h.attr_size h.attr_section types a c.read_simpleperf_attrs.result (g.C.Source.state c.read_simpleperf_attrs.new.source)) c.deref.ensures.value c.read_simpleperf_attrs.ensures.reads in
    rw (c.in-None.is, c.in-Some-meta_info.is) (named_read c.args.endian h a (g.met.C.PlacedSource.remaining_from_position _) c.in-Some-meta_info.bytes.now c.in_ok-types-in-Some-meta_info.types.items _ _ c.if-header-ne0.false c.in_ok-types-in-Some-meta_info.ensures reads)

pub returns-in-Some-clause-reads : goal.returns-in-Some-clause-reads
returns-in-Some-clause-reads g c =
    rw (c.in-Some.is) (desc_read c.args.endian c.args.header.now (g.C.Source.state c.args.source.now) (g.met.C.PlacedSource.remaining_from_position _) c.in-Some.bytes.now (option_map (λ s. s.now) c.args.meta_info) c.read_event_desc.result c.read_event_desc.ensures)

pub returns-in_err-types-in-Some-meta_info-clause-reads : goal.returns-in_err-types-in-Some-meta_info-clause-reads
returns-in_err-types-in-Some-meta_info-clause-reads g c =
    let p = err_from_is_err_and c.from_residual.result c.from_residual.ensures.1 in
    rw (p.1, p.2, c.in-None.is, c.in-Some-meta_info.is) (meta_info_error c.args.endian c.args.header.now (g.C.Source.state c.args.source.now) (g.met.C.PlacedSource.remaining_from_position _) c.in-Some-meta_info.bytes.now _ c.if-header-ne0.false c.in_err-types-in-Some-meta_info.ensures)

pub returns-in-Some-clause-named_error : goal.returns-in-Some-clause-named_error
returns-in-Some-clause-named_error g c = file_event_desc c.args.endian c.in-Some.bytes.now c.read_event_desc.result c.read_event_desc.ensures

pub returns-then-header-ne0-clause-named_error : goal.returns-then-header-ne0-clause-named_error
returns-then-header-ne0-clause-named_error g c =
    file_types c.args.endian c.args.header.now.attr_size c.args.header.now.event_types_section (g.C.Source.state c.args.source.now) c.read_event_types.result (g.C.Source.state c.read_event_types.new.source) c.read_event_types.ensures.reads

pub returns-in_err-types-in-Some-meta_info-clause-named_error : goal.returns-in_err-types-in-Some-meta_info-clause-named_error
returns-in_err-types-in-Some-meta_info-clause-named_error g c =
    let p = err_from_is_err_and c.from_residual.result c.from_residual.ensures.1 in
    rw (p.1, p.2) (file_meta_info c.in-Some-meta_info.bytes.now _ c.in_err-types-in-Some-meta_info.ensures)

pub returns-in_ok-types-in-Some-meta_info-clause-named_error : goal.returns-in_ok-types-in-Some-meta_info-clause-named_error
returns-in_ok-types-in-Some-meta_info-clause-named_error g c =
    let h = c.args.header.now in
    file_simpleperf c.args.endian h.attr_size h.attr_section c.deref.result.now (g.C.Source.state c.args.source.now) c.read_simpleperf_attrs.result (g.C.Source.state c.read_simpleperf_attrs.new.source) c.read_simpleperf_attrs.ensures.reads

pub returns-in-None-meta_info-clause-named_error : goal.returns-in-None-meta_info-clause-named_error
returns-in-None-meta_info-clause-named_error g c =
    file_attrs c.args.endian c.args.header.now.attr_size c.args.header.now.attr_section (g.C.Source.state c.args.source.now) c.read_attr_section.result (g.C.Source.state c.read_attr_section.new.source) c.read_attr_section.ensures.reads
