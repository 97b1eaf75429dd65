use Rattle.std.proofs.Common.{inl, inr}
use Rattle.std.proofs.lemmas.Result.{err_from_is_err_and}
use Rattle.perfdata_sources.specs.Raw.{bytes_of}
use Rattle.std.specs.Option.{option_map}
use Rattle.perfdata_events.specs.SampleRegisters.{registers_of}
use Rattle.perfdata_events.proofs.sample.end.SampleEnd.parse.Goals as goal

pub returns-in_err-interrupt_registers-clause-decodes : goal.returns-in_err-interrupt_registers-clause-decodes
returns-in_err-interrupt_registers-clause-decodes c =
    let p = err_from_is_err_and c.from_residual-in_err-interrupt_registers.result c.from_residual-in_err-interrupt_registers.ensures.1 in
    rw (p.1, p.2) (inr record { value = c.in_ok-weight.weight; middle = bytes_of c.read_u64_if.new.fields; starts = (rw c.has_weight.ensures at c.in_ok-weight.ensures.decodes); error = (inr record { value = c.in_ok-data.data; middle = bytes_of c.parse.new.fields; starts = c.in_ok-data.ensures.decodes; error = (inl c.in_err-interrupt_registers.ensures.decodes) }) })

pub returns-in_err-pages-clause-decodes : goal.returns-in_err-pages-clause-decodes
returns-in_err-pages-clause-decodes c =
    let p = err_from_is_err_and c.from_residual-in_err-pages.result c.from_residual-in_err-pages.ensures.1 in
    rw (p.1, p.2) (inr record { value = c.in_ok-weight.weight; middle = bytes_of c.read_u64_if.new.fields; starts = (rw c.has_weight.ensures at c.in_ok-weight.ensures.decodes); error = (inr record { value = c.in_ok-data.data; middle = bytes_of c.parse.new.fields; starts = c.in_ok-data.ensures.decodes; error = (inr record { value = option_map registers_of c.in_ok-interrupt_registers.interrupt_registers; middle = bytes_of c.parse_interrupt.new.fields; starts = c.in_ok-interrupt_registers.ensures.decodes; error = (inl c.in_err-pages.ensures.decodes) }) }) })

pub returns-in_err-aux_data-clause-decodes : goal.returns-in_err-aux_data-clause-decodes
returns-in_err-aux_data-clause-decodes c =
    let p = err_from_is_err_and c.from_residual-in_err-aux_data.result c.from_residual-in_err-aux_data.ensures.1 in
    rw (p.1, p.2) (inr record { value = c.in_ok-weight.weight; middle = bytes_of c.read_u64_if.new.fields; starts = (rw c.has_weight.ensures at c.in_ok-weight.ensures.decodes); error = (inr record { value = c.in_ok-data.data; middle = bytes_of c.parse.new.fields; starts = c.in_ok-data.ensures.decodes; error = (inr record { value = option_map registers_of c.in_ok-interrupt_registers.interrupt_registers; middle = bytes_of c.parse_interrupt.new.fields; starts = c.in_ok-interrupt_registers.ensures.decodes; error = (inr record { value = c.in_ok-pages.pages; middle = bytes_of c.parse-2.new.fields; starts = c.in_ok-pages.ensures.decodes; error = (rw (c.contains.ensures tt) at c.in_err-aux_data.ensures.decodes) }) }) }) })

pub returns-clause-decodes : goal.returns-clause-decodes
returns-clause-decodes c = record { middle = bytes_of c.read_u64_if.new.fields; starts = (rw c.has_weight.ensures at c.in_ok-weight.ensures.decodes); goes_on = record { middle = bytes_of c.parse.new.fields; starts = c.in_ok-data.ensures.decodes; goes_on = record { middle = bytes_of c.parse_interrupt.new.fields; starts = c.in_ok-interrupt_registers.ensures.decodes; goes_on = record { middle = bytes_of c.parse-2.new.fields; starts = c.in_ok-pages.ensures.decodes; goes_on = (rw (c.contains.ensures tt) at c.in_ok-aux_data.ensures.decodes) } } } }
