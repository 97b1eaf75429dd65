use Rattle.std.proofs.Common.{inl, inr}
use Rattle.std.proofs.lemmas.Result.{err_from_is_err_and}
use Rattle.perfdata_sources.specs.Raw.{bytes_of}
use Rattle.std.specs.Option.{option_map}
use Rattle.perfdata_events.specs.CallChain.{chain_values_of}
use Rattle.perfdata_events.specs.ReadValues.{values_of}
use Rattle.perfdata_events.specs.SampleRegisters.{registers_of}
use Rattle.perfdata_events.specs.Sample.{branches_of, stack_of}
use Rattle.perfdata_events.proofs.sample.SampleRecord.parse.Goals as goal

pub returns-in_err-origin-clause-decodes : goal.returns-in_err-origin-clause-decodes
returns-in_err-origin-clause-decodes c =
    let p = err_from_is_err_and c.from_residual.result c.from_residual.ensures.1 in
    rw (p.1, p.2) (inl (inl c.in_err-origin.ensures.decodes))

pub returns-in_err-event-clause-decodes : goal.returns-in_err-event-clause-decodes
returns-in_err-event-clause-decodes c =
    let p = err_from_is_err_and c.from_residual-in_err-event.result c.from_residual-in_err-event.ensures.1 in
    rw (p.1, p.2) (inl (inr record { value = c.in_ok-origin.origin; middle = bytes_of c.parse.new.fields; starts = c.in_ok-origin.ensures.decodes; error = (inl c.in_err-event.ensures.decodes) }))

pub returns-in_err-period-clause-decodes : goal.returns-in_err-period-clause-decodes
returns-in_err-period-clause-decodes c =
    let p = err_from_is_err_and c.from_residual-in_err-period.result c.from_residual-in_err-period.ensures.1 in
    rw (p.1, p.2) (inl (inr record { value = c.in_ok-origin.origin; middle = bytes_of c.parse.new.fields; starts = c.in_ok-origin.ensures.decodes; error = (inr record { value = c.in_ok-event.event; middle = bytes_of c.parse-2.new.fields; starts = c.in_ok-event.ensures.decodes; error = (inl (rw (c.contains.ensures tt) at c.in_err-period.ensures.decodes)) }) }))

pub returns-in_err-values-clause-decodes : goal.returns-in_err-values-clause-decodes
returns-in_err-values-clause-decodes c =
    let p = err_from_is_err_and c.from_residual-in_err-values.result c.from_residual-in_err-values.ensures.1 in
    rw (p.1, p.2) (inl (inr record { value = c.in_ok-origin.origin; middle = bytes_of c.parse.new.fields; starts = c.in_ok-origin.ensures.decodes; error = (inr record { value = c.in_ok-event.event; middle = bytes_of c.parse-2.new.fields; starts = c.in_ok-event.ensures.decodes; error = (inr record { value = c.in_ok-period.period; middle = bytes_of c.read_u64_if.new.fields; starts = (rw (c.contains.ensures tt) at c.in_ok-period.ensures.decodes); error = (inl c.in_err-values.ensures.decodes) }) }) }))

pub returns-in_err-call_chain-clause-decodes : goal.returns-in_err-call_chain-clause-decodes
returns-in_err-call_chain-clause-decodes c =
    let p = err_from_is_err_and c.from_residual-in_err-call_chain.result c.from_residual-in_err-call_chain.ensures.1 in
    rw (p.1, p.2) (inl (inr record { value = c.in_ok-origin.origin; middle = bytes_of c.parse.new.fields; starts = c.in_ok-origin.ensures.decodes; error = (inr record { value = c.in_ok-event.event; middle = bytes_of c.parse-2.new.fields; starts = c.in_ok-event.ensures.decodes; error = (inr record { value = c.in_ok-period.period; middle = bytes_of c.read_u64_if.new.fields; starts = (rw (c.contains.ensures tt) at c.in_ok-period.ensures.decodes); error = (inr record { value = option_map values_of c.in_ok-values.values; middle = bytes_of c.parse_if.new.fields; starts = c.in_ok-values.ensures.decodes; error = c.in_err-call_chain.ensures.decodes }) }) }) }))

pub returns-in_err-raw-clause-decodes : goal.returns-in_err-raw-clause-decodes
returns-in_err-raw-clause-decodes c =
    let p = err_from_is_err_and c.from_residual-in_err-raw.result c.from_residual-in_err-raw.ensures.1 in
    rw (p.1, p.2) (inr record { value = (c.in_ok-origin.origin, (c.in_ok-event.event, (c.in_ok-period.period, (option_map values_of c.in_ok-values.values, option_map chain_values_of c.in_ok-call_chain.call_chain)))); middle = bytes_of c.parse_if-2.new.fields; starts = record { middle = bytes_of c.parse.new.fields; starts = c.in_ok-origin.ensures.decodes; goes_on = record { middle = bytes_of c.parse-2.new.fields; starts = c.in_ok-event.ensures.decodes; goes_on = record { middle = bytes_of c.read_u64_if.new.fields; starts = (rw (c.contains.ensures tt) at c.in_ok-period.ensures.decodes); goes_on = record { middle = bytes_of c.parse_if.new.fields; starts = c.in_ok-values.ensures.decodes; goes_on = c.in_ok-call_chain.ensures.decodes } } } }; error = (inl (inl c.in_err-raw.ensures.decodes)) })

pub returns-in_err-branch_stack-clause-decodes : goal.returns-in_err-branch_stack-clause-decodes
returns-in_err-branch_stack-clause-decodes c =
    let p = err_from_is_err_and c.from_residual-in_err-branch_stack.result c.from_residual-in_err-branch_stack.ensures.1 in
    rw (p.1, p.2) (inr record { value = (c.in_ok-origin.origin, (c.in_ok-event.event, (c.in_ok-period.period, (option_map values_of c.in_ok-values.values, option_map chain_values_of c.in_ok-call_chain.call_chain)))); middle = bytes_of c.parse_if-2.new.fields; starts = record { middle = bytes_of c.parse.new.fields; starts = c.in_ok-origin.ensures.decodes; goes_on = record { middle = bytes_of c.parse-2.new.fields; starts = c.in_ok-event.ensures.decodes; goes_on = record { middle = bytes_of c.read_u64_if.new.fields; starts = (rw (c.contains.ensures tt) at c.in_ok-period.ensures.decodes); goes_on = record { middle = bytes_of c.parse_if.new.fields; starts = c.in_ok-values.ensures.decodes; goes_on = c.in_ok-call_chain.ensures.decodes } } } }; error = (inl (inr record { value = option_map bytes_of c.in_ok-raw.raw; middle = bytes_of c.read_raw_data_if.new.fields; starts = c.in_ok-raw.ensures.decodes; error = (inl c.in_err-branch_stack.ensures.decodes) })) })

pub returns-in_err-user_registers-clause-decodes : goal.returns-in_err-user_registers-clause-decodes
returns-in_err-user_registers-clause-decodes c =
    let p = err_from_is_err_and c.from_residual-in_err-user_registers.result c.from_residual-in_err-user_registers.ensures.1 in
    rw (p.1, p.2) (inr record { value = (c.in_ok-origin.origin, (c.in_ok-event.event, (c.in_ok-period.period, (option_map values_of c.in_ok-values.values, option_map chain_values_of c.in_ok-call_chain.call_chain)))); middle = bytes_of c.parse_if-2.new.fields; starts = record { middle = bytes_of c.parse.new.fields; starts = c.in_ok-origin.ensures.decodes; goes_on = record { middle = bytes_of c.parse-2.new.fields; starts = c.in_ok-event.ensures.decodes; goes_on = record { middle = bytes_of c.read_u64_if.new.fields; starts = (rw (c.contains.ensures tt) at c.in_ok-period.ensures.decodes); goes_on = record { middle = bytes_of c.parse_if.new.fields; starts = c.in_ok-values.ensures.decodes; goes_on = c.in_ok-call_chain.ensures.decodes } } } }; error = (inl (inr record { value = option_map bytes_of c.in_ok-raw.raw; middle = bytes_of c.read_raw_data_if.new.fields; starts = c.in_ok-raw.ensures.decodes; error = (inr record { value = option_map branches_of c.in_ok-branch_stack.branch_stack; middle = bytes_of c.parse_if-3.new.fields; starts = c.in_ok-branch_stack.ensures.decodes; error = (inl (rw c.register_masks-masks.ensures at c.in_err-user_registers.ensures.decodes)) }) })) })

pub returns-in_err-user_stack-clause-decodes : goal.returns-in_err-user_stack-clause-decodes
returns-in_err-user_stack-clause-decodes c =
    let p = err_from_is_err_and c.from_residual-in_err-user_stack.result c.from_residual-in_err-user_stack.ensures.1 in
    rw (p.1, p.2) (inr record { value = (c.in_ok-origin.origin, (c.in_ok-event.event, (c.in_ok-period.period, (option_map values_of c.in_ok-values.values, option_map chain_values_of c.in_ok-call_chain.call_chain)))); middle = bytes_of c.parse_if-2.new.fields; starts = record { middle = bytes_of c.parse.new.fields; starts = c.in_ok-origin.ensures.decodes; goes_on = record { middle = bytes_of c.parse-2.new.fields; starts = c.in_ok-event.ensures.decodes; goes_on = record { middle = bytes_of c.read_u64_if.new.fields; starts = (rw (c.contains.ensures tt) at c.in_ok-period.ensures.decodes); goes_on = record { middle = bytes_of c.parse_if.new.fields; starts = c.in_ok-values.ensures.decodes; goes_on = c.in_ok-call_chain.ensures.decodes } } } }; error = (inl (inr record { value = option_map bytes_of c.in_ok-raw.raw; middle = bytes_of c.read_raw_data_if.new.fields; starts = c.in_ok-raw.ensures.decodes; error = (inr record { value = option_map branches_of c.in_ok-branch_stack.branch_stack; middle = bytes_of c.parse_if-3.new.fields; starts = c.in_ok-branch_stack.ensures.decodes; error = (inr record { value = option_map registers_of c.in_ok-user_registers.user_registers; middle = bytes_of c.parse_user.new.fields; starts = (rw c.register_masks-masks.ensures at c.in_ok-user_registers.ensures.decodes); error = c.in_err-user_stack.ensures.decodes }) }) })) })

pub returns-in_err-end-clause-decodes : goal.returns-in_err-end-clause-decodes
returns-in_err-end-clause-decodes c =
    let p = err_from_is_err_and c.from_residual-in_err-end.result c.from_residual-in_err-end.ensures.1 in
    rw (p.1, p.2) (inr record { value = (c.in_ok-origin.origin, (c.in_ok-event.event, (c.in_ok-period.period, (option_map values_of c.in_ok-values.values, option_map chain_values_of c.in_ok-call_chain.call_chain)))); middle = bytes_of c.parse_if-2.new.fields; starts = record { middle = bytes_of c.parse.new.fields; starts = c.in_ok-origin.ensures.decodes; goes_on = record { middle = bytes_of c.parse-2.new.fields; starts = c.in_ok-event.ensures.decodes; goes_on = record { middle = bytes_of c.read_u64_if.new.fields; starts = (rw (c.contains.ensures tt) at c.in_ok-period.ensures.decodes); goes_on = record { middle = bytes_of c.parse_if.new.fields; starts = c.in_ok-values.ensures.decodes; goes_on = c.in_ok-call_chain.ensures.decodes } } } }; error = (inr record { value = (option_map bytes_of c.in_ok-raw.raw, (option_map branches_of c.in_ok-branch_stack.branch_stack, (option_map registers_of c.in_ok-user_registers.user_registers, option_map stack_of c.in_ok-user_stack.user_stack))); middle = bytes_of c.parse_if-4.new.fields; starts = record { middle = bytes_of c.read_raw_data_if.new.fields; starts = c.in_ok-raw.ensures.decodes; goes_on = record { middle = bytes_of c.parse_if-3.new.fields; starts = c.in_ok-branch_stack.ensures.decodes; goes_on = record { middle = bytes_of c.parse_user.new.fields; starts = (rw c.register_masks-masks.ensures at c.in_ok-user_registers.ensures.decodes); goes_on = c.in_ok-user_stack.ensures.decodes } } }; error = (rw c.register_masks-masks.ensures at c.in_err-end.ensures.decodes) }) })

pub returns-clause-decodes : goal.returns-clause-decodes
returns-clause-decodes c = record { middle = bytes_of c.parse_if-2.new.fields; starts = record { middle = bytes_of c.parse.new.fields; starts = c.in_ok-origin.ensures.decodes; goes_on = record { middle = bytes_of c.parse-2.new.fields; starts = c.in_ok-event.ensures.decodes; goes_on = record { middle = bytes_of c.read_u64_if.new.fields; starts = (rw (c.contains.ensures tt) at c.in_ok-period.ensures.decodes); goes_on = record { middle = bytes_of c.parse_if.new.fields; starts = c.in_ok-values.ensures.decodes; goes_on = c.in_ok-call_chain.ensures.decodes } } } }; goes_on = record { middle = bytes_of c.parse_if-4.new.fields; starts = record { middle = bytes_of c.read_raw_data_if.new.fields; starts = c.in_ok-raw.ensures.decodes; goes_on = record { middle = bytes_of c.parse_if-3.new.fields; starts = c.in_ok-branch_stack.ensures.decodes; goes_on = record { middle = bytes_of c.parse_user.new.fields; starts = (rw c.register_masks-masks.ensures at c.in_ok-user_registers.ensures.decodes); goes_on = c.in_ok-user_stack.ensures.decodes } } }; goes_on = (rw c.register_masks-masks.ensures at c.in_ok-end.ensures.decodes) } }
