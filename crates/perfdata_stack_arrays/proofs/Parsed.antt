-- What a parsed record adds is what its record adds.
use Rattle.std.proofs.Common.{inr, List, Result, Ok, Err}
use Rattle.std.specs.declared.alloc.AllocError.{AllocError}
use Rattle.perfdata_sources.specs.declared.endian.Endianness.{Endianness}
use Rattle.linux_perf_data.specs.Attribute.{Attribute}
use Rattle.linux_perf_data.specs.Layout.{RecordView}
use Rattle.perfdata_stack_arrays.specs.steps.Adding.{AddsParsed, AddsRecord}
use Rattle.perfdata_stack_arrays.specs.Event.{Event}
use Rattle.perfdata_stack_arrays.specs.Events.{ParsesEvent}
use Rattle.perfdata_stack_arrays.specs.Written.{Written}
use Rattle.perfdata_stack_arrays.specs.declared.stacks.StackArraySizes.{StackArraySizes}
use Rattle.perfdata_stack_arrays.specs.declared.state.ProcessState.{ProcessState}

pub adds_record : (order : Endianness) (attrs : List Attribute) (h : RecordView) (event : Event) (state : ProcessState) (counts : StackArraySizes) (arrays : Written) (result : Result StackArraySizes AllocError) (state' : ProcessState) (arrays' : Written)
    → ParsesEvent order attrs h event → AddsParsed event state counts arrays result state' arrays' → AddsRecord order attrs h state counts arrays result state' arrays'
adds_record order attrs h event state counts arrays (Ok more) state' arrays' parsed adds = inr (record { event = event; is_event = parsed; adds = adds })
adds_record order attrs h event state counts arrays (Err error) state' arrays' parsed fails = record { event = event; is_event = parsed; applied = fails.applied; applied_is = fails.applied_is; keeps = fails.keeps }
