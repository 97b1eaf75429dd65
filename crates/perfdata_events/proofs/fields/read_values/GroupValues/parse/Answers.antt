use Rattle.std.proofs.Common.{inl, inr}
use Rattle.std.proofs.lemmas.Result.{err_from_is_err_and}
use Rattle.perfdata_sources.specs.Raw.{bytes_of}
use Rattle.perfdata_events.proofs.fields.read_values.GroupValues.parse.Goals as goal

pub returns-in_err-times-clause-decodes : goal.returns-in_err-times-clause-decodes
returns-in_err-times-clause-decodes c =
    let p = err_from_is_err_and c.from_residual-in_err-times.result c.from_residual-in_err-times.ensures.1 in
    rw (p.1, p.2) (inr record { value = c.in_ok-count.count; middle = bytes_of c.read_u64.new.fields; starts = c.in_ok-count.ensures.decodes; error = (inl c.in_err-times.ensures.decodes) })

pub returns-in_err-numbers-clause-decodes : goal.returns-in_err-numbers-clause-decodes
returns-in_err-numbers-clause-decodes c =
    let p = err_from_is_err_and c.from_residual-in_err-numbers.result c.from_residual-in_err-numbers.ensures.1 in
    rw (p.1, p.2) (inr record { value = c.in_ok-count.count; middle = bytes_of c.read_u64.new.fields; starts = c.in_ok-count.ensures.decodes; error = (inr record { value = c.in_ok-times.times; middle = bytes_of c.parse.new.fields; starts = c.in_ok-times.ensures.decodes; error = (rw c.width.ensures at c.in_err-numbers.ensures.decodes) }) })

pub returns-clause-decodes : goal.returns-clause-decodes
returns-clause-decodes c = record { lead = c.in_ok-count.count; middle = bytes_of c.read_u64.new.fields; starts = c.in_ok-count.ensures.decodes; goes_on = record { middle = bytes_of c.parse.new.fields; starts = c.in_ok-times.ensures.decodes; goes_on = record { has_id_is = c.contains.ensures tt; has_lost_is = c.contains-2.ensures tt; numbers_are = (rw c.width.ensures at c.in_ok-numbers.ensures.decodes) } } }
