use Rattle.std.proofs.Common.{◌≤◌, ◌+◌, ◌∙◌, ap, sym, subst, refl, inl, inr, length, Ok, Err}
use Rattle.perfdata_arrays.specs.Jit.{FindsRecord, ParsesLoad}
use Rattle.perfdata_arrays.proofs.JitLemmas.{found_in_bounds}
use Rattle.perfdata_arrays.proofs.jit.jit_load.Goals as goal

pub parse_load-requires-clause-in_bounds : goal.parse_load-requires-clause-in_bounds
parse_load-requires-clause-in_bounds c =
    let found = subst (FindsRecord c.in-Ok.read.1 c.args.bytes.now c.args.offset) (c.in-Ok-Some.is ∙ ap Ok c.in-Ok-Some.field-0-is) c.find_record.ensures in
    let in_bounds = found_in_bounds c.in-Ok.read.1 c.args.bytes.now c.args.offset c.in-Ok-Some.record found in
    subst (λ n. n + c.in-Ok-Some.record.size ≤ length c.args.bytes.now) (sym in_bounds.0) in_bounds.2

pub returns-in-Err-parse_load : goal.returns-in-Err-parse_load
returns-in-Err-parse_load c =
    let endian = c.in-Ok.read.1 in
    let bytes = c.args.bytes.now in
    let found = subst (FindsRecord endian bytes c.args.offset) (c.in-Ok-Some.is ∙ ap Ok c.in-Ok-Some.field-0-is) c.find_record.ensures in
    let in_bounds = found_in_bounds endian bytes c.args.offset c.in-Ok-Some.record found in
    let error = subst (λ n. ParsesLoad endian bytes n (Err c.in-Err-parse_load.status)) in_bounds.0 (subst (ParsesLoad endian bytes c.in-Ok-Some.record.offset) c.in-Err-parse_load.is c.parse_load.ensures) in
    inl (endian, (c.in-Ok.read.0, c.in-Ok.ensures, inr (inr (inr (error, refl)))))
