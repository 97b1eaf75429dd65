use Rattle.std.proofs.Common.{◌≤◌, ◌+◌, ◌∙◌, ap, sym, subst, length, Ok}
use Rattle.perfdata_arrays.specs.Jit.{FindsRecord}
use Rattle.perfdata_arrays.proofs.JitBodiesLemmas.{body_is_after_header, body_in_bounds}
use Rattle.perfdata_arrays.proofs.JitLemmas.{found_in_bounds}
use Rattle.perfdata_arrays.proofs.jit_bodies.find_body.Goals as goal

pub record_body-requires-clause-in_bounds : goal.record_body-requires-clause-in_bounds
record_body-requires-clause-in_bounds c =
    let endian = c.in_ok-_header.endian in
    let found = subst (λ o. FindsRecord endian c.args.bytes.now c.args.offset (Ok o)) c.in-Some.is c.in_ok-record.ensures in
    let in_bounds = found_in_bounds endian c.args.bytes.now c.args.offset c.in-Some.record found in
    subst (λ n. n + c.in-Some.record.size ≤ length c.args.bytes.now) (sym in_bounds.0) in_bounds.2

pub returns-clause-body : goal.returns-clause-body
returns-clause-body c =
    let endian = c.in_ok-_header.endian in
    let found = subst (λ o. FindsRecord endian c.args.bytes.now c.args.offset (Ok o)) c.in-Some.is c.in_ok-record.ensures in
    record {
      header = c.in_ok-_header._header;
      is_header = c.in_ok-_header.ensures;
      raw = found.0;
      whole_record = found.1;
      is_type = sym (ap (λ e. e.record_type) found.2) ∙ c.if-record-record_type.false;
      body_is = c.record_body.ensures ∙ body_is_after_header endian c.args.bytes.now c.args.offset c.in-Some.record found;
    }

pub returns-clause-in_bounds : goal.returns-clause-in_bounds
returns-clause-in_bounds c =
    let endian = c.in_ok-_header.endian in
    let found = subst (λ o. FindsRecord endian c.args.bytes.now c.args.offset (Ok o)) c.in-Some.is c.in_ok-record.ensures in
    subst (λ l. c.args.offset + 16 + length l ≤ length c.args.bytes.now) (sym c.record_body.ensures) (body_in_bounds endian c.args.bytes.now c.args.offset c.in-Some.record found)
