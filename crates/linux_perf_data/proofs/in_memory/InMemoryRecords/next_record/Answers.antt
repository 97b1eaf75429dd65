use Rattle.std.proofs.Common.{rules, ◌≡◌, sym, ap, subst, length, take, drop, ◌+◌, ◌≤◌}
use Rattle.perfdata_sources.specs.Raw.{bytes_of, IsSingle}
use Rattle.linux_perf_data.specs.RecordViews.{record_view_of, record_view_with}
use Rattle.linux_perf_data.specs.Iter.{ReturnsRecord}
use Rattle.linux_perf_data.specs.InMemory.{memory_state, with_buffer}
use Rattle.linux_perf_data.proofs.InMemoryPlaces.{consumed_in_place, body_in_place, body_ends_in_place}
use Rattle.linux_perf_data.proofs.in_memory.InMemoryRecords.next_record.Goals as goal

pub invariant_of-self : goal.invariant_of-self
invariant_of-self c = record { in_place = consumed_in_place c.args.self.now.records c.take_record.new.records c.args.perf_file.now c.take_record.new.perf_file c.take_record.result c.args.self.now.input.now c.args.self.now.first_record_offset c.args.self.now.in_place c.take_record.ensures }

pub returns-in-Some-clause-returns_next : goal.returns-in-Some-clause-returns_next
returns-in-Some-clause-returns_next c =
    let t = rw c.in-Some.is at c.in_ok-identified.ensures in
    let old = c.args.self.now.records in
    let new = c.take_record.new.records in
    let found = c.in-Some.identified in
    let input = c.args.self.now.input.now in
    let first = c.args.self.now.first_record_offset in
    let view : record_view_of found.place c.into_record.result ≡ record_view_with new.attribute_lookup found new.endian c.in-Some.body.now = search rules in
    let is = ap bytes_of c.into_record.ensures.same_body in
    record {
      buffer = t.buffer;
      returns = subst (λ h. ReturnsRecord memory_state old c.args.perf_file.now h (with_buffer new t.buffer) c.take_record.new.perf_file) (sym view) t.returns;
      in_input = record {
        ends_in_input = subst (λ b. first + found.place.offset + 8 + length b ≤ length input) (sym is) (body_ends_in_place old (with_buffer new t.buffer) c.args.perf_file.now c.take_record.new.perf_file _ input first c.args.self.now.in_place t.returns);
        single = subst IsSingle (sym c.into_record.ensures.same_body) tt;
        bytes = subst (λ b. b ≡ take (length b) (drop (first + found.place.offset + 8) input)) (sym is) (body_in_place old (with_buffer new t.buffer) c.args.perf_file.now c.take_record.new.perf_file _ input first c.args.self.now.in_place t.returns);
      };
    }
