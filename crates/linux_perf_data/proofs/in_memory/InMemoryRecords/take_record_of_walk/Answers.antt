use Rattle.std.proofs.Common.{rules, arith, ◌≡◌, refl, sym, ap, subst, length, take, drop, ◌+◌, ◌≤◌}
use Rattle.perfdata_sources.specs.Raw.{bytes_of, IsSingle}
use Rattle.linux_perf_data.specs.steps.FileWalk.{IsWalkAhead, records_at_walk, with_lookup}
use Rattle.linux_perf_data.specs.RecordViews.{record_view_of, record_view_with}
use Rattle.linux_perf_data.specs.steps.RecordViews.{IdentifiesRecord}
use Rattle.linux_perf_data.specs.Iter.{ReturnsRecord}
use Rattle.linux_perf_data.specs.steps.WalkEntries.{TakesRecordOfWalk}
use Rattle.linux_perf_data.specs.InMemory.{IsInPlace, memory_state, with_buffer}
use Rattle.linux_perf_data.specs.steps.InMemory.{RecordTaken}
use Rattle.linux_perf_data.proofs.FileRecordsTaken.{taken_with_body}
use Rattle.linux_perf_data.proofs.InMemoryPlaces.{body_in_place, body_ends_in_place}
use Rattle.linux_perf_data.proofs.WalksAhead.{record_of_walk, records_with_lookup, same_records, walk_moves}
use Rattle.linux_perf_data.proofs.in_memory.InMemoryRecords.take_record_of_walk.Goals as goal

pub invariant_of-self : goal.invariant_of-self
invariant_of-self c = record { in_place = subst (λ i. IsInPlace i c.args.self.now.input.now c.args.self.now.first_record_offset) (sym c.take_ahead.ensures.same_but_lookup) c.args.self.now.in_place }

pub returns-clause-taken : goal.returns-clause-taken
returns-clause-taken c =
    let place = c.take_ahead.result.0.place in
    let record_found = c.into_record-record.result in
    same_records (λ r. TakesRecordOfWalk c.args.self.now c.args.walk.now place record_found r c.take_ahead.new.self) c.args.self.now (with_lookup c.args.self.now.records c.take_ahead.new.records.attribute_lookup) c.take_ahead.new.records (sym c.take_ahead.ensures.same_but_lookup) c.args.self.now.in_place _ (λ ahead.
    let records = c.args.self.now in
    let walk = c.args.walk.now in
    let moves = c.take_ahead.ensures.walk in
    let lookup = c.take_ahead.new.records.attribute_lookup in
    let found = c.take_ahead.result.0 in
    let ahead' : IsWalkAhead (records_with_lookup records lookup) c.take_ahead.new.self = walk_moves records walk c.take_ahead.new.self c.args.next lookup ahead c.requires.next moves c.take_ahead.ensures.keeps_only in
    let old = (records_at_walk records walk ahead).records in
    let new = (records_at_walk (records_with_lookup records lookup) c.take_ahead.new.self ahead').records in
    let input = records.input.now in
    let first = records.first_record_offset in
    let body = c.take_ahead.result.1.now in
    let identifies = subst (λ b. IdentifiesRecord records.records.attribute_lookup walk.offset walk.round c.args.next.header b found lookup) c.take_ahead.ensures.body c.take_ahead.ensures.identifies in
    let view : record_view_of found.place c.into_record-record.result ≡ record_view_with new.attribute_lookup found new.endian body = search rules in
    let is = ap bytes_of c.into_record-record.ensures.same_body in
    record {
      ahead' = ahead';
      returned = λ file.
          let t : RecordTaken old file found body new file = taken_with_body old new file found _ body c.take_ahead.ensures.body (record_of_walk records walk c.take_ahead.new.self c.args.next found lookup file ahead ahead' c.requires.next moves (omega arith) identifies c.take_ahead.ensures.keeps_attributes) in
          record {
            buffer = t.buffer;
            returns = subst (λ h. ReturnsRecord memory_state old file h (with_buffer new t.buffer) file) (sym view) t.returns;
            in_input = record {
              ends_in_input = subst (λ b. first + found.place.offset + 8 + length b ≤ length input) (sym is) (body_ends_in_place old (with_buffer new t.buffer) file file _ input first ahead.in_place t.returns);
              single = subst IsSingle (sym c.into_record-record.ensures.same_body) tt;
              bytes = subst (λ b. b ≡ take (length b) (drop (first + found.place.offset + 8) input)) (sym is) (body_in_place old (with_buffer new t.buffer) file file _ input first ahead.in_place t.returns);
            };
          };
      same_input = record { input = refl; first_record_offset = refl };
    })
