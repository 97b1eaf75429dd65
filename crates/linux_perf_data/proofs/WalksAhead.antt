-- Walks that are ahead of their iterators.
use Rattle.std.proofs.Common.{◌≡◌, ◌≢◌, ℕ, ◌+◌, ◌-◌, ◌^◌, ◌<◌, ◌≤◌, ◌==◌, List, [], length, take, drop, refl, sym, ap, ◌∙◌, subst, arith, rules, Some, IfSome}
use Rattle.std.specs.Prelude.{if◌then◌else◌}
use Rattle.std.specs.List.{slice_range}
use Rattle.std.proofs.Props.{props}
use Rattle.std.proofs.lemmas.List.{drop_all, drop-drop, length-drop, length-take}
use Rattle.std.specs.Borrow.{Bor}
use Rattle.std.specs.declared.io.impls.Cursor.{Cursor}
use Rattle.std.specs.Io.Cursor.{cursor_inner, cursor_position}
use Rattle.perfdata_sources.specs.Endian.{number_in}
use Rattle.perfdata_sources.specs.RecordHeader.{record_header_of}
use Rattle.perfdata_sources.specs.Source.{Consumed, memory_source_at}
use Rattle.perfdata_sections.specs.RecordTypes.{finished_round}
use Rattle.linux_perf_data.specs.declared.attributes.lookup.AttributeLookup.{AttributeLookup}
use Rattle.linux_perf_data.specs.declared.in_memory.InMemoryRecords.{InMemoryRecords}
use Rattle.linux_perf_data.specs.declared.in_memory.file_walk.FileWalk.{FileWalk}
use Rattle.linux_perf_data.specs.declared.in_memory.file_walk.WholeRecord.{WholeRecord}
use Rattle.linux_perf_data.specs.declared.perf_file.PerfFile.{PerfFile}
use Rattle.linux_perf_data.specs.declared.records.input.RecordInput.TheVariants.{Section}
use Rattle.linux_perf_data.specs.declared.records.iter.IdentifiedRecord.{IdentifiedRecord}
use Rattle.linux_perf_data.specs.steps.AttributeLookup.{HasOnly, KeepsAttributes}
use Rattle.linux_perf_data.specs.steps.BufferedRecord.{WholeRecordLength}
use Rattle.linux_perf_data.specs.steps.FileWalk.{IsNextRecord, IsWalkAhead, IsWalkOf, MovesPast, iter_at, position_of_walk, records_at_walk, remaining_in, with_lookup}
use Rattle.linux_perf_data.specs.InMemory.{IsInPlace, MemoryIter, memory_state}
use Rattle.linux_perf_data.specs.steps.InMemory.{RecordTaken}
use Rattle.linux_perf_data.specs.RecordInput.{HasNoPendingHeader}
use Rattle.linux_perf_data.specs.steps.RecordViews.{IdentifiesRecord}
use Rattle.linux_perf_data.proofs.FileRecordsTaken.{file_record_consumed, moved_in_place}
use Rattle.linux_perf_data.proofs.WholeRecordsTaken.{first_consumed}

-- ---- equal iterators and records

-- an iterator that is moved to where it is
pub iter_at_same : (it : MemoryIter) (position offset : ℕ) (rounds_fit : it.round ≤ offset) → position ≡ cursor_position it.source → offset ≡ it.offset → iter_at it position offset rounds_fit ≡ it
iter_at_same it position offset rounds_fit at same =
    let one : IsProp (it.round ≤ it.offset) = hlevel props in
    subst (λ p. iter_at it p offset rounds_fit ≡ it) (sym at)
    (subst (λ o. (fits : it.round ≤ o) → iter_at it (cursor_position it.source) o fits ≡ it) (sym same)
    (λ fits. λ i. record it { rounds_fit = one fits it.rounds_fit i }) rounds_fit)

-- an iterator whose lookup alone was changed
pub same_but_lookup : (it : MemoryIter) (lookup : AttributeLookup) (fits : it.round ≤ it.offset) → record it { attribute_lookup = lookup; rounds_fit = fits } ≡ with_lookup it lookup
same_but_lookup it lookup fits =
    let one : IsProp (it.round ≤ it.offset) = hlevel props in
    λ i. record it { attribute_lookup = lookup; rounds_fit = one fits it.rounds_fit i }

-- an iterator whose cursor has this position
pub moved_iter : (it : MemoryIter) (source : Cursor (Bor (List ℕ))) (position offset : ℕ) (fits fits' : it.round ≤ offset) → cursor_inner source ≡ cursor_inner it.source → cursor_position source ≡ position
    → record it { source = source; offset = offset; rounds_fit = fits' } ≡ iter_at it position offset fits
moved_iter it source position offset fits fits' inner at =
    let one : IsProp (it.round ≤ offset) = hlevel props in
    λ i. record it { source = record { inner = inner i; pos = at i }; offset = offset; rounds_fit = one fits' fits i }

-- records with equal iterators
pub same_records : (P : InMemoryRecords → Type 0) (records : InMemoryRecords) (a b : MemoryIter) → a ≡ b → (in_a : IsInPlace a records.input.now records.first_record_offset) (in_b : IsInPlace b records.input.now records.first_record_offset)
    → P (record records { records = a; in_place = in_a }) → P (record records { records = b; in_place = in_b })
same_records P records a b same in_a in_b holds =
    let one : IsProp (IsInPlace a records.input.now records.first_record_offset) = hlevel props in
    subst (λ it. (placed : IsInPlace it records.input.now records.first_record_offset) → P (record records { records = it; in_place = placed })) same
    (λ placed. subst (λ p. P (record records { records = a; in_place = p })) (one in_a placed) holds) in_b

-- any two proofs that the walk is ahead
pub same_at_walk : (P : InMemoryRecords → Type 0) (records : InMemoryRecords) (walk : FileWalk) (a b : IsWalkAhead records walk) → P (records_at_walk records walk a) → P (records_at_walk records walk b)
same_at_walk P records walk a b holds =
    let it = records.records in
    let one : IsProp (it.round ≤ walk.offset) = hlevel props in
    same_records P records (iter_at it (position_of_walk it walk) walk.offset a.rounds_fit) (iter_at it (position_of_walk it walk) walk.offset b.rounds_fit) (λ i. iter_at it (position_of_walk it walk) walk.offset (one a.rounds_fit b.rounds_fit i)) a.in_place b.in_place holds

-- ---- the start

pub walk_starts : (records : InMemoryRecords) (walk : FileWalk) → IsWalkOf records.records walk → IsWalkAhead records walk
walk_starts records walk is =
    let it = records.records in
    let rounds = it.rounds_fit in
    let offset = is.offset in
    let rounds_fit : it.round ≤ walk.offset = omega (arith, rounds, offset) in
    let long = ap length is.remaining in
    let at : position_of_walk it walk ≡ cursor_position it.source = omega (arith, long) in
    let same : it ≡ iter_at it (position_of_walk it walk) walk.offset rounds_fit = sym (iter_at_same it (position_of_walk it walk) walk.offset rounds_fit at offset) in
    record {
      rounds_fit = rounds_fit;
      in_place = subst (λ i. IsInPlace i records.input.now records.first_record_offset) same records.in_place;
      within = omega (arith, long);
      is_walk = subst (λ i. IsWalkOf i walk) same is;
    }

-- what is so of the records is so of the records at the start of the walk
pub at_start : (P : InMemoryRecords → Type 0) (records : InMemoryRecords) (walk : FileWalk) (is : IsWalkOf records.records walk) → P records → P (records_at_walk records walk (walk_starts records walk is))
at_start P records walk is holds =
    let it = records.records in
    let ahead = walk_starts records walk is in
    let long = ap length is.remaining in
    let at : position_of_walk it walk ≡ cursor_position it.source = omega (arith, long) in
    same_records P records it (iter_at it (position_of_walk it walk) walk.offset ahead.rounds_fit) (sym (iter_at_same it (position_of_walk it walk) walk.offset ahead.rounds_fit at is.offset)) records.in_place ahead.in_place holds

-- ---- one record more

-- the records with another state of the lookup
abbrev pub records_with_lookup : InMemoryRecords → AttributeLookup → InMemoryRecords
records_with_lookup records lookup = record records { records = with_lookup records.records lookup; in_place = records.in_place }

-- the position after the record
pub position_after : (it : MemoryIter) (walk walk' : FileWalk) (next : WholeRecord) → length walk.remaining.now ≤ length (remaining_in it) → next.length ≤ length walk.remaining.now → walk'.remaining.now ≡ drop next.length walk.remaining.now → position_of_walk it walk' ≡ position_of_walk it walk + next.length
position_after it walk walk' next within whole rest =
    let long = ap length rest in
    omega (arith, within, whole, long, length-drop next.length walk.remaining.now)

-- the bytes of the record are consumed
pub record_bytes_consumed : (it : MemoryIter) (walk walk' : FileWalk) (next : WholeRecord) (lookup : AttributeLookup) (fits : it.round ≤ walk.offset) (fits' : it.round ≤ walk'.offset) → walk.remaining.now ≡ drop (position_of_walk it walk) (cursor_inner it.source).now
    → position_of_walk it walk' ≡ position_of_walk it walk + next.length → next.length ≤ length walk.remaining.now
    → Consumed (memory_state (iter_at it (position_of_walk it walk) walk.offset fits).source) (take next.length walk.remaining.now) (memory_state (iter_at (with_lookup it lookup) (position_of_walk it walk') walk'.offset fits').source)
record_bytes_consumed it walk walk' next lookup fits fits' rest after whole =
    let all = (cursor_inner it.source).now in
    let n = next.length in
    let bytes = walk.remaining.now in
    subst (λ p. Consumed (memory_source_at all (position_of_walk it walk)) (take n bytes) (memory_source_at all p)) (sym after) (first_consumed all bytes (position_of_walk it walk) n rest whole)

-- the walk is ahead by one record more
pub walk_moves : (records : InMemoryRecords) (walk walk' : FileWalk) (next : WholeRecord) (lookup : AttributeLookup) → IsWalkAhead records walk → IsNextRecord walk next → MovesPast walk next walk' → IfSome walk.only_parse_info (HasOnly lookup) → IsWalkAhead (records_with_lookup records lookup) walk'
walk_moves records walk walk' next lookup ahead is_next moves only =
    let it = records.records in
    let new = with_lookup it lookup in
    let is = ahead.is_walk in
    let n = next.length in
    let bytes = walk.remaining.now in
    let all = (cursor_inner it.source).now in
    let whole = is_next.whole.1 in
    let end = is_next.end_is in
    let offset = moves.offset_is in
    let rest = moves.remaining_is in
    let fits = ahead.rounds_fit in
    let rounds_fit : it.round ≤ walk'.offset = omega (arith, fits, end, offset) in
    let after = position_after it walk walk' next ahead.within whole rest in
    let long = ap length rest in
    let shorter = length-drop n bytes in
    let within = ahead.within in
    let consumes = record_bytes_consumed it walk walk' next lookup ahead.rounds_fit rounds_fit is.remaining after whole in
    let small = is.remaining_fits in
    let end_fits = is.end_fits in
    let nonempty : walk'.remaining.now ≢ [] → walk.remaining.now ≢ [] = λ some none. some (rest ∙ ap (drop n) none ∙ drop_all n [] (omega arith)) in
    record {
      rounds_fit = rounds_fit;
      in_place = moved_in_place (iter_at it (position_of_walk it walk) walk.offset ahead.rounds_fit) (iter_at new (position_of_walk it walk') walk'.offset rounds_fit) walk.section_size bytes n is.section refl is.running consumes whole (omega (arith, end, offset))
          records.input.now records.first_record_offset ahead.in_place;
      within = omega (arith, within, long, shorter);
      is_walk = record {
        running = is.running;
        section = subst (λ s. it.input ≡ Section s) (sym moves.same_section_size) is.section;
        same_endian = moves.same_endian ∙ is.same_endian;
        round = moves.same_round ∙ is.round;
        offset = refl;
        remaining = rest ∙ ap (drop n) is.remaining ∙ drop-drop n (position_of_walk it walk) all ∙ ap (λ p. drop p all) (sym after);
        remaining_fits = omega (arith, small, long, shorter);
        end_fits = λ some. (let before = end_fits (nonempty some) in omega (arith, before, after, long, shorter, whole));
        only_parse_info = subst (λ o. IfSome o (HasOnly lookup)) (sym moves.same_parse_info) only;
        only_order = subst (λ o. IfSome o (λ p. p.endian ≡ walk'.endian)) (sym moves.same_parse_info) (subst (λ e. IfSome walk.only_parse_info (λ p. p.endian ≡ e)) (sym moves.same_endian) is.only_order);
      };
    }

-- a streaming iterator at the position of the walk takes the same record
pub record_taken_by_walk : (old new : MemoryIter) (walk : FileWalk) (next : WholeRecord) (found : IdentifiedRecord) (file : PerfFile) → IsWalkOf old walk → IsNextRecord walk next
    → Consumed (memory_state old.source) (take next.length walk.remaining.now) (memory_state new.source) → new.input ≡ old.input → new.endian ≡ old.endian → new.stage ≡ old.stage → new.offset ≡ next.end → next.end < 2 ^ 64 → new.round ≡ old.round
    → IdentifiesRecord old.attribute_lookup walk.offset walk.round next.header (slice_range walk.remaining.now 8 next.length) found new.attribute_lookup → KeepsAttributes old.attribute_lookup new.attribute_lookup
    → RecordTaken old file found (slice_range walk.remaining.now 8 next.length) new file
record_taken_by_walk old new walk next found file is is_next consumes input endian stage new_offset fits same_round identifies keeps =
    let n = next.length in
    let bytes = walk.remaining.now in
    let header = next.header in
    let end = is_next.end_is in
    let offset = is.offset in
    let other = is_next.not_marker in
    let small_rest = is.remaining_fits in
    let may = is_next.may_start in
    let section = is.section in
    let whole : WholeRecordLength old.endian bytes (Some n) = subst (λ e. WholeRecordLength e bytes (Some n)) is.same_endian is_next.whole in
    let header_is : header ≡ record_header_of (number_in old.endian) bytes = subst (λ e. header ≡ record_header_of (number_in e) bytes) is.same_endian is_next.header_is in
    let none : HasNoPendingHeader old.input = search rules in
    let more : old.offset < walk.section_size = omega (arith, may, offset) in
    let ends : new.offset ≡ old.offset + n = omega (arith, new_offset, end, offset) in
    let round : old.round ≡ (if header.type_ == finished_round then old.round + 1 else old.round) = search rules in
    let small : length (slice_range bytes 8 n) < 2 ^ 63 = omega (arith, small_rest, length-take (n - 8) (drop 8 bytes), length-drop 8 bytes) in
    let same_place : IdentifiesRecord old.attribute_lookup old.offset old.round header (slice_range bytes 8 n) found new.attribute_lookup = subst (λ o. IdentifiesRecord old.attribute_lookup o old.round header (slice_range bytes 8 n) found new.attribute_lookup) offset
    (subst (λ r. IdentifiesRecord old.attribute_lookup walk.offset r header (slice_range bytes 8 n) found new.attribute_lookup) is.round identifies) in
    file_record_consumed old new walk.section_size file header found bytes n is.running section more (omega (arith, fits, end, offset)) small whole header_is other none consumes input endian stage ends (omega (arith, new_offset, fits)) same_round round same_place keeps

-- the records at the position of the walk take the same record
pub record_of_walk : (records : InMemoryRecords) (walk walk' : FileWalk) (next : WholeRecord) (found : IdentifiedRecord) (lookup : AttributeLookup) (file : PerfFile) (ahead : IsWalkAhead records walk) (ahead' : IsWalkAhead (records_with_lookup records lookup) walk') → IsNextRecord walk next → MovesPast walk next walk' → walk'.offset < 2 ^ 64
    → IdentifiesRecord records.records.attribute_lookup walk.offset walk.round next.header (slice_range walk.remaining.now 8 next.length) found lookup → KeepsAttributes records.records.attribute_lookup lookup
    → RecordTaken (records_at_walk records walk ahead).records file found (slice_range walk.remaining.now 8 next.length) (records_at_walk (records_with_lookup records lookup) walk' ahead').records file
record_of_walk records walk walk' next found lookup file ahead ahead' is_next moves fits identifies keeps =
    let it = records.records in
    let is = ahead.is_walk in
    let offset = moves.offset_is in
    let whole = is_next.whole.1 in
    let after = position_after it walk walk' next ahead.within whole moves.remaining_is in
    let consumes = record_bytes_consumed it walk walk' next lookup ahead.rounds_fit ahead'.rounds_fit is.remaining after whole in
    record_taken_by_walk (records_at_walk records walk ahead).records (records_at_walk (records_with_lookup records lookup) walk' ahead').records walk next found file is is_next consumes refl refl refl offset (omega (arith, fits, offset)) refl identifies keeps
