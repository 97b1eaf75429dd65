-- Lemmas on the frames of a chunk.
use Rattle.std.proofs.Common.{◌≡◌, ◌==◌, ℕ, ◌+◌, ◌-◌, Bool, true, false, if◌then◌else◌, Option, None, Some, Ok, map, ◌^◌, ◌<◌, ◌≤◌, ◌++◌, List, [], ◌∷◌, length, take, drop, refl, sym, ap, ◌∙◌, subst, arith, append_assoc, length-append}
use Rattle.std.specs.List.{concat}
use Rattle.std.proofs.lemmas.List.{append-nil, drop-append-le, drop-drop, take-append-drop, length-take-le, map-append}
use Rattle.std.proofs.lemmas.List.Folds.{concat-append}
use Rattle.perfdata_sources.specs.declared.endian.Endianness.{Endianness}
use Rattle.perfdata_sources.specs.Endian.{number_in}
use Rattle.perfdata_sources.specs.RecordHeader.{record_header_of}
use Rattle.perfdata_sections.specs.RecordTypes.{finished_round}
use Rattle.perfdata_arrays.specs.Entries.{list_of}
use Rattle.linux_perf_data.specs.RecordEntries.{one_if_some, with_prefix}
use Rattle.linux_perf_data.specs.declared.in_memory.entries.RecordEntry.{RecordEntry}
use Rattle.linux_perf_data.specs.declared.in_memory.position.RecordPosition.{RecordPosition}
use Rattle.linux_perf_data.specs.Layout.{IsRecord, misc_of, record_type_of}
use Rattle.linux_perf_data.proofs.RecordHeaders.{misc_prefix, record_type_prefix, same_prefix}
use Rattle.perfdata_chunks.specs.Chunks.{AreFrames, ChunksJoin, EntryPlace, FollowOneAnother, FramesAreUnique, IsFrame, ReadsNext, WritesEntries, counted, place_at, place_of, places_for, places_from, record_count, round_count, rounds}
use Rattle.perfdata_chunks.specs.declared.records.NextFrame.{NextFrame}
use Rattle.perfdata_chunks.specs.declared.framing.Frame.{Frame}

-- ---- one frame more

concat-snoc : (frames : List (List ℕ)) (p : List ℕ) → concat (frames ++ p ∷ []) ≡ concat frames ++ p
concat-snoc frames p = concat-append frames (p ∷ []) ∙ ap (λ l. concat frames ++ l) (append-nil p)

count-snoc : (order : Endianness) (frames : List (List ℕ)) (p : List ℕ) → record_count order (frames ++ p ∷ []) ≡ record_count order frames + counted (record_type_of order p)
count-snoc order [] p = (let n = counted (record_type_of order p) in let e : n + 0 ≡ 0 + n = omega arith in e)
count-snoc order (q ∷ qs) p =
    let more = count-snoc order qs p in
    let n = counted (record_type_of order q) in
    let a = record_count order (qs ++ p ∷ []) in
    let b = record_count order qs in
    let m = counted (record_type_of order p) in
    let e : n + a ≡ n + b + m = omega (arith, more) in e

follow-snoc : (order : Endianness) (offset : ℕ) (frames : List (List ℕ)) (p : List ℕ) → FollowOneAnother order offset frames → IsRecord order p → offset + length (concat frames) + length p < 2 ^ 64
    → FollowOneAnother order offset (frames ++ p ∷ [])
follow-snoc order offset [] p are is fits = (is, omega (arith, fits), tt)
follow-snoc order offset (q ∷ qs) p are is fits = (are.0, are.1, follow-snoc order (offset + length q) qs p are.2 is (omega (arith, fits, length-append q (concat qs))))

-- the type in the header of a frame is that of its record
pub frame_type : (order : Endianness) (offset : ℕ) (bytes : List ℕ) (frame : Frame) → IsFrame order offset bytes frame → frame.header.type_ ≡ record_type_of order (take frame.size bytes)
frame_type order offset bytes frame is =
    let p = take frame.size bytes in
    let r = drop frame.size bytes in
    let least = is.has_header in
    let within = is.within in
    let long : length p ≡ frame.size = length-take-le frame.size bytes within in
    ap (λ h. h.type_) is.header ∙ ap (record_type_of order) (sym (take-append-drop frame.size bytes)) ∙ record_type_prefix order p r (omega (arith, long, least))

-- the frames of a chunk, and the one at the start of the rest
pub next_frames : (order : Endianness) (offset : ℕ) (chunk : List ℕ) (frames : List (List ℕ)) (count start at : ℕ) (frame : Frame) → AreFrames order offset chunk frames count start → at ≡ offset + start
    → IsFrame order at (drop start chunk) frame → AreFrames order offset chunk (frames ++ take frame.size (drop start chunk) ∷ []) (count + counted frame.header.type_) (start + frame.size)
next_frames order offset chunk frames count start at frame are is_at is =
    let rest : List ℕ = drop start chunk in
    let n : ℕ = frame.size in
    let p : List ℕ = take n rest in
    let r : List ℕ = drop n rest in
    let all = concat-snoc frames p in
    let cut : rest ≡ p ++ r = sym (take-append-drop n rest) in
    let within = is.within in
    let end = is.end in
    let end_fits = is.end_fits in
    let consumed = are.consumed_is in
    let long : length p ≡ n = length-take-le n rest within in
    let rest_is : drop (start + n) chunk ≡ r = sym (drop-drop n start chunk) in
    record {
      split = are.split ∙ ap (λ l. concat frames ++ l) cut ∙ sym (append_assoc (concat frames) p r) ∙ ap (λ l. l ++ r) (sym all) ∙ ap (λ l. concat (frames ++ p ∷ []) ++ l) (sym rest_is);
      consumed_is = omega (arith, consumed, ap length all, length-append (concat frames) p, long);
      elements = follow-snoc order offset frames p are.elements is.is_record (omega (arith, consumed, long, end, end_fits, is_at));
      count_is = ap (λ m. m + counted frame.header.type_) are.count_is ∙ ap (λ k. record_count order frames + counted k) (frame_type order at rest frame is) ∙ sym (count-snoc order frames p);
    }

-- ---- the entries of one frame more

rounds-snoc : (order : Endianness) (frames : List (List ℕ)) (p : List ℕ) → round_count order (frames ++ p ∷ []) ≡ round_count order frames + rounds (record_type_of order p)
rounds-snoc order [] p = (let n = rounds (record_type_of order p) in let e : n + 0 ≡ 0 + n = omega arith in e)
rounds-snoc order (q ∷ qs) p =
    let more = rounds-snoc order qs p in
    let n = rounds (record_type_of order q) in
    let a = round_count order (qs ++ p ∷ []) in
    let b = round_count order qs in
    let m = rounds (record_type_of order p) in
    let e : n + a ≡ n + b + m = omega (arith, more) in e

one_or_zero : (b : Bool) → (if b then 1 else 0) ≤ 1
one_or_zero true = omega arith
one_or_zero false = omega arith

-- the number of round markers after one frame more
pub next_round : (order : Endianness) (offset : ℕ) (bytes : List ℕ) (frame : Frame) (frames : List (List ℕ)) (first round after : ℕ) → IsFrame order offset bytes frame → round ≡ first + round_count order frames
    → after ≡ round + rounds frame.header.type_ → after ≡ first + round_count order (frames ++ take frame.size bytes ∷ [])
next_round order offset bytes frame frames first round after is was now =
    let p = take frame.size bytes in
    let same : rounds frame.header.type_ ≡ rounds (record_type_of order p) = ap rounds (frame_type order offset bytes frame is) in
    let more = rounds-snoc order frames p in
    let n = rounds frame.header.type_ in
    let m = rounds (record_type_of order p) in
    let a = round_count order (frames ++ p ∷ []) in
    let b = round_count order frames in
    let e : after ≡ first + a = omega (arith, was, now, same, more) in e

-- there are at most as many of them as bytes
pub next_round_fits : (order : Endianness) (bytes : List ℕ) (frame : Frame) (offset round after end : ℕ) → IsFrame order offset bytes frame → round ≤ offset → after ≡ round + rounds frame.header.type_ → end ≡ frame.end → after ≤ end
next_round_fits order bytes frame offset round after end is fits now at =
    let most = one_or_zero (frame.header.type_ == finished_round) in
    let least = is.has_header in
    let ends = is.end in
    let n = rounds frame.header.type_ in
    let few : n ≤ 1 = most in
    omega (arith, few, least, ends, fits, now, at)

abbrev place_in : Endianness → List ℕ → ℕ → ℕ → ℕ → List EntryPlace
place_in order p offset round start = places_for (record_type_of order p) (place_at (record { offset = offset; round = round }) start (record_header_of (number_in order) p) (length p))

places-snoc : (order : Endianness) (from : RecordPosition) (start : ℕ) (frames : List (List ℕ)) (p : List ℕ) → places_from order from start (frames ++ p ∷ [])
    ≡ places_from order from start frames ++ place_in order p (from.offset + length (concat frames)) (from.round + round_count order frames) (start + length (concat frames))
places-snoc order from start [] p =
    let o : from.offset ≡ from.offset + 0 = omega arith in
    let r : from.round ≡ from.round + 0 = omega arith in
    let s : start ≡ start + 0 = omega arith in
    append-nil (place_in order p from.offset from.round start) ∙ (λ i. place_in order p (o i) (r i) (s i))
places-snoc order from start (q ∷ qs) p =
    let n : ℕ = rounds (record_type_of order q) in
    let next : RecordPosition = record { offset = from.offset + length q; round = from.round + n } in
    let own = places_for (record_type_of order q) (place_at from start (record_header_of (number_in order) q) (length q)) in
    let more = places_from order next (start + length q) qs in
    let long = length-append q (concat qs) in
    let m : ℕ = round_count order qs in
    let o : from.offset + length q + length (concat qs) ≡ from.offset + length (q ++ concat qs) = omega (arith, long) in
    let r : from.round + n + m ≡ from.round + (n + m) = omega arith in
    let s : start + length q + length (concat qs) ≡ start + length (q ++ concat qs) = omega (arith, long) in
    ap (λ l. own ++ l) (places-snoc order next (start + length q) qs p) ∙ sym (append_assoc own more (place_in order p (from.offset + length q + length (concat qs)) (from.round + n + m) (start + length q + length (concat qs))))
    ∙ (λ i. (own ++ more) ++ place_in order p (o i) (r i) (s i))

-- what the entries of the frames and of the one at the start of the rest say
next_places : (order : Endianness) (from position : RecordPosition) (chunk : List ℕ) (frames : List (List ℕ)) (count start : ℕ) (frame : Frame) → AreFrames order from.offset chunk frames count start → position.offset ≡ from.offset + start
    → position.round ≡ from.round + round_count order frames → IsFrame order position.offset (drop start chunk) frame
    → places_from order from 0 frames ++ places_for frame.header.type_ (place_at position start frame.header frame.size) ≡ places_from order from 0 (frames ++ take frame.size (drop start chunk) ∷ [])
next_places order from position chunk frames count start frame are at round is =
    let rest : List ℕ = drop start chunk in
    let p : List ℕ = take frame.size rest in
    let r : List ℕ = drop frame.size rest in
    let within = is.within in
    let least = is.has_header in
    let consumed = are.consumed_is in
    let long : length p ≡ frame.size = length-take-le frame.size rest within in
    let kind : frame.header.type_ ≡ record_type_of order p = frame_type order position.offset rest frame is in
    let misc : frame.header.misc ≡ misc_of order p = ap (λ h. h.misc) is.header ∙ ap (misc_of order) (sym (take-append-drop frame.size rest)) ∙ misc_prefix order p r (omega (arith, long, least)) in
    let o : position.offset ≡ from.offset + length (concat frames) = omega (arith, at, consumed) in
    let s : start ≡ 0 + length (concat frames) = omega (arith, consumed) in
    let same : places_for frame.header.type_ (place_at position start frame.header frame.size) ≡ place_in order p (from.offset + length (concat frames)) (from.round + round_count order frames) (0 + length (concat frames)) =
    λ i. places_for (kind i) (record { offset = o i; body_offset = s i + 8; body_size = (sym long) i - 8; round = round i; record_type = kind i; misc = misc i }) in
    ap (λ l. places_from order from 0 frames ++ l) same ∙ sym (places-snoc order from 0 frames p)

length-list_of : (e : Option RecordEntry) → length (list_of e) ≡ one_if_some e
length-list_of None = refl
length-list_of (Some e) = refl

-- the entries of the frames and that of the one at the start of the rest, if it is a record's, are written
pub next_writes : (order : Endianness) (from position : RecordPosition) (chunk : List ℕ) (frames : List (List ℕ)) (count start after : ℕ) (next : NextFrame) (old new now : List RecordEntry) → AreFrames order from.offset chunk frames count start
    → position.offset ≡ from.offset + start → position.round ≡ from.round + round_count order frames → ReadsNext order position start (drop start chunk) (Ok (Some next)) → WritesEntries order from frames old count new
    → after ≡ count + one_if_some next.entry
    → ((es before : List RecordEntry) → count ≡ length es → new ≡ with_prefix es before → now ≡ with_prefix (es ++ list_of next.entry) before)
    → WritesEntries order from (frames ++ take next.frame.size (drop start chunk) ∷ []) old after now
next_writes order from position chunk frames count start after next old new now are at round found writes counts written =
    let es = writes.0 in
    let one = list_of next.entry in
    let was = writes.1 in (
      es ++ one,
      omega (arith, counts, was, length-append es one, length-list_of next.entry),
      written es old was writes.2,
      map-append place_of es one ∙ ap (λ l. l ++ map place_of one) writes.3 ∙ ap (λ l. places_from order from 0 frames ++ l) found.2 ∙ next_places order from position chunk frames count start next.frame are at round found.0,
    )

-- ---- laws

count-append : (order : Endianness) (frames later : List (List ℕ)) → record_count order (frames ++ later) ≡ record_count order frames + record_count order later
count-append order [] later = (let n = record_count order later in let e : n ≡ 0 + n = omega arith in e)
count-append order (q ∷ qs) later =
    let more = count-append order qs later in
    let n = counted (record_type_of order q) in
    let a = record_count order (qs ++ later) in
    let b = record_count order qs in
    let m = record_count order later in
    let e : n + a ≡ n + b + m = omega (arith, more) in e

follow-append : (order : Endianness) (offset : ℕ) (frames later : List (List ℕ)) → FollowOneAnother order offset frames → FollowOneAnother order (offset + length (concat frames)) later
    → FollowOneAnother order offset (frames ++ later)
follow-append order offset [] later are more = subst (λ n. FollowOneAnother order n later) (let e : offset + 0 ≡ offset = omega arith in e) more
follow-append order offset (q ∷ qs) later are more =
    let sum : offset + length (q ++ concat qs) ≡ offset + length q + length (concat qs) = omega (arith, length-append q (concat qs)) in
    (are.0, are.1, follow-append order (offset + length q) qs later are.2 (subst (λ n. FollowOneAnother order n later) sum more))

pub chunks_join : ChunksJoin
chunks_join order offset bytes more frames later count consumed later_count later_consumed are next =
    let rest : List ℕ = drop consumed bytes in
    let consumed_is = are.consumed_is in
    let later_is = next.consumed_is in
    let counts = count-append order frames later in
    let count_is = are.count_is in
    let later_count_is = next.count_is in
    let all = concat-append frames later in
    let within : consumed ≤ length bytes = omega (arith, consumed_is, ap length are.split, length-append (concat frames) rest) in
    let rest_is : drop (consumed + later_consumed) (bytes ++ more) ≡ drop later_consumed (rest ++ more) = sym (drop-drop later_consumed consumed (bytes ++ more)) ∙ ap (drop later_consumed) (drop-append-le consumed bytes more within) in
    let r : List ℕ = drop later_consumed (rest ++ more) in
    record {
      split = ap (λ l. l ++ more) are.split ∙ append_assoc (concat frames) rest more ∙ ap (λ l. concat frames ++ l) next.split ∙ sym (append_assoc (concat frames) (concat later) r) ∙ ap (λ l. l ++ r) (sym all) ∙ ap (λ l. concat (frames ++ later) ++ l) (sym rest_is);
      consumed_is = omega (arith, consumed_is, later_is, ap length all, length-append (concat frames) (concat later));
      elements = follow-append order offset frames later are.elements (subst (λ n. FollowOneAnother order (offset + n) later) consumed_is next.elements);
      count_is = omega (arith, counts, count_is, later_count_is);
    }

same-frames : (order : Endianness) (offset : ℕ) (frames others : List (List ℕ)) (rest rest' : List ℕ) → FollowOneAnother order offset frames → FollowOneAnother order offset others → concat frames ++ rest ≡ concat others ++ rest'
    → length frames ≡ length others → frames ≡ others
same-frames order offset [] [] rest rest' are are' same long = refl
same-frames order offset [] (q ∷ qs) rest rest' are are' same long = absurd (omega (arith, long))
same-frames order offset (p ∷ ps) [] rest rest' are are' same long = absurd (omega (arith, long))
same-frames order offset (p ∷ ps) (q ∷ qs) rest rest' are are' same long =
    let first = same_prefix order p q (concat ps ++ rest) (concat qs ++ rest') are.0 are'.0 (sym (append_assoc p (concat ps) rest) ∙ same ∙ append_assoc q (concat qs) rest') in
    let others = subst (λ n. FollowOneAnother order (offset + length n) qs) (sym first.0) are'.2 in
    let later = same-frames order (offset + length p) ps qs rest rest' are.2 others first.1 (omega (arith, long)) in
    ap (λ l. l ∷ ps) first.0 ∙ ap (λ l. q ∷ l) later

pub frames_are_unique : FramesAreUnique
frames_are_unique order offset bytes frames others count consumed count' consumed' are are' long =
    let same = same-frames order offset frames others (drop consumed bytes) (drop consumed' bytes) are.elements are'.elements (sym are.split ∙ are'.split) long in (
      same,
      are.count_is ∙ ap (record_count order) same ∙ sym are'.count_is,
      are.consumed_is ∙ ap (λ l. length (concat l)) same ∙ sym are'.consumed_is,
    )
