-- A sample has no more frames than its body has bytes.
use Rattle.std.proofs.Common.{◌≡◌, ℕ, zero, suc, ◌*◌, ◌≤◌, Bool, true, false, List, [], ◌∷◌, length, drop, refl, ap, arith, length-drop, Option, None, Some}
use Rattle.std.proofs.lemmas.List.{length-map}
use Rattle.perfdata_identifiers.specs.ParseInfo.{is_set}
use Rattle.perfdata_sources.specs.declared.endian.Endianness.{Endianness}
use Rattle.linux_perf_data.specs.Attribute.{Attribute}
use Rattle.linux_perf_data.specs.Layout.{RecordView}
use Rattle.perfdata_events.specs.CallChain.{chain, chain_values_of, frames_of}
use Rattle.perfdata_events.specs.Format.{encodes, optional}
use Rattle.perfdata_events.specs.ReadValues.{Values, counter_width, single, group, read_values}
use Rattle.perfdata_events.specs.Words.{after, u64s_of, word_size}
use Rattle.perfdata_events.specs.declared.fields.call_chain.CallContext.TheVariants.{User}
use Rattle.perfdata_events.specs.declared.format.EventFormat.{EventFormat}
use Rattle.perfdata_arrays.specs.declared.samples.body.SampleWords.{SampleWords}
use Rattle.perfdata_arrays.proofs.FrameLemmas.{frames_within}
use Rattle.perfdata_arrays.specs.Bodies.{IsBody, StartsWith, number}
use Rattle.perfdata_arrays.specs.SampleRecords.{AddsOf, frames_of_body}
use Rattle.perfdata_arrays.specs.Samples.{frame_entry_of}
use Rattle.perfdata_arrays.specs.declared.samples.body.SampleBody.{SampleBody}
use Rattle.perfdata_arrays.specs.declared.samples.body.SampleBody.TheVariants.{Complete, Words, Nothing}
use Rattle.perfdata_arrays.specs.declared.samples.frame.FrameEntry.{FrameEntry}
use Rattle.perfdata_arrays.specs.declared.samples.sample.Sample.{Sample}

-- ---- the bytes after a field

pub after_within : (format : ℕ) (words xs : List ℕ) → length (after format words xs) ≤ length xs
after_within format [] xs = omega arith
after_within format (w ∷ ws) xs =
    let rest = drop (word_size (is_set format w)) xs in
    let more = after_within format ws rest in
    omega (arith, more, length-drop (word_size (is_set format w)) xs)

pub length-u64s_of : (of : ℕ → List ℕ → ℕ) (n : ℕ) (xs : List ℕ) → length (u64s_of of n xs) ≡ n
length-u64s_of of zero xs = refl
length-u64s_of of (suc n) xs = (let e = length-u64s_of of n (drop 8 xs) in omega (arith, e))

values_within : (of : ℕ → List ℕ → ℕ) (format : ℕ) (xs rest : List ℕ) (value : Values) → read_values of format xs (encodes value rest) → length rest ≤ length xs
values_within of format xs rest (single value) h =
    let first = h.1.starts.rest_is in
    let last = h.1.goes_on.rest_is in
    omega (arith, ap length first, length-drop 8 xs, ap length last, after_within format (0 ∷ 1 ∷ 2 ∷ 4 ∷ []) h.1.middle)
values_within of format xs rest (group value) h =
    let first = h.1.starts.rest_is in
    let times = h.1.goes_on.starts.rest_is in
    let last = h.1.goes_on.goes_on.numbers_are.rest_is in
    omega (arith, ap length first, length-drop 8 xs, ap length times, after_within format (0 ∷ 1 ∷ []) h.1.middle, ap length last, length-drop (8 * (counter_width (is_set format 2) (is_set format 4) * h.1.lead)) h.1.goes_on.middle)

optional_within : (of : ℕ → List ℕ → ℕ) (format : ℕ) (present : Bool) (xs rest : List ℕ) (value : Option Values) → optional present (read_values of format) xs (encodes value rest) → length rest ≤ length xs
optional_within of format present xs rest None h = (let same = ap length h.1 in omega (arith, same))
optional_within of format present xs rest (Some value) h = values_within of format xs rest value h.1

chain_within : (of : ℕ → List ℕ → ℕ) (xs values rest : List ℕ) → chain of xs (encodes values rest) → length values ≤ length xs
chain_within of xs values rest h =
    let first = h.starts.rest_is in
    let enough = h.goes_on.enough in
    let are = h.goes_on.values_are in
    omega (arith, ap length first, length-drop 8 xs, enough, ap length are, length-u64s_of of h.lead h.middle)

-- ---- the frames

start_within : (format : EventFormat) (body : List ℕ) (v : SampleWords) (values : List ℕ) → StartsWith format body v (Some values) → length values ≤ length body
start_within format body v values h =
    let of = number format in
    let bits = format.sample_format.0 in
    let origin = h.start_is in
    let event = origin.goes_on in
    let period = event.goes_on in
    let counters = period.goes_on in
    let first = ap length origin.starts.rest_is in
    let second = ap length event.starts.rest_is in
    let third = period.starts.all_bytes in
    let fourth = optional_within of format.read_format.0 (is_set bits 4) period.middle counters.middle h.values counters.starts in
    let last = chain_within of counters.middle values h.rest counters.goes_on.1 in
    omega (arith, first, after_within bits (16 ∷ 0 ∷ 1 ∷ 2 ∷ []) body, second, after_within bits (3 ∷ 6 ∷ 9 ∷ 7 ∷ []) origin.middle, third, fourth, last)

frames_of_body_within : (format : EventFormat) (wants : Bool) (body : List ℕ) (b : SampleBody) → IsBody format body b → length (frames_of_body wants b) ≤ length body
frames_of_body_within format true body (Complete v (Some c)) is =
    let values = chain_values_of c in
    let within = start_within format body v values is in
    let fewer = frames_within User values in
    omega (arith, within, fewer, length-map (frames_of User values) frame_entry_of)
frames_of_body_within format true body (Complete v None) is = omega arith
frames_of_body_within format true body (Words v e) is = omega arith
frames_of_body_within format true body Nothing is = omega arith
frames_of_body_within format false body b is = omega arith

-- a record adds one sample at most
pub adds_within : (order : Endianness) (attrs : List Attribute) (wants : Bool) (used : ℕ) (h : RecordView) (own : List Sample) (own_frames : List FrameEntry) → AddsOf order attrs wants used h own own_frames → (length own ≤ 1) × (length own_frames ≤ length h.body)
adds_within order attrs wants used h [] own_frames adds = (omega arith, let none = ap length adds.1 in omega (arith, none))
adds_within order attrs wants used h (s ∷ []) own_frames adds = (omega arith, let within = frames_of_body_within adds.format wants h.body adds.body adds.body_is in let are = ap length adds.frames_are in omega (arith, within, are))
adds_within order attrs wants used h (s ∷ t ∷ more) own_frames adds = absurd adds
