-- The effect of two calls in a row on a source.
use Rattle.std.proofs.Common.{◌≡◌, ℕ, ◌<◌, ◌≤◌, ◌+◌, ◌++◌, List, [], IsTrue, length, take, drop, refl, sym, ap, ◌∙◌, subst, arith, append_assoc, add-zero, add_assoc, Option, None, Some, ◌-◌, length-append, length-drop, length-take}
use Rattle.std.proofs.lemmas.List.{length-take-le, take-append-le, append-nil}
use borrow.Rule.Slice.PartMut.{put_mid, post_of}
use Rattle.std.proofs.Math.Seq.{take-append-add, take-append_seam}
use lib.Seq.{take-take}
use Rattle.perfdata_sources.specs.Source.{State, Position, prepend, advance_by, StaysSteady, Consumed, SourceFailed, SourcePaused, EndedOrPaused, BufferFilled, PartlyRead, SkippedUpTo, PartlyAppended, AppendsUpTo}
use Rattle.perfdata_sources.specs.declared.source.append.AppendError.{AppendError}
use Rattle.perfdata_sources.specs.declared.source.append.AppendError.TheVariants.{Memory, Source}
use Rattle.std.specs.Prelude.{Err}

moved_none : (p : Option Position) → p ≡ advance_by 0 p
moved_none None = refl
moved_none (Some p) = rw add-zero refl

pub moved_more : (m n : ℕ) (p : Option Position) → advance_by n (advance_by m p) ≡ advance_by (m + n) p
moved_more m n None = refl
moved_more m n (Some p) = rw add_assoc refl

pub prepend_none : (b : Option (List ℕ)) → b ≡ prepend [] b
prepend_none None = refl
prepend_none (Some rest) = refl

pub prepend_more : (first second : List ℕ) (b : Option (List ℕ)) → prepend first (prepend second b) ≡ prepend (first ++ second) b
prepend_more first second None = refl
prepend_more first second (Some rest) = ap (λ l. Some l) (sym (append_assoc first second rest))

pub consumed_none : (s : State) → Consumed s [] s
consumed_none s = record { bytes = prepend_none s.bytes; position = moved_none s.position; errors = omega arith; pauses = omega arith; steady = λ h. record { steady = h; errors = refl; pauses = refl } }

remains_on : (a b c : State) → StaysSteady a b → StaysSteady b c → StaysSteady a c
remains_on a b c x y = record { steady = y.steady; errors = y.errors ∙ x.errors; pauses = y.pauses ∙ x.pauses }

pub consumed_more : (a b c : State) (first second : List ℕ) → Consumed a first b → Consumed b second c → Consumed a (first ++ second) c
consumed_more a b c first second x y = record {
  bytes = x.bytes ∙ ap (prepend first) y.bytes ∙ prepend_more first second c.bytes;
  position = y.position ∙ ap (advance_by (length second)) x.position ∙ moved_more (length first) (length second) a.position ∙ ap (λ n. advance_by n a.position) (sym (length-append first second));
  errors = let p = x.errors in let q = y.errors in omega arith;
  pauses = let p = x.pauses in let q = y.pauses in omega arith;
  steady = λ h. let s = x.steady h in remains_on a b c s (y.steady s.steady);
}

pub consumed_no_more : (a b c : State) (prefix : List ℕ) → Consumed a prefix b → Consumed b [] c → Consumed a prefix c
consumed_no_more a b c prefix x y = subst (λ f. Consumed a f c) (append-nil prefix) (consumed_more a b c prefix [] x y)

-- a steady source stays steady
pub still_steady : (a b : State) (prefix : List ℕ) → Consumed a prefix b → IsTrue a.steady → IsTrue b.steady
still_steady a b prefix x h = (x.steady h).steady

pub failed_later : (a b c : State) (prefix : List ℕ) → Consumed a prefix b → SourceFailed b c → SourceFailed a c
failed_later a b c prefix x y = record {
  count_increases = λ low. let p = x.errors in let q = y.count_increases low in omega arith;
  not_steady = λ h. y.not_steady (still_steady a b prefix x h);
}

pub paused_later : (a b c : State) (prefix : List ℕ) → Consumed a prefix b → SourcePaused b c → SourcePaused a c
paused_later a b c prefix x y = record {
  count_increases = λ low. let p = x.pauses in let q = y.count_increases low in omega arith;
  not_steady = λ h. y.not_steady (still_steady a b prefix x h);
}

pub consumed_none_later : (a b c : State) (prefix : List ℕ) → Consumed a prefix b → EndedOrPaused b c → EndedOrPaused a c
consumed_none_later a b c prefix x y = λ more. paused_later a b c prefix x (y more)

-- the prefix of a buffer whose part from index a on was overwritten
pub prefix_and_part : (a k n : ℕ) (xs ys : List ℕ) → a ≤ length xs → n ≤ length ys → take (a + n) (put_mid a k xs ys) ≡ take a xs ++ take n ys
prefix_and_part a k n xs ys fits within =
    let prefix = length-take-le a xs fits in
    ap (λ m. take (m + n) (put_mid a k xs ys)) (sym prefix) ∙ take-append-add (take a xs) (ys ++ post_of a k xs) n
    ∙ ap (λ r. take a xs ++ r) (take-append-le n ys (post_of a k xs) within)

-- the overwrite leaves its length unchanged
pub length-refilled : (a : ℕ) (xs ys : List ℕ) → a ≤ length xs → length ys ≡ length (take (length xs - a) (drop a xs)) → length (put_mid a (length xs - a) xs ys) ≡ length xs
length-refilled a xs ys fits same =
    omega (arith, length-append (take a xs) (ys ++ post_of a (length xs - a) xs), length-append ys (post_of a (length xs - a) xs), length-take-le a xs fits, length-drop (length xs - a) (drop a xs), length-take (length xs - a) (drop a xs), length-drop a xs)

-- a read that returns no bytes consumes none
pub none_read : (a b c : State) (prefix offset : List ℕ) (n : ℕ) → n ≡ 0 → Consumed a prefix b → Consumed b (take n offset) c → Consumed a prefix c
none_read a b c prefix offset n none before read = consumed_no_more a b c prefix before (subst (λ m. Consumed b (take m offset) c) none read)

-- some bytes were consumed, and then fewer than the next `piece` bytes
abbrev pub part_more : (a b c : State) (prefix : List ℕ) (k piece count : ℕ) → length prefix ≡ k → Consumed a prefix b → PartlyRead b piece c → k + piece ≤ count → PartlyRead a count c
part_more a b c prefix k piece count long before step fits =
    let part = step.consumed_bytes in
    let short : length part < piece = step.too_few in
    record { consumed_bytes = prefix ++ part; too_few = omega (arith, length-append prefix part, long, short, fits); consumes = consumed_more a b c prefix part before step.consumes }

-- some bytes were consumed, and then a buffer was filled
pub skipped_more : (a b c : State) (prefix offset : List ℕ) (k n : ℕ) → length prefix ≡ k → Consumed a prefix b → BufferFilled b offset n c → (whole : List ℕ) × (length whole ≡ k + n) × Consumed a whole c
skipped_more a b c prefix offset k n long before fill =
    (prefix ++ take n offset, length-append prefix (take n offset) ∙ ap (λ m. m + length (take n offset)) long ∙ ap (λ m. k + m) (length-take-le n offset fill.within), consumed_more a b c prefix (take n offset) before fill.consumes)

pub skipped_short : (a b c : State) (prefix offset : List ℕ) (k n count : ℕ) → length prefix ≡ k → Consumed a prefix b → BufferFilled b offset n c → n < length offset → k + n ≤ count → SkippedUpTo a count (k + n) c
skipped_short a b c prefix offset k n count long before fill short fits =
    let more = skipped_more a b c prefix offset k n long before fill in
    record { bytes = more.0; exact_len = more.1; within = fits; consumes = more.2; if_incomplete = λ _. consumed_none_later a b c prefix before (fill.if_incomplete short) }

appended_part_more : (a b c : State) (old buffered prefix : List ℕ) (k piece count now : ℕ) → length prefix ≡ k → buffered ≡ old ++ prefix → Consumed a prefix b → PartlyAppended b (length buffered) piece now c
    → k + piece ≤ count → PartlyAppended a (length old) count now c
appended_part_more a b c old buffered prefix k piece count now long is before step fits =
    let bound : now ≤ length buffered + length step.partial_read.consumed_bytes + 4096 = step.buffer_bound in
    let all : length buffered ≡ length old + length prefix = ap length is ∙ length-append old prefix in
    record { partial_read = part_more a b c prefix k piece count long before step.partial_read fits; buffer_bound = omega (arith, length-append prefix step.partial_read.consumed_bytes, all, bound) }

pub appended_error : (e : AppendError) (a b c : State) (old buffered now prefix : List ℕ) (k piece count : ℕ) → length prefix ≡ k → buffered ≡ old ++ prefix → Consumed a prefix b → AppendsUpTo b buffered piece (Err e) now c
    → k + piece ≤ count → AppendsUpTo a old count (Err e) now c
appended_error Memory a b c old buffered now prefix k piece count long is before step fits = appended_part_more a b c old buffered prefix k piece count (length now) long is before step fits
appended_error (Source e) a b c old buffered now prefix k piece count long is before step fits =
    (appended_part_more a b c old buffered prefix k piece count (length now) long is before step.0 fits, failed_later a b c prefix before step.1)

-- a buffer whose bytes from index h on were overwritten and then truncated
pub tail_filled : (h n len : ℕ) (xs ys rest buffered more : List ℕ) → xs ≡ buffered ++ more → length buffered ≡ h → length ys ≡ length (take (length xs - h) (drop h xs)) → n ≤ length ys → len ≡ length xs
    → take (h + n) (take len (put_mid h (length xs - h) xs ys ++ rest)) ≡ buffered ++ take n ys
tail_filled h n len xs ys rest buffered more is long same within whole =
    let all : length xs ≡ length buffered + length more = ap length is ∙ length-append buffered more in
    let fits : h ≤ length xs = omega arith in
    let same_length = length-refilled h xs ys fits same in
    let fits_in : h + n ≤ length xs = omega (arith, length-take (length xs - h) (drop h xs), length-drop h xs) in
    let prefix : take h xs ≡ buffered = ap (λ l. take h l) is ∙ ap (λ k. take k (buffered ++ more)) (sym long) ∙ take-append_seam buffered more in
    take-take (h + n) len (put_mid h (length xs - h) xs ys ++ rest) (omega arith) ∙ take-append-le (h + n) (put_mid h (length xs - h) xs ys) rest (omega arith)
    ∙ prefix_and_part h (length xs - h) n xs ys fits within ∙ ap (λ l. l ++ take n ys) prefix
