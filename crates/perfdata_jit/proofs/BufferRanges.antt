-- Ranges of a list, and two lists that are equal up to an index.
use borrow.Rule.Slice.PartMut.{put_mid, same_len_mid, mid_len, drop_put}
use Rattle.perfdata_sources.specs.Source.{prepend}
use Rattle.std.proofs.Common.{Option, Some, None, ◌≡◌, ℕ, zero, suc, ◌+◌, ◌-◌, ◌<◌, ◌≤◌, List, [], ◌++◌, length, take, drop, slice_range, refl, sym, ap, ap₂, ◌∙◌, arith, append_assoc, append-nil, length-take-le, take_at, length-drop, take-append-drop, take-take, drop-drop, take-take}
use Rattle.std.proofs.lemmas.List.{drop-take, drop-append-le, take_rest, drop_all}
use Rattle.std.proofs.Math.Seq.{take-add, take-append-add, drop-append-add}
use Rattle.std.proofs.lemmas.Grind.{common_steps}

-- a range extended by n items
pub range_append : (xs : List ℕ) (s e n : ℕ) → s ≤ e → slice_range xs s (e + n) ≡ slice_range xs s e ++ slice_range xs e (e + n)
range_append xs s e n le =
    let width : (e + n) - s ≡ (e - s) + n = omega arith in
    let at : s + (e - s) ≡ e = omega arith in
    let more : n ≡ (e + n) - e = omega arith in
    ap (λ k. take k (drop s xs)) width
    ∙ take-add (e - s) n (drop s xs)
    ∙ ap (λ l. take (e - s) (drop s xs) ++ take n l) (drop-drop (e - s) s xs ∙ ap (λ k. drop k xs) at)
    ∙ ap (λ k. take (e - s) (drop s xs) ++ take k (drop e xs)) more

-- lists that are equal up to index e have the same ranges before e
pub range_kept : (xs ys : List ℕ) (s e : ℕ) → s ≤ e → take e ys ≡ take e xs → slice_range ys s e ≡ slice_range xs s e
range_kept xs ys s e le same =
    let at : s + (e - s) ≡ e = omega arith in
    sym (drop-take s (e - s) ys) ∙ ap (λ k. drop s (take k ys)) at ∙ ap (drop s) same ∙ ap (λ k. drop s (take k xs)) (sym at) ∙ drop-take s (e - s) xs

pub prepend-append : (a b : List ℕ) (o : Option (List ℕ)) → prepend a (prepend b o) ≡ prepend (a ++ b) o
prepend-append a b None = refl
prepend-append a b (Some xs) = ap Some (sym (append_assoc a b xs))

pub prepend-nil : (o : Option (List ℕ)) → prepend [] o ≡ o
prepend-nil None = refl
prepend-nil (Some xs) = refl

-- bytes after the end of the main range are overwritten by a read: the first n are new
pub main_grows : (xs ys : List ℕ) (s e f n : ℕ) → s ≤ e → f ≡ 0 → take e ys ≡ take e xs
    → slice_range ys s (e + n) ++ take f ys ≡ (slice_range xs s e ++ take f xs) ++ slice_range ys e (e + n)
main_grows xs ys s e f n le none same =
    let kept = range_kept xs ys s e le same in
    let grown = range_append ys s e n le in
    let empty : (zs : List ℕ) → take f zs ≡ [] = λ zs. ap (λ k. take k zs) none in
    grind (arith, common_steps, kept, grown, empty xs, empty ys)

-- the same for the prefix that wraps around
pub prefix_grows : (xs ys : List ℕ) (s e f n : ℕ) → drop s ys ≡ drop s xs → take f ys ≡ take f xs
    → slice_range ys s e ++ take (f + n) ys ≡ (slice_range xs s e ++ take f xs) ++ slice_range ys f (f + n)
prefix_grows xs ys s e f n rest same =
    let grown = range_append ys 0 f n (omega arith) in
    let kept : slice_range ys s e ≡ slice_range xs s e = ap (take (e - s)) rest in
    grind (arith, common_steps, kept, grown, same)

-- the first n items of a range
pub take_range : (xs : List ℕ) (s e n : ℕ) → s + n ≤ e → take n (slice_range xs s e) ≡ slice_range xs s (s + n)
take_range xs s e n le =
    let width : (s + n) - s ≡ n = omega arith in
    take-take n (e - s) (drop s xs) (omega arith) ∙ ap (λ k. take k (drop s xs)) (sym width)

-- if the main range ends before the buffer does, no bytes wrap around
pub no_prefix : (f e size : ℕ) → (0 < f → e ≡ size) → e < size → f ≡ 0
no_prefix zero e size wraps short = refl
no_prefix (suc f) e size wraps short = absurd (omega (arith, wraps (omega arith)))

pub length_range : (xs : List ℕ) (s e : ℕ) → e ≤ length xs → length (slice_range xs s e) ≡ e - s
length_range xs s e within = length-take-le (e - s) (drop s xs) (omega (arith, length-drop s xs))

-- the items after an overwritten range
pub drop_written : (items xs ys rest : List ℕ) (s e len : ℕ) → xs ≡ items → s ≤ e → e ≤ length items → length ys ≡ e - s → len ≡ length items → drop e (take len (put_mid s (e - s) xs ys ++ rest)) ≡ drop e items
drop_written items xs ys rest s e len is le within same all =
    let fits : e ≤ length xs = omega (arith, ap length is) in
    let long : length (put_mid s (e - s) xs ys) ≡ len = same_len_mid s (e - s) xs ys (same ∙ sym (mid_len s e xs fits)) ∙ ap length is ∙ sym all in
    ap (drop e) (take_at (put_mid s (e - s) xs ys) rest len long) ∙ drop_put s e xs ys le fits same ∙ ap (drop e) is

-- fewer bytes than those of the main range are consumed
pub main_drops : (xs t : List ℕ) (s e n : ℕ) → n ≤ e - s → e ≤ length xs → slice_range xs (s + n) e ++ t ≡ drop n (slice_range xs s e ++ t)
main_drops xs t s e n le within =
    let width : n + (e - (s + n)) ≡ e - s = omega arith in
    let fits : n ≤ length (slice_range xs s e) = omega (arith, length_range xs s e within) in
    let moved : drop n (slice_range xs s e) ≡ slice_range xs (s + n) e =
    ap (λ k. drop n (take k (drop s xs))) (sym width) ∙ drop-take n (e - (s + n)) (drop s xs) ∙ ap (take (e - (s + n))) (drop-drop n s xs) in
    ap (λ l. l ++ t) (sym moved) ∙ sym (drop-append-le n (slice_range xs s e) t fits)

-- the whole main range a is consumed, and k more bytes of the prefix that wraps around
pub both_consumed : (a xs : List ℕ) (f k n : ℕ) → n ≡ length a + k → k ≤ f → a ++ take k xs ≡ take n (a ++ take f xs)
both_consumed a xs f k n at le = ap (λ l. a ++ l) (sym (take-take k f xs le)) ∙ sym (take-append-add a (take f xs) k) ∙ ap (λ m. take m (a ++ take f xs)) (sym at)

pub both_dropped : (a xs : List ℕ) (f k n : ℕ) → n ≡ length a + k → k ≤ f → slice_range xs k f ++ [] ≡ drop n (a ++ take f xs)
both_dropped a xs f k n at le =
    let width : k + (f - k) ≡ f = omega arith in
    append-nil (slice_range xs k f) ∙ sym (drop-take k (f - k) xs) ∙ ap (λ m. drop k (take m xs)) width ∙ sym (drop-append-add a (take f xs) k) ∙ ap (λ m. drop m (a ++ take f xs)) (sym at)

-- the rest of a list is consumed, and then k bytes of the next list
pub over_consumed : (over part ring : List ℕ) (p size k n : ℕ) → size ≡ length over → n ≡ (size - p) + k → part ≡ take k ring
    → slice_range over p size ++ part ≡ take n (drop p over ++ ring)
over_consumed over part ring p size k n len at is =
    let width = length-drop p over in
    let sum : n ≡ length (drop p over) + k = omega arith in
    ap₂ (λ a b. a ++ b) (ap (λ m. slice_range over p m) len ∙ take_rest over p) is
    ∙ sym (take-append-add (drop p over) ring k) ∙ ap (λ m. take m (drop p over ++ ring)) (sym sum)

pub over_dropped : (over rest ring : List ℕ) (p size k n : ℕ) → size ≡ length over → n ≡ (size - p) + k → rest ≡ drop k ring
    → drop size over ++ rest ≡ drop n (drop p over ++ ring)
over_dropped over rest ring p size k n len at is =
    let width = length-drop p over in
    let sum : n ≡ length (drop p over) + k = omega arith in
    ap₂ (λ a b. a ++ b) (drop_all size over (omega arith)) is
    ∙ sym (drop-append-add (drop p over) ring k) ∙ ap (λ m. drop m (drop p over ++ ring)) (sym sum)

-- a part is consumed from the start of the buffered bytes
pub part_consumed : (buffered part after : List ℕ) (rest : Option (List ℕ)) (n : ℕ) → part ≡ take n buffered → after ≡ drop n buffered → prepend buffered rest ≡ prepend part (prepend after rest)
part_consumed buffered part after rest n is over =
    ap (λ l. prepend l rest) (sym (take-append-drop n buffered)) ∙ sym (prepend-append (take n buffered) (drop n buffered) rest) ∙ ap₂ (λ a b. prepend a (prepend b rest)) (sym is) (sym over)

-- bytes of the overflow buffer are consumed
pub over_drops : (over ring : List ℕ) (p n : ℕ) → n ≤ length over - p → drop (p + n) over ++ ring ≡ drop n (drop p over ++ ring)
over_drops over ring p n within = ap (λ l. l ++ ring) (sym (drop-drop n p over)) ∙ sym (drop-append-le n (drop p over) ring (omega (arith, length-drop p over)))
