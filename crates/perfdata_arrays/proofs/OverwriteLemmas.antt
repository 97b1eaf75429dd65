-- Lemmas on entries that are written over a prefix of an array, one by one or many at once.
use Rattle.std.proofs.Common.{◌≡◌, ℕ, zero, suc, ◌+◌, ◌-◌, ◌<◌, ◌≤◌, List, [], ◌∷◌, ◌++◌, length, take, drop, refl, sym, ap, ◌∙◌, arith, length-append, length-drop}
use Rattle.std.specs.Prelude.{slice_set, min}
use Rattle.std.proofs.lemmas.List.{drop-append-le, append-nil, take_all}
use Rattle.std.proofs.Math.ListN.{drop_of_length-le}
use Rattle.linux_perf_data.specs.RecordEntries.{with_prefix}
use Rattle.linux_perf_data.proofs.EntryLemmas.{length-with_prefix, with_prefix-snoc}
use borrow.Rule.Slice.PartMut.{mid_of, post_of, put_mid}
use Rattle.perfdata_arrays.specs.Overwrites.{with_entries_at, with_prefix_from, WritesOneMore}

-- one more entry that doesn't fit in the array
with_prefix-snoc-full : {T : Type 0} (es old : List T) (e : T) → length old ≤ length es → with_prefix (es ++ e ∷ []) old ≡ with_prefix es old
with_prefix-snoc-full [] [] e full = refl
with_prefix-snoc-full [] (o ∷ os) e full = absurd (omega (arith, full))
with_prefix-snoc-full (x ∷ es) [] e full = refl
with_prefix-snoc-full (x ∷ es) (o ∷ os) e full = ap (λ l. x ∷ l) (with_prefix-snoc-full es os e (omega (arith, full)))

-- an empty array stays empty
pub with_prefix-nil : {T : Type 0} (es : List T) → with_prefix es [] ≡ []
with_prefix-nil [] = refl
with_prefix-nil (x ∷ es) = refl

-- the list from index `first` on, with one more entry
drop-snoc-before : {T : Type 0} (start : ℕ) (es : List T) (e : T) → length es < start → drop start (es ++ e ∷ []) ≡ drop start es
drop-snoc-before start es e less = drop_of_length-le (es ++ e ∷ []) (omega (arith, less, length-append es (e ∷ []))) ∙ sym (drop_of_length-le es (omega (arith, less)))

drop-snoc-after : {T : Type 0} (start : ℕ) (es : List T) (e : T) → start ≤ length es → drop start (es ++ e ∷ []) ≡ drop start es ++ e ∷ []
drop-snoc-after start es e more = drop-append-le start es (e ∷ []) more

pub write_entry-before_start : {T : Type 0} (start index : ℕ) (e : T) (now : List T) → index < start → WritesOneMore start index e now now
write_entry-before_start start index e now less es before is was = was ∙ ap (λ l. with_prefix l before) (sym (drop-snoc-before start es e (omega (arith, less, is))))

pub write_entry-in_range : {T : Type 0} (start index : ℕ) (e : T) (now : List T) → start ≤ index → index - start < length now → WritesOneMore start index e now (slice_set now (index - start) e)
write_entry-in_range start index e now more fits es before is was =
    let long : length (drop start es) ≡ index - start = omega (arith, is, length-drop start es) in
    let inside : length (drop start es) < length before = omega (arith, long, fits, ap length was, length-with_prefix (drop start es) before) in
    ap (λ l. slice_set l (index - start) e) was ∙ ap (λ n. slice_set (with_prefix (drop start es) before) n e) (sym long)
    ∙ sym (with_prefix-snoc (drop start es) before e inside) ∙ ap (λ l. with_prefix l before) (sym (drop-snoc-after start es e (omega (arith, is, more))))

pub write_entry-past_capacity : {T : Type 0} (start index : ℕ) (e : T) (now : List T) → start ≤ index → length now ≤ index - start → WritesOneMore start index e now now
write_entry-past_capacity start index e now more full es before is was =
    let long : length (drop start es) ≡ index - start = omega (arith, is, length-drop start es) in
    let outside : length before ≤ length (drop start es) = omega (arith, long, full, ap length was, length-with_prefix (drop start es) before) in
    was ∙ sym (with_prefix-snoc-full (drop start es) before e outside) ∙ ap (λ l. with_prefix l before) (sym (drop-snoc-after start es e (omega (arith, is, more))))

-- nothing is written past the end
pub with_entries_at-past_end : {T : Type 0} (at : ℕ) (es old : List T) → length old ≤ at → old ≡ with_entries_at at es old
with_entries_at-past_end at es old past = sym (append-nil old) ∙ ap (λ l. l ++ []) (sym (take_all at old past)) ∙ ap (λ l. take at old ++ l) (sym (with_prefix-nil es) ∙ ap (with_prefix es) (sym (drop_of_length-le old past)))

-- the entries that fit in the array, and the unchanged rest
pub take-with_prefix : {T : Type 0} (n : ℕ) (es old : List T) → n ≡ min (length old) (length es) → take n es ++ drop n old ≡ with_prefix es old
take-with_prefix n [] old is = (let none : n ≡ 0 = omega (arith, is) in ap (λ k. take k [] ++ drop k old) none)
take-with_prefix n (x ∷ es) [] is = (let none : n ≡ 0 = omega (arith, is) in ap (λ k. take k (x ∷ es) ++ drop k []) none)
take-with_prefix zero (x ∷ es) (o ∷ os) is = absurd (omega (arith, is))
take-with_prefix (suc n) (x ∷ es) (o ∷ os) is = ap (λ l. x ∷ l) (take-with_prefix n es os (omega (arith, is)))

-- a part that reaches the end is everything from its start on
pub take-drop-length : {T : Type 0} (n : ℕ) (xs : List T) → take (length xs - n) (drop n xs) ≡ drop n xs
take-drop-length n xs = take_all (length xs - n) (drop n xs) (omega (arith, length-drop n xs))

-- more entries follow those that are written
pub with_entries_at-with_prefix : {T : Type 0} (done more buffer : List T) → with_entries_at (length done) more (with_prefix done buffer) ≡ with_prefix (done ++ more) buffer
with_entries_at-with_prefix [] more buffer = refl
with_entries_at-with_prefix (x ∷ done) more [] = with_prefix-nil more
with_entries_at-with_prefix (x ∷ done) more (o ∷ os) = ap (λ l. x ∷ l) (with_entries_at-with_prefix done more os)

with_entries_at-nil : {T : Type 0} (at : ℕ) (es : List T) → with_entries_at at es [] ≡ []
with_entries_at-nil zero es = with_prefix-nil es
with_entries_at-nil (suc n) es = with_prefix-nil es

-- more entries after entries at an index
pub with_entries_at-more : {T : Type 0} (at next : ℕ) (done more buffer : List T) → next ≡ at + length done → with_entries_at next more (with_entries_at at done buffer) ≡ with_entries_at at (done ++ more) buffer
with_entries_at-more at next done more [] is =
    ap (with_entries_at next more) (with_entries_at-nil at done) ∙ with_entries_at-nil next more ∙ sym (with_entries_at-nil at (done ++ more))
with_entries_at-more zero next done more (o ∷ os) is = (let e : next ≡ length done = omega (arith, is) in ap (λ n. with_entries_at n more (with_prefix done (o ∷ os))) e ∙ with_entries_at-with_prefix done more (o ∷ os))
with_entries_at-more (suc at) zero done more (o ∷ os) is = absurd (omega (arith, is))
with_entries_at-more (suc at) (suc next) done more (o ∷ os) is = ap (λ l. o ∷ l) (with_entries_at-more at next done more os (omega (arith, is)))

-- more entries after those from index `start` on
pub with_prefix_from-more : {T : Type 0} (start : ℕ) (done more buffer : List T) → start ≤ length done → with_entries_at (length done - start) more (with_prefix_from start done buffer) ≡ with_prefix_from start (done ++ more) buffer
with_prefix_from-more start done more buffer within =
    ap (λ n. with_entries_at n more (with_prefix (drop start done) buffer)) (sym (length-drop start done))
    ∙ with_entries_at-with_prefix (drop start done) more buffer ∙ ap (λ l. with_prefix l buffer) (sym (drop-append-le start done more within))

-- entries that are written over a part up to the end
pub with_entries_at-part : {T : Type 0} (at : ℕ) (es old : List T) → at ≤ length old → put_mid at (length old - at) old (with_prefix es (mid_of at (length old - at) old)) ≡ with_entries_at at es old
with_entries_at-part at es old within =
    let part = with_prefix es (mid_of at (length old - at) old) in
    let after : post_of at (length old - at) old ≡ [] = drop_of_length-le (drop at old) (omega (arith, within, length-drop at old)) in
    ap (λ l. take at old ++ (part ++ l)) after ∙ ap (λ l. take at old ++ l) (append-nil part) ∙ ap (λ l. take at old ++ with_prefix es l) (take-drop-length at old)
