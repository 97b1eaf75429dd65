-- Held records with their bodies and their parse infos, as each call changes them.
use Rattle.std.proofs.Common.{◌≡◌, ℕ, ◌+◌, ◌<◌, ◌≤◌, List, [], ◌∷◌, ◌++◌, length, get_or, take, drop, All, Result, Ok, Err, refl, sym, ap, ◌∙◌, subst, append-nil, length-append, inl, inr, arith}
use Rattle.std.specs.Prelude.{◌==◌, if◌then◌else◌}
use Rattle.std.specs.Ordering.{nat_cmp}
use Rattle.std.specs.declared.alloc.AllocError.{AllocError}
use Rattle.std.specs.List.Sorted.{IsPermutation}
use Rattle.std.proofs.lemmas.List.{take-append-le}
use Rattle.std.proofs.lemmas.List.Elements.{All-nil, All-cons, All-head, All-tail, All-push}
use Rattle.std.proofs.lemmas.List.Sums.{sum_by-cons, sum_by_push}
use Rattle.std.proofs.lemmas.List.Sorted.{All-permutation, IsPermutation-refl, sum_by-IsPermutation}
use Rattle.perfdata_order.specs.declared.bodies.HeldBody.{HeldBody}
use Rattle.perfdata_order.specs.declared.bodies.Bodies.{Bodies}
use Rattle.perfdata_order.specs.declared.parse_infos.ParseInfos.{ParseInfos}
use Rattle.perfdata_order.specs.declared.held_record.HeldFormat.{HeldFormat}
use Rattle.perfdata_order.specs.declared.held_record.HeldFormat.TheVariants as held_format
use Rattle.perfdata_order.specs.declared.held_record.HeldRecord.{HeldRecord}
use Rattle.perfdata_order.specs.declared.sorter.Sorter.{Sorter}
use Rattle.perfdata_order.specs.Bodies.{bytes_at, held_at, block_count}
use Rattle.perfdata_order.specs.steps.Bodies.{EachIsHeld, AddsBlockIfFull, KeepsBodies, IsPrefix, BodyAppended, ReleasesBody}
use Rattle.perfdata_order.specs.steps.ParseInfos.{KeepsFound}
use Rattle.perfdata_order.specs.HeldRecord.{IsKnown, IsStored, IsCounted, count_in}
use Rattle.perfdata_order.specs.Sorter.{held_of, slots_in, IsUnchanged, EndsRound, EndsAllRounds, ReleasesHalf}
use Rattle.perfdata_order.proofs.Counting.{all_counted}
use Rattle.perfdata_order.proofs.Entries.{use_same}

abbrev Held : Type 0
Held = ℕ × HeldRecord

abbrev pub AllStored : Bodies → ParseInfos → List Held → Type 0
AllStored bodies infos es = All (λ e. IsStored bodies infos e.1) es

abbrev use_in : ℕ → Held → ℕ
use_in block e = if e.1.body.range.block == block then 1 else 0

-- ---- the sorter's calls

pub unchanged_held : (s t : Sorter ℕ HeldRecord) → IsUnchanged s t → IsPermutation (held_of s) (held_of t)
unchanged_held s t same = subst (λ es. IsPermutation (held_of s) es) (sym same.held) (IsPermutation-refl (held_of s))

pub round_permutes : (s t : Sorter ℕ HeldRecord) (result : Result (Unit {0}) AllocError) → EndsRound nat_cmp s result t → IsPermutation (held_of s) (held_of t)
round_permutes s t (Ok done) ended = ended.sorts.each_once
round_permutes s t (Err e) same = unchanged_held s t same

pub end_permutes : (s t : Sorter ℕ HeldRecord) (result : Result (Unit {0}) AllocError) → EndsAllRounds nat_cmp s result t → IsPermutation (held_of s) (held_of t)
end_permutes s t (Ok done) ended = ended.sorts.each_once
end_permutes s t (Err e) same = unchanged_held s t same

pub half_permutes : (s t : Sorter ℕ HeldRecord) (result : Result (Unit {0}) AllocError) → ReleasesHalf nat_cmp s result t → IsPermutation (held_of s) (held_of t)
half_permutes s t (Ok done) released = released.sorts.each_once
half_permutes s t (Err e) same = unchanged_held s t same

pub stored_permuted : (bodies : Bodies) (infos : ParseInfos) (es fs : List Held) → IsPermutation es fs → AllStored bodies infos es → AllStored bodies infos fs
stored_permuted bodies infos es fs same all = All-permutation (λ e. IsStored bodies infos e.1) es fs same all

pub counted_permuted : (bodies : Bodies) (es fs : List Held) → IsPermutation es fs → IsCounted bodies es → IsCounted bodies fs
counted_permuted bodies es fs same counted block = subst (λ n. n ≡ held_at bodies block) (sym (sum_by-IsPermutation (λ e. use_in block e) es fs same)) (counted block)

-- ---- counts

count_more : (block : ℕ) (e : Held) (es : List Held) → count_in block (e ∷ es) ≡ use_in block e + count_in block es
count_more block e es = sum_by-cons (λ x. use_in block x) e es

count_push : (block : ℕ) (es : List Held) (e : Held) → count_in block (es ++ e ∷ []) ≡ count_in block es + use_in block e
count_push block es e = sum_by_push (λ x. use_in block x) es e

each_counted : (at : ℕ → ℕ) (es : List Held) → ((block : ℕ) → count_in block es ≤ at block) → All (λ e. 0 < at e.1.body.range.block) es
each_counted at [] counted = All-nil (λ e. 0 < at e.1.body.range.block)
each_counted at (e ∷ es) counted =
    let whole = counted e.1.body.range.block in
    let more = count_more e.1.body.range.block e es in
    let one = use_same e.1.body.range.block e.1.body.range.block refl in
    All-cons (λ f. 0 < at f.1.body.range.block) e es (omega (arith, whole, more, one))
    (each_counted at es (λ block. let all = counted block in let rest = count_more block e es in omega (arith, all, rest)))

pub counted_kept : (old new : Bodies) (es : List Held) → KeepsBodies old new → IsCounted old es → IsCounted new es
counted_kept old new es kept counted block = subst (λ n. count_in block es ≡ n) (sym (kept block).0) (counted block)

pub counted_inserted : (old new : Bodies) (body : List ℕ) (key : ℕ) (held : HeldRecord) (es fs : List Held) → BodyAppended old body held.body new → fs ≡ es ++ (key, held) ∷ [] → IsCounted old es → IsCounted new fs
counted_inserted old new body key held es fs done more counted block =
    let before = counted block in
    let after = done.held block in
    let push = ap (λ xs. count_in block xs) more ∙ count_push block es (key, held) in
    omega (arith, before, after, push)

pub counted_taken : (old new : Bodies) (key : ℕ) (held : HeldRecord) (es fs : List Held) → ReleasesBody old held.body.range.block new → es ≡ (key, held) ∷ fs → IsCounted old es → IsCounted new fs
counted_taken old new key held es fs released first counted block =
    let before = counted block in
    let after = (released block).0 in
    let whole = ap (λ xs. count_in block xs) first ∙ count_more block (key, held) fs in
    omega (arith, before, after, whole)

-- A body was appended, and then released again.
pub counted_undone : (old middle new : Bodies) (body : List ℕ) (appended : HeldBody) (es : List Held) → BodyAppended old body appended middle → ReleasesBody middle appended.range.block new → IsCounted old es → IsCounted new es
counted_undone old middle new body appended es done released counted block =
    let before = counted block in
    let more = done.held block in
    let less = (released block).0 in
    omega (arith, before, more, less)

-- ---- blocks

counted_blocks : (bodies : Bodies) (es : List Held) → IsCounted bodies es → EachIsHeld bodies → block_count bodies ≤ length es
counted_blocks bodies es counted held =
    all_counted (λ e. e.1.body.range.block) es (block_count bodies) (λ block below. let is = counted block in let some = held block below in omega (arith, is, some))

-- A block is added only if there are at most as many as slots.
pub few_blocks_after : (old new : Bodies) (len : ℕ) (es : List Held) (slots : ℕ) → IsCounted old es → length es ≤ slots → AddsBlockIfFull old len new → block_count old ≤ slots + 1 → block_count new ≤ slots + 1
few_blocks_after old new len es slots counted within (inl same) few = omega (arith, same, few)
few_blocks_after old new len es slots counted within (inr (more, (held, full))) few = let all = counted_blocks old es counted held in omega (arith, more, all, within)

pub round_slots : (s t : Sorter ℕ HeldRecord) (result : Result (Unit {0}) AllocError) → EndsRound nat_cmp s result t → slots_in s ≤ slots_in t
round_slots s t (Ok done) ended = let same = ended.slots in omega (arith, same)
round_slots s t (Err e) same = same.slots.kept

pub end_slots : (s t : Sorter ℕ HeldRecord) (result : Result (Unit {0}) AllocError) → EndsAllRounds nat_cmp s result t → slots_in s ≤ slots_in t
end_slots s t (Ok done) ended = let same = ended.slots in omega (arith, same)
end_slots s t (Err e) same = same.slots.kept

pub half_slots : (s t : Sorter ℕ HeldRecord) (result : Result (Unit {0}) AllocError) → ReleasesHalf nat_cmp s result t → slots_in s ≤ slots_in t
half_slots s t (Ok done) released = let same = released.slots in omega (arith, same)
half_slots s t (Err e) same = same.slots.kept

-- ---- bodies and parse infos

both : {X : Type 0} (P Q S : X → Type 0) → ((x : X) → P x → Q x → S x) → (xs : List X) → All P xs → All Q xs → All S xs
both P Q S f xs p q = λ k d below. f (get_or xs k d) (p k d below) (q k d below)

known_kept : (old new : ParseInfos) → KeepsFound old new → (format : HeldFormat) → IsKnown old format → IsKnown new format
known_kept old new kept (held_format.Kernel index kind at known) is = kept at known.value is
known_kept old new kept (held_format.User kind order) is = refl

prefix_body : (xs ys : List ℕ) (start at_end : ℕ) → IsPrefix xs ys → at_end ≤ length xs → drop start (take at_end ys) ≡ drop start (take at_end xs)
prefix_body xs ys start at_end (more, is) below = ap (λ zs. drop start (take at_end zs)) is ∙ ap (λ zs. drop start zs) (take-append-le at_end xs more below)

prefix_below : (xs ys : List ℕ) (n : ℕ) → IsPrefix xs ys → n ≤ length xs → n ≤ length ys
prefix_below xs ys n (more, is) below = subst (λ zs. n ≤ length zs) (sym is) (let len = length-append xs more in omega (arith, below, len))

stored_on : (old new : Bodies) (infos infos' : ParseInfos) (held : HeldRecord) → IsPrefix (bytes_at old held.body.range.block) (bytes_at new held.body.range.block) → KeepsFound infos infos' → IsStored old infos held → IsStored new infos' held
stored_on old new infos infos' held more kept (is, (below, known)) = (
  prefix_body (bytes_at old held.body.range.block) (bytes_at new held.body.range.block) held.body.range.start held.body.range.end more below ∙ is,
  (prefix_below (bytes_at old held.body.range.block) (bytes_at new held.body.range.block) held.body.range.end more below, known_kept infos infos' kept held.format known),
)

same_prefix : (xs ys : List ℕ) → ys ≡ xs → IsPrefix xs ys
same_prefix xs ys same = ([], same ∙ sym (append-nil xs))

pub found_kept : (infos : ParseInfos) → KeepsFound infos infos
found_kept infos index parse_info is = is

-- The blocks of these records go on.
pub stored_appended : (old new : Bodies) (infos infos' : ParseInfos) (es : List Held) → ((block : ℕ) → 0 < held_at old block → IsPrefix (bytes_at old block) (bytes_at new block)) → KeepsFound infos infos'
    → IsCounted old es → AllStored old infos es → AllStored new infos' es
stored_appended old new infos infos' es more kept counted all =
    both (λ e. 0 < held_at old e.1.body.range.block) (λ e. IsStored old infos e.1) (λ e. IsStored new infos' e.1)
    (λ e some is. stored_on old new infos infos' e.1 (more e.1.body.range.block some) kept is) es (each_counted (λ block. held_at old block) es (λ block. let is = counted block in omega (arith, is))) all

pub stored_kept : (old new : Bodies) (infos infos' : ParseInfos) (es : List Held) → KeepsBodies old new → KeepsFound infos infos' → IsCounted old es → AllStored old infos es → AllStored new infos' es
stored_kept old new infos infos' es kept found counted all =
    stored_appended old new infos infos' es (λ block some. same_prefix (bytes_at old block) (bytes_at new block) ((kept block).1 some)) found counted all

-- A body was released, whose bytes stay.
pub stored_released : (old new : Bodies) (infos : ParseInfos) (block : ℕ) (held : HeldRecord) → ReleasesBody old block new → IsStored old infos held → IsStored new infos held
stored_released old new infos block held released is =
    stored_on old new infos infos held (same_prefix (bytes_at old held.body.range.block) (bytes_at new held.body.range.block) (released held.body.range.block).1) (found_kept infos) is

pub all_released : (old new : Bodies) (infos : ParseInfos) (block : ℕ) (es : List Held) → ReleasesBody old block new → AllStored old infos es → AllStored new infos es
all_released old new infos block es released all =
    both (λ e. IsStored old infos e.1) (λ e. IsStored old infos e.1) (λ e. IsStored new infos e.1) (λ e is again. stored_released old new infos block e.1 released is) es all all

pub stored_inserted : (bodies : Bodies) (infos : ParseInfos) (key : ℕ) (held : HeldRecord) (es fs : List Held) → fs ≡ es ++ (key, held) ∷ [] → AllStored bodies infos es → IsStored bodies infos held → AllStored bodies infos fs
stored_inserted bodies infos key held es fs more all is =
    subst (λ xs. AllStored bodies infos xs) (sym more) (All-push (λ e. IsStored bodies infos e.1) es (key, held) all is)

pub first_stored : (bodies : Bodies) (infos : ParseInfos) (key : ℕ) (held : HeldRecord) (es fs : List Held) → es ≡ (key, held) ∷ fs → AllStored bodies infos es → IsStored bodies infos held × AllStored bodies infos fs
first_stored bodies infos key held es fs first all =
    let whole = subst (λ xs. AllStored bodies infos xs) first all in
    (All-head (λ e. IsStored bodies infos e.1) (key, held) fs whole, All-tail (λ e. IsStored bodies infos e.1) (key, held) fs whole)
