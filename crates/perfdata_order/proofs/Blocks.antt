-- Blocks of bodies, as each call changes them.
use Rattle.std.proofs.Common.{◌≡◌, ℕ, zero, suc, ◌+◌, ◌-◌, ◌<◌, ◌≤◌, Bool, true, false, List, [], ◌∷◌, ◌++◌, length, get_or, map, take, drop, refl, sym, ap, ◌∙◌, subst, append-nil, inl, inr, arith, length-append, set}
use Rattle.std.specs.Prelude.{◌≢◌, ◌⊎◌, ◌==◌, if◌then◌else◌, Vec}
use Rattle.std.specs.declared.snapshot.Snapshot.{Snapshot}
use Rattle.std.specs.declared.alloc.Global.{Global}
use Rattle.std.proofs.lemmas.List.{map-set, get_or-map, get_or-set_same, get_or-set_other, set-get_or, length-set}
use Rattle.std.proofs.lemmas.List.Sums.{sum_by_push}
use Rattle.std.proofs.lemmas.Bool.{cases_lt}
use Rattle.std.proofs.Math.Seq.{drop-append_seam, take-length}
use Rattle.perfdata_order.specs.declared.bodies.Block.{Block}
use Rattle.perfdata_order.specs.declared.bodies.Bodies.{Bodies}
use Rattle.perfdata_order.specs.Blocks.{bytes_in, held_in, bytes_by, held_by, vacancy_of, vacancy_in, times_in, AreSpare}
use Rattle.perfdata_order.specs.steps.Blocks.{Appended, IsCleared, ReleasesFrom, KeepsHeld, ReleasesHeld}
use Rattle.perfdata_order.specs.steps.Bodies.{IsPrefix, BodyAppended, ReusesCurrent, Reused}
use Rattle.perfdata_order.proofs.Entries.{bit, same_or_other, use_same, use_other}
use Rattle.perfdata_order.proofs.Counting.{few_counted}

-- ---- one block changes

same_at : {X : Type 0} (f : Block → X) (bs : List Block) (i : ℕ) (b : Block) (d : X) → i < length bs → get_or (map f (set bs i b)) i d ≡ f b
same_at f bs i b d below = get_or-map f (set bs i b) i b d (subst (λ n. i < n) (sym (length-set bs i b)) below) ∙ ap f (get_or-set_same bs i b b below)

other_at : {X : Type 0} (f : Block → X) (bs : List Block) (i other : ℕ) (b : Block) (d : X) → other ≢ i → get_or (map f (set bs i b)) other d ≡ get_or (map f bs) other d
other_at f bs i other b d apart = ap (λ xs. get_or xs other d) (map-set f bs i b) ∙ get_or-set_other (map f bs) i other (f b) d apart

was_at : {X : Type 0} (f : Block → X) (bs : List Block) (i : ℕ) (b : Block) (d : X) → i < length bs → b ≡ get_or bs i b → get_or (map f bs) i d ≡ f b
was_at f bs i b d below is = get_or-map f bs i b d below ∙ ap f (sym is)

-- The bytes that were appended last.
last_bytes : (xs ys : List ℕ) (at_end : ℕ) → at_end ≡ length xs + length ys → drop (at_end - length ys) (take at_end (xs ++ ys)) ≡ ys
last_bytes xs ys at_end is =
    let all : take at_end (xs ++ ys) ≡ xs ++ ys = ap (λ n. take n (xs ++ ys)) (is ∙ sym (length-append xs ys)) ∙ take-length (xs ++ ys) in
    let start : at_end - length ys ≡ length xs = omega (arith, is) in
    ap (λ n. drop n (take at_end (xs ++ ys))) start ∙ ap (λ zs. drop (length xs) zs) all ∙ drop-append_seam xs ys

-- ---- spare blocks

if_yes : (c : Bool) (v : ℕ) → bit c ≡ 1 → (if c then 0 else v) ≡ 0
if_yes true v one = refl
if_yes false v one = absurd (omega (arith, one))

if_not : (c : Bool) (v : ℕ) → bit c ≡ 0 → (if c then 0 else v) ≡ v
if_not true v none = absurd (omega (arith, none))
if_not false v none = refl

if_none : (c : Bool) (v : ℕ) → v ≡ 0 → (if c then 0 else v) ≡ 0
if_none true v none = refl
if_none false v none = none

one_bit : (c : Bool) → bit c ≤ 1
one_bit true = omega arith
one_bit false = omega arith

at_current : (block current v : ℕ) → block ≡ current → (if block == current then 0 else v) ≡ 0
at_current block current v same = if_yes (block == current) v (use_same block current same)

not_current : (block current v : ℕ) → block ≢ current → (if block == current then 0 else v) ≡ v
not_current block current v other = if_not (block == current) v (use_other block current other)

vacancy_past : (bs : List Block) (at : ℕ) → length bs ≤ at → vacancy_in bs at ≡ 0
vacancy_past [] at past = refl
vacancy_past (b ∷ bs) zero past = absurd (omega (arith, past))
vacancy_past (b ∷ bs) (suc at) past = vacancy_past bs at (omega (arith, past))

vacancy_small : (bs : List Block) (at : ℕ) → vacancy_in bs at ≤ 1
vacancy_small [] at = omega arith
vacancy_small (b ∷ bs) zero = one_bit (b.held == 0)
vacancy_small (b ∷ bs) (suc at) = vacancy_small bs at

vacancy_is : (bs : List Block) (at : ℕ) → at < length bs → vacancy_in bs at ≡ (if held_by bs at == 0 then 1 else 0)
vacancy_is [] at below = absurd (omega (arith, below))
vacancy_is (b ∷ bs) zero below = refl
vacancy_is (b ∷ bs) (suc at) below = vacancy_is bs at (omega (arith, below))

pub none_if_held : (held : ℕ) → 0 < held → bit (held == 0) ≡ 0
none_if_held held some = use_other held 0 (λ none. absurd (omega (arith, some, none)))

pub one_if_none : (held : ℕ) → held ≡ 0 → bit (held == 0) ≡ 1
one_if_none held none = use_same held 0 none

held_if_none : (held : ℕ) → (held ≡ 0) ⊎ (held ≢ 0) → bit (held == 0) ≡ 0 → 0 < held
held_if_none held (inl none) vacant = let one = one_if_none held none in absurd (omega (arith, one, vacant))
held_if_none held (inr some) vacant = omega (arith, some)

vacant_or_not : (held : ℕ) → (held ≡ 0) ⊎ (held ≢ 0) → bit (held == 0) ≡ 1 → held ≡ 0
vacant_or_not held (inl none) one = none
vacant_or_not held (inr some) one = let none = none_if_held held (omega (arith, some)) in absurd (omega (arith, none, one))

held_by_vacancy : (bs : List Block) (at : ℕ) → at < length bs → vacancy_in bs at ≡ 0 → 0 < held_by bs at
held_by_vacancy bs at below none = held_if_none (held_by bs at) (same_or_other (held_by bs at) 0) (sym (vacancy_is bs at below) ∙ none)

vacancy_by_held : (bs : List Block) → ((block : ℕ) → block < length bs → 0 < held_by bs block) → (at : ℕ) → (at < length bs) ⊎ (length bs ≤ at) → vacancy_in bs at ≡ 0
vacancy_by_held bs held at (inl below) = vacancy_is bs at below ∙ none_if_held (held_by bs at) (held at below)
vacancy_by_held bs held at (inr past) = vacancy_past bs at past

spare_small : (bs : List Block) (current block : ℕ) → (block ≡ current) ⊎ (block ≢ current) → (if block == current then 0 else vacancy_in bs block) ≤ vacancy_in bs block
spare_small bs current block (inl same) = let none = at_current block current (vacancy_in bs block) same in omega (arith, none)
spare_small bs current block (inr other) = let is = not_current block current (vacancy_in bs block) other in omega (arith, is)

below_if_some : (bs : List Block) (block n : ℕ) → n ≤ vacancy_in bs block → 0 < n → (block < length bs) ⊎ (length bs ≤ block) → block < length bs
below_if_some bs block n small some (inl below) = below
below_if_some bs block n small some (inr past) = let none = vacancy_past bs block past in absurd (omega (arith, small, some, none))

-- There are at most as many spare blocks as blocks.
pub spare_few : (bs : List Block) (current : ℕ) (spare : List ℕ) → AreSpare bs current spare → length spare ≤ length bs
spare_few bs current spare all =
    let small : (block : ℕ) → times_in spare block ≤ vacancy_in bs block = λ block. let is = all block in let le = spare_small bs current block (same_or_other block current) in omega (arith, is, le) in
    few_counted (λ x. x) spare (length bs)
    (λ block some. below_if_some bs block (times_in spare block) (small block) some (cases_lt block (length bs)))
    (λ block. let le = small block in let one = vacancy_small bs block in omega (arith, le, one))

same_listed : (bs bs' : List Block) (current block : ℕ) → (block ≡ current) ⊎ (block ≢ current) → (block ≢ current → vacancy_in bs' block ≡ vacancy_in bs block)
    → (if block == current then 0 else vacancy_in bs block) ≡ (if block == current then 0 else vacancy_in bs' block)
same_listed bs bs' current block (inl same) is = at_current block current (vacancy_in bs block) same ∙ sym (at_current block current (vacancy_in bs' block) same)
same_listed bs bs' current block (inr other) is = ap (λ v. if block == current then 0 else v) (sym (is other))

-- If there is no spare block, a body is held in each that isn't the current one.
unlisted_at : (bs : List Block) (current block : ℕ) → (block ≡ current) ⊎ (block ≢ current) → vacancy_in bs current ≡ 0 → 0 ≡ (if block == current then 0 else vacancy_in bs block) → vacancy_in bs block ≡ 0
unlisted_at bs current block (inl same) held none = ap (λ at. vacancy_in bs at) same ∙ held
unlisted_at bs current block (inr other) held none = sym (not_current block current (vacancy_in bs block) other) ∙ sym none

pub no_items : (xs : List ℕ) → length xs ≡ 0 → xs ≡ []
no_items [] none = refl
no_items (x ∷ xs) none = absurd (omega (arith, none))

pub each_held : (bs : List Block) (current : ℕ) (spare : List ℕ) → AreSpare bs current spare → spare ≡ [] → vacancy_in bs current ≡ 0 → (block : ℕ) → block < length bs → 0 < held_by bs block
each_held bs current spare all none held block below =
    held_by_vacancy bs block below (unlisted_at bs current block (same_or_other block current) held (sym (ap (λ xs. times_in xs block) none) ∙ all block))

-- ---- a block is added

push_other : {X Y : Type 0} (f : X → Y) (xs : List X) (x : X) (d : Y) (at : ℕ) → at ≢ length xs → get_or (map f (xs ++ x ∷ [])) at d ≡ get_or (map f xs) at d
push_other f [] x d zero apart = absurd (apart refl)
push_other f [] x d (suc at) apart = refl
push_other f (z ∷ xs) x d zero apart = refl
push_other f (z ∷ xs) x d (suc at) apart = push_other f xs x d at (λ same. apart (ap suc same))

module _ (bs : List Block) (b : Block) (none : b.held ≡ 0) where
  still_spare_at : (current : ℕ) (spare : List ℕ) → AreSpare bs current spare → ((block : ℕ) → block < length bs → 0 < held_by bs block) → (at : ℕ) → (at ≡ length bs) ⊎ (at ≢ length bs)
      → times_in spare at ≡ (if at == length bs then 0 else vacancy_in (bs ++ b ∷ []) at)
  still_spare_at current spare all held at (inl same) =
      all at ∙ if_none (at == current) (vacancy_in bs at) (vacancy_by_held bs held at (cases_lt at (length bs))) ∙ sym (at_current at (length bs) (vacancy_in (bs ++ b ∷ []) at) same)
  still_spare_at current spare all held at (inr other) =
      let vacant = vacancy_by_held bs held at (cases_lt at (length bs)) in
      let after : vacancy_in (bs ++ b ∷ []) at ≡ 0 = push_other (λ x. vacancy_of x) bs b 0 at other ∙ vacant in
      all at ∙ if_none (at == current) (vacancy_in bs at) vacant ∙ sym (if_none (at == length bs) (vacancy_in (bs ++ b ∷ []) at) after)

  -- The new block is the current one.
  pub still_spare : (current : ℕ) (spare : List ℕ) → AreSpare bs current spare → ((block : ℕ) → block < length bs → 0 < held_by bs block) → AreSpare (bs ++ b ∷ []) (length bs) spare
  still_spare current spare all held at = still_spare_at current spare all held at (same_or_other at (length bs))

-- ---- a spare block is used again

module _ (bs : List Block) (current i : ℕ) (spare rest : List ℕ) (all : AreSpare bs current spare) (popped : spare ≡ rest ++ i ∷ []) where
  popped_times : (at : ℕ) → times_in spare at ≡ times_in rest at + (if i == at then 1 else 0)
  popped_times at = ap (λ xs. times_in xs at) popped ∙ sum_by_push (λ x. if x == at then 1 else 0) rest i

  spare_at : (i ≡ current) ⊎ (i ≢ current) → (i ≢ current) × ((vacancy_in bs i ≡ 1) × (times_in rest i ≡ 0))
  spare_at (inl same) =
      let none = at_current i current (vacancy_in bs i) same in
      let is = all i in
      let more = popped_times i in
      let one = use_same i i refl in
      absurd (omega (arith, none, is, more, one))
  spare_at (inr other) =
      let once = not_current i current (vacancy_in bs i) other in
      let is = all i in
      let more = popped_times i in
      let one = use_same i i refl in
      let small = vacancy_small bs i in
      (other, (omega (arith, once, is, more, one, small), omega (arith, once, is, more, one, small)))

  pub popped_below : i < length bs
  popped_below = let is = (spare_at (same_or_other i current)).1.0 in below_if_some bs i 1 (omega (arith, is)) (omega arith) (cases_lt i (length bs))

  rest_at : (bs' : List Block) → ((other : ℕ) → other ≢ i → vacancy_in bs' other ≡ vacancy_in bs other) → vacancy_in bs current ≡ 0 → (at : ℕ) → (at ≡ i) ⊎ (at ≢ i) → (at ≡ current) ⊎ (at ≢ current)
      → times_in rest at ≡ (if at == i then 0 else vacancy_in bs' at)
  rest_at bs' others held at (inl same) whichever = ap (λ n. times_in rest n) same ∙ (spare_at (same_or_other i current)).1.1 ∙ sym (at_current at i (vacancy_in bs' at) same)
  rest_at bs' others held at (inr other) (inl now) =
      let more = popped_times at in
      let none = use_other i at (λ same. other (sym same)) in
      let is = all at in
      let zero_there = at_current at current (vacancy_in bs at) now in
      let after : vacancy_in bs' at ≡ 0 = others at other ∙ ap (λ n. vacancy_in bs n) now ∙ held in
      let target = if_none (at == i) (vacancy_in bs' at) after in
      omega (arith, more, none, is, zero_there, target)
  rest_at bs' others held at (inr other) (inr apart) =
      let more = popped_times at in
      let none = use_other i at (λ same. other (sym same)) in
      let is = all at in
      let there = not_current at current (vacancy_in bs at) apart in
      let after = others at other in
      let target = not_current at i (vacancy_in bs' at) other in
      omega (arith, more, none, is, there, after, target)

  pub rest_spare : (bs' : List Block) → ((other : ℕ) → other ≢ i → vacancy_in bs' other ≡ vacancy_in bs other) → vacancy_in bs current ≡ 0 → AreSpare bs' i rest
  rest_spare bs' others held at = rest_at bs' others held at (same_or_other at i) (same_or_other at current)

  pub popped_vacant : vacancy_in bs i ≡ 1
  popped_vacant = (spare_at (same_or_other i current)).1.0

pub not_held : (held : ℕ) → bit (held == 0) ≡ 1 → held ≡ 0
not_held held one = vacant_or_not held (same_or_other held 0) one

module _ (bs bs' : List Block) (i : ℕ) (b b' : Block) (below : i < length bs) (is : b ≡ get_or bs i b) (now : bs' ≡ set bs i b') where
  pub held_same : held_by bs' i ≡ b'.held
  held_same = ap (λ xs. get_or (map (λ x. held_in x) xs) i 0) now ∙ same_at (λ x. held_in x) bs i b' 0 below

  held_was : held_by bs i ≡ b.held
  held_was = was_at (λ x. held_in x) bs i b 0 below is

  held_other : (other : ℕ) → other ≢ i → held_by bs' other ≡ held_by bs other
  held_other other apart = ap (λ xs. get_or (map (λ x. held_in x) xs) other 0) now ∙ other_at (λ x. held_in x) bs i other b' 0 apart

  bytes_same : bytes_by bs' i ≡ b'.bytes.items
  bytes_same = ap (λ xs. get_or (map (λ x. bytes_in x) xs) i []) now ∙ same_at (λ x. bytes_in x) bs i b' [] below

  bytes_was : bytes_by bs i ≡ b.bytes.items
  bytes_was = was_at (λ x. bytes_in x) bs i b [] below is

  bytes_other : (other : ℕ) → other ≢ i → bytes_by bs' other ≡ bytes_by bs other
  bytes_other other apart = ap (λ xs. get_or (map (λ x. bytes_in x) xs) other []) now ∙ other_at (λ x. bytes_in x) bs i other b' [] apart

  vacancy_same : vacancy_in bs' i ≡ vacancy_of b'
  vacancy_same = ap (λ xs. get_or (map (λ x. vacancy_of x) xs) i 0) now ∙ same_at (λ x. vacancy_of x) bs i b' 0 below

  pub vacancy_was : vacancy_in bs i ≡ vacancy_of b
  vacancy_was = was_at (λ x. vacancy_of x) bs i b 0 below is

  pub vacancy_other : (other : ℕ) → other ≢ i → vacancy_in bs' other ≡ vacancy_in bs other
  vacancy_other other apart = ap (λ xs. get_or (map (λ x. vacancy_of x) xs) other 0) now ∙ other_at (λ x. vacancy_of x) bs i other b' 0 apart

  pub same_count : length bs' ≡ length bs
  same_count = ap length now ∙ length-set bs i b'

  -- ---- appending

  added : (body : List ℕ) (at_end : ℕ) (shown : Snapshot (Vec ℕ Global)) → Appended b body at_end shown b' → (at : ℕ) → (i ≡ at) ⊎ (i ≢ at) → held_by bs' at ≡ held_by bs at + (if i == at then 1 else 0)
  added body at_end shown done at (inl same) =
      subst (λ n. held_by bs' n ≡ held_by bs n + (if i == n then 1 else 0)) same
      (let one = use_same i i refl in let more = done.held in omega (arith, held_same, held_was, more, one))
  added body at_end shown done at (inr other) = let none = use_other i at other in let kept = held_other at (λ same. other (sym same)) in omega (arith, kept, none)

  still : (body : List ℕ) (at_end : ℕ) (shown : Snapshot (Vec ℕ Global)) → Appended b body at_end shown b' → (at : ℕ) → (i ≡ at) ⊎ (i ≢ at) → IsPrefix (bytes_by bs at) (bytes_by bs' at)
  still body at_end shown done at (inl same) = subst (λ n. IsPrefix (bytes_by bs n) (bytes_by bs' n)) same (body, bytes_same ∙ done.bytes ∙ ap (λ xs. xs ++ body) (sym bytes_was))
  still body at_end shown done at (inr other) = ([], bytes_other at (λ same. other (sym same)) ∙ sym (append-nil (bytes_by bs at)))

  unchanged_at : b'.bytes.items ≡ b.bytes.items → b'.held ≡ b.held → (at : ℕ) → (i ≡ at) ⊎ (i ≢ at) → (held_by bs' at ≡ held_by bs at) × (0 < held_by bs at → bytes_by bs' at ≡ bytes_by bs at)
  unchanged_at bytes held at (inl same) =
      subst (λ n. (held_by bs' n ≡ held_by bs n) × (0 < held_by bs n → bytes_by bs' n ≡ bytes_by bs n)) same
      (held_same ∙ held ∙ sym held_was, λ some. bytes_same ∙ bytes ∙ sym bytes_was)
  unchanged_at bytes held at (inr other) = (held_other at (λ same. other (sym same)), λ some. bytes_other at (λ same. other (sym same)))

  pub block_unchanged : b'.bytes.items ≡ b.bytes.items → b'.held ≡ b.held → KeepsHeld bs bs'
  block_unchanged bytes held at = unchanged_at bytes held at (same_or_other i at)

  -- ---- clearing

  cleared_at : b.held ≡ 0 → b'.held ≡ 0 → (at : ℕ) → (i ≡ at) ⊎ (i ≢ at) → (held_by bs' at ≡ held_by bs at) × (0 < held_by bs at → bytes_by bs' at ≡ bytes_by bs at)
  cleared_at none none' at (inl same) =
      subst (λ n. (held_by bs' n ≡ held_by bs n) × (0 < held_by bs n → bytes_by bs' n ≡ bytes_by bs n)) same
      (held_same ∙ none' ∙ sym (held_was ∙ none), λ some. absurd (omega (arith, some, held_was, none)))
  cleared_at none none' at (inr other) = (held_other at (λ same. other (sym same)), λ some. bytes_other at (λ same. other (sym same)))

  pub block_cleared : b.held ≡ 0 → b'.held ≡ 0 → KeepsHeld bs bs'
  block_cleared none none' at = cleared_at none none' at (same_or_other i at)

  -- ---- releasing

  released_at : b'.bytes.items ≡ b.bytes.items → b'.held ≡ b.held - 1 → (at : ℕ) → (i ≡ at) ⊎ (i ≢ at) → (held_by bs' at ≡ held_by bs at - (if i == at then 1 else 0)) × (bytes_by bs' at ≡ bytes_by bs at)
  released_at bytes less at (inl same) =
      subst (λ n. (held_by bs' n ≡ held_by bs n - (if i == n then 1 else 0)) × (bytes_by bs' n ≡ bytes_by bs n)) same
      (let one = use_same i i refl in omega (arith, held_same, held_was, less, one), bytes_same ∙ bytes ∙ sym bytes_was)
  released_at bytes less at (inr other) =
      let none = use_other i at other in
      let kept = held_other at (λ same. other (sym same)) in
      (omega (arith, kept, none), bytes_other at (λ same. other (sym same)))

  pub body_released : (is_last : Bool) → ReleasesFrom b is_last b' → ReleasesHeld bs i bs'
  body_released is_last done at = released_at done.bytes done.held at (same_or_other i at)

  -- ---- spare blocks

  vacancy_at : (current : ℕ) → (i ≡ current) ⊎ (vacancy_of b' ≡ vacancy_of b) → (at : ℕ) → (at ≡ i) ⊎ (at ≢ i) → at ≢ current → vacancy_in bs' at ≡ vacancy_in bs at
  vacancy_at current (inl here) at (inl same) apart = absurd (apart (same ∙ here))
  vacancy_at current (inr equal) at (inl same) apart = ap (λ n. vacancy_in bs' n) same ∙ vacancy_same ∙ equal ∙ sym vacancy_was ∙ sym (ap (λ n. vacancy_in bs n) same)
  vacancy_at current which at (inr other) apart = vacancy_other at other

  -- The same blocks are spare.
  pub spare_kept : (current : ℕ) (spare : List ℕ) → (i ≡ current) ⊎ (vacancy_of b' ≡ vacancy_of b) → AreSpare bs current spare → AreSpare bs' current spare
  spare_kept current spare which all at =
      all at ∙ same_listed bs bs' current at (same_or_other at current) (λ apart. vacancy_at current which at (same_or_other at i) apart)

  spare_more_at : (current : ℕ) (spare : List ℕ) → i ≢ current → b.held ≡ 1 → b'.held ≡ 0 → AreSpare bs current spare → (at : ℕ) → (at ≡ i) ⊎ (at ≢ i) → times_in spare at + (if i == at then 1 else 0) ≡ (if at == current then 0 else vacancy_in bs' at)
  spare_more_at current spare apart one none all at (inl same) =
      let listed = all at in
      let was = not_current at current (vacancy_in bs at) (λ here. apart (sym same ∙ here)) in
      let held = ap (λ n. vacancy_in bs n) same ∙ vacancy_was ∙ none_if_held b.held (omega (arith, one)) in
      let bit = use_same i at (sym same) in
      let after = not_current at current (vacancy_in bs' at) (λ here. apart (sym same ∙ here)) in
      let vacant = ap (λ n. vacancy_in bs' n) same ∙ vacancy_same ∙ one_if_none b'.held none in
      omega (arith, listed, was, held, bit, after, vacant)
  spare_more_at current spare apart one none all at (inr other) =
      let bit = use_other i at (λ same. other (sym same)) in
      let listed = all at in
      let same = same_listed bs bs' current at (same_or_other at current) (λ apart. vacancy_other at other) in
      omega (arith, bit, listed, same)

  -- The block is spare now.
  pub spare_more : (current : ℕ) (spare : List ℕ) → i ≢ current → b.held ≡ 1 → b'.held ≡ 0 → AreSpare bs current spare → AreSpare bs' current (spare ++ i ∷ [])
  spare_more current spare apart one none all at =
      sum_by_push (λ x. if x == at then 1 else 0) spare i ∙ spare_more_at current spare apart one none all at (same_or_other at i)

pub body_appended : (old new : Bodies) (i : ℕ) (b b' : Block) → i < length old.blocks.items → b ≡ get_or old.blocks.items i b → new.blocks.items ≡ set old.blocks.items i b'
    → (body : List ℕ) (at_end : ℕ) (shown : Snapshot (Vec ℕ Global)) → Appended b body at_end shown b' → BodyAppended old body (record { range = record { block = i; start = at_end - length body; end = at_end }; block = shown }) new
body_appended old new i b b' below is now body at_end shown done =
    let bs = old.blocks.items in
    let bs' = new.blocks.items in
    let bytes : bytes_by bs' i ≡ b.bytes.items ++ body = bytes_same bs bs' i b b' below is now ∙ done.bytes in
    let count = ap length bytes ∙ length-append b.bytes.items body in
    let ends = done.ends in
    record {
      held = λ at. added bs bs' i b b' below is now body at_end shown done at (same_or_other i at);
      kept = λ at some. still bs bs' i b b' below is now body at_end shown done at (same_or_other i at);
      is_body = ap (λ xs. drop (at_end - length body) (take at_end xs)) done.shows ∙ last_bytes b.bytes.items body at_end ends;
      at_range = ap (λ xs. drop (at_end - length body) (take at_end xs)) bytes ∙ last_bytes b.bytes.items body at_end ends;
      in_block = omega (arith, count, ends);
    }

vacancy_left : (held left : ℕ) → (held ≡ 0) ⊎ (held ≢ 0) → held ≢ 1 → left ≡ held - 1 → bit (left == 0) ≡ bit (held == 0)
vacancy_left held left (inl none) more less =
    let before = one_if_none held none in let after = one_if_none left (omega (arith, none, less)) in omega (arith, before, after)
vacancy_left held left (inr some) more less =
    let before = none_if_held held (omega (arith, some)) in let after = none_if_held left (omega (arith, some, more, less)) in omega (arith, before, after)

-- The body that was released wasn't the last one.
pub not_last : (b b' : Block) → b.held ≢ 1 → b'.held ≡ b.held - 1 → vacancy_of b' ≡ vacancy_of b
not_last b b' more less = vacancy_left b.held b'.held (same_or_other b.held 0) more less

pub cleared_held : (b b' : Block) (r : Bool) → IsCleared b r b' → b.held ≡ 0 → b'.held ≡ 0
cleared_held b b' true cleared none = cleared.none_after
cleared_held b b' false cleared none = let some = cleared.1 in absurd (omega (arith, some, none))

-- ---- the calls of all bodies

pub current_reused : (old new : Bodies) (r : Bool) (b b' : Block) → old.current < length old.blocks.items → b ≡ get_or old.blocks.items old.current b → new.blocks.items ≡ set old.blocks.items old.current b' → new.current ≡ old.current
    → IsCleared b r b' → ReusesCurrent old r new
current_reused old new true b b' below is now at cleared =
    let none = cleared.none in
    let none' = cleared.none_after in
    let bs = old.blocks.items in
    let bs' = new.blocks.items in
    let count = same_count bs bs' old.current b b' below is now in
    let held = ap (λ n. held_by bs' n) at ∙ held_same bs bs' old.current b b' below is now ∙ none' in
    record {
      kept = block_cleared bs bs' old.current b b' below is now none none';
      can_append = (omega (arith, at, below, count), omega (arith, held));
      same_blocks = count;
    }
current_reused old new false b b' below is now at (same, some) =
    let bs = old.blocks.items in
    let bs' = new.blocks.items in (
      record {
        blocks = now ∙ ap (λ x. set bs old.current x) (same ∙ is) ∙ set-get_or bs old.current b;
        current = at;
      },
      ap (λ n. vacancy_in bs' n) at ∙ vacancy_same bs bs' old.current b b' below is now ∙ none_if_held b'.held (subst (λ x. 0 < x.held) (sym same) some),
    )

module _ (old new : Bodies) (i : ℕ) (rest : List ℕ) (r : Bool) (b b' : Block) (popped : old.spare.items ≡ rest ++ i ∷ []) (is : b ≡ get_or old.blocks.items i b) (now : new.blocks.items ≡ set old.blocks.items i b')
    (at : new.current ≡ i) (cleared : IsCleared b r b') where
  below_popped : i < length old.blocks.items
  below_popped = popped_below old.blocks.items old.current i old.spare.items rest old.spare_blocks popped

  none_was : b.held ≡ 0
  none_was = not_held b.held (sym (vacancy_was old.blocks.items new.blocks.items i b b' below_popped is now) ∙ popped_vacant old.blocks.items old.current i old.spare.items rest old.spare_blocks popped)

  pub spare_reused : Reused old new
  spare_reused =
      let bs = old.blocks.items in
      let bs' = new.blocks.items in
      let count = same_count bs bs' i b b' below_popped is now in
      let none' = cleared_held b b' r cleared none_was in
      let held = ap (λ n. held_by bs' n) at ∙ held_same bs bs' i b b' below_popped is now ∙ none' in
      let within = below_popped in
      record {
        kept = block_cleared bs bs' i b b' below_popped is now none_was none';
        can_append = (omega (arith, at, within, count), omega (arith, held));
        same_blocks = count;
      }
