-- The offsets of the returned records of a layout.
use Rattle.std.proofs.Common.{◌≡◌, ◌≢◌, ◌==◌, ℕ, ◌+◌, ◌≤◌, ◌++◌, List, [], ◌∷◌, Bool, true, false, length, drop, All, AllPairs, refl, sym, ap, ◌∙◌, arith, append_assoc, append-nil, length-append}
use Rattle.std.specs.Prelude.{if◌then◌else◌}
use Rattle.std.specs.List.{concat}
use Rattle.std.proofs.lemmas.Bool.{cond-false, ne_eqb}
use Rattle.std.proofs.lemmas.List.Elements.{All-nil, All-cons, All-head, All-tail, All-weaker}
use Rattle.std.proofs.lemmas.List.Sums.{sum_by-cons}
use Rattle.std.proofs.lemmas.List.Kept.{AllPairs-cons}
use Rattle.perfdata_sources.specs.declared.endian.Endianness.{Endianness}
use Rattle.linux_perf_data.specs.Attribute.{Attribute}
use Rattle.linux_perf_data.specs.Layout.{SectionSize, IsRecord, attributes_in_record, attributes_in_records, RecordView, record_views, record_view_in, record_type_of}
use Rattle.linux_perf_data.specs.Laws.{FollowsRecord, marker_count, record_view_after}
use Rattle.linux_perf_data.proofs.RecordHeaders.{record_least}

abbrev Above : ℕ → ℕ → RecordView → Type 0
Above offset round h = (offset ≤ h.offset) × (round ≤ h.round)

-- later records are at higher offsets than earlier ones
abbrev Rise : ℕ → ℕ → List RecordView → Type 0
Rise offset round hs = All (Above offset round) hs × AllPairs FollowsRecord hs

rise_nil : (offset round : ℕ) → Rise offset round []
rise_nil offset round = (All-nil (Above offset round), λ i j d less inside. absurd (omega (arith, inside)))

rise_more : (offset offset' round round' : ℕ) (hs : List RecordView) → offset ≤ offset' → round ≤ round' → Rise offset' round' hs → Rise offset round hs
rise_more offset offset' round round' hs low low' rise =
    (All-weaker (Above offset' round') (Above offset round) (λ h x. let a = x.0 in let b = x.1 in (omega (arith, a, low), omega (arith, b, low'))) hs rise.0, rise.1)

rise_cons : (offset round n : ℕ) (h : RecordView) (hs : List RecordView) → h.offset ≡ offset → h.round ≡ round → 8 ≤ n → Rise (offset + n) round hs → Rise offset round (h ∷ hs)
rise_cons offset round n h hs at in' long rise = (
  All-cons (Above offset round) h hs (omega (arith, at), omega (arith, in')) (rise_more offset (offset + n) round round hs (omega arith) (omega arith) rise).0,
  AllPairs-cons FollowsRecord h hs (All-weaker (Above (offset + n) round) (FollowsRecord h) (λ x y. let a = y.0 in let b = y.1 in (omega (arith, a, at, long), omega (arith, b, in'))) hs rise.0) rise.1,
)

rise_step : (b : Bool) (offset round n : ℕ) (h : RecordView) (hs hs' : List RecordView) → h.offset ≡ offset → h.round ≡ round → 8 ≤ n → Rise (offset + n) (round + 1) hs → Rise (offset + n) round hs'
    → Rise offset round (if b then hs else h ∷ hs')
rise_step true offset round n h hs hs' at in' long rise rise' = rise_more offset (offset + n) round (round + 1) hs (omega arith) (omega arith) rise
rise_step false offset round n h hs hs' at in' long rise rise' = rise_cons offset round n h hs' at in' long rise'

pub views_rise : (order : Endianness) (bound : SectionSize) (offset round : ℕ) (attrs : List Attribute) (ps : List (List ℕ)) → All (IsRecord order) ps → Rise offset round (record_views order bound offset round attrs ps)
views_rise order bound offset round attrs [] are = rise_nil offset round
views_rise order bound offset round attrs (p ∷ ps) are =
    let next = attrs ++ attributes_in_record order bound (record_type_of order p) (drop 8 p) in
    let later = All-tail (IsRecord order) p ps are in
    rise_step (record_type_of order p == 68) offset round (length p) (record_view_in order offset round attrs p) (record_views order bound (offset + length p) (round + 1) next ps) (record_views order bound (offset + length p) round next ps)
    refl refl (record_least order p (All-head (IsRecord order) p ps are)) (views_rise order bound (offset + length p) (round + 1) next ps later) (views_rise order bound (offset + length p) round next ps later)

-- The records returned for raw records that follow others. Their offsets and rounds count the earlier ones.

abbrev Tail : Endianness → SectionSize → ℕ → ℕ → List Attribute → List (List ℕ) → List (List ℕ) → List RecordView
Tail order bound offset round attrs first_part back = record_views order bound (offset + length (concat first_part)) (round + marker_count order first_part) (attrs ++ attributes_in_records order bound first_part) back

-- the same with one more earlier raw record
tail_more : (order : Endianness) (bound : SectionSize) (offset round : ℕ) (attrs : List Attribute) (p : List ℕ) (first_part back : List (List ℕ)) (round' : ℕ) → round' ≡ round + (if record_type_of order p == 68 then 1 else 0)
    → Tail order bound (offset + length p) round' (attrs ++ attributes_in_record order bound (record_type_of order p) (drop 8 p)) first_part back ≡ Tail order bound offset round attrs (p ∷ first_part) back
tail_more order bound offset round attrs p first_part back round' turn =
    let adds = attributes_in_record order bound (record_type_of order p) (drop 8 p) in
    let sum : offset + length p + length (concat first_part) ≡ offset + length (p ++ concat first_part) = omega (arith, length-append p (concat first_part)) in
    let count : marker_count order (p ∷ first_part) ≡ (if record_type_of order p == 68 then 1 else 0) + marker_count order first_part = sum_by-cons (λ q. if record_type_of order q == 68 then 1 else 0) p first_part in
    let turns : round' + marker_count order first_part ≡ round + marker_count order (p ∷ first_part) = omega (arith, turn, count) in
    ap (λ o. record_views order bound o (round' + marker_count order first_part) ((attrs ++ adds) ++ attributes_in_records order bound first_part) back) sum
    ∙ ap (λ r. record_views order bound (offset + length (p ++ concat first_part)) r ((attrs ++ adds) ++ attributes_in_records order bound first_part) back) turns
    ∙ ap (λ a. record_views order bound (offset + length (p ++ concat first_part)) (round + marker_count order (p ∷ first_part)) a back) (append_assoc attrs adds (attributes_in_records order bound first_part))

joined : (b : Bool) (round : ℕ) (h : RecordView) (both first_part : ℕ → List RecordView) (back back' later : List RecordView) → both (round + 1) ≡ first_part (round + 1) ++ back → both round ≡ first_part round ++ back'
    → (b ≡ true → back ≡ later) → (b ≡ false → back' ≡ later)
    → (if b then both (round + 1) else h ∷ both round) ≡ (if b then first_part (round + 1) else h ∷ first_part round) ++ later
joined true round h both first_part back back' later is is' same same' = is ∙ ap (λ l. first_part (round + 1) ++ l) (same refl)
joined false round h both first_part back back' later is is' same same' = ap (λ l. h ∷ l) (is' ∙ ap (λ l. first_part round ++ l) (same' refl))

pub views_append : (order : Endianness) (bound : SectionSize) (offset round : ℕ) (attrs : List Attribute) (first_part back : List (List ℕ))
    → record_views order bound offset round attrs (first_part ++ back) ≡ record_views order bound offset round attrs first_part ++ Tail order bound offset round attrs first_part back
views_append order bound offset round attrs [] back =
    let z : offset ≡ offset + 0 = omega arith in
    let z' : round ≡ round + 0 = omega arith in
    ap (λ o. record_views order bound o round attrs back) z ∙ ap (λ r. record_views order bound (offset + 0) r attrs back) z' ∙ ap (λ a. record_views order bound (offset + 0) (round + 0) a back) (sym (append-nil attrs))
views_append order bound offset round attrs (p ∷ first_part) back =
    let next = attrs ++ attributes_in_record order bound (record_type_of order p) (drop 8 p) in
    joined (record_type_of order p == 68) round (record_view_in order offset round attrs p)
    (λ r. record_views order bound (offset + length p) r next (first_part ++ back))
    (λ r. record_views order bound (offset + length p) r next first_part)
    (Tail order bound (offset + length p) (round + 1) next first_part back)
    (Tail order bound (offset + length p) round next first_part back)
    (Tail order bound offset round attrs (p ∷ first_part) back)
    (views_append order bound (offset + length p) (round + 1) next first_part back)
    (views_append order bound (offset + length p) round next first_part back)
    (λ is. tail_more order bound offset round attrs p first_part back (round + 1) (sym (ap (λ b. round + (if b then 1 else 0)) is)))
    (λ isnt. tail_more order bound offset round attrs p first_part back round (let e = ap (λ b. round + (if b then 1 else 0)) isnt in omega (arith, e)))

pub record_offset : (order : Endianness) (bound : SectionSize) (offset round : ℕ) (attrs : List Attribute) (first_part back : List (List ℕ)) (p : List ℕ) → record_type_of order p ≢ 68
    → record_views order bound offset round attrs (first_part ++ p ∷ back)
    ≡ record_views order bound offset round attrs first_part
    ++ record_view_after order bound offset round attrs first_part p ∷ record_views order bound (offset + length (concat first_part) + length p) (round + marker_count order first_part)
    ((attrs ++ attributes_in_records order bound first_part) ++ attributes_in_record order bound (record_type_of order p) (drop 8 p)) back
record_offset order bound offset round attrs first_part back p other =
    let o = offset + length (concat first_part) in
    let r = round + marker_count order first_part in
    let a = attrs ++ attributes_in_records order bound first_part in
    let next = a ++ attributes_in_record order bound (record_type_of order p) (drop 8 p) in
    views_append order bound offset round attrs first_part (p ∷ back)
    ∙ ap (λ l. record_views order bound offset round attrs first_part ++ l)
    (cond-false (record_type_of order p == 68) (record_views order bound (o + length p) (r + 1) next back) (record_view_in order o r a p ∷ record_views order bound (o + length p) r next back) (ne_eqb (record_type_of order p) 68 other))
