-- The items of a group are nested fields, and nested fields are the items of a group.
use Rattle.std.proofs.Common.{◌≡◌, ℕ, suc, ◌+◌, ◌-◌, ◌<◌, ◌≤◌, List, [], ◌∷◌, ◌++◌, length, refl, ap, sym, ◌∙◌, subst, arith, length-append}
use Rattle.perfdata_simpleperf.specs.declared.protobuf.wire.WireType.{WireType}
use Rattle.perfdata_simpleperf.specs.declared.protobuf.wire.WireType.TheVariants as wires
use Rattle.perfdata_simpleperf.specs.Protobuf.WireFormat.{KeyAt, Contents, ValueAt}
use Rattle.perfdata_simpleperf.specs.Protobuf.Groups.{SkipsItem, GroupItem, GroupItems, no_items, item_then, GroupAt}
use Rattle.perfdata_simpleperf.specs.Protobuf.Nesting.{Nested, done, field, group, IsNestedGroup}
use Rattle.perfdata_simpleperf.proofs.Decoding.ItemUniqueness.{prefix_same}

items_join : {open_groups bs inner mid last rest : List ℕ} → GroupItems open_groups bs inner mid → GroupItems inner mid last rest → GroupItems open_groups bs last rest
items_join no_items u = u
items_join (item_then t ts) u = item_then t (items_join ts u)

field_item : (open_groups bs : List ℕ) (n : ℕ) (wire : WireType) (mid : List ℕ) (x : Contents) (rest : List ℕ) → 0 < length open_groups → KeyAt bs n wire mid → ValueAt wire mid x rest → GroupItem open_groups bs open_groups rest
field_item open_groups bs n wires.Varint mid x rest i k v = record { field_number = n; wire_type = wires.Varint; mid = mid; is_nonempty = i; key = k; skips_item = (refl, x, v) }
field_item open_groups bs n wires.Fixed64 mid x rest i k v = record { field_number = n; wire_type = wires.Fixed64; mid = mid; is_nonempty = i; key = k; skips_item = (refl, x, v) }
field_item open_groups bs n wires.LengthDelimited mid x rest i k v = record { field_number = n; wire_type = wires.LengthDelimited; mid = mid; is_nonempty = i; key = k; skips_item = (refl, x, v) }
field_item open_groups bs n wires.Fixed32 mid x rest i k v = record { field_number = n; wire_type = wires.Fixed32; mid = mid; is_nonempty = i; key = k; skips_item = (refl, x, v) }
field_item open_groups bs n wires.StartGroup mid x rest i k v = absurd v
field_item open_groups bs n wires.EndGroup mid x rest i k v = absurd v

start_item : (open_groups bs : List ℕ) (n : ℕ) (mid : List ℕ) → 0 < length open_groups → length open_groups < 100 → KeyAt bs n wires.StartGroup mid → GroupItem open_groups bs (open_groups ++ n ∷ []) mid
start_item open_groups bs n mid i small k = record { field_number = n; wire_type = wires.StartGroup; mid = mid; is_nonempty = i; key = k; skips_item = (small, refl, refl) }

end_item : (open_groups bs : List ℕ) (n : ℕ) (mid : List ℕ) → KeyAt bs n wires.EndGroup mid → GroupItem (open_groups ++ n ∷ []) bs open_groups mid
end_item open_groups bs n mid k = record { field_number = n; wire_type = wires.EndGroup; mid = mid; is_nonempty = (let l = length-append open_groups (n ∷ []) in omega (arith, l)); key = k; skips_item = (refl, refl) }

nested_items : {depth : ℕ} {bs rest : List ℕ} (open_groups : List ℕ) → Nested depth bs rest → 0 < length open_groups → length open_groups + depth ≤ 100 → GroupItems open_groups bs open_groups rest
nested_items open_groups done i d = no_items
nested_items {bs = bs} open_groups (field n wire mid x rest k v more_fields) i d = item_then (field_item open_groups bs n wire mid x rest i k v) (nested_items open_groups more_fields i d)
nested_items {bs = bs} open_groups (group n mid end after k inner e more_fields) i d =
    let l = length-append open_groups (n ∷ []) in
    let ins = nested_items (open_groups ++ n ∷ []) inner (omega (arith, l)) (omega (arith, l, d)) in
    item_then (start_item open_groups bs n mid i (omega (arith, d)) k) (items_join ins (item_then (end_item open_groups end n after e) (nested_items open_groups more_fields i d)))

pub group_from : (n : ℕ) (bs rest : List ℕ) → IsNestedGroup n bs rest → GroupAt n bs rest
group_from n bs rest g = items_join (nested_items (n ∷ []) g.fields (omega arith) (omega arith)) (item_then (end_item [] g.end n rest g.ends) no_items)

-- reverses the numbers of the open groups: the argument has the innermost first, the result the outermost
abbrev reversed : List ℕ → List ℕ
reversed [] = []
reversed (n ∷ up) = reversed up ++ n ∷ []

reversed_length : (up : List ℕ) → length (reversed up) ≡ length up
reversed_length [] = refl
reversed_length (n ∷ up) = let a = length-append (reversed up) (n ∷ []) in let b = reversed_length up in omega (arith, a, b)

abbrev Closes : List ℕ → List ℕ → List ℕ → Type 0
Closes [] bs rest = bs ≡ rest
Closes (n ∷ up) bs rest = (end : List ℕ) × (after : List ℕ) × Nested (99 - length up) bs end × KeyAt end n wires.EndGroup after × Closes up after rest

close_plain : (up bs : List ℕ) (n : ℕ) (wire : WireType) (mid : List ℕ) (x : Contents) (m rest : List ℕ) → 0 < length up → KeyAt bs n wire mid → ValueAt wire mid x m → Closes up m rest → Closes up bs rest
close_plain [] bs n wire mid x m rest i k v c = absurd (omega (arith, i))
close_plain (u ∷ up) bs n wire mid x m rest i k v c = (c.0, c.1, field n wire mid x m k v c.2, c.3, c.4)

close_begin : (up bs : List ℕ) (n : ℕ) (mid rest : List ℕ) → 0 < length up → length up < 100 → KeyAt bs n wires.StartGroup mid → Closes (n ∷ up) mid rest → Closes up bs rest
close_begin [] bs n mid rest i small k c = absurd (omega (arith, i))
close_begin (u ∷ up) bs n mid rest i small k c =
    let s : 99 - length up ≡ suc (99 - length (u ∷ up)) = omega (arith, small) in
    let next = c.4 in
    let after : Nested (suc (99 - length (u ∷ up))) c.1 next.0 = subst (λ (d : ℕ). Nested d c.1 next.0) s next.2 in
    (next.0, next.1, subst (λ (d : ℕ). Nested d bs next.0) (sym s) (group n mid c.0 c.1 k c.2 c.3 after), next.3, next.4)

close_end : (up inner bs : List ℕ) (n : ℕ) (mid : List ℕ) → reversed up ≡ inner ++ n ∷ [] → KeyAt bs n wires.EndGroup mid → (rest : List ℕ) → ((down : List ℕ) → inner ≡ reversed down → length down ≤ length up → Closes down mid rest) → Closes up bs rest
close_end [] inner bs n mid e k rest f = absurd (let a = ap length e in let b = length-append inner (n ∷ []) in omega (arith, a, b))
close_end (u ∷ up) inner bs n mid e k rest f =
    let a = ap length e in
    let b = length-append inner (n ∷ []) in
    let c = length-append (reversed up) (u ∷ []) in
    let s = prefix_same (reversed up) inner (u ∷ []) (n ∷ []) (omega (arith, a, b, c)) e in
    let last = s.1 in
    let same : n ≡ u = cc in
    (bs, mid, done, subst (λ (z : ℕ). KeyAt bs z wires.EndGroup mid) same k, f up (sym s.0) (omega arith))

inside_up : (open_groups up : List ℕ) → open_groups ≡ reversed up → 0 < length open_groups → 0 < length up
inside_up open_groups up e i = let a = ap length e in let b = reversed_length up in omega (arith, a, b, i)

close_item : (wire : WireType) (n : ℕ) (open_groups bs mid inner m rest up : List ℕ) → open_groups ≡ reversed up → 0 < length open_groups → KeyAt bs n wire mid → SkipsItem wire n open_groups mid inner m → ((down : List ℕ) → inner ≡ reversed down → Closes down m rest) → Closes up bs rest
close_item wires.StartGroup n open_groups bs mid inner m rest up e i k p f =
    let a = ap length e in
    let b = reversed_length up in
    close_begin up bs n mid rest (inside_up open_groups up e i) (omega (arith, a, b, p.0)) k (subst (λ (z : List ℕ). Closes (n ∷ up) z rest) (sym p.2) (f (n ∷ up) (p.1 ∙ ap (λ (z : List ℕ). z ++ n ∷ []) e)))
close_item wires.EndGroup n open_groups bs mid inner m rest up e i k p f = close_end up inner bs n mid (sym e ∙ p.0) k rest (λ down d le. subst (λ (z : List ℕ). Closes down z rest) (sym p.1) (f down d))
close_item wires.Varint n open_groups bs mid inner m rest up e i k p f = close_plain up bs n wires.Varint mid p.1 m rest (inside_up open_groups up e i) k p.2 (f up (sym p.0 ∙ e))
close_item wires.Fixed64 n open_groups bs mid inner m rest up e i k p f = close_plain up bs n wires.Fixed64 mid p.1 m rest (inside_up open_groups up e i) k p.2 (f up (sym p.0 ∙ e))
close_item wires.Fixed32 n open_groups bs mid inner m rest up e i k p f = close_plain up bs n wires.Fixed32 mid p.1 m rest (inside_up open_groups up e i) k p.2 (f up (sym p.0 ∙ e))
close_item wires.LengthDelimited n open_groups bs mid inner m rest up e i k p f = close_plain up bs n wires.LengthDelimited mid p.1 m rest (inside_up open_groups up e i) k p.2 (f up (sym p.0 ∙ e))

nothing_reversed : (up : List ℕ) → [] ≡ reversed up → up ≡ []
nothing_reversed [] e = refl
nothing_reversed (u ∷ up) e = absurd (let a = ap length e in let b = length-append (reversed up) (u ∷ []) in omega (arith, a, b))

closed : (up bs : List ℕ) → up ≡ [] → Closes up bs bs
closed [] bs e = refl
closed (u ∷ up) bs e = absurd cc

closes : {open_groups bs b rest : List ℕ} → GroupItems open_groups bs b rest → b ≡ [] → (up : List ℕ) → open_groups ≡ reversed up → Closes up bs rest
closes {bs = bs} no_items d up e = closed up bs (nothing_reversed up (sym d ∙ e))
closes {open_groups} {bs} {b} {rest} (item_then {inner = inner} {mid = m} t ts) d up e = close_item t.wire_type t.field_number open_groups bs t.mid inner m rest up e t.is_nonempty t.key t.skips_item (λ down g. closes ts d down g)

pub group_nests : (n : ℕ) (bs rest : List ℕ) → GroupAt n bs rest → IsNestedGroup n bs rest
group_nests n bs rest g =
    let c = closes g refl (n ∷ []) refl in
    record { end = c.0; fields = c.2; ends = subst (λ (z : List ℕ). KeyAt c.0 n wires.EndGroup z) c.4 c.3 }
