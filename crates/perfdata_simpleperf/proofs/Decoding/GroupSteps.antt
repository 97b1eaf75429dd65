-- Consecutive items of a group; each consumes at least one byte.
use Rattle.std.proofs.Common.{ℕ, ◌^◌, ◌<◌, ◌≤◌, List, [], ◌∷◌, length, ap, arith, length-append}
use Rattle.perfdata_simpleperf.specs.declared.protobuf.wire.WireType.{WireType}
use Rattle.perfdata_simpleperf.specs.declared.protobuf.wire.WireType.TheVariants as wires
use Rattle.perfdata_simpleperf.specs.Protobuf.WireFormat.{IsVarint, VarintAt, KeyAt, Contents, number, bytes, skipped, ValueAt, LengthAt, FixedAt}
use Rattle.perfdata_simpleperf.specs.Protobuf.Groups.{SkipsItem, GroupItem, GroupItems, no_items, item_then}

pub items_then : {open_groups bs inner mid last rest : List ℕ} → GroupItems open_groups bs inner mid → GroupItem inner mid last rest → GroupItems open_groups bs last rest
items_then no_items t = item_then t no_items
items_then (item_then s ss) t = item_then s (items_then ss t)

encoding_nonempty : (s : List ℕ) (n : ℕ) → IsVarint s n → 0 < length s
encoding_nonempty [] n h = absurd h
encoding_nonempty (b ∷ s) n h = omega arith

pub varint_shorter : (most limit : ℕ) (bs : List ℕ) (n : ℕ) (rest : List ℕ) → VarintAt most limit bs n rest → length rest < length bs
varint_shorter most limit bs n rest at =
    let s = encoding_nonempty at.encoding n at.encodes in
    let l = length-append at.encoding rest in
    let p = ap length at.split in
    omega (arith, s, l, p)

fixed_shorter : (bs : List ℕ) (len : ℕ) (rest : List ℕ) → FixedAt bs len rest → length rest ≤ length bs
fixed_shorter bs len rest at =
    let l = length-append at.prefix rest in
    let p = ap length at.splits.split in
    omega (arith, l, p)

length_shorter : (bs prefix rest : List ℕ) → LengthAt bs prefix rest → length rest ≤ length bs
length_shorter bs prefix rest at =
    let v = varint_shorter 10 (2 ^ 64) bs at.len at.mid at.reads in
    let l = length-append prefix rest in
    let p = ap length at.splits.split in
    omega (arith, v, l, p)

pub value_shorter : (wire : WireType) (bs : List ℕ) (x : Contents) (rest : List ℕ) → ValueAt wire bs x rest → length rest ≤ length bs
value_shorter wires.Varint bs (number n) rest at = let v = varint_shorter 10 (2 ^ 64) bs n rest at in omega (arith, v)
value_shorter wires.Varint bs (bytes b) rest at = absurd at
value_shorter wires.Varint bs skipped rest at = absurd at
value_shorter wires.Fixed64 bs skipped rest at = fixed_shorter bs 8 rest at
value_shorter wires.Fixed64 bs (number n) rest at = absurd at
value_shorter wires.Fixed64 bs (bytes b) rest at = absurd at
value_shorter wires.Fixed32 bs skipped rest at = fixed_shorter bs 4 rest at
value_shorter wires.Fixed32 bs (number n) rest at = absurd at
value_shorter wires.Fixed32 bs (bytes b) rest at = absurd at
value_shorter wires.LengthDelimited bs (bytes prefix) rest at = length_shorter bs prefix rest at
value_shorter wires.LengthDelimited bs (number n) rest at = absurd at
value_shorter wires.LengthDelimited bs skipped rest at = absurd at
value_shorter wires.StartGroup bs x rest at = absurd at
value_shorter wires.EndGroup bs x rest at = absurd at

pub key_shorter : (bs : List ℕ) (n : ℕ) (wire : WireType) (rest : List ℕ) → KeyAt bs n wire rest → length rest < length bs
key_shorter bs n wire rest key = varint_shorter 10 (2 ^ 64) bs _ rest key.reads

skip_item_shorter : (wire : WireType) (n : ℕ) (open_groups bs inner rest : List ℕ) → SkipsItem wire n open_groups bs inner rest → length rest ≤ length bs
skip_item_shorter wires.StartGroup n open_groups bs inner rest p = let e = ap length p.2 in omega (arith, e)
skip_item_shorter wires.EndGroup n open_groups bs inner rest p = let e = ap length p.1 in omega (arith, e)
skip_item_shorter wires.Varint n open_groups bs inner rest p = value_shorter wires.Varint bs p.1 rest p.2
skip_item_shorter wires.Fixed64 n open_groups bs inner rest p = value_shorter wires.Fixed64 bs p.1 rest p.2
skip_item_shorter wires.Fixed32 n open_groups bs inner rest p = value_shorter wires.Fixed32 bs p.1 rest p.2
skip_item_shorter wires.LengthDelimited n open_groups bs inner rest p = value_shorter wires.LengthDelimited bs p.1 rest p.2

pub item_shorter : {open_groups bs inner rest : List ℕ} → GroupItem open_groups bs inner rest → length rest < length bs
item_shorter {open_groups} {bs} {inner} {rest} t =
    let k = key_shorter bs t.field_number t.wire_type t.mid t.key in
    let p = skip_item_shorter t.wire_type t.field_number open_groups t.mid inner rest t.skips_item in
    omega (arith, k, p)
