-- Parts at the start of bytes are the same if more bytes follow.
use Rattle.std.proofs.Common.{ℕ, ◌^◌, List, [], ◌∷◌, ◌++◌, ap, ◌∙◌, append_assoc}
use Rattle.perfdata_simpleperf.specs.declared.protobuf.field.Message.{Message}
use Rattle.perfdata_simpleperf.specs.declared.protobuf.wire.WireType.{WireType}
use Rattle.perfdata_simpleperf.specs.declared.protobuf.wire.WireType.TheVariants as wires
use Rattle.perfdata_simpleperf.specs.Protobuf.WireFormat.{VarintAt, KeyAt, Contents, number, bytes, skipped, Splits, LengthAt, FixedAt, ValueAt, NumberAt}
use Rattle.perfdata_simpleperf.specs.Protobuf.Groups.{SkipsItem, GroupItem, GroupItems, no_items, item_then}
use Rattle.perfdata_simpleperf.specs.Protobuf.Fields.{FieldValue, FieldAt, ContentsAt}
use Rattle.perfdata_simpleperf.specs.Protobuf.Messages.{FieldsWith}

module _ (t : List ℕ) where
  varint_tail : (most limit : ℕ) (bs : List ℕ) (n : ℕ) (rest : List ℕ) → VarintAt most limit bs n rest → VarintAt most limit (bs ++ t) n (rest ++ t)
  varint_tail most limit bs n rest at = record { encoding = at.encoding; encodes = at.encodes; max_len = at.max_len; in_range = at.in_range; split = ap (λ (x : List ℕ). x ++ t) at.split ∙ append_assoc at.encoding rest t }

  number_tail : (bs : List ℕ) (n : ℕ) (rest : List ℕ) → NumberAt bs n rest → NumberAt (bs ++ t) n (rest ++ t)
  number_tail bs n rest at = varint_tail 10 (2 ^ 64) bs n rest at

  key_tail : (bs : List ℕ) (n : ℕ) (wire : WireType) (rest : List ℕ) → KeyAt bs n wire rest → KeyAt (bs ++ t) n wire (rest ++ t)
  key_tail bs n wire rest k = record { reads = number_tail bs _ rest k.reads; positive = k.positive; in_range = k.in_range }

  splits_tail : (bs : List ℕ) (len : ℕ) (prefix rest : List ℕ) → Splits bs len prefix rest → Splits (bs ++ t) len prefix (rest ++ t)
  splits_tail bs len prefix rest s = record { exact_len = s.exact_len; split = ap (λ (x : List ℕ). x ++ t) s.split ∙ append_assoc prefix rest t }

  fixed_tail : (bs : List ℕ) (len : ℕ) (rest : List ℕ) → FixedAt bs len rest → FixedAt (bs ++ t) len (rest ++ t)
  fixed_tail bs len rest f = record { prefix = f.prefix; splits = splits_tail bs len f.prefix rest f.splits }

  length_tail : (bs prefix rest : List ℕ) → LengthAt bs prefix rest → LengthAt (bs ++ t) prefix (rest ++ t)
  length_tail bs prefix rest l = record { len = l.len; mid = l.mid ++ t; reads = number_tail bs l.len l.mid l.reads; splits = splits_tail l.mid l.len prefix rest l.splits }

  value_tail : (wire : WireType) (bs : List ℕ) (x : Contents) (rest : List ℕ) → ValueAt wire bs x rest → ValueAt wire (bs ++ t) x (rest ++ t)
  value_tail wires.Varint bs (number n) rest at = number_tail bs n rest at
  value_tail wires.Fixed64 bs skipped rest at = fixed_tail bs 8 rest at
  value_tail wires.Fixed32 bs skipped rest at = fixed_tail bs 4 rest at
  value_tail wires.LengthDelimited bs (bytes b) rest at = length_tail bs b rest at
  value_tail _ _ _ _ at = absurd at

  skip_item_tail : (wire : WireType) (n : ℕ) (open_groups bs inner rest : List ℕ) → SkipsItem wire n open_groups bs inner rest → SkipsItem wire n open_groups (bs ++ t) inner (rest ++ t)
  skip_item_tail wires.StartGroup n open_groups bs inner rest p = (p.0, p.1, ap (λ (x : List ℕ). x ++ t) p.2)
  skip_item_tail wires.EndGroup n open_groups bs inner rest p = (p.0, ap (λ (x : List ℕ). x ++ t) p.1)
  skip_item_tail wires.Varint n open_groups bs inner rest p = (p.0, p.1, value_tail wires.Varint bs p.1 rest p.2)
  skip_item_tail wires.Fixed64 n open_groups bs inner rest p = (p.0, p.1, value_tail wires.Fixed64 bs p.1 rest p.2)
  skip_item_tail wires.Fixed32 n open_groups bs inner rest p = (p.0, p.1, value_tail wires.Fixed32 bs p.1 rest p.2)
  skip_item_tail wires.LengthDelimited n open_groups bs inner rest p = (p.0, p.1, value_tail wires.LengthDelimited bs p.1 rest p.2)

  item_tail : {open_groups bs inner rest : List ℕ} → GroupItem open_groups bs inner rest → GroupItem open_groups (bs ++ t) inner (rest ++ t)
  item_tail {open_groups} {bs} {inner} {rest} k = record { field_number = k.field_number; wire_type = k.wire_type; mid = k.mid ++ t; is_nonempty = k.is_nonempty; key = key_tail bs k.field_number k.wire_type k.mid k.key; skips_item = skip_item_tail k.wire_type k.field_number open_groups k.mid inner rest k.skips_item }

  items_tail : {open_groups bs inner rest : List ℕ} → GroupItems open_groups bs inner rest → GroupItems open_groups (bs ++ t) inner (rest ++ t)
  items_tail no_items = no_items
  items_tail (item_then k ks) = item_then (item_tail k) (items_tail ks)

  contents_at_tail : (wire : WireType) (n : ℕ) (bs : List ℕ) (x : Contents) (rest : List ℕ) → ContentsAt wire n bs x rest → ContentsAt wire n (bs ++ t) x (rest ++ t)
  contents_at_tail wires.StartGroup n bs skipped rest h = items_tail h
  contents_at_tail wires.StartGroup n bs (number k) rest h = absurd h
  contents_at_tail wires.StartGroup n bs (bytes k) rest h = absurd h
  contents_at_tail wires.EndGroup n bs x rest h = value_tail wires.EndGroup bs x rest h
  contents_at_tail wires.Varint n bs x rest h = value_tail wires.Varint bs x rest h
  contents_at_tail wires.Fixed64 n bs x rest h = value_tail wires.Fixed64 bs x rest h
  contents_at_tail wires.Fixed32 n bs x rest h = value_tail wires.Fixed32 bs x rest h
  contents_at_tail wires.LengthDelimited n bs x rest h = value_tail wires.LengthDelimited bs x rest h

  field_tail : (m : Message) (bs : List ℕ) (p : FieldValue) (rest : List ℕ) → FieldAt m bs p rest → FieldAt m (bs ++ t) p (rest ++ t)
  field_tail m bs p rest f = record { wire_type = f.wire_type; mid = f.mid ++ t; key = key_tail bs p.field_number f.wire_type f.mid f.key; is_accepted = f.is_accepted; contents_at = contents_at_tail f.wire_type p.field_number f.mid p.contents rest f.contents_at }

module _ (Submessage : Message → List ℕ → Type 0) (m : Message) where
  pub fields_tail : (t bs : List ℕ) (ps : List FieldValue) (rest : List ℕ) → FieldsWith Submessage m bs ps rest → FieldsWith Submessage m (bs ++ t) ps (rest ++ t)
  fields_tail t bs [] rest f = ap (λ (x : List ℕ). x ++ t) f
  fields_tail t bs (p ∷ ps) rest f = (f.0 ++ t, field_tail t m bs p f.0 f.1, f.2, fields_tail t f.0 ps rest f.3)

  pub fields_join : (bs : List ℕ) (ps : List FieldValue) (mid : List ℕ) (qs : List FieldValue) (rest : List ℕ) → FieldsWith Submessage m bs ps mid → FieldsWith Submessage m mid qs rest → FieldsWith Submessage m bs (ps ++ qs) rest
  fields_join bs [] mid qs rest f g = rw f g
  fields_join bs (p ∷ ps) mid qs rest f g = (f.0, f.1, f.2, fields_join f.0 ps mid qs rest f.3 g)

  -- the concatenation of two messages is a message with the fields of both
  pub messages_join : (a b : List ℕ) (ps qs : List FieldValue) → FieldsWith Submessage m a ps [] → FieldsWith Submessage m b qs [] → FieldsWith Submessage m (a ++ b) (ps ++ qs) []
  messages_join a b ps qs f g = fields_join (a ++ b) ps b qs [] (fields_tail b a ps [] f) g
