-- Unknown groups: the bytes from after a group's start key to after its end key.
use Rattle.std.specs.Prelude.{◌≡◌, ℕ, ◌<◌, ◌≤◌, ◌⊎◌, List, [], ◌∷◌, ◌++◌, length}
use Rattle.perfdata_sections.specs.declared.decode_error.DecodeError.{DecodeError}
use Rattle.perfdata_sections.specs.declared.decode_error.DecodeError.TheVariants as errors
use Rattle.perfdata_simpleperf.specs.declared.protobuf.wire.WireType.{WireType}
use Rattle.perfdata_simpleperf.specs.declared.protobuf.wire.WireType.TheVariants as wires
use Rattle.perfdata_simpleperf.specs.Protobuf.WireFormat.{KeyAt, KeyError, Contents, ValueAt, ValueError}

-- `rest` follows a key of this wire type and number, and the value of the key if it has one. `open_groups` contains the numbers
-- of the groups that are open at the key, the outermost first, and `inner` those of the groups that are open at `rest`.
abbrev pub SkipsItem : WireType → ℕ → List ℕ → List ℕ → List ℕ → List ℕ → Type 0
SkipsItem wires.StartGroup number open_groups bytes inner rest = (length open_groups < 100) × (inner ≡ open_groups ++ number ∷ []) × (bytes ≡ rest)
SkipsItem wires.EndGroup number open_groups bytes inner rest = (open_groups ≡ inner ++ number ∷ []) × (bytes ≡ rest)
SkipsItem wire number open_groups bytes inner rest = (open_groups ≡ inner) × (x : Contents) × ValueAt wire bytes x rest

-- an item of a group: a field, or the key that starts or ends a group
pub record GroupItem (open_groups bytes inner rest : List ℕ) : Type 0 where
  pub field_number : ℕ
  pub wire_type : WireType
  pub mid : List ℕ
  pub is_nonempty : 0 < length open_groups
  pub key : KeyAt bytes field_number wire_type mid
  pub skips_item : SkipsItem wire_type field_number open_groups mid inner rest

-- consecutive complete items
pub data GroupItems : List ℕ → List ℕ → List ℕ → List ℕ → Type 0 where
  no_items : {open_groups bytes : List ℕ} → GroupItems open_groups bytes open_groups bytes
  item_then : {open_groups bytes inner mid last rest : List ℕ} → GroupItem open_groups bytes inner mid → GroupItems inner mid last rest
      → GroupItems open_groups bytes last rest

-- the rest of a group after its start key, up to its end
abbrev pub GroupAt : ℕ → List ℕ → List ℕ → Type 0
GroupAt number bytes rest = GroupItems (number ∷ []) bytes [] rest

-- the error after a key
abbrev pub SkipItemError : WireType → ℕ → List ℕ → List ℕ → DecodeError → Type 0
SkipItemError wires.StartGroup number open_groups bytes errors.Depth = 100 ≤ length open_groups
SkipItemError wires.EndGroup number open_groups bytes errors.Group = (outer : List ℕ) → open_groups ≡ outer ++ number ∷ [] → ⊥
SkipItemError wire number open_groups bytes e = ValueError wire bytes e

pub record AfterKey (bytes : List ℕ) (IsError : ℕ → WireType → List ℕ → Type 0) : Type 0 where
  pub field_number : ℕ
  pub wire_type : WireType
  pub mid : List ℕ
  pub key : KeyAt bytes field_number wire_type mid
  pub error : IsError field_number wire_type mid

abbrev pub GroupItemError : List ℕ → List ℕ → DecodeError → Type 0
GroupItemError open_groups bytes e = KeyError bytes e ⊎ AfterKey bytes (λ number wire mid. SkipItemError wire number open_groups mid e)

-- complete items, followed by an error before the group ends
pub record GroupError (number : ℕ) (bytes : List ℕ) (e : DecodeError) : Type 0 where
  pub open_groups : List ℕ
  pub mid : List ℕ
  pub earlier : GroupItems (number ∷ []) bytes open_groups mid
  pub is_nonempty : 0 < length open_groups
  pub error_here : GroupItemError open_groups mid e
