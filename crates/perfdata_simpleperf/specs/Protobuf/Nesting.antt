-- Nested groups: complete fields, some of them groups of complete fields.
use Rattle.std.specs.Prelude.{ℕ, suc, List}
use Rattle.perfdata_simpleperf.specs.declared.protobuf.wire.WireType.{WireType}
use Rattle.perfdata_simpleperf.specs.declared.protobuf.wire.WireType.TheVariants as wires
use Rattle.perfdata_simpleperf.specs.Protobuf.WireFormat.{KeyAt, Contents, ValueAt}

-- the first list consists of complete fields, with groups nested at most `depth` deep, followed by the second list
pub data Nested : ℕ → List ℕ → List ℕ → Type 0 where
  done : {depth : ℕ} {bs : List ℕ} → Nested depth bs bs
  field : {depth : ℕ} {bs last : List ℕ} (n : ℕ) (wire : WireType) (mid : List ℕ) (x : Contents) (rest : List ℕ) → KeyAt bs n wire mid
      → ValueAt wire mid x rest → Nested depth rest last → Nested depth bs last
  group : {depth : ℕ} {bs last : List ℕ} (n : ℕ) (mid end after : List ℕ) → KeyAt bs n wires.StartGroup mid → Nested depth mid end
      → KeyAt end n wires.EndGroup after → Nested (suc depth) after last → Nested (suc depth) bs last

-- the rest of a group after its start key: complete fields, with groups nested at most 99 deep, and the end key
pub record IsNestedGroup (n : ℕ) (bs rest : List ℕ) : Type 0 where
  pub end : List ℕ
  pub fields : Nested 99 bs end
  pub ends : KeyAt end n wires.EndGroup rest
