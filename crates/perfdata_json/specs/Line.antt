-- The line of a record.
use Rattle.std.specs.Prelude.{◌≡◌, ℕ, List, [], ◌∷◌, ◌++◌, drop}
use Rattle.linux_perf_data.specs.Layout.{RecordView}
use Rattle.perfdata_json.specs.declared.line.JsonLine.{JsonLine}

-- the text of a line, behind its margin
abbrev pub json_text : JsonLine → List ℕ
json_text l = drop l.start l.bytes.items

-- a line of a record: a JSON object and a newline
pub record IsLineOf (h : RecordView) (text : List ℕ) : Type 0 where
  pub json : List ℕ
  pub is : text ≡ json ++ (10 ∷ [])
