-- A scripted source.
use Rattle.std.specs.Prelude.{ℕ, List, false, drop, Some}
use Rattle.perfdata_sources.specs.Source.{State}
use Rattle.perfdata_sources.specs.declared.source.script.Script.{Script}

-- the state of a script: its bytes are all that it will ever show
abbrev pub script_state : Script → State
script_state s = record {
  bytes = Some (drop s.position s.bytes.items);
  errors = s.errors;
  pauses = s.pauses;
  steady = false;
  position = Some (record { all_bytes = s.bytes.items; offset = s.position });
}

-- the state of a script before its first read
abbrev pub unread_script_state : List ℕ → State
unread_script_state bytes = record { bytes = Some bytes; errors = 0; pauses = 0; steady = false; position = Some (record { all_bytes = bytes; offset = 0 }) }
