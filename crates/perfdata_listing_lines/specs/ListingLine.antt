-- The text of a listing's line: decimal numbers, separated by one space, and a newline.
use Rattle.std.specs.Prelude.{◌≡◌, ℕ, List, [], ◌∷◌, ◌++◌, length, codes, Option, None, Some}
use Rattle.std.specs.Option.{option_map}
use Rattle.std.specs.Fmt.{decimal}
use Rattle.linux_perf_data.specs.Layout.{RecordView}
use Rattle.perfdata_jit.specs.declared.record.JitDumpRawRecord.{JitDumpRawRecord}

-- a decimal number, or a dash for none
abbrev pub decimal_or_dash : Option ℕ → List ℕ
decimal_or_dash None = 45 ∷ []
decimal_or_dash (Some n) = decimal n

-- a field and the rest of the line, separated by one space
abbrev pub space_separated : List ℕ → List ℕ → List ℕ
space_separated field rest = field ++ (32 ∷ rest)

-- the line of a record: OFFSET ROUND TIME ATTR TYPE MISC BODYLEN
abbrev pub record_text : ℕ → ℕ → Option ℕ → Option ℕ → ℕ → ℕ → ℕ → List ℕ
record_text offset round time attr record_type misc body_length =
    space_separated (decimal offset) (space_separated (decimal round) (space_separated (decimal_or_dash time) (space_separated (decimal_or_dash attr)
    (space_separated (decimal record_type) (space_separated (decimal misc) (decimal body_length ++ (10 ∷ [])))))))

-- the line of a record that a reader returned
abbrev pub record_line : RecordView → List ℕ
record_line h = record_text h.offset h.round h.timestamp (option_map (λ e. e.index) h.event) h.record_type h.misc (length h.body)

-- the plain line of a record
abbrev pub IsPlainLine : RecordView → List ℕ → Type 0
IsPlainLine h text = text ≡ record_line h

-- the line of a jitdump record: OFFSET TIME TYPE SIZE
abbrev pub jit_record_text : ℕ → ℕ → ℕ → ℕ → List ℕ
jit_record_text offset time record_type size =
    space_separated (decimal offset) (space_separated (decimal time) (space_separated (decimal record_type) (decimal size ++ (10 ∷ []))))

-- the line of a record that a reader of jitdumps returned
abbrev pub raw_record_text : JitDumpRawRecord → List ℕ
raw_record_text r = jit_record_text r.start_offset r.timestamp r.record_type.0 r.record_size

-- the line of an error after `records` records
abbrev pub error_text : ℕ → List ℕ
error_text records = codes "perflist: fault after " ++ decimal records ++ codes " records\n"
