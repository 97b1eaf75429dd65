-- The events in simpleperf's meta info: a line for each, with its name, type and config, separated by commas.
use Rattle.std.specs.Prelude.{◌≡◌, ℕ, ◌^◌, ◌<◌, ◌==◌, List, [], ◌∷◌, ◌++◌, length, map, Option, None, Some, Result, Ok, Err, Vec, string_bytes}
use Rattle.std.specs.List.{slice_split}
use Rattle.std.specs.Str.Parse.{IsNumeral, digits_value, without_leading_plus}
use Rattle.std.specs.declared.alloc.AllocError.{AllocError}
use Rattle.std.specs.declared.alloc.Global.{Global}
use Rattle.perfdata_sections.specs.declared.event_type.SimplePerfEventType.{SimplePerfEventType}

-- the name, type and config of an event
pub record EventType : Type 0 where
  pub name : List ℕ
  pub type_ : ℕ
  pub config : ℕ

abbrev pub event_type_of : SimplePerfEventType → EventType
event_type_of e = record { name = string_bytes e.name; type_ = e.type_; config = e.config }

-- the lines of a text, separated by newlines
abbrev pub text_lines : List ℕ → List (List ℕ)
text_lines text = slice_split (λ b. b == 10) text

-- the fields of a line, separated by commas
abbrev pub line_fields : List ℕ → List (List ℕ)
line_fields line = slice_split (λ b. b == 44) line

-- the text is a number below 2^64: one decimal digit or more, optionally after a plus sign
pub record IsNumber (text : List ℕ) (n : ℕ) : Type 0 where
  pub numeral : IsNumeral 10 (without_leading_plus text)
  pub value : n ≡ digits_value 10 (without_leading_plus text)
  pub fits_u64 : n < 2 ^ 64

-- the first three fields of a line are an event's name, type and config
abbrev pub DescribesEvent : List (List ℕ) → EventType → Type 0
DescribesEvent (name ∷ type_ ∷ config ∷ more) e = (e.name ≡ name) × IsNumber type_ e.type_ × IsNumber config e.config
DescribesEvent _ e = ⊥

-- each of these lines describes an event
abbrev pub DescribeEvents : List (List ℕ) → List EventType → Type 0
DescribeEvents [] es = es ≡ []
DescribeEvents (line ∷ more) [] = ⊥
DescribeEvents (line ∷ more) (e ∷ es) = DescribesEvent (line_fields line) e × DescribeEvents more es

-- the key whose value lists the events
abbrev pub event_type_info : List ℕ
event_type_info = 101 ∷ 118 ∷ 101 ∷ 110 ∷ 116 ∷ 95 ∷ 116 ∷ 121 ∷ 112 ∷ 101 ∷ 95 ∷ 105 ∷ 110 ∷ 102 ∷ 111 ∷ []

-- there is a value, and it describes these events and no others
abbrev pub DescribesEventTypes : Option (List ℕ) → List EventType → Type 0
DescribesEventTypes None es = ⊥
DescribesEventTypes (Some text) es = DescribeEvents (text_lines text) es

-- at least one line at the start of the text describes an event, as do all lines before it
pub record BeginsWithEvents (text : List ℕ) : Type 0 where
  pub lines : List (List ℕ)
  pub rest : List (List ℕ)
  pub events : List EventType
  pub split : text_lines text ≡ lines ++ rest
  pub is_nonempty : 0 < length events
  pub valid_lines : DescribeEvents lines events

-- there is a value, and it begins with lines that describe events
abbrev pub ValueBeginsWithEvents : Option (List ℕ) → Type 0
ValueBeginsWithEvents None = ⊥
ValueBeginsWithEvents (Some text) = BeginsWithEvents text

-- the result of parsing: the events, or `None` if the value describes no list of events
abbrev pub ParsesEventTypes : Option (List ℕ) → Option (Vec SimplePerfEventType Global) → Type 0
ParsesEventTypes value (Some v) = DescribesEventTypes value (map event_type_of v.items)
ParsesEventTypes value None = (es : List EventType) → ¬ DescribesEventTypes value es

-- the result of parsing the value of the key, if there is one; memory runs out only for a line that describes an event
abbrev pub ReturnsEventTypes : Option (List ℕ) → Result (Option (Vec SimplePerfEventType Global)) AllocError → Type 0
ReturnsEventTypes value (Ok events) = ParsesEventTypes value events
ReturnsEventTypes value (Err e) = ValueBeginsWithEvents value
