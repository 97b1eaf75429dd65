-- The fields of a sample up to its call chain, as far as its body contains them.
use Rattle.std.specs.Prelude.{◌≡◌, ℕ, true, false, List, Option}
use Rattle.std.specs.Option.{option_map}
use Rattle.std.specs.declared.io.ErrorKind.{ErrorKind}
use Rattle.perfdata_sources.specs.Endian.{number_in}
use Rattle.perfdata_identifiers.specs.ParseInfo.{is_set}
use Rattle.perfdata_events.specs.CallChain.{chain, chain_values_of}
use Rattle.perfdata_events.specs.Event.{has_known_fields}
use Rattle.perfdata_events.specs.Fields.{u64_at}
use Rattle.perfdata_events.specs.Format.{Outcome, encodes, fails, both, led, optional}
use Rattle.perfdata_events.specs.ReadValues.{Values, read_values}
use Rattle.perfdata_events.specs.Sample.{origin_words, event_words, sample_start}
use Rattle.perfdata_events.specs.SampleFormat.{PERIOD, READ, CALLCHAIN}
use Rattle.perfdata_events.specs.Words.{word}
use Rattle.perfdata_events.specs.declared.format.EventFormat.{EventFormat}
use Rattle.perfdata_arrays.specs.declared.samples.body.SampleWords.{SampleWords}
use Rattle.perfdata_events.specs.declared.sample.words.EventFields.{EventFields}
use Rattle.perfdata_events.specs.declared.sample.words.OriginFields.{OriginFields}
use Rattle.perfdata_arrays.specs.declared.samples.body.BodyError.TheVariants.{Truncated, UnknownFields}
use Rattle.perfdata_arrays.specs.declared.samples.body.SampleBody.{SampleBody}
use Rattle.perfdata_arrays.specs.declared.samples.body.SampleBody.TheVariants.{Complete, Words, Nothing}

-- The bits of the words up to the period: 0 to 3 and 6 to 9, and 16.
abbrev pub word_bits : ℕ
word_bits = 66511

-- The words of a sample, each a value and then the others.
abbrev pub WordValues : Type 0
WordValues = OriginFields × (EventFields × Option ℕ)

abbrev pub values_of_words : SampleWords → WordValues
values_of_words v = (v.origin, (v.event, v.period))

module _ (format : EventFormat) where
  abbrev pub number : ℕ → List ℕ → ℕ
  number = number_in format.endian

  abbrev pub bits : ℕ
  bits = format.sample_format.0

  -- The words up to the period.
  abbrev pub words : List ℕ → Outcome WordValues → Type 0
  words = both (origin_words number bits) (λ _. both (event_words number bits) (λ _. word (is_set bits PERIOD) (u64_at number 0)))

  -- The call chain, after the counter values.
  abbrev pub chain_after_values : List ℕ → Outcome (Option (List ℕ)) → Type 0
  chain_after_values = led (optional (is_set bits READ) (read_values number format.read_format.0)) (λ _. optional (is_set bits CALLCHAIN) (chain number))

  -- All fields up to the call chain are these.
  pub record StartsWith (body : List ℕ) (v : SampleWords) (chain_values : Option (List ℕ)) : Type 0 where
    pub known : has_known_fields format ≡ true
    pub values : Option Values
    pub rest : List ℕ
    pub start_is : sample_start number format body (encodes (v.origin, (v.event, (v.period, (values, chain_values)))) rest)

  -- The words are these. The format has fields that aren't known.
  pub record HasUnknownFields (body : List ℕ) (v : SampleWords) : Type 0 where
    pub unknown : has_known_fields format ≡ false
    pub rest : List ℕ
    pub words_are : words body (encodes (values_of_words v) rest)

  -- The words are these. The counter values or the call chain after them are truncated.
  pub record IsTruncatedAfterWords (body : List ℕ) (v : SampleWords) : Type 0 where
    pub known : has_known_fields format ≡ true
    pub rest : List ℕ
    pub words_are : words body (encodes (values_of_words v) rest)
    pub kind : ErrorKind
    pub error : chain_after_values rest (fails kind)

  -- What a body contains.
  abbrev pub IsBody : List ℕ → SampleBody → Type 0
  IsBody body (Complete v call_chain) = StartsWith body v (option_map chain_values_of call_chain)
  IsBody body (Words v UnknownFields) = HasUnknownFields body v
  IsBody body (Words v Truncated) = IsTruncatedAfterWords body v
  IsBody body Nothing = (kind : ErrorKind) × words body (fails kind)
