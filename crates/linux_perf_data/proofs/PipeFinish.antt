-- Metadata records determine a pipe opening, or the error.
use Rattle.std.proofs.Common.{◌≡◌, ◌≢◌, ℕ, ◌≤◌, ◌++◌, List, [], ◌∷◌, length, take, drop, refl, sym, ap, ◌∙◌, subst, arith, inl, inr, length-append, append_assoc, eq-eqb, Option, None, Some}
use Rattle.std.specs.Prelude.{◌==◌, Bool, true, false, Result, Ok, Err}
use Rattle.std.specs.List.{concat}
use Rattle.std.proofs.lemmas.Bool.{false≢true}
use Rattle.std.proofs.lemmas.List.{take-append-le}
use Rattle.perfdata_sources.specs.Source.{State}
use Rattle.perfdata_sources.proofs.ConsumedLemmas.{consumed_more}
use Rattle.perfdata_identifiers.specs.Features.{HasFeature}
use Rattle.perfdata_base.specs.Header.{endian_by_first_byte, magic_of}
use Rattle.perfdata_sources.specs.Endian.{number_in}
use Rattle.perfdata_base.specs.PipeHeader.{PipeHeaderWithExtraParsed, pipe_header_of}
use Rattle.perfdata_base.specs.declared.header.pipe.PerfPipeHeader.{PerfPipeHeader}
use Rattle.perfdata_sources.specs.declared.endian.Endianness.{Endianness}
use Rattle.perfdata_sources.specs.declared.endian.Endianness.TheVariants.{LittleEndian, BigEndian}
use Rattle.perfdata_sources.proofs.Numbers.{number_drop_prefix}
use Rattle.perfdata_sections.specs.declared.error.Error.{Error}
use Rattle.perfdata_sections.specs.declared.error.Error.TheVariants.{Memory, NoAttributes, UnrecognizedMagicValue}
use Rattle.perfdata_sections.specs.declared.feature_sections.AttributeDescription.{AttributeDescription}
use Rattle.linux_perf_data.specs.Attribute.{AreInconsistent, AreConsistent}
use Rattle.linux_perf_data.specs.Descriptions.{described_attributes}
use Rattle.linux_perf_data.specs.LateMetadata.{IsMetadataType}
use Rattle.linux_perf_data.specs.Layout.{record_type_of, record_size_of}
use Rattle.linux_perf_data.specs.FeatureNumbers.{event_desc}
use Rattle.linux_perf_data.specs.Names.{IsReadableOrAbsent, NamedByEventDesc}
use Rattle.linux_perf_data.specs.steps.FileOpening.{RecognizesMagic}
use Rattle.linux_perf_data.specs.PipeOpening.{MetadataEnded, IsPipeHeader, FailsBy, IsMetadataReadError, IsPipeError, IsMetadataListError, OpeningRead, IsErrorCauseFor}
use Rattle.linux_perf_data.specs.steps.PipeOpening.{HoldsPipeMetadata, PipeOpened, OpensPerfPipe}
use Rattle.linux_perf_data.specs.steps.PipeSteps.{NamesConsistentAttributes, OpeningFinished, FinishesOpening, OpensAfterPipeHeader, IsFinishError, CollectsMetadata, MetadataRead}
use Rattle.linux_perf_data.specs.FeatureData.{feature_data_of}
use Rattle.linux_perf_data.specs.declared.metadata_records.PipeMetadata.{PipeMetadata}
use Rattle.linux_perf_data.specs.declared.pipe.opening.PipeOpening.{PipeOpening}
use Rattle.linux_perf_data.proofs.RecordHeaders.{record_type_prefix, size_first_part}
use Rattle.linux_perf_data.proofs.PipeErrors.{error_later, shows}
use Rattle.linux_perf_data.proofs.PipeMetadataRuns.{ended_later}

-- the names given to the attributes
pub names_kept : (order : Endianness) (desc described : Option (List ℕ)) (ds named : List AttributeDescription) → desc ≡ described → ds ≡ named → NamedByEventDesc order desc named → NamedByEventDesc order described ds
names_kept order desc described ds named is same names = subst (λ o. NamedByEventDesc order o ds) is (subst (NamedByEventDesc order desc) (sym same) names)

-- ---- the errors of an opening

pub not_none : (n : ℕ) → false ≡ (n == 0) → n ≢ 0
not_none n other is = false≢true (other ∙ eq-eqb n 0 is)

pub some_attributes : (ds : List AttributeDescription) → length ds ≢ 0 → described_attributes ds ≢ []
some_attributes [] some none = some refl
some_attributes (d ∷ ds) some none = cc

-- the metadata is invalid
pub finish_error : (order : Endianness) (m : PipeMetadata) (desc : Option (List ℕ)) (new : List AttributeDescription) (e : Error) → desc ≡ feature_data_of m.sections event_desc → NamesConsistentAttributes order desc m.attributes.items (Err e) new → e ≢ Memory → IsFinishError order m e
finish_error order m desc new e is (inl none) other = inl none
finish_error order m None new e is (inr (inl (some, failing))) other = absurd (other failing)
finish_error order m (Some bytes) new e is (inr (inl (some, failing))) other = inr (inl (bytes, some, sym is, failing other))
finish_error order m desc new e is (inr (inr (b, readable, breaks, described))) other =
    inr (inr (b, (λ bytes there. subst (IsReadableOrAbsent order) (is ∙ there) readable), breaks, described))

-- ---- after a header

module _ (order : Endianness) (a b : State) (m : PipeMetadata) (header_bytes : Option (List ℕ)) where
  -- the pipe is opened
  pub opens_after_header : (opening : PipeOpening) → (pieces : List (List ℕ)) × MetadataRead order pieces header_bytes a b × CollectsMetadata order pieces m → OpeningFinished order m header_bytes opening
      → (pieces : List (List ℕ)) × MetadataRead order pieces opening.pending_header a b × HoldsPipeMetadata order pieces opening
  opens_after_header opening (pieces, step, states) f = (
    pieces,
    subst (λ h. MetadataRead order pieces h a b) (sym f.pending_header) step,
    record {
      endian = f.endian;
      contents = record {
        attributes = f.attributes ∙ states.attributes;
        feature_data = λ n. f.sections n ∙ states.feature_data n;
        features = λ n. (
          λ has. (states.features n).0 (subst (λ s. HasFeature s n) f.features has),
          λ both. subst (λ s. HasFeature s n) (sym f.features) ((states.features n).1 both),
        );
      };
      names_match = subst (λ d. NamedByEventDesc order d opening.perf_file.attributes.items) (states.feature_data event_desc) f.names_match;
      nonempty = f.nonempty;
      consistent = subst AreConsistent (sym f.attributes) f.consistent;
    },
  )

  described_stops : (pieces : List (List ℕ)) (e : Error) → CollectsMetadata order pieces m → IsFinishError order m e → IsMetadataListError order pieces e
  described_stops pieces e states (inl (is, none)) = inl (is, sym states.attributes ∙ none)
  described_stops pieces e states (inr (inl (bytes, some, there, unread))) = inr (inl (bytes, (λ none. some (states.attributes ∙ none)), sym (states.feature_data event_desc) ∙ there, unread))
  described_stops pieces e states (inr (inr (b, names, breaks, is))) =
      inr (inr (b, (λ bytes there. names bytes (states.feature_data event_desc ∙ there)), subst (λ l. AreInconsistent l b) states.attributes breaks, is))

-- what ended the metadata records shows that no more follow
ended_cause : (order : Endianness) (a b : State) (pieces : List (List ℕ)) (header_bytes : Option (List ℕ)) (e : Error) (t : MetadataRead order pieces header_bytes a b) → MetadataEnded order header_bytes a t.last_bytes b → IsMetadataListError order pieces e
    → IsErrorCauseFor (IsMetadataReadError order) a (concat pieces ++ t.last_bytes) e b
ended_cause order a b pieces None e t (less, none) described =
    inr (inl (none, record { raw_records = pieces; after_records = t.last_bytes; split = refl; elements = t.elements; cause = inr ((λ long. absurd (omega (arith, long, less))), described) }))
ended_cause order a b pieces (Some header_bytes) e t (is, eight, least, other) described = inl (λ rest.
    let long : 8 ≤ length t.last_bytes = omega (arith, ap length is, eight) in
    let size : record_size_of order (t.last_bytes ++ rest) ≡ record_size_of order header_bytes = size_first_part order t.last_bytes rest long ∙ ap (record_size_of order) is in
    let kind : record_type_of order (t.last_bytes ++ rest) ≡ record_type_of order header_bytes = record_type_prefix order t.last_bytes rest long ∙ ap (record_type_of order) is in
    record {
      raw_records = pieces;
      after_records = t.last_bytes ++ rest;
      split = append_assoc (concat pieces) t.last_bytes rest;
      elements = t.elements;
      cause = inr ((λ _. (omega (arith, size, least), λ meta. other (subst IsMetadataType kind meta))), described);
    })

-- the opening fails
pub stops_after : (order : Endianness) (a b : State) (m : PipeMetadata) (header_bytes : Option (List ℕ)) (e : Error) → (pieces : List (List ℕ)) × MetadataRead order pieces header_bytes a b × CollectsMetadata order pieces m
    → (e ≢ Memory → IsFinishError order m e) → FailsBy (IsMetadataReadError order) a e b
stops_after order a b m header_bytes e (pieces, step, states) stops = record {
  consumed_bytes = concat pieces ++ step.last_bytes;
  consumes = step.consumes;
  cause = λ other. ended_cause order a b pieces header_bytes e step step.metadata_end (described_stops order a b m header_bytes pieces e states (stops other));
}

-- ---- the header

first_part_of : (bytes rest : List ℕ) → length bytes ≡ 16 → take 8 (bytes ++ rest) ≡ take 8 bytes
first_part_of bytes rest long = take-append-le 8 bytes rest (omega (arith, long))

-- the magic isn't that of a pipe
pub magic_error : (a b : State) (h : PerfPipeHeader) (e : Error) (whole : Bool) → PipeHeaderWithExtraParsed a h whole b → RecognizesMagic h.magic (Err e) → FailsBy IsPipeError a e b
magic_error a b h e whole t (is, none) =
    let magic : h.magic ≡ take 8 t.bytes = ap (λ x. x.magic) t.matches in
    shows IsPipeError a b (t.bytes ++ t.extra) e t.consumes (λ m rest.
    let same : take 8 ((t.bytes ++ t.extra) ++ rest) ≡ take 8 t.bytes = ap (take 8) (append_assoc t.bytes t.extra rest) ∙ first_part_of t.bytes (t.extra ++ rest) t.exact_len in
    let long = t.exact_len in
    inr (inl (
      is ∙ ap (λ x. UnrecognizedMagicValue x) (magic ∙ sym same),
      omega (arith, length-append (t.bytes ++ t.extra) rest, length-append t.bytes t.extra, long),
      λ order states. none order (magic ∙ sym same ∙ states),
    )))

-- the byte order of the magic is the one by which the header size is read
first_of : (order : Endianness) (bytes : List ℕ) → take 8 bytes ≡ magic_of order → endian_by_first_byte bytes ≡ order
first_of LittleEndian [] is = absurd cc
first_of BigEndian [] is = absurd cc
first_of LittleEndian (x ∷ xs) is =
    let first : x ≡ 80 = cc in
    rw first refl
first_of BigEndian (x ∷ xs) is =
    let first : x ≡ 50 = cc in
    rw first refl

size_described : (order : Endianness) (bytes rest : List ℕ) (h : PerfPipeHeader) → length bytes ≡ 16 → h ≡ pipe_header_of bytes → h.magic ≡ magic_of order → number_in order 8 (drop 8 (bytes ++ rest)) ≡ h.size
size_described order bytes rest h long is states =
    number_drop_prefix order 8 8 bytes rest (omega (arith, long))
    ∙ sym (ap (λ o. number_in o 8 (drop 8 bytes)) (first_of order bytes (sym (ap (λ x. x.magic) is) ∙ states)))
    ∙ sym (ap (λ x. x.size) is)

-- the header is truncated, and the pipe has no attributes
pub prefix_short : (a b : State) (h : PerfPipeHeader) (order : Endianness) → PipeHeaderWithExtraParsed a h false b → RecognizesMagic h.magic (Ok order) → FailsBy IsPipeError a NoAttributes b
prefix_short a b h order t states =
    let long = t.exact_len in
    let too_few = t.extra_complete.0 in
    let magic : take 8 (t.bytes ++ t.extra) ≡ magic_of order = first_part_of t.bytes t.extra t.exact_len ∙ sym (ap (λ x. x.magic) t.matches) ∙ states in
    let size : number_in order 8 (drop 8 (t.bytes ++ t.extra)) ≡ h.size = size_described order t.bytes t.extra h t.exact_len t.matches states in
    record {
      consumed_bytes = t.bytes ++ t.extra;
      consumes = t.consumes;
      cause = λ m. inr (inl (t.extra_complete.1, inr (inr (inl (order, refl, omega (arith, length-append t.bytes t.extra, long), magic, omega (arith, length-append t.bytes t.extra, long, too_few, size))))));
    }

-- the whole header is read
pub prefix_whole : (a b : State) (h : PerfPipeHeader) (order : Endianness) (t : PipeHeaderWithExtraParsed a h true b) → RecognizesMagic h.magic (Ok order) → IsPipeHeader order (t.bytes ++ t.extra)
prefix_whole a b h order t states =
    let long = t.exact_len in
    let all = t.extra_complete in
    let size : number_in order 8 (drop 8 (t.bytes ++ t.extra)) ≡ h.size = size_described order t.bytes t.extra h t.exact_len t.matches states in
    record {
      magic = first_part_of t.bytes t.extra t.exact_len ∙ sym (ap (λ x. x.magic) t.matches) ∙ states;
      exact_len = omega (arith, length-append t.bytes t.extra, long, all, size);
    }

-- an error after the header is an error of the pipe
pub after_error : (a b c : State) (h : PerfPipeHeader) (order : Endianness) (e : Error) → PipeHeaderWithExtraParsed a h true b → RecognizesMagic h.magic (Ok order) → FailsBy (IsMetadataReadError order) b e c → FailsBy IsPipeError a e c
after_error a b c h order e t states r =
    let header = t.bytes ++ t.extra in
    error_later (IsMetadataReadError order) IsPipeError a b c header e t.consumes r
    (λ xs stops. inr (inr (inr (record { endian = order; header = header; rest = xs; split = refl; matches = prefix_whole a b h order t states; metadata_error = stops }))))

-- the pipe is opened after the header
pub pipe_opened : (a b c : State) (h : PerfPipeHeader) (order : Endianness) (opening : PipeOpening) → PipeHeaderWithExtraParsed a h true b → RecognizesMagic h.magic (Ok order)
    → (pieces : List (List ℕ)) × MetadataRead order pieces opening.pending_header b c × HoldsPipeMetadata order pieces opening → PipeOpened a opening c
pipe_opened a b c h order opening t states (pieces, step, holds) =
    let header = t.bytes ++ t.extra in record {
      raw_records = pieces;
      opening_read = subst (λ o. OpeningRead o pieces opening.pending_header a c) (sym holds.endian) (record {
        header = header;
        last_bytes = step.last_bytes;
        matches = prefix_whole a b h order t states;
        elements = step.elements;
        consumes = consumed_more a b c header (concat pieces ++ step.last_bytes) t.consumes step.consumes;
        metadata_end = ended_later order a b c header step.last_bytes opening.pending_header t.consumes step.metadata_end;
      });
      metadata = subst (λ o. HoldsPipeMetadata o pieces opening) (sym holds.endian) holds;
    }

-- ---- the results of the last calls

pub after_done : (order : Endianness) (a b : State) (m : PipeMetadata) (header_bytes : Option (List ℕ)) (r : Result PipeOpening Error) → (pieces : List (List ℕ)) × MetadataRead order pieces header_bytes a b × CollectsMetadata order pieces m
    → FinishesOpening order m header_bytes r → OpensAfterPipeHeader order a r b
after_done order a b m header_bytes (Ok opening) described finished = opens_after_header order a b m header_bytes opening described finished
after_done order a b m header_bytes (Err e) described stops = stops_after order a b m header_bytes e described stops

pub pipe_done : (a b c : State) (h : PerfPipeHeader) (order : Endianness) (r : Result PipeOpening Error) → PipeHeaderWithExtraParsed a h true b → RecognizesMagic h.magic (Ok order) → OpensAfterPipeHeader order b r c → OpensPerfPipe a r c
pipe_done a b c h order (Ok opening) t states opens = pipe_opened a b c h order opening t states opens
pipe_done a b c h order (Err e) t states fails = after_error a b c h order e t states fails
