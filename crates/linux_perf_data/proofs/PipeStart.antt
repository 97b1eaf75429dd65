-- The opening of a pipe determines a file and an iterator over its records.
use Rattle.std.proofs.Common.{◌≡◌, ℕ, ◌<◌, ◌≤◌, ◌++◌, List, refl, sym, ap, ◌∙◌, subst, inl, inr, append_assoc, Option, None, Some, arith}
use Rattle.std.specs.Prelude.{◌⊎◌, ◌↔◌, ◌+◌, IsSome, IfOk, Result, Ok, Err}
use Rattle.linux_perf_data.specs.Pauses.{PausesOnlyAtEnd}
use Rattle.linux_perf_data.specs.steps.Pauses.{PausesOnlyInEndedOpening}
use Rattle.std.specs.List.{concat}
use Rattle.perfdata_sources.specs.Source.{State, prepend, Consumed, EndedOrPaused}
use Rattle.perfdata_identifiers.specs.Features.{HasFeature}
use Rattle.perfdata_sections.specs.declared.error.Error.{Error}
use Rattle.linux_perf_data.specs.declared.file_reader.PerfFileReader.{PerfFileReader}
use Rattle.linux_perf_data.specs.declared.pipe.opening.PipeOpening.{PipeOpening}
use Rattle.linux_perf_data.specs.declared.records.input.RecordInput.TheVariants.{Pipe}
use Rattle.linux_perf_data.specs.Descriptions.{described_attributes}
use Rattle.linux_perf_data.specs.RecordInput.{section_size_in, input_source_state, with_leading_bytes}
use Rattle.linux_perf_data.specs.AttributeLookup.{Represents}
use Rattle.linux_perf_data.specs.Layout.{record_type_of, record_size_of}
use Rattle.linux_perf_data.specs.LateMetadata.{IsMetadataType}
use Rattle.linux_perf_data.specs.FeatureNumbers.{event_desc}
use Rattle.linux_perf_data.specs.Names.{NamedByEventDesc}
use Rattle.linux_perf_data.specs.PerfFile.{descriptions_of_file}
use Rattle.linux_perf_data.specs.PipeOpening.{IsPipeHeader, AreMetadata, MetadataEnded, feature_data_in}
use Rattle.linux_perf_data.specs.steps.PipeOpening.{HoldsPipeMetadata, PipeOpened}
use Rattle.linux_perf_data.specs.OpenedPipe.{EndsInOpening, HoldsMetadata, KeepsPendingHeader, PipeParsed, ParsesPipe, without_position}
use Rattle.linux_perf_data.specs.steps.OpenedPipe.{StageAfterOpening, PipeReaderBuilt, BuildsPipeReader}

prepend_append : (a b : List ℕ) (o : Option (List ℕ)) → prepend (a ++ b) o ≡ prepend a (prepend b o)
prepend_append a b None = refl
prepend_append a b (Some xs) = ap Some (append_assoc a b xs)

-- The bytes consumed before a pending header, in the view of a reader that keeps the header.
consumed_before : (old new : State) (first_part record_header : List ℕ) → Consumed old (first_part ++ record_header) new → Consumed (without_position old) first_part (with_leading_bytes record_header new)
consumed_before old new first_part record_header g = record {
  bytes = g.bytes ∙ prepend_append first_part record_header new.bytes;
  position = refl;
  errors = g.errors;
  pauses = g.pauses;
  steady = λ h. let s = g.steady h in record { steady = s.steady; errors = s.errors; pauses = s.pauses };
}

consumed_header : (s : State) (record_header : List ℕ) → Consumed (with_leading_bytes record_header s) record_header (without_position s)
consumed_header s record_header = record { bytes = refl; position = refl; errors = omega arith; pauses = omega arith; steady = λ h. record { steady = h; errors = refl; pauses = refl } }

module _ {R : Type 0} (state : R → State) (source : R) (opening : PipeOpening) (r : PerfFileReader R) (starts : PipeReaderBuilt state source opening r) where
  holds : (pieces : List (List ℕ)) → HoldsPipeMetadata opening.perf_file.endian pieces opening → HoldsMetadata opening.perf_file.endian pieces r.perf_file
  holds pieces described = record {
    file_endian = starts.file_endian;
    contents = record {
      attributes = ap described_attributes starts.attributes ∙ described.contents.attributes;
      feature_data = λ n. starts.sections n ∙ described.contents.feature_data n;
      features = λ n. subst (λ f. HasFeature f n ↔ ((n < 256) × IsSome (feature_data_in opening.perf_file.endian pieces n))) (sym starts.features) (described.contents.features n);
    };
    names_match = subst (λ d. NamedByEventDesc opening.perf_file.endian d (descriptions_of_file r.perf_file)) (sym (starts.sections event_desc ∙ described.contents.feature_data event_desc))
        (subst (λ ds. NamedByEventDesc opening.perf_file.endian (feature_data_in opening.perf_file.endian pieces event_desc) ds) (sym starts.attributes) described.names_match);
  }

  at_source : (old : State) (first_part : List ℕ) → Consumed old first_part (state source) → Consumed old first_part (state r.record_iter.source)
  at_source old first_part g = subst (λ s. Consumed old first_part (state s)) (sym starts.same_source) g

  keeps : (old : State) (first_part last record_header : List ℕ) → opening.pending_header ≡ Some record_header → Consumed old (first_part ++ last) (state source) → MetadataEnded opening.perf_file.endian (Some record_header) old last (state source)
      → StageAfterOpening state (Some record_header) r.record_iter → KeepsPendingHeader state old first_part r.record_iter
  keeps old first_part last record_header is consumption ended runs =
      let same = ended.0 in
      let consumed_all : Consumed old (first_part ++ record_header) (state source) = subst (λ l. Consumed old (first_part ++ l) (state source)) same consumption in
      let input = starts.input ∙ ap Pipe is in record {
        stage_running = runs;
        header_bytes = record_header;
        exact_len = ended.1;
        min_size = subst (λ o. 8 ≤ record_size_of o record_header) (sym starts.same_endian) ended.2;
        not_metadata = λ metadata. ended.3 (subst (λ o. IsMetadataType (record_type_of o record_header)) starts.same_endian metadata);
        consumes_all = at_source old (first_part ++ record_header) consumed_all;
        consumes = subst (λ i. Consumed (without_position old) first_part (input_source_state i (state r.record_iter.source))) (sym input)
            (subst (λ s. Consumed (without_position old) first_part (with_leading_bytes record_header (state s))) (sym starts.same_source) (consumed_before old (state source) first_part record_header consumed_all));
        consumes_header = subst (λ i. Consumed (input_source_state i (state r.record_iter.source)) record_header (without_position (state r.record_iter.source))) (sym input) (consumed_header (state r.record_iter.source) record_header);
      }

  ends : (old : State) (first_part last : List ℕ) → Consumed old (first_part ++ last) (state source) → MetadataEnded opening.perf_file.endian None old last (state source) → StageAfterOpening state None r.record_iter → EndsInOpening state old first_part r.record_iter
  ends old first_part last consumption ended stage = record {
    stage_ended = stage;
    last_bytes = last;
    too_few = ended.0;
    consumes_all = at_source old (first_part ++ last) consumption;
    ended_or_paused = subst (λ s. EndedOrPaused old (state s)) (sym starts.same_source) ended.1;
  }

  stands : (old : State) (first_part last : List ℕ) → Consumed old (first_part ++ last) (state source) → (record_header : Option (List ℕ)) → opening.pending_header ≡ record_header → MetadataEnded opening.perf_file.endian record_header old last (state source)
      → StageAfterOpening state record_header r.record_iter → KeepsPendingHeader state old first_part r.record_iter ⊎ EndsInOpening state old first_part r.record_iter
  stands old first_part last consumption None is ended stage = inr (ends old first_part last consumption ended stage)
  stands old first_part last consumption (Some record_header) is ended stage = inl (keeps old first_part last record_header is consumption ended stage)

  pub builds_pipe_reader : (old : State) → PipeOpened old opening (state source) → PipeParsed state old r.perf_file r.record_iter
  builds_pipe_reader old o =
      let step = o.opening_read in record {
        offset = starts.offset;
        round = starts.round;
        section_size = ap section_size_in starts.input;
        same_endian = starts.same_endian ∙ sym starts.file_endian;
        represents = subst (λ e. Represents e r.record_iter.attribute_lookup (described_attributes (descriptions_of_file r.perf_file))) (sym starts.same_endian)
            (subst (λ ds. Represents opening.perf_file.endian r.record_iter.attribute_lookup (described_attributes ds)) (sym starts.attributes) starts.represents);
        header = step.header;
        raw_records = o.raw_records;
        matches = subst (λ e. IsPipeHeader e step.header) (sym starts.same_endian) step.matches;
        elements = subst (λ e. AreMetadata e o.raw_records) (sym starts.same_endian) step.elements;
        metadata = subst (λ e. HoldsMetadata e o.raw_records r.perf_file) (sym starts.same_endian) (holds o.raw_records o.metadata);
        end_of_opening = stands old (step.header ++ concat o.raw_records) step.last_bytes (subst (λ b. Consumed old b (state source)) (sym (append_assoc step.header (concat o.raw_records) step.last_bytes)) step.consumes)
            opening.pending_header refl step.metadata_end starts.stage;
      }

-- the pipe is opened, or memory runs out for the iterator's attribute lookup
pub parses_pipe : {R : Type 0} (state : R → State) (source : R) (opening : PipeOpening) (r : Result (PerfFileReader R) Error) → BuildsPipeReader state source opening r → (old : State) → PipeOpened old opening (state source) → ParsesPipe state old r
parses_pipe state source opening (Ok r) starts old o = builds_pipe_reader state source opening r starts old o
parses_pipe state source opening (Err e) is old o = record {
  final_state = state source;
  error = record { consumed_bytes = o.opening_read.header ++ (concat o.raw_records ++ o.opening_read.last_bytes); consumes = o.opening_read.consumes; cause = λ other. absurd (other is) };
}

-- a pipe's opening counts at most one pause
at_most_one_pause : {A : Type 0} (a b : State) (next : Option A) → PausesOnlyAtEnd a next b → b.pauses ≤ a.pauses + 1
at_most_one_pause a b None pauses = pauses
at_most_one_pause a b (Some x) pauses = omega (arith, pauses)

pub reader_pauses : {R : Type 0} (state : R → State) (source : R) (opening : PipeOpening) (r : Result (PerfFileReader R) Error) (old : State) → BuildsPipeReader state source opening r → PausesOnlyInEndedOpening {E = Error} old (Ok opening) (state source) → IfOk r (λ r. (state r.record_iter.source).pauses ≤ old.pauses + 1)
reader_pauses state source opening (Ok r) old starts pauses = subst (λ s. (state s).pauses ≤ old.pauses + 1) (sym starts.same_source) (at_most_one_pause old (state source) opening.pending_header pauses)
reader_pauses state source opening (Err e) old is pauses = tt
