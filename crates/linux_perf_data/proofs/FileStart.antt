-- An opening determines a file and an iterator over its records.
use Rattle.std.proofs.Common.{◌≡◌, ℕ, List, drop, sym, ap, ◌∙◌, subst, Option, None, Some}
use Rattle.std.specs.Prelude.{IfSome, Result, Ok, Err}
use Rattle.perfdata_sources.specs.Source.{State, Position, AfterSeek, RemainsFromPosition, remaining_from}
use Rattle.perfdata_sources.specs.declared.endian.Endianness.{Endianness}
use Rattle.perfdata_sections.specs.declared.error.Error.{Error}
use Rattle.linux_perf_data.specs.declared.file.opening.FileOpening.{FileOpening}
use Rattle.linux_perf_data.specs.declared.file_reader.PerfFileReader.{PerfFileReader}
use Rattle.linux_perf_data.specs.Attribute.{Attribute, AreConsistent}
use Rattle.linux_perf_data.specs.Descriptions.{described_attributes}
use Rattle.linux_perf_data.specs.RecordInput.{section_size_in, input_source_state}
use Rattle.linux_perf_data.specs.Layout.{SectionSize, RecordView, LayoutEnd, RemainingRecords}
use Rattle.linux_perf_data.specs.Iter.{iter_source_state}
use Rattle.linux_perf_data.specs.PerfFile.{endian_of_file, attributes_of_file}
use Rattle.linux_perf_data.specs.FileOpening.{IsFileHeader, HoldsSections, section_data, DescribesAttributes}
use Rattle.linux_perf_data.specs.steps.FileOpening.{OpenedFileAt, FileOpened}
use Rattle.linux_perf_data.specs.OpenedFile.{DescribesFile, StartsReader, BuildsReader, FileOpensAt, FileParsed, ParsesFile}

module _ (attrs : List Attribute) (records : List RecordView) (end : LayoutEnd) where
  abbrev Comes : Option (List ℕ) → Endianness → SectionSize → ℕ → ℕ → Type 0
  Comes o order bound offset round = IfSome o (λ bytes. RemainingRecords order bytes bound offset round attrs records end)

  pub remaining_there : (o o' : Option (List ℕ)) (e e' : Endianness) (s s' : SectionSize) (f f' r r' : ℕ) → o ≡ o' → e ≡ e' → s ≡ s' → f ≡ f' → r ≡ r' → Comes o e s f r → Comes o' e' s' f' r'
  remaining_there o o' e e' s s' f f' r r' po pe ps pf pr comes =
      subst (λ x. Comes x e' s' f' r') po (subst (λ x. Comes o x s' f' r') pe (subst (λ x. Comes o e x f' r') ps (subst (λ x. Comes o e s x r') pf (subst (λ x. Comes o e s f x) pr comes))))

if_more : (o : Option Position) (P Q : Position → Type 0) → ((x : Position) → P x → Q x) → IfSome o P → IfSome o Q
if_more None P Q more is = tt
if_more (Some x) P Q more is = more x is

module _ {R : Type 0} (state : R → State) (opening : FileOpening) (r : PerfFileReader R) (source : R) (starts : StartsReader state source opening r) (placed : RemainsFromPosition (state source)) (all_consistent : AreConsistent (described_attributes opening.perf_file.attributes.items)) where
  described : (p : Position) (o : OpenedFileAt p opening (state source)) → DescribesFile p o.header r.perf_file
  described p o = record {
    matches = subst (λ e. IsFileHeader p e o.header) (sym starts.same_endian) o.matches;
    end_fits = o.end_fits;
    features = starts.features ∙ o.features;
    sections_complete = subst (λ e. HoldsSections e o.header p.all_bytes) (sym starts.same_endian) o.sections_complete;
    sections = λ n. starts.sections n ∙ o.sections n ∙ ap (λ e. section_data e o.header p.all_bytes n) (sym starts.same_endian);
    attributes = subst (λ ds. DescribesAttributes (endian_of_file r.perf_file) o.header p.all_bytes ds) (sym starts.attributes)
        (subst (λ e. DescribesAttributes e o.header p.all_bytes opening.perf_file.attributes.items) (sym starts.same_endian) o.attributes);
    consistent = subst (λ ds. AreConsistent (described_attributes ds)) (sym starts.attributes) all_consistent;
  }

  -- the input of a file has no pending header
  first_view : iter_source_state state r.record_iter ≡ state source
  first_view = ap (λ i. input_source_state i (state r.record_iter.source)) starts.input ∙ ap state starts.same_source

  at_records : (p : Position) (o : OpenedFileAt p opening (state source)) → (iter_source_state state r.record_iter).bytes ≡ Some (drop o.header.data_section.offset p.all_bytes)
  at_records p o = ap (λ s. s.bytes) first_view ∙ placed ∙ ap remaining_from o.position

  opens_there : (p : Position) → OpenedFileAt p opening (state source) → FileOpensAt state p r.perf_file r.record_iter
  opens_there p o =
      let first = starts.at_first_record in
      let size : section_size_in r.record_iter.input ≡ Some o.header.data_section.size = ap section_size_in starts.input ∙ ap (λ n. Some n) o.data_size in record {
        header = o.header;
        describes = described p o;
        bytes = at_records p o;
        section_size = size;
        file_to_iter = λ records end is. remaining_there (attributes_of_file r.perf_file) records end _ _ _ _ _ _ _ _ _ _ (sym (at_records p o)) (sym first.same_endian) (sym size) (sym first.offset) (sym first.round) is;
        iter_to_file = λ records end is. remaining_there (attributes_of_file r.perf_file) records end _ _ _ _ _ _ _ _ _ _ (at_records p o) first.same_endian size first.offset first.round is;
      }

  -- the opening is that of the file
  pub builds_reader : (old : State) → FileOpened old opening (state source) → FileParsed state old r.perf_file r.record_iter
  builds_reader old read = record {
    at_first_record = starts.at_first_record;
    in_section = (opening.data_size, ap section_size_in starts.input);
    after_seek = subst (AfterSeek old) (sym first_view) read.after_seek;
    file_opened = if_more old.position (λ p. OpenedFileAt p opening (state source)) (λ p. FileOpensAt state p r.perf_file r.record_iter) opens_there read.file_opened;
  }

-- the file is opened, or memory runs out for the iterator's attribute lookup
pub parses : {R : Type 0} (state : R → State) (opening : FileOpening) (r : Result (PerfFileReader R) Error) (source : R) → BuildsReader state source opening r → RemainsFromPosition (state source) → (old : State) → FileOpened old opening (state source) → ParsesFile state old r
parses state opening (Ok r) source starts placed old read = builds_reader state opening r source starts placed read.consistent old read
parses state opening (Err e) source is placed old read = record { final_state = state source; after_seek = read.after_seek; cause = λ other. absurd (other is) }
