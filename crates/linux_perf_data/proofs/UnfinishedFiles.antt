-- The header of an unfinished file, its visible length and its whole sections determine an opening, or the error.
use Rattle.std.proofs.Common.{◌≡◌, ◌≢◌, ℕ, List, length, drop, sym, ap, ◌∙◌, subst, arith, inl, inr, Bool, Option, None, Some, IsSome, is_some}
use Rattle.std.specs.Prelude.{◌⊎◌, Result, Ok, Err, IfSome, Vec}
use Rattle.std.specs.Option.{option_map}
use Rattle.std.specs.declared.io.Error.{Error as IoErrorValue}
use Rattle.std.specs.declared.alloc.Global.{Global}
use Rattle.indexmap.specs.IndexMap.{IndexMap}
use Rattle.perfdata_sources.specs.Source.{State, Position, RemainsFromPosition, AfterSeek, SourceFailed, ReadExactError, at_offset, all_bytes_of, remaining_from}
use Rattle.perfdata_identifiers.specs.Features.{HasFeature}
use Rattle.perfdata_base.specs.Header.{FileHeaderParsed, ExtraSkipError, FileHeaderParseError, magic_of}
use Rattle.perfdata_sources.specs.declared.endian.Endianness.{Endianness}
use Rattle.perfdata_identifiers.specs.declared.features.Feature.{Feature}
use Rattle.perfdata_identifiers.specs.declared.features.FeatureSet.{FeatureSet}
use Rattle.perfdata_base.specs.declared.header.PerfHeader.{PerfHeader}
use Rattle.perfdata_sources.proofs.ReadErrors.{after_seek_more, failed_after_seek, none_or_paused, all_read}
use Rattle.perfdata_sections.specs.Error.{IsIoError}
use Rattle.perfdata_sections.specs.declared.error.Error.{Error}
use Rattle.perfdata_sections.specs.declared.error.Error.TheVariants.{IoError, UnrecognizedMagicValue}
use Rattle.perfdata_sections.specs.declared.feature_sections.AttributeDescription.{AttributeDescription}
use Rattle.linux_perf_data.specs.declared.file.opening.FileOpening.{FileOpening}
use Rattle.linux_perf_data.specs.declared.file_reader.PerfFileReader.{PerfFileReader}
use Rattle.linux_perf_data.specs.Attribute.{AreConsistent}
use Rattle.linux_perf_data.specs.AttributeSources.{KnownSections, known_sections, DescribesFrom}
use Rattle.linux_perf_data.specs.Descriptions.{described_attributes}
use Rattle.linux_perf_data.specs.FeatureData.{feature_data_by, feature_data_of}
use Rattle.linux_perf_data.specs.FeatureNumbers.{event_desc, simpleperf_meta_info}
use Rattle.linux_perf_data.specs.FileOpening.{IsAttributesErrorWith, SourceErrorInOpening, IsFileHeader}
use Rattle.linux_perf_data.specs.Iter.{iter_source_state}
use Rattle.linux_perf_data.specs.NamedErrors.{IsFileOpeningError}
use Rattle.linux_perf_data.specs.OpenedFile.{StartsReader, BuildsReader}
use Rattle.linux_perf_data.specs.PerfFile.{endian_of_file, attributes_of_file}
use Rattle.linux_perf_data.specs.RecordInput.{section_size_in, input_source_state}
use Rattle.linux_perf_data.specs.UnfinishedFile.{IsVisibleLength, IsDataSize, whole_sections, whole_sources, header_with_ids, attributes_header, DescribesWhole, IsWholeError, DescribesUnfinishedFile, IsHeaderError, IsUnfinishedFileError, UnfinishedFileOpensAt, UnfinishedFileParsed, ParsesUnfinishedFile}
use Rattle.linux_perf_data.specs.WholeParts.{HasWholeParts, FindsWholeParts}
use Rattle.linux_perf_data.specs.declared.file.unfinished.WholeParts.{WholeParts}
use Rattle.linux_perf_data.specs.steps.FeatureData.{SourceErrorInBytes, feature_entries_of}
use Rattle.linux_perf_data.specs.steps.FileOpening.{ReadsConsistentAttributes}
use Rattle.linux_perf_data.specs.steps.UnfinishedFile.{ReadsLength, ReadsDataSize, ReadsWholeTable, ReadsWholeSections, ContainsFeatures, UnfinishedOpened, UnfinishedOpenError, OpensUnfinishedAfterHeader, UnfinishedOpenedAt, UnfinishedFileOpened, UnfinishedFileOpenError, OpensUnfinishedFile}
use Rattle.linux_perf_data.proofs.FeatureTables.{is_visible_before}
use Rattle.linux_perf_data.proofs.FileAttributes.{if_more, if_both}
use Rattle.linux_perf_data.proofs.FileOpenings.{earlier_source_error, bytes_source_error, put_same, has_header, position_shows, all_there, position_put}
use Rattle.linux_perf_data.proofs.FileStart.{remaining_there}
use Rattle.linux_perf_data.proofs.NamedErrors.{file_bytes, file_io}

-- ---- the opening after the header

-- reading the data size fails
pub size_error : (order : Endianness) (h : PerfHeader) (len : ℕ) (a b : State) (e : Error) → AfterSeek a b × SourceErrorInBytes a e b → UnfinishedOpenError order h len a e b
size_error order h len a b e (seek, source) = record { after_seek = seek; named_error = file_bytes a b e (λ _. inr source); cause = λ _. inr (bytes_source_error a b e source) }

-- if all bytes are known, it is a source error
known_source_error : (o : Option (List ℕ)) (P : List ℕ → Type 0) (Q S : Type 0) → (Q → S) → IfSome o (λ all. Q) → IfSome o P ⊎ S
known_source_error None P Q S more known = inl tt
known_source_error (Some all) P Q S more known = inr (more known)

-- reading the sections fails
pub sections_error : (order : Endianness) (h : PerfHeader) (len size : ℕ) (S : Type 0) (a b c : State) (e : Error) → ReadsDataSize order h len a (Ok size) b → ReadsWholeSections {S = S} order h len b (Err e) c → UnfinishedOpenError order h len a e c
sections_error order h len size S a b c e (seek, sized) (later, named, cause) = record {
  after_seek = after_seek_more a b c seek later;
  named_error = named;
  cause = λ other. known_source_error (all_bytes_of a.position) (λ all. IsWholeError order h all len e) (SourceErrorInBytes b e c) (SourceErrorInOpening a e c)
      (λ source. earlier_source_error a b c e seek (bytes_source_error b c e source)) (is_visible_before a b (λ all. SourceErrorInBytes b e c) seek (cause other));
}

-- an option of which another one is made
pub some_mapped : {X Y : Type 0} (f : X → Y) (o : Option X) (d : Option Y) → option_map f o ≡ d → is_some o ≡ is_some d
some_mapped f None d is = ap is_some is
some_mapped f (Some x) d is = ap is_some is

-- the data size and the whole sections are read
pub record HasReadSections {S : Type 0} (order : Endianness) (h : PerfHeader) (len size : ℕ) (set : FeatureSet) (m : IndexMap Feature (Vec ℕ Global) S) (a c : State) : Type 0 where
  pub seek : AfterSeek a c
  pub sized : IfSome (all_bytes_of a.position) (λ all. IsDataSize order h all len size)
  pub sections : IfSome (all_bytes_of a.position) (λ all. ContainsFeatures (whole_sections order h all len) set × ((n : ℕ) → feature_data_of m n ≡ feature_data_by all (whole_sections order h all len) n))
  pub sources : IfSome (all_bytes_of a.position) (λ all. (known_sections (feature_data_of m event_desc) (feature_data_of m simpleperf_meta_info) ≡ whole_sources order h all len)
      × (header_with_ids h (is_some (feature_data_of m simpleperf_meta_info)) ≡ attributes_header order h all len))

pub has_read_sections : {S : Type 0} (order : Endianness) (h : PerfHeader) (len size : ℕ) (set : FeatureSet) (m : IndexMap Feature (Vec ℕ Global) S) (a b c : State) → ReadsDataSize order h len a (Ok size) b → ReadsWholeSections order h len b (Ok (set, m)) c → HasReadSections order h len size set m a c
has_read_sections order h len size set m a b c (seek, sized) (later, read) =
    let sections = is_visible_before a b (λ all. ContainsFeatures (whole_sections order h all len) set × ((n : ℕ) → feature_data_of m n ≡ feature_data_by all (whole_sections order h all len) n)) seek read in record {
      seek = after_seek_more a b c seek later;
      sized = sized;
      sections = sections;
      sources = if_more (all_bytes_of a.position) (λ all. ContainsFeatures (whole_sections order h all len) set × ((n : ℕ) → feature_data_of m n ≡ feature_data_by all (whole_sections order h all len) n))
          (λ all. (known_sections (feature_data_of m event_desc) (feature_data_of m simpleperf_meta_info) ≡ whole_sources order h all len) × (header_with_ids h (is_some (feature_data_of m simpleperf_meta_info)) ≡ attributes_header order h all len))
          (λ all both. (
            ap (λ d. known_sections d (feature_data_of m simpleperf_meta_info)) (both.1 event_desc) ∙ ap (known_sections (feature_data_by all (whole_sections order h all len) event_desc)) (both.1 simpleperf_meta_info),
            ap (λ o. header_with_ids h (is_some o)) (both.1 simpleperf_meta_info),
          )) sections;
    }

module _ {S : Type 0} (order : Endianness) (h : PerfHeader) (len size : ℕ) (set : FeatureSet) (m : IndexMap Feature (Vec ℕ Global) S) (a c d e : State) (read : HasReadSections order h len size set m a c) where
  abbrev sources : KnownSections
  sources = known_sections (feature_data_of m event_desc) (feature_data_of m simpleperf_meta_info)

  abbrev named : PerfHeader
  named = header_with_ids h (is_some (feature_data_of m simpleperf_meta_info))

  -- reading the attributes fails
  pub attributes_error : (err : Error) → ReadsConsistentAttributes order named sources c (Err err) d → UnfinishedOpenError order h len a err d
  attributes_error err (seek, named_error, cause) = record {
    after_seek = after_seek_more a c d read.seek seek;
    named_error = named_error;
    cause = λ other. elim (cause other) [
      | inl here ↦ inl (if_both (all_bytes_of a.position) (λ all. (sources ≡ whole_sources order h all len) × (named ≡ attributes_header order h all len)) (λ all. IsAttributesErrorWith order named sources all err) (λ all. IsWholeError order h all len err)
          (λ all same stops. subst (λ s. IsAttributesErrorWith order (attributes_header order h all len) s all err) same.0 (subst (λ n. IsAttributesErrorWith order n sources all err) same.1 stops)) read.sources (is_visible_before a c (λ all. IsAttributesErrorWith order named sources all err) read.seek here))
      | inr source ↦ inr (earlier_source_error a c d err read.seek source)
    ];
  }

  -- the seek to the records fails
  pub records_error : (v : Vec AttributeDescription Global) (err : Error) → ReadsConsistentAttributes order named sources c (Ok v) d → AfterSeek d e × IsIoError err × SourceFailed d e → UnfinishedOpenError order h len a err e
  records_error v err (seek, described, some, all_consistent) (later, io, failed) =
      let seek_d = after_seek_more a c d read.seek seek in record {
        after_seek = after_seek_more a d e seek_d later;
        named_error = file_io err io;
        cause = λ _. inr (inl (io, failed_after_seek a d e seek_d failed));
      }

-- the opening contains the values of the header and its sections
pub opened : (order : Endianness) (h : PerfHeader) (len : ℕ) (a c d e : State) (opening : FileOpening) → HasReadSections order h len opening.data_size opening.perf_file.features opening.perf_file.sections a c → opening.perf_file.endian ≡ order
    → ReadsConsistentAttributes order (header_with_ids h (is_some (feature_data_of opening.perf_file.sections simpleperf_meta_info))) (known_sections (feature_data_of opening.perf_file.sections event_desc) (feature_data_of opening.perf_file.sections simpleperf_meta_info)) c (Ok opening.perf_file.attributes) d
    → AfterSeek d e × (e.position ≡ at_offset h.data_section.offset d.position) → UnfinishedOpened order h len a opening e
opened order h len a c d e opening read endian (seek, described, some, all_consistent) (later, moved) =
    let seek_d = after_seek_more a c d read.seek seek in
    let known = known_sections (feature_data_of opening.perf_file.sections event_desc) (feature_data_of opening.perf_file.sections simpleperf_meta_info) in
    let named = header_with_ids h (is_some (feature_data_of opening.perf_file.sections simpleperf_meta_info)) in
    let items = opening.perf_file.attributes.items in record {
      endian = endian;
      nonempty = some;
      consistent = all_consistent;
      after_seek = after_seek_more a d e seek_d later;
      position = moved ∙ put_same h.data_section.offset a.position d.position seek_d.all_bytes;
      data_size = read.sized;
      sections = read.sections;
      attributes = if_both (all_bytes_of a.position) (λ all. (known ≡ whole_sources order h all len) × (named ≡ attributes_header order h all len)) (λ all. DescribesFrom order named known all items) (λ all. DescribesWhole order h all len items)
          (λ all same is. subst (λ o. DescribesFrom order (attributes_header order h all len) o all items) same.0 (subst (λ n. DescribesFrom order n known all items) same.1 is)) read.sources (is_visible_before a c (λ all. DescribesFrom order named known all items) read.seek described);
    }

-- ---- the whole opening

-- The header of a file isn't that of a file, or reading it fails.
pub record HeaderOpenError (old : State) (e : Error) (new : State) : Type 0 where
  pub after_seek : AfterSeek old new
  pub named_error : IsFileOpeningError e
  pub cause : IfSome old.position (λ p. IsHeaderError p e) ⊎ SourceErrorInOpening old e new

-- the header is truncated
header_truncated : (a b : State) (e : IoErrorValue) → RemainsFromPosition a → ReadExactError a 104 e b → IfSome a.position (λ p. IsHeaderError p (IoError e)) ⊎ SourceErrorInOpening a (IoError e) b
header_truncated a b e placed truncated = elim truncated.cause [
  | inl (eof, none) ↦ elim (none_or_paused a b none) [
    | inl all ↦ inl (position_shows a (λ p. IsHeaderError p (IoError e)) (λ p is.
        let same : Some (drop p.offset p.all_bytes) ≡ Some truncated.consumed_bytes = sym (ap remaining_from is) ∙ sym placed ∙ all_read a b truncated.consumed_bytes truncated.consumes all in
        let fewer : length (drop p.offset p.all_bytes) ≡ length truncated.consumed_bytes = cc in
        let less = truncated.too_few in
        inl (eof, omega (arith, fewer, less))))
    | inr paused ↦ inr (inr (inl (eof, paused)))
  ]
  | inr failed ↦ inr (inl (tt, failed))
]

-- skipping the header bytes after the first 104 fails
header_not_skipped : (a b : State) (e : IoErrorValue) → RemainsFromPosition a → ExtraSkipError a e b → IfSome a.position (λ p. IsHeaderError p (IoError e)) ⊎ SourceErrorInOpening a (IoError e) b
header_not_skipped a b e placed not_skipped = elim not_skipped.cause [
  | inl (far, invalid, unmoved) ↦ inl (position_shows a (λ p. IsHeaderError p (IoError e)) (λ p is. inr (inl (not_skipped.header, has_header a p not_skipped.header placed is not_skipped.file_header, (far, invalid)))))
  | inr (end_fits_u64, failed) ↦ inr (inl (tt, failed))
]

pub header_error : (a b : State) (e : IoErrorValue) → RemainsFromPosition a → FileHeaderParseError a e b → HeaderOpenError a (IoError e) b
header_error a b e placed error = record {
  after_seek = error.after_seek;
  named_error = tt;
  cause = elim error.cause [ inl truncated ↦ header_truncated a b e placed truncated | inr not_skipped ↦ header_not_skipped a b e placed not_skipped ];
}

-- the magic isn't that of a file
pub magic_error : (a b : State) (h : PerfHeader) (e : Error) → RemainsFromPosition a → FileHeaderParsed a h b → (e ≡ UnrecognizedMagicValue h.magic) × ((order : Endianness) → h.magic ≢ magic_of order) → HeaderOpenError a e b
magic_error a b h e placed parsed reason = record {
  after_seek = parsed.after_seek;
  named_error = subst IsFileOpeningError (sym reason.0) tt;
  cause = inl (position_shows a (λ p. IsHeaderError p e) (λ p is. inr (inr (h, (has_header a p h placed is parsed.file_header, parsed.extra_fits, reason.1, reason.0)))));
}

-- the length isn't shown
pub length_error : (a b c : State) (h : PerfHeader) (e : Error) → FileHeaderParsed a h b → AfterSeek b c × IsIoError e × SourceFailed b c → HeaderOpenError a e c
length_error a b c h e parsed (seek, io, failed) = record {
  after_seek = after_seek_more a b c parsed.after_seek seek;
  named_error = file_io e io;
  cause = inr (inl (io, failed_after_seek a b c parsed.after_seek failed));
}

-- the file isn't opened
pub header_unopened : (a b : State) (e : Error) → HeaderOpenError a e b → UnfinishedFileOpenError a e b
header_unopened a b e error = record {
  after_seek = error.after_seek;
  named_error = error.named_error;
  cause = λ _. elim error.cause [
    | inl here ↦ inl (if_more a.position (λ p. IsHeaderError p e) (λ p. IsUnfinishedFileError a.steady p e) (λ p is. inl is) here)
    | inr source ↦ inr source
  ];
}

-- the parts aren't found
pub header_unknown : (a b : State) (e : Error) → HeaderOpenError a e b → FindsWholeParts a (Err e) b
header_unknown a b e error = (error.after_seek, error.named_error, λ _. error.cause)

-- if the position is known, it is a source error
known_source_there : (o : Option Position) (all : Option (List ℕ)) (P : Position → Type 0) (Q S : Type 0) → all ≡ all_bytes_of o → (Q → S) → IfSome all (λ _. Q) → IfSome o P ⊎ S
known_source_there None all P Q S same more known = inl tt
known_source_there (Some p) all P Q S same more known = inr (more (subst (λ o. IfSome o (λ _. Q)) same known))

module _ (a b c d : State) (order : Endianness) (h : PerfHeader) (len : ℕ) (placed : RemainsFromPosition a) (parsed : FileHeaderParsed a h b) (magic : h.magic ≡ magic_of order) (shown : ReadsLength b (Ok len) c) where
  before_length : AfterSeek a c
  before_length = after_seek_more a b c parsed.after_seek shown.0

  -- the length of the file at its position
  visible_at : (p : Position) → a.position ≡ Some p → IsVisibleLength a.steady p.all_bytes len
  visible_at p is =
      let there : IsVisibleLength b.steady p.all_bytes len = subst (λ o. IfSome o (λ all. IsVisibleLength b.steady all len)) (all_there a b p parsed.after_seek is) shown.1 in
      (there.0, λ steady. there.1 (parsed.after_seek.steady steady).steady)

  header_at : (p : Position) → a.position ≡ Some p → IsFileHeader p order h
  header_at p is = record { has_header = has_header a p h placed is parsed.file_header; can_skip_extra = parsed.extra_fits; magic = magic }

  opened_at : (opening : FileOpening) → UnfinishedOpened order h len c opening d → UnfinishedFileOpened a opening d
  opened_at opening read = record {
    nonempty = read.nonempty;
    consistent = read.consistent;
    after_seek = after_seek_more a c d before_length read.after_seek;
    file_opened = position_shows a (λ p. UnfinishedOpenedAt a.steady p opening d) (λ p is.
        let there = all_there a c p before_length is in
        let back = sym read.endian in
        let sections : ContainsFeatures (whole_sections order h p.all_bytes len) opening.perf_file.features × ((n : ℕ) → feature_data_of opening.perf_file.sections n ≡ feature_data_by p.all_bytes (whole_sections order h p.all_bytes len) n) =
        subst (λ o. IfSome o (λ all. ContainsFeatures (whole_sections order h all len) opening.perf_file.features × ((n : ℕ) → feature_data_of opening.perf_file.sections n ≡ feature_data_by all (whole_sections order h all len) n))) there read.sections in
        let size : IsDataSize order h p.all_bytes len opening.data_size = subst (λ o. IfSome o (λ all. IsDataSize order h all len opening.data_size)) there read.data_size in
        let attributes : DescribesWhole order h p.all_bytes len opening.perf_file.attributes.items = subst (λ o. IfSome o (λ all. DescribesWhole order h all len opening.perf_file.attributes.items)) there read.attributes in record {
          header = h;
          len = len;
          matches = record { has_header = has_header a p h placed is parsed.file_header; can_skip_extra = parsed.extra_fits; magic = magic ∙ ap magic_of back };
          visible = visible_at p is;
          data_size = subst (λ o. IsDataSize o h p.all_bytes len opening.data_size) back size;
          features = subst (λ o. ContainsFeatures (whole_sections o h p.all_bytes len) opening.perf_file.features) back sections.0;
          sections = subst (λ o. (n : ℕ) → feature_data_of opening.perf_file.sections n ≡ feature_data_by p.all_bytes (whole_sections o h p.all_bytes len) n) back sections.1;
          attributes = subst (λ o. DescribesWhole o h p.all_bytes len opening.perf_file.attributes.items) back attributes;
          position = read.position ∙ position_put h.data_section.offset c.position p there;
        });
  }

  error_at : (e : Error) → UnfinishedOpenError order h len c e d → UnfinishedFileOpenError a e d
  error_at e error = record {
    after_seek = after_seek_more a c d before_length error.after_seek;
    named_error = error.named_error;
    cause = λ other. elim (error.cause other) [
      | inl here ↦ inl (position_shows a (λ p. IsUnfinishedFileError a.steady p e) (λ p is.
          let stops : IsWholeError order h p.all_bytes len e = subst (λ o. IfSome o (λ all. IsWholeError order h all len e)) (all_there a c p before_length is) here in
          inr (order, (h, (len, (header_at p is, visible_at p is, stops))))))
      | inr source ↦ inr (earlier_source_error a c d e before_length source)
    ];
  }

  pub opens : (r : Result FileOpening Error) → OpensUnfinishedAfterHeader order h len c r d → OpensUnfinishedFile a r d
  opens (Ok opening) read = opened_at opening read
  opens (Err e) error = error_at e error

-- ---- the parts

-- reading the size of the records fails
pub size_unknown : (a b c : State) (e : Error) → AfterSeek a b → AfterSeek b c × SourceErrorInBytes b e c → FindsWholeParts a (Err e) c
size_unknown a b c e before (seek, source) = (after_seek_more a b c before seek, file_bytes b c e (λ _. inr source), λ _. inr (earlier_source_error a b c e before (bytes_source_error b c e source)))

-- reading the table fails
pub table_unknown : (order : Endianness) (h : PerfHeader) (len : ℕ) (a b c : State) (e : Error) → AfterSeek a b → ReadsWholeTable order h len b (Err e) c → FindsWholeParts a (Err e) c
table_unknown order h len a b c e before (seek, named, cause) = (
  after_seek_more a b c before seek,
  named,
  λ other. known_source_there a.position (all_bytes_of b.position) (λ p. IsHeaderError p e) (SourceErrorInBytes b e c) (SourceErrorInOpening a e c) before.all_bytes
      (λ source. earlier_source_error a b c e before (bytes_source_error b c e source)) (cause other),
)

-- the parts are those of the file
pub parts_found : (a b c d e : State) (parts : WholeParts) → RemainsFromPosition a → FileHeaderParsed a parts.header b → parts.header.magic ≡ magic_of parts.endian → ReadsLength b (Ok parts.length) c → ReadsDataSize parts.endian parts.header parts.length c (Ok parts.data_size) d
    → ReadsWholeTable parts.endian parts.header parts.length d (Ok parts.sections) e → FindsWholeParts a (Ok parts) e
parts_found a b c d e parts placed parsed magic shown sized table =
    let before = before_length a b c d parts.endian parts.header parts.length placed parsed magic shown in
    let before_table = after_seek_more a c d before sized.0 in (
      after_seek_more a d e before_table table.0,
      position_shows a (λ p. HasWholeParts a p parts) (λ p is. record {
        matches = header_at a b c d parts.endian parts.header parts.length placed parsed magic shown p is;
        visible = visible_at a b c d parts.endian parts.header parts.length placed parsed magic shown p is;
        data_size = subst (λ o. IfSome o (λ all. IsDataSize parts.endian parts.header all parts.length parts.data_size)) (all_there a c p before is) sized.1;
        sections = subst (λ o. IfSome o (λ all. feature_entries_of parts.sections.items ≡ whole_sections parts.endian parts.header all parts.length)) (all_there a d p before_table is) table.1;
      }),
    )

-- ---- the reader

module _ {R : Type 0} (state : R → State) (opening : FileOpening) (r : PerfFileReader R) (source : R) (starts : StartsReader state source opening r) (placed : RemainsFromPosition (state source)) (all_consistent : AreConsistent (described_attributes opening.perf_file.attributes.items)) (steady : Bool) where
  described : (p : Position) (o : UnfinishedOpenedAt steady p opening (state source)) → DescribesUnfinishedFile p o.header o.len r.perf_file
  described p o =
      let back = sym starts.same_endian in
      let same : (n : ℕ) → feature_data_of r.perf_file.sections n ≡ feature_data_by p.all_bytes (whole_sections opening.perf_file.endian o.header p.all_bytes o.len) n = λ n. starts.sections n ∙ o.sections n in record {
        matches = subst (λ e. IsFileHeader p e o.header) back o.matches;
        features = λ n. (
          λ has. (let both = (o.features p.all_bytes n).0 (subst (λ s. HasFeature s n) starts.features has) in (both.0, subst IsSome (sym (same n)) both.1)),
          λ both. subst (λ s. HasFeature s n) (sym starts.features) ((o.features p.all_bytes n).1 (both.0, subst IsSome (same n) both.1)),
        );
        sections = λ n. same n ∙ ap (λ e. feature_data_by p.all_bytes (whole_sections e o.header p.all_bytes o.len) n) back;
        attributes = subst (λ ds. DescribesWhole (endian_of_file r.perf_file) o.header p.all_bytes o.len ds) (sym starts.attributes)
            (subst (λ e. DescribesWhole e o.header p.all_bytes o.len opening.perf_file.attributes.items) back o.attributes);
        consistent = subst (λ ds. AreConsistent (described_attributes ds)) (sym starts.attributes) all_consistent;
      }

  -- the input of a file has no pending header
  first_view : iter_source_state state r.record_iter ≡ state source
  first_view = ap (λ i. input_source_state i (state r.record_iter.source)) starts.input ∙ ap state starts.same_source

  at_records : (p : Position) (o : UnfinishedOpenedAt steady p opening (state source)) → (iter_source_state state r.record_iter).bytes ≡ Some (drop o.header.data_section.offset p.all_bytes)
  at_records p o = ap (λ s. s.bytes) first_view ∙ placed ∙ ap remaining_from o.position

  opens_there : (p : Position) → UnfinishedOpenedAt steady p opening (state source) → UnfinishedFileOpensAt state steady p r.perf_file r.record_iter
  opens_there p o =
      let first = starts.at_first_record in
      let size : section_size_in r.record_iter.input ≡ Some opening.data_size = ap section_size_in starts.input in record {
        header = o.header;
        len = o.len;
        visible = o.visible;
        describes = described p o;
        size = opening.data_size;
        data_size = subst (λ e. IsDataSize e o.header p.all_bytes o.len opening.data_size) (sym starts.same_endian) o.data_size;
        bytes = at_records p o;
        section_size = size;
        file_to_iter = λ records end is. remaining_there (attributes_of_file r.perf_file) records end _ _ _ _ _ _ _ _ _ _ (sym (at_records p o)) (sym first.same_endian) (sym size) (sym first.offset) (sym first.round) is;
        iter_to_file = λ records end is. remaining_there (attributes_of_file r.perf_file) records end _ _ _ _ _ _ _ _ _ _ (at_records p o) first.same_endian size first.offset first.round is;
      }

-- the opening is that of the file
builds_unfinished : {R : Type 0} (state : R → State) (opening : FileOpening) (r : PerfFileReader R) (source : R) → StartsReader state source opening r → RemainsFromPosition (state source) → (old : State) → UnfinishedFileOpened old opening (state source) → UnfinishedFileParsed state old r.perf_file r.record_iter
builds_unfinished state opening r source starts placed old read = record {
  at_first_record = starts.at_first_record;
  in_section = (opening.data_size, ap section_size_in starts.input);
  after_seek = subst (AfterSeek old) (sym (first_view state opening r source starts placed read.consistent old.steady)) read.after_seek;
  file_opened = if_more old.position (λ p. UnfinishedOpenedAt old.steady p opening (state source)) (λ p. UnfinishedFileOpensAt state old.steady p r.perf_file r.record_iter) (opens_there state opening r source starts placed read.consistent old.steady) read.file_opened;
}

-- the file is opened, or memory runs out for the iterator's attribute lookup
pub parses_unfinished : {R : Type 0} (state : R → State) (opening : FileOpening) (r : Result (PerfFileReader R) Error) (source : R) → BuildsReader state source opening r → RemainsFromPosition (state source) → (old : State) → UnfinishedFileOpened old opening (state source) → ParsesUnfinishedFile state old r
parses_unfinished state opening (Ok r) source starts placed old read = builds_unfinished state opening r source starts placed old read
parses_unfinished state opening (Err e) source is placed old read = record { final_state = state source; after_seek = read.after_seek; cause = λ other. absurd (other is) }
