-- The header of a file and its sections determine an opening, or the error.
use Rattle.std.proofs.Common.{◌≡◌, ◌≢◌, ℕ, ◌<◌, ◌≤◌, ◌++◌, List, [], ◌∷◌, length, take, drop, refl, sym, ap, ◌∙◌, subst, arith, inl, inr, length-append, Option, None, Some}
use Rattle.std.specs.Prelude.{◌⊎◌, Result, Ok, Err, IfSome, Vec}
use Rattle.std.specs.declared.io.Error.{Error as IoErrorValue}
use Rattle.std.specs.declared.alloc.Global.{Global}
use Rattle.std.proofs.Math.Seq.{take-append_seam}
use Rattle.perfdata_sources.specs.Source.{State, Position, RemainsFromPosition, AfterSeek, SourceFailed, ReadExactError, at_offset, all_bytes_of, remaining_from, prepend}
use Rattle.perfdata_base.specs.Section.{EndFitsU64}
use Rattle.perfdata_sources.proofs.ReadErrors.{after_seek_more, failed_after_seek, paused_after_seek, none_or_paused, all_read}
use Rattle.perfdata_base.specs.Header.{file_header_of, BeginsWithFileHeader, FileHeaderParsed, ExtraSkipError, FileHeaderParseError, magic_of}
use Rattle.perfdata_sources.specs.declared.endian.Endianness.{Endianness}
use Rattle.perfdata_base.specs.declared.header.PerfHeader.{PerfHeader}
use Rattle.linux_perf_data.specs.Attribute.{Inconsistency, AreInconsistent, AreConsistent}
use Rattle.linux_perf_data.specs.Descriptions.{described_attributes}
use Rattle.linux_perf_data.specs.Consistency.{error_of_inconsistency}
use Rattle.linux_perf_data.specs.AttributeSources.{KnownSections, known_sections, DescribesFrom, IsSourcesError, ReadsAttributes}
use Rattle.linux_perf_data.proofs.FileAttributes.{if_more, if_both}
use Rattle.perfdata_sections.specs.declared.feature_sections.AttributeDescription.{AttributeDescription}
use Rattle.perfdata_sections.specs.declared.error.Error.{Error}
use Rattle.perfdata_sections.specs.declared.error.Error.TheVariants.{IoError, NoAttributes, UnrecognizedMagicValue}
use Rattle.indexmap.specs.IndexMap.{IndexMap}
use Rattle.perfdata_identifiers.specs.Features.{features_of}
use Rattle.perfdata_identifiers.specs.declared.features.Feature.{Feature}
use Rattle.perfdata_sections.specs.Error.{IsIoError}
use Rattle.linux_perf_data.specs.FeatureData.{SectionsTruncated, feature_data_of}
use Rattle.linux_perf_data.specs.steps.FeatureData.{ReadsFeatures, SourceErrorInBytes}
use Rattle.linux_perf_data.specs.declared.file.opening.FileOpening.{FileOpening}
use Rattle.linux_perf_data.specs.FileOpening.{table_offset, HoldsSections, section_data, attribute_sources_of, DescribesAttributes, IsAttributesErrorWith, IsErrorAfterHeader, SourceErrorInOpening, HasHeader, IsFileError}
use Rattle.linux_perf_data.specs.steps.FileOpening.{ReadsSections, ReadsConsistentAttributes, OpenAfterHeaderError, FileOpenError, FileOpened, OpenedFileAt, OpenedAfterHeader, OpensAfterHeader, OpensPerfFile}
use Rattle.linux_perf_data.specs.FeatureNumbers.{event_desc, simpleperf_meta_info}
use Rattle.linux_perf_data.specs.NamedErrors.{IsFileOpeningError}
use Rattle.linux_perf_data.proofs.NamedErrors.{file_bytes, file_inconsistency, file_io}
use Rattle.linux_perf_data.proofs.FeatureTables.{is_visible_before}

pub earlier_source_error : (a b c : State) (e : Error) → AfterSeek a b → SourceErrorInOpening b e c → SourceErrorInOpening a e c
earlier_source_error a b c e seek (inl (is, failed)) = inl (is, failed_after_seek a b c seek failed)
earlier_source_error a b c e seek (inr (inl (is, paused))) = inr (inl (is, paused_after_seek a b c seek paused))
earlier_source_error a b c e seek (inr (inr (is, inl failed))) = inr (inr (is, inl (failed_after_seek a b c seek failed)))
earlier_source_error a b c e seek (inr (inr (is, inr paused))) = inr (inr (is, inr (paused_after_seek a b c seek paused)))

pub bytes_source_error : (a b : State) (e : Error) → SourceErrorInBytes a e b → SourceErrorInOpening a e b
bytes_source_error a b e (inl io) = inl io
bytes_source_error a b e (inr paused) = inr (inl paused)

-- reading the feature sections fails
sections_error : (order : Endianness) (h : PerfHeader) (a b : State) (S : Type 0) (e : Error) → EndFitsU64 h.data_section
    → ReadsFeatures {S = S} order (table_offset h) (features_of h.features) a (Err e) b → OpenAfterHeaderError order h a e b
sections_error order h a b S e end_fits_u64 error = record {
  after_seek = error.0;
  named_error = file_bytes a b e (λ m. elim (error.1 m) [ inl is_missing ↦ inl is_missing.0 | inr source_error ↦ inr source_error ]);
  cause = λ m. elim (error.1 m) [
    | inl is_missing ↦ inl (if_more (all_bytes_of a.position) (λ all. SectionsTruncated order all (table_offset h) (features_of h.features)) (λ all. IsErrorAfterHeader order h all e) (λ all here. inr (inl (is_missing.0, end_fits_u64, here))) is_missing.1)
    | inr source_error ↦ inr (bytes_source_error a b e source_error)
  ];
}

-- reading the feature sections after the data section
pub sections_read : (order : Endianness) (h : PerfHeader) (a b : State) (S : Type 0) (table : ℕ) (r : Result (IndexMap Feature (Vec ℕ Global) S) Error) → (table ≡ table_offset h) × EndFitsU64 h.data_section → ReadsFeatures order table (features_of h.features) a r b → ReadsSections order h a r b
sections_read order h a b S table (Ok m) (at, end_fits_u64) reads = (end_fits_u64, subst (λ t. ReadsFeatures order t (features_of h.features) a (Ok m) b) at reads)
sections_read order h a b S table (Err e) (at, end_fits_u64) reads = sections_error order h a b S e end_fits_u64 (subst (λ t. ReadsFeatures {S = S} order t (features_of h.features) a (Err e) b) at reads)

-- the sections that are read before the attributes, EVENT_DESC among them
pub sources_both : (d d' i i' : Option (List ℕ)) → d ≡ d' → i ≡ i' → known_sections d i ≡ known_sections d' i'
sources_both d d' i i' x y = ap (λ o. known_sections o i) x ∙ ap (known_sections d') y

pub record HasRead (order : Endianness) (h : PerfHeader) (a b : State) (sources : KnownSections) : Type 0 where
  pub end_fits : EndFitsU64 h.data_section
  pub seek : AfterSeek a b
  pub holds : IfSome (all_bytes_of a.position) (λ all. HoldsSections order h all × (sources ≡ attribute_sources_of order h all))

pub has_read : {S : Type 0} (order : Endianness) (h : PerfHeader) (a b : State) (m : IndexMap Feature (Vec ℕ Global) S) (sources : KnownSections) → sources ≡ known_sections (feature_data_of m event_desc) (feature_data_of m simpleperf_meta_info)
    → ReadsSections order h a (Ok m) b → HasRead order h a b sources
has_read order h a b m sources is (end_fits_u64, read) = record {
  end_fits = end_fits_u64;
  seek = read.0;
  holds = if_more (all_bytes_of a.position) (λ all. HoldsSections order h all × ((n : ℕ) → feature_data_of m n ≡ section_data order h all n)) (λ all. HoldsSections order h all × (sources ≡ attribute_sources_of order h all)) (λ all both. (both.0, is ∙ ap (λ d. known_sections d (feature_data_of m simpleperf_meta_info)) (both.1 event_desc) ∙ ap (known_sections (section_data order h all event_desc)) (both.1 simpleperf_meta_info))) read.1;
}

-- an error in the attributes is an error after the header
at_attributes : (order : Endianness) (h : PerfHeader) (a b : State) (sources : KnownSections) (e : Error) → HasRead order h a b sources → IfSome (all_bytes_of b.position) (λ all. IsAttributesErrorWith order h sources all e)
    → IfSome (all_bytes_of a.position) (λ all. IsErrorAfterHeader order h all e)
at_attributes order h a b sources e read seen_here =
    if_both (all_bytes_of a.position) (λ all. HoldsSections order h all × (sources ≡ attribute_sources_of order h all)) (λ all. IsAttributesErrorWith order h sources all e) (λ all. IsErrorAfterHeader order h all e)
    (λ all has here. inr (inr (read.end_fits, has.0, subst (λ d. IsAttributesErrorWith order h d all e) has.1 here))) read.holds (is_visible_before a b (λ all. IsAttributesErrorWith order h sources all e) read.seek seen_here)

-- reading the attributes fails
pub sources_error : (order : Endianness) (h : PerfHeader) (a b : State) (sources : KnownSections) (e : Error) → ReadsAttributes order h sources a (Err e) b → IsFileOpeningError e → ReadsConsistentAttributes order h sources a (Err e) b
sources_error order h a b sources e (seek, reason) named = (
  seek,
  named,
  λ m. elim (reason m) [
    | inl seen_here ↦ inl (if_more (all_bytes_of a.position) (λ all. IsSourcesError order h sources all e) (λ all. IsAttributesErrorWith order h sources all e) (λ all stops. inl stops) seen_here)
    | inr source_error ↦ inr source_error
  ],
)

items_none : {X : Type 0} (xs : List X) → length xs ≡ 0 → xs ≡ []
items_none [] none = refl
items_none (x ∷ xs) none = absurd (omega (arith, none))

-- the file has no attributes
pub attributes_none : (order : Endianness) (h : PerfHeader) (a b : State) (sources : KnownSections) (v : Vec AttributeDescription Global) → ReadsAttributes order h sources a (Ok v) b → length v.items ≡ 0 → ReadsConsistentAttributes order h sources a (Err NoAttributes) b
attributes_none order h a b sources v (seek, is) none = (
  seek,
  tt,
  λ _. inl (if_more (all_bytes_of a.position) (λ all. DescribesFrom order h sources all v.items) (λ all. IsAttributesErrorWith order h sources all NoAttributes)
      (λ all described. inr (inl (refl, subst (DescribesFrom order h sources all) (items_none v.items none) described))) is),
)

-- the attributes are inconsistent
pub attributes_inconsistent : (order : Endianness) (h : PerfHeader) (a b : State) (sources : KnownSections) (v : Vec AttributeDescription Global) (e : Error) → ReadsAttributes order h sources a (Ok v) b
    → (breach : Inconsistency) × AreInconsistent (described_attributes v.items) breach × (e ≡ error_of_inconsistency breach) → ReadsConsistentAttributes order h sources a (Err e) b
attributes_inconsistent order h a b sources v e (seek, is) (breach, breaks, error_is) = (
  seek,
  file_inconsistency e breach error_is,
  λ _. inl (if_more (all_bytes_of a.position) (λ all. DescribesFrom order h sources all v.items) (λ all. IsAttributesErrorWith order h sources all e)
      (λ all described. inr (inr (record { descriptions = v.items; attributes_match = described; inconsistency = breach; is_inconsistent = breaks; matches = error_is }))) is),
)

some_length : {X : Type 0} (xs : List X) → length xs ≢ 0 → 0 < length xs
some_length [] none = absurd (none refl)
some_length (x ∷ xs) some = omega arith

-- the attributes are consistent
pub attributes_consistent : (order : Endianness) (h : PerfHeader) (a b : State) (sources : KnownSections) (v : Vec AttributeDescription Global) → ReadsAttributes order h sources a (Ok v) b → length v.items ≢ 0 → AreConsistent (described_attributes v.items) → ReadsConsistentAttributes order h sources a (Ok v) b
attributes_consistent order h a b sources v (seek, is) some all_consistent = (seek, is, some_length v.items some, all_consistent)

-- reading consistent attributes fails after the sections
pub attributes_error : (order : Endianness) (h : PerfHeader) (a b c : State) (sources : KnownSections) (e : Error) → HasRead order h a b sources → ReadsConsistentAttributes order h sources b (Err e) c → OpenAfterHeaderError order h a e c
attributes_error order h a b c sources e read (seek, named, reason) = record {
  after_seek = after_seek_more a b c read.seek seek;
  named_error = named;
  cause = λ m. elim (reason m) [
    | inl seen_here ↦ inl (at_attributes order h a b sources e read seen_here)
    | inr source_error ↦ inr (earlier_source_error a b c e read.seek source_error)
  ];
}

-- an offset in the same bytes is the same position
pub put_same : (n : ℕ) (o o' : Option Position) → all_bytes_of o' ≡ all_bytes_of o → at_offset n o' ≡ at_offset n o
put_same n None None same = refl
put_same n None (Some p) same = cc
put_same n (Some p) None same = cc
put_same n (Some p) (Some q) same = let all : q.all_bytes ≡ p.all_bytes = cc in ap (λ l. Some (record { all_bytes = l; offset = n })) all

-- the seek to the records fails
pub records_error : (order : Endianness) (h : PerfHeader) (a b c d : State) (sources : KnownSections) (v : Vec AttributeDescription Global) (e : Error) → HasRead order h a b sources → ReadsConsistentAttributes order h sources b (Ok v) c → AfterSeek c d × IsIoError e × SourceFailed c d
    → OpenAfterHeaderError order h a e d
records_error order h a b c d sources v e read (seek_b, described, some, all_consistent) (seek, io, failed) =
    let seek_c = after_seek_more a b c read.seek seek_b in record {
      after_seek = after_seek_more a c d seek_c seek;
      named_error = file_io e io;
      cause = λ _. inr (inl (io, failed_after_seek a c d seek_c failed));
    }

-- the opening holds the values of the header and its sections
pub after_read : (order : Endianness) (h : PerfHeader) (a b c d : State) (sources : KnownSections) (opening : FileOpening) → opening.perf_file.endian ≡ order → opening.perf_file.features ≡ h.features → opening.data_size ≡ h.data_section.size
    → HasRead order h a b sources → ReadsSections order h a (Ok opening.perf_file.sections) b → ReadsConsistentAttributes order h sources b (Ok opening.perf_file.attributes) c
    → AfterSeek c d × (d.position ≡ at_offset h.data_section.offset c.position) → OpenedAfterHeader order h a opening d
after_read order h a b c d sources opening endian features size read (end_fits_u64, sections) (seek_b, described, some, all_consistent) (seek, seek_position) =
    let seek_c = after_seek_more a b c sections.0 seek_b in record {
      endian = endian;
      end_fits = end_fits_u64;
      features = features;
      data_size = size;
      nonempty = some;
      consistent = all_consistent;
      after_seek = after_seek_more a c d seek_c seek;
      position = seek_position ∙ put_same h.data_section.offset a.position c.position seek_c.all_bytes;
      sections = sections.1;
      attributes = if_both (all_bytes_of a.position) (λ all. HoldsSections order h all × (sources ≡ attribute_sources_of order h all)) (λ all. DescribesFrom order h sources all opening.perf_file.attributes.items) (λ all. DescribesAttributes order h all opening.perf_file.attributes.items)
          (λ all has is. subst (λ o. DescribesFrom order h o all opening.perf_file.attributes.items) has.1 is) read.holds (is_visible_before a b (λ all. DescribesFrom order h sources all opening.perf_file.attributes.items) sections.0 described);
    }

-- the first 104 bytes from a position on are the bytes read there
prefix_there : (p : Position) (bytes : List ℕ) (rest : Option (List ℕ)) → length bytes ≡ 104 → Some (drop p.offset p.all_bytes) ≡ prepend bytes rest → (104 ≤ length (drop p.offset p.all_bytes)) × (bytes ≡ take 104 (drop p.offset p.all_bytes))
prefix_there p bytes None long remaining = cc
prefix_there p bytes (Some rest) long remaining =
    let all : drop p.offset p.all_bytes ≡ bytes ++ rest = cc in (
      omega (arith, ap length all, length-append bytes rest, long),
      sym (take-append_seam bytes rest) ∙ ap (λ n. take n (bytes ++ rest)) long ∙ ap (take 104) (sym all),
    )

pub has_header : (a : State) (p : Position) (h : PerfHeader) → RemainsFromPosition a → a.position ≡ Some p → BeginsWithFileHeader a h → HasHeader p h
has_header a p h placed is begins =
    let there = prefix_there p begins.bytes begins.rest begins.exact_len (sym (ap remaining_from is) ∙ sym placed ∙ begins.prefix_of_remaining) in
    record { complete = there.0; matches = begins.matches ∙ ap file_header_of there.1 }

-- a property of a source's position, if the position is known
pub position_shows : (a : State) (P : Position → Type 0) → ((p : Position) → a.position ≡ Some p → P p) → IfSome a.position P
position_shows a P each =
    let go : (o : Option Position) → a.position ≡ o → IfSome o P = λ o. elim o as (λ o. a.position ≡ o → IfSome o P) [ None ↦ (λ _. tt) | Some p ↦ (λ is. each p is) ] in
    go a.position refl

-- The header is truncated: too few bytes follow the position, or the source fails or pauses.
header_truncated : (a b : State) (e : IoErrorValue) → RemainsFromPosition a → ReadExactError a 104 e b → IfSome a.position (λ p. IsFileError p (IoError e)) ⊎ SourceErrorInOpening a (IoError e) b
header_truncated a b e placed truncated = elim truncated.cause [
  | inl (eof, none) ↦ elim (none_or_paused a b none) [
    | inl all ↦ inl (position_shows a (λ p. IsFileError p (IoError e)) (λ p is.
        let same : Some (drop p.offset p.all_bytes) ≡ Some truncated.consumed_bytes = sym (ap remaining_from is) ∙ sym placed ∙ all_read a b truncated.consumed_bytes truncated.consumes all in
        let fewer : length (drop p.offset p.all_bytes) ≡ length truncated.consumed_bytes = cc in
        let less = truncated.too_few in
        inl (eof, omega (arith, fewer, less))))
    | inr paused ↦ inr (inr (inl (eof, paused)))
  ]
  | inr failed ↦ inr (inl (tt, failed))
]

-- skipping the header bytes after the first 104 fails
header_not_skipped : (a b : State) (e : IoErrorValue) → RemainsFromPosition a → ExtraSkipError a e b → IfSome a.position (λ p. IsFileError p (IoError e)) ⊎ SourceErrorInOpening a (IoError e) b
header_not_skipped a b e placed not_skipped = elim not_skipped.cause [
  | inl (far, eof, unmoved) ↦ inl (position_shows a (λ p. IsFileError p (IoError e)) (λ p is. inr (inl (not_skipped.header, has_header a p not_skipped.header placed is not_skipped.file_header, (far, eof)))))
  | inr (end_fits_u64, failed) ↦ inr (inl (tt, failed))
]

-- parsing the header fails
pub header_error : (a b : State) (e : IoErrorValue) → RemainsFromPosition a → FileHeaderParseError a e b → FileOpenError a (IoError e) b
header_error a b e placed error = record {
  after_seek = error.after_seek;
  named_error = tt;
  cause = λ _. elim error.cause [ inl truncated ↦ header_truncated a b e placed truncated | inr not_skipped ↦ header_not_skipped a b e placed not_skipped ];
}

-- the magic isn't that of a file
pub magic_error : (a b : State) (h : PerfHeader) (e : Error) → RemainsFromPosition a → FileHeaderParsed a h b → (e ≡ UnrecognizedMagicValue h.magic) × ((order : Endianness) → h.magic ≢ magic_of order) → FileOpenError a e b
magic_error a b h e placed parsed reason = record {
  after_seek = parsed.after_seek;
  named_error = subst IsFileOpeningError (sym reason.0) tt;
  cause = λ _. inl (position_shows a (λ p. IsFileError p e) (λ p is. inr (inr (inl (h, (has_header a p h placed is parsed.file_header, parsed.extra_fits, reason.1, reason.0))))));
}

pub all_there : (a b : State) (p : Position) → AfterSeek a b → a.position ≡ Some p → all_bytes_of b.position ≡ Some p.all_bytes
all_there a b p seek is = seek.all_bytes ∙ ap all_bytes_of is

pub position_put : (n : ℕ) (o : Option Position) (p : Position) → all_bytes_of o ≡ Some p.all_bytes → at_offset n o ≡ Some (record { all_bytes = p.all_bytes; offset = n })
position_put n None p is = cc
position_put n (Some q) p is = let same : q.all_bytes ≡ p.all_bytes = cc in ap (λ l. Some (record { all_bytes = l; offset = n })) same

-- what is opened after the header is the file's description
pub after_header : (a b c : State) (order : Endianness) (h : PerfHeader) (opening : FileOpening) → RemainsFromPosition a → FileHeaderParsed a h b → h.magic ≡ magic_of order → OpenedAfterHeader order h b opening c → FileOpened a opening c
after_header a b c order h opening placed parsed magic read = record {
  nonempty = read.nonempty;
  consistent = read.consistent;
  after_seek = after_seek_more a b c parsed.after_seek read.after_seek;
  file_opened = position_shows a (λ p. OpenedFileAt p opening c) (λ p is.
      let there = all_there a b p parsed.after_seek is in
      let visible_at : HoldsSections order h p.all_bytes × ((n : ℕ) → feature_data_of opening.perf_file.sections n ≡ section_data order h p.all_bytes n) =
      subst (λ o. IfSome o (λ all. HoldsSections order h all × ((n : ℕ) → feature_data_of opening.perf_file.sections n ≡ section_data order h all n))) there read.sections in
      record {
        header = h;
        matches = record { has_header = has_header a p h placed is parsed.file_header; can_skip_extra = parsed.extra_fits; magic = magic ∙ ap magic_of (sym read.endian) };
        end_fits = read.end_fits;
        features = read.features;
        data_size = read.data_size;
        sections_complete = subst (λ o. HoldsSections o h p.all_bytes) (sym read.endian) (visible_at.0);
        sections = subst (λ o. (n : ℕ) → feature_data_of opening.perf_file.sections n ≡ section_data o h p.all_bytes n) (sym read.endian) visible_at.1;
        attributes = subst (λ o. IfSome o (λ all. DescribesAttributes opening.perf_file.endian h all opening.perf_file.attributes.items)) there
            (subst (λ o. IfSome (all_bytes_of b.position) (λ all. DescribesAttributes o h all opening.perf_file.attributes.items)) (sym read.endian) read.attributes);
        position = read.position ∙ position_put h.data_section.offset b.position p there;
      });
}

pub after_error : (a b c : State) (order : Endianness) (h : PerfHeader) (e : Error) → RemainsFromPosition a → FileHeaderParsed a h b → h.magic ≡ magic_of order → OpenAfterHeaderError order h b e c → FileOpenError a e c
after_error a b c order h e placed parsed magic error = record {
  after_seek = after_seek_more a b c parsed.after_seek error.after_seek;
  named_error = error.named_error;
  cause = λ m. elim (error.cause m) [
    | inl seen_here ↦ inl (position_shows a (λ p. IsFileError p e) (λ p is.
        let stops : IfSome (Some p.all_bytes) (λ all. IsErrorAfterHeader order h all e) = subst (λ o. IfSome o (λ all. IsErrorAfterHeader order h all e)) (all_there a b p parsed.after_seek is) seen_here in
        inr (inr (inr (order, (h, record { has_header = has_header a p h placed is parsed.file_header; can_skip_extra = parsed.extra_fits; magic = magic }, stops))))))
    | inr source_error ↦ inr (earlier_source_error a b c e parsed.after_seek source_error)
  ];
}

pub after_file : (a b c : State) (order : Endianness) (h : PerfHeader) (r : Result FileOpening Error) → RemainsFromPosition a → FileHeaderParsed a h b → h.magic ≡ magic_of order → OpensAfterHeader order h b r c → OpensPerfFile a r c
after_file a b c order h (Ok opening) placed parsed magic reads = after_header a b c order h opening placed parsed magic reads
after_file a b c order h (Err e) placed parsed magic reads = after_error a b c order h e placed parsed magic reads
