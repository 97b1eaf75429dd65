-- Processing a record shows that it is a valid raw record, or determines the error.
use Rattle.std.proofs.Common.{◌≡◌, ◌≢◌, ◌==◌, ℕ, ◌+◌, ◌^◌, ◌<◌, ◌≤◌, ◌++◌, List, [], ◌∷◌, length, drop, refl, sym, ap, ◌∙◌, subst, arith, inl, inr, eq-eqb, Option, None, Some}
use Rattle.std.specs.Prelude.{◌⊎◌, nat_eq}
use Rattle.std.specs.Map.{update_all}
use Rattle.std.proofs.lemmas.Bool.{cond-true}
use Rattle.std.proofs.lemmas.List.{drop-drop, length-drop}
use Rattle.perfdata_sources.specs.Source.{State}
use Rattle.perfdata_sources.specs.Endian.{number_in}
use Rattle.perfdata_sources.proofs.Numbers.{in_reads_first}
use Rattle.perfdata_sources.specs.declared.endian.Endianness.{Endianness}
use Rattle.perfdata_sources.specs.declared.event.record_header.PerfEventHeader.{PerfEventHeader}
use Rattle.perfdata_sections.specs.declared.error.Error.{Error}
use Rattle.perfdata_sections.specs.Error.{IsInvalidInput}
use Rattle.perfdata_sections.specs.AttributeDescription.{events_in}
use Rattle.perfdata_sections.specs.EventDesc.{IsEventDescError}
use Rattle.perfdata_sections.proofs.EventPrefixes.{event_desc_or_error}
use Rattle.linux_perf_data.specs.declared.records.iter.PerfRecordIter.{PerfRecordIter}
use Rattle.linux_perf_data.specs.declared.records.iter.IdentifiedRecord.{IdentifiedRecord}
use Rattle.linux_perf_data.specs.declared.records.iter.RecordOrigin.{RecordOrigin}
use Rattle.linux_perf_data.specs.declared.records.iter.RecordOrigin.TheVariants.{Kernel, User}
use Rattle.linux_perf_data.specs.declared.attributes.lookup.AttributeLookup.{AttributeLookup}
use Rattle.linux_perf_data.specs.declared.perf_file.PerfFile.{PerfFile}
use Rattle.linux_perf_data.specs.Attribute.{Attribute, EventRef, HoldsAttribute}
use Rattle.linux_perf_data.specs.AttributeLookup.{Represents, parse_info_at}
use Rattle.linux_perf_data.specs.steps.AttributeLookup.{KeepsAttributes}
use Rattle.linux_perf_data.specs.Layout.{SectionSize, RecordView, IsRecord, IsValidRecord, StartsWithRecord, LayoutError, invalid_metadata, truncated_metadata, attr_size_too_small, invalid_event_desc, inconsistent_attributes, ErrorAt, record_type_of, attributes_in_record}
use Rattle.linux_perf_data.specs.FeatureNumbers.{event_desc}
use Rattle.linux_perf_data.specs.Names.{IsReadableEventDesc, NamedByEventDesc, feature_in_body}
use Rattle.linux_perf_data.specs.PerfFile.{descriptions_of_file, feature_data_in_file}
use Rattle.linux_perf_data.specs.LateMetadata.{IsMetadataType, UpdatesPerfFile, HasValidMetadata, SameAttributeCount, MetadataApplied, MetadataRejected, RejectsMetadata, PassesEarlierChecks}
use Rattle.linux_perf_data.specs.RecordFraming.{IsErrorFor, MayNeedMemory}
use Rattle.linux_perf_data.specs.RecordViews.{event_by_origin, attr_index_by_origin, record_type_by_origin, endian_by_origin}
use Rattle.linux_perf_data.specs.steps.RecordViews.{IdentifiesRecord}
use Rattle.linux_perf_data.specs.Iter.{section_size_of}
use Rattle.linux_perf_data.specs.steps.IterSteps.{SameButLookup, RecordProcessed, RecordRejected}
use Rattle.linux_perf_data.proofs.RecordHeaders.{total_size_plain}

-- an EVENT_DESC that is applied is readable
named_described : (order : Endianness) (described : Option (List ℕ)) (bytes : List ℕ) (file : PerfFile) → described ≡ Some bytes → NamedByEventDesc order described (descriptions_of_file file) → IsReadableEventDesc order bytes
named_described order described bytes file is named = let n : NamedByEventDesc order (Some bytes) (descriptions_of_file file) = subst (λ o. NamedByEventDesc order o (descriptions_of_file file)) is named in (events_in n.0, n.1)

names_described : (order : Endianness) (kind : ℕ) (body : List ℕ) (file file' : PerfFile) → UpdatesPerfFile order None kind body file file' → kind ≡ 80 → feature_in_body order body ≡ event_desc → IsReadableEventDesc order (drop 8 body)
names_described order kind body file file' step is desc =
    let adds : List (ℕ × List ℕ) = (feature_in_body order body, drop 8 body) ∷ [] in
    let there : feature_data_in_file file' event_desc ≡ Some (drop 8 body) =
    step.feature_data event_desc ∙ ap (λ l. update_all nat_eq (feature_data_in_file file) l event_desc) (cond-true (kind == 80) adds [] (eq-eqb kind 80 is))
    ∙ ap (λ n. update_all nat_eq (feature_data_in_file file) ((n, drop 8 body) ∷ []) event_desc) desc in
    named_described order (feature_data_in_file file' event_desc) (drop 8 body) file' there (step.names_match (inr (is, desc)))

-- a record whose metadata is applied is a valid raw record
pub consumed_record : (order : Endianness) (bound : SectionSize) (kind : ℕ) (p body : List ℕ) (file file' : PerfFile) → IsRecord order p → record_type_of order p ≡ kind → body ≡ drop 8 p → (bound ≡ None → kind ≡ 64 → HoldsAttribute order body)
    → (bound ≡ None → kind ≡ 80 → 8 ≤ length body) → UpdatesPerfFile order bound kind body file file' → IsValidRecord order bound p
consumed_record order bound kind p body file file' is kind_is buffered attribute feature step = record {
  is_record = is;
  valid_attribute = λ pipe k. subst (HoldsAttribute order) buffered (attribute pipe (sym kind_is ∙ k));
  valid_feature = λ pipe k. (let long = feature pipe (sym kind_is ∙ k) in let same = ap length buffered in omega (arith, long, same));
  valid_event_desc = λ pipe k desc.
      let step' : UpdatesPerfFile order None kind body file file' = subst (λ b. UpdatesPerfFile order b kind body file file') pipe step in
      let described : IsReadableEventDesc order (drop 8 body) = names_described order kind body file file' step' (sym kind_is ∙ k) (ap (feature_in_body order) buffered ∙ desc) in
      subst (IsReadableEventDesc order) (ap (drop 8) buffered ∙ drop-drop 8 8 p) described;
}

-- a marker is a valid raw record
pub marker_record : (order : Endianness) (bound : SectionSize) (p : List ℕ) → IsRecord order p → record_type_of order p ≡ 68 → IsValidRecord order bound p
marker_record order bound p is marker = record {
  is_record = is;
  valid_attribute = λ pipe k. absurd (omega (arith, k, marker));
  valid_feature = λ pipe k. absurd (omega (arith, k, marker));
  valid_event_desc = λ pipe k desc. absurd (omega (arith, k, marker));
}

-- a record with a complete attribute is a valid raw record
attribute_piece : (order : Endianness) (p : List ℕ) → IsRecord order p → record_type_of order p ≡ 64 → HoldsAttribute order (drop 8 p) → IsValidRecord order None p
attribute_piece order p is kind holds = record {
  is_record = is;
  valid_attribute = λ pipe k. holds;
  valid_feature = λ pipe k. absurd (omega (arith, k, kind));
  valid_event_desc = λ pipe k desc. absurd (omega (arith, k, kind));
}

-- The causes for which metadata isn't applied: a layout error, or a `PerfFile` of another input.
abbrev pub LateFault : Endianness → AttributeLookup → PerfFile → ℕ → List ℕ → Error → Type 0
LateFault order known file offset p e = (f : LayoutError) × ((rest : List ℕ) (attrs : List Attribute) → Represents order known attrs → ErrorAt order None offset attrs (p ++ rest) f) × PassesEarlierChecks order known file f × IsErrorFor f e

abbrev pub Foreign : Endianness → AttributeLookup → PerfFile → List ℕ → Error → Type 0
Foreign order known file p e = (IsInvalidInput e × ((attrs : List Attribute) → Represents order known attrs → length (descriptions_of_file file) ≢ length attrs))
    ⊎ (SameAttributeCount order known file × (record_type_of order p ≡ 64) × HoldsAttribute order (drop 8 p) × ((bytes : List ℕ) × (feature_data_in_file file event_desc ≡ Some bytes) × IsEventDescError (number_in order) e bytes))

starts_with_record : (order : Endianness) (offset : ℕ) (p rest : List ℕ) → IsRecord order p → offset + length p < 2 ^ 64 → StartsWithRecord order offset (p ++ rest) p
starts_with_record order offset p rest is fits = record { is_record = is; after_record = rest; split = refl; end_fits = fits }

-- an EVENT_DESC with an error isn't readable
unread : (order : Endianness) (e : Error) (bytes : List ℕ) → IsEventDescError (number_in order) e bytes → ¬ IsReadableEventDesc order bytes
unread order e bytes stops described = event_desc_or_error (number_in order) (in_reads_first order) e bytes described.0 stops described.1

pub late_cause : (order : Endianness) (known : AttributeLookup) (file : PerfFile) (offset : ℕ) (p : List ℕ) (e : Error) → IsRecord order p → offset + length p < 2 ^ 64 → RejectsMetadata order known file (record_type_of order p) (drop 8 p) e
    → LateFault order known file offset p e ⊎ Foreign order known file p e
late_cause order known file offset p e is fits (inl differ) = inr (inl differ)
late_cause order known file offset p e is fits (inr (count, inl (inl (short, inl (kind, cuts))))) =
    inl (invalid_metadata truncated_metadata, (λ rest attrs k. (refl, (p, starts_with_record order offset p rest is fits, inl (kind, cuts)))), (λ _. (count, λ b other. absurd cc)), short)
late_cause order known file offset p e is fits (inr (count, inl (inl (short, inr (kind, too_few))))) =
    inl (invalid_metadata truncated_metadata, (λ rest attrs k. (refl, (p, starts_with_record order offset p rest is fits, inr (kind, too_few)))), (λ _. (count, λ b other. absurd cc)), short)
late_cause order known file offset p e is fits (inr (count, inl (inr (invalid, kind, small)))) =
    inl (invalid_metadata attr_size_too_small, (λ rest attrs k. (refl, (p, starts_with_record order offset p rest is fits, (kind, small)))), (λ _. (count, λ b other. absurd cc)), invalid)
late_cause order known file offset p e is fits (inr (count, inr (inl (bytes, inl (kind, holds, there), stops)))) = inr (inr (count, kind, holds, (bytes, there, stops)))
late_cause order known file offset p e is fits (inr (count, inr (inl (bytes, inr (kind, there, desc, are), stops)))) =
    inl (
      invalid_event_desc order bytes,
      (λ rest attrs k. (
        refl,
        refl,
        (
          p,
          starts_with_record order offset p rest is fits,
          record { record_type = kind; complete = there; matches = desc; data_bytes = are ∙ drop-drop 8 8 p; not_readable = unread order e bytes stops },
        ),
      )),
      (λ _. (count, λ b other. absurd cc)),
      stops,
    )
late_cause order known file offset p e is fits (inr (count, inr (inr (b, kind, holds, can, answer, breaks)))) =
    inl (inconsistent_attributes b, (λ rest attrs k. (refl, (p, starts_with_record order offset p rest is fits, attribute_piece order p is kind holds, breaks attrs k))), (λ _. (count, λ _ _. can)), answer)

-- a body with valid metadata has at least eight bytes and is neither that of an auxtrace record nor that of a marker
pub contents_there : (order : Endianness) (kind : ℕ) (body : List ℕ) → HasValidMetadata order kind body → (8 ≤ length body) × (kind ≢ 71) × (kind ≢ 68)
contents_there order kind body (inl (is, holds)) = (holds.has_fixed_part, λ k. absurd (omega (arith, k, is)), λ k. absurd (omega (arith, k, is)))
contents_there order kind body (inr (is, there)) = (there, λ k. absurd (omega (arith, k, is)), λ k. absurd (omega (arith, k, is)))

-- a record with valid metadata has a body, which may need memory
pub needs_memory : (order : Endianness) (kind : ℕ) (p : List ℕ) → IsRecord order p → record_type_of order p ≡ kind → HasValidMetadata order kind (drop 8 p) → MayNeedMemory order p
needs_memory order kind p is same contents =
    let there = contents_there order kind (drop 8 p) contents in
    let long = is.exact_len ∙ total_size_plain order p (λ k. there.1 (sym same ∙ k)) in
    let left = length-drop 8 p in
    let some = there.0 in
    record {
      complete_header = omega (arith, left, some);
      record_type = λ k. there.2 (sym same ∙ k);
      has_body = omega (arith, long, left, some);
    }

plain_kernel : (kind : ℕ) → kind < 64 → ¬ IsMetadataType kind
plain_kernel kind kernel (inl is) = absurd (omega (arith, kernel, is))
plain_kernel kind kernel (inr is) = absurd (omega (arith, kernel, is))

-- the event of a record and its byte order are unchanged if the lookup is, or if the kernel didn't write the record
same_event : (k k' : AttributeLookup) (w : RecordOrigin) → ((i : ℕ) → w ≡ Kernel i → k' ≡ k) → event_by_origin (parse_info_at k' (attr_index_by_origin w)) w ≡ event_by_origin (parse_info_at k (attr_index_by_origin w)) w
same_event k k' (Kernel i) same = ap (λ x. Some (record { index = i; parse_info = parse_info_at x i })) (same i refl)
same_event k k' (User t) same = refl

same_order : (k k' : AttributeLookup) (w : RecordOrigin) (order : Endianness) → ((i : ℕ) → w ≡ Kernel i → k' ≡ k) → endian_by_origin (parse_info_at k' (attr_index_by_origin w)) w order ≡ endian_by_origin (parse_info_at k (attr_index_by_origin w)) w order
same_order k k' (Kernel i) order same = ap (λ x. (parse_info_at x i).endian) (same i refl)
same_order k k' (User t) order same = refl

-- an identified record is the same after metadata is applied
finds_later : (old known new : AttributeLookup) (offset round : ℕ) (header : PerfEventHeader) (body : List ℕ) (found : IdentifiedRecord) → (header.type_ < 64 → new ≡ known) → IdentifiesRecord old offset round header body found known → IdentifiesRecord old offset round header body found new
finds_later old known new offset round header body found remains finds =
    let same = λ (i : ℕ) (is : found.origin ≡ Kernel i). remains (finds.kernel_type i is) in
    let with' : Endianness → Option EventRef → List ℕ → RecordView = λ o e b. record { offset = found.place.offset; round = found.place.round; record_type = record_type_by_origin found.origin found.record_type.0; misc = found.misc; endian = o; body = b; event = e; timestamp = found.place.timestamp } in
    record {
      offset_matches = finds.offset_matches;
      round_matches = finds.round_matches;
      record_type = finds.record_type;
      kernel_type = finds.kernel_type;
      matches = λ order attrs k.
          ap (λ o. with' o (event_by_origin (parse_info_at new (attr_index_by_origin found.origin)) found.origin) body) (same_order known new found.origin order same)
          ∙ ap (λ e. with' (endian_by_origin (parse_info_at known (attr_index_by_origin found.origin)) found.origin order) e body) (same_event known new found.origin same) ∙ finds.matches order attrs k;
    }

module _ {R : Type 0} (state : R → State) where
  -- a record of a pipe is processed
  pub record_processed : (old new : PerfRecordIter R) (file file' : PerfFile) (offset round : ℕ) (header : PerfEventHeader) (found : IdentifiedRecord) (known : AttributeLookup) (body : List ℕ) → body ≡ old.body.items → section_size_of state old ≡ None
      → IdentifiesRecord old.attribute_lookup offset round header body found known → KeepsAttributes old.attribute_lookup known → MetadataApplied old.endian known file header.type_ body new.attribute_lookup file' → ((¬ IsMetadataType header.type_) → (new.attribute_lookup ≡ known) × (file' ≡ file)) → SameButLookup state old new → new.stage ≡ old.stage
      → RecordProcessed state old file offset round header found new file'
  record_processed old new file file' offset round header found known body is pipe finds learns step others after running =
      let step' : MetadataApplied old.endian known file header.type_ old.body.items new.attribute_lookup file' = subst (λ b. MetadataApplied old.endian known file header.type_ b new.attribute_lookup file') is step in
      record {
        same_but_lookup = after;
        stage = running;
        record_identified = subst (λ b. IdentifiesRecord old.attribute_lookup offset round header b found new.attribute_lookup) is (finds_later old.attribute_lookup known new.attribute_lookup offset round header body found (λ kernel. (others (plain_kernel header.type_ kernel)).0) finds);
        represents = λ attrs k. subst (λ b. Represents old.endian new.attribute_lookup (attrs ++ attributes_in_record old.endian b header.type_ old.body.items)) (sym pipe) (step'.represents attrs (learns old.endian attrs k));
        valid_attribute = λ _ kind. step'.valid_attribute kind;
        valid_feature = λ _ kind. step'.valid_feature kind;
        same_attribute_count = λ _ metadata attrs k. step'.same_attribute_count metadata attrs (learns old.endian attrs k);
        file_updates = subst (λ b. UpdatesPerfFile old.endian b header.type_ old.body.items file file') (sym pipe) step'.file_updates;
        file_unchanged_otherwise = λ cause_of. elim cause_of [ inl file ↦ absurd (file pipe) | inr isnt ↦ (others isnt).1 ];
      }

  -- a count that doesn't match the new lookup didn't match the old one
  learned_count : (order : Endianness) (known known' : AttributeLookup) (file : PerfFile) → KeepsAttributes known known' → SameAttributeCount order known' file → SameAttributeCount order known file
  learned_count order known known' file learns count attrs k = count attrs (learns order attrs k)

  learned_not : (order : Endianness) (known known' : AttributeLookup) (file : PerfFile) (kind : ℕ) (body : List ℕ) (e : Error) → KeepsAttributes known known' → RejectsMetadata order known' file kind body e → RejectsMetadata order known file kind body e
  learned_not order known known' file kind body e learns (inl (is, differ)) = inl (is, λ attrs k. differ attrs (learns order attrs k))
  learned_not order known known' file kind body e learns (inr (count, inl invalidates)) = inr (learned_count order known known' file learns count, inl invalidates)
  learned_not order known known' file kind body e learns (inr (count, inr (inl names))) = inr (learned_count order known known' file learns count, inr (inl names))
  learned_not order known known' file kind body e learns (inr (count, inr (inr (b, is, holds, can, answer, breaks)))) =
      inr (learned_count order known known' file learns count, inr (inr (b, is, holds, can, answer, λ attrs k. breaks attrs (learns order attrs k))))

  pub record_rejected : (old new : PerfRecordIter R) (file file' : PerfFile) (header : PerfEventHeader) (e : Error) (known : AttributeLookup) (body : List ℕ) → body ≡ old.body.items → section_size_of state old ≡ None → KeepsAttributes old.attribute_lookup known
      → MetadataRejected old.endian known file header.type_ body e file' → SameButLookup state old new → RecordRejected state old file header e new file'
  record_rejected old new file file' header e known body is pipe learns declined after = record {
    same_but_lookup = after;
    in_pipe = pipe;
    metadata_type = declined.metadata_type;
    same_file = declined.same_file;
    not_failed = declined.not_failed;
    if_out_of_memory = λ m. (learned_count old.endian old.attribute_lookup known file learns (declined.if_out_of_memory m).0, subst (HasValidMetadata old.endian header.type_) is (declined.if_out_of_memory m).1);
    cause = λ other. subst (λ b. RejectsMetadata old.endian old.attribute_lookup file header.type_ b e) is (learned_not old.endian old.attribute_lookup known file header.type_ body e learns (declined.cause other));
  }
