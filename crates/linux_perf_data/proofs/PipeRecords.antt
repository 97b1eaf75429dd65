-- A record header and the bytes after it are a metadata record, or determine the error.
use Rattle.std.specs.Prelude.{Ok, Err}
use Rattle.std.proofs.Common.{◌≡◌, ◌≢◌, ℕ, ◌-◌, ◌≤◌, ◌++◌, List, length, drop, sym, ap, ◌∙◌, subst, arith, inl, inr, append_assoc, length-append}
use Rattle.perfdata_sources.specs.Source.{State, Consumed}
use Rattle.perfdata_sources.proofs.ConsumedLemmas.{consumed_more}
use Rattle.perfdata_sources.specs.RecordHeader.{record_header_of}
use Rattle.perfdata_sources.specs.Endian.{number_in}
use Rattle.perfdata_sources.specs.declared.endian.Endianness.{Endianness}
use Rattle.perfdata_sources.specs.declared.event.record_header.PerfEventHeader.{PerfEventHeader}
use Rattle.perfdata_sections.specs.declared.error.Error.{Error}
use Rattle.linux_perf_data.specs.Attribute.{HoldsAttribute}
use Rattle.linux_perf_data.specs.LateMetadata.{IsMetadataType, IsMetadataError}
use Rattle.linux_perf_data.specs.Layout.{IsCompressed, IsRecord, record_type_of, record_size_of}
use Rattle.linux_perf_data.specs.PipeOpening.{FailsBy, IsMetadataRecordError}
use Rattle.linux_perf_data.specs.steps.PipeSteps.{RecordAdded, NextRecordRead}
use Rattle.linux_perf_data.specs.steps.RecordFraming.{BytesRead, ChecksBodySize, ChecksRecordEnd}
use Rattle.linux_perf_data.specs.declared.metadata_records.PipeMetadata.{PipeMetadata}
use Rattle.linux_perf_data.proofs.RecordHeaders.{record_type_prefix, size_first_part, total_size_plain}
use Rattle.linux_perf_data.proofs.RecordReads.{after_header}
use Rattle.linux_perf_data.proofs.PipeErrors.{IsContentsError, error_later, shows}

-- metadata records aren't compressed and have no aux data
uncompressed : (kind : ℕ) → IsMetadataType kind → ¬ IsCompressed kind
uncompressed kind (inl is) (inl e) = omega (arith, is, e)
uncompressed kind (inl is) (inr e) = omega (arith, is, e)
uncompressed kind (inr is) (inl e) = omega (arith, is, e)
uncompressed kind (inr is) (inr e) = omega (arith, is, e)

untraced : (kind : ℕ) → IsMetadataType kind → kind ≢ 71
untraced kind (inl is) e = omega (arith, is, e)
untraced kind (inr is) e = omega (arith, is, e)

module _ (order : Endianness) (bytes : List ℕ) (header : PerfEventHeader) (is : header ≡ record_header_of (number_in order) bytes) (eight : length bytes ≡ 8) where
  kind_with : (x : List ℕ) → record_type_of order (bytes ++ x) ≡ header.type_
  kind_with x = record_type_prefix order bytes x (omega (arith, eight)) ∙ sym (ap (λ h. h.type_) is)

  size_with : (x : List ℕ) → record_size_of order (bytes ++ x) ≡ header.size
  size_with x = size_first_part order bytes x (omega (arith, eight)) ∙ sym (ap (λ h. h.size) is)

  -- the size in the record header is too small
  pub size_small : (a b : State) (offset : ℕ) (e : Error) → Consumed a bytes b → ChecksBodySize header.size (Err e) → FailsBy (IsMetadataRecordError order offset) a e b
  size_small a b offset e consumed (error, small) =
      shows (IsMetadataRecordError order offset) a b bytes e consumed
      (λ m rest. let size = size_with rest in inl (error, omega (arith, length-append bytes rest, eight), omega (arith, size, small)))

  module _ (least : 8 ≤ header.size) (meta : IsMetadataType header.type_) where
    meta_with : (x : List ℕ) → IsMetadataType (record_type_of order (bytes ++ x))
    meta_with x = subst IsMetadataType (sym (kind_with x)) meta

    -- the record header and the body are a record
    is_whole : (body : List ℕ) → length body ≡ header.size - 8 → IsRecord order (bytes ++ body)
    is_whole body long =
        let size = size_with body in
        let extent = total_size_plain order (bytes ++ body) (untraced (record_type_of order (bytes ++ body)) (meta_with body)) in
        record {
          min_size = omega (arith, size, least);
          not_compressed = uncompressed (record_type_of order (bytes ++ body)) (meta_with body);
          aux_min_size = λ e. absurd (untraced (record_type_of order (bytes ++ body)) (meta_with body) e);
          exact_len = omega (arith, length-append bytes body, eight, long, least, size, extent);
        }

    -- an error after a record header is an error of the record
    pub contents_stop : (offset : ℕ) (e : Error) (xs : List ℕ) → IsContentsError order offset header xs e → IsMetadataRecordError order offset (bytes ++ xs) e
    contents_stop offset e xs (inl (cause, far)) =
        let size = size_with xs in
        inr (inl (cause, meta_with xs, omega (arith, length-append bytes xs, eight), omega (arith, size, least), omega (arith, size, far)))
    contents_stop offset e xs (inr (inl (short, end_fits_u64, too_few))) =
        let size = size_with xs in
        inr (inr (inl (
          short,
          meta_with xs,
          record { complete_header = omega (arith, length-append bytes xs, eight); min_size = omega (arith, size, least); end_fits = omega (arith, size, end_fits_u64) },
          omega (arith, length-append bytes xs, eight, size, too_few, least),
        )))
    contents_stop offset e xs (inr (inr (end_fits_u64, (body, rest, cut, long, invalidates)))) =
        inr (inr (inr (
          bytes ++ body,
          record {
            is_record = is_whole body long;
            after_record = rest;
            split = ap (λ l. bytes ++ l) cut ∙ sym (append_assoc bytes body rest);
            end_fits = omega (arith, length-append bytes body, eight, long, least, end_fits_u64);
          },
          subst (λ k. IsMetadataError order k (drop 8 (bytes ++ body)) e) (sym (kind_with body)) (subst (λ l. IsMetadataError order header.type_ l e) (sym (after_header bytes body eight)) invalidates),
        )))

    pub record_error : (a b c : State) (offset : ℕ) (e : Error) → Consumed a bytes b → FailsBy (IsContentsError order offset header) b e c → FailsBy (IsMetadataRecordError order offset) a e c
    record_error a b c offset e consumed r = error_later (IsContentsError order offset header) (IsMetadataRecordError order offset) a b c bytes e consumed r (λ xs stops. contents_stop offset e xs stops)

    -- a metadata record is read
    pub record_read : (a b c : State) (offset end : ℕ) (body : List ℕ) (m m' : PipeMetadata) → Consumed a bytes b → ChecksRecordEnd offset header.size (Ok end) → BytesRead b (header.size - 8) body c → RecordAdded order header.type_ body m m' → NextRecordRead order offset a m end c m'
    record_read a b c offset end body m m' consumed (ends, fits) read added =
        let long = read.exact_len in
        let kind = kind_with body in
        let rest = after_header bytes body eight in
        record {
          raw_record = bytes ++ body;
          consumes = consumed_more a b c bytes body consumed read.consumes;
          matches = record {
            is_record = is_whole body long;
            record_type = meta_with body;
            valid_attribute = λ k. subst (HoldsAttribute order) (sym rest) (added.valid_attribute (sym kind ∙ k));
            valid_feature = λ k. let enough = added.valid_feature (sym kind ∙ k) in omega (arith, enough, ap length rest);
          };
          end_offset = omega (arith, length-append bytes body, eight, long, ends, least);
          end_fits = fits;
          record_added = subst (λ k. RecordAdded order k (drop 8 (bytes ++ body)) m m') (sym kind) (subst (λ l. RecordAdded order header.type_ l m m') (sym rest) added);
        }
