-- The record for which memory runs out is the whole metadata record that the call consumed.
use Rattle.std.proofs.Common.{◌≡◌, ◌≢◌, ℕ, ◌+◌, ◌≤◌, ◌++◌, List, [], ◌∷◌, length, drop, sym, ap, ◌∙◌, subst, arith, inl, inr, append_assoc, append-nil, Option, None, Some}
use Rattle.std.specs.List.{concat}
use Rattle.std.proofs.lemmas.List.{append_cancel_right}
use Rattle.perfdata_sources.specs.Source.{prepend}
use Rattle.perfdata_sources.specs.declared.endian.Endianness.{Endianness}
use Rattle.perfdata_sections.specs.RecordTypes.{finished_round}
use Rattle.perfdata_sections.specs.declared.error.Error.{Error}
use Rattle.perfdata_sections.specs.declared.error.Error.TheVariants.{Memory}
use Rattle.linux_perf_data.specs.declared.perf_file.PerfFile.{PerfFile}
use Rattle.linux_perf_data.specs.InMemory.{MemoryIter, memory_state}
use Rattle.linux_perf_data.specs.Iter.{ConsumesMetadata, StopsAtError, iter_source_state}
use Rattle.linux_perf_data.specs.LateMetadata.{HasValidMetadata, IsMetadataType}
use Rattle.linux_perf_data.specs.Layout.{AreMarkerRecords, IsRecord, SectionSize, record_type_of}
use Rattle.linux_perf_data.specs.RecordFraming.{IsTruncatedAfterHeader}
use Rattle.linux_perf_data.proofs.RecordHeaders.{record_least, record_type_prefix, same_prefix, size_in_total_size}

-- bytes before the same rest are the same
same_consumed : (o : Option (List ℕ)) (all a b : List ℕ) → Some all ≡ prepend a o → Some all ≡ prepend b o → a ≡ b
same_consumed None all a b x y = cc
same_consumed (Some rest) all a b x y = append_cancel_right a b rest (let e : Some (a ++ rest) ≡ Some (b ++ rest) = sym x ∙ y in cc)

module _ (order : Endianness) where
  -- a record of another type doesn't start with a marker
  not_marker : (m p a b : List ℕ) → IsRecord order m → record_type_of order m ≡ finished_round → 8 ≤ length p → record_type_of order p ≢ finished_round → p ++ b ≡ m ++ a → ⊥
  not_marker m p a b is marker long other same = other (sym (record_type_prefix order p b long) ∙ ap (record_type_of order) same ∙ record_type_prefix order m a (record_least order m is) ∙ marker)

  -- what follows all markers is determined
  same_after_markers : (bound : SectionSize) (offset offset' : ℕ) (ms ns : List (List ℕ)) (p q : List ℕ) → AreMarkerRecords order bound offset ms → AreMarkerRecords order bound offset' ns
      → 8 ≤ length p → record_type_of order p ≢ finished_round → 8 ≤ length q → record_type_of order q ≢ finished_round → concat ms ++ p ≡ concat ns ++ q → p ≡ q
  same_after_markers bound offset offset' [] [] p q are are' long other long' other' same = same
  same_after_markers bound offset offset' [] (n ∷ ns) p q are are' long other long' other' same =
      absurd (not_marker n p (concat ns ++ q) [] are'.1 are'.2 long other (append-nil p ∙ same ∙ append_assoc n (concat ns) q))
  same_after_markers bound offset offset' (m ∷ ms) [] p q are are' long other long' other' same =
      absurd (not_marker m q (concat ms ++ p) [] are.1 are.2 long' other' (append-nil q ∙ sym same ∙ append_assoc m (concat ms) p))
  same_after_markers bound offset offset' (m ∷ ms) (n ∷ ns) p q are are' long other long' other' same =
      let first = same_prefix order m n (concat ms ++ p) (concat ns ++ q) are.1 are'.1 (sym (append_assoc m (concat ms) p) ∙ same ∙ append_assoc n (concat ns) q) in
      same_after_markers bound (offset + length m) (offset' + length n) ms ns p q are.3 are'.3 long other long' other' first.1

  -- a whole record isn't truncated
  not_truncated : (p : List ℕ) → IsRecord order p → IsTruncatedAfterHeader order p → ⊥
  not_truncated p is (long, inl body) = (let exact = is.exact_len in omega (arith, exact, body, size_in_total_size order p))
  not_truncated p is (long, inr aux) = (let exact = is.exact_len in let short = aux.3 in omega (arith, exact, short))

  not_round : (kind : ℕ) → IsMetadataType kind → kind ≢ finished_round
  not_round kind (inl is) round = (let e = sym is ∙ round in omega (arith, e))
  not_round kind (inr is) round = (let e = sym is ∙ round in omega (arith, e))

-- the metadata of the record is complete
pub complete_metadata : (now new : MemoryIter) (file : PerfFile) (all : List ℕ) (e : Error) → (iter_source_state memory_state now).bytes ≡ Some all → StopsAtError memory_state now file e new → e ≡ Memory → (m : ConsumesMetadata memory_state now new)
    → HasValidMetadata now.endian (record_type_of now.endian m.raw_record) (drop 8 m.raw_record)
complete_metadata now new file all e known stop is m =
    let order = now.endian in
    let needs = stop.if_out_of_memory is in
    let consumed : stop.markers ++ stop.consumed_bytes ≡ m.markers ++ m.raw_record =
    same_consumed (iter_source_state memory_state new).bytes all (stop.markers ++ stop.consumed_bytes) (m.markers ++ m.raw_record) (sym known ∙ stop.consumes.bytes) (sym known ∙ m.consumes.bytes) in
    let same : stop.consumed_bytes ≡ m.raw_record =
    same_after_markers order _ now.offset now.offset stop.valid_markers.raw_records m.valid_markers.raw_records stop.consumed_bytes m.raw_record stop.valid_markers.elements m.valid_markers.elements
    needs.0.complete_header needs.0.record_type (record_least order m.raw_record m.is_record) (not_round order (record_type_of order m.raw_record) m.metadata_type)
    (ap (λ l. l ++ stop.consumed_bytes) (sym stop.valid_markers.split) ∙ consumed ∙ ap (λ l. l ++ m.raw_record) m.valid_markers.split) in
    elim needs.1 [
      | inl truncated ↦ absurd (not_truncated order m.raw_record m.is_record (subst (IsTruncatedAfterHeader order) same truncated))
      | inr complete ↦ subst (λ p. HasValidMetadata order (record_type_of order p) (drop 8 p)) same complete.3
    ]
