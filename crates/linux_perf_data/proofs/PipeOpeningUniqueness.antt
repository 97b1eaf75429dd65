-- A pipe has one opening: one run of metadata records that no further one follows. If their metadata opens a pipe, it has no
-- error.
use Rattle.std.proofs.Common.{◌≡◌, ℕ, ◌+◌, ◌-◌, ◌^◌, ◌<◌, ◌≤◌, List, [], ◌∷◌, ◌++◌, length, take, drop, refl, sym, ap, ◌∙◌, subst, inl, inr, arith, length-append, append_assoc, None}
use Rattle.std.specs.Prelude.{◌⊎◌, All}
use Rattle.std.specs.List.{concat}
use Rattle.std.proofs.Math.Seq.{drop-append_seam, take-append_seam}
use Rattle.std.proofs.lemmas.List.{take-append-le}
use Rattle.std.proofs.lemmas.List.Elements.{All-head, All-tail}
use Rattle.perfdata_sources.specs.Endian.{number_in}
use Rattle.perfdata_sources.specs.declared.endian.Endianness.{Endianness}
use Rattle.perfdata_sources.specs.declared.endian.Endianness.TheVariants.{LittleEndian, BigEndian}
use Rattle.perfdata_sources.proofs.Numbers.{number_drop_prefix}
use Rattle.perfdata_sections.specs.declared.error.Error.{Error}
use Rattle.linux_perf_data.specs.LateMetadata.{IsMetadataType, IsMetadataError}
use Rattle.linux_perf_data.specs.Layout.{attributes_in_records, record_type_of}
use Rattle.perfdata_base.specs.Header.{magic_of}
use Rattle.linux_perf_data.specs.PipeOpening.{IsPipeHeader, IsMetadataRecord, AreMetadata, EndsMetadata, IsMetadataRecordError, IsMetadataListError, IsMetadataReadError, IsPipeError, CanOpenPipe}
use Rattle.linux_perf_data.proofs.RecordHeaders.{record_type_prefix, size_first_part, size_in_total_size, record_least, same_prefix}
use Rattle.linux_perf_data.proofs.EventDescNames.{error_or_readable}
use Rattle.linux_perf_data.proofs.ConsistencyLemmas.{consistent_not_inconsistent}
use Rattle.linux_perf_data.proofs.RecordsOrErrors.{truncated_or_complete}

module _ (order : Endianness) where
  -- ---- after metadata records

  metadata_goes_on : (p after : List ℕ) → IsMetadataRecord order p → EndsMetadata order (p ++ after) → ⊥
  metadata_goes_on p after is ends =
      let least = record_least order p is.is_record in
      (ends (omega (arith, least, length-append p after))).1 (subst IsMetadataType (sym (record_type_prefix order p after least)) is.record_type)

  invalidates_none : (p : List ℕ) (e : Error) → IsMetadataRecord order p → IsMetadataError order (record_type_of order p) (drop 8 p) e → ⊥
  invalidates_none p e is (inl (short, inl (kind, cut))) = truncated_or_complete order (drop 8 p) cut (is.valid_attribute kind)
  invalidates_none p e is (inl (short, inr (kind, too_few))) = let long = is.valid_feature kind in omega (arith, too_few, long)
  invalidates_none p e is (inr (invalid, kind, small)) = let least = (is.valid_attribute kind).min_size in let below = small.1 in omega (arith, least, below)

  invalidates_metadata : (kind : ℕ) (body : List ℕ) (e : Error) → IsMetadataError order kind body e → IsMetadataType kind
  invalidates_metadata kind body e (inl (short, inl (is, cut))) = inl is
  invalidates_metadata kind body e (inl (short, inr (is, too_few))) = inr is
  invalidates_metadata kind body e (inr (invalid, is, small)) = inl is

  -- a metadata record has no error
  record_stands : (offset : ℕ) (p after : List ℕ) (e : Error) → IsMetadataRecord order p → offset + length p < 2 ^ 64 → IsMetadataRecordError order offset (p ++ after) e → ⊥
  record_stands offset p after e is fits (inl (error, header_bytes, small)) =
      let size = size_first_part order p after (record_least order p is.is_record) in
      let least = is.is_record.min_size in
      omega (arith, size, least, small)
  record_stands offset p after e is fits (inr (inl (error, kind, header_bytes, least, far))) =
      let size = size_first_part order p after (record_least order p is.is_record) in
      let long = is.is_record.exact_len in
      omega (arith, size, far, fits, long, size_in_total_size order p)
  record_stands offset p after e is fits (inr (inr (inl (error, kind, header_bytes, cut)))) =
      let size = size_first_part order p after (record_least order p is.is_record) in
      let long = is.is_record.exact_len in
      omega (arith, size, cut, long, size_in_total_size order p, length-append p after)
  record_stands offset p after e is fits (inr (inr (inr (q, starts_with_record, invalidates)))) =
      let same = (same_prefix order q p starts_with_record.after_record after starts_with_record.is_record is.is_record (sym starts_with_record.split)).0 in
      invalidates_none p e is (subst (λ r. IsMetadataError order (record_type_of order r) (drop 8 r) e) same invalidates)

  -- the end of the metadata records has no error
  pub end_stands : (offset : ℕ) (suffix : List ℕ) (e : Error) → EndsMetadata order suffix → IsMetadataRecordError order offset suffix e → ⊥
  end_stands offset suffix e ends (inl (error, header_bytes, small)) = let least = (ends header_bytes).0 in omega (arith, least, small)
  end_stands offset suffix e ends (inr (inl (error, kind, header_bytes, least, far))) = (ends header_bytes).1 kind
  end_stands offset suffix e ends (inr (inr (inl (error, kind, header_bytes, cut)))) = (ends header_bytes.complete_header).1 kind
  end_stands offset suffix e ends (inr (inr (inr (q, starts_with_record, invalidates)))) =
      let least = record_least order q starts_with_record.is_record in
      let whole = ap length starts_with_record.split in
      let kind : record_type_of order suffix ≡ record_type_of order q = ap (record_type_of order) starts_with_record.split ∙ record_type_prefix order q starts_with_record.after_record least in
      (ends (omega (arith, least, whole, length-append q starts_with_record.after_record))).1 (subst IsMetadataType (sym kind) (invalidates_metadata (record_type_of order q) (drop 8 q) e invalidates))

  -- ---- two runs of metadata records

  -- a metadata record starts at an offset
  pub record Next (offset : ℕ) (rest : List ℕ) : Type 0 where
    pub first : List ℕ
    pub after : List ℕ
    pub cut : rest ≡ first ++ after
    pub is : IsMetadataRecord order first
    pub fits : offset + length first < 2 ^ 64

  -- Two runs and their rests are equal, or a metadata record follows the second run.
  abbrev Same : ℕ → List (List ℕ) → List (List ℕ) → List ℕ → List ℕ → Type 0
  Same offset ps qs suffix later = ((ps ≡ qs) × (suffix ≡ later)) ⊎ Next (offset + length (concat qs)) later

  runs_agree : (offset : ℕ) (ps qs : List (List ℕ)) (suffix later : List ℕ) → All (IsMetadataRecord order) ps → All (IsMetadataRecord order) qs → EndsMetadata order suffix → offset + length (concat ps) < 2 ^ 64
      → concat ps ++ suffix ≡ concat qs ++ later → Same offset ps qs suffix later
  runs_agree offset [] [] suffix later x y ends fits same = inl (refl, same)
  runs_agree offset [] (q ∷ qs) suffix later x y ends fits same =
      let whole : suffix ≡ q ++ (concat qs ++ later) = same ∙ append_assoc q (concat qs) later in
      absurd (metadata_goes_on q (concat qs ++ later) (All-head (IsMetadataRecord order) q qs y) (subst (EndsMetadata order) whole ends))
  runs_agree offset (p ∷ ps) [] suffix later x y ends fits same =
      inr (record {
        first = p;
        after = concat ps ++ suffix;
        cut = sym same ∙ append_assoc p (concat ps) suffix;
        is = All-head (IsMetadataRecord order) p ps x;
        fits = omega (arith, fits, length-append p (concat ps));
      })
  runs_agree offset (p ∷ ps) (q ∷ qs) suffix later x y ends fits same =
      let is = All-head (IsMetadataRecord order) p ps x in
      let is' = All-head (IsMetadataRecord order) q qs y in
      let whole : p ++ (concat ps ++ suffix) ≡ q ++ (concat qs ++ later) = sym (append_assoc p (concat ps) suffix) ∙ same ∙ append_assoc q (concat qs) later in
      let here = same_prefix order p q (concat ps ++ suffix) (concat qs ++ later) is.is_record is'.is_record whole in
      let end_fits_u64 : offset + length p + length (concat ps) < 2 ^ 64 = omega (arith, fits, length-append p (concat ps)) in
      let long : length p ≡ length q = ap length here.0 in
      let sum : offset + length p + length (concat qs) ≡ offset + length (q ++ concat qs) = omega (arith, long, length-append q (concat qs)) in
      elim (runs_agree (offset + length p) ps qs suffix later (All-tail (IsMetadataRecord order) p ps x) (All-tail (IsMetadataRecord order) q qs y) ends end_fits_u64 here.1) [
        | inl both ↦ inl (ap (λ l. l ∷ ps) here.0 ∙ ap (λ l. q ∷ l) both.0, both.1)
        | inr next ↦ inr (subst (λ o. Next o later) sum next)
      ]

  pub next_goes_on : (offset : ℕ) (rest : List ℕ) → Next offset rest → EndsMetadata order rest → ⊥
  next_goes_on offset rest next ends = metadata_goes_on next.first next.after next.is (subst (EndsMetadata order) next.cut ends)

  pub next_stands : (offset : ℕ) (rest : List ℕ) (e : Error) → Next offset rest → IsMetadataRecordError order offset rest e → ⊥
  next_stands offset rest e next stops = record_stands offset next.first next.after e next.is next.fits (subst (λ l. IsMetadataRecordError order offset l e) next.cut stops)

  pub pipe_opening_is_unique : (ps qs : List (List ℕ)) (suffix later : List ℕ) → AreMetadata order ps → AreMetadata order qs → EndsMetadata order suffix → EndsMetadata order later → concat ps ++ suffix ≡ concat qs ++ later → (ps ≡ qs) × (suffix ≡ later)
  pipe_opening_is_unique ps qs suffix later x y ends ends' same =
      let fits = x.size_fits in
      elim (runs_agree 0 ps qs suffix later x.elements y.elements ends (omega (arith, fits)) same) [
        | inl both ↦ both
        | inr next ↦ absurd (next_goes_on (0 + length (concat qs)) later next ends')
      ]

  -- metadata that can open a pipe has no error
  described_stands : (ps : List (List ℕ)) (e : Error) → CanOpenPipe order ps → IsMetadataListError order ps e → ⊥
  described_stands ps e opens (inl (error, none)) = opens.nonempty none
  described_stands ps e opens (inr (inl (bytes, some, described, fails))) = error_or_readable order e bytes fails (opens.event_desc_readable bytes described)
  described_stands ps e opens (inr (inr (b, described, breaks, error))) = consistent_not_inconsistent (attributes_in_records order None ps) b opens.consistent breaks

  metadata_stands : (ps : List (List ℕ)) (suffix : List ℕ) (e : Error) → AreMetadata order ps → EndsMetadata order suffix → CanOpenPipe order ps → IsMetadataReadError order (concat ps ++ suffix) e → ⊥
  metadata_stands ps suffix e are ends opens stops =
      let fits = are.size_fits in
      elim (runs_agree 0 ps stops.raw_records suffix stops.after_records are.elements stops.elements.elements ends (omega (arith, fits)) stops.split) as (λ _. ⊥) [
        | inl both ↦ elim stops.cause as (λ _. ⊥) [
          | inl here ↦ end_stands (length (concat stops.raw_records)) stops.after_records e (subst (EndsMetadata order) both.1 ends) here
          | inr described ↦ described_stands stops.raw_records e (subst (CanOpenPipe order) both.0 opens) described.1
        ]
        | inr next ↦
            let z : 0 + length (concat stops.raw_records) ≡ length (concat stops.raw_records) = omega arith in
            let end_fits_u64 = subst (λ o. Next o stops.after_records) z next in
            elim stops.cause as (λ _. ⊥) [
              | inl here ↦ next_stands (length (concat stops.raw_records)) stops.after_records e end_fits_u64 here
              | inr described ↦ next_goes_on (length (concat stops.raw_records)) stops.after_records end_fits_u64 described.0
            ]
      ]

-- ---- the header

abbrev first_of : List ℕ → ℕ
first_of [] = 0
first_of (x ∷ xs) = x

pub same_order : (a b : Endianness) → magic_of a ≡ magic_of b → a ≡ b
same_order LittleEndian LittleEndian e = refl
same_order BigEndian BigEndian e = refl
same_order LittleEndian BigEndian e = let same : 80 ≡ 50 = ap first_of e in absurd (omega (arith, same))
same_order BigEndian LittleEndian e = let same : 50 ≡ 80 = ap first_of e in absurd (omega (arith, same))

pub header_long : (order : Endianness) (header : List ℕ) → IsPipeHeader order header → 16 ≤ length header
header_long order header is = let long = is.exact_len in omega (arith, long)

pub header_magic : (order : Endianness) (header rest : List ℕ) → IsPipeHeader order header → take 8 (header ++ rest) ≡ magic_of order
header_magic order header rest is = take-append-le 8 header rest (omega (arith, header_long order header is)) ∙ is.magic

pub header_size : (order : Endianness) (header rest : List ℕ) → IsPipeHeader order header → number_in order 8 (drop 8 (header ++ rest)) ≡ number_in order 8 (drop 8 header)
header_size order header rest is = number_drop_prefix order 8 8 header rest (header_long order header is)

pub same_split : (a b c d : List ℕ) → length a ≡ length c → a ++ b ≡ c ++ d → (a ≡ c) × (b ≡ d)
same_split a b c d long same = (
  sym (take-append_seam a b) ∙ ap (take (length a)) same ∙ ap (λ n. take n (c ++ d)) long ∙ take-append_seam c d,
  sym (drop-append_seam a b) ∙ ap (drop (length a)) same ∙ ap (λ n. drop n (c ++ d)) long ∙ drop-append_seam c d,
)

-- bytes that open a pipe have no error
pub described_pipe_opens : (order : Endianness) (header : List ℕ) (ps : List (List ℕ)) (suffix : List ℕ) (e : Error) → IsPipeHeader order header → AreMetadata order ps → EndsMetadata order suffix → CanOpenPipe order ps
    → IsPipeError (header ++ (concat ps ++ suffix)) e → ⊥
described_pipe_opens order header ps suffix e is are ends opens (inl (short, too_few)) =
    omega (arith, too_few, header_long order header is, length-append header (concat ps ++ suffix))
described_pipe_opens order header ps suffix e is are ends opens (inr (inl (error, long, unknown))) = unknown order (header_magic order header (concat ps ++ suffix) is)
described_pipe_opens order header ps suffix e is are ends opens (inr (inr (inl (other, error, long, magic, cut)))) =
    let same : other ≡ order = same_order other order (sym magic ∙ header_magic order header (concat ps ++ suffix) is) in
    let too_few : length (header ++ (concat ps ++ suffix)) < number_in order 8 (drop 8 (header ++ (concat ps ++ suffix))) = subst (λ o. length (header ++ (concat ps ++ suffix)) < number_in o 8 (drop 8 (header ++ (concat ps ++ suffix)))) same cut in
    let says = header_size order header (concat ps ++ suffix) is in
    let all = is.exact_len in
    omega (arith, too_few, says, all, length-append header (concat ps ++ suffix))
described_pipe_opens order header ps suffix e is are ends opens (inr (inr (inr stops))) =
    let same : stops.endian ≡ order = same_order stops.endian order (sym (header_magic stops.endian stops.header stops.rest stops.matches) ∙ ap (take 8) (sym stops.split) ∙ header_magic order header (concat ps ++ suffix) is) in
    let other : IsPipeHeader order stops.header = subst (λ o. IsPipeHeader o stops.header) same stops.matches in
    let size : number_in order 8 (drop 8 header) ≡ number_in order 8 (drop 8 stops.header) =
    sym (header_size order header (concat ps ++ suffix) is) ∙ ap (λ l. number_in order 8 (drop 8 l)) stops.split ∙ header_size order stops.header stops.rest other in
    let long : length header ≡ length stops.header = is.exact_len ∙ ap (λ n. 16 + (n - 16)) size ∙ sym other.exact_len in
    let cut = same_split header (concat ps ++ suffix) stops.header stops.rest long stops.split in
    let met = subst (λ l. IsMetadataReadError order l e) (sym cut.1) (subst (λ o. IsMetadataReadError o stops.rest e) same stops.metadata_error) in
    metadata_stands order ps suffix e are ends opens met
