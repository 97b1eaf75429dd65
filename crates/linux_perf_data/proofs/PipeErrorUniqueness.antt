-- Two errors of one pipe have the same cause, because the first error of an opening is unique.
use Rattle.std.proofs.Common.{◌≡◌, ℕ, ◌+◌, ◌-◌, ◌^◌, ◌<◌, ◌≤◌, List, [], ◌∷◌, ◌++◌, length, take, drop, refl, sym, ap, ◌∙◌, subst, inl, inr, arith, length-append, append_assoc, None}
use Rattle.std.specs.Prelude.{◌⊎◌, All}
use Rattle.std.specs.List.{concat}
use Rattle.std.proofs.lemmas.List.Elements.{All-head, All-tail}
use Rattle.perfdata_sources.specs.Endian.{number_in}
use Rattle.perfdata_sources.specs.declared.endian.Endianness.{Endianness}
use Rattle.perfdata_sources.proofs.Numbers.{in_reads_first}
use Rattle.perfdata_sections.specs.EventDesc.{IsEventDescError}
use Rattle.perfdata_sections.specs.declared.error.Error.{Error}
use Rattle.perfdata_sections.proofs.EventErrors.{desc_error}
use Rattle.linux_perf_data.specs.Attribute.{AreInconsistent}
use Rattle.linux_perf_data.specs.LateMetadata.{IsMetadataError}
use Rattle.linux_perf_data.specs.Laws.{SameCause, PipeErrorIsUnique}
use Rattle.linux_perf_data.specs.Layout.{StartsWithRecord, attributes_in_records, record_type_of, record_size_of}
use Rattle.perfdata_base.specs.Header.{magic_of}
use Rattle.linux_perf_data.specs.PipeOpening.{IsPipeHeader, IsMetadataRecord, EndsMetadata, IsMetadataRecordError, IsMetadataListError, IsMetadataReadError, IsErrorAfterPipeHeader}
use Rattle.linux_perf_data.specs.Consistency.{error_of_inconsistency}
use Rattle.linux_perf_data.proofs.RecordHeaders.{size_first_part, size_in_total_size, record_least, same_prefix}
use Rattle.linux_perf_data.proofs.EventDescNames.{error_or_readable}
use Rattle.linux_perf_data.proofs.FileErrorUniqueness.{same_cause}
use Rattle.linux_perf_data.proofs.PipeOpeningUniqueness.{Next, end_stands, next_stands, next_goes_on, same_order, header_long, header_magic, header_size, same_split}
use Rattle.linux_perf_data.proofs.ConsistencyLemmas.{inconsistency_is_unique}
use Rattle.linux_perf_data.proofs.RecordsOrErrors.{truncated_or_small}

module _ (order : Endianness) where
  -- ---- after metadata records

  invalidates_error : (kind : ℕ) (body : List ℕ) (e f : Error) → IsMetadataError order kind body e → IsMetadataError order kind body f → SameCause e f
  invalidates_error kind body e f (inl (short, cause_of)) (inl (short', cause')) = inr (inl (short, short'))
  invalidates_error kind body e f (inl (short, inl (is, cut))) (inr (invalid, is', small)) = absurd (truncated_or_small order body cut small)
  invalidates_error kind body e f (inl (short, inr (is, too_few))) (inr (invalid, is', small)) = absurd (omega (arith, is, is'))
  invalidates_error kind body e f (inr (invalid, is, small)) (inl (short, inl (is', cut))) = absurd (truncated_or_small order body cut small)
  invalidates_error kind body e f (inr (invalid, is, small)) (inl (short, inr (is', too_few))) = absurd (omega (arith, is, is'))
  invalidates_error kind body e f (inr (invalid, is, small)) (inr (invalid', is', small')) = inr (inr (inr (invalid, invalid')))

  -- a complete record contains all bytes that its record header counts
  pub record Counted (offset : ℕ) (suffix : List ℕ) : Type 0 where
    pub least : 8 ≤ record_size_of order suffix
    pub end_fits_u64 : offset + record_size_of order suffix < 2 ^ 64
    pub there : record_size_of order suffix ≤ length suffix

  prefix_counted : (offset : ℕ) (suffix p : List ℕ) → StartsWithRecord order offset suffix p → Counted offset suffix
  prefix_counted offset suffix p starts_with_record =
      let header_bytes = record_least order p starts_with_record.is_record in
      let size : record_size_of order suffix ≡ record_size_of order p = ap (record_size_of order) starts_with_record.split ∙ size_first_part order p starts_with_record.after_record header_bytes in
      let least = starts_with_record.is_record.min_size in
      let long = starts_with_record.is_record.exact_len in
      let fits = starts_with_record.end_fits in
      let inside = size_in_total_size order p in
      let whole = ap length starts_with_record.split in
      record {
        least = omega (arith, size, least);
        end_fits_u64 = omega (arith, size, long, inside, fits);
        there = omega (arith, size, long, inside, whole, length-append p starts_with_record.after_record);
      }

  record_failing : (offset : ℕ) (suffix : List ℕ) (e f : Error) → IsMetadataRecordError order offset suffix e → IsMetadataRecordError order offset suffix f → SameCause e f
  record_failing offset suffix e f (inl (is, header_bytes, small)) (inl (is', header', small')) = inl (is ∙ sym is')
  record_failing offset suffix e f (inl (is, header_bytes, small)) (inr (inl (is', kind, header', least, far))) = absurd (omega (arith, small, least))
  record_failing offset suffix e f (inl (is, header_bytes, small)) (inr (inr (inl (short, kind, header', too_few)))) = let least = header'.min_size in absurd (omega (arith, small, least))
  record_failing offset suffix e f (inl (is, header_bytes, small)) (inr (inr (inr (p, starts_with_record, invalidates)))) = let least = (prefix_counted offset suffix p starts_with_record).least in absurd (omega (arith, small, least))
  record_failing offset suffix e f (inr (inl (is, kind, header_bytes, least, far))) (inl (is', header', small)) = absurd (omega (arith, small, least))
  record_failing offset suffix e f (inr (inl (is, kind, header_bytes, least, far))) (inr (inl (is', kind', header', least', far'))) = inl (is ∙ sym is')
  record_failing offset suffix e f (inr (inl (is, kind, header_bytes, least, far))) (inr (inr (inl (short, kind', header', too_few)))) = let end_fits_u64 = header'.end_fits in absurd (omega (arith, far, end_fits_u64))
  record_failing offset suffix e f (inr (inl (is, kind, header_bytes, least, far))) (inr (inr (inr (p, starts_with_record, invalidates)))) = let end_fits_u64 = (prefix_counted offset suffix p starts_with_record).end_fits_u64 in absurd (omega (arith, far, end_fits_u64))
  record_failing offset suffix e f (inr (inr (inl (short, kind, header_bytes, too_few)))) (inl (is, header', small)) = let least = header_bytes.min_size in absurd (omega (arith, small, least))
  record_failing offset suffix e f (inr (inr (inl (short, kind, header_bytes, too_few)))) (inr (inl (is, kind', header', least, far))) = let end_fits_u64 = header_bytes.end_fits in absurd (omega (arith, far, end_fits_u64))
  record_failing offset suffix e f (inr (inr (inl (short, kind, header_bytes, too_few)))) (inr (inr (inl (short', kind', header', too_few')))) = inr (inl (short, short'))
  record_failing offset suffix e f (inr (inr (inl (short, kind, header_bytes, too_few)))) (inr (inr (inr (p, starts_with_record, invalidates)))) = let there = (prefix_counted offset suffix p starts_with_record).there in absurd (omega (arith, too_few, there))
  record_failing offset suffix e f (inr (inr (inr (p, starts_with_record, invalidates)))) (inl (is, header_bytes, small)) = let least = (prefix_counted offset suffix p starts_with_record).least in absurd (omega (arith, small, least))
  record_failing offset suffix e f (inr (inr (inr (p, starts_with_record, invalidates)))) (inr (inl (is, kind, header_bytes, least, far))) = let end_fits_u64 = (prefix_counted offset suffix p starts_with_record).end_fits_u64 in absurd (omega (arith, far, end_fits_u64))
  record_failing offset suffix e f (inr (inr (inr (p, starts_with_record, invalidates)))) (inr (inr (inl (short, kind, header_bytes, too_few)))) = let there = (prefix_counted offset suffix p starts_with_record).there in absurd (omega (arith, too_few, there))
  record_failing offset suffix e f (inr (inr (inr (p, starts_with_record, invalidates)))) (inr (inr (inr (q, starts_with_record', invalidates')))) =
      let same = (same_prefix order p q starts_with_record.after_record starts_with_record'.after_record starts_with_record.is_record starts_with_record'.is_record (sym starts_with_record.split ∙ starts_with_record'.split)).0 in
      invalidates_error (record_type_of order q) (drop 8 q) e f (subst (λ r. IsMetadataError order (record_type_of order r) (drop 8 r) e) same invalidates) invalidates'

  reported_failing : (ps : List (List ℕ)) (e f : Error) → IsMetadataListError order ps e → IsMetadataListError order ps f → SameCause e f
  reported_failing ps e f (inl (is, none)) (inl (is', none')) = inl (is ∙ sym is')
  reported_failing ps e f (inl (is, none)) (inr (inl (bytes, some, described, fails))) = absurd (some none)
  reported_failing ps e f (inl (is, none)) (inr (inr (b, states, breaks, is'))) = absurd (subst (λ l. AreInconsistent l b) none breaks)
  reported_failing ps e f (inr (inl (bytes, some, described, fails))) (inl (is, none)) = absurd (some none)
  reported_failing ps e f (inr (inl (bytes, some, described, fails))) (inr (inl (others, some', described', fails'))) =
      let both = sym described ∙ described' in
      let same : bytes ≡ others = cc in
      same_cause e f (desc_error (number_in order) (in_reads_first order) e f others (subst (λ l. IsEventDescError (number_in order) e l) same fails) fails')
  reported_failing ps e f (inr (inl (bytes, some, described, fails))) (inr (inr (b, states, breaks, is))) = absurd (error_or_readable order e bytes fails (states bytes described))
  reported_failing ps e f (inr (inr (b, states, breaks, is))) (inl (is', none)) = absurd (subst (λ l. AreInconsistent l b) none breaks)
  reported_failing ps e f (inr (inr (b, states, breaks, is))) (inr (inl (bytes, some, described, fails))) = absurd (error_or_readable order f bytes fails (states bytes described))
  reported_failing ps e f (inr (inr (b, states, breaks, is))) (inr (inr (c, describes', breaks', is'))) =
      inl (is ∙ ap error_of_inconsistency (inconsistency_is_unique (attributes_in_records order None ps) b c breaks breaks') ∙ sym is')

  -- ---- two runs of metadata records

  -- the runs are equal, or another metadata record follows one of them
  runs_meet : (offset : ℕ) (ps qs : List (List ℕ)) (suffix later : List ℕ) → All (IsMetadataRecord order) ps → All (IsMetadataRecord order) qs → offset + length (concat ps) < 2 ^ 64 → offset + length (concat qs) < 2 ^ 64
      → concat ps ++ suffix ≡ concat qs ++ later → ((ps ≡ qs) × (suffix ≡ later)) ⊎ (Next order (offset + length (concat ps)) suffix ⊎ Next order (offset + length (concat qs)) later)
  runs_meet offset [] [] suffix later x y fits fits' same = inl (refl, same)
  runs_meet offset [] (q ∷ qs) suffix later x y fits fits' same =
      inr (inl (record {
        first = q;
        after = concat qs ++ later;
        cut = same ∙ append_assoc q (concat qs) later;
        is = All-head (IsMetadataRecord order) q qs y;
        fits = omega (arith, fits', length-append q (concat qs));
      }))
  runs_meet offset (p ∷ ps) [] suffix later x y fits fits' same =
      inr (inr (record {
        first = p;
        after = concat ps ++ suffix;
        cut = sym same ∙ append_assoc p (concat ps) suffix;
        is = All-head (IsMetadataRecord order) p ps x;
        fits = omega (arith, fits, length-append p (concat ps));
      }))
  runs_meet offset (p ∷ ps) (q ∷ qs) suffix later x y fits fits' same =
      let is = All-head (IsMetadataRecord order) p ps x in
      let is' = All-head (IsMetadataRecord order) q qs y in
      let whole : p ++ (concat ps ++ suffix) ≡ q ++ (concat qs ++ later) = sym (append_assoc p (concat ps) suffix) ∙ same ∙ append_assoc q (concat qs) later in
      let here = same_prefix order p q (concat ps ++ suffix) (concat qs ++ later) is.is_record is'.is_record whole in
      let long : length p ≡ length q = ap length here.0 in
      let end_fits_u64 : offset + length p + length (concat ps) < 2 ^ 64 = omega (arith, fits, length-append p (concat ps)) in
      let end_fits' : offset + length p + length (concat qs) < 2 ^ 64 = omega (arith, fits', long, length-append q (concat qs)) in
      let sum : offset + length p + length (concat ps) ≡ offset + length (p ++ concat ps) = omega (arith, length-append p (concat ps)) in
      let sum' : offset + length p + length (concat qs) ≡ offset + length (q ++ concat qs) = omega (arith, long, length-append q (concat qs)) in
      elim (runs_meet (offset + length p) ps qs suffix later (All-tail (IsMetadataRecord order) p ps x) (All-tail (IsMetadataRecord order) q qs y) end_fits_u64 end_fits' here.1) [
        | inl both ↦ inl (ap (λ l. l ∷ ps) here.0 ∙ ap (λ l. q ∷ l) both.0, both.1)
        | inr (inl next) ↦ inr (inl (subst (λ o. Next order o suffix) sum next))
        | inr (inr next) ↦ inr (inr (subst (λ o. Next order o later) sum' next))
      ]

  -- the bytes after them have an error, or their metadata has
  abbrev Stops : List (List ℕ) → List ℕ → Error → Type 0
  Stops ps suffix e = IsMetadataRecordError order (length (concat ps)) suffix e ⊎ (EndsMetadata order suffix × IsMetadataListError order ps e)

  next_or_stops : (ps : List (List ℕ)) (suffix : List ℕ) (e : Error) → Next order (0 + length (concat ps)) suffix → Stops ps suffix e → ⊥
  next_or_stops ps suffix e next stops =
      let z : 0 + length (concat ps) ≡ length (concat ps) = omega arith in
      let end_fits_u64 = subst (λ o. Next order o suffix) z next in
      elim stops as (λ _. ⊥) [
        | inl here ↦ next_stands order (length (concat ps)) suffix e end_fits_u64 here
        | inr described ↦ next_goes_on order (length (concat ps)) suffix end_fits_u64 described.0
      ]

  stops_error : (ps : List (List ℕ)) (suffix : List ℕ) (e f : Error) → Stops ps suffix e → Stops ps suffix f → SameCause e f
  stops_error ps suffix e f (inl x) (inl y) = record_failing (length (concat ps)) suffix e f x y
  stops_error ps suffix e f (inl x) (inr (ends, y)) = absurd (end_stands order (length (concat ps)) suffix e ends x)
  stops_error ps suffix e f (inr (ends, x)) (inl y) = absurd (end_stands order (length (concat ps)) suffix f ends y)
  stops_error ps suffix e f (inr (ends, x)) (inr (ends', y)) = reported_failing ps e f x y

  metadata_failing : (rest : List ℕ) (e f : Error) → IsMetadataReadError order rest e → IsMetadataReadError order rest f → SameCause e f
  metadata_failing rest e f x y =
      let fits = x.elements.size_fits in
      let fits' = y.elements.size_fits in
      elim (runs_meet 0 x.raw_records y.raw_records x.after_records y.after_records x.elements.elements y.elements.elements (omega (arith, fits)) (omega (arith, fits')) (sym x.split ∙ y.split)) as (λ _. SameCause e f) [
        | inl both ↦
            let here : Stops y.raw_records y.after_records e = subst (λ l. Stops y.raw_records l e) both.1 (subst (λ ps. Stops ps x.after_records e) both.0 x.cause) in
            stops_error y.raw_records y.after_records e f here y.cause
        | inr (inl next) ↦ absurd (next_or_stops x.raw_records x.after_records e next x.cause)
        | inr (inr next) ↦ absurd (next_or_stops y.raw_records y.after_records f next y.cause)
      ]

-- ---- the pipe

-- the facts about bytes that begin with a header
pub record Headed (order : Endianness) (bytes : List ℕ) : Type 0 where
  pub long : 16 ≤ length bytes
  pub magic : take 8 bytes ≡ magic_of order
  pub there : number_in order 8 (drop 8 bytes) ≤ length bytes

headed : (bytes : List ℕ) (e : Error) → (s : IsErrorAfterPipeHeader bytes e) → Headed s.endian bytes
headed bytes e s =
    let whole = ap length s.split in
    let long = header_long s.endian s.header s.matches in
    let size : number_in s.endian 8 (drop 8 bytes) ≡ number_in s.endian 8 (drop 8 s.header) = ap (λ l. number_in s.endian 8 (drop 8 l)) s.split ∙ header_size s.endian s.header s.rest s.matches in
    let counts = s.matches.exact_len in
    record {
      long = omega (arith, whole, long, length-append s.header s.rest);
      magic = ap (take 8) s.split ∙ header_magic s.endian s.header s.rest s.matches;
      there = omega (arith, whole, size, counts, length-append s.header s.rest);
    }

early_or_headed : (bytes : List ℕ) (order : Endianness) (e : Error) → take 8 bytes ≡ magic_of order → length bytes < number_in order 8 (drop 8 bytes) → IsErrorAfterPipeHeader bytes e → ⊥
early_or_headed bytes order e magic too_few s =
    let h = headed bytes e s in
    let same : order ≡ s.endian = same_order order s.endian (sym magic ∙ h.magic) in
    let cut : length bytes < number_in s.endian 8 (drop 8 bytes) = subst (λ o. length bytes < number_in o 8 (drop 8 bytes)) same too_few in
    let there = h.there in
    omega (arith, cut, there)

header_failing : (bytes : List ℕ) (e f : Error) → IsErrorAfterPipeHeader bytes e → IsErrorAfterPipeHeader bytes f → SameCause e f
header_failing bytes e f x y =
    let orders : x.endian ≡ y.endian = same_order x.endian y.endian (sym (headed bytes e x).magic ∙ (headed bytes f y).magic) in
    let is : IsPipeHeader y.endian x.header = subst (λ o. IsPipeHeader o x.header) orders x.matches in
    let whole : x.header ++ x.rest ≡ y.header ++ y.rest = sym x.split ∙ y.split in
    let size : number_in y.endian 8 (drop 8 x.header) ≡ number_in y.endian 8 (drop 8 y.header) =
    sym (header_size y.endian x.header x.rest is) ∙ ap (λ l. number_in y.endian 8 (drop 8 l)) whole ∙ header_size y.endian y.header y.rest y.matches in
    let long : length x.header ≡ length y.header = is.exact_len ∙ ap (λ n. 16 + (n - 16)) size ∙ sym y.matches.exact_len in
    let cut = same_split x.header x.rest y.header y.rest long whole in
    let here : IsMetadataReadError y.endian y.rest e = subst (λ l. IsMetadataReadError y.endian l e) cut.1 (subst (λ o. IsMetadataReadError o x.rest e) orders x.metadata_error) in
    metadata_failing y.endian y.rest e f here y.metadata_error

pub opening_error_is_unique : PipeErrorIsUnique
opening_error_is_unique bytes e f (inl (short, too_few)) (inl (short', too_few')) = inr (inl (short, short'))
opening_error_is_unique bytes e f (inl (short, too_few)) (inr (inl (is, long, unknown))) = absurd (omega (arith, too_few, long))
opening_error_is_unique bytes e f (inl (short, too_few)) (inr (inr (inl (order, is, long, magic, early)))) = absurd (omega (arith, too_few, long))
opening_error_is_unique bytes e f (inl (short, too_few)) (inr (inr (inr y))) = let long = (headed bytes f y).long in absurd (omega (arith, too_few, long))
opening_error_is_unique bytes e f (inr (inl (is, long, unknown))) (inl (short, too_few)) = absurd (omega (arith, too_few, long))
opening_error_is_unique bytes e f (inr (inl (is, long, unknown))) (inr (inl (is', long', unknown'))) = inl (is ∙ sym is')
opening_error_is_unique bytes e f (inr (inl (is, long, unknown))) (inr (inr (inl (order, is', long', magic, early)))) = absurd (unknown order magic)
opening_error_is_unique bytes e f (inr (inl (is, long, unknown))) (inr (inr (inr y))) = absurd (unknown y.endian (headed bytes f y).magic)
opening_error_is_unique bytes e f (inr (inr (inl (order, is, long, magic, early)))) (inl (short, too_few)) = absurd (omega (arith, too_few, long))
opening_error_is_unique bytes e f (inr (inr (inl (order, is, long, magic, early)))) (inr (inl (is', long', unknown))) = absurd (unknown order magic)
opening_error_is_unique bytes e f (inr (inr (inl (order, is, long, magic, early)))) (inr (inr (inl (order', is', long', magic', early')))) = inl (is ∙ sym is')
opening_error_is_unique bytes e f (inr (inr (inl (order, is, long, magic, early)))) (inr (inr (inr y))) = absurd (early_or_headed bytes order f magic early y)
opening_error_is_unique bytes e f (inr (inr (inr x))) (inl (short, too_few)) = let long = (headed bytes e x).long in absurd (omega (arith, too_few, long))
opening_error_is_unique bytes e f (inr (inr (inr x))) (inr (inl (is, long, unknown))) = absurd (unknown x.endian (headed bytes e x).magic)
opening_error_is_unique bytes e f (inr (inr (inr x))) (inr (inr (inl (order, is, long, magic, early)))) = absurd (early_or_headed bytes order e magic early x)
opening_error_is_unique bytes e f (inr (inr (inr x))) (inr (inr (inr y))) = header_failing bytes e f x y
