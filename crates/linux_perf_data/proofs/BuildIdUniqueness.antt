-- A section of build IDs has one division into entries.
use Rattle.std.proofs.Common.{◌≡◌, ℕ, zero, suc, ◌+◌, ◌-◌, ◌<◌, ◌++◌, IsTrue, true, false, Bool, List, [], ◌∷◌, length, take, drop, nat_eq, refl, sym, ap, ◌∙◌, subst, arith, append_assoc, append-nil, length-append}
use Rattle.std.specs.List.{ends_with}
use Rattle.std.proofs.lemmas.Bool.{false≢true}
use Rattle.std.proofs.lemmas.Bool.Decides.{Decides-eqb}
use Rattle.std.proofs.lemmas.List.{append_cancel_left, append_cancel_right}
use Rattle.std.proofs.lemmas.Slice.Eq.{ends_is}
use Rattle.std.proofs.Math.Seq.{take-append_seam}
use Rattle.perfdata_sources.specs.Endian.{number_in}
use Rattle.perfdata_identifiers.specs.ParseInfo.{is_set}
use Rattle.perfdata_sources.proofs.Numbers.{number_drop_prefix}
use Rattle.perfdata_sources.specs.declared.endian.Endianness.{Endianness}
use Rattle.perfdata_records.specs.BuildIdEvent.{BuildIdEntry, zero_group, zero_groups, IsBuildIdIn, IsBuildIdEntry, IsTruncatedBuildIdEntry, entry_size}
use Rattle.linux_perf_data.specs.BuildIds.{BeginsWithEntries, AreBuildIdEntries}

-- a zero group commutes with zero groups
turned : (n : ℕ) → zero_groups n ++ zero_group ≡ zero_group ++ zero_groups n
turned zero = refl
turned (suc n) = append_assoc zero_group (zero_groups n) zero_group ∙ ap (λ l. zero_group ++ l) (turned n)

group_last : (id : List ℕ) (n : ℕ) → id ++ zero_groups (suc n) ≡ (id ++ zero_groups n) ++ zero_group
group_last id n = ap (λ l. id ++ l) (sym (turned n)) ∙ sym (append_assoc id (zero_groups n) zero_group)

-- an ID that ends in a zero group isn't trimmed
not_whole : (id jd : List ℕ) (n : ℕ) → (¬ IsTrue (ends_with nat_eq id zero_group)) → id ++ [] ≡ jd ++ zero_groups (suc n) → ⊥
not_whole id jd n whole same = whole ((ends_is Decides-eqb id zero_group (ends_with nat_eq id zero_group) refl).1 (jd ++ zero_groups n) (sym (append-nil id) ∙ same ∙ group_last jd n))

trimmed_once : (m n : ℕ) (id jd : List ℕ) → (¬ IsTrue (ends_with nat_eq id zero_group)) → (¬ IsTrue (ends_with nat_eq jd zero_group)) → id ++ zero_groups m ≡ jd ++ zero_groups n → id ≡ jd
trimmed_once zero zero id jd p q same = sym (append-nil id) ∙ same ∙ append-nil jd
trimmed_once zero (suc n) id jd p q same = absurd (not_whole id jd n p same)
trimmed_once (suc m) zero id jd p q same = absurd (not_whole jd id m q (sym same))
trimmed_once (suc m) (suc n) id jd p q same =
    trimmed_once m n id jd p q (append_cancel_right (id ++ zero_groups m) (jd ++ zero_groups n) zero_group (sym (group_last id m) ∙ same ∙ group_last jd n))

-- the bytes reserved for a build ID contain one build ID
id_by : (b : Bool) (misc : ℕ) (xs id jd : List ℕ) → is_set misc 15 ≡ b → IsBuildIdIn misc xs id → IsBuildIdIn misc xs jd → id ≡ jd
id_by true misc xs id jd set p q = p.explicit_length set ∙ sym (q.explicit_length set)
id_by false misc xs id jd unset p q =
    let isnt : ¬ IsTrue (is_set misc 15) = λ set. absurd (false≢true (sym unset ∙ set)) in
    let s = p.zeros_trimmed isnt in
    let t = q.zeros_trimmed isnt in
    trimmed_once s.groups t.groups id jd s.fully_trimmed t.fully_trimmed (sym s.split ∙ t.split)

module _ (order : Endianness) where
  entry_once : (xs : List ℕ) (e f : BuildIdEntry) → IsBuildIdEntry (number_in order) xs e → IsBuildIdEntry (number_in order) xs f → e ≡ f
  entry_once xs e f p q = λ i. record {
    header = (p.header ∙ sym q.header) i;
    pid = (p.pid ∙ sym q.pid) i;
    build_id = id_by (is_set (number_in order 2 (drop 4 xs)) 15) (number_in order 2 (drop 4 xs)) (take 24 (drop 12 xs)) e.build_id f.build_id refl p.build_id q.build_id i;
    path = (p.path ∙ sym q.path) i;
  }

  -- the bytes of an entry determine its size, whatever follows it
  size_by_header : (xs first after : List ℕ) (e : BuildIdEntry) → xs ≡ first ++ after → IsBuildIdEntry (number_in order) first e → length first ≡ entry_size (number_in order) xs
  size_by_header xs first after e split is =
      is.exact_len ∙ ap (λ n. 36 + (n - 36)) (sym (number_drop_prefix order 2 6 first after (let has_header = is.has_fixed_part in omega arith)) ∙ ap (λ l. number_in order 2 (drop 6 l)) (sym split))

  -- two entries at the start of the same bytes have the same bytes
  prefix_once : (xs first after one rest : List ℕ) (e f : BuildIdEntry) → xs ≡ first ++ after → IsBuildIdEntry (number_in order) first e → xs ≡ one ++ rest → IsBuildIdEntry (number_in order) one f → (first ≡ one) × (after ≡ rest)
  prefix_once xs first after one rest e f split is split' is' =
      let long : length first ≡ length one = size_by_header xs first after e split is ∙ sym (size_by_header xs one rest f split' is') in
      let same : first ≡ one = sym (take-append_seam first after) ∙ ap (take (length first)) (sym split ∙ split') ∙ ap (λ n. take n (one ++ rest)) long ∙ take-append_seam one rest in
      (same, append_cancel_left first after rest (sym split ∙ split' ∙ ap (λ l. l ++ rest) (sym same)))

  -- an entry isn't a truncated entry
  pub not_truncated : (xs first after : List ℕ) (e : BuildIdEntry) → xs ≡ first ++ after → IsBuildIdEntry (number_in order) first e → IsTruncatedBuildIdEntry (number_in order) xs → ⊥
  not_truncated xs first after e split is too_few =
      let long = size_by_header xs first after e split is in
      let has_header = is.has_fixed_part in
      let all : length xs ≡ length first + length after = ap length split ∙ length-append first after in
      let less : length xs < entry_size (number_in order) xs = too_few (omega (arith, all, has_header)) in
      omega (arith, less, long, all)

  begins_once : (xs : List ℕ) (es fs : List BuildIdEntry) (r s : List ℕ) → BeginsWithEntries order xs es r → IsTruncatedBuildIdEntry (number_in order) r → BeginsWithEntries order xs fs s → IsTruncatedBuildIdEntry (number_in order) s → es ≡ fs
  begins_once xs [] [] r s p split q split' = refl
  begins_once xs [] (f ∷ fs) r s p split (first, after, is, entry, more) split' = absurd (not_truncated xs first after f is entry (subst (IsTruncatedBuildIdEntry (number_in order)) (sym p) split))
  begins_once xs (e ∷ es) [] r s (first, after, is, entry, more) split q split' = absurd (not_truncated xs first after e is entry (subst (IsTruncatedBuildIdEntry (number_in order)) (sym q) split'))
  begins_once xs (e ∷ es) (f ∷ fs) r s (first, after, is, entry, more) split (one, rest, is', entry', more') split' =
      let same = prefix_once xs first after one rest e f is entry is' entry' in
      let has_header : e ≡ f = entry_once one e f (subst (λ l. IsBuildIdEntry (number_in order) l e) same.0 entry) entry' in
      let tail : es ≡ fs = begins_once rest es fs r s (subst (λ l. BeginsWithEntries order l es r) same.1 more) split more' split' in
      ap (λ d. d ∷ es) has_header ∙ ap (λ l. f ∷ l) tail

  pub entries_once : (xs : List ℕ) (es fs : List BuildIdEntry) → AreBuildIdEntries order xs es → AreBuildIdEntries order xs fs → es ≡ fs
  entries_once xs es fs (r, begins, split) (s, begins', split') = begins_once xs es fs r s begins split begins' split'
