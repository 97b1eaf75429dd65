-- Lemmas on the pairs of simpleperf's meta info, from offset to offset.
use Rattle.std.proofs.Common.{◌≡◌, ℕ, suc, ◌+◌, ◌<◌, ◌≤◌, ◌++◌, List, [], ◌∷◌, length, take, drop, refl, sym, ap, ◌∙◌, subst, arith, inl, inr, append_assoc, length-drop, All}
use Rattle.std.specs.Prelude.{◌==◌}
use Rattle.std.specs.List.{position_or_len}
use Rattle.std.proofs.lemmas.Bool.{cases_lt}
use Rattle.std.proofs.lemmas.List.{drop-drop, length-take, length-take-le, take_all, take_min}
use Rattle.std.proofs.lemmas.List.Elements.{All-nil, All-push}
use Rattle.std.proofs.lemmas.List.Splits.{slice_split_first, slice_split_none}
use Rattle.std.proofs.lemmas.List.Sums.{fails_before_first}
use Rattle.perfdata_sections.specs.HeaderString.{before_nul}
use Rattle.perfdata_simpleperf.specs.MetaInfo.{IsUtf8Pair, Pair, meta_pairs, nul_segments, pair_up}
use Rattle.perfdata_arrays.specs.MetaPairs.{HasPairAt, HasPairsAt, ReadsMetaInfo, offset_after, pair_entries_at, pair_entry_at}
use Rattle.perfdata_arrays.specs.steps.MetaPairs.{AreSegmentsFrom, IsPairAt}
use Rattle.linux_perf_data.specs.RecordEntries.{with_prefix, HasBytesAt}
use Rattle.perfdata_arrays.specs.Overwrites.{with_entries_at}
use Rattle.perfdata_arrays.specs.declared.meta_info.MetaPair.{MetaPair}
use Rattle.perfdata_arrays.specs.declared.status.Status.TheVariants.{InvalidUtf8}
use Rattle.perfdata_arrays.proofs.OverwriteLemmas.{with_entries_at-with_prefix}

-- ---- a segment

-- the segment at an offset, and those after it
pub record SegmentAt (section : List ℕ) (offset : ℕ) (segment : List ℕ) : Type 0 where
  pub within : offset + length segment ≤ length section
  pub later : List (List ℕ)
  pub split : nul_segments (drop offset section) ≡ segment ∷ later
  pub from : AreSegmentsFrom section (offset + length segment + 1) later

pub find_segment : (section : List ℕ) (offset : ℕ) (segment : List ℕ) → offset ≤ length section → segment ≡ before_nul (drop offset section) → SegmentAt section offset segment
find_segment section offset segment inside is =
    let rest : List ℕ = drop offset section in
    let n : ℕ = position_or_len (λ b. b == 0) rest in
    let left : length rest + offset ≡ length section = omega (arith, inside, length-drop offset section) in
    elim (cases_lt n (length rest)) [
      | inl less ↦
          let long : length segment ≡ n = ap length is ∙ length-take-le n rest (omega (arith, less)) in
          record {
            within = omega (arith, less, long, left);
            later = nul_segments (drop (n + 1) rest);
            split = slice_split_first (λ b. b == 0) rest 0 less ∙ ap (λ s. s ∷ nul_segments (drop (n + 1) rest)) (sym is);
            from = inl (omega (arith, less, long, left), ap nul_segments (drop-drop (n + 1) offset section ∙ ap (λ k. drop k section) (let e : offset + (n + 1) ≡ offset + length segment + 1 = omega (arith, long) in e)));
          }
      | inr all ↦
          let whole : segment ≡ rest = is ∙ take_all n rest all in
          let long : length segment ≡ length rest = ap length whole in
          record {
            within = omega (arith, long, left);
            later = [];
            split = slice_split_none (λ b. b == 0) rest (λ k d low. fails_before_first (λ b. b == 0) rest k d (omega (arith, low, all))) ∙ ap (λ s. s ∷ []) (sym whole);
            from = inr (omega (arith, long, left), refl);
          }
    ]

-- the bytes of a segment are at its offset
segment_bytes : (section : List ℕ) (offset : ℕ) (segment : List ℕ) → segment ≡ before_nul (drop offset section) → HasBytesAt section offset segment
segment_bytes section offset segment is =
    let rest : List ℕ = drop offset section in
    let n : ℕ = position_or_len (λ b. b == 0) rest in
    ap (λ m. take m rest) (ap length is ∙ length-take n rest) ∙ take_min n rest ∙ sym is

segments_inside : (section : List ℕ) (offset : ℕ) (segments : List (List ℕ)) → AreSegmentsFrom section offset segments → offset ≤ length section → segments ≡ nul_segments (drop offset section)
segments_inside section offset segments from inside = elim from [ inl found ↦ found.1 | inr past ↦ (let less = past.0 in absurd (omega (arith, less, inside))) ]

segments_past : (section : List ℕ) (offset : ℕ) (segments : List (List ℕ)) → AreSegmentsFrom section offset segments → length section < offset → segments ≡ []
segments_past section offset segments from past = elim from [ inl found ↦ (let inside = found.0 in absurd (omega (arith, inside, past))) | inr none ↦ none.1 ]

-- ---- a pair

pub no_value : (section : List ℕ) (offset : ℕ) (key : List ℕ) → offset ≤ length section → key ≡ before_nul (drop offset section) → length section < offset + length key + 1
    → (segments : List (List ℕ)) → AreSegmentsFrom section offset segments → pair_up segments ≡ []
no_value section offset key inside is past segments from =
    let k = find_segment section offset key inside is in
    ap pair_up (segments_inside section offset segments from inside ∙ k.split ∙ ap (λ l. key ∷ l) (segments_past section (offset + length key + 1) k.later k.from past))

pub pair_found : (section : List ℕ) (offset : ℕ) (key value : List ℕ) → offset ≤ length section → key ≡ before_nul (drop offset section) → offset + length key + 1 ≤ length section → value ≡ before_nul (drop (offset + length key + 1) section)
    → IsPairAt section offset (key, value)
pair_found section offset key value inside is inside' is' =
    let k = find_segment section offset key inside is in
    let v = find_segment section (offset + length key + 1) value inside' is' in
    let within = v.within in
    record {
      within = omega (arith, within);
      bytes_at = (segment_bytes section offset key is, segment_bytes section (offset + length key + 1) value is');
      is_next = λ segments from. (
        v.later,
        ap pair_up (segments_inside section offset segments from inside ∙ k.split ∙ ap (λ l. key ∷ l) (segments_inside section (offset + length key + 1) k.later k.from inside' ∙ v.split)),
        v.from,
      );
    }

-- ---- several pairs

-- the offset after consecutive pairs
abbrev pub pairs_end : ℕ → List Pair → ℕ
pairs_end offset [] = offset
pairs_end offset (p ∷ ps) = pairs_end (offset_after offset p) ps

pairs_end-snoc : (offset : ℕ) (ps : List Pair) (p : Pair) → pairs_end offset (ps ++ p ∷ []) ≡ offset_after (pairs_end offset ps) p
pairs_end-snoc offset [] p = refl
pairs_end-snoc offset (q ∷ ps) p = pairs_end-snoc (offset_after offset q) ps p

pair_entries_at-snoc : (offset : ℕ) (ps : List Pair) (p : Pair) → pair_entries_at offset (ps ++ p ∷ []) ≡ pair_entries_at offset ps ++ pair_entry_at (pairs_end offset ps) p ∷ []
pair_entries_at-snoc offset [] p = refl
pair_entries_at-snoc offset (q ∷ ps) p = ap (λ l. pair_entry_at offset q ∷ l) (pair_entries_at-snoc (offset_after offset q) ps p)

length-pair_entries_at : (offset : ℕ) (ps : List Pair) → length (pair_entries_at offset ps) ≡ length ps
length-pair_entries_at offset [] = refl
length-pair_entries_at offset (p ∷ ps) = ap (λ n. suc n) (length-pair_entries_at (offset_after offset p) ps)

has_pairs-snoc : (section : List ℕ) (offset : ℕ) (ps : List Pair) (p : Pair) → HasPairsAt section offset ps → HasPairAt section (pairs_end offset ps) p → HasPairsAt section offset (ps ++ p ∷ [])
has_pairs-snoc section offset [] p has one = (one, tt)
has_pairs-snoc section offset (q ∷ ps) p (first, more) one = (first, has_pairs-snoc section (offset_after offset q) ps p more one)

-- the pairs before an offset are written
pub record PairsWritten (section : List ℕ) (offset count : ℕ) (old now : List MetaPair) : Type 0 where
  pub pairs : List Pair
  pub segments : List (List ℕ)
  pub split : meta_pairs section ≡ pairs ++ pair_up segments
  pub from : AreSegmentsFrom section offset segments
  pub all_utf8 : All IsUtf8Pair pairs
  pub counted : count ≡ length pairs
  pub end : offset ≡ pairs_end 0 pairs
  pub in_bounds : offset ≤ length section + 1
  pub enough : count ≤ offset
  pub written : now ≡ with_prefix (pair_entries_at 0 pairs) old
  pub bytes_at : HasPairsAt section 0 pairs

pub pairs_none : (section : List ℕ) (old : List MetaPair) → PairsWritten section 0 0 old old
pairs_none section old = record {
  pairs = [];
  segments = nul_segments section;
  split = refl;
  from = inl (omega arith, refl);
  all_utf8 = All-nil IsUtf8Pair;
  counted = refl;
  end = refl;
  in_bounds = omega arith;
  enough = omega arith;
  written = refl;
  bytes_at = tt;
}

pub pairs_more : (section : List ℕ) (offset count : ℕ) (old now new : List MetaPair) (p : Pair) (entry : MetaPair) → PairsWritten section offset count old now → IsPairAt section offset p → IsUtf8Pair p
    → entry ≡ pair_entry_at offset p → new ≡ with_entries_at count (entry ∷ []) now → PairsWritten section (offset_after offset p) (count + 1) old new
pairs_more section offset count old now new p entry w found text is copied =
    let next = found.is_next w.segments w.from in
    let counted = w.counted in
    let enough = w.enough in
    let long : count ≡ length (pair_entries_at 0 w.pairs) = counted ∙ sym (length-pair_entries_at 0 w.pairs) in
    record {
      pairs = w.pairs ++ p ∷ [];
      segments = next.0;
      split = w.split ∙ ap (λ l. w.pairs ++ l) next.1 ∙ sym (append_assoc w.pairs (p ∷ []) (pair_up next.0));
      from = next.2;
      all_utf8 = All-push IsUtf8Pair w.pairs p w.all_utf8 text;
      counted = omega (arith, counted, length-snoc w.pairs p);
      end = ap (λ n. offset_after n p) w.end ∙ sym (pairs_end-snoc 0 w.pairs p);
      in_bounds = found.within;
      enough = omega (arith, enough);
      written = copied ∙ (λ i. with_entries_at (long i) (is i ∷ []) (w.written i)) ∙ with_entries_at-with_prefix (pair_entries_at 0 w.pairs) (pair_entry_at offset p ∷ []) old
          ∙ ap (λ n. with_prefix (pair_entries_at 0 w.pairs ++ pair_entry_at n p ∷ []) old) w.end ∙ ap (λ l. with_prefix l old) (sym (pair_entries_at-snoc 0 w.pairs p));
      bytes_at = has_pairs-snoc section 0 w.pairs p w.bytes_at (subst (λ n. HasPairAt section n p) w.end found.bytes_at);
    }
  where
    length-snoc : (ps : List Pair) (q : Pair) → length (ps ++ q ∷ []) ≡ length ps + 1
    length-snoc [] q = refl
    length-snoc (r ∷ ps) q = (let e = length-snoc ps q in omega (arith, e))

-- ---- the result

pub pairs_invalid : (section : List ℕ) (offset count : ℕ) (old now : List MetaPair) (p : Pair) → PairsWritten section offset count old now → IsPairAt section offset p → ¬ IsUtf8Pair p
    → ReadsMetaInfo section old (record { count = count; status = InvalidUtf8 }) now
pairs_invalid section offset count old now p w found bad =
    let next = found.is_next w.segments w.from in
    record {
      pairs = w.pairs;
      later = pair_up w.segments;
      split = w.split;
      all_utf8 = w.all_utf8;
      count = w.counted;
      written = w.written;
      bytes_at = w.bytes_at;
      ends = inr (refl, (p, (pair_up next.0, next.1, bad)));
    }
