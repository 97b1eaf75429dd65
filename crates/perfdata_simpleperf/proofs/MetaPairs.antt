-- From the segments between NULs to the pairs of meta info, and from the pairs to its map.
use Rattle.std.proofs.Common.{◌≡◌, ℕ, List, [], ◌∷◌, ◌++◌, Bor, refl, sym, ap, ◌∙◌, subst, true, false, append_assoc, Some, None, length, get_or, drop, All}
use Rattle.std.specs.Prelude.{cond, Ok, Err, ◌==◌}
use Rattle.std.specs.HashMap.{HashMap, UpdatesBy, IsEmpty, get_by}
use Rattle.std.specs.Map.{lookup, update}
use Rattle.std.specs.Option.{option_map}
use Rattle.std.specs.Str.{bytes_eq}
use Rattle.std.proofs.lemmas.Bool.{false_from_ne_true, eqb-true}
use Rattle.std.proofs.lemmas.List.{append-nil}
use Rattle.std.proofs.Math.Seq.{drop-append_seam}
use Rattle.std.proofs.lemmas.List.Elements.{All-nil, All-push, All-drop, All-head}
use Rattle.std.proofs.lemmas.List.Splits.{slice_split_at, slice_split_none}
use Rattle.std.proofs.lemmas.List.Sums.{fold_push}
use Rattle.std.proofs.lemmas.Map.Text.{hash_map_updates_str}
use Rattle.perfdata_sources.specs.Raw.{HasNoNul, SplitsAtNul}
use Rattle.perfdata_simpleperf.specs.MetaInfo.{Pair, nul_segments, meta_pairs, last_value, map_text_at, IsUtf8Pair, IsMetaInfo, ParsesMetaInfo}
use Rattle.perfdata_simpleperf.specs.steps.MetaInfo.{InsertsPair}
use Rattle.perfdata_sections.specs.declared.error.Error.{Error}
use Rattle.perfdata_sections.specs.declared.error.Error.TheVariants.{StringUtf8, Memory}

-- no byte is NUL
none_passes : (xs : List ℕ) → HasNoNul xs → All (λ b. (b == 0) ≡ false) xs
none_passes xs plain = λ k d low. false_from_ne_true (get_or xs k d == 0) (λ is. plain k d low (eqb-true (get_or xs k d) 0 is))

-- the first segment ends at the first NUL
pub segment_ends : (bytes chunk rest : List ℕ) → SplitsAtNul bytes chunk rest → nul_segments bytes ≡ chunk ∷ nul_segments rest
segment_ends bytes chunk rest ends = ap nul_segments ends.split ∙ slice_split_at (λ b. b == 0) chunk 0 rest (none_passes chunk ends.no_nul) refl

-- bytes without a NUL are the last segment
pub segment_last : (bytes : List ℕ) → HasNoNul bytes → nul_segments bytes ≡ bytes ∷ []
segment_last bytes plain = slice_split_none (λ b. b == 0) bytes (none_passes bytes plain)

-- an appended pair is the last of its key
last_push : (ps : List Pair) (p : Pair) (key : List ℕ) → last_value (ps ++ p ∷ []) key ≡ cond (bytes_eq p.0 key) (Some p.1) (last_value ps key)
last_push ps p key = ap (λ f. f key) (fold_push (λ g q. update bytes_eq g q.0 (Some q.1)) (λ _. None) ps p)

module _ {S : Type 0} where
  -- the values of a map after a pair is inserted
  pub pair_inserted : (old new : HashMap (Bor (List ℕ)) (Bor (List ℕ)) S) (key value : Bor (List ℕ)) (p : Pair) → key.now ≡ p.0 → value.now ≡ p.1
      → UpdatesBy (λ x y. bytes_eq x.now y.now) (λ k. bytes_eq key.now k.now) old new (Some value) → (ps : List Pair)
      → ((q : List ℕ) → map_text_at old q ≡ last_value ps q) → (q : List ℕ) → map_text_at new q ≡ last_value (ps ++ p ∷ []) q
  pair_inserted old new key value p same_key same_value updates ps before q =
      ap (option_map (λ v. v.now)) (hash_map_updates_str key.now old new (Some value) updates q)
      ∙ elim (bytes_eq key.now q) as (λ b. option_map (λ v. v.now) (cond b (Some value) (get_by (λ k. bytes_eq q k.now) old)) ≡ cond b (Some value.now) (last_value ps q)) [ true ↦ refl | false ↦ before q ]
      ∙ sym (last_push ps (key.now, value.now) q)
      ∙ ap (λ r. last_value (ps ++ r ∷ []) q) (λ i. (same_key i, same_value i))

  -- the map contains the pairs before `rest`, which are all UTF-8
  pub record PairsSoFar (bytes : List ℕ) (m : HashMap (Bor (List ℕ)) (Bor (List ℕ)) S) (rest : List Pair) : Type 0 where
    pub before : List Pair
    pub all : meta_pairs bytes ≡ before ++ rest
    pub texts : All IsUtf8Pair before
    pub has : (key : List ℕ) → map_text_at m key ≡ last_value before key

  pub pairs_none : (bytes : List ℕ) (m : HashMap (Bor (List ℕ)) (Bor (List ℕ)) S) → IsEmpty m → PairsSoFar bytes m (meta_pairs bytes)
  pairs_none bytes m empty = record {
    before = [];
    all = refl;
    texts = All-nil IsUtf8Pair;
    has = λ key. ap (λ es. option_map (λ v. v.now) (lookup (λ k. bytes_eq key k.now) es)) empty;
  }

  pub pairs_more : (bytes : List ℕ) (old new : HashMap (Bor (List ℕ)) (Bor (List ℕ)) S) (rest remaining : List Pair) (p : Pair) → PairsSoFar bytes old rest → rest ≡ p ∷ remaining → InsertsPair old p (Ok tt) new
      → PairsSoFar bytes new remaining
  pairs_more bytes old new rest remaining p so_far is inserts = record {
    before = so_far.before ++ p ∷ [];
    all = so_far.all ∙ ap (λ l. so_far.before ++ l) is ∙ sym (append_assoc so_far.before (p ∷ []) remaining);
    texts = All-push IsUtf8Pair so_far.before p so_far.texts inserts.0;
    has = inserts.1 so_far.before so_far.has;
  }

  pairs_stop : (bytes : List ℕ) (m : HashMap (Bor (List ℕ)) (Bor (List ℕ)) S) (rest remaining : List Pair) (p : Pair) → PairsSoFar bytes m rest → rest ≡ p ∷ remaining → ¬ IsUtf8Pair p
      → ¬ All IsUtf8Pair (meta_pairs bytes)
  pairs_stop bytes m rest remaining p so_far is bad = λ texts.
      let all : meta_pairs bytes ≡ so_far.before ++ p ∷ remaining = so_far.all ∙ ap (λ l. so_far.before ++ l) is in
      let here : drop (length so_far.before) (meta_pairs bytes) ≡ p ∷ remaining = ap (drop (length so_far.before)) all ∙ drop-append_seam so_far.before (p ∷ remaining) in
      bad (All-head IsUtf8Pair p remaining (subst (All IsUtf8Pair) here (All-drop IsUtf8Pair (length so_far.before) (meta_pairs bytes) texts)))

  pub pairs_error : (bytes : List ℕ) (m new : HashMap (Bor (List ℕ)) (Bor (List ℕ)) S) (rest remaining : List Pair) (p : Pair) (e : Error) → PairsSoFar bytes m rest → rest ≡ p ∷ remaining → InsertsPair m p (Err e) new
      → ParsesMetaInfo {S = S} bytes (Err e)
  pairs_error bytes m new rest remaining p StringUtf8 so_far is bad = pairs_stop bytes m rest remaining p so_far is bad
  pairs_error bytes m new rest remaining p Memory so_far is utf8 = record {
    before = so_far.before;
    last = p;
    rest = remaining;
    split = so_far.all ∙ ap (λ l. so_far.before ++ l) is;
    before_utf8 = so_far.texts;
    last_utf8 = utf8;
  }
  pairs_error bytes m new rest remaining p e so_far is none = absurd none

  pub pairs_whole : (bytes : List ℕ) (m : HashMap (Bor (List ℕ)) (Bor (List ℕ)) S) (rest : List Pair) → PairsSoFar bytes m rest → rest ≡ [] → IsMetaInfo bytes m
  pairs_whole bytes m rest so_far is =
      let all : meta_pairs bytes ≡ so_far.before = so_far.all ∙ ap (λ l. so_far.before ++ l) is ∙ append-nil so_far.before in
      record {
        all_utf8 = subst (All IsUtf8Pair) (sym all) so_far.texts;
        map = λ key. so_far.has key ∙ ap (λ l. last_value l key) (sym all);
      }
