-- The offsets of an entry's build ID and its path.
use Rattle.std.proofs.Common.{append_assoc, ◌≡◌, ℕ, ◌+◌, ◌++◌, Bool, true, false, List, length, take, drop, refl, sym, ap, ◌∙◌, arith}
use Rattle.std.specs.Prelude.{IsTrue, min, slice_index}
use Rattle.std.proofs.lemmas.List.{drop-drop, drop-append-le, take-append-drop}
use Rattle.std.proofs.lemmas.List.Folds.{length-prefix_len}
use Rattle.std.proofs.Math.Seq.{take-append_seam}
use Rattle.perfdata_sources.specs.Endian.{number_in}
use Rattle.perfdata_identifiers.specs.ParseInfo.{is_set}
use Rattle.perfdata_sources.specs.declared.endian.Endianness.{Endianness}
use Rattle.perfdata_records.specs.BuildIdEvent.{BuildIdEntry as Entry, IsBuildIdEntry, IsBuildIdIn, IsWithoutZeroGroups, zero_groups}
use Rattle.perfdata_arrays.specs.BuildIds.{HasBuildIdAt, build_id_entry}
use Rattle.perfdata_arrays.specs.declared.build_ids.BuildId.{BuildId}

-- the prefix of a list that is as long as its first part
take-length : (xs id rest : List ℕ) → xs ≡ id ++ rest → take (length id) xs ≡ id
take-length xs id rest is = ap (take (length id)) is ∙ take-append_seam id rest

-- a build ID is a prefix of the bytes reserved for it
build_id_is_prefix : (misc : ℕ) (xs id : List ℕ) → IsBuildIdIn misc xs id → (rest : List ℕ) × (xs ≡ id ++ rest)
build_id_is_prefix misc xs id is = go (is_set misc 15) is.explicit_length is.zeros_trimmed
  where
    go : (b : Bool) → (IsTrue b → id ≡ take (min (slice_index xs 20) 20) xs) → ((¬ IsTrue b) → IsWithoutZeroGroups (take 20 xs) id) → (rest : List ℕ) × (xs ≡ id ++ rest)
    go true explicit trims = (drop (min (slice_index xs 20) 20) xs, sym (take-append-drop (min (slice_index xs 20) 20) xs) ∙ ap (λ l. l ++ drop (min (slice_index xs 20) 20) xs) (sym (explicit refl)))
    go false explicit trims =
        let trimmed = trims (λ x. cc) in (
          zero_groups trimmed.groups ++ drop 20 xs,
          sym (take-append-drop 20 xs) ∙ ap (λ l. l ++ drop 20 xs) trimmed.split ∙ append_assoc id (zero_groups trimmed.groups) (drop 20 xs),
        )

module _ (endian : Endianness) (section : List ℕ) (at : ℕ) where
  pub has_build_id_at : (first rest : List ℕ) (entry : Entry) (out : BuildId) → drop at section ≡ first ++ rest → IsBuildIdEntry (number_in endian) first entry → out ≡ build_id_entry at (length first) entry → HasBuildIdAt endian section at out
  has_build_id_at first rest entry out split is are =
      let long = is.has_fixed_part in
      let id = build_id_is_prefix (number_in endian 2 (drop 4 first)) (take 24 (drop 12 first)) entry.build_id is.build_id in
      let at_id : drop (at + 12) section ≡ drop 12 first ++ rest = sym (drop-drop 12 at section) ∙ ap (drop 12) split ∙ drop-append-le 12 first rest (omega (arith, long)) in
      let all_id : drop 12 first ≡ entry.build_id ++ (id.0 ++ drop 24 (drop 12 first)) = sym (take-append-drop 24 (drop 12 first)) ∙ ap (λ l. l ++ drop 24 (drop 12 first)) id.1 ∙ append_assoc entry.build_id id.0 (drop 24 (drop 12 first)) in
      let at_path : drop (at + 36) section ≡ drop 36 first ++ rest = sym (drop-drop 36 at section) ∙ ap (drop 36) split ∙ drop-append-le 36 first rest long in
      let text : take (length entry.path) (drop 36 first) ≡ entry.path = ap (λ l. take (length l) (drop 36 first)) is.path ∙ ap (λ n. take n (drop 36 first)) (length-prefix_len _ (drop 36 first)) ∙ sym is.path in
      record {
        entry_bytes = first;
        rest = rest;
        split = split;
        entry = entry;
        is = is;
        matches_entry = are;
        id_bytes = take-length (drop (at + 12) section) entry.build_id ((id.0 ++ drop 24 (drop 12 first)) ++ rest) (at_id ∙ ap (λ l. l ++ rest) all_id ∙ append_assoc entry.build_id (id.0 ++ drop 24 (drop 12 first)) rest);
        path_bytes = take-length (drop (at + 36) section) entry.path (drop (length entry.path) (drop 36 first) ++ rest)
            (at_path ∙ ap (λ l. l ++ rest) (sym (take-append-drop (length entry.path) (drop 36 first)) ∙ ap (λ l. l ++ drop (length entry.path) (drop 36 first)) text) ∙ append_assoc entry.path (drop (length entry.path) (drop 36 first)) rest);
      }
