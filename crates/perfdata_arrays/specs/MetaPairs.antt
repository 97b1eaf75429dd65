-- The results for the pairs of simpleperf's meta info.
use Rattle.std.specs.Prelude.{◌≡◌, ◌⊎◌, ℕ, ◌+◌, List, [], ◌∷◌, ◌++◌, length, All}
use Rattle.perfdata_simpleperf.specs.MetaInfo.{IsUtf8Pair, Pair, meta_pairs}
use Rattle.linux_perf_data.specs.RecordEntries.{with_prefix, HasBytesAt}
use Rattle.perfdata_arrays.specs.declared.meta_info.MetaInfoResult.{MetaInfoResult}
use Rattle.perfdata_arrays.specs.declared.meta_info.MetaPair.{MetaPair}
use Rattle.perfdata_arrays.specs.declared.status.Status.TheVariants.{InvalidUtf8, Success}

-- ---- entries

-- the entry of a pair whose key is at an offset; a NUL follows the key
abbrev pub pair_entry_at : ℕ → Pair → MetaPair
pair_entry_at offset p = record {
  key_offset = offset;
  key_size = length p.0;
  value_offset = offset + length p.0 + 1;
  value_size = length p.1;
}

-- the offset after a pair and the NUL that follows its value
abbrev pub offset_after : ℕ → Pair → ℕ
offset_after offset p = offset + length p.0 + 1 + length p.1 + 1

-- the entries of consecutive pairs
abbrev pub pair_entries_at : ℕ → List Pair → List MetaPair
pair_entries_at offset [] = []
pair_entries_at offset (p ∷ ps) = pair_entry_at offset p ∷ pair_entries_at (offset_after offset p) ps

-- the key and the value of a pair are at the offsets in its entry
abbrev pub HasPairAt : List ℕ → ℕ → Pair → Type 0
HasPairAt section offset p = HasBytesAt section offset p.0 × HasBytesAt section (offset + length p.0 + 1) p.1

-- the same for consecutive pairs
abbrev pub HasPairsAt : List ℕ → ℕ → List Pair → Type 0
HasPairsAt section offset [] = Unit {0}
HasPairsAt section offset (p ∷ ps) = HasPairAt section offset p × HasPairsAt section (offset_after offset p) ps

-- ---- the result

-- The entries of all pairs are written and counted; or those of the pairs before the first that isn't UTF-8.
pub record ReadsMetaInfo (section : List ℕ) (old : List MetaPair) (result : MetaInfoResult) (new : List MetaPair) : Type 0 where
  pub pairs : List Pair
  pub later : List Pair
  pub split : meta_pairs section ≡ pairs ++ later
  pub all_utf8 : All IsUtf8Pair pairs
  pub count : result.count ≡ length pairs
  pub written : new ≡ with_prefix (pair_entries_at 0 pairs) old
  pub bytes_at : HasPairsAt section 0 pairs
  pub ends : ((result.status ≡ Success) × (later ≡ []))
      ⊎ ((result.status ≡ InvalidUtf8) × ((p : Pair) × ((rest : List Pair) × (later ≡ p ∷ rest) × (¬ IsUtf8Pair p))))
