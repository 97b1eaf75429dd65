-- The end of the entries up to an address, and the last of these entries.
use Rattle.std.proofs.Common.{◌≡◌, ℕ, ◌-◌, ◌<◌, ◌≤◌, leb, leb-true, true, false, List, length, slice_index_or, sym, ap, subst, arith, inl, inr}
use Rattle.std.proofs.lemmas.Bool.{leb-false, cases_lt}
use Rattle.std.specs.List.Sorted.{IsNonDecreasingBy, IsPartitionPoint}
use Rattle.std.proofs.lemmas.List.{get_or_default as slice_index_default}
use Rattle.std.specs.List.{All}
use Rattle.perfdata_jit.specs.JitRecords.{IsGreatestBelow}
use Rattle.perfdata_jit.specs.declared.records.JitCodeDebugInfoEntry.{JitCodeDebugInfoEntry}

module _ (entries : List JitCodeDebugInfoEntry) (address above : ℕ) (point : IsPartitionPoint (λ e. leb e.code_addr address ≡ true) (λ e. leb e.code_addr address ≡ false) entries above) where
  -- all entries are above the address
  pub all_above : above ≡ 0 → All (λ other. address < other.code_addr) entries
  all_above none = λ k d within. leb-false _ _ (point.1 k d (omega (arith, none)) within)

  -- the last entry that isn't above the address
  pub greatest_below : IsNonDecreasingBy (λ e. e.code_addr) entries → 0 < above → above ≤ length entries → (found : JitCodeDebugInfoEntry)
      → found ≡ slice_index_or entries (above - 1) found → IsGreatestBelow entries address found
  greatest_below up some within found is =
      let last : above - 1 < above = omega (arith, some) in
      let here : above - 1 < length entries = omega (arith, some, within) in
      record {
        is_entry = (above - 1, here, sym is);
        at_most_address = subst (λ e. e.code_addr ≤ address) (sym is) (leb-true _ _ (point.0 (above - 1) found (omega arith) last));
        greatest = λ k d there low. elim (cases_lt (above - 1) k) [
          | inl later ↦ absurd (let high = leb-false _ _ (point.1 k d (omega (arith, later, some)) there) in omega (arith, high, low))
          | inr front ↦
              let le = up k (above - 1) found front here in
              let same = slice_index_default entries k d found there in
              omega (arith, le, ap (λ e. e.code_addr) same, ap (λ e. e.code_addr) is)
        ];
        last = λ k d later there. leb-false _ _ (point.1 k d (omega (arith, later, some)) there);
      }
