use Rattle.std.proofs.Common.{◌≡◌, ◌+◌, ◌++◌, ◌∷◌, [], ℕ, Option, Some, sym, subst}
use Rattle.code_symbols.specs.ArmPlt.{FollowEachOther, coded_size, start_size}
use Rattle.code_symbols.proofs.ArmPltLemmas.{follow_more}
use Rattle.code_symbols.proofs.elf.arm_plt.coded_entries.Goals as goal

pub entries-preserved : goal.entries-preserved
entries-preserved c =
    let size_at : ℕ → Option ℕ = coded_size c.args.code.encoding c.args.code.bytes.now in
    let first : ℕ = start_size c.args.code.encoding c.args.code.bytes.now in
    let entry = c.in-Some.entry in
    let before = c.entries.entries.items in
    let start : entry.offset ≡ c.entries.end = c.in-Some.ensures.start in
    record {
      within = c.in-Some.ensures.within;
      follow =
          subst (λ items. FollowEachOther size_at first items (c.entries.end + entry.size)) (sym c.in_ok-push.ensures.items)
          (subst (λ at. FollowEachOther size_at first (before ++ entry ∷ []) (at + entry.size)) start
          (follow_more size_at first before entry (subst (FollowEachOther size_at first before) (sym start) c.entries.invariant.follow)
          (subst (λ at. size_at at ≡ Some entry.size) (sym start) c.in-Some.ensures.size)));
    }
