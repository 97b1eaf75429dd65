-- Entries of code that follow one another.
use Rattle.std.proofs.Common.{◌≡◌, ℕ, ◌+◌, List, [], ◌∷◌, ◌++◌, Option, Some, sym, ap, subst}
use Rattle.code_symbols.specs.ArmPlt.{FollowEachOther}
use Rattle.code_symbols.specs.declared.elf.plt.PltEntry.{PltEntry}

-- one more entry at the end
pub follow_more : (size_at : ℕ → Option ℕ) (at : ℕ) (xs : List PltEntry) (x : PltEntry) → FollowEachOther size_at at xs x.offset → size_at x.offset ≡ Some x.size
    → FollowEachOther size_at at (xs ++ x ∷ []) (x.offset + x.size)
follow_more size_at at [] x start is = (sym start, subst (λ v. size_at v ≡ Some x.size) (sym start) is, ap (λ v. v + x.size) start)
follow_more size_at at (y ∷ ys) x (offset, size, rest) is = (offset, size, follow_more size_at (at + y.size) ys x rest is)
