-- Blocks one after another.
use Rattle.std.proofs.Common.{◌≡◌, ℕ, ◌+◌, List, ◌++◌, length, take, drop, sym, ap, subst, ◌∙◌, arith, length-drop}
use Rattle.std.proofs.Math.Seq.{take-add}
use Rattle.std.proofs.lemmas.List.{drop-drop, length-take-le}
use Rattle.perfdata_events.specs.Format.{IsBlock}

-- Two blocks, one after the other.
pub two_blocks : (n m : ℕ) (xs a ys b zs : List ℕ) → IsBlock n xs a ys → IsBlock m ys b zs → IsBlock (n + m) xs (a ++ b) zs
two_blocks n m xs a ys b zs one two = record {
  enough = omega (arith, one.enough, two.enough, ap length one.rest_is, length-drop n xs);
  block_is = (λ i. one.block_is i ++ (two.block_is ∙ ap (take m) one.rest_is) i) ∙ sym (take-add n m xs);
  rest_is = two.rest_is ∙ ap (drop m) one.rest_is ∙ drop-drop m n xs;
}

pub block_len : (n : ℕ) (xs a ys : List ℕ) → IsBlock n xs a ys → length a ≡ n
block_len n xs a ys one = ap length one.block_is ∙ length-take-le n xs one.enough

-- `two_blocks` with a size and bytes that are equal to these.
pub two_blocks_at : (n m k : ℕ) (xs a ys b zs other : List ℕ) → n + m ≡ k → xs ≡ other → IsBlock n xs a ys → IsBlock m ys b zs → IsBlock k other (a ++ b) zs
two_blocks_at n m k xs a ys b zs other size same one two =
    subst (λ l. IsBlock k l (a ++ b) zs) same (subst (λ j. IsBlock j xs (a ++ b) zs) size (two_blocks n m xs a ys b zs one two))
