-- Two consecutive calls on a `CountingBufWriter` have the effect of one call with the bytes of both.
use Rattle.std.proofs.Common.{ℕ, List, ◌++◌, Option, sym, ap, ◌∙◌, append_assoc, arith}
use Rattle.std.proofs.KnownBytes.{Appends-trans}
use Rattle.perfdata_listing_lines.specs.CountingBufWriter.{BuffersAndForwards, pending_bytes}
use Rattle.perfdata_listing_lines.specs.declared.output.CountingBufWriter.{CountingBufWriter}
use Rattle.perfdata_listing.proofs.NewlineCounts.{newline_count-append}

pub forwards-compose : {W : Type 0} {contents : W → Option (List ℕ)} {old mid new : CountingBufWriter W} {a b : List ℕ} → BuffersAndForwards contents old a mid → BuffersAndForwards contents mid b new → BuffersAndForwards contents old (a ++ b) new
forwards-compose {contents} {old} {mid} {new} {a} {b} p q = record {
  forwarded = p.forwarded ++ q.forwarded;
  split = sym (append_assoc (pending_bytes old) a b) ∙ ap (λ l. l ++ b) p.split ∙ append_assoc p.forwarded (pending_bytes mid) b ∙ ap (λ l. p.forwarded ++ l) q.split ∙ sym (append_assoc p.forwarded q.forwarded (pending_bytes new));
  appended = Appends-trans _ _ _ p.forwarded q.forwarded p.appended q.appended;
  counted = let sum = newline_count-append p.forwarded q.forwarded in let first = p.counted in let second = q.counted in omega arith;
}
