use Rattle.std.proofs.Common.{◌≡◌, ◌∙◌, ◌++◌, ◌∷◌, [], ℕ, List, Vec, Global, ap, append_assoc, arith, map, subst, sym}
use Rattle.std.proofs.lemmas.List.{append-nil, map-append}
use Rattle.perfdata_views.specs.Counts.{Added, Counts}
use Rattle.perfdata_views.specs.steps.Differences.{key_of}
use Rattle.perfdata_views.proofs.differences.add_keys.Goals as goal

pub add_line-requires : goal.add_line-requires
add_line-requires c =
    let fits = c.total-total.type_inv in
    omega (arith, fits, c.total-total.ensures.sum)

pub lines-init : goal.lines-init
lines-init c = ([], c.into_iter-line-iterator.ensures.into_iter_gives ∙ c.iter-line-items.ensures.rest, λ added counts. subst (λ (a : List Added). Counts a c.args.counts.now) (sym (append-nil added)) counts)

pub lines-preserved : goal.lines-preserved
lines-preserved c =
    let before = c.lines.invariant.0 in
    let line : Vec ℕ Global × ℕ = (c.in-Some.line.now, c.in-Some.field-0-1.now) in
    let one : List Added = record { line = c.as_slice.result.now; weight = 0 } ∷ [] in (
      before ++ line ∷ [],
      append_assoc before (line ∷ []) c.next.new.self ∙ ap (λ (ls : List (Vec ℕ Global × ℕ)). before ++ ls) (sym c.in-Some.ensures.steps) ∙ c.lines.invariant.1,
      λ added counts.
          let pushed = c.in_ok-add_line.ensures (added ++ map key_of before) (c.lines.invariant.2 added counts) in
          let all : (added ++ map key_of before) ++ one ≡ added ++ map key_of (before ++ line ∷ []) =
          append_assoc added (map key_of before) one ∙ ap (λ (l : List ℕ). added ++ (map key_of before ++ record { line = l; weight = 0 } ∷ [])) c.as_slice.ensures.value ∙ ap (λ (a : List Added). added ++ a) (sym (map-append key_of before (line ∷ []))) in
          subst (λ (a : List Added). Counts a c.add_line.new.counts) all pushed,
    )

pub returns : goal.returns
returns c = λ added counts.
    let before = c.lines.invariant.0 in
    let all = sym (append-nil before) ∙ ap (λ (ls : List (Vec ℕ Global × ℕ)). before ++ ls) (sym c.in-None.ensures.steps.0) ∙ c.lines.invariant.1 in
    subst (λ (ls : List (Vec ℕ Global × ℕ)). Counts (added ++ map key_of ls) c.lines.counts) all (c.lines.invariant.2 added counts)
