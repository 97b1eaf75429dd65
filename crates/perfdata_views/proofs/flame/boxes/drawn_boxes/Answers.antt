use Rattle.std.proofs.Common.{◌≡◌, ◌∙◌, List, ap, arith, filter, get_or, length, not, ℕ}
use Rattle.std.proofs.lemmas.List.Sums.{count_by-le-length, length-filter}
use Rattle.perfdata_views.specs.FlameBoxes.{boxes_of, is_narrow, total_of}
use Rattle.perfdata_views.specs.declared.flame.boxes.FlameBox.{FlameBox}
use Rattle.perfdata_views.proofs.flame.boxes.drawn_boxes.Goals as goal

pub returns : goal.returns
returns c =
    let tree = c.args.tree.now in
    let stacks = tree.tree.stacks.ok in
    let all_ok = c.in_ok-all.all.ok in
    let wide_ok = c.in_ok-wide.wide.ok in
    let all = c.as_slice-2.ensures.value ∙ c.in_ok-all.ensures in
    let total : c.position-total.result ≡ total_of tree = c.position-total.ensures ∙ ap (λ (p : List ℕ). get_or p c.len.result 0) c.as_slice.ensures.value ∙ ap (λ (n : ℕ). get_or tree.tree.positions.items n 0) (c.len.ensures ∙ stacks.0) in
    let wide : c.in_ok-wide.wide.items ≡ filter (λ (b : FlameBox). not (is_narrow (total_of tree) b)) (boxes_of tree) = c.in_ok-wide.ensures
    ∙ ap (λ (n : ℕ). filter (λ (b : FlameBox). not (is_narrow n b)) c.as_slice-2.result.now) total ∙ ap (filter (λ (b : FlameBox). not (is_narrow (total_of tree) b))) all in
    let count = length-filter (λ (b : FlameBox). not (is_narrow (total_of tree) b)) (boxes_of tree) in
    let most = count_by-le-length (λ (b : FlameBox). not (is_narrow (total_of tree) b)) (boxes_of tree) in
    record {
      boxes_are = wide;
      omitted_is = omega (arith, c.saturating_sub-omitted.ensures, c.len-2.ensures, c.len-3.ensures, all_ok.0, wide_ok.0, ap length wide, ap length c.in_ok-all.ensures, count, most);
      total_is = total;
    }
