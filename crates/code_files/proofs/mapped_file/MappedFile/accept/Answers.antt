use Rattle.std.proofs.Common.{ℕ, List, rules, subst, sym}
use Rattle.std.proofs.lemmas.Grind.{merely}
use Rattle.code_files.specs.BuildIds.{IsAccepted}
use Rattle.code_files.proofs.mapped_file.MappedFile.accept.Goals as goal

pub invariant_of-result : goal.invariant_of-result
invariant_of-result c =
    let copied = c.in_ok-to_vec.ensures.items_if_clones_equal (λ x y is. is) in
    let accepted = c.is_accepted.ensures.0 (search rules) in
    record { accepted = merely (subst (λ (r : List ℕ). IsAccepted c.in_ok-build_id.build_id.items r) (sym copied) (subst (λ (b : List ℕ). IsAccepted b c.args.recorded.now) c.deref.ensures.value accepted)) }
