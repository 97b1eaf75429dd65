use Rattle.std.proofs.Common.{◌≡◌, ◌++◌, ◌∷◌, [], List, ℕ, rules, subst, OnOk}
use Rattle.perfdata_profile.specs.Names.{names_of}
use Rattle.perfdata_profile.specs.Profiles.{lists_of}
use Rattle.perfdata_profile.specs.Values.{thread_key}
use Rattle.perfdata_views.specs.Lines.{thread_text}
use Rattle.perfdata_views.specs.steps.Numbering.{HasNumbers}
use Rattle.perfdata_views.proofs.entry_tree.push_thread_text.Goals as goal

pub returns : goal.returns
returns c =
    let is : c.as_slice.result.now ≡ thread_text (thread_key (lists_of c.args.tables.now) c.args.thread) = search rules in
    subst (λ (t : List ℕ). OnOk c.push_text.result ((start names : List (List ℕ)) → HasNumbers start (names_of c.args.texts.now) names c.args.numbers.now.items → HasNumbers start (names_of c.push_text.new.texts) (names ++ t ∷ []) c.push_text.new.numbers.items)) is c.push_text.ensures
