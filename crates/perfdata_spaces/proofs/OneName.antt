-- Effects give a thread exactly one name.
use Rattle.std.proofs.Common.{◌≡◌, ◌∙◌, ap, refl, sym, ℕ, ℤ, false, cond, List, [], ◌∷◌, ◌++◌, Option, None, Some, append_assoc}
use Rattle.std.proofs.lemmas.List.{append-nil}
use Rattle.std.proofs.lemmas.List.Elements.{All-nil, All-head, All-tail}
use Rattle.perfdata_spaces.specs.Effects.{NameEffect, Names, Inherits, KeepsAll}
use Rattle.perfdata_spaces.specs.Laws.{HasOneName}
use Rattle.perfdata_spaces.specs.NameHistories.{IsName, never_named, named, inherited, names, NoneNames}
use Rattle.perfdata_spaces.specs.Processes.{is_same}
use Rattle.perfdata_spaces.specs.ThreadNames.{name_after}
use Rattle.perfdata_spaces.proofs.NameSteps.{name_push, named_step, inherited_step}
use Rattle.perfdata_spaces.proofs.OneHistory.{same_itself}

-- The name of each thread after effects.
abbrev Named : Type 0
Named = ℤ → Option (List ℕ)

abbrev after_all : List NameEffect → Named → Named
after_all [] old = old
after_all (effect ∷ effects) old = after_all effects (name_after effect old)

abbrev nameless : Named
nameless tid = None

after_append : (first second : List NameEffect) (old : Named) → after_all (first ++ second) old ≡ after_all second (after_all first old)
after_append [] second old = refl
after_append (effect ∷ first) second old = after_append first second (name_after effect old)

after_kept : (tid : ℤ) (effect : NameEffect) (old : Named) → names tid effect ≡ false → name_after effect old tid ≡ old tid
after_kept tid (Names thread bytes) old kept = ap (λ same. cond same (Some bytes) (old tid)) kept
after_kept tid (Inherits thread parent) old kept = ap (λ same. cond same (old parent) (old tid)) kept
after_kept tid KeepsAll old kept = refl

after_all_kept : (tid : ℤ) (effects : List NameEffect) (old : Named) → NoneNames tid effects → after_all effects old tid ≡ old tid
after_all_kept tid [] old none = refl
after_all_kept tid (effect ∷ effects) old none =
    after_all_kept tid effects (name_after effect old) (All-tail (λ e. names tid e ≡ false) effect effects none)
    ∙ after_kept tid effect old (All-head (λ e. names tid e ≡ false) effect effects none)

name_is : (tid : ℤ) (effects : List NameEffect) (name : Option (List ℕ)) → IsName tid effects name → name ≡ after_all effects nameless tid
name_is tid effects name (never_named _ _ _ none is) = is ∙ sym (after_all_kept tid effects nameless none)
name_is tid effects name (named _ _ earlier later bytes _ split none is) =
    let before = after_all earlier nameless in
    let ran : after_all effects nameless tid ≡ after_all later (name_after (Names tid bytes) before) tid = ap (λ es. after_all es nameless tid) split ∙ ap (λ ns. ns tid) (after_append earlier (Names tid bytes ∷ later) nameless) in
    let given : name_after (Names tid bytes) before tid ≡ Some bytes = ap (λ same. cond same (Some bytes) (before tid)) (same_itself tid) in
    is ∙ sym (ran ∙ after_all_kept tid later (name_after (Names tid bytes) before) none ∙ given)
name_is tid effects name (inherited _ parent _ earlier later _ split none from) =
    let before = after_all earlier nameless in
    let ran : after_all effects nameless tid ≡ after_all later (name_after (Inherits tid parent) before) tid = ap (λ es. after_all es nameless tid) split ∙ ap (λ ns. ns tid) (after_append earlier (Inherits tid parent ∷ later) nameless) in
    let given : name_after (Inherits tid parent) before tid ≡ name = ap (λ same. cond same (before parent) (before tid)) (same_itself tid) ∙ sym (name_is parent earlier name from) in
    sym (ran ∙ after_all_kept tid later (name_after (Inherits tid parent) before) none ∙ given)

-- There is a name.
abbrev HasName : List NameEffect → ℤ → Type 0
HasName effects tid = (name : Option (List ℕ)) × IsName tid effects name

has_step : (effects : List NameEffect) (effect : NameEffect) → ((tid : ℤ) → HasName effects tid) → (tid : ℤ) → HasName (effects ++ effect ∷ []) tid
has_step effects (Names thread bytes) has tid = (cond (is_same thread tid) (Some bytes) (has tid).0, named_step tid thread bytes effects (has tid).0 (is_same thread tid) refl (has tid).1)
has_step effects (Inherits thread parent) has tid = (cond (is_same thread tid) (has parent).0 (has tid).0, inherited_step tid thread parent effects (has tid).0 (has parent).0 (is_same thread tid) refl (has tid).1 (has parent).1)
has_step effects KeepsAll has tid = ((has tid).0, name_push tid effects (has tid).0 KeepsAll refl (has tid).1)

has_all : (before effects : List NameEffect) → ((tid : ℤ) → HasName before tid) → (tid : ℤ) → HasName (before ++ effects) tid
has_all before [] has tid = rw (append-nil before) (has tid)
has_all before (effect ∷ effects) has tid = rw (sym (append_assoc before (effect ∷ []) effects)) (has_all (before ++ effect ∷ []) effects (has_step before effect has) tid)

pub one_name : HasOneName
one_name = λ tid effects.
    let has = has_all [] effects (λ other. (None, never_named other [] None (All-nil (λ e. names other e ≡ false)) refl)) tid in
    (has.0, has.1, λ other is. name_is tid effects other is ∙ sym (name_is tid effects has.0 has.1))
