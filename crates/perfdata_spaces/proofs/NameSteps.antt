-- The names of threads after one more effect.
use Rattle.std.proofs.Common.{◌≡◌, ◌∙◌, ap, refl, ℕ, ℤ, Bool, true, false, cond, List, [], ◌∷◌, ◌++◌, Option, Some, inl, inr, ◌⊎◌}
use Rattle.std.proofs.lemmas.List.Elements.{All-nil, All-push}
use Rattle.perfdata_spaces.specs.Effects.{NameEffect, Names, Inherits, KeepsAll}
use Rattle.perfdata_spaces.specs.NameHistories.{IsName, never_named, named, inherited, names}
use Rattle.perfdata_spaces.specs.Processes.{is_same}
use Rattle.perfdata_spaces.specs.ThreadNames.{name_of, name_after, AppliesName, FollowsNames, KeepsNames}
use Rattle.perfdata_spaces.specs.declared.thread_names.ThreadNames.{ThreadNames}
use Rattle.perfdata_spaces.proofs.Lists.{split_push}
use Rattle.perfdata_spaces.proofs.Values.{same_ids}

pub name_push : (tid : ℤ) (effects : List NameEffect) (name : Option (List ℕ)) (effect : NameEffect) → names tid effect ≡ false → IsName tid effects name → IsName tid (effects ++ effect ∷ []) name
name_push tid effects name effect kept (never_named _ _ _ none is) =
    never_named tid (effects ++ effect ∷ []) name (All-push (λ e. names tid e ≡ false) effects effect none kept) is
name_push tid effects name effect kept (named _ _ earlier later bytes _ split none is) =
    named tid (effects ++ effect ∷ []) earlier (later ++ effect ∷ []) bytes name (split_push effects earlier later (Names tid bytes) effect split) (All-push (λ e. names tid e ≡ false) later effect none kept) is
name_push tid effects name effect kept (inherited _ parent _ earlier later _ split none from) =
    inherited tid parent (effects ++ effect ∷ []) earlier (later ++ effect ∷ []) name (split_push effects earlier later (Inherits tid parent) effect split) (All-push (λ e. names tid e ≡ false) later effect none kept) from

is_name_as : (tid : ℤ) (effects : List NameEffect) (name other : Option (List ℕ)) → other ≡ name → IsName tid effects name → IsName tid effects other
is_name_as tid effects name other same is = rw same is

pub named_step : (tid thread : ℤ) (bytes : List ℕ) (effects : List NameEffect) (name : Option (List ℕ)) (same : Bool) → is_same thread tid ≡ same → IsName tid effects name → IsName tid (effects ++ Names thread bytes ∷ []) (cond same (Some bytes) name)
named_step tid thread bytes effects name true is before =
    named tid (effects ++ Names thread bytes ∷ []) effects [] bytes (Some bytes) (ap (λ id. effects ++ Names id bytes ∷ []) (same_ids thread tid is)) (All-nil (λ e. names tid e ≡ false)) refl
named_step tid thread bytes effects name false is before = name_push tid effects name (Names thread bytes) is before

pub inherited_step : (tid thread parent : ℤ) (effects : List NameEffect) (name parent_name : Option (List ℕ)) (same : Bool) → is_same thread tid ≡ same → IsName tid effects name → IsName parent effects parent_name → IsName tid (effects ++ Inherits thread parent ∷ []) (cond same parent_name name)
inherited_step tid thread parent effects name parent_name true is before from =
    inherited tid parent (effects ++ Inherits thread parent ∷ []) effects [] parent_name (ap (λ id. effects ++ Inherits id parent ∷ []) (same_ids thread tid is)) (All-nil (λ e. names tid e ≡ false)) from
inherited_step tid thread parent effects name parent_name false is before from = name_push tid effects name (Inherits thread parent) is before

pub names_step : (effects : List NameEffect) (old new : ThreadNames) (effect : NameEffect) → FollowsNames effects old → AppliesName effect old new → FollowsNames (effects ++ effect ∷ []) new
names_step effects old new (Names thread bytes) follows applies = λ tid.
    is_name_as tid (effects ++ Names thread bytes ∷ []) _ (name_of new tid) (applies tid) (named_step tid thread bytes effects (name_of old tid) (is_same thread tid) refl (follows tid))
names_step effects old new (Inherits thread parent) follows applies = λ tid.
    is_name_as tid (effects ++ Inherits thread parent ∷ []) _ (name_of new tid) (applies tid) (inherited_step tid thread parent effects (name_of old tid) (name_of old parent) (is_same thread tid) refl (follows tid) (follows parent))
names_step effects old new KeepsAll follows applies = λ tid.
    is_name_as tid (effects ++ KeepsAll ∷ []) (name_of old tid) (name_of new tid) (applies tid) (name_push tid effects (name_of old tid) KeepsAll refl (follows tid))

-- What an effect makes of names that are the same.
after_kept : (effect : NameEffect) (old other : ThreadNames) (tid : ℤ) → KeepsNames old other → name_after effect (name_of other) tid ≡ name_after effect (name_of old) tid
after_kept (Names thread bytes) old other tid keeps = ap (cond (is_same thread tid) (Some bytes)) (keeps tid)
after_kept (Inherits thread parent) old other tid keeps =
    ap (λ name. cond (is_same thread tid) name (name_of other tid)) (keeps parent) ∙ ap (cond (is_same thread tid) (name_of old parent)) (keeps tid)
after_kept KeepsAll old other tid keeps = keeps tid

twice_named : {A : Type 0} → (same : Bool) (name old : A) → cond same name (cond same name old) ≡ cond same name old
twice_named true name old = refl
twice_named false name old = refl

either_same : {A : Type 0} → (same : Bool) (name : A) → cond same name name ≡ name
either_same true name = refl
either_same false name = refl

-- An effect that is applied again changes nothing.
after_twice : (effect : NameEffect) (old other : ThreadNames) (tid : ℤ) → AppliesName effect old other → name_after effect (name_of other) tid ≡ name_after effect (name_of old) tid
after_twice (Names thread bytes) old other tid applies =
    ap (cond (is_same thread tid) (Some bytes)) (applies tid) ∙ twice_named (is_same thread tid) (Some bytes) (name_of old tid)
after_twice (Inherits thread parent) old other tid applies =
    ap (λ name. cond (is_same thread tid) name (name_of other tid)) (applies parent ∙ either_same (is_same thread parent) (name_of old parent))
    ∙ ap (cond (is_same thread tid) (name_of old parent)) (applies tid)
    ∙ twice_named (is_same thread tid) (name_of old parent) (name_of old tid)
after_twice KeepsAll old other tid applies = applies tid

pub applied_after : (effect : NameEffect) (older old new : ThreadNames) → KeepsNames older old ⊎ AppliesName effect older old → AppliesName effect old new → AppliesName effect older new
applied_after effect older old new (inl keeps) applies = λ tid. applies tid ∙ after_kept effect older old tid keeps
applied_after effect older old new (inr applied) applies = λ tid. applies tid ∙ after_twice effect older old tid applied

pub kept_after : (effect : NameEffect) (older old new : ThreadNames) → KeepsNames older old ⊎ AppliesName effect older old → KeepsNames old new → KeepsNames older new ⊎ AppliesName effect older new
kept_after effect older old new (inl keeps) kept = inl (λ tid. kept tid ∙ keeps tid)
kept_after effect older old new (inr applied) kept = inr (λ tid. kept tid ∙ applied tid)
