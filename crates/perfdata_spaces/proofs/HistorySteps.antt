-- The mappings of a process after one more effect.
use Rattle.std.proofs.Common.{◌≡◌, ◌∙◌, ap, refl, sym, ℕ, ℤ, true, false, List, [], ◌∷◌, ◌++◌, append_assoc}
use Rattle.std.proofs.lemmas.List.{append-nil}
use Rattle.std.proofs.lemmas.List.Elements.{All-nil, All-push}
use Rattle.perfdata_spaces.specs.Effects.{Copies, Clears, Numbered}
use Rattle.perfdata_spaces.specs.Histories.{IsHistory, never_reset, cleared, forked, IndexedMapping, resets, mapping_for, mappings_of, at_index}
use Rattle.perfdata_spaces.specs.Processes.{is_same}
use Rattle.perfdata_spaces.proofs.Lists.{flat_map_push, split_push}
use Rattle.perfdata_spaces.proofs.Values.{same_ids}

pub mappings_push : (pid : ℤ) (effects : List Numbered) (effect : Numbered) → mappings_of pid (effects ++ effect ∷ []) ≡ mappings_of pid effects ++ mapping_for pid effect
mappings_push pid effects effect = flat_map_push (mapping_for pid) effects effect

-- An effect that doesn't reset the process adds its mapping.
pub history_push : (pid : ℤ) (effects : List Numbered) (history : List IndexedMapping) (effect : Numbered) → resets pid effect.effect ≡ false → IsHistory pid effects history → IsHistory pid (effects ++ effect ∷ []) (history ++ mapping_for pid effect)
history_push pid effects history effect kept (never_reset _ _ _ none is) =
    never_reset pid (effects ++ effect ∷ []) (history ++ mapping_for pid effect) (All-push (λ (e : Numbered). resets pid e.effect ≡ false) effects effect none kept) (ap (λ ms. ms ++ mapping_for pid effect) is ∙ sym (mappings_push pid effects effect))
history_push pid effects history effect kept (cleared _ _ earlier later index _ split none is) =
    cleared pid (effects ++ effect ∷ []) earlier (later ++ effect ∷ []) index (history ++ mapping_for pid effect) (split_push effects earlier later (at_index index (Clears pid)) effect split) (All-push (λ (e : Numbered). resets pid e.effect ≡ false) later effect none kept) (ap (λ ms. ms ++ mapping_for pid effect) is ∙ sym (mappings_push pid later effect))
history_push pid effects history effect kept (forked _ parent _ earlier later index inherited _ split none from is) =
    forked pid parent (effects ++ effect ∷ []) earlier (later ++ effect ∷ []) index inherited (history ++ mapping_for pid effect) (split_push effects earlier later (at_index index (Copies pid parent)) effect split) (All-push (λ (e : Numbered). resets pid e.effect ≡ false) later effect none kept) from
    (ap (λ ms. ms ++ mapping_for pid effect) is ∙ append_assoc inherited (mappings_of pid later) (mapping_for pid effect) ∙ ap (λ ms. inherited ++ ms) (sym (mappings_push pid later effect)))

pub history_cleared : (pid owner : ℤ) (effects : List Numbered) (index : ℕ) → is_same owner pid ≡ true → IsHistory pid (effects ++ at_index index (Clears owner) ∷ []) []
history_cleared pid owner effects index is = cleared pid (effects ++ at_index index (Clears owner) ∷ []) effects [] index [] (ap (λ id. effects ++ at_index index (Clears id) ∷ []) (same_ids owner pid is)) (All-nil _) refl

pub history_copied : (pid child parent : ℤ) (effects : List Numbered) (index : ℕ) (inherited : List IndexedMapping) → is_same child pid ≡ true → IsHistory parent effects inherited → IsHistory pid (effects ++ at_index index (Copies child parent) ∷ []) inherited
history_copied pid child parent effects index inherited is from =
    forked pid parent (effects ++ at_index index (Copies child parent) ∷ []) effects [] index inherited inherited (ap (λ id. effects ++ at_index index (Copies id parent) ∷ []) (same_ids child pid is)) (All-nil _) from (sym (append-nil inherited))
