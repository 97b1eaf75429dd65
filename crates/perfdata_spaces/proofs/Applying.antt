-- Address spaces after a record is applied to their parts.
use Rattle.std.proofs.Common.{◌≡◌, ◌∙◌, ◌+◌, ◌++◌, ap, refl, sym, add-zero, arith, List, [], ◌∷◌, None, length, length-append, ℕ, Option, Result, Ok, Err, IfOk, OnOk, OnErr, inl, inr}
use Rattle.std.proofs.lemmas.List.{append-nil, map_push}
use Rattle.std.specs.declared.alloc.AllocError.{AllocError}
use Rattle.perfdata_events.specs.declared.event.EventRecord.{EventRecord}
use Rattle.perfdata_spaces.specs.AddressSpaces.{AddsMappings, Follows, FollowsBut, space_effects, name_effects, then_applied}
use Rattle.perfdata_spaces.specs.Effects.{Applied, SpaceEffect, added, effect_of, naming_of, numbered, numbered_from, space_effect, name_effect}
use Rattle.perfdata_spaces.specs.Histories.{at_index}
use Rattle.perfdata_spaces.specs.Spaces.{FollowsSpaces, all_added, values_of}
use Rattle.perfdata_spaces.specs.steps.Spaces.{Applies, Changes, KeepsSpaces}
use Rattle.perfdata_spaces.specs.Mappings.{MappingValue}
use Rattle.perfdata_spaces.specs.declared.spaces.Spaces.{Spaces}
use Rattle.perfdata_spaces.specs.ThreadNames.{AppliesName, KeepsNames}
use Rattle.perfdata_spaces.specs.declared.address_spaces.AddressSpaces.{AddressSpaces}
use Rattle.perfdata_spaces.proofs.FollowSteps.{follows_step, follows_kept}
use Rattle.perfdata_spaces.proofs.NameSteps.{names_step, applied_after, kept_after}

-- One more effect has the number of the mappings of the others.
numbered_push : (first : ℕ) (effects : List SpaceEffect) (effect : SpaceEffect) → numbered_from first (effects ++ effect ∷ []) ≡ numbered_from first effects ++ at_index (first + length (all_added (numbered_from first effects))) effect ∷ []
numbered_push first [] effect = ap (λ n. at_index n effect ∷ []) (sym (add-zero first))
numbered_push first (before ∷ effects) effect =
    let next = first + length (added before) in
    let rest = all_added (numbered_from next effects) in
    let count : next + length rest ≡ first + length (added before ++ rest) = omega (arith, length-append (added before) rest) in
    ap (λ es. at_index first before ∷ es) (numbered_push next effects effect ∙ ap (λ n. numbered_from next effects ++ at_index n effect ∷ []) count)

follows_one_more : (effects : List SpaceEffect) (effect : SpaceEffect) (old new : Spaces) (index : Option ℕ) → FollowsSpaces (numbered effects) old → Applies effect old index new → FollowsSpaces (numbered (effects ++ effect ∷ [])) new
follows_one_more effects effect old new index follows applies =
    let count : 0 + length (all_added (numbered effects)) ≡ length (values_of old) = omega (arith, ap length follows.mappings) in
    rw (numbered_push 0 effects effect, count) (follows_step (numbered effects) old new index follows effect applies)

-- No name is that after the next record.
pub follows_but : (records : List Applied) (next : EventRecord) (spaces : AddressSpaces) → Follows records spaces → FollowsBut records next spaces
follows_but records next spaces follows = record {
  spaces_follow = follows.spaces_follow;
  names = spaces.names;
  names_follow = follows.names_follow;
  named = inl (λ tid. refl);
}

module _ (records : List Applied) (misc : ℕ) (next : EventRecord) (old new : AddressSpaces) (follows : FollowsBut records next old) where
  both_applied : (index : Option ℕ) → AppliesName (naming_of next) old.names new.names → Applies (effect_of misc next) old.spaces index new.spaces → Follows (then_applied records misc next) new
  both_applied index names spaces = record {
    spaces_follow = rw (map_push space_effect records (record { misc = misc; event = next })) (follows_one_more (space_effects records) (effect_of misc next) old.spaces new.spaces index follows.spaces_follow spaces);
    names_follow = rw (map_push name_effect records (record { misc = misc; event = next })) (names_step (name_effects records) follows.names new.names (naming_of next) follows.names_follow (applied_after (naming_of next) follows.names old.names new.names follows.named names));
  }

  -- The names were set, and the spaces stayed.
  pub names_applied : AppliesName (naming_of next) old.names new.names → KeepsSpaces old.spaces new.spaces → FollowsBut records next new
  names_applied names spaces = record {
    spaces_follow = follows_kept (numbered (space_effects records)) old.spaces new.spaces None follows.spaces_follow spaces;
    names = follows.names;
    names_follow = follows.names_follow;
    named = inr (applied_after (naming_of next) follows.names old.names new.names follows.named names);
  }

  pub none_applied : KeepsNames old.names new.names → new.spaces ≡ old.spaces → FollowsBut records next new
  none_applied names spaces = record {
    spaces_follow = rw spaces follows.spaces_follow;
    names = follows.names;
    names_follow = follows.names_follow;
    named = kept_after (naming_of next) follows.names old.names new.names follows.named names;
  }

module _ (misc : ℕ) (next : EventRecord) (old new : AddressSpaces) where
  pub applied_ok : (result : Result (Option ℕ) AllocError) → AppliesName (naming_of next) old.names new.names → Changes (effect_of misc next) old.spaces result new.spaces → OnOk result ((records : List Applied) → FollowsBut records next old → Follows (then_applied records misc next) new)
  applied_ok (Ok index) names spaces = λ records follows. both_applied records misc next old new follows index names spaces
  applied_ok (Err error) names spaces = tt

  pub applied_err : (result : Result (Option ℕ) AllocError) → AppliesName (naming_of next) old.names new.names → Changes (effect_of misc next) old.spaces result new.spaces → OnErr result ((records : List Applied) → FollowsBut records next old → FollowsBut records next new)
  applied_err (Ok index) names spaces = tt
  applied_err (Err error) names spaces = λ records follows. names_applied records misc next old new follows names spaces

pub indices_kept : (effect : SpaceEffect) (old new : Spaces) (result : Result (Option ℕ) AllocError) → Changes effect old result new → (more : List MappingValue) × (values_of new ≡ values_of old ++ more)
indices_kept effect old new (Ok index) spaces = (added effect, spaces.mappings)
indices_kept effect old new (Err error) spaces = ([], spaces.mappings ∙ sym (append-nil (values_of old)))

pub mappings_added : (effect : SpaceEffect) (old new : AddressSpaces) (result : Result (Option ℕ) AllocError) → Changes effect old.spaces result new.spaces → IfOk result (λ index. AddsMappings (added effect) old index new)
mappings_added effect old new (Ok index) spaces = record { after = spaces.mappings; index_is = spaces.index_is }
mappings_added effect old new (Err error) spaces = tt

pub mappings_kept : (effect : SpaceEffect) (old new : Spaces) (result : Result (Option ℕ) AllocError) → Changes effect old result new → OnErr result (values_of new ≡ values_of old)
mappings_kept effect old new (Ok index) spaces = tt
mappings_kept effect old new (Err error) spaces = spaces.mappings

-- The same for spaces that follow.
pub from_follows_ok : (next : EventRecord) (old : AddressSpaces) (new : List Applied → Type 0) (result : Result (Option ℕ) AllocError) → OnOk result ((records : List Applied) → FollowsBut records next old → new records) → OnOk result ((records : List Applied) → Follows records old → new records)
from_follows_ok next old new (Ok index) holds = λ records follows. holds records (follows_but records next old follows)
from_follows_ok next old new (Err error) holds = tt

pub from_follows_err : (next : EventRecord) (old : AddressSpaces) (new : List Applied → Type 0) (result : Result (Option ℕ) AllocError) → OnErr result ((records : List Applied) → FollowsBut records next old → new records) → OnErr result ((records : List Applied) → Follows records old → new records)
from_follows_err next old new (Ok index) holds = tt
from_follows_err next old new (Err error) holds = λ records follows. holds records (follows_but records next old follows)
