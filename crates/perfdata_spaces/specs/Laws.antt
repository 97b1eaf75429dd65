-- Laws of histories and names: each list of effects has exactly one.
use Rattle.std.specs.Prelude.{◌≡◌, ℕ, ℤ, ◌≤◌, ◌^◌, List, Option, None}
use Rattle.perfdata_events.specs.declared.fields.call_chain.CallContext.{CallContext}
use Rattle.perfdata_spaces.specs.Effects.{SpaceEffect, NameEffect, numbered}
use Rattle.perfdata_spaces.specs.Histories.{IndexedMapping, IsHistory, IsFound}
use Rattle.perfdata_spaces.specs.NameHistories.{IsName}

abbrev pub HasOneHistory : Type 0
HasOneHistory = (pid : ℤ) (effects : List SpaceEffect) → ((history : List IndexedMapping)
    × IsHistory pid (numbered effects) history
    × ((other : List IndexedMapping) → IsHistory pid (numbered effects) other → other ≡ history))

abbrev pub HasOneName : Type 0
HasOneName = (tid : ℤ) (effects : List NameEffect) → ((name : Option (List ℕ))
    × IsName tid effects name × ((other : Option (List ℕ)) → IsName tid effects other → other ≡ name))

abbrev pub FindsOne : Type 0
FindsOne = (effects : List SpaceEffect) (pid : ℤ) (address : ℕ) (context : CallContext) → ((found : Option IndexedMapping)
    × IsFound effects pid address context found
    × ((other : Option IndexedMapping) → IsFound effects pid address context other → other ≡ found))

-- A mapping ends before 2^64, so nothing is found from there on.
abbrev pub FindsNoneBeyond : Type 0
FindsNoneBeyond = (effects : List SpaceEffect) (pid : ℤ) (address : ℕ) (context : CallContext) (found : Option IndexedMapping)
    → 2 ^ 64 ≤ address → IsFound effects pid address context found → found ≡ None
