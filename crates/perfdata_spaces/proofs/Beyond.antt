-- Nothing is found from 2^64 on.
use Rattle.std.proofs.Common.{◌≡◌, ◌∙◌, ◌≤◌, ◌^◌, ap, refl, arith, ℕ, Bool, false, List, [], ◌∷◌, None}
use Rattle.std.specs.Option.{option_or}
use Rattle.std.proofs.lemmas.Bool.Decides.{nat_tests}
use Rattle.perfdata_events.specs.declared.fields.call_chain.CallContext.TheVariants.{Hypervisor, Kernel, User, Guest, GuestKernel, GuestUser, Unknown}
use Rattle.perfdata_spaces.specs.Effects.{SpaceEffect, Maps, MapsKernel, Registers, Removes, Copies, Clears, Leaves, Numbered, numbered}
use Rattle.perfdata_spaces.specs.Histories.{IndexedMapping, last_that, indexed_contains, changes_symbol, changes_symbol_at, kernel_mappings, registered, symbol_at}
use Rattle.perfdata_spaces.specs.Laws.{FindsNoneBeyond}
use Rattle.perfdata_spaces.specs.Ranges.{contains}

contains_none : (start size address : ℕ) → 2 ^ 64 ≤ address → contains start size address ≡ false
contains_none start size address beyond = grind (arith, nat_tests)

last_none : {A : Type 0} → (test : A → Bool) (xs : List A) → ((x : A) → test x ≡ false) → last_that test xs ≡ None
last_none test [] none = refl
last_none test (x ∷ xs) none = rw (none x) (last_none test xs none)

changes_none : (address : ℕ) (effect : SpaceEffect) → 2 ^ 64 ≤ address → changes_symbol address effect ≡ false
changes_none address (Registers symbol) beyond = contains_none symbol.start symbol.byte_length address beyond
changes_none address (Removes start size) beyond = contains_none start size address beyond
changes_none address (Maps owner mapping) beyond = refl
changes_none address (MapsKernel mapping) beyond = refl
changes_none address (Copies child parent) beyond = refl
changes_none address (Clears owner) beyond = refl
changes_none address Leaves beyond = refl

none_in : (address : ℕ) → 2 ^ 64 ≤ address → (mappings : List IndexedMapping) → last_that (indexed_contains address) mappings ≡ None
none_in address beyond mappings = last_none (indexed_contains address) mappings (λ m. contains_none m.mapping.start m.mapping.byte_length address beyond)

no_symbol : (address : ℕ) (effects : List Numbered) → 2 ^ 64 ≤ address → symbol_at address effects ≡ None
no_symbol address effects beyond = ap registered (last_none (changes_symbol_at address) effects (λ e. changes_none address e.effect beyond))

pub finds_none_beyond : FindsNoneBeyond
finds_none_beyond = λ effects pid address. elim [
  | User ↦ λ found beyond is. is.2 ∙ none_in address beyond is.0
  | Kernel ↦ λ found beyond is. is ∙ ap (λ s. option_or s (last_that (indexed_contains address) (kernel_mappings (numbered effects)))) (no_symbol address (numbered effects) beyond) ∙ none_in address beyond (kernel_mappings (numbered effects))
  | Hypervisor ↦ λ found beyond is. is
  | Guest ↦ λ found beyond is. is
  | GuestKernel ↦ λ found beyond is. is
  | GuestUser ↦ λ found beyond is. is
  | Unknown ↦ λ found beyond is. is
]
