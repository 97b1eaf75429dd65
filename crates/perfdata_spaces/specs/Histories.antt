-- Which mappings a process has after records: those since its last reset, after those that a fork gave it.
use Rattle.std.specs.Prelude.{◌≡◌, ℕ, ℤ, Bool, false, List, [], ◌∷◌, ◌++◌, Option, None, Some, filter, if◌then◌else◌}
use Rattle.std.specs.List.{All, flat_map, last_or}
use Rattle.std.specs.Option.{option_map, option_or}
use Rattle.perfdata_events.specs.declared.fields.call_chain.CallContext.{CallContext}
use Rattle.perfdata_events.specs.declared.fields.call_chain.CallContext.TheVariants.{Hypervisor, Kernel, User, GuestKernel, GuestUser, Unknown}
use Rattle.perfdata_sources.specs.declared.event.cpu_mode.CpuMode.{CpuMode}
use Rattle.perfdata_sources.specs.declared.event.cpu_mode.CpuMode.TheVariants as mode
use Rattle.perfdata_spaces.specs.Effects.{SpaceEffect, Maps, MapsKernel, Registers, Removes, Copies, Clears, Numbered, numbered}
use Rattle.perfdata_spaces.specs.Mappings.{MappingValue, mapping_contains}
use Rattle.perfdata_spaces.specs.Processes.{is_same}
use Rattle.perfdata_spaces.specs.Ranges.{contains}

-- The last element of a list that a test accepts.
abbrev pub last_that : {A : Type 0} → (A → Bool) → List A → Option A
last_that test xs = last_or None (filter test xs)

-- A mapping, with its index: the number of mappings that were added before it, to any process or to the kernel.
pub record IndexedMapping : Type 0 where
  pub index : ℕ
  pub mapping : MappingValue

abbrev pub indexed_contains : ℕ → IndexedMapping → Bool
indexed_contains address indexed = mapping_contains address indexed.mapping

-- Whether an effect replaces all mappings of a process.
abbrev pub resets : ℤ → SpaceEffect → Bool
resets pid (Copies child parent) = is_same child pid
resets pid (Clears cleared) = is_same cleared pid
resets pid _ = false

abbrev pub NoneResets : ℤ → List Numbered → Type 0
NoneResets pid effects = All (λ numbered. resets pid numbered.effect ≡ false) effects

-- The mapping that an effect adds to a process.
abbrev pub mapping_at_for : ℕ → ℤ → SpaceEffect → List IndexedMapping
mapping_at_for index pid (Maps owner mapping) = if is_same owner pid then record { index = index; mapping = mapping } ∷ [] else []
mapping_at_for index pid _ = []

abbrev pub mapping_for : ℤ → Numbered → List IndexedMapping
mapping_for pid numbered = mapping_at_for numbered.index pid numbered.effect

abbrev pub mappings_of : ℤ → List Numbered → List IndexedMapping
mappings_of pid effects = flat_map (mapping_for pid) effects

abbrev pub at_index : ℕ → SpaceEffect → Numbered
at_index index effect = record { index = index; effect = effect }

-- The mappings of a process after effects, in the order in which they were added.
pub data IsHistory : ℤ → List Numbered → List IndexedMapping → Type 0 where
  -- Nothing reset the process: all its mappings.
  never_reset : (pid : ℤ) (effects : List Numbered) (history : List IndexedMapping) → NoneResets pid effects
      → history ≡ mappings_of pid effects → IsHistory pid effects history
  -- The last reset is an exec: the mappings since then.
  cleared : (pid : ℤ) (effects earlier later : List Numbered) (index : ℕ) (history : List IndexedMapping)
      → effects ≡ earlier ++ at_index index (Clears pid) ∷ later → NoneResets pid later → history ≡ mappings_of pid later
      → IsHistory pid effects history
  -- The last reset is a fork: the mappings of the parent at that time, then those since then.
  forked : (pid parent : ℤ) (effects earlier later : List Numbered) (index : ℕ) (inherited history : List IndexedMapping)
      → effects ≡ earlier ++ at_index index (Copies pid parent) ∷ later → NoneResets pid later → IsHistory parent earlier inherited
      → history ≡ inherited ++ mappings_of pid later → IsHistory pid effects history

-- The mappings of the kernel after effects.
abbrev pub kernel_mapping_at : ℕ → SpaceEffect → List IndexedMapping
kernel_mapping_at index (MapsKernel mapping) = record { index = index; mapping = mapping } ∷ []
kernel_mapping_at index _ = []

abbrev pub kernel_mapping : Numbered → List IndexedMapping
kernel_mapping numbered = kernel_mapping_at numbered.index numbered.effect

abbrev pub kernel_mappings : List Numbered → List IndexedMapping
kernel_mappings effects = flat_map kernel_mapping effects

-- Whether an effect registers or removes a symbol of the kernel at an address.
abbrev pub changes_symbol : ℕ → SpaceEffect → Bool
changes_symbol address (Registers symbol) = mapping_contains address symbol
changes_symbol address (Removes start size) = contains start size address
changes_symbol address _ = false

abbrev pub changes_symbol_at : ℕ → Numbered → Bool
changes_symbol_at address numbered = changes_symbol address numbered.effect

abbrev pub registered_at : ℕ → SpaceEffect → Option IndexedMapping
registered_at index (Registers symbol) = Some (record { index = index; mapping = symbol })
registered_at index _ = None

abbrev pub registered : Option Numbered → Option IndexedMapping
registered None = None
registered (Some numbered) = registered_at numbered.index numbered.effect

-- The symbol of the kernel at an address after effects: the last one that was registered there, unless it was removed.
abbrev pub symbol_at : ℕ → List Numbered → Option IndexedMapping
symbol_at address effects = registered (last_that (changes_symbol_at address) effects)

-- What is found at an address of a process or of the kernel: the last mapping of the process, or the symbol of the kernel and
-- else its last mapping, that contains the address.
abbrev pub IsFoundIn : List Numbered → ℤ → ℕ → CallContext → Option IndexedMapping → Type 0
IsFoundIn effects pid address User found =
    ((history : List IndexedMapping) × IsHistory pid effects history × (found ≡ last_that (indexed_contains address) history))
IsFoundIn effects pid address Kernel found =
    found ≡ option_or (symbol_at address effects) (last_that (indexed_contains address) (kernel_mappings effects))
IsFoundIn effects pid address _ found = found ≡ None

abbrev pub IsFound : List SpaceEffect → ℤ → ℕ → CallContext → Option IndexedMapping → Type 0
IsFound effects pid address context found = IsFoundIn (numbered effects) pid address context found

-- The mapping that is found, without its index.
abbrev pub IsFoundMapping : List SpaceEffect → ℤ → ℕ → CallContext → Option MappingValue → Type 0
IsFoundMapping effects pid address context mapping = ((found : Option IndexedMapping) × IsFound effects pid address context found
    × (mapping ≡ option_map (λ (f : IndexedMapping). f.mapping) found))

-- The context of a CPU mode.
abbrev pub context_in : CpuMode → CallContext
context_in mode.Kernel = Kernel
context_in mode.User = User
context_in mode.Hypervisor = Hypervisor
context_in mode.GuestKernel = GuestKernel
context_in mode.GuestUser = GuestUser
context_in mode.Unknown = Unknown
