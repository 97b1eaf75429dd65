-- Steps of private functions: the address spaces of processes and of the kernel, as effects change them.
use Rattle.std.specs.Prelude.{◌≡◌, ℕ, ℤ, ◌<◌, ◌^◌, ◌&&◌, ◌++◌, length, Option, None, Some, Result, Ok, Err, if◌then◌else◌}
use Rattle.std.specs.declared.alloc.AllocError.{AllocError}
use Rattle.std.specs.Option.{option_or}
use Rattle.perfdata_events.specs.declared.fields.call_chain.CallContext.{CallContext}
use Rattle.perfdata_events.specs.declared.fields.call_chain.CallContext.TheVariants.{Kernel, User}
use Rattle.perfdata_spaces.specs.Effects.{SpaceEffect, Maps, MapsKernel, Registers, Removes, Copies, Clears, added}
use Rattle.perfdata_spaces.specs.Mappings.{mapping_contains}
use Rattle.perfdata_spaces.specs.Processes.{value_in, is_same}
use Rattle.perfdata_spaces.specs.Ranges.{value_of, contains}
use Rattle.perfdata_spaces.specs.declared.spaces.Spaces.{Spaces}
use Rattle.perfdata_spaces.specs.Spaces.{values_of, index_of_added}

-- The index of the mapping at an address.
abbrev pub index_at : Spaces → ℤ → ℕ → CallContext → Option ℕ
index_at spaces pid address User = value_in spaces.processes pid address
index_at spaces pid address Kernel = option_or (value_of spaces.symbols address) (value_of spaces.kernel address)
index_at spaces pid address _ = None

-- The index at an address of a process after an effect that adds its mapping at `next`. `index` is the one before.
abbrev pub process_after : SpaceEffect → ℕ → (ℤ → ℕ → Option ℕ) → ℤ → ℕ → Option ℕ
process_after (Maps owner mapping) next index pid address =
    if is_same owner pid && mapping_contains address mapping then Some next else index pid address
process_after (Copies child parent) next index pid address =
    if is_same child pid then index parent address else index pid address
process_after (Clears owner) next index pid address = if is_same owner pid then None else index pid address
process_after _ next index pid address = index pid address

abbrev pub kernel_after : SpaceEffect → ℕ → (ℕ → Option ℕ) → ℕ → Option ℕ
kernel_after (MapsKernel mapping) next index address =
    if mapping_contains address mapping then Some next else index address
kernel_after _ next index address = index address

abbrev pub symbol_after : SpaceEffect → ℕ → (ℕ → Option ℕ) → ℕ → Option ℕ
symbol_after (Registers mapping) next index address =
    if mapping_contains address mapping then Some next else index address
symbol_after (Removes start size) next index address = if contains start size address then None else index address
symbol_after _ next index address = index address

-- An effect was applied.
pub record Applies (effect : SpaceEffect) (old : Spaces) (index : Option ℕ) (new : Spaces) : Type 0 where
  pub index_is : index ≡ index_of_added (added effect) (length (values_of old))
  pub mappings : values_of new ≡ values_of old ++ added effect
  pub processes : (pid : ℤ) (address : ℕ) → address < 2 ^ 64 → value_in new.processes pid address
      ≡ process_after effect (length (values_of old)) (value_in old.processes) pid address
  pub kernel : (address : ℕ) → address < 2 ^ 64 → value_of new.kernel address
      ≡ kernel_after effect (length (values_of old)) (value_of old.kernel) address
  pub symbols : (address : ℕ) → address < 2 ^ 64 → value_of new.symbols address
      ≡ symbol_after effect (length (values_of old)) (value_of old.symbols) address

-- Nothing is mapped elsewhere than before.
pub record KeepsSpaces (old new : Spaces) : Type 0 where
  pub mappings : values_of new ≡ values_of old
  pub processes : (pid : ℤ) (address : ℕ) → value_in new.processes pid address ≡ value_in old.processes pid address
  pub kernel : (address : ℕ) → value_of new.kernel address ≡ value_of old.kernel address
  pub symbols : (address : ℕ) → value_of new.symbols address ≡ value_of old.symbols address

abbrev pub Changes : SpaceEffect → Spaces → Result (Option ℕ) AllocError → Spaces → Type 0
Changes effect old (Ok index) new = Applies effect old index new
Changes effect old (Err error) new = KeepsSpaces old new
