-- What calls leave in address spaces.
use Rattle.std.proofs.Common.{◌≡◌, ◌∙◌, ◌<◌, ◌^◌, ◌&&◌, ap, ℕ, ℤ, List, [], ◌∷◌, ◌++◌, length, map, Option, Some, cond}
use Rattle.std.proofs.lemmas.List.{map_push}
use Rattle.perfdata_spaces.specs.Effects.{Maps, MapsKernel, Registers}
use Rattle.perfdata_spaces.specs.Mappings.{MappingValue, mapping_value, mapping_contains}
use Rattle.perfdata_spaces.specs.Processes.{value_in, is_same}
use Rattle.perfdata_spaces.specs.steps.Processes.{KeepsValues}
use Rattle.perfdata_spaces.specs.Ranges.{value_of}
use Rattle.perfdata_spaces.specs.steps.Ranges.{covers}
use Rattle.perfdata_spaces.specs.Spaces.{values_of}
use Rattle.perfdata_spaces.specs.steps.Spaces.{Applies, KeepsSpaces}
use Rattle.perfdata_spaces.specs.declared.ranges.AddressRange.{AddressRange}
use Rattle.perfdata_spaces.specs.declared.mapping.Mapping.{Mapping}
use Rattle.perfdata_spaces.specs.declared.spaces.Spaces.{Spaces}

pub values_push : (old new : List Mapping) (mapping : Mapping) → new ≡ old ++ mapping ∷ [] → map mapping_value new ≡ map mapping_value old ++ mapping_value mapping ∷ []
values_push old new mapping is = ap (map mapping_value) is ∙ map_push mapping_value old mapping

-- Nothing was mapped.
pub keeps : (old new : Spaces) → new.mappings.items ≡ old.mappings.items → KeepsValues old.processes new.processes → new.kernel ≡ old.kernel → new.symbols ≡ old.symbols → KeepsSpaces old new
keeps old new mappings processes kernel symbols = record {
  mappings = ap (map mapping_value) mappings;
  processes = processes;
  kernel = λ address. ap (λ space. value_of space address) kernel;
  symbols = λ address. ap (λ space. value_of space address) symbols;
}

-- A mapping was added after those that were there.
pub values_added : (old reserved new : List Mapping) (mapping : Mapping) → reserved ≡ old → new ≡ reserved ++ mapping ∷ [] → map mapping_value new ≡ map mapping_value old ++ mapping_value mapping ∷ []
values_added old reserved new mapping same is = values_push old new mapping (is ∙ ap (λ ms. ms ++ mapping ∷ []) same)

module _ (old new : Spaces) (mapping : MappingValue) (index : ℕ) (range : Option AddressRange) (values : values_of new ≡ values_of old ++ mapping ∷ []) (last : index ≡ length (values_of old))
    (covered : (address : ℕ) → covers range address ≡ mapping_contains address mapping) where
  -- What a range has, written as what the mapping has.
  as_mapping : (address : ℕ) (before : Option ℕ) → cond (covers range address) (Some index) before ≡ cond (mapping_contains address mapping) (Some (length (values_of old))) before
  as_mapping address before = ap (λ is. cond is (Some index) before) (covered address) ∙ ap (λ next. cond (mapping_contains address mapping) (Some next) before) last

  pub process_mapped : (pid : ℤ) → new.kernel ≡ old.kernel → new.symbols ≡ old.symbols
      → ((other : ℤ) (address : ℕ) → address < 2 ^ 64 → value_in new.processes other address ≡ cond (is_same pid other && covers range address) (Some index) (value_in old.processes other address))
      → Applies (Maps pid mapping) old (Some index) new
  process_mapped pid kernel symbols set = record {
    index_is = ap (λ next. Some next) last;
    mappings = values;
    processes = λ other address fits.
        set other address fits
        ∙ ap (λ is. cond (is_same pid other && is) (Some index) (value_in old.processes other address)) (covered address)
        ∙ ap (λ next. cond (is_same pid other && mapping_contains address mapping) (Some next) (value_in old.processes other address)) last;
    kernel = λ address fits. ap (λ space. value_of space address) kernel;
    symbols = λ address fits. ap (λ space. value_of space address) symbols;
  }

  pub kernel_mapped : new.processes ≡ old.processes → new.symbols ≡ old.symbols
      → ((address : ℕ) → address < 2 ^ 64 → value_of new.kernel address ≡ cond (covers range address) (Some index) (value_of old.kernel address))
      → Applies (MapsKernel mapping) old (Some index) new
  kernel_mapped processes symbols set = record {
    index_is = ap (λ next. Some next) last;
    mappings = values;
    processes = λ pid address fits. ap (λ ps. value_in ps pid address) processes;
    kernel = λ address fits. set address fits ∙ as_mapping address (value_of old.kernel address);
    symbols = λ address fits. ap (λ space. value_of space address) symbols;
  }

  pub symbol_registered : new.processes ≡ old.processes → new.kernel ≡ old.kernel
      → ((address : ℕ) → address < 2 ^ 64 → value_of new.symbols address ≡ cond (covers range address) (Some index) (value_of old.symbols address))
      → Applies (Registers mapping) old (Some index) new
  symbol_registered processes kernel set = record {
    index_is = ap (λ next. Some next) last;
    mappings = values;
    processes = λ pid address fits. ap (λ ps. value_in ps pid address) processes;
    kernel = λ address fits. ap (λ space. value_of space address) kernel;
    symbols = λ address fits. set address fits ∙ as_mapping address (value_of old.symbols address);
  }
