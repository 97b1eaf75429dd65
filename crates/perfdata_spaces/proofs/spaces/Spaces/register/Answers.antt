use Rattle.std.proofs.Common.{◌≡◌, rules, refl, length}
use Rattle.std.proofs.lemmas.List.{length-map}
use Rattle.std.proofs.lemmas.Result.{err_from_is_err_and}
use Rattle.perfdata_spaces.specs.Mappings.{mapping_value}
use Rattle.perfdata_spaces.specs.Spaces.{values_of}
use Rattle.perfdata_spaces.proofs.SpaceChanges.{keeps, values_added, symbol_registered}
use Rattle.perfdata_spaces.proofs.spaces.Spaces.register.Goals as goal

pub returns-in_err-reserve : goal.returns-in_err-reserve
returns-in_err-reserve c =
    let p = err_from_is_err_and c.from_residual.result c.from_residual.ensures.1 in
    rw p.1 (keeps _ _ c.in_err-reserve.ensures.items (λ pid address. refl) refl refl)

pub returns-in_err-symbols : goal.returns-in_err-symbols
returns-in_err-symbols c =
    let p = err_from_is_err_and c.from_residual-in_err-symbols.result c.from_residual-in_err-symbols.ensures.1 in
    rw p.1 (keeps _ _ c.in_ok-reserve.ensures.items (λ pid address. refl) refl refl)

pub returns : goal.returns
returns c =
    let index : c.len-index.result ≡ length (values_of c.args.self.now) = rw (length-map c.args.self.now.mappings.items mapping_value) (search rules) in
    let values = values_added _ _ _ c.args.symbol c.in_ok-reserve.ensures.items c.push_reserved.ensures.items in
    symbol_registered _ _ (mapping_value c.args.symbol) c.len-index.result c.new-range.result values index c.new-range.ensures refl refl c.in_ok-symbols.ensures
