use Rattle.std.proofs.Common.{◌≡◌, rules, refl, length}
use Rattle.std.proofs.lemmas.List.{length-map}
use Rattle.std.proofs.lemmas.Result.{err_from_is_err_and}
use Rattle.perfdata_spaces.specs.Mappings.{mapping_value}
use Rattle.perfdata_spaces.specs.Spaces.{values_of}
use Rattle.perfdata_spaces.proofs.SpaceChanges.{keeps, values_added, kernel_mapped}
use Rattle.perfdata_spaces.proofs.spaces.Spaces.map_kernel.Goals as goal

pub returns-in_err-reserve : goal.returns-in_err-reserve
returns-in_err-reserve c =
    let p = err_from_is_err_and c.from_residual.result c.from_residual.ensures.1 in
    rw p.1 (keeps _ _ c.in_err-reserve.ensures.items (λ pid address. refl) refl refl)

pub returns-in_err-kernel : goal.returns-in_err-kernel
returns-in_err-kernel c =
    let p = err_from_is_err_and c.from_residual-in_err-kernel.result c.from_residual-in_err-kernel.ensures.1 in
    rw p.1 (keeps _ _ c.in_ok-reserve.ensures.items (λ pid address. refl) refl refl)

pub returns : goal.returns
returns c =
    let index : c.len-index.result ≡ length (values_of c.args.self.now) = rw (length-map c.args.self.now.mappings.items mapping_value) (search rules) in
    let values = values_added _ _ _ c.args.mapping c.in_ok-reserve.ensures.items c.push_reserved.ensures.items in
    kernel_mapped _ _ (mapping_value c.args.mapping) c.len-index.result c.new-range.result values index c.new-range.ensures refl refl c.in_ok-kernel.ensures
