use Rattle.std.proofs.Common.{List, ℕ, drop, ap, subst, ◌∙◌}
use Rattle.std.proofs.lemmas.List.{drop_min, take_rest}
use Rattle.code_symbols.specs.Kernel.{IsModuleName}
use Rattle.code_symbols.proofs.kallsyms.symbol_module.Goals as goal

pub returns : goal.returns
returns c =
    let names : List ℕ = c.names-names.result.now in
    let end : ℕ = c.args.symbol.now.name_end in
    subst (λ bytes. IsModuleName bytes c.read_module.result.now)
    (take_rest names c.min.result ∙ ap (λ k. drop k names) c.min.ensures ∙ drop_min end names ∙ ap (drop end) c.names-names.ensures)
    c.read_module.ensures
