use Rattle.std.proofs.Common.{◌≢◌, drop, refl, ap, subst, inr}
use Rattle.std.specs.Prelude.{All}
use Rattle.std.proofs.lemmas.List.{take_rest}
use Rattle.code_symbols.proofs.MapLineLemmas.{has_byte}
use Rattle.code_symbols.proofs.kallsyms.read_module.Goals as goal

pub returns-in-None : goal.returns-in-None
returns-in-None c = inr (refl, λ other h. has_byte 93 other h.rest (drop 2 c.args.after.now) (ap (drop 2) h.is) (subst (All (λ b. b ≢ 93)) (take_rest c.args.after.now 2) c.in-None.ensures.none))
