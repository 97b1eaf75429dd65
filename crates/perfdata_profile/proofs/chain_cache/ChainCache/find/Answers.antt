use Rattle.std.proofs.Common.{rules, ◌≡◌, ◌∙◌, ap, refl, sym, slice_get, slice_range, FitsSigned, w32, Some}
use Rattle.std.proofs.lemmas.Option.{slice_get_read}
use Rattle.perfdata_profile.proofs.Chains.{chain_found, frames-Decides, same_pid}
use Rattle.perfdata_profile.proofs.chain_cache.ChainCache.find.Goals as goal

pub returns-then-eq : goal.returns-then-eq
returns-then-eq c =
    let chain = c.in_ok-chain.chain.now in
    let lookup = c.in_ok-chain.ensures.lookup in
    let at : slice_get c.args.self.now.chains.items c.in_ok-slot.slot.now.index ≡ Some chain = ap (λ l. slice_get l c.in_ok-slot.slot.now.index) (sym c.deref-2.ensures.value) ∙ slice_get_read c.deref-2.result.now _ c.in_ok-slot.slot.now.index chain refl lookup.3.0 lookup.1 in
    let frames : c.in_ok-kept.kept.now ≡ c.args.frames.now = (frames-Decides c.in_ok-kept.kept.now c.args.frames.now).0 (sym c.if-eq.ensures) in
    let range : c.in_ok-kept.kept.now ≡ slice_range c.args.self.now.frames.items chain.start chain.end = search rules in
    let first : FitsSigned w32 chain.pid = search rules in
    let second : FitsSigned w32 c.args.pid = search rules in
    chain_found c.args.self.now.frames.items c.args.frames.now c.in_ok-kept.kept.now c.args.self.now.chains.items c.in_ok-slot.slot.now.index chain c.args.pid at range frames (same_pid chain.pid c.args.pid first second c.if-chain-pid.true)
