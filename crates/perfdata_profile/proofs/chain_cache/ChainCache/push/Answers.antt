use Rattle.std.proofs.Common.{rules, ◌≡◌, of_z, refl, to_z, w32}
use Rattle.std.proofs.lemmas.Int.{to_z-of_z}
use Rattle.perfdata_profile.specs.declared.chain_cache.Chain.{Chain}
use Rattle.perfdata_profile.proofs.Chains.{chain_added}
use Rattle.perfdata_profile.proofs.chain_cache.ChainCache.push.Goals as goal

pub returns : goal.returns
returns c =
    let old = c.args.self.now in
    let pid : to_z w32 (of_z w32 c.args.pid) ≡ c.args.pid = to_z-of_z w32 c.args.pid (search rules) in
    let chain : Chain = record { pid = c.args.pid; start = c.len-start.result; end = c.len-end.result; id = c.args.id } in
    chain_added old.frames.items c.extend_from_slice.new.self.items c.args.frames.now old.chains.items c.push.new.self.items chain old.ranges c.in_ok-extend_from_slice.ensures.items (rw pid at c.in_ok-push.ensures.items) (search rules) (search rules) c.args.pid c.args.id refl refl
