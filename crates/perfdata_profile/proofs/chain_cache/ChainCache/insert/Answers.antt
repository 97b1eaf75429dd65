use Rattle.std.proofs.Common.{rules, ◌≡◌, of_z, to_z, w32}
use Rattle.std.proofs.lemmas.Int.{to_z-of_z}
use Rattle.perfdata_profile.specs.Chains.{ChainValue}
use Rattle.perfdata_profile.proofs.Chains.{chain_added_to, no_chain_added}
use Rattle.perfdata_profile.proofs.Counting.{on_ok_map}
use Rattle.perfdata_profile.proofs.chain_cache.ChainCache.insert.Goals as goal

pub returns-then-not-branch : goal.returns-then-not-branch
returns-then-not-branch c = no_chain_added c.args.self.now c.is_repeated.new.self (record { pid = c.args.pid; frames = c.args.frames.now; id = c.args.id }) c.in_ok-is_repeated.ensures

pub returns : goal.returns
returns c =
    let pid : to_z w32 (of_z w32 c.args.pid) ≡ c.args.pid = to_z-of_z w32 c.args.pid (search rules) in
    let chain : ChainValue = record { pid = c.args.pid; frames = c.args.frames.now; id = c.args.id } in
    on_ok_map c.push.result (rw pid at c.push.ensures) (λ adds. chain_added_to c.args.self.now c.is_repeated.new.self c.make_space.new.self c.set_slot.new.self c.push.new.self chain c.in_ok-is_repeated.ensures c.make_space.ensures c.set_slot.ensures adds)
