use Rattle.std.proofs.Common.{rules, ◌≡◌, of_z, to_z, w32}
use Rattle.std.proofs.lemmas.Int.{to_z-of_z}
use Rattle.std.specs.Option.{option_map}
use Rattle.perfdata_profile.specs.Values.{lists_in}
use Rattle.perfdata_profile.proofs.Building.{has_thread}
use Rattle.perfdata_profile.proofs.builder.sample_thread.Goals as goal

pub returns-clause-ok : goal.returns-clause-ok
returns-clause-ok g c = λ before follows.
    let tables = c.args.locator.now.tables in
    let tid : to_z w32 (of_z w32 c.args.task.tid) ≡ c.args.task.tid = to_z-of_z w32 c.args.task.tid (search rules) in
    has_thread g.R.Resolver.meaning (lists_in c.thread.new.names tables.mappings tables.lines tables.locations tables.stacks) c.args.thread_ids before c.args.task (record { name = c.in_ok-name.name; pid = c.pid.result; tid = c.tid.result }) (option_map (λ name. name.now) c.comm.result) (rw tid at (c.comm.ensures before follows)) c.in_ok-name.ensures.named c.pid.ensures c.tid.ensures
