use Rattle.linux_perf_data.proofs.RenameLemmas.{changed}
use Rattle.linux_perf_data.proofs.attributes.renames.changed_names.Goals as goal

pub returns : goal.returns
returns c = changed c.args.attributes.now c.args.old.now c.args.new.now c.new-renames.result.items c.push_changed.new.renames.items c.push_changed-2.new.renames.items c.new-renames.ensures.items c.in_ok-push_changed.ensures c.in_ok-push_changed-2.ensures
