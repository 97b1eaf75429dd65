use Rattle.perfdata_simpleperf.specs.Protobuf.Groups.{no_items}
use Rattle.perfdata_simpleperf.proofs.Decoding.GroupSteps.{items_then, item_shorter}
use Rattle.perfdata_simpleperf.proofs.protobuf.groups.skip_group.Goals as goal

pub items-init : goal.items-init
items-init c = rw (c.push.ensures.items, c.new-open_groups.ensures) no_items

pub items-preserved : goal.items-preserved
items-preserved c = items_then c.items.invariant c.in_ok-rest.ensures.on_ok

pub items-smaller : goal.items-smaller
items-smaller c = item_shorter c.in_ok-rest.ensures.on_ok
