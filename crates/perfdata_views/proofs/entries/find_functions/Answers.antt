use Rattle.perfdata_profile.specs.Profiles.{lists_of}
use Rattle.perfdata_profile.specs.Values.{stack_at}
use Rattle.perfdata_views.proofs.Naming.{named_result, names_result}
use Rattle.perfdata_views.proofs.entries.find_functions.Goals as goal

pub returns-clause-names : goal.returns-clause-names
returns-clause-names c =
    let lists = lists_of c.args.tables.now in
    names_result lists c.stack_functions.result c.find_stack.result.now (stack_at lists c.args.id) c.stack_functions.ensures c.find_stack.ensures.stack

pub returns-clause-within : goal.returns-clause-within
returns-clause-within c =
    named_result (lists_of c.args.tables.now) c.args.tables.now.within c.stack_functions.result c.find_stack.result.now c.stack_functions.ensures
