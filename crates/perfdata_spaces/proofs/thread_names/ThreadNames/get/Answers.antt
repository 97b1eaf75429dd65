use Rattle.std.proofs.Common.{◌∙◌, ap, w32, Some}
use Rattle.std.proofs.lemmas.Int.{to_z-of_z}
use Rattle.std.specs.Option.{option_map}
use Rattle.perfdata_spaces.specs.ThreadNames.{shared_bytes}
use Rattle.perfdata_spaces.proofs.thread_names.ThreadNames.get.Goals as goal

pub returns-in-Some : goal.returns-in-Some
returns-in-Some c =
    let found = rw (to_z-of_z w32 c.args.tid c.ranges.tid) at c.in-Some.ensures.value in
    ap (λ bytes. Some bytes) (c.as_slice.ensures.value ∙ ap (λ name. name.items) c.deref.ensures) ∙ ap (option_map shared_bytes) found

pub returns-in-None : goal.returns-in-None
returns-in-None c =
    let found = rw (to_z-of_z w32 c.args.tid c.ranges.tid) at c.in-None.ensures.value in
    ap (option_map shared_bytes) found
