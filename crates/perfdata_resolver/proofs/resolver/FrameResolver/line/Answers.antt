use Rattle.std.proofs.lemmas.Option.{slice_get_within}
use Rattle.perfdata_profile.specs.Names.{names_of, number_of}
use Rattle.perfdata_profile.proofs.Growing.{grows_trans, within_kept}
use Rattle.perfdata_resolver.proofs.resolver.FrameResolver.line.Goals as goal

pub returns-clause-grows : goal.returns-clause-grows
returns-clause-grows c = grows_trans (names_of c.args.names.now) (names_of c.function.new.names) (names_of c.source_file.new.names) c.function.ensures.grows c.source_file.ensures.grows

pub returns-clause-named : goal.returns-clause-named
returns-clause-named c =
    let first = names_of c.function.new.names in
    let second = names_of c.source_file.new.names in
    let function = c.in_ok-function.ensures.named in
    let file = c.in_ok-file.ensures.named in
    let there = slice_get_within first (number_of c.in_ok-function.function) function.name function.at in
    (within_kept first second c.source_file.ensures.grows (number_of c.in_ok-function.function) there, slice_get_within second (number_of c.in_ok-file.file) file.name file.at)
