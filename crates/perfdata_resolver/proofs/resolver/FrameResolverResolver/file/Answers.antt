use Rattle.perfdata_profile.specs.Names.{names_of, number_of}
use Rattle.perfdata_profile.proofs.Growing.{at_kept}
use Rattle.perfdata_resolver.proofs.resolver.FrameResolverResolver.file.Goals as goal

pub returns-clause-named : goal.returns-clause-named
returns-clause-named c =
    let path = c.in_ok-path.ensures.named in
    let build_id = c.in_ok-build_id.ensures.named in
    record {
      path = path.name;
      build_id = build_id.name;
      path_at = at_kept (names_of c.intern.new.names) (names_of c.intern-2.new.names) c.intern-2.ensures.grows (number_of c.in_ok-path.path) path.name path.at;
      build_id_at = build_id.at;
      are = tt;
    }
