use Rattle.perfdata_profile.specs.Names.{names_of}
use Rattle.perfdata_profile.proofs.Growing.{grows_same, grows_trans, named_kept}
use Rattle.perfdata_resolver.proofs.Naming.{named_push}
use Rattle.perfdata_resolver.proofs.resolver.FrameResolver.push_inlined.Goals as goal

pub inlined-init : goal.inlined-init
inlined-init c = (grows_same (names_of c.args.names.now), λ are. are)

pub inlined-preserved : goal.inlined-preserved
inlined-preserved c =
    let first = names_of c.args.names.now in
    let old = names_of c.inlined.names in
    let new = names_of c.line.new.names in (
      grows_trans first old new c.inlined.invariant.0 c.line.ensures.grows,
      λ are. named_push new c.inlined.lines.items c.push.new.self.items c.in_ok-line.line c.in_ok-push.ensures.items (named_kept old new c.line.ensures.grows c.inlined.lines.items (c.inlined.invariant.1 are)) c.in_ok-line.ensures.named,
    )
