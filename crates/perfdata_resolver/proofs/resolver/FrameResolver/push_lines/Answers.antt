use Rattle.std.proofs.Common.{rules, ◌≡◌, []}
use Rattle.perfdata_profile.specs.Names.{names_of}
use Rattle.perfdata_profile.specs.Values.{AreNamedIn}
use Rattle.perfdata_profile.proofs.Growing.{grows_trans, named_kept, none_at}
use Rattle.perfdata_resolver.proofs.Naming.{longer, named_push}
use Rattle.perfdata_resolver.proofs.resolver.FrameResolver.push_lines.Goals as goal

pub returns-clause-grows : goal.returns-clause-grows
returns-clause-grows c = grows_trans (names_of c.args.names.now) (names_of c.push_inlined.new.names) (names_of c.line.new.names) c.push_inlined.ensures.grows c.line.ensures.grows

pub returns-clause-lines : goal.returns-clause-lines
returns-clause-lines c is_fixed =
    let old = names_of c.push_inlined.new.names in
    let new = names_of c.line.new.names in
    let empty : c.clear.new.self.items ≡ [] = search rules in
    let none : AreNamedIn (names_of c.args.names.now) c.clear.new.self.items = λ index line at. absurd (none_at c.clear.new.self.items empty index line at) in
    let inlined = named_kept old new c.line.ensures.grows c.push_inlined.new.lines.items (c.in_ok-push_inlined.ensures.named none) in
    record {
      named = named_push new c.push_inlined.new.lines.items c.push.new.self.items c.in_ok-line.line c.in_ok-push.ensures.items inlined c.in_ok-line.ensures.named;
      some = longer c.push_inlined.new.lines.items c.push.new.self.items c.in_ok-line.line c.in_ok-push.ensures.items;
      are = tt;
      fixed = λ fixed other same. tt;
    }
