use Rattle.std.proofs.Common.{rules}
use Rattle.perfdata_profile.specs.Names.{names_of}
use Rattle.perfdata_views.proofs.Numbered.{numbers_pushed}
use Rattle.perfdata_views.proofs.entry_tree.push_text.Goals as goal

pub returns : goal.returns
returns c = λ start names has. numbers_pushed start (names_of c.args.texts.now) (names_of c.intern.new.self) names c.args.text.now c.number.result c.args.numbers.now.items c.push.new.self.items (search rules) c.in_ok-push.ensures.items has
