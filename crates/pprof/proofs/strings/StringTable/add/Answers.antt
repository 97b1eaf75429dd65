use Rattle.pprof.proofs.Interning.{insertion, interned}
use Rattle.pprof.proofs.strings.StringTable.add.Goals as goal

pub invariant_of-self : goal.invariant_of-self
invariant_of-self c = record { strings = insertion c.insert_full.result c.args.self.now.texts.keys c.insert_full.new.self.keys c.in_ok-text.text c.args.self.now.strings c.insert_full.ensures.keys c.insert_full.ensures.err }

pub returns-clause-ok : goal.returns-clause-ok
returns-clause-ok c =
    let stored = c.in_ok-index.ensures.stored in
    interned c.args.self.now.texts.keys c.insert_full.new.self.keys c.in_ok-text.text stored.0 c.in_ok-index.index c.args.text.now
    c.in_ok-text.ensures.ok stored.1 stored.2 c.in_ok-index.ensures.keys
