use Rattle.std.proofs.Common.{refl, sym}
use Rattle.pprof.specs.Strings.{texts_of}
use Rattle.pprof.proofs.Growing.{grows_equal, grows_interned}
use Rattle.pprof.proofs.Interning.{absent_text, found_text}
use Rattle.pprof.proofs.Counting.{on_err}
use Rattle.pprof.proofs.strings.StringTable.intern_text.Goals as goal

pub returns-in-Some-clause-ok : goal.returns-in-Some-clause-ok
returns-in-Some-clause-ok c = found_text c.args.self.now.texts.keys c.in-Some.index c.args.text.now (sym c.in-Some.ensures.index)

pub returns-in-Some-clause-texts : goal.returns-in-Some-clause-texts
returns-in-Some-clause-texts c = grows_equal (texts_of c.args.self.now) (texts_of c.args.self.now) refl

pub returns-in-None-clause-texts : goal.returns-in-None-clause-texts
returns-in-None-clause-texts c = grows_interned c.add.result (texts_of c.args.self.now) (texts_of c.add.new.self) c.args.text.now c.add.ensures.ok c.add.ensures.err

pub returns-in-None-clause-new : goal.returns-in-None-clause-new
returns-in-None-clause-new c = on_err c.add.result (absent_text c.args.text.now c.args.self.now.texts.keys (sym c.in-None.ensures.found))
