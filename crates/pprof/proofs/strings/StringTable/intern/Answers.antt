use Rattle.std.proofs.Common.{◌≡◌, ◌∙◌, ℕ, List, subst, sym}
use Rattle.std.proofs.lemmas.Str.{utf8_lossy-IsUtf8}
use Rattle.std.specs.Str.Lossy.{utf8_lossy}
use Rattle.pprof.specs.Rows.{Interns}
use Rattle.pprof.specs.Strings.{texts_of}
use Rattle.pprof.proofs.Growing.{if_ok}
use Rattle.pprof.proofs.Interning.{insertion, interned}
use Rattle.pprof.proofs.strings.StringTable.intern.Goals as goal

pub invariant_of-self : goal.invariant_of-self
invariant_of-self c = record { strings = insertion c.insert_full.result c.args.self.now.texts.keys c.insert_full.new.self.keys c.in_ok-text.text c.args.self.now.strings c.insert_full.ensures.keys c.insert_full.ensures.err }

pub returns-clause-ok : goal.returns-clause-ok
returns-clause-ok c =
    let stored = c.in_ok-index.ensures.stored in
    interned c.args.self.now.texts.keys c.insert_full.new.self.keys c.in_ok-text.text stored.0 c.in_ok-index.index (utf8_lossy c.args.text.now)
    c.in_ok-text.ensures.lossy stored.1 stored.2 c.in_ok-index.ensures.keys

pub returns-in-Ok-clause-ok : goal.returns-in-Ok-clause-ok
returns-in-Ok-clause-ok c =
    let same : utf8_lossy c.args.text.now ≡ c.args.text.now = utf8_lossy-IsUtf8 c.args.text.now c.in-Ok.ensures.cases.1 in
    if_ok c.intern_text.result (λ index interns. subst (λ (t : List ℕ). Interns (texts_of c.args.self.now) t index (texts_of c.intern_text.new.self)) (c.in-Ok.ensures.cases.0 ∙ sym same) interns) c.intern_text.ensures.ok
