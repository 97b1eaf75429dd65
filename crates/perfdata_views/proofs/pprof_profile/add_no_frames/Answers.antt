use Rattle.std.proofs.Common.{◌≡◌, ℕ, List, [], ◌∷◌, codes, refl, rules, subst, sym}
use Rattle.std.proofs.lemmas.Str.{utf8_lossy_empty}
use Rattle.std.specs.Str.Lossy.{utf8_lossy}
use Rattle.perfdata_profile.specs.Samples.{AreRelated}
use Rattle.perfdata_views.specs.PprofSamples.{IsFunction, IsLine, no_frames, no_frames_line}
use Rattle.perfdata_views.proofs.PprofConverting.{location_is}
use Rattle.perfdata_views.proofs.PprofTables.{extends_same, extends_trans, location_extends, ok_of, on_ok_of}
use Rattle.pprof.specs.Builders.{tables_of}
use Rattle.pprof.specs.Tables.{Place}
use Rattle.pprof.specs.declared.profile.Line.{Line}
use Rattle.perfdata_views.proofs.pprof_profile.add_no_frames.Goals as goal

pub returns-clause-ok : goal.returns-clause-ok
returns-clause-ok c =
    let second = tables_of c.add_function.new.builder in
    let last = tables_of c.location.new.self in
    let line : Line = record { function_id = c.in_ok-function_id.function_id; line = 0 } in
    let items : c.push.new.self.items ≡ line ∷ [] = search rules in
    let function = subst (λ (file : List ℕ). IsFunction second line.function_id (utf8_lossy (codes "[no frames]")) file) (utf8_lossy_empty [] refl) c.in_ok-function_id.ensures.ok in
    let is : IsLine second line no_frames_line = record { function = function; number = refl } in
    let are = subst (λ (lines : List Line). AreRelated (IsLine second) lines (no_frames_line ∷ [])) (sym items) (is, tt) in
    let row : Place = record { mapping_id = 0; address = 0; lines = c.push.new.self.items } in
    ok_of c.location.result (λ id identifies. location_is second second last no_frames 0 id c.push.new.self.items refl (extends_same second) are identifies
    (location_extends second last row id identifies c.location.ensures.once c.location.ensures.rest)) c.location.ensures.ok

pub returns-clause-extends : goal.returns-clause-extends
returns-clause-extends c =
    let first = tables_of c.args.builder.now in
    let second = tables_of c.add_function.new.builder in
    let last = tables_of c.location.new.self in
    let row : Place = record { mapping_id = 0; address = 0; lines = c.push.new.self.items } in
    on_ok_of c.location.result (λ id identifies. extends_trans first second last c.in_ok-function_id.ensures.extends
    (location_extends second last row id identifies c.location.ensures.once c.location.ensures.rest)) c.location.ensures.ok
