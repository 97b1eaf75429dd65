use Rattle.std.proofs.Common.{◌<◌, List, arith, get_or, length, rules, subst, sym, take}
use Rattle.std.proofs.lemmas.List.{take_all, take_more}
use Rattle.perfdata_profile.specs.Profiles.{lists_of}
use Rattle.perfdata_profile.specs.declared.lines.Line.{Line as ProfileLine}
use Rattle.perfdata_views.specs.steps.PprofSamples.{AddsLines}
use Rattle.perfdata_views.proofs.PprofConverting.{adds_line, adds_no_lines}
use Rattle.pprof.specs.Builders.{tables_of}
use Rattle.perfdata_views.proofs.pprof_profile.add_lines.Goals as goal

pub lines-init : goal.lines-init
lines-init c = adds_no_lines (lists_of c.args.tables.now) (tables_of c.args.builder.now) c.new-added.result.items (search rules)

pub lines-preserved : goal.lines-preserved
lines-preserved c =
    let lists = lists_of c.args.tables.now in
    let old = tables_of c.args.builder.now in
    let new = tables_of c.add_line.new.builder in
    let lines = c.args.lines.now in
    let first : ProfileLine = record { function = record { 0 = 0 }; file = record { 0 = 0 }; line = 0 } in
    let below : c.lines.line-index < length lines = omega arith in
    let next = adds_line lists old (tables_of c.lines.builder) new (take c.lines.line-index lines) (get_or lines c.lines.line-index first) c.lines.added.items c.push.new.self.items
    c.in_ok-add_line.field-0 c.lines.invariant c.in_ok-add_line.ensures.extends c.in_ok-add_line.ensures.ok c.in_ok-push.ensures.items in
    subst (λ (ls : List ProfileLine). AddsLines lists old ls c.push.new.self.items new) (sym (take_more lines c.lines.line-index first below)) next

pub returns : goal.returns
returns c = subst (λ (ls : List ProfileLine). AddsLines (lists_of c.args.tables.now) (tables_of c.args.builder.now) ls c.lines.added.items (tables_of c.lines.builder))
    (take_all c.lines.line-index c.args.lines.now (omega arith)) c.lines.invariant
