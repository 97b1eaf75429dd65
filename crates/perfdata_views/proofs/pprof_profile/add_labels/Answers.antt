use Rattle.perfdata_profile.specs.Profiles.{lists_of}
use Rattle.perfdata_profile.specs.Values.{thread_key}
use Rattle.perfdata_views.specs.PprofSamples.{shown_name}
use Rattle.perfdata_views.proofs.PprofConverting.{labels_are}
use Rattle.perfdata_views.proofs.PprofTables.{extends_trans, ok_of, on_ok_of, text_extends, text_kept}
use Rattle.pprof.specs.Builders.{tables_of}
use Rattle.perfdata_views.proofs.pprof_profile.add_labels.Goals as goal

pub returns-clause-ok : goal.returns-clause-ok
returns-clause-ok c =
    let second = tables_of c.add_name.new.builder in
    let last = tables_of c.labels.new.self in
    let more = text_extends second last c.labels.ensures.texts c.labels.ensures.once c.labels.ensures.rest in
    let thread = thread_key (lists_of c.args.tables.now) c.args.thread in
    let named = text_kept second last more.keeps c.in_ok-name.name (shown_name thread.name) c.in_ok-name.ensures.ok in
    ok_of c.labels.result (λ labels has. labels_are last c.in_ok-name.name thread labels.items c.labels.ensures.once named has) c.labels.ensures.ok

pub returns-clause-extends : goal.returns-clause-extends
returns-clause-extends c =
    let second = tables_of c.add_name.new.builder in
    let last = tables_of c.labels.new.self in
    let more = text_extends second last c.labels.ensures.texts c.labels.ensures.once c.labels.ensures.rest in
    on_ok_of c.labels.result (λ labels has. extends_trans (tables_of c.args.builder.now) second last c.in_ok-name.ensures.extends more) c.labels.ensures.ok
