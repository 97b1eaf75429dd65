use Rattle.std.proofs.Common.{◌≡◌, ◌+◌, ◌++◌, ◌∷◌, [], ◌∙◌, ap, sym, subst, arith, take, take_all, get_or}
use Rattle.std.proofs.lemmas.List.{take_more, map_push}
use Rattle.perfdata_identifiers.specs.declared.features.Feature.{Feature}
use Rattle.perfdata_base.specs.declared.section.PerfFileSection.{PerfFileSection}
use Rattle.linux_perf_data.specs.steps.FeatureData.{feature_entries_of}
use Rattle.linux_perf_data.specs.steps.UnfinishedFile.{ContainsFeatures}
use Rattle.linux_perf_data.proofs.UnfinishedSections.{features_more}
use Rattle.linux_perf_data.proofs.file.unfinished.present_features.Goals as goal

abbrev default : Feature × PerfFileSection
default = (record { 0 = 0 }, record { offset = 0; size = 0 })

pub entries-preserved : goal.entries-preserved
entries-preserved c =
    let table = c.args.table.now in
    let i = c.entries.entry-index in
    let entry = get_or table i default in
    let grown : feature_entries_of (take (i + 1) table) ≡ feature_entries_of (take i table) ++ (entry.0.0, entry.1) ∷ [] =
    ap feature_entries_of (take_more table i default c.entries-test.true) ∙ map_push (λ e. (e.0.0, e.1)) (take i table) entry in
    record { so = subst (λ es. ContainsFeatures es c.insert.new.self) (sym grown) (features_more (feature_entries_of (take i table)) entry.0.0 entry.1 c.entries.features c.insert.new.self c.entries.invariant.so c.insert.ensures) }

pub returns : goal.returns
returns c = subst (λ l. ContainsFeatures (feature_entries_of l) c.entries.features) (take_all c.entries.entry-index c.args.table.now (let past = c.entries-test.false in omega (arith, past))) c.entries.invariant.so
