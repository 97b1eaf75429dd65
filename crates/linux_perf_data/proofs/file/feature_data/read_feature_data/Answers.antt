use Rattle.std.proofs.Common.{◌∙◌, ◌++◌, ap, sym, take, get_or, rules, take-append-drop, drop-cons}
use Rattle.std.proofs.lemmas.List.{take_more}
use Rattle.std.proofs.lemmas.Result.{err_from_is_err_and}
use Rattle.perfdata_identifiers.specs.declared.features.Feature.{Feature}
use Rattle.perfdata_base.specs.declared.section.PerfFileSection.{PerfFileSection}
use Rattle.linux_perf_data.proofs.FeatureTables.{data_more, data_error, data_put}
use Rattle.linux_perf_data.proofs.file.feature_data.read_feature_data.Goals as goal

abbrev default : Feature × PerfFileSection
default = (record { 0 = 0 }, record { offset = 0; size = 0 })

pub returns-in_err-bytes-clause-reads : goal.returns-in_err-bytes-clause-reads
returns-in_err-bytes-clause-reads g c =
    let p = err_from_is_err_and c.from_residual.result c.from_residual.ensures.1 in
    let table = c.args.table.now in
    let i = c.sections.entry-index in
    let entry = get_or table i default in
    let split = sym (take-append-drop i table) ∙ ap (λ l. take i table ++ l) (drop-cons table i default c.sections-test.true) in
    rw (p.1, p.2) (data_error _ _ _ c.sections.sections c.sections.sections table i entry.0 entry.1 c.in_err-bytes.field-0.0 _ c.sections.invariant.so split c.in_err-bytes.ensures.reads)

pub sections-preserved : goal.sections-preserved
sections-preserved g c =
    let table = c.args.table.now in
    let i = c.sections.entry-index in
    let entry = get_or table i default in record {
      so = data_more _ _ _ c.sections.sections c.insert.new.self table i entry.0 entry.1 c.in_ok-bytes.bytes c.sections.invariant.so (take_more table i default c.sections-test.true) c.in_ok-bytes.ensures.reads
          (data_put c.sections.sections c.insert.new.self entry.0 c.in_ok-bytes.bytes c.in_ok-insert.ensures.updates.0);
      pauses = search rules;
      same_loan = search rules;
    }
