use Rattle.linux_perf_data.proofs.LateMetadataLemmas.{found_all, found_changed}
use Rattle.linux_perf_data.proofs.perf_file.PerfFile.find_renames.Goals as goal

pub returns-in-None : goal.returns-in-None
returns-in-None c = found_all c.args.self.now c.args.table.now c.deref.result.now c.all_names.result c.deref.ensures.value c.all_names.ensures

pub returns : goal.returns
returns c = found_changed c.args.self.now c.in-Some.old c.args.table.now c.deref-2.result.now c.changed_names.result c.deref-2.ensures.value c.in-Some.is c.changed_names.ensures
