use Rattle.std.proofs.Common.{◌∙◌, ap, sym}
use Rattle.linux_perf_data.specs.steps.NameTable.{name_from_table}
use Rattle.linux_perf_data.proofs.FirstIdIndexes.{index_pushed}
use Rattle.linux_perf_data.proofs.NameTables.{kept_names_pushed}
use Rattle.linux_perf_data.proofs.perf_file.PerfFile.push_named.Goals as goal

pub invariant_of-self-clause-names_match_table : goal.invariant_of-self-clause-names_match_table
invariant_of-self-clause-names_match_table c =
    let file = c.args.self.now in
    let fits = c.requires.fits in
    let own = c.set_name.ensures.name ∙ fits.2 ∙ ap (name_from_table fits.0) (sym c.set_name.ensures.ids) in
    kept_names_pushed fits.0 file.name_table _ file.attributes.items c.push.new.self.items c.set_name.new.self fits.1 own c.push.ensures.items file.names_match_table

pub invariant_of-self-clause-first_ids_indexed : goal.invariant_of-self-clause-first_ids_indexed
invariant_of-self-clause-first_ids_indexed c = index_pushed c.args.self.now.first_id_index _ c.args.self.now.attributes.items c.push.new.self.items c.set_name.new.self c.push.ensures.items c.args.self.now.first_ids_indexed
