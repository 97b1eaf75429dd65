use Rattle.std.proofs.Common.{◌≡◌, ◌∙◌, ap, rules, sym, tests}
use Rattle.std.proofs.lemmas.Iterator.{YieldsList-from_slice}
use Rattle.std.proofs.lemmas.Iterator.Search.{any_from_yields_List}
use Rattle.std.specs.List.{list_any}
use Rattle.linux_perf_data.specs.PerfFile.{descriptions_of_file}
use Rattle.perfdata_stack_arrays.specs.HasTimes.{has_sample_id_all, has_times}
use Rattle.perfdata_stack_arrays.proofs.records.has_times.Goals as goal

pub returns-in-LittleEndian : goal.returns-in-LittleEndian
returns-in-LittleEndian c =
    let all = descriptions_of_file c.args.perf_file.now in
    let any : c.any.result ≡ list_any has_sample_id_all all =
    any_from_yields_List has_sample_id_all _ _ _ c.any.ensures.ran (YieldsList-from_slice all (c.iter.ensures.rest ∙ c.event_attributes.ensures.are)) (λ x b q k. search (rules, tests)) in
    any ∙ ap (λ order. has_times order all) (sym c.in-LittleEndian.is ∙ c.endian.ensures)
