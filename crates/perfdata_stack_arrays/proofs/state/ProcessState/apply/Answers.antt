use Rattle.std.proofs.Common.{◌∙◌}
use Rattle.std.specs.Option.{option_map}
use Rattle.perfdata_spaces.specs.Effects.{Applied, added, space_effect}
use Rattle.perfdata_spaces.specs.Mappings.{mapping_value}
use Rattle.perfdata_stack_arrays.proofs.NameSteps.{ranges_step}
use Rattle.perfdata_stack_arrays.proofs.StateSteps.{applies_record, mapping_added, one_added}
use Rattle.perfdata_stack_arrays.proofs.state.ProcessState.apply.Goals as goal

pub returns-clause-ok : goal.returns-clause-ok
returns-clause-ok c = λ before follows.
    let applied : Applied = record { misc = c.args.misc; event = c.args.event.now } in
    let effect = space_effect applied in
    let spaces = c.in_ok-index.ensures.ok before follows.spaces in
    let names = ranges_step before applied c.args.self.now.names c.apply-2.new.self c.args.self.now.counts.text follows.text follows.names c.in_ok-apply.ensures in
    let name = c.deref.ensures.value ∙ c.in_ok-name.ensures in
    let mapping = c.find_mapping-mapping.ensures ∙ mapping_added (added effect) c.args.self.now.spaces c.apply.new.self c.in_ok-index.index (one_added effect) c.in_ok-index.ensures.added in
    applies_record before applied c.args.self.now _ c.deref.result.now c.write_text-counts.result (option_map (λ m. mapping_value m.now) c.find_mapping-mapping.result) c.args.mappings.now c.args.text.now c.write_text-counts.new.text _ _ follows spaces names
    name c.write_text-counts.ensures.counts c.write_text-counts.ensures.written c.write_text-counts.ensures.short mapping c.write_mapping-self.ensures
