use Rattle.std.proofs.Common.{◌≡◌, true, rules, sym, ◌∙◌}
use Rattle.perfdata_sources.specs.Raw.{bytes_of}
use Rattle.perfdata_sources.specs.Endian.{number_in}
use Rattle.perfdata_identifiers.specs.ParseInfo.{is_set}
use Rattle.perfdata_events.specs.SampleRegisters.{registers, registers_of}
use Rattle.perfdata_events.proofs.Optional.{decodes_some}
use Rattle.perfdata_events.proofs.fields.registers.SampleRegisters.parse_interrupt.Goals as goal

pub returns-clause-decodes : goal.returns-clause-decodes
returns-clause-decodes c =
    let present : c.contains.result ≡ true = search rules in
    decodes_some (registers (number_in c.args.endian) c.args.masks.interrupt) registers_of (is_set c.args.sample_format.0 18) (bytes_of c.args.fields.now) (bytes_of c.parse.new.fields) (sym (c.contains.ensures tt) ∙ present) c.parse.result c.map.result c.parse.ensures.decodes c.map.ensures.cases
