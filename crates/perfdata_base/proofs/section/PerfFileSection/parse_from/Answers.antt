use Rattle.std.proofs.Common.{rules, subst, Ok}
use Rattle.perfdata_base.specs.Section.{ParsesSectionEntry}
use Rattle.perfdata_sources.proofs.Numbers.{same_number}
use Rattle.perfdata_base.proofs.section.PerfFileSection.parse_from.Goals as goal

pub returns-clause-parses : goal.returns-clause-parses
returns-clause-parses g c =
    let own = c.ENDIAN.result in
    subst (λ number. ParsesSectionEntry number (g.R.Source.state c.args.source.now) (Ok c.section_entry.result) (g.R.Source.state c.read_exact.new.source)) (same_number g.T.ByteOrder.number_of own _ c.ENDIAN.ensures g.met.T.FileOrder.reads_by) (search rules)
