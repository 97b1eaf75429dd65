use Rattle.std.proofs.Common.{subst}
use Rattle.perfdata_sections.specs.NumberSections.{compression_of}
use Rattle.perfdata_sections.specs.ParsedPart.{ParsesPart}
use Rattle.perfdata_sources.proofs.Numbers.{same_number}
use Rattle.perfdata_sections.proofs.feature_sections.number_sections.CompressionInfo.parse_from.Goals as goal

pub returns-clause-parses : goal.returns-clause-parses
returns-clause-parses g c =
    subst (λ number. ParsesPart 20 (compression_of number) (g.R.Source.state c.args.source.now) c.parse_with_endian.result (g.R.Source.state c.parse_with_endian.new.source)) (same_number g.T.ByteOrder.number_of c.ENDIAN.result _ c.ENDIAN.ensures g.met.T.FileOrder.reads_by) c.parse_with_endian.ensures.parses
