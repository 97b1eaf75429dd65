use Rattle.perfdata_sections.proofs.Texts.{text_ends_at_nul, text_without_nul}
use Rattle.perfdata_sections.proofs.feature_sections.header_string.before_nul.Goals as goal

pub returns-in-Some : goal.returns-in-Some
returns-in-Some c = text_ends_at_nul c.args.bytes.now c.in-Some.nul_index c.in-Some.ensures.0.high c.in-Some.ensures.0.before c.in-Some.ensures.1

pub returns-in-None : goal.returns-in-None
returns-in-None c = text_without_nul c.args.bytes.now c.in-None.ensures
