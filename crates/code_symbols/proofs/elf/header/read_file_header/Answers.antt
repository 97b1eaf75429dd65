use Rattle.std.proofs.Common.{rules}
use Rattle.code_symbols.proofs.HeaderLemmas.{header_read}
use Rattle.code_symbols.proofs.elf.header.read_file_header.Goals as goal

pub returns-clause-header : goal.returns-clause-header
returns-clause-header g c =
    header_read (g.R.Source.state c.args.source.now) (g.R.Source.state c.seek_to.new.self) (g.R.Source.state c.fill.new.source) c.in_ok-seek_to.field-0 c.in_ok-count.count
    c.fill.new.buf _ c.parse_file_header.result c.in_ok-seek_to.ensures.seeks c.in_ok-count.ensures.fills (search rules) c.parse_file_header.ensures
