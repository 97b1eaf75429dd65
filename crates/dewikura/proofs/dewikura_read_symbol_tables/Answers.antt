use Rattle.std.proofs.Common.{subst}
use Rattle.perfdata_arrays.specs.SymbolTables.{ReadsSymbolTables}
use Rattle.dewikura.proofs.dewikura_read_symbol_tables.Goals as goal

pub returns : goal.returns
returns c = (
  c.symbol_tables-outcome.result.status,
  c.code.ensures,
  subst (λ e. ReadsSymbolTables c.args.feature e c.args.section.now (record { files = c.args.files.now; symbols = c.args.symbols.now; names = c.args.names.now; offsets = c.args.offsets.now }) c.symbol_tables-outcome.result (record { files = c.symbol_tables-outcome.new.files; symbols = c.symbol_tables-outcome.new.symbols; names = c.symbol_tables-outcome.new.names; offsets = c.symbol_tables-outcome.new.offsets })) c.endian_from_flag-endian.ensures c.symbol_tables-outcome.ensures,
)
