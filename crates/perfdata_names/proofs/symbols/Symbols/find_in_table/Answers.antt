use Rattle.code_files.specs.MappedFile.{files_of}
use Rattle.perfdata_names.proofs.FoundSymbols.{symbol_found}
use Rattle.perfdata_names.proofs.symbols.Symbols.find_in_table.Goals as goal

pub returns : goal.returns
returns c = symbol_found (files_of c.args.files.now) c.args.frame.now c.args.table c.in_ok-view.view c.in_ok-mapping.mapping c.lookup_address.result c.in_ok-index.index
    c.with_name.result c.in_ok-mapping.was c.in_ok-view.ensures.some c.lookup_address.ensures c.in_ok-index.ensures c.with_name.ensures
