use Rattle.std.proofs.Common.{◌≡◌, Some, sym, ap, ◌∙◌}
use Rattle.std.specs.Prelude.{slice_get}
use Rattle.perfdata_sources.specs.Source.{all_bytes_of}
use Rattle.code_symbols.specs.ElfFiles.{header_of, sections_of, source_of}
use Rattle.code_symbols.specs.SymbolTables.{table_index}
use Rattle.code_symbols.proofs.TableLemmas.{result_of_file}
use Rattle.code_symbols.proofs.elf.ElfFile.symbols.Goals as goal

pub returns-clause-of_table : goal.returns-clause-of_table
returns-clause-of_table g c =
    let f = c.args.self.now in
    let index = c.in-Some.index in
    let section = c.in-Some-find_section.section in
    let index_is : table_index (sections_of f) ≡ Some index = cc (c.index_of_type-full.ensures, c.index_of_type.ensures, c.or.ensures, c.in-Some.is) in
    let table_is : slice_get (sections_of f) index ≡ Some section = ap (λ s. slice_get s index) (sym c.deref.ensures.value) ∙ sym c.find_section.ensures ∙ c.in-Some-find_section.is in
    result_of_file f c.args.segments.now index section c.in_ok-parts.parts (all_bytes_of (g.R.Source.state (source_of f)).position) _ _ c.symbols_of_parts.result
    (ap header_of c.in_ok-parts.ensures.same) (c.deref-2.ensures.value ∙ ap sections_of c.in_ok-parts.ensures.same) index_is table_is
    c.in_ok-parts.ensures.entries c.in_ok-parts.ensures.indices c.in_ok-parts.ensures.versions c.in_ok-parts.ensures.names c.in_ok-parts.ensures.text
    c.symbols_of_parts.ensures
