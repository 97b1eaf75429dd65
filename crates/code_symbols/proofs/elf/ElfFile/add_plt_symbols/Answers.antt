use Rattle.std.proofs.Common.{ap}
use Rattle.std.specs.Prelude.{codes}
use Rattle.code_symbols.specs.ElfFiles.{header_of, section_names_of, sections_of}
use Rattle.code_symbols.proofs.PltFileLemmas.{plt_of_file, same_code}
use Rattle.code_symbols.proofs.elf.ElfFile.add_plt_symbols.Goals as goal

pub returns-clause-adds : goal.returns-clause-adds
returns-clause-adds g c =
    let f = c.args.self.now in
    let now = c.read_plt_parts.new.self in
    let same = c.in_ok-parts.ensures.same in
    let are = rw c.in-Some.is at c.in_ok-parts.ensures.parts in
    plt_of_file f _ (header_of now) c.in-Some.parts c.code_of_name-plt.result c.code_of_name-second.result c.args.symbols.now c.add_plt_of_parts.new.symbols (ap header_of same) are
    (same_code f (section_names_of now) (sections_of now) (codes ".plt") c.code_of_name-plt.result (ap section_names_of same) (ap sections_of same) c.code_of_name-plt.ensures)
    (same_code f (section_names_of now) (sections_of now) (codes ".plt.sec") c.code_of_name-second.result (ap section_names_of same) (ap sections_of same) c.code_of_name-second.ensures)
    c.add_plt_of_parts.ensures
