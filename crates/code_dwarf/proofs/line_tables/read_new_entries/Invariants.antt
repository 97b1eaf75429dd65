use Rattle.code_dwarf.proofs.line_tables.read_new_entries.Given as goal

abbrev pub decreases-entries : goal.decreases-entries
decreases-entries l = l.left
