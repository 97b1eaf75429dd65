use Rattle.code_dwarf.proofs.candidates.Candidates.find.Given as goal

abbrev pub decreases-starts : goal.decreases-starts
decreases-starts l = l.at
