use Rattle.perfdata_chunks.proofs.attributes.find_attr.Given as goal

abbrev pub decreases-attributes : goal.decreases-attributes
decreases-attributes l = l.index
