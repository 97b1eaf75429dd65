use Rattle.linux_perf_data.proofs.file.opening.read_attr_section.Goals as goal

pub returns-in-LittleEndian-clause-reads : goal.returns-in-LittleEndian-clause-reads
returns-in-LittleEndian-clause-reads g c = rw (c.in-LittleEndian.is) (c.parse_attr_section_from.ensures.reads)

pub returns-in-BigEndian-clause-reads : goal.returns-in-BigEndian-clause-reads
returns-in-BigEndian-clause-reads g c = rw (c.in-BigEndian.is) (c.parse_attr_section_from-in-BigEndian.ensures.reads)
