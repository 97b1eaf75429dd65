use Rattle.perfdata_arrays.proofs.decompressing.decompress_recording.Goals as goal

pub returns-clause-plain : goal.returns-clause-plain
returns-clause-plain c = (c.of_start.result, c.of_start.ensures.kind, c.write_kind.ensures.plain)
