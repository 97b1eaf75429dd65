use Rattle.dewikura.proofs.dewikura_decompress.Goals as goal

pub returns-clause-plain : goal.returns-clause-plain
returns-clause-plain c = (c.decompress_recording-decompressed.result.status, c.code.ensures, c.decompress_recording-decompressed.ensures.plain)
