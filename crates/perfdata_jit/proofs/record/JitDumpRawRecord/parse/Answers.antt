use Rattle.perfdata_jit.proofs.record.JitDumpRawRecord.parse.Goals as goal

pub returns-in-3-clause-error : goal.returns-in-3-clause-error
returns-in-3-clause-error c = tt
