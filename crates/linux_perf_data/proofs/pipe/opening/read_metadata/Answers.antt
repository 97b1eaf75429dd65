use Rattle.std.proofs.Common.{◌∙◌, refl}
use Rattle.std.proofs.lemmas.Result.{err_from_is_err_and}
use Rattle.linux_perf_data.proofs.PipeMetadataRuns.{so_none, so_more, so_ended, so_error}
use Rattle.linux_perf_data.proofs.pipe.opening.read_metadata.Goals as goal

pub records-init : goal.records-init
records-init g c = record { so = so_none c.args.endian (g.R.Source.state c.args.source.now) c.new-metadata.result (c.new-metadata.ensures c.args.endian); pauses = refl; same_loan = refl }

pub records-preserved : goal.records-preserved
records-preserved g c =
    let read = rw c.in-Record.is at c.in_ok-end.ensures.reads in record {
      so = so_more c.args.endian (g.R.Source.state c.args.source.now) (g.R.Source.state c.records.source) (g.R.Source.state c.read_next.new.source) c.records.metadata c.read_next.new.metadata c.records.offset c.in-Record.end c.records.invariant.so read;
      pauses = (rw c.in-Record.is at c.in_ok-end.ensures.pauses) ∙ c.records.invariant.pauses;
      same_loan = c.read_next.ensures.same_loan ∙ c.records.invariant.same_loan;
    }

pub returns-in-End-clause-reads : goal.returns-in-End-clause-reads
returns-in-End-clause-reads g c =
    let read = rw c.in-End.is at c.in_ok-end.ensures.reads in
    so_ended c.args.endian (g.R.Source.state c.args.source.now) (g.R.Source.state c.records.source) (g.R.Source.state c.read_next.new.source) c.records.metadata c.read_next.new.metadata c.records.offset c.in-End.pending_header c.records.invariant.so read

pub returns-in_err-end-clause-reads : goal.returns-in_err-end-clause-reads
returns-in_err-end-clause-reads g c =
    let p = err_from_is_err_and c.from_residual.result c.from_residual.ensures.1 in
    rw (p.1, p.2) (so_error c.args.endian (g.R.Source.state c.args.source.now) (g.R.Source.state c.records.source) (g.R.Source.state c.read_next.new.source) c.records.metadata c.records.offset _ c.records.invariant.so c.in_err-end.ensures.reads)
