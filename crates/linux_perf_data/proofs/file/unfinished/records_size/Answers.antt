use Rattle.std.proofs.Common.{◌∙◌, arith, inl, inr, refl, subst}
use Rattle.std.specs.Prelude.{Ok}
use Rattle.std.proofs.lemmas.Result.{err_from_is_err_and}
use Rattle.perfdata_sources.proofs.ReadErrors.{after_seek_more, after_seek_none}
use Rattle.linux_perf_data.specs.steps.UnfinishedFile.{ReadsStep}
use Rattle.linux_perf_data.proofs.UnfinishedRecords.{counts_none, counts_more, counts_partial, counts_invalid, counts_all, counts_error, length_later}
use Rattle.linux_perf_data.proofs.file.unfinished.records_size.Goals as goal

pub records-init : goal.records-init
records-init g c = record {
  from_start = omega arith;
  within = inr refl;
  seek = after_seek_none _ (g.met.C.PlacedSource.remaining_from_position _);
  so = counts_none c.args.endian c.args.start c.args.length (g.C.Source.state c.args.source.now);
  pauses = refl;
  same_loan = refl;
}

pub record_step-requires : goal.record_step-requires
record_step-requires g c = length_later c.args.length _ _ c.records.invariant.seek c.requires

pub returns-in_err-step-clause-reads : goal.returns-in_err-step-clause-reads
returns-in_err-step-clause-reads g c =
    let p = err_from_is_err_and c.from_residual.result c.from_residual.ensures.1 in
    rw (p.1, p.2) (counts_error c.args.endian _ _ _ c.args.start c.records.offset c.args.length _ c.records.invariant.seek c.in_err-step.ensures.reads)

pub returns-in-Partial-clause-reads : goal.returns-in-Partial-clause-reads
returns-in-Partial-clause-reads g c =
    let state = g.C.Source.state in
    let so = c.records.invariant in
    let read = subst (λ s. ReadsStep c.args.endian c.records.offset c.args.length (state c.records.source) (Ok s) (state c.record_step.new.source)) c.in-Partial.is c.in_ok-step.ensures.reads in
    counts_partial c.args.endian _ _ _ c.args.start c.records.offset c.args.length so.from_start so.seek so.so read

pub returns-in-Invalid-clause-reads : goal.returns-in-Invalid-clause-reads
returns-in-Invalid-clause-reads g c =
    let state = g.C.Source.state in
    let so = c.records.invariant in
    let read = subst (λ s. ReadsStep c.args.endian c.records.offset c.args.length (state c.records.source) (Ok s) (state c.record_step.new.source)) c.in-Invalid.is c.in_ok-step.ensures.reads in
    counts_invalid c.args.endian _ _ _ c.args.start c.records.offset c.args.length c.requires so.from_start so.seek so.so read

pub records-preserved : goal.records-preserved
records-preserved g c =
    let state = g.C.Source.state in
    let so = c.records.invariant in
    let from = so.from_start in
    let read = subst (λ s. ReadsStep c.args.endian c.records.offset c.args.length (state c.records.source) (Ok s) (state c.record_step.new.source)) c.in-Whole.is c.in_ok-step.ensures.reads in
    let fits = read.2 c.in-Whole.size refl in
    record {
      from_start = omega (arith, from);
      within = inl (let inside = fits.1 in omega (arith, inside));
      seek = after_seek_more _ _ _ so.seek read.0;
      so = counts_more c.args.endian _ _ _ c.args.start c.records.offset _ c.args.length c.in-Whole.size so.from_start so.seek so.so read refl;
      pauses = c.in_ok-step.ensures.pauses ∙ so.pauses;
      same_loan = c.in_ok-step.ensures.same_loan ∙ so.same_loan;
    }

pub returns-clause-reads : goal.returns-clause-reads
returns-clause-reads g c =
    let so = c.records.invariant in
    counts_all c.args.endian _ _ c.args.start c.records.offset c.args.length c.requires so.from_start c.records-test.false so.seek so.so
