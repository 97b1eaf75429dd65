-- The parts of a sample that is put into an event are in one slice each if its own are.
use Rattle.std.proofs.Common.{◌≡◌, sym, subst}
use Rattle.std.specs.Prelude.{Result, Ok, Err, IfOk}
use Rattle.std.specs.Result.{MatchResult, IsOkAnd}
use Rattle.std.specs.declared.io.Error.{Error}
use Rattle.perfdata_sources.specs.Raw.{IsSingle}
use Rattle.perfdata_sources.specs.declared.raw.RawData.{RawData}
use Rattle.perfdata_events.specs.Single.{KeepsSingle}
use Rattle.perfdata_events.specs.SingleParts.{SingleSample, HasSingleParts}
use Rattle.perfdata_events.specs.declared.sample.SampleRecord.{SampleRecord}
use Rattle.perfdata_events.specs.declared.event.EventRecord.{EventRecord}
use Rattle.perfdata_events.specs.declared.event.EventRecord.TheVariants.{Sample}

pub single_sample : (old new : RawData) (decoded : Result SampleRecord Error) (result : Result EventRecord Error) → KeepsSingle SingleSample old decoded new
    → MatchResult decoded (λ v. IsOkAnd result (λ (event : EventRecord). event ≡ Sample v)) (λ e. result ≡ Err e)
    → IsSingle old → IfOk result HasSingleParts
single_sample old new (Ok v) (Ok event) is same one = subst HasSingleParts (sym same) (is one).0
single_sample old new (Ok v) (Err e) is same one = absurd same
single_sample old new (Err e) result is same one = subst (λ (r : Result EventRecord Error). IfOk r HasSingleParts) (sym same) tt
