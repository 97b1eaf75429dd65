use Rattle.std.proofs.Common.{sym, subst, inl, inr, ℕ, List, Err}
use Rattle.std.specs.declared.io.Error.{Error}
use Rattle.std.proofs.lemmas.Result.{err_from_is_err_and}
use Rattle.perfdata_sources.specs.Source.{State, IsIoErrorOf}
use Rattle.perfdata_sources.specs.declared.source.append.AppendError.{AppendError}
use Rattle.perfdata_sources.specs.declared.source.append.AppendError.TheVariants.{Memory, Source}
use Rattle.perfdata_sections.specs.PmuMappings.{ReadsPmus, ParsesPmus, IsTruncatedPmuSection}
use Rattle.perfdata_sections.specs.ParsedPart.{PartReadError}
use Rattle.perfdata_sections.proofs.feature_sections.pmu_mappings.PmuMappings.parse.Goals as goal

parse_error : (number : ℕ → List ℕ → ℕ) (e : AppendError) (own : Error) (old new : State) → IsIoErrorOf e own → ReadsPmus number old (Err e) new → ParsesPmus number old (Err own) new
parse_error number Memory own old new is read = inl (is, read)
parse_error number (Source e) own old new is read = inr (subst (λ x. PartReadError (IsTruncatedPmuSection number) old x new) (sym is) read)

pub returns-in_err-read_from : goal.returns-in_err-read_from
returns-in_err-read_from g c =
    let p = err_from_is_err_and c.from_residual.result c.from_residual.ensures.1 in
    (g.R.Source.state c.read_from.new.source, rw p.1 (parse_error g.T.ByteOrder.number_of _ p.0 _ (g.R.Source.state c.read_from.new.source) p.2 c.in_err-read_from.ensures.reads))
