use Rattle.std.proofs.Common.{Ok, ap, ◌∙◌, subst}
use Rattle.std.specs.Io.KnownBytes.{Appends}
use Rattle.std.proofs.KnownBytes.{Keeps-refl}
use Rattle.perfdata_jit.specs.JitDumpReader.{NextJitRecord}
use Rattle.perfdata_listing_lines.specs.Output.{AppendsPrefix}
use Rattle.perfdata_listing.proofs.jit.list_next.Goals as goal

pub returns-in-Ok : goal.returns-in-Ok
returns-in-Ok g c =
    let rested = c.next_record.follows.lender-at-none in
    let step = subst (λ r. NextJitRecord g.R.Source.state c.args.reader.now r rested) (c.in-Ok-Some.is ∙ ap Ok c.in-Ok-Some.field-0-is) c.next_record.follows.holds-at-none.0 in
    (c.in-Ok-Some.raw, step, subst (Appends _ _) (c.as_bytes.ensures ∙ c.format_line.ensures) c.in-Ok.ensures)

pub returns-in-Err-write_line : goal.returns-in-Err-write_line
returns-in-Err-write_line g c =
    let rested = c.next_record.follows.lender-at-none in
    let step = subst (λ r. NextJitRecord g.R.Source.state c.args.reader.now r rested) (c.in-Ok-Some.is ∙ ap Ok c.in-Ok-Some.field-0-is) c.next_record.follows.holds-at-none.0 in
    (c.in-Ok-Some.raw, step, subst (AppendsPrefix _ _) (c.as_bytes.ensures ∙ c.format_line.ensures) c.in-Err-write_line.ensures)

pub returns-in-Ok-None : goal.returns-in-Ok-None
returns-in-Ok-None g c =
    let rested = c.next_record.follows.lender-at-none in
    (subst (λ r. NextJitRecord g.R.Source.state c.args.reader.now r rested) (c.in-Ok-None.is ∙ ap Ok c.in-Ok-None.field-0-is) c.next_record.follows.holds-at-none.0, Keeps-refl _)

pub returns-in-Err : goal.returns-in-Err
returns-in-Err g c =
    let rested = c.next_record.follows.lender-at-none in
    (subst (λ r. NextJitRecord g.R.Source.state c.args.reader.now r rested) c.in-Err.is c.next_record.follows.holds-at-none.0, Keeps-refl _)
