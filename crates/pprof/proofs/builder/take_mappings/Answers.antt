use Rattle.std.proofs.Common.{◌∙◌, ◌≤◌, List, ap, arith, length, map}
use Rattle.std.proofs.lemmas.Result.{IfOk-weaker}
use Rattle.pprof.specs.Builders.{place_of}
use Rattle.pprof.specs.Rows.{numbered}
use Rattle.pprof.specs.declared.builder.SourceFlags.{SourceFlags}
use Rattle.pprof.specs.steps.Flags.{flagged_row}
use Rattle.pprof.proofs.Flagging.{mappings_are}
use Rattle.pprof.proofs.builder.take_mappings.Goals as goal

pub returns : goal.returns
returns c =
    let files = c.args.files.now.keys in
    let flags = c.in_ok-flags.flags.items in
    let many : length files ≤ length flags = omega (arith, c.in_ok-flags.ensures.count, c.len.ensures.len) in
    IfOk-weaker c.flagged_mappings.result _ _ (λ mappings are. are ∙ ap (λ (fs : List SourceFlags). numbered (flagged_row fs) 1 files) c.as_slice.ensures.value
    ∙ mappings_are c.args.functions.now.keys (map place_of c.args.places.now.keys) flags files many c.in_ok-flags.ensures.are) c.flagged_mappings.ensures
