use Rattle.std.proofs.Common.{◌≡◌, ◌∙◌, ◌+◌, ◌-◌, ◌∷◌, ◌++◌, [], ℕ, map, length, ap, arith, rules, slice_index_or}
use Rattle.std.proofs.lemmas.Map.Iter.{iter_end}
use Rattle.std.specs.Map.Iter.{deref}
use Rattle.pprof.specs.Rows.{numbered}
use Rattle.pprof.specs.declared.builder.SourceFlags.{SourceFlags}
use Rattle.pprof.specs.steps.Flags.{flagged_row, no_flags, row_with}
use Rattle.pprof.proofs.Numbering.{rows_more}
use Rattle.pprof.proofs.builder.flagged_mappings.Goals as goal

pub rows-preserved : goal.rows-preserved
rows-preserved c =
    let flags = c.args.flags.now in
    let id = c.len-in-rows.result + 1 in
    let counted : c.len-in-rows.result ≡ length c.rows.mappings.items = omega arith in
    let index : c.len.result ≡ id - 1 = omega arith in
    let value = c.mapping_flags-flags.ensures ∙ ap (λ (n : ℕ). slice_index_or flags n no_flags) index in
    let longer = c.in_ok-push.ensures.items ∙ ap (λ (f : SourceFlags). c.rows.mappings.items ++ row_with f id c.in-Some.file.now ∷ []) value in
    rows_more (flagged_row flags) deref c.rows.yielded c.in-Some.file c.rows.mappings.items c.push.new.self.items c.len-in-rows.result c.rows.invariant counted longer

pub returns : goal.returns
returns c =
    let all : map deref c.rows.yielded ≡ c.args.files.now.keys = search (rules, iter_end) in
    c.rows.invariant ∙ ap (λ files. numbered (flagged_row c.args.flags.now) 1 files) all
