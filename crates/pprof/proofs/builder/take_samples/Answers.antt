use Rattle.std.proofs.Common.{◌≡◌, ◌∙◌, ◌-◌, ◌++◌, ap, length, map, replicate, rules, sym, take, vec_len}
use Rattle.std.proofs.lemmas.List.{append-nil}
use Rattle.pprof.specs.Builders.{rows_of}
use Rattle.pprof.specs.Messages.{sample_value}
use Rattle.pprof.specs.Samples.{sample_row}
use Rattle.pprof.proofs.Sampling.{samples_more}
use Rattle.pprof.proofs.builder.take_samples.Goals as goal

pub rows-preserved : goal.rows-preserved
rows-preserved c =
    let key = c.in-Some.key in
    let before = c.in-Some.values in
    let counted : vec_len before ≡ length before.items = search rules in
    let whole = c.in_ok-resize.ensures.items ∙ ap (λ n. take c.args.type_count before.items ++ replicate (c.args.type_count - n) 0) counted in
    samples_more c.args.type_count c.rows.samples.items c.push.new.self.items _ (key, before) c.rows.key-iterator c.next.new.self c.args.rows.entries
    c.in-Some.ensures.steps c.in_ok-push.ensures.items (λ i. record { location_ids = key.location_ids.items; values = whole i; labels = key.labels.items }) c.rows.invariant

pub returns : goal.returns
returns c =
    let old = map sample_value c.rows.samples.items in
    sym (append-nil old) ∙ ap (λ rest. old ++ map (sample_row c.args.type_count) (rows_of rest)) (sym c.in-None.ensures.steps.0) ∙ c.rows.invariant
