use Rattle.std.proofs.Common.{◌≡◌, ℕ, ◌++◌, List, length, take, drop, min, ap, ◌∙◌, arith, replicate}
use Rattle.std.proofs.lemmas.List.{length-take-le}
use Rattle.perfdata_sources.specs.Raw.{bytes_of}
use Rattle.perfdata_arrays.proofs.OverwriteLemmas.{take-with_prefix}
use Rattle.perfdata_arrays.proofs.mappings.padded_build_id.Goals as goal

pub returns-in-Ok : goal.returns-in-Ok
returns-in-Ok c =
    let n = c.min-count.result in
    let id = bytes_of c.args.id in
    let zeros : List ℕ = replicate 20 0 in
    let is : n ≡ min 20 (length id) = c.min-count.ensures ∙ ap (λ l. min 20 l) c.len.ensures in
    let size : length (take n zeros) ≡ n = length-take-le n zeros (omega (arith, is)) in
    ap (λ l. l ++ drop n zeros) (c.in-Ok.ensures.read ∙ ap (λ k. take k id) size) ∙ take-with_prefix n id zeros is

pub returns-in-Err : goal.returns-in-Err
returns-in-Err c =
    let n = c.min-count.result in
    let id = bytes_of c.args.id in
    let zeros : List ℕ = replicate 20 0 in
    let is : n ≡ min 20 (length id) = c.min-count.ensures ∙ ap (λ l. min 20 l) c.len.ensures in
    let size : length (take n zeros) ≡ n = length-take-le n zeros (omega (arith, is)) in
    let few = c.in-Err.ensures.too_short.too_few in
    absurd (omega (arith, few, size, is))
