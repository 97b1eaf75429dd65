use Rattle.std.proofs.Common.{arith, ◌≡◌, ◌+◌, ◌-◌, ◌≤◌, length, drop, length-take, length-drop}
use Rattle.std.proofs.lemmas.Result.{err_from_is_err_and}
use Rattle.std.proofs.lemmas.List.{length-take-le}
use Rattle.perfdata_sources.proofs.ReadErrors.{truncated_later}
use Rattle.perfdata_sources.proofs.Attrs.{whole_rest, part_prefix, part_long}
use Rattle.perfdata_sources.proofs.attr.read_after_own_size.Goals as goal

pub returns-in_err-skip_exact-clause-reads : goal.returns-in_err-skip_exact-clause-reads
returns-in_err-skip_exact-clause-reads g c =
    let p = err_from_is_err_and c.from_residual-in_err-skip_exact.result c.from_residual-in_err-skip_exact.ensures.1 in
    let m = c.min-known_size.ensures in
    let long = c.requires.exact_len in
    let least = c.requires.min_size in
    let filled : 8 + length c.read_exact.new.buf ≡ c.min-known_size.result =
    let same = c.read_exact.auto.buf in
    omega (arith, length-take (c.min-known_size.result - 8) (drop 8 c.args.bytes.now), length-drop 8 c.args.bytes.now)
    in
    rw (p.1, p.2) (truncated_later _ (g.R.Source.state c.read_exact.new.source) _ c.read_exact.new.buf (c.args.own_size - c.min-known_size.result) (c.args.own_size - 8) _ c.in_ok-read_exact.ensures.reads c.in_err-skip_exact.ensures.skips (omega arith))

pub returns-clause-reads : goal.returns-clause-reads
returns-clause-reads g c =
    let m = c.min-known_size.ensures in
    let long = c.requires.exact_len in
    let least = c.requires.min_size in
    let filled : 8 + length c.read_exact.new.buf ≡ c.min-known_size.result =
    let same = c.read_exact.auto.buf in
    omega (arith, length-take (c.min-known_size.result - 8) (drop 8 c.args.bytes.now), length-drop 8 c.args.bytes.now)
    in
    let fits : 8 ≤ length c.args.bytes.now = omega arith in
    whole_rest g.T.ByteOrder.number_of g.met.T.ByteOrder.reads_first _ (g.R.Source.state c.read_exact.new.source) _ c.args.bytes.now _ c.read_exact.new.buf c.args.own_size c.min-known_size.result _ (omega arith) (omega arith) (λ k low high. omega arith) (part_long 8 _ _ c.args.bytes.now c.read_exact.new.buf fits filled) (length-take-le 8 c.args.bytes.now fits) filled (part_prefix 8 _ _ c.args.bytes.now c.read_exact.new.buf fits filled) c.in_ok-read_exact.ensures.reads c.in_ok-skip_exact.ensures.skips c.parse_fields.ensures
