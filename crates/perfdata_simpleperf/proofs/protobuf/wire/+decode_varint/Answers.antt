use Rattle.std.proofs.Common.{◌≤◌, arith}
use Rattle.std.proofs.lemmas.Result.{err_from_is_err_and}
use Rattle.perfdata_simpleperf.proofs.Decoding.Numbers.{read_last, read_more, read_error, high_fits, small_fits}
use Rattle.perfdata_simpleperf.proofs.protobuf.wire.+decode_varint.Goals as goal

pub returns-in_err-high-in-len1-up-clause-on_error : goal.returns-in_err-high-in-len1-up-clause-on_error
returns-in_err-high-in-len1-up-clause-on_error t c =
    let p = err_from_is_err_and c.from_residual.result c.from_residual.ensures.1 in
    let two : 2 ≤ c.args.max_len = omega (arith, c.requires.low, c.if-max_len-eq1.false) in
    rw (p.1, p.2) (read_error c.args.max_len c.args.bytes.now _ two c.in-len1-up.len_at_least c.if-byte-lt128.false c.in_err-high-in-len1-up.ensures.on_error)

pub overflow_mul-result : goal.overflow_mul-result
overflow_mul-result t c =
    let two : 2 ≤ c.args.max_len = omega (arith, c.requires.low, c.if-max_len-eq1.false) in
    let at = c.in_ok-high-in-len1-up.ensures.on_ok in
    let h = high_fits c.args.max_len c.in_ok-high-in-len1-up.high two c.requires.high at.in_range in
    omega (arith, h)

pub overflow_add-result : goal.overflow_add-result
overflow_add-result t c =
    let two : 2 ≤ c.args.max_len = omega (arith, c.requires.low, c.if-max_len-eq1.false) in
    let at = c.in_ok-high-in-len1-up.ensures.on_ok in
    let h = high_fits c.args.max_len c.in_ok-high-in-len1-up.high two c.requires.high at.in_range in
    let byte = c.type_inv.bytes 0 in
    omega (arith, h, byte)

pub returns-else-byte-gt1-clause-on_ok : goal.returns-else-byte-gt1-clause-on_ok
returns-else-byte-gt1-clause-on_ok t c =
    let byte = c.if-byte-gt1.false in
    rw c.if-max_len-eq1.true (read_last 1 2 c.args.bytes.now (omega arith) c.in-len1-up.len_at_least (omega (arith, byte)) (omega (arith, byte)))

pub returns-then-byte-lt128-clause-on_ok : goal.returns-then-byte-lt128-clause-on_ok
returns-then-byte-lt128-clause-on_ok t c =
    let two : 2 ≤ c.args.max_len = omega (arith, c.requires.low, c.if-max_len-eq1.false) in
    read_last c.args.max_len _ c.args.bytes.now c.requires.low c.in-len1-up.len_at_least c.if-byte-lt128.true (small_fits c.args.max_len _ two c.if-byte-lt128.true)

pub returns-in_ok-high-in-len1-up-clause-on_ok : goal.returns-in_ok-high-in-len1-up-clause-on_ok
returns-in_ok-high-in-len1-up-clause-on_ok t c =
    let two : 2 ≤ c.args.max_len = omega (arith, c.requires.low, c.if-max_len-eq1.false) in
    let byte = c.type_inv.bytes 0 in
    read_more c.args.max_len c.in_ok-high-in-len1-up.high c.args.bytes.now _ two c.in-len1-up.len_at_least c.if-byte-lt128.false (omega (arith, byte)) c.in_ok-high-in-len1-up.ensures.on_ok
