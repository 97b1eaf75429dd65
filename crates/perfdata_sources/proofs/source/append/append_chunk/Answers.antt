use Rattle.std.proofs.Common.{rules, arith, ◌≡◌, ◌-◌, length, take, drop, ◌∙◌, length-take, length-drop, vec_len}
use Rattle.std.proofs.lemmas.List.{length-take-le}
use Rattle.perfdata_sources.proofs.ConsumedLemmas.{tail_filled}
use Rattle.perfdata_sources.proofs.source.append.append_chunk.Goals as goal

pub returns-clause-appends : goal.returns-clause-appends
returns-clause-appends g c = λ some.
    let grown = c.in_ok-extend_from_slice.ensures in
    let read_count = c.in_ok-read_count.ensures.fills in
    let is = c.as_mut_slice.ensures.value ∙ grown.items in
    let long : length c.args.buffer.now.items ≡ c.len-old_len.result = search rules in
    let whole : c.extend_from_slice.new.self.len ≡ length c.as_mut_slice.result.now = search rules in
    let asked : length c.fill.new.buf ≡ c.args.count = let l = grown.len in let o : vec_len c.args.buffer.now ≡ c.len-old_len.result = search rules in let q = length-take (length c.as_mut_slice.result.now - c.len-old_len.result) (drop c.len-old_len.result c.as_mut_slice.result.now) in let d = length-drop c.len-old_len.result c.as_mut_slice.result.now in let p = c.fill.auto.buf in let z = c.zeros.ensures in omega arith in
    let tail = tail_filled c.len-old_len.result c.in_ok-read_count.read_count c.extend_from_slice.new.self.len c.as_mut_slice.result.now c.fill.new.buf _ c.args.buffer.now.items _ is long c.fill.auto.buf read_count.within whole in
    record { bytes = take c.in_ok-read_count.read_count c.fill.new.buf; exact_len = length-take-le _ _ read_count.within; within = rw (← asked) read_count.within; buffer_content = c.truncate.ensures.items ∙ tail; consumes = read_count.consumes; if_incomplete = λ is_too_few. read_count.if_incomplete (rw asked is_too_few) }
