use Rattle.std.proofs.Common.{arith, refl, ap, ◌∙◌, subst, Ok}
use Rattle.std.proofs.lemmas.List.{take_all}
use Rattle.perfdata_sources.specs.Raw.{bytes_of}
use Rattle.perfdata_jit.proofs.KeptBytes.{header_copied}
use Rattle.perfdata_jit.specs.BufferedReader.{ConsumesData}
use Rattle.perfdata_jit.proofs.buffered_reader.BufferedReader.consume_header.Goals as goal

-- the whole part is copied, and a consumed overflow buffer is emptied
pub returns-clause-consumes : goal.returns-clause-consumes
returns-clause-consumes g c =
    let state = g.R.Source.state in
    let mid = c.consume_data.follows.lender-at-none in
    let part = bytes_of c.in-Some.bytes in
    let consumed = subst (λ r. ConsumesData state 16 c.args.self.now r mid) (c.in_ok-bytes.was ∙ ap Ok c.in-Some.is) c.consume_data.follows.holds-at-none.0 in
    let cleared = c.clear_consumed_overflow.ensures in
    header_copied state c.args.self.now mid _ part c.read_exact.new.buf consumed (c.in_ok-read_exact.ensures.read ∙ take_all 16 part (omega (arith, consumed.exact_len))) refl cleared.bytes cleared.shorter cleared.overflow_empty cleared.overflow_consumed cleared.overflow_capacity cleared.size refl cleared.keeps_contiguous
