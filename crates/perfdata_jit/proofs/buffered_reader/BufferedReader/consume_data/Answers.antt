use Rattle.std.proofs.Common.{refl, sym, subst}
use Rattle.perfdata_jit.specs.ReadBuffer.{IsContiguous}
use Rattle.perfdata_jit.specs.declared.buffered_reader.BufferedReader.{BufferedReader}
use Rattle.perfdata_jit.proofs.Contiguous.{contiguous_buffered}
use Rattle.perfdata_jit.proofs.KeptBytes.{buffered_if, consumed}
use Rattle.perfdata_jit.proofs.buffered_reader.BufferedReader.consume_data.Goals as goal

pub returns-then-is_buffered : goal.returns-then-is_buffered
returns-then-is_buffered g c =
    let state = g.R.Source.state in
    let old = c.args.self.now in
    let n = c.args.count in
    let consumes = c.consume.follows.holds-at-none in
    let enough = buffered_if state n old c.ensure_buffered.new.self c.in_ok-is_buffered.is_buffered c.if-is_buffered.true c.in_ok-is_buffered.ensures.buffers in (
      (
        refl,
        λ _. tt,
        (
          consumed state n old c.ensure_buffered.new.self _ _ enough c.consume.ensures.value
              (record { buffered_bytes = consumes.bytes; source = refl; overflow_size = consumes.overflow_size; overflow_consumed = consumes.overflow_consumed; keeps_contiguous = consumes.keeps_contiguous; overflow_capacity = consumes.overflow_capacity; ring_capacity = consumes.ring_capacity; seek_state_kept = refl })
              c.in_ok-check_no_seek_failed.ensures.ok,
          c.in_ok-is_buffered.ensures.same_loan,
        ),
      ),
      record { single = λ at. c.consume.ensures.single (subst (λ (r : BufferedReader g.row.R.Denot). IsContiguous n r.buffer) (sym (enough.unchanged (contiguous_buffered n old.buffer at))) at); after_borrow = tt },
    )
