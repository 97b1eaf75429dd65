use Rattle.std.proofs.Common.{arith, subst, ap, ◌∙◌, Ok}
use Rattle.perfdata_jit.specs.RecordBytes.{record_header_at}
use Rattle.perfdata_jit.specs.steps.HeaderSteps.{PeeksHeader}
use Rattle.perfdata_jit.proofs.jitdump_reader.JitDumpReader.peek_valid_header.Goals as goal

pub returns-clause-peeks_header : goal.returns-clause-peeks_header
returns-clause-peeks_header g c =
    let bytes = c.in-Some.bytes in
    let peeked = subst (λ o. PeeksHeader g.R.Source.state c.args.self.now (Ok o) c.peek_header_bytes.new.self) c.in-Some.is c.in_ok-bytes.ensures.peeks_header in
    record {
      bytes = bytes;
      header_peeked = peeked;
      matches = c.from_bytes-header.ensures ∙ ap (λ endian. record_header_at endian bytes) peeked.keeps_position.same_setup.same_endian;
      min_size = c.if-header-lt-SIZE.false;
      end_fits = omega (arith, c.if-header-offset.false, c.if-header-lt-SIZE.false, peeked.keeps_position.offset);
    }
