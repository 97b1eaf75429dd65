use Rattle.std.proofs.Common.{rules, arith, ◌≡◌, ◌++◌, ◌∙◌, [], sym, ap, refl, take, length-append, append-nil, length-take-le}
use Rattle.std.proofs.lemmas.List.{take-append-drop}
use Rattle.perfdata_sources.proofs.ConsumedLemmas.{prepend_more}
use Rattle.perfdata_sources.specs.Source.{prepend}
use Rattle.perfdata_jit.specs.BufferedReader.{buffered_in}
use Rattle.perfdata_jit.specs.ReadBuffer.{read_buffer_bytes}
use Rattle.perfdata_jit.proofs.Seeks.{skipped_if}
use Rattle.perfdata_jit.proofs.BufferRanges.{part_consumed, prepend-nil}
use Rattle.perfdata_jit.proofs.buffered_reader.BufferedReader.skip_bytes.Goals as goal

pub returns-then-count-buffered_len-clause-skips : goal.returns-then-count-buffered_len-clause-skips
returns-then-count-buffered_len-clause-skips g c =
    let old = c.args.self.now in
    let buffered = buffered_in old in
    let n = c.args.count in
    let advanced = c.advance.ensures.consumes_prefix in
    let split : buffered ≡ take n buffered ++ read_buffer_bytes c.advance.new.self = sym (take-append-drop n buffered) ∙ ap (λ l. take n buffered ++ l) (sym advanced.bytes) in
    record {
      skipped_bytes = take n buffered;
      exact_len = length-take-le n buffered (omega arith);
      unread_bytes = part_consumed buffered (take n buffered) _ _ n refl advanced.bytes;
      if_buffered = λ _. split;
      buffered_prefix = ([], append-nil buffered ∙ split);
      source_unchanged = λ _. refl;
      overflow_size = omega (arith, advanced.overflow_size);
      ring_capacity = advanced.ring_capacity;
      same_counts = record { errors = refl; pauses = refl };
      same_source = record { all = refl; steady = λ h. h };
      seek_ok_before = c.in_ok-check_no_seek_failed.ensures.ok;
      seek_ok_after = c.in_ok-check_no_seek_failed.ensures.ok;
    }

pub returns-in-Ok-true-clause-skips : goal.returns-in-Ok-true-clause-skips
returns-in-Ok-true-clause-skips g c =
    let old = c.args.self.now in
    let buffered = buffered_in old in
    let n = c.args.count in
    let p = skipped_if _ _ _ c.in-Ok-true.field-0 c.in-Ok-true.field-0-test c.in-Ok-true.ensures.skips in
    let none : read_buffer_bytes c.clear.new.self ≡ [] = c.clear.ensures.bytes in
    record {
      skipped_bytes = buffered ++ p.bytes;
      exact_len = omega (arith, length-append buffered p.bytes, p.exact_len, c.len-buffered_len.ensures);
      unread_bytes = ap (prepend buffered) p.matches ∙ prepend_more buffered p.bytes _ ∙ ap (prepend (buffered ++ p.bytes)) (sym (prepend-nil _) ∙ ap (λ l. prepend l (g.R.Source.state c.skip_by_seek.new.source).bytes) (sym none));
      if_buffered = λ le. absurd (omega (arith, c.len-buffered_len.ensures));
      buffered_prefix = (p.bytes, sym (append-nil (buffered ++ p.bytes)) ∙ ap (λ l. (buffered ++ p.bytes) ++ l) (sym none));
      source_unchanged = λ le. absurd (omega (arith, c.len-buffered_len.ensures));
      overflow_size = omega (arith, c.clear.ensures.overflow);
      ring_capacity = c.clear.ensures.size;
      same_counts = p.same_counts;
      same_source = p.same_source;
      seek_ok_before = c.in_ok-check_no_seek_failed.ensures.ok;
      seek_ok_after = c.in_ok-check_no_seek_failed.ensures.ok;
    }

pub returns-in-Err-clause-skips : goal.returns-in-Err-clause-skips
returns-in-Err-clause-skips g c = search rules
