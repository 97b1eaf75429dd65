use Rattle.std.proofs.Common.{arith, inr, ◌+◌, ◌++◌, ◌∷◌, [], length, length-append, sym, ap, ◌∙◌, subst}
use Rattle.std.proofs.lemmas.Result.{err_from_is_err_and}
use Rattle.perfdata_sources.specs.Endian.{number_in}
use Rattle.perfdata_sources.specs.Raw.{bytes_of}
use Rattle.perfdata_jit.specs.JitRecords.{AreDebugEntries}
use Rattle.perfdata_jit.proofs.Entries.{entries_more}
use Rattle.perfdata_jit.proofs.records.read_entries.Goals as goal

pub entries-preserved : goal.entries-preserved
entries-preserved c =
    let number = number_in c.args.endian in
    let before = c.entries.invariant in
    let pushed = c.in_ok-push.ensures.items in
    let rest = bytes_of c.read_entry.new.bytes in
    record {
      exact_len = ap length pushed ∙ length-append c.entries.entries.items (c.in_ok-entry.entry ∷ []) ∙ ap (λ n. n + 1) before.exact_len;
      elements = subst (λ l. AreDebugEntries number (bytes_of c.args.bytes.now) l rest) (sym pushed)
          (entries_more number (bytes_of c.args.bytes.now) (bytes_of c.entries.bytes) rest c.entries.entries.items c.in_ok-entry.entry before.elements c.in_ok-entry.ensures.value);
    }

pub returns-in_err-push-clause-error : goal.returns-in_err-push-clause-error
returns-in_err-push-clause-error c =
    let number = number_in c.args.endian in
    let before = c.entries.invariant in
    let long = length-append c.entries.entries.items (c.in_ok-entry.entry ∷ []) in
    let count = before.exact_len in
    let p = err_from_is_err_and c.from_residual-in_err-push.result c.from_residual-in_err-push.ensures.1 in
    rw p.1 (inr (
      p.2,
      record {
        entries = c.entries.entries.items ++ c.in_ok-entry.entry ∷ [];
        after_body = bytes_of c.read_entry.new.bytes;
        elements = entries_more number (bytes_of c.args.bytes.now) (bytes_of c.entries.bytes) _ c.entries.entries.items c.in_ok-entry.entry before.elements c.in_ok-entry.ensures.value;
        is_nonempty = omega (arith, long);
        within = omega (arith, long, count);
      },
    ))
