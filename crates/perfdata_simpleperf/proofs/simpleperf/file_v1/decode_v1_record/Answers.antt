use Rattle.std.proofs.Common.{inl, inr, map}
use Rattle.std.proofs.lemmas.Result.{err_from_is_err_and}
use Rattle.perfdata_simpleperf.specs.FileRecord.{symbol_value}
use Rattle.perfdata_simpleperf.proofs.simpleperf.file_v1.decode_v1_record.Goals as goal

pub returns-in_err-symbol-clause-on_error : goal.returns-in_err-symbol-clause-on_error
returns-in_err-symbol-clause-on_error g c =
    let r = c.from_residual-in_err-symbol in
    let p = err_from_is_err_and r.result r.ensures.1 in
    rw (p.1, p.2) (elim c.in_err-symbol.ensures.on_error [
      | inl memory ↦ inl memory
      | inr error ↦ inr (inr (
        c.in_ok-text.text.now,
        c.in_ok-text.rest.now,
        c.in_ok-text.ensures.on_ok,
        inr (
          c.in_ok-type_.type_,
          c.in_ok-type_.rest.now,
          c.in_ok-type_.ensures.on_ok,
          inr (c.in_ok-min_vaddr.min_vaddr, c.in_ok-min_vaddr.rest.now, c.in_ok-min_vaddr.ensures.on_ok, inl error),
        ),
      ))
    ])

pub returns-in_err-type_specific_msg-clause-on_error : goal.returns-in_err-type_specific_msg-clause-on_error
returns-in_err-type_specific_msg-clause-on_error g c =
    let r = c.from_residual-in_err-type_specific_msg in
    let p = err_from_is_err_and r.result r.ensures.1 in
    rw (p.1, p.2) (elim c.in_err-type_specific_msg.ensures.on_error [
      | inl memory ↦ inl memory
      | inr error ↦ inr (inr (
        c.in_ok-text.text.now,
        c.in_ok-text.rest.now,
        c.in_ok-text.ensures.on_ok,
        inr (
          c.in_ok-type_.type_,
          c.in_ok-type_.rest.now,
          c.in_ok-type_.ensures.on_ok,
          inr (
            c.in_ok-min_vaddr.min_vaddr,
            c.in_ok-min_vaddr.rest.now,
            c.in_ok-min_vaddr.ensures.on_ok,
            inr (map symbol_value c.in_ok-symbol.symbol.items, c.in_ok-symbol.rest.now, c.in_ok-symbol.ensures.on_ok, error),
          ),
        ),
      ))
    ])
