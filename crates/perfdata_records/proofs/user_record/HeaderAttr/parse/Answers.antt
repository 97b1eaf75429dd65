use Rattle.std.proofs.Common.{sym, subst}
use Rattle.std.proofs.lemmas.Result.{err_from_is_err_and}
use Rattle.perfdata_sources.specs.Raw.{bytes_of}
use Rattle.perfdata_records.specs.steps.HeaderAttr.{IsIdsError}
use Rattle.perfdata_records.proofs.Ids.{attr_read, attr_error, attribute_is, ids_hold, ids_error}
use Rattle.perfdata_records.proofs.user_record.HeaderAttr.parse.Goals as goal

pub returns-in_err-attr-clause-error : goal.returns-in_err-attr-clause-error
returns-in_err-attr-clause-error g c =
    let p = err_from_is_err_and c.from_residual.result c.from_residual.ensures.1 in
    rw (p.1, p.2) (attr_error g.T.ByteOrder.number_of g.met.T.ByteOrder.reads_first (bytes_of c.args.body) _ _ c.in_err-attr.ensures.parses)

pub returns-clause-valid : goal.returns-clause-valid
returns-clause-valid g c =
    let number = g.T.ByteOrder.number_of in
    let rest = bytes_of c.parse_from.new.source in
    let attr_is = attr_read number g.met.T.ByteOrder.reads_first (bytes_of c.args.body) rest c.in_ok-attr.attr _ c.in_ok-attr.ensures.parses in
    ids_hold number (bytes_of c.args.body) rest c.in_ok-attr.attr attr_is.0 attr_is.1 c.in_ok-ids.ensures.whole

pub returns-clause-value : goal.returns-clause-value
returns-clause-value g c =
    let number = g.T.ByteOrder.number_of in
    let rest = bytes_of c.parse_from.new.source in
    let attr_is = attr_read number g.met.T.ByteOrder.reads_first (bytes_of c.args.body) rest c.in_ok-attr.attr _ c.in_ok-attr.ensures.parses in
    attribute_is number (bytes_of c.args.body) rest c.in_ok-attr.attr attr_is.0 attr_is.1 c.in_ok-ids.ids.items c.in_ok-ids.ensures.ids

pub returns-in_err-ids-clause-error : goal.returns-in_err-ids-clause-error
returns-in_err-ids-clause-error g c =
    let p = err_from_is_err_and c.from_residual-in_err-ids.result c.from_residual-in_err-ids.ensures.1 in
    let number = g.T.ByteOrder.number_of in
    let rest = bytes_of c.parse_from.new.source in
    let attr_is = attr_read number g.met.T.ByteOrder.reads_first (bytes_of c.args.body) rest c.in_ok-attr.attr _ c.in_ok-attr.ensures.parses in
    rw p.1 (ids_error number (bytes_of c.args.body) rest c.in_ok-attr.attr attr_is.0 attr_is.1 p.0 (subst (IsIdsError rest) (sym p.2) c.in_err-ids.ensures.error))
