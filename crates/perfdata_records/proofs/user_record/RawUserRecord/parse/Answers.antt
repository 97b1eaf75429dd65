use Rattle.std.proofs.Common.{IfOk, sym, subst}
use Rattle.perfdata_sources.specs.Endian.{number_in}
use Rattle.perfdata_records.specs.UserRecord.{IsUserRecord}
use Rattle.perfdata_records.proofs.user_record.RawUserRecord.parse.Goals as goal

pub returns-in-LittleEndian-clause-value : goal.returns-in-LittleEndian-clause-value
returns-in-LittleEndian-clause-value c =
    subst (λ o. IfOk c.parse_impl.result (λ parsed. IsUserRecord (number_in o) c.args.self.now parsed)) (sym c.in-LittleEndian.is) c.parse_impl.ensures.value

pub returns-in-BigEndian-clause-value : goal.returns-in-BigEndian-clause-value
returns-in-BigEndian-clause-value c =
    subst (λ o. IfOk c.parse_impl-in-BigEndian.result (λ parsed. IsUserRecord (number_in o) c.args.self.now parsed)) (sym c.in-BigEndian.is) c.parse_impl-in-BigEndian.ensures.value
