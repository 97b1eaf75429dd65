use Rattle.std.proofs.Common.{◌≡◌, ◌⊎◌, IfOk, IfErr, sym, subst}
use Rattle.std.specs.IoError.{error_kind}
use Rattle.std.specs.declared.io.ErrorKind.TheVariants.{OutOfMemory}
use Rattle.perfdata_sources.specs.Endian.{number_in}
use Rattle.perfdata_sources.specs.declared.endian.Endianness.{Endianness}
use Rattle.perfdata_simpleperf.specs.FileRecord.{record_value}
use Rattle.perfdata_simpleperf.specs.FileV1.{IsV1, V1Error}
use Rattle.perfdata_simpleperf.proofs.simpleperf.file_section.decode_v1_with_endian.Goals as goal

pub returns-in-LittleEndian-clause-on_ok : goal.returns-in-LittleEndian-clause-on_ok
returns-in-LittleEndian-clause-on_ok c = subst (λ (o : Endianness). IfOk c.decode_v1.result (λ r. IsV1 (number_in o) c.args.bytes.now (record_value r))) (sym c.in-LittleEndian.is) c.decode_v1.ensures.on_ok

pub returns-in-LittleEndian-clause-on_error : goal.returns-in-LittleEndian-clause-on_error
returns-in-LittleEndian-clause-on_error c =
    subst (λ (o : Endianness). IfErr c.decode_v1.result (λ e. (error_kind e ≡ OutOfMemory) ⊎ V1Error (number_in o) c.args.bytes.now (error_kind e))) (sym c.in-LittleEndian.is) c.decode_v1.ensures.on_error

pub returns-in-BigEndian-clause-on_ok : goal.returns-in-BigEndian-clause-on_ok
returns-in-BigEndian-clause-on_ok c =
    subst (λ (o : Endianness). IfOk c.decode_v1-in-BigEndian.result (λ r. IsV1 (number_in o) c.args.bytes.now (record_value r))) (sym c.in-BigEndian.is) c.decode_v1-in-BigEndian.ensures.on_ok

pub returns-in-BigEndian-clause-on_error : goal.returns-in-BigEndian-clause-on_error
returns-in-BigEndian-clause-on_error c =
    subst (λ (o : Endianness). IfErr c.decode_v1-in-BigEndian.result (λ e. (error_kind e ≡ OutOfMemory) ⊎ V1Error (number_in o) c.args.bytes.now (error_kind e))) (sym c.in-BigEndian.is) c.decode_v1-in-BigEndian.ensures.on_error
