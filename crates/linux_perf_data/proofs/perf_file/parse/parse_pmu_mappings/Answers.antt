use Rattle.perfdata_sources.specs.declared.endian.Endianness.TheVariants.{LittleEndian, BigEndian}
use Rattle.linux_perf_data.proofs.Slices.{units_ok, units_err}
use Rattle.linux_perf_data.proofs.perf_file.parse.parse_pmu_mappings.Goals as goal
use Rattle.linux_perf_data.proofs.perf_file.parse.parse_pmu_mappings.Goals.{in-LittleEndian, in-BigEndian}

pub returns-in-Ok : goal.returns-in-Ok
returns-in-Ok c = elim c.match-endian.branch [
  | in-LittleEndian w ↦ units_ok LittleEndian c.args.endian w.in-LittleEndian.is c.args.bytes.now _ w.read_from-read.result c.match-endian.read c.in-Ok.units w.read-is c.in-Ok.is w.read_from-read.ensures.reads
  | in-BigEndian w ↦ units_ok BigEndian c.args.endian w.in-BigEndian.is c.args.bytes.now _ w.read_from-read-in-BigEndian.result c.match-endian.read c.in-Ok.units w.read-is c.in-Ok.is w.read_from-read-in-BigEndian.ensures.reads
]

pub returns-in-Err : goal.returns-in-Err
returns-in-Err c = elim c.match-endian.branch [
  | in-LittleEndian w ↦ units_err LittleEndian c.args.endian w.in-LittleEndian.is c.args.bytes.now _ w.read_from-read.result c.match-endian.read c.in-Err.error c.from.result w.read-is c.in-Err.is c.from.ensures w.read_from-read.ensures.reads
  | in-BigEndian w ↦ units_err BigEndian c.args.endian w.in-BigEndian.is c.args.bytes.now _ w.read_from-read-in-BigEndian.result c.match-endian.read c.in-Err.error c.from.result w.read-is c.in-Err.is c.from.ensures w.read_from-read-in-BigEndian.ensures.reads
]
