use Rattle.std.proofs.Common.{sym, subst}
use Rattle.linux_perf_data.specs.steps.NameTable.{HasTableWithEndian}
use Rattle.linux_perf_data.proofs.perf_file.PerfFile.find_names.Goals as goal

pub returns : goal.returns
returns c = ((c.in-Some.table, c.in-Some.is, c.in_ok-clone_name.ensures), subst (HasTableWithEndian c.args.endian) (sym c.in-Some.is) c.if-not-has_endian.ensures)
