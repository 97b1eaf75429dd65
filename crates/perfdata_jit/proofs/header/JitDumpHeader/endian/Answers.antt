use Rattle.perfdata_jit.proofs.JitHeaders.{little_endian_by, big_endian_by}
use Rattle.perfdata_jit.proofs.header.JitDumpHeader.endian.Goals as goal

pub returns-then-self : goal.returns-then-self
returns-then-self c = little_endian_by c.args.self.now.magic c.if-self.true

pub returns-else-self : goal.returns-else-self
returns-else-self c = big_endian_by c.args.self.now.magic c.if-self.false
