use Rattle.std.proofs.Common.{arith}
use Rattle.std.proofs.lemmas.Grind.{common_steps}
use Rattle.perfdata_sources.specs.Raw.{bytes_of}
use Rattle.perfdata_sources.proofs.Strings.{no_nul_before}
use Rattle.perfdata_sources.proofs.raw.RawData.read_string.Goals as goal

pub returns-clause-string : goal.returns-clause-string
returns-clause-string c = record {
  split = grind (arith, common_steps);
  no_nul = no_nul_before (bytes_of c.args.self.now) (bytes_of c.in_ok-string.string) c.in_ok-at.at
      c.in_ok-at.ensures.0.high c.in_ok-string.ensures.prefix c.in_ok-at.ensures.0.before;
  single = λ one. (c.in_ok-string.ensures.single one, c.in_ok-rest.ensures.rest.single (c.in_ok-string.ensures.rest.single one));
}
