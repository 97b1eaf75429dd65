use Rattle.std.proofs.Common.{subst}
use Rattle.perfdata_chunks.specs.Numbers.{ReadsNumbers}
use Rattle.dewikura.proofs.chunks.dewikura_read_numbers.Goals as goal

pub returns : goal.returns
returns c =
    let outcome = c.read_numbers-outcome.result in (
      outcome.status,
      c.code.ensures,
      subst (λ e. ReadsNumbers e c.args.feature c.args.section.now c.args.numbers.now outcome c.read_numbers-outcome.new.numbers) c.endian_from_flag-endian.ensures c.read_numbers-outcome.ensures,
    )
