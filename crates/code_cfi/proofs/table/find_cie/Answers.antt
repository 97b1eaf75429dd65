use Rattle.code_cfi.proofs.UniqueFdes.{none_at_offset}
use Rattle.code_cfi.proofs.table.find_cie.Goals as goal

pub returns-else-is_cie_offset-clause-none : goal.returns-else-is_cie_offset-clause-none
returns-else-is_cie_offset-clause-none c =
    none_at_offset c.args.cies.now c.args.offset c.count_cies_below-index.result c.requires c.count_cies_below-index.ensures.point (c.is_cie_offset.ensures.no c.if-is_cie_offset.false)
