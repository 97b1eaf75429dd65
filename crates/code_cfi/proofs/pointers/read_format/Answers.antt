use Rattle.std.proofs.lemmas.Result.{on_err_weaker}
use Rattle.code_cfi.proofs.UniqueNumbers.{no_signed_leb128}
use Rattle.code_cfi.proofs.pointers.read_format.Goals as goal

pub returns-in-Sleb128-clause-none : goal.returns-in-Sleb128-clause-none
returns-in-Sleb128-clause-none c = on_err_weaker c.read_sleb128_bits.result (no_signed_leb128 c.args.format c.args.bytes.now c.in-Sleb128.is) c.read_sleb128_bits.ensures.none
