use Rattle.std.proofs.Common.{◌≡◌, take}
use Rattle.code_symbols.specs.Crc.{crc_after}
use Rattle.code_symbols.proofs.crc.Crc32.update.Given as goal

abbrev pub invariant-bytes : goal.invariant-bytes
invariant-bytes l = l.self.state ≡ crc_after l.fn.self.state (take l.byte-index l.bytes)
