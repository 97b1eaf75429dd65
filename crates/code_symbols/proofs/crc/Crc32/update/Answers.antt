use Rattle.std.proofs.Common.{◌-◌, ◌^◌, ◌++◌, ◌∷◌, [], List, ℕ, get_or, take, sym, ap, ◌∙◌, arith}
use Rattle.std.specs.Prelude.{bit_xor}
use Rattle.std.proofs.lemmas.List.{take_all, take_more}
use Rattle.code_symbols.specs.Crc.{crc_after, crc_bits}
use Rattle.code_symbols.proofs.CrcLemmas.{after_append}
use Rattle.code_symbols.proofs.crc.Crc32.update.Goals as goal

pub bytes-preserved : goal.bytes-preserved
bytes-preserved c =
    let bytes : List ℕ = c.args.bytes.now in
    let i : ℕ = c.bytes.byte-index in
    let byte : ℕ = get_or bytes i 0 in
    let old : ℕ = c.args.self.now.state in
    c.state_after-self.ensures ∙ ap (λ s. crc_bits 8 (bit_xor s byte)) c.bytes.invariant ∙ sym (after_append old (take i bytes) (byte ∷ []))
    ∙ ap (crc_after old) (sym (take_more bytes i 0 c.bytes-test.true))

pub returns : goal.returns
returns c = λ before added.
    let bytes : List ℕ = c.args.bytes.now in
    let i : ℕ = c.bytes.byte-index in
    c.bytes.invariant ∙ ap (λ s. crc_after s (take i bytes)) added ∙ sym (after_append (2 ^ 32 - 1) before (take i bytes))
    ∙ ap (λ xs. crc_after (2 ^ 32 - 1) (before ++ xs)) (take_all i bytes (omega (arith, c.bytes-test.false)))
