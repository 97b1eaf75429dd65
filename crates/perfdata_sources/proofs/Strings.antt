-- The bytes before the first NUL.
use Rattle.std.proofs.Common.{◌≡◌, ◌<◌, ◌==◌, ℕ, List, length, take, get_or, sym, ap, ◌∙◌, arith}
use Rattle.std.proofs.lemmas.List.{get_or-take, get_or_default, length-take-le}
use Rattle.memchr.specs.Find.{Nowhere, Passes, is_byte}
use Rattle.perfdata_sources.specs.Raw.{HasNoNul}

-- a string before the first NUL contains none
pub no_nul_before : (bytes string : List ℕ) (offset : ℕ) → offset < length bytes → string ≡ take offset bytes
    → Nowhere (Passes (is_byte 0) bytes) 0 offset → HasNoNul string
no_nul_before bytes string offset within is before = λ k d lt e.
    let long : length string ≡ offset = ap length is ∙ length-take-le offset bytes (omega arith) in
    let in_bytes : get_or string k d ≡ get_or bytes k 0 =
    ap (λ l. get_or l k d) is ∙ get_or-take offset bytes k d (omega arith) ∙ get_or_default bytes k d 0 (omega arith) in
    before k (omega arith) (omega arith) (ap (λ b. b == 0) (sym in_bytes ∙ e))
