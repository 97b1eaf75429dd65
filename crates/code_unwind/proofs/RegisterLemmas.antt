-- One more register.
use Rattle.std.proofs.Common.{◌≡◌, ◌∙◌, ℕ, ◌+◌, Option, refl, sym, ap, add-one}
use Rattle.code_unwind.specs.FrameRegisters.{with_register, registers_below}
use Rattle.code_unwind.specs.declared.registers.FrameRegisters.{FrameRegisters}

pub registers_more : (value : ℕ → Option ℕ) (n : ℕ) → registers_below value (n + 1) ≡ with_register (registers_below value n) n (value n)
registers_more value n = rw add-one refl

pub registers_set : (value : ℕ → Option ℕ) (n : ℕ) (before after : FrameRegisters) (x : Option ℕ) → before ≡ registers_below value n → x ≡ value n → after ≡ with_register before n x → after ≡ registers_below value (n + 1)
registers_set value n before after x e f h =
    h ∙ ap (λ (r : FrameRegisters). with_register r n x) e ∙ ap (λ (y : Option ℕ). with_register (registers_below value n) n y) f ∙ sym (registers_more value n)
