-- The registers of a caller of code that has no call frame information.
use Rattle.std.specs.Prelude.{ℕ, ◌+◌, ◌*◌, ◌%◌, ◌^◌, ◌==◌, ◌||◌, ◌&&◌, not, List, [], ◌∷◌, Bool, Option, Some, None, Result, Ok, Err, if◌then◌else◌, nat_le, nat_lt, slice_index, is_some, nat_eq}
use Rattle.std.specs.List.{starts_with}
use Rattle.code_cfi.specs.declared.instruction.Machine.{Machine}
use Rattle.code_cfi.specs.declared.instruction.Machine.TheVariants as machines
use Rattle.code_unwind.specs.Machines.{register_count, frame_pointer, stack_pointer, pc_number}
use Rattle.code_unwind.specs.Stacks.{register_of, word_of}
use Rattle.code_unwind.specs.FrameRegisters.{no_registers, with_register, registers_below}
use Rattle.code_unwind.specs.declared.registers.FrameRegisters.{FrameRegisters}
use Rattle.code_unwind.specs.declared.stack_copy.StackCopy.{StackCopy}
use Rattle.code_unwind.specs.declared.frame.ChainEnd.{ChainEnd}
use Rattle.code_unwind.specs.declared.frame.ChainEnd.TheVariants as ends
use Rattle.code_unwind.specs.declared.code.Plt.{Plt}
use Rattle.code_unwind.specs.declared.code.Plt.TheVariants as plts

-- a sum of addresses
abbrev pub sum_of : ℕ → ℕ → ℕ
sum_of a b = (a + b) % 2 ^ 64

-- Signals. The call of rt_sigreturn: mov $15, %rax; syscall, and mov x8, #139; svc #0.
abbrev pub sigreturn_code : Machine → List ℕ
sigreturn_code machines.X86_64 = 72 ∷ 199 ∷ 192 ∷ 15 ∷ 0 ∷ 0 ∷ 0 ∷ 15 ∷ 5 ∷ []
sigreturn_code machines.AArch64 = 104 ∷ 17 ∷ 128 ∷ 210 ∷ 1 ∷ 0 ∷ 0 ∷ 212 ∷ []

abbrev pub is_sigreturn : Machine → List ℕ → Bool
is_sigreturn m code = starts_with nat_eq code (sigreturn_code m)

-- The kernel stores the registers in this order (struct sigcontext of x86-64): r8 to r15, rdi, rsi, rbp, rbx, rdx, rax, rcx, rsp,
-- rip; x0 to x30, sp, pc.
abbrev pub stored_order : List ℕ
stored_order = 13 ∷ 12 ∷ 14 ∷ 11 ∷ 9 ∷ 8 ∷ 10 ∷ 15 ∷ 0 ∷ 1 ∷ 2 ∷ 3 ∷ 4 ∷ 5 ∷ 6 ∷ 7 ∷ 16 ∷ []

abbrev pub stored_index : Machine → ℕ → ℕ
stored_index machines.X86_64 number = slice_index stored_order number
stored_index machines.AArch64 number = number

-- the offset of the first of them from the stack pointer
abbrev pub stored_offset : Machine → ℕ
stored_offset machines.X86_64 = 40
stored_offset machines.AArch64 = 312

abbrev pub stored_word : Machine → StackCopy → ℕ → ℕ → Option ℕ
stored_word m c top number = word_of c (sum_of (sum_of top (stored_offset m)) (8 * stored_index m number)) 8

-- the chain ends if the stack pointer or the program counter isn't in the copy
abbrev pub are_stored : Machine → StackCopy → ℕ → Bool
are_stored m c top = is_some (stored_word m c top (stack_pointer m)) && is_some (stored_word m c top (pc_number m))

abbrev pub stored_registers : Machine → StackCopy → ℕ → Result FrameRegisters ChainEnd
stored_registers m c top =
    (if are_stored m c top then Ok (registers_below (stored_word m c top) (register_count m)) else Err ends.Truncated)

abbrev pub at_signal_from : Machine → StackCopy → Option ℕ → Result FrameRegisters ChainEnd
at_signal_from m c None = Err ends.BadCfi
at_signal_from m c (Some top) = stored_registers m c top

abbrev pub at_signal : Machine → FrameRegisters → StackCopy → Result FrameRegisters ChainEnd
at_signal m r c = at_signal_from m c (register_of r (stack_pointer m))

-- Entries of a procedure linkage table, as GNU ld describes them: in `.plt` the first 16 bytes push a word and jump, the others are of 16
-- bytes, the last five of which jump and follow a push.
abbrev pub pushed_words : Plt → ℕ
pushed_words (plts.Lazy offset) = (if nat_lt offset 6 then 1 else (if nat_lt offset 16 then 2 else (if nat_le 11 (offset % 16) then 1 else 0)))
pushed_words plts.Direct = 0

-- the return address is after the pushed words
abbrev pub returned : FrameRegisters → ℕ → Option ℕ → Result FrameRegisters ChainEnd
returned r address None = Err ends.Truncated
returned r address (Some pc) = Ok (with_register (with_register r 7 (Some (sum_of address 8))) 16 (Some pc))

abbrev pub at_plt_from : Plt → FrameRegisters → StackCopy → Option ℕ → Result FrameRegisters ChainEnd
at_plt_from p r c None = Err ends.BadCfi
at_plt_from p r c (Some top) = returned r (sum_of top (8 * pushed_words p)) (word_of c (sum_of top (8 * pushed_words p)) 8)

-- on AArch64 the return address is in x30
abbrev pub at_plt : Machine → Plt → FrameRegisters → StackCopy → Result FrameRegisters ChainEnd
at_plt machines.X86_64 p r c = at_plt_from p r c (register_of r 7)
at_plt machines.AArch64 p r c = Ok (with_register r 32 (register_of r 30))

-- Frame pointers: two words, the caller's frame pointer and the return address, and its stack pointer after them.
abbrev pub framed : Machine → ℕ → Option ℕ → Option ℕ → Result FrameRegisters ChainEnd
framed m base (Some next) (Some pc) =
    Ok (with_register (with_register (with_register no_registers (frame_pointer m) (Some next)) (stack_pointer m) (Some (sum_of base 16))) (pc_number m)
    (Some pc))
framed m base _ _ = Err ends.NoCfi

abbrev pub by_base : Machine → StackCopy → ℕ → Option ℕ → Result FrameRegisters ChainEnd
by_base m c base None = Err ends.NoCfi
by_base m c base (Some top) =
    (if nat_lt base top || not (base % 8 == 0) then Err ends.NoCfi else framed m base (word_of c base 8) (word_of c (sum_of base 8) 8))

-- a frame pointer of 0 is that of a function without a caller
abbrev pub by_frame_pointer_from : Machine → FrameRegisters → StackCopy → Option ℕ → Result FrameRegisters ChainEnd
by_frame_pointer_from m r c None = Err ends.NoCfi
by_frame_pointer_from m r c (Some base) = (if base == 0 then Err ends.Root else by_base m c base (register_of r (stack_pointer m)))

abbrev pub by_frame_pointer : Machine → FrameRegisters → StackCopy → Result FrameRegisters ChainEnd
by_frame_pointer m r c = by_frame_pointer_from m r c (register_of r (frame_pointer m))
