use Rattle.std.specs.List.{AllPass}
use Rattle.std.proofs.Common.{sym, subst, List, ℕ, ◌∙◌}
use Rattle.std.proofs.lemmas.Bool.{false≢true}
use Rattle.std.proofs.lemmas.Result.{err_from_is_err_and}
use Rattle.demangle_text.specs.Legacy.{is_part_byte}
use Rattle.demangle_text.proofs.ReadLemmas.{no_number_at, no_zero_at, too_few_at, part_at, same_part_at, IsTaken}
use Rattle.demangle_text.proofs.legacy.part.Goals as goal

pub returns-in_default-clause-none : goal.returns-in_default-clause-none
returns-in_default-clause-none c = λ part rest is same.
    no_number_at c.args.cursor.now c.number.result c.in_default.field-0 c.number.new.self part rest c.in_default.is c.number.ensures.number c.len-count.ensures.memory is same

pub returns-then-has_zero-clause-none : goal.returns-then-has_zero-clause-none
returns-then-has_zero-clause-none c = λ part rest is same.
    no_zero_at c.args.cursor.now part rest (c.is_next-has_zero.ensures.0 c.if-has_zero.true) c.len-count.ensures.memory is same

pub returns-in_err-part-clause-none : goal.returns-in_err-part-clause-none
returns-in_err-part-clause-none c =
    let p = err_from_is_err_and c.from_residual.result c.from_residual.ensures.1 in
    rw p.1 (λ part rest is same. too_few_at c.args.cursor.now c.number.new.self c.in-Ok.length part rest c.in-Ok.ensures.number c.number.ensures.bytes c.in_err-part.ensures.few c.len-count.ensures.memory is same)

pub returns-then-are_part_bytes-clause-part : goal.returns-then-are_part_bytes-clause-part
returns-then-are_part_bytes-clause-part c =
    let taken : IsTaken c.args.cursor.now c.number.new.self c.take.new.self c.in-Ok.length c.in_ok-part.part.now = record { read = c.in-Ok.ensures.number; same = c.number.ensures.bytes; kept = c.take.ensures.bytes; position = c.in_ok-part.ensures.position; within = c.in_ok-part.ensures.within; taken = c.in_ok-part.ensures.taken; small = c.len-count.ensures.memory } in
    let is = part_at c.args.cursor.now c.number.new.self c.take.new.self c.in-Ok.length c.in_ok-part.part.now taken (λ e. let h = c.is_next-has_zero.ensures.1 e in cc) in
    record { some = is.some; first = is.first; bytes = c.are_part_bytes.ensures.0 c.if-are_part_bytes.true }

pub returns-then-are_part_bytes-clause-bytes : goal.returns-then-are_part_bytes-clause-bytes
returns-then-are_part_bytes-clause-bytes c =
    let taken : IsTaken c.args.cursor.now c.number.new.self c.take.new.self c.in-Ok.length c.in_ok-part.part.now = record { read = c.in-Ok.ensures.number; same = c.number.ensures.bytes; kept = c.take.ensures.bytes; position = c.in_ok-part.ensures.position; within = c.in_ok-part.ensures.within; taken = c.in_ok-part.ensures.taken; small = c.len-count.ensures.memory } in
    (part_at c.args.cursor.now c.number.new.self c.take.new.self c.in-Ok.length c.in_ok-part.part.now taken (λ e. let h = c.is_next-has_zero.ensures.1 e in cc)).bytes

pub returns-then-are_part_bytes-clause-position : goal.returns-then-are_part_bytes-clause-position
returns-then-are_part_bytes-clause-position c =
    let taken : IsTaken c.args.cursor.now c.number.new.self c.take.new.self c.in-Ok.length c.in_ok-part.part.now = record { read = c.in-Ok.ensures.number; same = c.number.ensures.bytes; kept = c.take.ensures.bytes; position = c.in_ok-part.ensures.position; within = c.in_ok-part.ensures.within; taken = c.in_ok-part.ensures.taken; small = c.len-count.ensures.memory } in
    (part_at c.args.cursor.now c.number.new.self c.take.new.self c.in-Ok.length c.in_ok-part.part.now taken (λ e. let h = c.is_next-has_zero.ensures.1 e in cc)).position

pub returns-else-are_part_bytes-clause-none : goal.returns-else-are_part_bytes-clause-none
returns-else-are_part_bytes-clause-none c = λ other rest is same.
    let taken : IsTaken c.args.cursor.now c.number.new.self c.take.new.self c.in-Ok.length c.in_ok-part.part.now = record { read = c.in-Ok.ensures.number; same = c.number.ensures.bytes; kept = c.take.ensures.bytes; position = c.in_ok-part.ensures.position; within = c.in_ok-part.ensures.within; taken = c.in_ok-part.ensures.taken; small = c.len-count.ensures.memory } in
    let equal = same_part_at c.args.cursor.now c.number.new.self c.take.new.self c.in-Ok.length c.in_ok-part.part.now other rest taken is same in
    let all = c.are_part_bytes.ensures.1 (subst (λ (bs : List ℕ). AllPass is_part_byte bs) (sym equal) is.bytes) in
    absurd (false≢true (sym c.if-are_part_bytes.false ∙ all))
