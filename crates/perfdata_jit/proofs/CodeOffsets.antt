-- The offset of a load record's code.
use Rattle.std.proofs.Common.{◌≡◌, ℕ, ◌+◌, ◌-◌, ◌≤◌, List, [], ◌∷◌, ◌++◌, take, drop, length, sym, ap, ◌∙◌, append_assoc, arith, length-append, length-drop}
use Rattle.std.proofs.lemmas.List.{take-append-drop, length-take-le}
use Rattle.std.proofs.Math.Seq.{take-append_seam, drop-append_seam}
use Rattle.std.specs.List.{slice_range}
use Rattle.perfdata_sources.specs.Raw.{bytes_of}
use Rattle.perfdata_jit.specs.JitRecords.{CodeIsAtOffset}

-- the range of a part after a prefix
range_after : (prefix part rest : List ℕ) (at : ℕ) → at ≡ length prefix → slice_range (prefix ++ (part ++ rest)) at (at + length part) ≡ part
range_after prefix part rest at is =
    ap (λ l. take (at + length part - at) l) (ap (λ n. drop n (prefix ++ (part ++ rest))) is ∙ drop-append_seam prefix (part ++ rest))
    ∙ ap (λ n. take n (part ++ rest)) (let m = at + length part - at in let e : m ≡ length part = omega arith in e) ∙ take-append_seam part rest

pub code_is_at_offset : CodeIsAtOffset
code_is_at_offset number header body load sixteen is =
    let name = bytes_of load.function_name in
    let code = bytes_of load.code_bytes in
    let rest : List ℕ = is.after_body in
    let split = is.name_text.split in
    let long = length-append name (0 ∷ (code ++ rest)) in
    let long_enough : 40 ≤ length body = omega (arith, length-drop 40 body, ap length split, long) in
    let prefix = header ++ (take 40 body ++ (name ++ (0 ∷ []))) in
    let whole : header ++ body ≡ prefix ++ (code ++ rest) =
    ap (λ l. header ++ l) (sym (take-append-drop 40 body) ∙ ap (λ l. take 40 body ++ l) (split ∙ sym (append_assoc name (0 ∷ []) (code ++ rest))) ∙ sym (append_assoc (take 40 body) (name ++ (0 ∷ [])) (code ++ rest)))
    ∙ sym (append_assoc header (take 40 body ++ (name ++ (0 ∷ []))) (code ++ rest))
    in
    let first = length-append header (take 40 body ++ (name ++ (0 ∷ []))) in
    let second = length-append (take 40 body) (name ++ (0 ∷ [])) in
    let third = length-append name (0 ∷ []) in
    let forty = length-take-le 40 body long_enough in
    let offset = 57 + length name in
    let at : offset ≡ length prefix = omega (arith, first, second, third, forty, sixteen) in
    ap (λ l. slice_range l offset (offset + length code)) whole ∙ range_after prefix code rest offset at
