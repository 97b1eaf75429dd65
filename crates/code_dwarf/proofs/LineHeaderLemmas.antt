-- The instructions of a line program are those that its header is followed by.
use Rattle.std.proofs.Common.{◌≡◌, ℕ, ◌+◌, ◌-◌, ◌<◌, ◌≤◌, List, [], ◌∷◌, length, take, drop, Bool, true, false, refl, sym, ap, ◌∙◌, subst, inl, inr, arith, length-drop, length-take-le}
use Rattle.std.specs.Prelude.{slice_range, nat_le, ◌&&◌, if◌then◌else◌}
use Rattle.std.proofs.lemmas.Bool.{cases_lt}
use Rattle.std.proofs.lemmas.Bool.Decides.{nat_tests}
use Rattle.std.proofs.lemmas.List.{drop-drop, drop-take, drop_all}
use Rattle.code_dwarf.specs.steps.Numbers.{NumberAt, OffsetAt, LengthAt, SplitAt, SkippedAt}
use Rattle.code_dwarf.specs.steps.LineHeaders.{AddressSizeAt, LineHeaderAt}
use Rattle.code_dwarf.specs.steps.LineRows.{program_bytes}
use Rattle.code_dwarf.specs.declared.fixed.Endianness.{Endianness}
use Rattle.code_dwarf.specs.declared.line_header.LineHeader.{LineHeader}
use Rattle.code_dwarf.proofs.LineRowLemmas.{Suffix, suffix_more, suffix_is}

length_suffix : (endian : Endianness) (is_64 : Bool) (bytes : List ℕ) (n : ℕ) (rest : List ℕ) → LengthAt endian is_64 bytes n rest → Suffix rest bytes
length_suffix endian false bytes n rest at = (4, at.0.after)
length_suffix endian true bytes n rest at = suffix_more rest at.0 bytes (8, at.2.after) (4, at.1.after)

offset_suffix : (endian : Endianness) (is_64 : Bool) (bytes : List ℕ) (n : ℕ) (rest : List ℕ) → OffsetAt endian is_64 bytes n rest → Suffix rest bytes
offset_suffix endian false bytes n rest at = (4, at.after)
offset_suffix endian true bytes n rest at = (8, at.after)

size_suffix : (version : ℕ) (given : Bool) (bytes : List ℕ) (wide : Bool) (rest : List ℕ) → AddressSizeAt version given bytes wide rest → Suffix rest bytes
size_suffix version given bytes wide rest (inl at) = (0, at.2)
size_suffix version given bytes wide rest (inr (five, (size, mid, split, known, after))) =
    suffix_more rest mid bytes (1, after.after) (1, sym (ap (λ (l : List ℕ). drop 1 l) split))

both : (a b : ℕ) (n : ℕ) → a ≤ b → b ≤ n → (nat_le a b && nat_le b n) ≡ true
both a b n low high = grind (arith, nat_tests, low, high)

-- the part of a list that is a suffix of a part
part_of : (section mid contents instructions : List ℕ) (len j start end : ℕ) → mid ≡ drop j section → len ≤ length mid → contents ≡ take len mid → Suffix instructions contents → j ≤ length section → end ≡ j + len → start + length instructions ≡ end
    → (start ≤ end) × (end ≤ length section) × (slice_range section start end ≡ instructions)
part_of section mid contents instructions len j start end mid_is within contents_is suffix low end_is start_is =
    let sizes : length contents ≡ len = ap length contents_is ∙ length-take-le len mid within in
    let mids : length mid ≡ length section - j = ap length mid_is ∙ length-drop j section in
    let k : ℕ = length contents - length instructions in
    let is : instructions ≡ drop k contents = suffix_is instructions contents suffix in
    let count : length instructions ≡ length contents - k = ap length is ∙ length-drop k contents in
    let starts : start ≡ j + k = omega (arith, count, sizes, end_is, start_is) in
    let rest : len ≡ k + (end - start) = omega (arith, count, sizes, end_is, start_is) in
    let there : slice_range section start end ≡ instructions =
    ap (λ (n : ℕ). take (end - start) (drop n section)) starts ∙ sym (ap (λ (l : List ℕ). take (end - start) l) (drop-drop k j section)) ∙ sym (ap (λ (l : List ℕ). take (end - start) (drop k l)) mid_is)
    ∙ sym (drop-take k (end - start) mid) ∙ sym (ap (λ (n : ℕ). drop k (take n mid)) rest) ∙ sym (ap (λ (l : List ℕ). drop k l) contents_is) ∙ sym is in
    (omega (arith, start_is), omega (arith, end_is, mids, within, low), there)

pub program_at : (section : List ℕ) (offset : ℕ) (endian : Endianness) (given : Bool) (h : LineHeader) (at : LineHeaderAt section offset endian given h) → program_bytes section h ≡ at.instructions
program_at section offset endian given h at =
    let to_mid : Suffix at.mid section = suffix_more at.mid at.bytes section (length_suffix endian at.is_64 at.bytes at.len at.mid at.length_at) (offset, at.bytes_at.after) in
    let to_size : Suffix at.after_size at.contents = suffix_more at.after_size at.after_version at.contents (size_suffix h.encoding.version given at.after_version h.encoding.has_64_bit_addresses at.after_size at.size_at) (2, at.version_at.after) in
    let to_length : Suffix at.after_length at.contents = suffix_more at.after_length at.after_size at.contents (offset_suffix endian at.is_64 at.after_size at.size at.after_length at.header_length_at) to_size in
    let to_program : Suffix at.instructions at.contents = suffix_more at.instructions at.after_length at.contents (at.size, at.header_at.after) to_length in
    let within = at.contents_at.within in
    let mids : length at.mid ≡ length section - to_mid.0 = ap length to_mid.1 ∙ length-drop to_mid.0 section in
    let rests : length at.rest ≡ length at.mid - at.len = ap length at.contents_at.after ∙ length-drop at.len at.mid in
    let two = at.version_at.within in
    let sizes : length at.contents ≡ at.len = ap length at.contents_at.block_is ∙ length-take-le at.len at.mid within in
    let ends = at.ends in
    let low : to_mid.0 ≤ length section = omega (arith, two, sizes, within, mids) in
    let end_is : h.instructions.end ≡ to_mid.0 + at.len = omega (arith, ends, rests, mids, within, low) in
    let p = part_of section at.mid at.contents at.instructions at.len to_mid.0 h.instructions.start h.instructions.end to_mid.1 within at.contents_at.block_is to_program low end_is at.instructions_start in
    ap (λ (b : Bool). (if b then slice_range section h.instructions.start h.instructions.end else [])) (both h.instructions.start h.instructions.end (length section) p.0 p.1) ∙ p.2
