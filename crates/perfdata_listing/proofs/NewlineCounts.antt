-- The number of newlines in bytes: none in digits, one in a line.
use Rattle.std.proofs.Common.{◌≡◌, ℕ, zero, suc, ◌+◌, ◌/◌, ◌%◌, ◌==◌, true, false, cond, List, [], ◌∷◌, ◌++◌, Option, None, Some, refl, ap, ◌∙◌, decimal, length, option_map, flat_map, arith}
use Rattle.std.proofs.lemmas.Bool.Decides.{nat_tests}
use Rattle.std.proofs.lemmas.List.Sums.{sum_by-append}
use Rattle.std.specs.Fmt.{digits, digits_onto, digit_glyph}
use Rattle.linux_perf_data.specs.Layout.{RecordView}
use Rattle.perfdata_listing_lines.specs.ListingLine.{record_text, jit_record_text, record_line, decimal_or_dash, space_separated}
use Rattle.perfdata_listing_lines.specs.Output.{newline_count}

pub newline_count-append : (xs ys : List ℕ) → newline_count (xs ++ ys) ≡ newline_count xs + newline_count ys
newline_count-append = sum_by-append (λ b. cond (b == 10) 1 0)

newline_count-glyph : (d : ℕ) (bytes : List ℕ) → newline_count (digit_glyph false d ∷ bytes) ≡ newline_count bytes
newline_count-glyph d bytes = grind (arith, nat_tests)

newline_count-digits : (k n : ℕ) (bytes : List ℕ) → newline_count (digits_onto k 10 false n bytes) ≡ newline_count bytes
newline_count-digits zero n bytes = refl
newline_count-digits (suc k) n bytes =
    let glyph = digit_glyph false (n % 10) in
    elim (n / 10 == 0) as (λ b. newline_count (cond b (glyph ∷ bytes) (digits_onto k 10 false (n / 10) (glyph ∷ bytes))) ≡ newline_count bytes) [
      | true ↦ newline_count-glyph (n % 10) bytes
      | false ↦ newline_count-digits k (n / 10) (glyph ∷ bytes) ∙ newline_count-glyph (n % 10) bytes
    ]

-- a decimal number contains no newline
pub newline_count-decimal : (n : ℕ) → newline_count (decimal n) ≡ 0
unfolding digits
newline_count-decimal n = newline_count-digits 64 n []

newline_count-decimal_or_dash : (n : Option ℕ) → newline_count (decimal_or_dash n) ≡ 0
newline_count-decimal_or_dash None = refl
newline_count-decimal_or_dash (Some n) = newline_count-decimal n

newline_count-space_separated : (field rest : List ℕ) → newline_count field ≡ 0 → newline_count (space_separated field rest) ≡ newline_count rest
newline_count-space_separated field rest none = newline_count-append field (32 ∷ rest) ∙ omega (arith, none)

-- a record's line contains one newline
pub newline_count-record_text : (offset round : ℕ) (time attr : Option ℕ) (record_type misc body_length : ℕ) → newline_count (record_text offset round time attr record_type misc body_length) ≡ 1
newline_count-record_text offset round time attr record_type misc body_length =
    let at_length = decimal body_length ++ (10 ∷ []) in
    let at_misc = space_separated (decimal misc) at_length in
    let at_record_type = space_separated (decimal record_type) at_misc in
    let at_attr = space_separated (decimal_or_dash attr) at_record_type in
    let at_time = space_separated (decimal_or_dash time) at_attr in
    let at_round = space_separated (decimal round) at_time in
    newline_count-space_separated (decimal offset) at_round (newline_count-decimal offset) ∙ newline_count-space_separated (decimal round) at_time (newline_count-decimal round)
    ∙ newline_count-space_separated (decimal_or_dash time) at_attr (newline_count-decimal_or_dash time) ∙ newline_count-space_separated (decimal_or_dash attr) at_record_type (newline_count-decimal_or_dash attr)
    ∙ newline_count-space_separated (decimal record_type) at_misc (newline_count-decimal record_type) ∙ newline_count-space_separated (decimal misc) at_length (newline_count-decimal misc)
    ∙ newline_count-append (decimal body_length) (10 ∷ []) ∙ ap (λ n. n + 1) (newline_count-decimal body_length)

pub newline_count-record_line : (h : RecordView) → newline_count (record_line h) ≡ 1
newline_count-record_line h = newline_count-record_text h.offset h.round h.timestamp (option_map (λ e. e.index) h.event) h.record_type h.misc (length h.body)

-- the line of a jitdump record contains one newline
pub newline_count-jit_record_text : (offset time record_type size : ℕ) → newline_count (jit_record_text offset time record_type size) ≡ 1
newline_count-jit_record_text offset time record_type size =
    let at_size = decimal size ++ (10 ∷ []) in
    let at_record_type = space_separated (decimal record_type) at_size in
    let at_time = space_separated (decimal time) at_record_type in
    newline_count-space_separated (decimal offset) at_time (newline_count-decimal offset) ∙ newline_count-space_separated (decimal time) at_record_type (newline_count-decimal time)
    ∙ newline_count-space_separated (decimal record_type) at_size (newline_count-decimal record_type) ∙ newline_count-append (decimal size) (10 ∷ []) ∙ ap (λ n. n + 1) (newline_count-decimal size)

-- the lines of records contain one newline for each record
pub newline_count-record_lines : (hs : List RecordView) → newline_count (flat_map record_line hs) ≡ length hs
newline_count-record_lines [] = refl
newline_count-record_lines (h ∷ hs) = newline_count-append (record_line h) (flat_map record_line hs) ∙ omega (arith, newline_count-record_line h, newline_count-record_lines hs)
