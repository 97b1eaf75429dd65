-- A number and a part that are read at a cursor.
use Rattle.std.proofs.Common.{◌≡◌, ◌≢◌, ℕ, zero, suc, ◌+◌, ◌-◌, ◌*◌, ◌^◌, ◌<◌, ◌≤◌, false, List, [], ◌∷◌, ◌++◌, Some, Result, Err, length, get_or, take, drop, refl, sym, ap, ◌∙◌, subst, arith, append_assoc, length-append, length-drop, drop-drop, take-append-drop, take_at, drop_at, slice_get, slice_range}
use Rattle.std.specs.Char.{is_ascii_digit, IsAsciiDigit, digit_value}
use Rattle.std.specs.Fmt.{decimal}
use Rattle.std.specs.Str.Parse.{digits_value, digits_value_after}
use Rattle.std.proofs.lemmas.Fmt.{decimal_is_IsNumeral, first_decimal}
use Rattle.std.proofs.lemmas.List.{drop_more, get_or_append_left, get_or-take}
use Rattle.std.proofs.lemmas.Option.{get_or_from_slice_get, slice_get_within, slice_get-get_or}
use Rattle.demangle_text.specs.Cursor.{bytes_of, byte_at, position_of, unread, IsNumberRead, ReadsNumber}
use Rattle.demangle_text.specs.steps.Cursor.{IsDigitAt}
use Rattle.demangle_text.specs.Digits.{leading_digits}
use Rattle.demangle_text.specs.Legacy.{IsPart, written}
use Rattle.demangle_text.specs.declared.cursor.Cursor.{Cursor}
use Rattle.demangle_text.specs.declared.failure.Failure.{Failure}
use Rattle.demangle_text.specs.declared.failure.Failure.TheVariants.{Grammar, Limit, Memory}
use Rattle.demangle_text.proofs.DigitLemmas.{digit_yes, digit_value-digit, leading_digits-yes, leading_digits-no, leading_digits_split, after_leading_digits, all_leading_digits, value_after-le, decimal_of_digits}
use Rattle.demangle_text.proofs.PartLemmas.{leading_digits-written}

next_byte : (bytes : List ℕ) (i c : ℕ) → slice_get bytes i ≡ Some c → drop i bytes ≡ c ∷ drop (i + 1) bytes
next_byte bytes i c here = drop_more bytes i 0 (slice_get_within bytes i c here) ∙ ap (λ (b : ℕ). b ∷ drop (i + 1) bytes) (get_or_from_slice_get bytes i c 0 here)

pub slice_get-drop : (i : ℕ) (xs : List ℕ) → slice_get (drop i xs) 0 ≡ slice_get xs i
slice_get-drop zero xs = refl
slice_get-drop (suc i) [] = refl
slice_get-drop (suc i) (x ∷ xs) = slice_get-drop i xs

-- the byte at a cursor is the first one of those that are unread
pub unread_first : (c : Cursor) (b : ℕ) → byte_at c ≡ Some b → get_or (unread c) 0 0 ≡ b
unread_first c b here = get_or_from_slice_get (unread c) 0 b 0 (slice_get-drop (position_of c) (bytes_of c) ∙ here)

pub first_unread : (c : Cursor) → 0 < length (unread c) → byte_at c ≡ Some (get_or (unread c) 0 0)
first_unread c some = sym (slice_get-drop (position_of c) (bytes_of c)) ∙ slice_get-get_or (unread c) 0 0 some

-- no digit is at a position
pub no_leading : (bytes : List ℕ) (i c : ℕ) → slice_get bytes i ≡ Some c → is_ascii_digit c ≡ false → leading_digits (drop i bytes) ≡ []
no_leading bytes i c here not = ap leading_digits (next_byte bytes i c here) ∙ leading_digits-no c (drop (i + 1) bytes) not

leading_at : (c : Cursor) (digit : ℕ) (at : IsDigitAt c digit) → leading_digits (unread c) ≡ at.byte ∷ leading_digits (drop (position_of c + 1) (bytes_of c))
leading_at c digit at =
    ap leading_digits (next_byte (bytes_of c) (position_of c) at.byte at.byte_is)
    ∙ leading_digits-yes at.byte (drop (position_of c + 1) (bytes_of c)) (digit_yes at.byte at.is_digit)

pub digit_within : (c : Cursor) (digit : ℕ) → IsDigitAt c digit → position_of c < length (bytes_of c)
digit_within c digit at = slice_get_within (bytes_of c) (position_of c) at.byte at.byte_is

pub digit_position : (c : Cursor) (digit : ℕ) → IsDigitAt c digit → length (leading_digits (unread c)) ≡ length (leading_digits (drop (position_of c + 1) (bytes_of c))) + 1
digit_position c digit at = omega (arith, ap length (leading_at c digit at))

pub digit_step : (c : Cursor) (number digit next value : ℕ) → IsDigitAt c digit → next ≡ number * 10 + digit → digits_value_after 10 number (leading_digits (unread c)) ≡ value → digits_value_after 10 next (leading_digits (drop (position_of c + 1) (bytes_of c))) ≡ value
digit_step c number digit next value at is same =
    let equal : next ≡ number * 10 + digit_value at.byte = omega (arith, is, at.value, digit_value-digit at.byte at.is_digit) in
    ap (λ (n : ℕ). digits_value_after 10 n (leading_digits (drop (position_of c + 1) (bytes_of c)))) equal
    ∙ ap (digits_value_after 10 number) (sym (leading_at c digit at))
    ∙ same

pub digit_limit : (c : Cursor) (number digit value : ℕ) → IsDigitAt c digit → digits_value_after 10 number (leading_digits (unread c)) ≡ value → number * 10 + digit ≤ value
digit_limit c number digit value at same =
    let step = digit_step c number digit (number * 10 + digit) value at refl same in
    omega (arith, step, value_after-le (number * 10 + digit) (leading_digits (drop (position_of c + 1) (bytes_of c))))

-- what is read of bytes that start with a part
pub record StartsPart (bytes part rest : List ℕ) : Type 0 where
  pub small : length part < 2 ^ 64
  pub digits : leading_digits bytes ≡ decimal (length part)
  pub value : digits_value 10 (leading_digits bytes) ≡ length part
  pub after : drop (length (leading_digits bytes)) bytes ≡ part ++ rest
  pub first : 48 < get_or bytes 0 0
  pub fits : length (leading_digits bytes) + length part ≤ length bytes

pub starts_part : (bytes part rest : List ℕ) → IsPart part → length bytes < 2 ^ 64 → bytes ≡ written part ++ rest → StartsPart bytes part rest
starts_part bytes part rest is small same =
    let lengths = ap length same in
    let long : length part < 2 ^ 64 = omega (arith, lengths, length-append (written part) rest, length-append (decimal (length part)) part, small) in
    let digits : leading_digits bytes ≡ decimal (length part) = ap leading_digits same ∙ leading_digits-written part rest is long in
    let numeral = decimal_is_IsNumeral (length part) long in
    let front : bytes ≡ decimal (length part) ++ (part ++ rest) = same ∙ append_assoc (decimal (length part)) part rest in
    record {
      small = long;
      digits = digits;
      value = ap (digits_value 10) digits ∙ numeral.1;
      after = ap (λ (ds : List ℕ). drop (length ds) bytes) digits ∙ ap (drop (length (decimal (length part)))) front ∙ drop_at (decimal (length part)) (part ++ rest) (length (decimal (length part))) refl;
      first = omega (arith, first_decimal (length part) is.some long, ap (λ (bs : List ℕ). get_or bs 0 0) front, get_or_append_left (decimal (length part)) (part ++ rest) 0 0 numeral.0.0);
      fits = omega (arith, ap length digits, lengths, length-append (written part) rest, length-append (decimal (length part)) part);
    }

-- a part whose length isn't read
pub no_number : (old : Cursor) (why : Failure) (new : Cursor) (part rest : List ℕ) → ReadsNumber old (Err why) new → IsPart part → length (unread old) < 2 ^ 64 → unread old ≡ written part ++ rest → ⊥
no_number old Grammar new part rest none is small same =
    let s = starts_part (unread old) part rest is small same in
    absurd (omega (arith, ap length none, ap length s.digits, (decimal_is_IsNumeral (length part) s.small).0.0))
no_number old Limit new part rest large is small same =
    let s = starts_part (unread old) part rest is small same in
    absurd (omega (arith, large, s.value, s.small))
no_number old Memory new part rest none is small same = none

-- the bytes of a part whose length was read
pub record PartRead (c d : Cursor) (part : List ℕ) : Type 0 where
  pub some : 0 < length part
  pub first : ¬ IsAsciiDigit (get_or part 0 0)
  pub bytes : unread c ≡ written part ++ unread d
  pub position : position_of d ≡ position_of c + length (written part)

front_length : (n : ℕ) (xs : List ℕ) → n ≤ length xs → length (take n xs) ≡ n
front_length n xs le = omega (arith, ap length (take-append-drop n xs), length-append (take n xs) (drop n xs), length-drop n xs)

pub part_taken : (bytes : List ℕ) (p q number : ℕ) → digits_value 10 (leading_digits (drop p bytes)) ≡ number → 0 < length (leading_digits (drop p bytes)) → q ≡ p + length (leading_digits (drop p bytes)) → number < 2 ^ 64 → get_or (drop p bytes) 0 0 ≢ 48 → q + number ≤ length bytes → (0 < length (take number (drop q bytes))) × (¬ IsAsciiDigit (get_or (take number (drop q bytes)) 0 0)) × (drop p bytes ≡ written (take number (drop q bytes)) ++ drop (q + number) bytes) × (q + number ≡ p + length (written (take number (drop q bytes))))
part_taken bytes p q number value some at small not fits =
    let u = drop p bytes in
    let ds = leading_digits u in
    let split = leading_digits_split u in
    let head : get_or u 0 0 ≡ get_or ds 0 0 = ap (λ (bs : List ℕ). get_or bs 0 0) split ∙ get_or_append_left ds (drop (length ds) u) 0 0 some in
    let canon = decimal_of_digits ds some (all_leading_digits u) (λ e. not (head ∙ e)) (omega (arith, value, small)) in
    let here : drop (length ds) u ≡ drop q bytes = drop-drop (length ds) p bytes ∙ ap (λ (n : ℕ). drop n bytes) (sym at) in
    let count : length (take number (drop q bytes)) ≡ number = front_length number (drop q bytes) (omega (arith, length-drop q bytes, fits)) in
    let positive : 0 < number = omega (arith, canon.1, value) in
    let digits : ds ≡ decimal (length (take number (drop q bytes))) = sym canon.0 ∙ ap decimal (value ∙ sym count) in
    let head_part : get_or (take number (drop q bytes)) 0 0 ≡ get_or (drop (length ds) u) 0 0 = get_or-take number (drop q bytes) 0 0 positive ∙ ap (λ (bs : List ℕ). get_or bs 0 0) (sym here) in
    let later : drop number (drop q bytes) ≡ drop (q + number) bytes = drop-drop number q bytes in (
      omega (arith, count, positive),
      subst (λ (b : ℕ). ¬ IsAsciiDigit b) (sym head_part) (after_leading_digits u),
      split
          ∙ ap (λ (bs : List ℕ). ds ++ bs) (here ∙ sym (take-append-drop number (drop q bytes)))
          ∙ ap (λ (bs : List ℕ). ds ++ (take number (drop q bytes) ++ bs)) later
          ∙ ap (λ (bs : List ℕ). bs ++ (take number (drop q bytes) ++ drop (q + number) bytes)) digits
          ∙ sym (append_assoc (decimal (length (take number (drop q bytes)))) (take number (drop q bytes)) (drop (q + number) bytes)),
      omega (arith, at, ap length digits, count, length-append (decimal (length (take number (drop q bytes)))) (take number (drop q bytes))),
    )

-- the part that bytes start with is the one that is taken
pub taken_part : (bytes part rest : List ℕ) (p q number : ℕ) → IsPart part → length (drop p bytes) < 2 ^ 64 → drop p bytes ≡ written part ++ rest → digits_value 10 (leading_digits (drop p bytes)) ≡ number → q ≡ p + length (leading_digits (drop p bytes)) → take number (drop q bytes) ≡ part
taken_part bytes part rest p q number is small same value at =
    let s = starts_part (drop p bytes) part rest is small same in
    let here : drop q bytes ≡ part ++ rest = ap (λ (n : ℕ). drop n bytes) at ∙ sym (drop-drop (length (leading_digits (drop p bytes))) p bytes) ∙ s.after in
    ap (take number) here ∙ take_at part rest number (sym s.value ∙ value)

-- a part whose length was read at a cursor `c` up to a cursor `m`, and which was taken up to a cursor `d`
pub record IsTaken (c m d : Cursor) (number : ℕ) (part : List ℕ) : Type 0 where
  pub read : IsNumberRead c number m
  pub same : bytes_of m ≡ bytes_of c
  pub kept : bytes_of d ≡ bytes_of m
  pub position : position_of d ≡ position_of m + number
  pub within : position_of d ≤ length (bytes_of m)
  pub taken : part ≡ slice_range (bytes_of m) (position_of m) (position_of d)
  pub small : length (bytes_of c) < 2 ^ 64

taken_is : (c m d : Cursor) (number : ℕ) (part : List ℕ) → IsTaken c m d number part → part ≡ take number (drop (position_of m) (bytes_of c))
taken_is c m d number part t =
    let count : position_of d - position_of m ≡ number = omega (arith, t.position) in
    t.taken
    ∙ ap (λ (k : ℕ). take k (drop (position_of m) (bytes_of m))) count
    ∙ ap (λ (bs : List ℕ). take number (drop (position_of m) bs)) t.same

some_unread : (c m d : Cursor) (number : ℕ) (part : List ℕ) → IsTaken c m d number part → 0 < length (unread c)
some_unread c m d number part t =
    omega (arith, ap length (leading_digits_split (unread c)), length-append (leading_digits (unread c)) (drop (length (leading_digits (unread c))) (unread c)), t.read.some)

pub part_at : (c m d : Cursor) (number : ℕ) (part : List ℕ) → IsTaken c m d number part → byte_at c ≢ Some 48 → PartRead c d part
part_at c m d number part t not =
    let is = taken_is c m d number part t in
    let some = some_unread c m d number part t in
    let zero : get_or (unread c) 0 0 ≢ 48 = λ e. not (first_unread c some ∙ ap Some e) in
    let fits : position_of m + number ≤ length (bytes_of c) = omega (arith, t.position, t.within, ap length t.same) in
    let pieces = part_taken (bytes_of c) (position_of c) (position_of m) number (sym t.read.value) t.read.some t.read.position (omega (arith, fits, t.small)) zero fits in
    let rest : drop (position_of m + number) (bytes_of c) ≡ unread d = ap (λ (n : ℕ). drop n (bytes_of c)) (sym t.position) ∙ ap (drop (position_of d)) (sym (t.kept ∙ t.same)) in
    record {
      some = subst (λ (bs : List ℕ). 0 < length bs) (sym is) pieces.0;
      first = subst (λ (bs : List ℕ). ¬ IsAsciiDigit (get_or bs 0 0)) (sym is) pieces.1;
      bytes = pieces.2 ∙ ap (λ (bs : List ℕ). written bs ++ drop (position_of m + number) (bytes_of c)) (sym is) ∙ ap (λ (bs : List ℕ). written part ++ bs) rest;
      position = t.position ∙ pieces.3 ∙ ap (λ (bs : List ℕ). position_of c + length (written bs)) (sym is);
    }

short_unread : (c : Cursor) → length (bytes_of c) < 2 ^ 64 → length (unread c) < 2 ^ 64
short_unread c small = omega (arith, length-drop (position_of c) (bytes_of c), small)

pub same_part_at : (c m d : Cursor) (number : ℕ) (part other rest : List ℕ) → IsTaken c m d number part → IsPart other → unread c ≡ written other ++ rest → part ≡ other
same_part_at c m d number part other rest t is same =
    taken_is c m d number part t ∙ taken_part (bytes_of c) other rest (position_of c) (position_of m) number is (short_unread c t.small) same (sym t.read.value) t.read.position

-- no part starts with a zero
pub no_zero_at : (c : Cursor) (part rest : List ℕ) → byte_at c ≡ Some 48 → length (bytes_of c) < 2 ^ 64 → IsPart part → unread c ≡ written part ++ rest → ⊥
no_zero_at c part rest here small is same =
    absurd (omega (arith, (starts_part (unread c) part rest is (short_unread c small) same).first, unread_first c 48 here))

pub no_number_at : (c : Cursor) (r : Result ℕ Failure) (why : Failure) (new : Cursor) (part rest : List ℕ) → r ≡ Err why → ReadsNumber c r new → length (bytes_of c) < 2 ^ 64 → IsPart part → unread c ≡ written part ++ rest → ⊥
no_number_at c r why new part rest at reads small is same =
    no_number c why new part rest (subst (λ (s : Result ℕ Failure). ReadsNumber c s new) at reads) is (short_unread c small) same

-- a part that isn't there whole
pub too_few_at : (c m : Cursor) (number : ℕ) (part rest : List ℕ) → IsNumberRead c number m → bytes_of m ≡ bytes_of c → length (bytes_of m) < position_of m + number → length (bytes_of c) < 2 ^ 64 → IsPart part → unread c ≡ written part ++ rest → ⊥
too_few_at c m number part rest read kept few small is same =
    let s = starts_part (unread c) part rest is (short_unread c small) same in
    absurd (omega (arith, s.value, s.fits, read.value, read.some, read.position, few, ap length kept, length-drop (position_of c) (bytes_of c)))
