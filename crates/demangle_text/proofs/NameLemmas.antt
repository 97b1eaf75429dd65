-- The parts of a name that were read, and the name.
use Rattle.std.proofs.Common.{◌≡◌, ◌≢◌, ◌⊎◌, ℕ, zero, suc, ◌+◌, ◌^◌, ◌<◌, ◌≤◌, ◌||◌, Bool, true, false, List, [], ◌∷◌, ◌++◌, Some, length, get_or, take, drop, refl, sym, ap, ◌∙◌, subst, inl, inr, arith, append_assoc, append-nil, length-append, length-drop, take_at, le-leb, slice_get, eqb}
use Rattle.std.specs.Fmt.{decimal}
use Rattle.std.specs.Int.{is_in_range}
use Rattle.std.specs.List.{All, AllPass, flat_map, slice_index_or}
use Rattle.std.proofs.lemmas.List.{drop_more, flat_map_more, same_from_push, drop_all}
use Rattle.std.proofs.lemmas.List.Elements.{All-push, All-take}
use Rattle.std.proofs.lemmas.Option.{get_or_from_slice_get, slice_get_within}
use Rattle.demangle_text.specs.Cursor.{bytes_of, byte_at, unread, position_of}
use Rattle.demangle_text.specs.declared.cursor.Cursor.{Cursor}
use Rattle.demangle_text.specs.Legacy.{AppendsParts, AreParts, IsHash, IsHexDigit, IsLegacyName, IsPart, is_part_byte, written, text_of_part, text_of_parts}
use Rattle.demangle_text.specs.steps.Legacy.{AppendsPart, separator}
use Rattle.demangle_text.specs.Text.{IsWhy, text_of, limit_of}
use Rattle.demangle_text.specs.declared.text.Text.{Text}
use Rattle.demangle_text.specs.declared.failure.Failure.{Failure}
use Rattle.demangle_text.specs.declared.failure.Failure.TheVariants.{Grammar, Limit, Memory}
use Rattle.demangle_text.proofs.PartLemmas.{IsRest, read_parts, first_digit, some_bytes, text_with_part, text_with_part-le}
use Rattle.demangle_text.proofs.ReadLemmas.{slice_get-drop}

or_third : (a b t w : Bool) → t ≡ true → (((a || b) || t) || w) ≡ true
or_third true b t w is = refl
or_third false true t w is = refl
or_third false false t w is = ap (λ (x : Bool). x || w) is

hex_part_byte : (b : ℕ) → IsHexDigit b → is_part_byte b ≡ true
unfolding is_part_byte
hex_part_byte b (inl digit) = rw (le-leb 48 b digit.0, le-leb b 57 digit.1)
hex_part_byte b (inr letter) =
    or_third (is_in_range 48 57 b) (is_in_range 65 90 b) (is_in_range 97 122 b) (eqb b 95 || (eqb b 36 || (eqb b 46 || (eqb b 58 || eqb b 64)))) (rw (le-leb 97 b letter.0, le-leb b 122 (omega (arith, letter.1))))

hash_bytes : (hash : List ℕ) → IsHash hash → AllPass is_part_byte hash
unfolding is_part_byte
hash_bytes [] is k d lt = absurd (omega (arith, lt))
hash_bytes (h ∷ digits) is zero d lt = ap is_part_byte is.letter
hash_bytes (h ∷ digits) is (suc k) d lt = hex_part_byte (slice_index_or digits k d) (is.digits k d (omega (arith, lt)))

hash_part : (hash : List ℕ) → IsHash hash → IsPart hash
hash_part hash is = record {
  some = omega (arith, is.size);
  first = λ digit. absurd (omega (arith, is.letter, digit.1));
  bytes = hash_bytes hash is;
}

all_parts : (name bytes suffix : List ℕ) (n : IsLegacyName name bytes suffix) → All IsPart (n.parts ++ (n.hash ∷ []))
all_parts name bytes suffix n = All-push IsPart n.parts n.hash n.are.are (hash_part n.hash n.is_hash)

whole_name : (name bytes suffix : List ℕ) (n : IsLegacyName name bytes suffix) → name ≡ flat_map written (n.parts ++ (n.hash ∷ [])) ++ 69 ∷ suffix
whole_name name bytes suffix n =
    n.whole
    ∙ ap (λ (bs : List ℕ). bs ++ (written n.hash ++ 69 ∷ suffix)) n.are.whole
    ∙ sym (append_assoc (flat_map written n.parts) (written n.hash) (69 ∷ suffix))
    ∙ ap (λ (bs : List ℕ). bs ++ 69 ∷ suffix) (flat_map_more written [] n.parts n.hash)

-- the parts of the name after those that were read
rest_of_name : (name bytes suffix : List ℕ) (n : IsLegacyName name bytes suffix) (read : List (List ℕ)) (ys : List ℕ) → All IsPart read → name ≡ flat_map written read ++ ys → length name < 2 ^ 64 → IsRest read (n.parts ++ (n.hash ∷ [])) ys (69 ∷ suffix)
rest_of_name name bytes suffix n read ys are whole small =
    read_parts read (n.parts ++ (n.hash ∷ [])) ys (69 ∷ suffix) are (all_parts name bytes suffix n) (λ digit. absurd (omega (arith, digit.1))) (subst (λ (bs : List ℕ). length bs < 2 ^ 64) whole small) (sym whole ∙ whole_name name bytes suffix n)

neither : (rest : List (List ℕ)) (ys suffix : List ℕ) → All IsPart rest → ys ≡ flat_map written rest ++ 69 ∷ suffix → (slice_get ys 0 ≢ Some 69) → ((part after : List ℕ) → IsPart part → ys ≢ written part ++ after) → ⊥
neither [] ys suffix are e no_end no_part = no_end (ap (λ (bs : List ℕ). slice_get bs 0) e)
neither (part ∷ rest) ys suffix are e no_end no_part =
    no_part part (flat_map written rest ++ 69 ∷ suffix) (are 0 part (omega arith)) (e ∙ append_assoc (written part) (flat_map written rest) (69 ∷ suffix))

-- a name of which the next part isn't in the grammar
pub no_name : (name bytes suffix : List ℕ) (n : IsLegacyName name bytes suffix) (read : List (List ℕ)) (position : ℕ) → All IsPart read → name ≡ flat_map written read ++ drop position name → length name < 2 ^ 64 → slice_get name position ≢ Some 69 → ((part rest : List ℕ) → IsPart part → drop position name ≢ written part ++ rest) → ⊥
no_name name bytes suffix n read position are whole small no_end no_part =
    let r = rest_of_name name bytes suffix n read (drop position name) are whole small in
    neither r.rest (drop position name) suffix r.are r.bytes_are (λ e. no_end (sym (slice_get-drop position name) ∙ e)) no_part

at_end : (read parts rest : List (List ℕ)) (ys suffix : List ℕ) → parts ≡ read ++ rest → ys ≡ flat_map written rest ++ 69 ∷ suffix → length ys < 2 ^ 64 → get_or ys 0 0 ≡ 69 → parts ≡ read
at_end read parts [] ys suffix parts_are e small letter = parts_are ∙ append-nil read
at_end read parts (part ∷ rest) ys suffix parts_are e small letter =
    let lengths = ap length e in
    let long : length part < 2 ^ 64 = omega (arith, lengths, length-append (written part ++ flat_map written rest) (69 ∷ suffix), length-append (written part) (flat_map written rest), length-append (decimal (length part)) part, small) in
    let digit = first_digit part (flat_map written rest ++ 69 ∷ suffix) long in
    let same : get_or (written part ++ (flat_map written rest ++ 69 ∷ suffix)) 0 0 ≡ 69 = ap (λ (bs : List ℕ). get_or bs 0 0) (sym (e ∙ append_assoc (written part) (flat_map written rest) (69 ∷ suffix))) ∙ letter in
    absurd (omega (arith, digit.1, same))

-- what was read of a name: parts and, unless there is none, the last one, which starts at `start`
pub record HasRead (name : List ℕ) (position start : ℕ) (last : List ℕ) : Type 0 where
  pub parts : List (List ℕ)
  pub tail : List (List ℕ)
  pub are : All IsPart (parts ++ tail)
  pub whole : name ≡ flat_map written (parts ++ tail) ++ drop position name
  pub within : position ≤ length name
  pub start_is : start ≡ length (flat_map written parts)
  pub tail_is : ((parts ≡ []) × (tail ≡ [])) ⊎ (tail ≡ last ∷ [])

pub nothing_read : (name : List ℕ) → HasRead name 0 0 []
nothing_read name = record { parts = []; tail = []; are = λ k d lt. absurd (omega (arith, lt)); whole = refl; within = omega arith; start_is = refl; tail_is = inl (refl, refl) }

bytes_read : (name : List ℕ) (position : ℕ) (read : List (List ℕ)) → name ≡ flat_map written read ++ drop position name → position ≤ length name → position ≡ length (flat_map written read)
bytes_read name position read whole within = omega (arith, ap length whole, length-append (flat_map written read) (drop position name), length-drop position name, within)

push_written : (name part rest : List ℕ) (position : ℕ) (read : List (List ℕ)) → name ≡ flat_map written read ++ drop position name → drop position name ≡ written part ++ rest → name ≡ flat_map written (read ++ (part ∷ [])) ++ rest
push_written name part rest position read whole next =
    whole
    ∙ ap (λ (bs : List ℕ). flat_map written read ++ bs) next
    ∙ sym (append_assoc (flat_map written read) (written part) rest)
    ∙ ap (λ (bs : List ℕ). bs ++ rest) (flat_map_more written [] read part)

pub part_read : (name part : List ℕ) (position start next : ℕ) (last : List ℕ) → HasRead name position start last → IsPart part → drop position name ≡ written part ++ drop next name → next ≡ position + length (written part) → HasRead name next position part
part_read name part position start next last h is bytes at = record {
  parts = h.parts ++ h.tail;
  tail = part ∷ [];
  are = All-push IsPart (h.parts ++ h.tail) part h.are is;
  whole = push_written name part (drop next name) position (h.parts ++ h.tail) h.whole bytes;
  within = omega (arith, ap length bytes, length-append (written part) (drop next name), length-drop position name, at, h.within);
  start_is = bytes_read name position (h.parts ++ h.tail) h.whole h.within;
  tail_is = inr refl;
}

last_part : (name : List ℕ) (position start : ℕ) (last hash : List ℕ) (parts : List (List ℕ)) (h : HasRead name position start last) → parts ++ (hash ∷ []) ≡ h.parts ++ h.tail → (parts ≡ h.parts) × (hash ≡ last)
last_part name position start last hash parts h same = elim h.tail_is [
  | inl none ↦ absurd (omega (arith, ap length same, length-append parts (hash ∷ []), length-append h.parts h.tail, ap length none.0, ap length none.1))
  | inr one ↦ same_from_push parts h.parts hash last (same ∙ ap (λ (ps : List (List ℕ)). h.parts ++ ps) one)
]

-- a name whose parts were read up to `E`: its last part is a hash, and there is one before it
pub name_read : (name bytes suffix : List ℕ) (n : IsLegacyName name bytes suffix) (position start : ℕ) (last : List ℕ) (h : HasRead name position start last) → length name < 2 ^ 64 → slice_get name position ≡ Some 69 → (0 < start) × IsHash last
name_read name bytes suffix n position start last h small here =
    let r = rest_of_name name bytes suffix n (h.parts ++ h.tail) (drop position name) h.are h.whole small in
    let letter : get_or (drop position name) 0 0 ≡ 69 = get_or_from_slice_get (drop position name) 0 69 0 (slice_get-drop position name ∙ here) in
    let short : length (drop position name) < 2 ^ 64 = omega (arith, length-drop position name, small) in
    let same = at_end (h.parts ++ h.tail) (n.parts ++ (n.hash ∷ [])) r.rest (drop position name) suffix r.parts_are r.bytes_are short letter in
    let both = last_part name position start last n.hash n.parts h same in
    (omega (arith, h.start_is, some_bytes n.parts n.are.are n.some, ap (λ (ps : List (List ℕ)). length (flat_map written ps)) both.0), subst IsHash both.1 n.is_hash)

some_parts : (parts : List (List ℕ)) → 0 < length (flat_map written parts) → 0 < length parts
some_parts [] some = absurd (omega (arith, some))
some_parts (part ∷ parts) some = omega arith

front_parts : (parts tail : List (List ℕ)) → All IsPart (parts ++ tail) → All IsPart parts
front_parts parts tail are = subst (All IsPart) (take_at parts tail (length parts) refl) (All-take IsPart (length parts) (parts ++ tail) are)

-- parts, a hash and `E` that were read are a name
pub legacy_name : (name : List ℕ) (position start : ℕ) (last : List ℕ) (h : HasRead name position start last) → 0 < start → IsHash last → slice_get name position ≡ Some 69 → IsLegacyName name (take start name) (drop (position + 1) name)
legacy_name name position start last h some is here = elim h.tail_is [
  | inl none ↦ absurd (omega (arith, some, h.start_is, ap (λ (ps : List (List ℕ)). length (flat_map written ps)) none.0))
  | inr one ↦
      let within = slice_get_within name position 69 here in
      let next : drop position name ≡ 69 ∷ drop (position + 1) name = drop_more name position 0 within ∙ ap (λ (b : ℕ). b ∷ drop (position + 1) name) (get_or_from_slice_get name position 69 0 here) in
      let split : name ≡ flat_map written h.parts ++ (written last ++ 69 ∷ drop (position + 1) name) =
      h.whole
      ∙ ap (λ (bs : List ℕ). flat_map written (h.parts ++ h.tail) ++ bs) next
      ∙ ap (λ (ps : List (List ℕ)). flat_map written (h.parts ++ ps) ++ 69 ∷ drop (position + 1) name) one
      ∙ ap (λ (bs : List ℕ). bs ++ 69 ∷ drop (position + 1) name) (sym (flat_map_more written [] h.parts last))
      ∙ append_assoc (flat_map written h.parts) (written last) (69 ∷ drop (position + 1) name) in
      let front : take start name ≡ flat_map written h.parts = ap (take start) split ∙ take_at (flat_map written h.parts) (written last ++ 69 ∷ drop (position + 1) name) start (sym h.start_is) in
      record {
        parts = h.parts;
        hash = last;
        are = record { are = front_parts h.parts h.tail h.are; whole = front };
        some = some_parts h.parts (omega (arith, some, h.start_is));
        is_hash = is;
        whole = split ∙ ap (λ (bs : List ℕ). bs ++ (written last ++ 69 ∷ drop (position + 1) name)) (sym front);
      }
]

-- a text that is longer has the reasons of a shorter one
pub why_more : (old mid : Text) (count total : ℕ) (why : Failure) → limit_of mid ≡ limit_of old → length (text_of mid) + count ≤ length (text_of old) + total → IsWhy mid count why → IsWhy old total why
why_more old mid count total Grammar limits le is = is
why_more old mid count total Limit limits le is = omega (arith, limits, le, is)
why_more old mid count total Memory limits le is = tt

-- the parts up to a position were read, and their text was appended
pub record HasWritten (bytes : List ℕ) (position : ℕ) (old new : Text) : Type 0 where
  pub read : List (List ℕ)
  pub are : All IsPart read
  pub whole : bytes ≡ flat_map written read ++ drop position bytes
  pub position_is : position ≡ length (flat_map written read)
  pub text : text_of new ≡ text_of old ++ text_of_parts read

pub nothing_written : (bytes : List ℕ) (text : Text) → HasWritten bytes 0 text text
nothing_written bytes text = record { read = []; are = λ k d lt. absurd (omega (arith, lt)); whole = refl; position_is = refl; text = sym (append-nil (text_of text)) }

pub part_written : (bytes part : List ℕ) (position next : ℕ) (old mid new : Text) → HasWritten bytes position old mid → IsPart part → drop position bytes ≡ written part ++ drop next bytes → next ≡ position + length (written part) → text_of new ≡ text_of mid ++ (separator position ++ text_of_part part) → HasWritten bytes next old new
part_written bytes part position next old mid new h is here at text = record {
  read = h.read ++ (part ∷ []);
  are = All-push IsPart h.read part h.are is;
  whole = push_written bytes part (drop next bytes) position h.read h.whole here;
  position_is = omega (arith, at, h.position_is, ap length (flat_map_more written [] h.read part), length-append (flat_map written h.read) (written part));
  text = text
      ∙ ap (λ (bs : List ℕ). bs ++ (separator position ++ text_of_part part)) h.text
      ∙ append_assoc (text_of old) (text_of_parts h.read) (separator position ++ text_of_part part)
      ∙ ap (λ (bs : List ℕ). text_of old ++ bs) (sym (text_with_part h.read part position h.are h.position_is));
}

pub all_written : (bytes : List ℕ) (position : ℕ) (old new : Text) → HasWritten bytes position old new → length bytes ≤ position → AppendsParts bytes old new
all_written bytes position old new h end = record {
  parts = h.read;
  are = record { are = h.are; whole = h.whole ∙ ap (λ (bs : List ℕ). flat_map written h.read ++ bs) (drop_all position bytes end) ∙ append-nil (flat_map written h.read) };
  text = h.text;
}

why_at : (read rest : List (List ℕ)) (bytes : List ℕ) (position : ℕ) (old mid : Text) (why : Failure) → All IsPart read → position ≡ length (flat_map written read) → text_of mid ≡ text_of old ++ text_of_parts read → All IsPart rest → drop position bytes ≡ flat_map written rest ++ [] → position < length bytes → limit_of mid ≡ limit_of old → ((part after : List ℕ) → IsPart part → drop position bytes ≡ written part ++ after → IsWhy mid (length (separator position ++ text_of_part part)) why) → IsWhy old (length (text_of_parts (read ++ rest))) why
why_at read [] bytes position old mid why are at text all here more limits reason = absurd (omega (arith, ap length here, length-drop position bytes, more))
why_at read (part ∷ rest) bytes position old mid why are at text all here more limits reason =
    let next = reason part (flat_map written rest ++ []) (all 0 part (omega arith)) (here ∙ append_assoc (written part) (flat_map written rest) []) in
    why_more old mid (length (separator position ++ text_of_part part)) (length (text_of_parts (read ++ (part ∷ rest)))) why limits (omega (arith, ap length text, length-append (text_of old) (text_of_parts read), text_with_part-le read rest part position are at)) next

-- why the text of parts isn't appended, of which the next part fails
pub why_parts : (bytes : List ℕ) (position : ℕ) (old mid : Text) (why : Failure) (parts : List (List ℕ)) → HasWritten bytes position old mid → AreParts bytes parts → length bytes < 2 ^ 64 → position < length bytes → limit_of mid ≡ limit_of old → ((part after : List ℕ) → IsPart part → drop position bytes ≡ written part ++ after → IsWhy mid (length (separator position ++ text_of_part part)) why) → IsWhy old (length (text_of_parts parts)) why
why_parts bytes position old mid why parts h all small more limits reason =
    let r = read_parts h.read parts (drop position bytes) [] h.are all.are (λ digit. absurd (omega (arith, digit.0))) (subst (λ (bs : List ℕ). length bs < 2 ^ 64) h.whole small) (sym h.whole ∙ all.whole ∙ sym (append-nil (flat_map written parts))) in
    subst (λ (ps : List (List ℕ)). IsWhy old (length (text_of_parts ps)) why) (sym r.parts_are) (why_at h.read r.rest bytes position old mid why h.are h.position_is h.text r.are r.bytes_are more limits reason)

-- the same, at a cursor

pub no_name_at : (name bytes suffix : List ℕ) (n : IsLegacyName name bytes suffix) (c : Cursor) (start : ℕ) (last : List ℕ) → bytes_of c ≡ name → HasRead name (position_of c) start last → length name < 2 ^ 64 → byte_at c ≢ Some 69 → ((part rest : List ℕ) → IsPart part → unread c ≢ written part ++ rest) → ⊥
no_name_at name bytes suffix n c start last same h small no_end no_part =
    no_name name bytes suffix n (h.parts ++ h.tail) (position_of c) h.are h.whole small
    (λ e. no_end (ap (λ (bs : List ℕ). slice_get bs (position_of c)) same ∙ e))
    (λ part rest is e. no_part part rest is (ap (drop (position_of c)) same ∙ e))

pub part_read_at : (name part : List ℕ) (c d : Cursor) (start : ℕ) (last : List ℕ) → bytes_of c ≡ name → bytes_of d ≡ bytes_of c → HasRead name (position_of c) start last → IsPart part → unread c ≡ written part ++ unread d → position_of d ≡ position_of c + length (written part) → (at : ℕ) → at ≡ position_of c → (bytes_of d ≡ name) × HasRead name (position_of d) at part
part_read_at name part c d start last same kept h is bytes at here here_is =
    let next : drop (position_of c) name ≡ written part ++ drop (position_of d) name =
    ap (drop (position_of c)) (sym same) ∙ bytes ∙ ap (λ (bs : List ℕ). written part ++ drop (position_of d) bs) (kept ∙ same) in
    (kept ∙ same, subst (λ (n : ℕ). HasRead name (position_of d) n part) (sym here_is) (part_read name part (position_of c) start (position_of d) last h is next at))

pub name_read_at : (name bytes suffix : List ℕ) (n : IsLegacyName name bytes suffix) (c : Cursor) (start : ℕ) (last : List ℕ) → bytes_of c ≡ name → HasRead name (position_of c) start last → length name < 2 ^ 64 → byte_at c ≡ Some 69 → (0 < start) × IsHash last
name_read_at name bytes suffix n c start last same h small here =
    name_read name bytes suffix n (position_of c) start last h small (ap (λ (bs : List ℕ). slice_get bs (position_of c)) (sym same) ∙ here)

pub legacy_name_at : (name : List ℕ) (c : Cursor) (start : ℕ) (last : List ℕ) → bytes_of c ≡ name → HasRead name (position_of c) start last → 0 < start → IsHash last → byte_at c ≡ Some 69 → IsLegacyName name (take start name) (drop (position_of c + 1) name)
legacy_name_at name c start last same h some is here =
    legacy_name name (position_of c) start last h some is (ap (λ (bs : List ℕ). slice_get bs (position_of c)) (sym same) ∙ here)

pub part_written_at : (bytes : List ℕ) (c d : Cursor) (old mid new : Text) → bytes_of c ≡ bytes → bytes_of d ≡ bytes_of c → HasWritten bytes (position_of c) old mid → AppendsPart c d mid new → (bytes_of d ≡ bytes) × HasWritten bytes (position_of d) old new
part_written_at bytes c d old mid new same kept h appends =
    let next : drop (position_of c) bytes ≡ written appends.part ++ drop (position_of d) bytes =
    ap (drop (position_of c)) (sym same) ∙ appends.bytes ∙ ap (λ (bs : List ℕ). written appends.part ++ drop (position_of d) bs) (kept ∙ same) in
    (kept ∙ same, part_written bytes appends.part (position_of c) (position_of d) old mid new h appends.is next appends.position appends.text)

pub why_parts_at : (bytes : List ℕ) (c : Cursor) (old mid : Text) (why : Failure) (parts : List (List ℕ)) → bytes_of c ≡ bytes → HasWritten bytes (position_of c) old mid → AreParts bytes parts → length bytes < 2 ^ 64 → position_of c < length bytes → limit_of mid ≡ limit_of old → ((part after : List ℕ) → IsPart part → unread c ≡ written part ++ after → IsWhy mid (length (separator (position_of c) ++ text_of_part part)) why) → IsWhy old (length (text_of_parts parts)) why
why_parts_at bytes c old mid why parts same h all small more limits reason =
    why_parts bytes (position_of c) old mid why parts h all small more limits (λ part after is e. reason part after is (ap (drop (position_of c)) same ∙ e))
