-- The text of a part that was read.
use Rattle.std.proofs.Common.{◌≡◌, ℕ, ◌+◌, ◌^◌, ◌<◌, List, ◌++◌, length, refl, sym, ap, ◌∙◌, arith, append_assoc, length-append, length-drop}
use Rattle.std.specs.Fmt.{decimal}
use Rattle.demangle_text.specs.Cursor.{bytes_of, position_of, unread}
use Rattle.demangle_text.specs.Legacy.{IsPart, written, text_of_part}
use Rattle.demangle_text.specs.steps.Legacy.{AppendsPart, separator}
use Rattle.demangle_text.specs.Text.{IsWhy, text_of, limit_of}
use Rattle.demangle_text.specs.declared.cursor.Cursor.{Cursor}
use Rattle.demangle_text.specs.declared.text.Text.{Text}
use Rattle.demangle_text.specs.declared.failure.Failure.{Failure}
use Rattle.demangle_text.proofs.NameLemmas.{why_more}
use Rattle.demangle_text.proofs.PartLemmas.{same_part}

-- the text after a separator and a part
pub appends_part : (c d : Cursor) (old mid new : Text) (part between : List ℕ) (at : ℕ) → IsPart part → unread c ≡ written part ++ unread d → position_of d ≡ position_of c + length (written part) → at ≡ position_of c → between ≡ separator at → text_of mid ≡ text_of old ++ between → text_of new ≡ text_of mid ++ text_of_part part → AppendsPart c d old new
appends_part c d old mid new part between at is bytes position at_is between_is first second = record {
  part = part;
  is = is;
  bytes = bytes;
  position = position;
  text = second
      ∙ ap (λ (bs : List ℕ). bs ++ text_of_part part) (first ∙ ap (λ (bs : List ℕ). text_of old ++ bs) (between_is ∙ ap separator at_is))
      ∙ append_assoc (text_of old) (separator (position_of c)) (text_of_part part);
}

-- why the separator isn't appended
pub why_separator : (c : Cursor) (old : Text) (part between : List ℕ) (at : ℕ) (why : Failure) → at ≡ position_of c → between ≡ separator at → IsWhy old (length between) why → IsWhy old (length (separator (position_of c) ++ text_of_part part)) why
why_separator c old part between at why at_is between_is is =
    why_more old old (length between) (length (separator (position_of c) ++ text_of_part part)) why refl (omega (arith, ap length (between_is ∙ ap separator at_is), length-append (separator (position_of c)) (text_of_part part))) is

-- why the part isn't appended
pub why_written : (c d : Cursor) (old mid : Text) (part other rest between : List ℕ) (at : ℕ) (why : Failure) → length (bytes_of c) < 2 ^ 64 → IsPart part → unread c ≡ written part ++ unread d → IsPart other → unread c ≡ written other ++ rest → at ≡ position_of c → between ≡ separator at → text_of mid ≡ text_of old ++ between → limit_of mid ≡ limit_of old → IsWhy mid (length (text_of_part part)) why → IsWhy old (length (separator (position_of c) ++ text_of_part other)) why
why_written c d old mid part other rest between at why small is bytes other_is same at_is between_is text limits reason =
    let count = length-drop (position_of c) (bytes_of c) in
    let long : length part < 2 ^ 64 = omega (arith, ap length bytes, length-append (written part) (unread d), length-append (decimal (length part)) part, count, small) in
    let other_long : length other < 2 ^ 64 = omega (arith, ap length same, length-append (written other) rest, length-append (decimal (length other)) other, count, small) in
    let equal = (same_part part other (unread d) rest is other_is long other_long (sym bytes ∙ same)).0 in
    let sizes = ap (λ (bs : List ℕ). length (text_of_part bs)) equal in
    why_more old mid (length (text_of_part part)) (length (separator (position_of c) ++ text_of_part other)) why limits
    (omega (arith, sizes, ap length text, length-append (text_of old) between, ap length (between_is ∙ ap separator at_is), length-append (separator (position_of c)) (text_of_part other)))
    reason

-- a part has bytes
pub part_moves : (c d : Cursor) (old new : Text) → AppendsPart c d old new → position_of c < position_of d
part_moves c d old new a = omega (arith, a.position, a.is.some, length-append (decimal (length a.part)) a.part)
