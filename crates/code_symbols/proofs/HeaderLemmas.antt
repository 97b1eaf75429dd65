-- The headers of an ELF file, by the bytes that were read.
use Rattle.std.proofs.Common.{◌≡◌, ◌≢◌, ℕ, ◌+◌, ◌*◌, ◌<◌, ◌≤◌, Bool, true, false, List, [], ◌∷◌, ◌++◌, length, drop, take, Option, None, Some, Result, Ok, Err, refl, sym, ap, ◌∙◌, arith, add-one, length-append}
use Rattle.std.specs.Prelude.{if◌then◌else◌, IfOk, IfSome, map, slice_range}
use Rattle.std.specs.Option.{option_map, option_or}
use Rattle.std.proofs.Math.Nat.{mul-le-mul_left}
use Rattle.std.proofs.lemmas.Bool.{le-leb, ne_eqb}
use Rattle.std.proofs.lemmas.List.{get_or_append_left, map-append, take-append-le}
use Rattle.std.proofs.lemmas.List.Elements.{filter-append}
use Rattle.std.proofs.lemmas.List.Folds.{find-append}
use Rattle.perfdata_sources.proofs.Numbers.{number_drop_prefix}
use Rattle.perfdata_sources.specs.Endian.{number_in}
use Rattle.perfdata_sources.specs.Source.{BufferFilled, Position, SeekSucceeded, State, all_bytes_of, at_offset, prepend, remaining_from}
use Rattle.std.specs.declared.io.SeekFrom.TheVariants.{Start}
use Rattle.code_symbols.specs.ElfHeaders.{HasHeader, completed, first_entries, first_section, frame_header_in, has_type, loaded_in, segment_notes, table_bytes, with_first_section}
use Rattle.code_symbols.specs.ElfImages.{by_class, header_in, note_range_in, number_at, section_in, segment_in, word_at}
use Rattle.code_symbols.specs.steps.Segments.{AreSegments}
use Rattle.code_symbols.specs.declared.error.ElfError.{ElfError}
use Rattle.code_symbols.specs.declared.elf.header.FileHeader.{FileHeader}
use Rattle.code_symbols.specs.declared.elf.header.Section.{Section}
use Rattle.code_symbols.specs.declared.elf.header.Segments.{Segments}
use Rattle.code_symbols.specs.declared.elf.input.Encoding.{Encoding}

-- one more entry
pub entries_more : (table : List ℕ) (size n : ℕ) → first_entries table size (n + 1) ≡ first_entries table size n ++ slice_range table (n * size) (n * size + size) ∷ []
entries_more table size n = ap (first_entries table size) (add-one n)

-- each entry is within its table
pub entry_within : (i n size : ℕ) → i < n → i * size + size ≤ n * size
entry_within i n size less =
    let more : size * (i + 1) ≤ size * n = mul-le-mul_left size (omega (arith, less)) in
    let left : size * (i + 1) ≡ i * size + size = grind arith in
    let right : size * n ≡ n * size = grind arith in
    omega (arith, more, left, right)

-- the section of one more entry
pub sections_more : (e : Encoding) (bytes : List ℕ) (size i at : ℕ) (sections : List Section) (s : Section) → at ≡ i * size
    → sections ≡ map (section_in e) (first_entries bytes size i) → s ≡ section_in e (slice_range bytes at (at + size))
    → sections ++ s ∷ [] ≡ map (section_in e) (first_entries bytes size (i + 1))
sections_more e bytes size i at sections s at_is are is =
    let entry : slice_range bytes at (at + size) ≡ slice_range bytes (i * size) (i * size + size) = ap (λ k. slice_range bytes k (k + size)) at_is in
    ap (λ xs. xs ++ s ∷ []) are ∙ ap (λ x. map (section_in e) (first_entries bytes size i) ++ x ∷ []) (is ∙ ap (section_in e) entry)
    ∙ sym (map-append (section_in e) (first_entries bytes size i) (slice_range bytes (i * size) (i * size + size) ∷ []))
    ∙ sym (ap (map (section_in e)) (entries_more bytes size i))

map_or : {A B : Type 0} (f : A → B) (x y : Option A) → option_map f (option_or x y) ≡ option_or (option_map f x) (option_map f y)
map_or f None y = λ _. option_map f y
map_or f (Some x) y = λ _. Some (f x)

-- the segments of one more program header
pub segments_more : (e : Encoding) (bytes : List ℕ) (size i at : ℕ) (old new : Segments) → at ≡ i * size
    → AreSegments e (first_entries bytes size i) old
    → new.loaded.items ≡ old.loaded.items ++ loaded_in e (slice_range bytes at (at + size) ∷ [])
    → new.notes.items ≡ old.notes.items ++ segment_notes e (slice_range bytes at (at + size) ∷ [])
    → new.frame_header ≡ option_or old.frame_header (frame_header_in e (slice_range bytes at (at + size) ∷ []))
    → AreSegments e (first_entries bytes size (i + 1)) new
segments_more e bytes size i at old new at_is are loaded notes frame =
    let headers : List (List ℕ) = first_entries bytes size i in
    let entry : List ℕ = slice_range bytes (i * size) (i * size + size) in
    let same : slice_range bytes at (at + size) ≡ entry = ap (λ k. slice_range bytes k (k + size)) at_is in
    let more : first_entries bytes size (i + 1) ≡ headers ++ entry ∷ [] = entries_more bytes size i in
    record {
      loaded_are =
          loaded ∙ ap (λ xs. xs ++ loaded_in e (slice_range bytes at (at + size) ∷ [])) are.loaded_are
          ∙ ap (λ x. loaded_in e headers ++ loaded_in e (x ∷ [])) same
          ∙ sym (ap (map (segment_in e)) (filter-append (has_type e 1) headers (entry ∷ [])) ∙ map-append (segment_in e) _ _)
          ∙ sym (ap (loaded_in e) more);
      frame_header_is =
          frame ∙ ap (λ o. option_or o (frame_header_in e (slice_range bytes at (at + size) ∷ []))) are.frame_header_is
          ∙ ap (λ x. option_or (frame_header_in e headers) (frame_header_in e (x ∷ []))) same
          ∙ sym (ap (option_map (segment_in e)) (find-append (has_type e 0x6474e550) headers (entry ∷ [])) ∙ map_or (segment_in e) _ _)
          ∙ sym (ap (frame_header_in e) more);
      notes_are =
          notes ∙ ap (λ xs. xs ++ segment_notes e (slice_range bytes at (at + size) ∷ [])) are.notes_are
          ∙ ap (λ x. segment_notes e headers ++ segment_notes e (x ∷ [])) same
          ∙ sym (ap (map (note_range_in e)) (filter-append (has_type e 4) headers (entry ∷ [])) ∙ map-append (note_range_in e) _ _)
          ∙ sym (ap (segment_notes e) more);
    }

-- a number that is completely in some bytes
number_within : (e : Encoding) (bytes : List ℕ) (at size : ℕ) → at + size ≤ length bytes → number_at e bytes at size ≡ number_in e.endian size (drop at bytes)
number_within e bytes at size within = ap (λ t. if t then number_in e.endian size (drop at bytes) else 0) (le-leb (at + size) (length bytes) within)

-- is that in more bytes
number_more : (e : Encoding) (bytes rest : List ℕ) (at size : ℕ) → at + size ≤ length bytes → number_at e (bytes ++ rest) at size ≡ number_at e bytes at size
number_more e bytes rest at size within =
    number_within e (bytes ++ rest) at size (omega (arith, within, length-append bytes rest))
    ∙ number_drop_prefix e.endian size at bytes rest within
    ∙ sym (number_within e bytes at size within)

class_within : (t : Bool) (a b n : ℕ) → a + n ≤ 52 → b + n ≤ 64 → (if t then b else a) + n ≤ (if t then 64 else 52)
class_within true a b n small large = large
class_within false a b n small large = small

class_least : (t : Bool) → 52 ≤ (if t then 64 else 52)
class_least true = omega arith
class_least false = omega arith

word_cases : (e : Encoding) (t : Bool) (bytes rest : List ℕ) (a b : ℕ) → a + 4 ≤ 52 → b + 8 ≤ 64 → (if t then 64 else 52) ≤ length bytes
    → (if t then number_at e (bytes ++ rest) b 8 else number_at e (bytes ++ rest) a 4) ≡ (if t then number_at e bytes b 8 else number_at e bytes a 4)
word_cases e true bytes rest a b small large complete = number_more e bytes rest b 8 (omega (arith, large, complete))
word_cases e false bytes rest a b small large complete = number_more e bytes rest a 4 (omega (arith, small, complete))

module _ (e : Encoding) (bytes rest : List ℕ) (complete : by_class e 52 64 ≤ length bytes) where
  field_more : (a b n : ℕ) → a + n ≤ 52 → b + n ≤ 64 → number_at e (bytes ++ rest) (by_class e a b) n ≡ number_at e bytes (by_class e a b) n
  field_more a b n small large = number_more e bytes rest (by_class e a b) n (omega (arith, class_within e.is_64_bit a b n small large, complete))

  word_more : (a b : ℕ) → a + 4 ≤ 52 → b + 8 ≤ 64 → word_at e (bytes ++ rest) a b ≡ word_at e bytes a b
  word_more a b small large = word_cases e e.is_64_bit bytes rest a b small large complete

  -- more bytes don't change the file header
  header_more : header_in e (bytes ++ rest) ≡ header_in e bytes
  header_more =
      let least : 52 ≤ length bytes = omega (arith, class_least e.is_64_bit, complete) in
      let type_is = number_more e bytes rest 16 2 (omega (arith, least)) in
      let machine_is = number_more e bytes rest 18 2 (omega (arith, least)) in
      let flags_are = field_more 36 48 4 (omega arith) (omega arith) in
      let segments_at = word_more 28 32 (omega arith) (omega arith) in
      let segments_count = field_more 44 56 2 (omega arith) (omega arith) in
      let segments_size = field_more 42 54 2 (omega arith) (omega arith) in
      let sections_at = word_more 32 40 (omega arith) (omega arith) in
      let sections_count = field_more 48 60 2 (omega arith) (omega arith) in
      let sections_size = field_more 46 58 2 (omega arith) (omega arith) in
      let names_are = field_more 50 62 2 (omega arith) (omega arith) in
      λ i. record {
        encoding = e;
        file_type = type_is i;
        machine = machine_is i;
        flags = flags_are i;
        segments = record { offset = segments_at i; count = segments_count i; entry_size = segments_size i };
        sections = record { offset = sections_at i; count = sections_count i; entry_size = sections_size i };
        names_index = names_are i;
      }

-- the file header in the first bytes of a file is that of the file
pub has_header_more : (bytes rest all : List ℕ) (h : FileHeader) → all ≡ bytes ++ rest → HasHeader bytes h → HasHeader all h
has_header_more bytes rest all h all_is has =
    let least : 52 ≤ length bytes = omega (arith, class_least h.encoding.is_64_bit, has.complete) in
    let here : HasHeader (bytes ++ rest) h = record {
      encoding = record {
        magic = take-append-le 4 bytes rest (omega (arith, least)) ∙ has.encoding.magic;
        class = get_or_append_left bytes rest 0 4 (omega (arith, least)) ∙ has.encoding.class;
        order = get_or_append_left bytes rest 0 5 (omega (arith, least)) ∙ has.encoding.order;
      };
      complete = omega (arith, has.complete, length-append bytes rest);
      is = has.is ∙ sym (header_more h.encoding bytes rest has.complete);
    } in
    rw all_is here

-- all bytes of a source, of which these were the first
first_bytes : (bytes all : List ℕ) (rest : Option (List ℕ)) → Some all ≡ prepend bytes rest → (more : List ℕ) × (all ≡ bytes ++ more)
first_bytes bytes all None is = absurd (cc)
first_bytes bytes all (Some more) is = (more, cc)

header_at : (bytes given : List ℕ) (q : Option Position) (at : ℕ) (rest : Option (List ℕ)) (r : Result FileHeader ElfError) → given ≡ bytes
    → ((p : Position) → q ≡ Some p → at ≡ 0) → remaining_from (at_offset at q) ≡ prepend bytes rest → IfOk r (HasHeader given)
    → IfOk r (λ h. IfSome (all_bytes_of q) (λ all. HasHeader all h))
header_at bytes given q at rest (Err e) given_is target are has = tt
header_at bytes given None at rest (Ok h) given_is target are has = tt
header_at bytes given (Some p) at rest (Ok h) given_is target are has =
    let whole : Some p.all_bytes ≡ prepend bytes rest = ap (λ k. Some (drop k p.all_bytes)) (sym (target p refl)) ∙ are in
    let first = first_bytes bytes p.all_bytes rest whole in
    has_header_more bytes first.0 p.all_bytes h first.1 (rw given_is at has)

-- the file header in the first bytes that a source returned at its start
pub header_read : (a b d : State) (at n : ℕ) (buf given : List ℕ) (r : Result FileHeader ElfError) → SeekSucceeded a (Start 0) at b → BufferFilled b buf n d
    → given ≡ take n buf → IfOk r (HasHeader given) → IfOk r (λ h. IfSome (all_bytes_of a.position) (λ all. HasHeader all h))
header_read a b d at n buf given r seek filled given_is has =
    header_at (take n buf) given a.position at d.bytes r given_is (λ p is. seek.target p is)
    (ap remaining_from (sym seek.position) ∙ sym seek.after_seek.from_position ∙ filled.consumes.bytes) has

-- the file header is the one with what the first section header says
pub completed_is : (image : Option (List ℕ)) (h new : FileHeader) (bytes : List ℕ) (s : Section) → h.sections.offset ≢ 0
    → IfSome image (λ all. bytes ≡ table_bytes all (record h.sections { count = 1 })) → s ≡ section_in h.encoding bytes → new ≡ with_first_section h s
    → IfSome image (λ all. new ≡ completed all h)
completed_is None h new bytes s some bytes_are is new_is = tt
completed_is (Some all) h new bytes s some bytes_are is new_is =
    new_is ∙ ap (with_first_section h) (is ∙ ap (section_in h.encoding) bytes_are)
    ∙ ap (λ t. if t then h else with_first_section h (first_section all h)) (sym (ne_eqb h.sections.offset 0 some))

-- the offset of the next entry
pub next_entry : (i at size : ℕ) → at ≡ i * size → at + size ≡ (i + 1) * size
next_entry i at size is = grind (arith, is)
