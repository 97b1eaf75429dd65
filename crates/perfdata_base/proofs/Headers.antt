-- The result of parsing a file header, from the results of its steps.
use Rattle.std.proofs.Common.{◌≡◌, ℕ, ◌+◌, ◌-◌, ◌^◌, ◌<◌, ◌≤◌, ◌++◌, Bool, List, length, drop, refl, sym, ap, ◌∙◌, subst, inl, inr, arith, pos, max, length-append, length-drop, Option, None, Some}
use Rattle.std.specs.Prelude.{IfSome}
use Rattle.std.specs.declared.io.Error.{Error}
use Rattle.std.specs.declared.io.SeekFrom.TheVariants.{Current}
use Rattle.perfdata_sources.specs.Source.{State, Position, RemainsFromPosition, SizeFitsI64, advance_by, prepend, remaining_from, all_bytes_of, at_offset, Consumed, LeadsTo, SeekSucceeded, SeekOutOfRange}
use Rattle.perfdata_sources.proofs.ConsumedLemmas.{failed_later, moved_more}
use Rattle.perfdata_sources.proofs.ReadErrors.{consumed-after_seek, after_seek_more}
use Rattle.perfdata_base.specs.Header.{file_header_of, BeginsWithFileHeader, FileHeaderParsed, FileHeaderParseError}
use Rattle.perfdata_base.specs.steps.Header.{ExtraSkipped, ExtraSeekError}
use Rattle.perfdata_base.specs.declared.header.PerfHeader.{PerfHeader}

went_on : (steady : Bool) (n at : ℕ) (p : Option Position) → ((q : Position) → p ≡ Some q → LeadsTo steady (Current (pos n)) q at) → at_offset at p ≡ advance_by n p
went_on steady n at None goes = refl
went_on steady n at (Some q) goes = ap (λ k. Some (record { all_bytes = q.all_bytes; offset = k })) (goes q refl)

-- a seek skipped the extra bytes
pub extra_skipped : (a b : State) (size at : ℕ) → size - 104 < 2 ^ 63 → SeekSucceeded a (Current (pos (size - 104))) at b → ExtraSkipped a size b
extra_skipped a b size at low seek = record { extra_fits = omega arith; after_seek = seek.after_seek; position = seek.position ∙ went_on a.steady (size - 104) at a.position seek.target }

abbrev begins : (a b : State) (bytes : List ℕ) (h : PerfHeader) → length bytes ≡ 104 → Consumed a bytes b → h ≡ file_header_of bytes → BeginsWithFileHeader a h
begins a b bytes h long consumes_it is = record { bytes = bytes; rest = b.bytes; exact_len = long; prefix_of_remaining = consumes_it.bytes; matches = is }

after_header : (size : ℕ) → 104 + (size - 104) ≡ max 104 size
after_header size = omega arith

-- 104 bytes were read, and the extra bytes were skipped
pub whole_header : (a b c : State) (bytes : List ℕ) (h : PerfHeader) → RemainsFromPosition a → length bytes ≡ 104 → Consumed a bytes b → h ≡ file_header_of bytes → ExtraSkipped b h.header_size c → FileHeaderParsed a h c
whole_header a b c bytes h at_position long consumes_it is skipped = record {
  file_header = begins a b bytes h long consumes_it is;
  extra_fits = skipped.extra_fits;
  after_seek = after_seek_more a b c (consumed-after_seek a b bytes at_position consumes_it) skipped.after_seek;
  position = skipped.position ∙ ap (advance_by (h.header_size - 104)) consumes_it.position ∙ moved_more (length bytes) (h.header_size - 104) a.position ∙ ap (λ n. advance_by (n + (h.header_size - 104)) a.position) long ∙ ap (λ n. advance_by n a.position) (after_header h.header_size);
}

within_all : (p : Option Position) (q : Position) (xs ys : List ℕ) → advance_by (length xs) p ≡ Some q → remaining_from p ≡ Some (xs ++ ys) → 0 < length xs → (q.offset ≤ length q.all_bytes)
within_all None q xs ys is there some = cc
within_all (Some p) q xs ys is there some =
    let all : p.all_bytes ≡ q.all_bytes = cc in
    let at : p.offset + length xs ≡ q.offset = cc in
    let same : drop p.offset p.all_bytes ≡ xs ++ ys = cc in
    let long : length (drop p.offset p.all_bytes) ≡ length xs + length ys = ap length same ∙ length-append xs ys in
    let longs : length p.all_bytes ≡ length q.all_bytes = ap length all in
    omega (arith, length-drop p.offset p.all_bytes)

-- the target is in range, because all bytes of a source are fewer than 2^63
never_nowhere : (a b : State) (bytes : List ℕ) (size : ℕ) → RemainsFromPosition a → length bytes ≡ 104 → Consumed a bytes b → 104 < size → size < 104 + 2 ^ 63 → SizeFitsI64 b → SeekOutOfRange b (Current (pos (size - 104))) → ⊥
never_nowhere a b bytes size at_position long consumes_it more end_fits small none =
    let far : 2 ^ 64 ≤ none.start.offset + (size - 104) = none.out_of_range in
    let fits : length none.start.all_bytes < 2 ^ 63 = subst (λ o. IfSome (all_bytes_of o) (λ all. length all < 2 ^ 63)) none.at_start small in
    let unchanged = consumed-after_seek a b bytes at_position consumes_it in
    let known : b.bytes ≡ Some (drop none.start.offset none.start.all_bytes) = unchanged.from_position ∙ ap remaining_from none.at_start in
    let within = within_all a.position none.start bytes (drop none.start.offset none.start.all_bytes) (sym consumes_it.position ∙ none.at_start) (sym at_position ∙ consumes_it.bytes ∙ ap (prepend bytes) known) (omega arith) in
    omega arith

-- 104 bytes were read, and the extra bytes weren't skipped
pub header_not_skipped : (a b c : State) (bytes : List ℕ) (h : PerfHeader) (e : Error) → RemainsFromPosition a → length bytes ≡ 104 → Consumed a bytes b → h ≡ file_header_of bytes → ExtraSeekError b h.header_size e c → FileHeaderParseError a e c
header_not_skipped a b c bytes h e at_position long consumes_it is error =
    let more = error.has_extra in
    record {
      after_seek = after_seek_more a b c (consumed-after_seek a b bytes at_position consumes_it) error.after_seek;
      cause = inr (record {
        header = h;
        file_header = begins a b bytes h long consumes_it is;
        has_extra = more;
        cause = elim error.cause [
          | inl far ↦ inl (far.0, far.1, subst (Consumed a bytes) (sym far.2) consumes_it)
          | inr seek ↦ inr (
            seek.0,
            elim seek.1 [
              | inl failed ↦ failed_later a b c bytes consumes_it failed
              | inr none ↦ absurd (never_nowhere a b bytes h.header_size at_position long consumes_it more seek.0 none.0 none.1)
            ],
          )
        ];
      });
    }
