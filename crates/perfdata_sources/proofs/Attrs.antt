-- The result of parsing an attribute, from the results of its steps.
use Rattle.std.proofs.Common.{◌≡◌, ℕ, ◌+◌, ◌-◌, ◌<◌, ◌≤◌, ◌++◌, List, length, take, drop, refl, sym, ap, ◌∙◌, subst, inl, inr, arith, append_assoc, length-append, length-drop, Option, None, Some}
use Rattle.std.specs.Prelude.{◌⊎◌, IfSome, nat_eq, nat_le, if◌then◌else◌, Bool, true, false}
use Rattle.std.specs.Int.{w32, cast_signed}
use Rattle.std.proofs.lemmas.List.{take-append-drop, drop-append-le, length-take-le, take-append-le}
use Rattle.std.proofs.Math.Seq.{take-append_seam}
use borrow.Author.Tests.{leb-true}
use borrow.Rule.Slice.PartMut.{put_mid, post_of}
use Rattle.std.specs.IoError.{error_kind}
use Rattle.std.specs.declared.io.Error.{Error}
use Rattle.std.specs.declared.io.ErrorKind.TheVariants.{UnexpectedEof, InvalidData}
use Rattle.perfdata_sources.specs.Source.{State, prepend, Consumed, ReadExactError, SkippedExactly}
use Rattle.perfdata_sources.specs.steps.Source.{BytesOrSourceExplain}
use Rattle.perfdata_sources.proofs.ConsumedLemmas.{consumed_more, consumed_none_later, failed_later}
use Rattle.perfdata_sources.proofs.ReadErrors.{none_or_paused, all_read}
use Rattle.perfdata_sources.specs.Attr.{own_size, field, attr_of_size, IsAttr, AttrParsed, IsTooSmall, IsTruncatedAttr, AttrErrorCause, IsInvalidAttr, AttrParseError, OwnSizeRead, AttrRestRead}
use Rattle.perfdata_sources.specs.declared.attr.PerfEventAttr.{PerfEventAttr}

-- the prefix of a buffer whose part from index a on was overwritten
pub part_prefix : (a k m : ℕ) (xs ys : List ℕ) → a ≤ length xs → a + length ys ≡ m → take m (put_mid a k xs ys) ≡ take a xs ++ ys
part_prefix a k m xs ys fits whole =
    let prefix = length-take-le a xs fits in
    let long : length (take a xs ++ ys) ≡ m = omega (arith, length-append (take a xs) ys) in
    ap (λ n. take n (put_mid a k xs ys)) (sym long) ∙ ap (take (length (take a xs ++ ys))) (sym (append_assoc (take a xs) ys (post_of a k xs))) ∙ take-append_seam (take a xs ++ ys) (post_of a k xs)

pub part_long : (a k m : ℕ) (xs ys : List ℕ) → a ≤ length xs → a + length ys ≡ m → m ≤ length (put_mid a k xs ys)
part_long a k m xs ys fits whole =
    omega (arith, length-append (take a xs) (ys ++ post_of a k xs), length-append ys (post_of a k xs), length-take-le a xs fits)

pub first_eight_front : (xs ys : List ℕ) → length ys ≡ 8 → take 8 (put_mid 0 8 xs ys) ≡ ys
first_eight_front xs ys long = part_prefix 0 8 8 xs ys (omega arith) (omega arith)

-- a property of all lists with this prefix applies to the remaining bytes, if they are known
pub visible : (a b : Option (List ℕ)) (prefix : List ℕ) (P : List ℕ → Type 0) → a ≡ prepend prefix b → ((rest : List ℕ) → P (prefix ++ rest)) → IfSome a P
visible a None prefix P is more = subst (λ o. IfSome o P) (sym is) tt
visible a (Some rest) prefix P is more = subst (λ o. IfSome o P) (sym is) (more rest)

if_some_is : (b : Option (List ℕ)) (P : List ℕ → Type 0) (xs : List ℕ) → b ≡ Some xs → P xs → IfSome b P
if_some_is b P xs is p = subst (λ o. IfSome o P) (sym is) p

if_same : (test : Bool) (a b : ℕ) → (test ≡ true → a ≡ b) → (if test then a else 0) ≡ (if test then b else 0)
if_same true a b same = same refl
if_same false a b same = refl

module _ (number : ℕ → List ℕ → ℕ) where
  -- the `size` of an attribute is its own size
  pub size_with : (own : ℕ) (xs : List ℕ) → (attr_of_size number own xs).size ≡ own
  unfolding attr_of_size
  size_with own xs = refl

module _ (number : ℕ → List ℕ → ℕ) (first : (n : ℕ) (xs ys : List ℕ) → n ≤ length xs → number n (xs ++ ys) ≡ number n xs) where
  -- a number in the first m bytes depends on these alone
  number_of_prefix : (n at m : ℕ) (xs : List ℕ) → at + n ≤ m → m ≤ length xs → number n (drop at xs) ≡ number n (drop at (take m xs))
  number_of_prefix n at m xs within fits =
      let long = length-take-le m xs fits in
      ap (λ l. number n (drop at l)) (sym (take-append-drop m xs)) ∙ ap (number n) (drop-append-le at (take m xs) (drop m xs) (omega arith))
      ∙ first n (drop at (take m xs)) (drop m xs) (omega (arith, length-drop at (take m xs)))

  pub number_prefix : (n at m : ℕ) (xs ys : List ℕ) → at + n ≤ m → m ≤ length xs → m ≤ length ys → take m xs ≡ take m ys → number n (drop at xs) ≡ number n (drop at ys)
  number_prefix n at m xs ys within fits fits' same =
      number_of_prefix n at m xs within fits ∙ ap (λ l. number n (drop at l)) same ∙ sym (number_of_prefix n at m ys within fits')

  -- the own size depends on the first eight bytes alone
  pub own_remains : (h r : List ℕ) → 8 ≤ length h → own_size number (h ++ r) ≡ own_size number h
  own_remains h r long =
      let fits : 8 ≤ length (h ++ r) = omega (arith, length-append h r) in
      let same = number_prefix 4 4 8 (h ++ r) h (omega arith) fits long (take-append-le 8 h r long) in
      ap (λ s. if nat_eq s 0 then 64 else s) same

  module _ (own m : ℕ) (xs ys : List ℕ) (known : (k : ℕ) → k ≤ own → k ≤ 136 → k ≤ m) (fits : m ≤ length xs) (fits' : m ≤ length ys) (same : take m xs ≡ take m ys) where
    field_prefix : (n at : ℕ) → at + n ≤ 136 → field number own n at xs ≡ field number own n at ys
    unfolding field
    field_prefix n at low = if_same (nat_le (at + n) own) (number n (drop at xs)) (number n (drop at ys)) (λ test.
        let within = leb-true (at + n) own test in
        number_prefix n at m xs ys (known (at + n) within low) fits fits' same)

    -- the fields depend on the own bytes and on the known bytes alone
    pub attr_prefix : attr_of_size number own xs ≡ attr_of_size number own ys
    unfolding attr_of_size
    attr_prefix = λ i. record {
      type_ = field_prefix 4 0 (omega arith) i;
      size = own;
      config = field_prefix 8 8 (omega arith) i;
      period_or_freq = field_prefix 8 16 (omega arith) i;
      sample_format = record { 0 = field_prefix 8 24 (omega arith) i };
      read_format = field_prefix 8 32 (omega arith) i;
      flags = record { 0 = field_prefix 8 40 (omega arith) i };
      wakeup = field_prefix 4 48 (omega arith) i;
      bp_type = field_prefix 4 52 (omega arith) i;
      config1 = field_prefix 8 56 (omega arith) i;
      config2 = field_prefix 8 64 (omega arith) i;
      branch_sample_type = field_prefix 8 72 (omega arith) i;
      sample_regs_user = field_prefix 8 80 (omega arith) i;
      sample_stack_user = field_prefix 4 88 (omega arith) i;
      clockid = cast_signed w32 (field_prefix 4 92 (omega arith) i);
      sample_regs_intr = field_prefix 8 96 (omega arith) i;
      aux_watermark = field_prefix 4 104 (omega arith) i;
      sample_max_stack = field_prefix 2 108 (omega arith) i;
      aux_sample_size = field_prefix 4 112 (omega arith) i;
      sig_data = field_prefix 8 120 (omega arith) i;
      config3 = field_prefix 8 128 (omega arith) i;
    }

  -- bytes after an attribute don't change it
  pub attr_remains : (xs rest : List ℕ) (a : PerfEventAttr) → IsAttr number xs a → IsAttr number (xs ++ rest) a
  attr_remains xs rest a is =
      let least = is.min_size in
      let there = is.complete in
      let size = own_remains xs rest (omega arith) in
      let all = length-append xs rest in
      record {
        min_size = omega arith;
        complete = omega arith;
        matches = is.matches ∙ sym (attr_prefix (own_size number xs) (own_size number xs) (xs ++ rest) xs (λ k low high. low) (omega arith) there (take-append-le (own_size number xs) xs rest there)) ∙ ap (λ own. attr_of_size number own (xs ++ rest)) (sym size);
      }

  -- the first eight bytes and the rest are an attribute
  pub whole_attr : (a b c : State) (header : List ℕ) (own : ℕ) (attr : PerfEventAttr) → length header ≡ 8 → OwnSizeRead number a header own b → AttrRestRead number b header own attr c → AttrParsed number a attr own c
  whole_attr a b c header own attr long step more =
      let size = own_remains header more.rest (omega arith) in
      let all = length-append header more.rest in
      let eight = more.exact_len in
      let least = step.min_size in
      let same = step.matches in
      record {
        bytes = header ++ more.rest;
        exact_len = omega arith;
        size = ap (λ a. a.size) more.matches ∙ size_with number own (header ++ more.rest);
        consumes = consumed_more a b c header more.rest step.consumes more.consumes;
        matches = record { min_size = omega arith; complete = omega arith; matches = more.matches ∙ ap (λ n. attr_of_size number n (header ++ more.rest)) (step.matches ∙ sym size) };
      }

  -- the first eight bytes were read, and the rest is truncated
  pub rest_truncated : (a b c : State) (header : List ℕ) (own : ℕ) (e : Error) → length header ≡ 8 → OwnSizeRead number a header own b → ReadExactError b (own - 8) e c → AttrParseError number a e c
  rest_truncated a b c header own e long step truncated =
      let size : own_size number (header ++ truncated.consumed_bytes) ≡ own = own_remains header truncated.consumed_bytes (omega arith) ∙ sym step.matches in
      let least = step.min_size in
      let less = truncated.too_few in
      record {
        consumed_bytes = header ++ truncated.consumed_bytes;
        consumes = consumed_more a b c header truncated.consumed_bytes step.consumes truncated.consumes;
        cause = inl (
          inr (omega arith, omega (arith, length-append header truncated.consumed_bytes)),
          elim truncated.cause [
            | inl short ↦ inl (short.0, consumed_none_later a b c header step.consumes short.1)
            | inr failed ↦ inr (failed_later a b c header step.consumes failed)
          ],
        );
      }

  -- the bytes read into a buffer after its first eight, and the skipped ones, are the rest of an attribute
  pub whole_rest : (a b c : State) (bytes now ys : List ℕ) (own m : ℕ) (attr : PerfEventAttr) → 8 ≤ m → m ≤ own → ((k : ℕ) → k ≤ own → k ≤ 136 → k ≤ m) → m ≤ length now → length (take 8 bytes) ≡ 8 → 8 + length ys ≡ m → take m now ≡ take 8 bytes ++ ys
      → Consumed a ys b → SkippedExactly b (own - m) c → attr ≡ attr_of_size number own now → AttrRestRead number a (take 8 bytes) own attr c
  whole_rest a b c bytes now ys own m attr low high known fits eight long is consumed skip fields =
      let skipped = skip.exact_len in
      let header = take 8 bytes in
      let all = length-append ys skip.bytes in
      let all' = length-append header (ys ++ skip.bytes) in
      let prefix : take m now ≡ take m (header ++ (ys ++ skip.bytes)) =
      let len : length (header ++ ys) ≡ m = omega (arith, length-append header ys) in
      is ∙ sym (take-append_seam (header ++ ys) skip.bytes) ∙ ap (λ k. take k ((header ++ ys) ++ skip.bytes)) len ∙ ap (take m) (append_assoc header ys skip.bytes)
      in
      record {
        rest = ys ++ skip.bytes;
        exact_len = omega arith;
        consumes = consumed_more a b c ys skip.bytes consumed skip.consumes;
        matches = fields ∙ attr_prefix own m now (header ++ (ys ++ skip.bytes)) known fits (omega arith) prefix;
      }

  small_remains : (prefix rest : List ℕ) → length prefix ≡ 8 → own_size number prefix < 64 → IsTooSmall number (prefix ++ rest)
  small_remains prefix rest long small =
      let size = own_remains prefix rest (omega arith) in
      (omega (arith, length-append prefix rest), omega arith)

  excused : (Unfinished : List ℕ → Type 0) (a b : State) (prefix : List ℕ) (e : Error) → Consumed a prefix b → AttrErrorCause number Unfinished a prefix e b → BytesOrSourceExplain a (λ xs. ((error_kind e ≡ UnexpectedEof) × Unfinished xs) ⊎ ((error_kind e ≡ InvalidData) × IsTooSmall number xs)) b
  excused Unfinished a b prefix e consumed reason_of = elim reason_of [
    | inl truncated ↦ elim truncated.1 [
      | inl short ↦ elim (none_or_paused a b short.1) [
        | inl end ↦ inl (if_some_is a.bytes (λ xs. ((error_kind e ≡ UnexpectedEof) × Unfinished xs) ⊎ ((error_kind e ≡ InvalidData) × IsTooSmall number xs)) prefix (all_read a b prefix consumed end) (inl (short.0, truncated.0)))
        | inr paused ↦ inr (inr paused)
      ]
      | inr failed ↦ inr (inl failed)
    ]
    | inr small ↦ inl (visible a.bytes b.bytes prefix (λ xs. ((error_kind e ≡ UnexpectedEof) × Unfinished xs) ⊎ ((error_kind e ≡ InvalidData) × IsTooSmall number xs)) consumed.bytes (λ rest. inr (small.2, small_remains prefix rest small.0 small.1)))
  ]

  -- the same if an attribute can't be parsed
  pub attr_explained : (a b : State) (e : Error) → AttrParseError number a e b → BytesOrSourceExplain a (IsInvalidAttr number e) b
  attr_explained a b e error = excused (IsTruncatedAttr number) a b error.consumed_bytes e error.consumes error.cause
