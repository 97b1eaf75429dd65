-- From items that were read at offsets to a list of them, or to the error.
use Rattle.std.proofs.Common.{◌≡◌, ◌≢◌, ℕ, ◌+◌, ◌-◌, ◌*◌, ◌/◌, ◌<◌, ◌≤◌, ◌++◌, List, [], ◌∷◌, length, take, drop, All, refl, sym, ap, ◌∙◌, subst, inl, inr, arith, length-append, Option, None, Some, suc}
use Rattle.std.specs.Prelude.{◌⊎◌, IfSome}
use Rattle.std.proofs.lemmas.Nat.{div-mul-add, le-div}
use Rattle.std.proofs.Math.Seq.{take-append_seam}
use Rattle.std.proofs.lemmas.List.Elements.{All-push}
use Rattle.std.specs.declared.io.Error.{Error as SourceError}
use Rattle.std.specs.declared.io.SeekFrom.TheVariants.{Start}
use Rattle.perfdata_sources.specs.Source.{State, Position, prepend, advance_by, remaining_from, at_offset, all_bytes_of, Consumed, EndedOrPaused, EndedOrFailed, ReadExactError, SourceFailed, SourcePaused, AfterSeek, SeekSucceeded}
use Rattle.perfdata_sources.proofs.ReadErrors.{none_or_paused, all_read, consumed-after_seek, after_seek_more, failed_after_seek, paused_after_seek}
use Rattle.perfdata_sections.specs.ParsedPart.{PartReadError}
use Rattle.perfdata_sections.specs.Items.{SomeBytes, ReadErrorCause, NextReadError, ReadOrSeekErrorAt, IsTruncationOf, IsReadErrorOf, IsShorterThan, ItemRead, ItemsAt, AreItems, ItemsRead, SomeItemsRead, ItemsReadErrorBy}
use Rattle.perfdata_sections.specs.declared.error.Error.{Error}
use Rattle.perfdata_sections.specs.declared.error.Error.TheVariants.{IoError, Memory}

pub if_some_more : (o : Option (List ℕ)) (P Q : List ℕ → Type 0) → ((xs : List ℕ) → P xs → Q xs) → IfSome o P → IfSome o Q
if_some_more None P Q more h = tt
if_some_more (Some xs) P Q more h = more xs h

pub if_some_both : (o : Option (List ℕ)) (P Q S : List ℕ → Type 0) → ((xs : List ℕ) → P xs → Q xs → S xs) → IfSome o P → IfSome o Q → IfSome o S
if_some_both None P Q S more h k = tt
if_some_both (Some xs) P Q S more h k = more xs h k

if_some_is : (o : Option (List ℕ)) (P : List ℕ → Type 0) (xs : List ℕ) → o ≡ Some xs → P xs → IfSome o P
if_some_is o P xs is p = subst (λ o. IfSome o P) (sym is) p

-- a fact that holds for all bytes beginning with `prefix` holds for the source that `prefix` was read from
pub is_visible : (a b : Option (List ℕ)) (prefix : List ℕ) (P : List ℕ → Type 0) → a ≡ prepend prefix b → ((rest : List ℕ) → P (prefix ++ rest)) → IfSome a P
is_visible a None prefix P is more = subst (λ o. IfSome o P) (sym is) tt
is_visible a (Some rest) prefix P is more = subst (λ o. IfSome o P) (sym is) (more rest)

pub later : (a b c : State) → AfterSeek a b → SourceFailed b c ⊎ SourcePaused b c → SourceFailed a c ⊎ SourcePaused a c
later a b c after_seek cause = elim cause [
  | inl failed ↦ inl (failed_after_seek a b c after_seek failed)
  | inr paused ↦ inr (paused_after_seek a b c after_seek paused)
]

-- a fact on the remaining bytes after a seek is a fact on all bytes at the target offset
pub bytes_at_target : (position position' : Option Position) (bytes : Option (List ℕ)) (at n : ℕ) (P : List ℕ → Type 0) → position' ≡ at_offset n position → bytes ≡ remaining_from position' → ((p : Position) → position ≡ Some p → n ≡ at) → IfSome bytes P
    → IfSome (all_bytes_of position) (λ all. P (drop at all))
bytes_at_target None position' bytes at n P is stand target h = tt
bytes_at_target (Some p) position' bytes at n P is stand target h =
    let there = stand ∙ ap remaining_from is ∙ ap (λ k. Some (drop k p.all_bytes)) (target p refl) in
    subst (λ o. IfSome o P) there h

-- the position after a seek and reading `k` bytes
position_at_target : (position : Option Position) (at n k : ℕ) → ((p : Position) → position ≡ Some p → n ≡ at) → advance_by k (at_offset n position) ≡ at_offset (at + k) position
position_at_target None at n k target = refl
position_at_target (Some p) at n k target = ap (λ m. Some (record { all_bytes = p.all_bytes; offset = m + k })) (target p refl)

-- this position is after the bytes read
pub seek_then_consumed : (a b c : State) (at n : ℕ) (prefix : List ℕ) → SeekSucceeded a (Start at) n b → Consumed b prefix c → c.position ≡ at_offset (at + length prefix) a.position
seek_then_consumed a b c at n prefix seek consumed = consumed.position ∙ ap (advance_by (length prefix)) seek.position ∙ position_at_target a.position at n (length prefix) seek.target

offset_in : ℕ → Option (List ℕ) → Option Position
offset_in n None = None
offset_in n (Some all) = Some (record { all_bytes = all; offset = n })

at_offset_in : (n : ℕ) (position : Option Position) → at_offset n position ≡ offset_in n (all_bytes_of position)
unfolding offset_in
at_offset_in n None = refl
at_offset_in n (Some p) = refl

-- the same offset in the same bytes
pub at_offset_same : (n : ℕ) (position position' : Option Position) → all_bytes_of position ≡ all_bytes_of position' → at_offset n position ≡ at_offset n position'
at_offset_same n position position' same = at_offset_in n position ∙ ap (offset_in n) same ∙ sym (at_offset_in n position')

-- an I/O error in a read from a later state is also one from the earlier state
abbrev pub Carries : (Error → List ℕ → State → State → Type 0) → Type 0
Carries IsOfRead = (a b c : State) (e : Error) (prefix : List ℕ) → AfterSeek a b → IsOfRead e prefix b c → IsOfRead e prefix a c

module _ (IsNot : Error → List ℕ → List ℕ → Type 0) (IsOfRead : Error → List ℕ → State → State → Type 0) where
  -- these bytes were read, and they begin no valid item, whatever follows
  pub cause_in_bytes : (a b : State) (prefix : List ℕ) (e : Error) → Consumed a prefix b → ((rest : List ℕ) → IsNot e prefix (prefix ++ rest)) → ReadErrorCause IsNot IsOfRead a a.bytes (IsNot e prefix) prefix e b
  cause_in_bytes a b prefix e consumed none = inl ((prefix ++ [], none []), is_visible a.bytes b.bytes prefix (IsNot e prefix) consumed.bytes none)

  -- too too_few bytes were read, as the source ended, paused or failed
  pub cause_of_truncation : (a b : State) (prefix : List ℕ) (e : Error) → Consumed a prefix b → IsNot e prefix prefix → (SourceFailed a b ⊎ SourcePaused a b → IsOfRead e prefix a b) → EndedOrPaused a b ⊎ SourceFailed a b → ReadErrorCause IsNot IsOfRead a a.bytes (IsNot e prefix) prefix e b
  cause_of_truncation a b prefix e consumed too_few of_read end = elim end [
    | inl none ↦ elim (none_or_paused a b none) [
      | inl none ↦ inl ((prefix, too_few), if_some_is a.bytes (IsNot e prefix) prefix (all_read a b prefix consumed none) too_few)
      | inr paused ↦ inr (of_read (inr paused))
    ]
    | inr failed ↦ inr (of_read (inl failed))
  ]

  -- a seek, followed by an error
  pub error_there : Carries IsOfRead → (a b c : State) (at n : ℕ) (e : Error) → SeekSucceeded a (Start at) n b → NextReadError IsNot IsOfRead b e c → AfterSeek a c × (e ≢ Memory → ReadOrSeekErrorAt IsNot IsOfRead a at e c)
  error_there carries a b c at n e seek read_error = (
    after_seek_more a b c seek.after_seek (consumed-after_seek b c read_error.consumed_bytes seek.after_seek.from_position read_error.consumes),
    λ _. inl (record {
      consumed_bytes = read_error.consumed_bytes;
      position = seek_then_consumed a b c at n read_error.consumed_bytes seek read_error.consumes;
      at_position = bytes_at_target a.position b.position b.bytes at n (λ xs. take (length read_error.consumed_bytes) xs ≡ read_error.consumed_bytes) seek.position seek.after_seek.from_position seek.target
          (is_visible b.bytes c.bytes read_error.consumed_bytes (λ xs. take (length read_error.consumed_bytes) xs ≡ read_error.consumed_bytes) read_error.consumes.bytes (λ rest. take-append_seam read_error.consumed_bytes rest));
      cause = elim read_error.cause [
        | inl bytes ↦ inl (bytes.0, bytes_at_target a.position b.position b.bytes at n (IsNot e read_error.consumed_bytes) seek.position seek.after_seek.from_position seek.target bytes.1)
        | inr source ↦ inr (carries a b c e read_error.consumed_bytes seek.after_seek source)
      ];
    }),
  )

  -- an error from a later state is also one from the earlier state
  pub error_later : Carries IsOfRead → (a b c : State) (at : ℕ) (e : Error) → AfterSeek a b → ReadOrSeekErrorAt IsNot IsOfRead b at e c → ReadOrSeekErrorAt IsNot IsOfRead a at e c
  error_later carries a b c at e after_seek read_error = elim read_error [
    | inl there ↦ inl (record {
      consumed_bytes = there.consumed_bytes;
      position = there.position ∙ at_offset_same (at + length there.consumed_bytes) b.position a.position after_seek.all_bytes;
      at_position = subst (λ o. IfSome o (λ all. take (length there.consumed_bytes) (drop at all) ≡ there.consumed_bytes)) after_seek.all_bytes there.at_position;
      cause = elim there.cause [
        | inl bytes ↦ inl (bytes.0, subst (λ o. IfSome o (λ all. IsNot e there.consumed_bytes (drop at all))) after_seek.all_bytes bytes.1)
        | inr source ↦ inr (carries a b c e there.consumed_bytes after_seek source)
      ];
    })
    | inr seek ↦ inr (seek.0, failed_after_seek a b c after_seek seek.1)
  ]

module _ (IsTruncated : List ℕ → Type 0) where
  pub read_error_carries : Carries (IsReadErrorOf IsTruncated)
  read_error_carries a b c e prefix after_seek read_error = (
    read_error.0,
    elim read_error.1 [
      | inl failed ↦ inl (failed.0, failed_after_seek a b c after_seek failed.1)
      | inr paused ↦ inr (paused.0, paused_after_seek a b c after_seek paused.1)
    ],
  )

  -- too too_few bytes were read, as the source ended or paused, which is an unexpected end of file, or failed
  pub truncated_cause_next : (a b : State) (e : SourceError) (prefix : List ℕ) → Consumed a prefix b → IsTruncated prefix → EndedOrFailed e a b → NextReadError (IsTruncationOf IsTruncated) (IsReadErrorOf IsTruncated) a (IoError e) b
  truncated_cause_next a b e prefix consumed too_few cause = record {
    consumed_bytes = prefix;
    consumes = consumed;
    cause = elim cause [
      | inl short ↦ elim (none_or_paused a b short.1) [
        | inl end ↦ inl ((prefix, (short.0, too_few, refl)), if_some_is a.bytes (IsTruncationOf IsTruncated (IoError e) prefix) prefix (all_read a b prefix consumed end) (short.0, too_few, refl))
        | inr paused ↦ inr (too_few, inr (short.0, paused))
      ]
      | inr failed ↦ inr (too_few, inl (tt, failed))
    ];
  }

  pub read_error_next : (a b : State) (e : SourceError) → PartReadError IsTruncated a e b → NextReadError (IsTruncationOf IsTruncated) (IsReadErrorOf IsTruncated) a (IoError e) b
  read_error_next a b e stopped = truncated_cause_next a b e stopped.bytes stopped.consumes stopped.is_truncated stopped.cause

-- fewer than `n` bytes were read
pub truncated_next : (a b : State) (n : ℕ) (e : SourceError) → ReadExactError a n e b → NextReadError (IsTruncationOf (IsShorterThan n)) (IsReadErrorOf (IsShorterThan n)) a (IoError e) b
truncated_next a b n e read_error = truncated_cause_next (IsShorterThan n) a b e read_error.consumed_bytes read_error.consumes read_error.too_few read_error.cause

module _ {D : Type 0} (IsOne : List ℕ → D → Type 0) where
  -- a seek, followed by bytes that begin with this item, whatever follows
  pub read_there : (a b c : State) (at n : ℕ) (prefix : List ℕ) (d : D) → SeekSucceeded a (Start at) n b → Consumed b prefix c → ((rest : List ℕ) → IsOne (prefix ++ rest) d) → ItemRead IsOne a at d c
  read_there a b c at n prefix d seek consumed more = record {
    after_seek = after_seek_more a b c seek.after_seek (consumed-after_seek b c prefix seek.after_seek.from_position consumed);
    is_possible = (prefix ++ [], more []);
    matches = bytes_at_target a.position b.position b.bytes at n (λ xs. IsOne xs d) seek.position seek.after_seek.from_position seek.target (is_visible b.bytes c.bytes prefix (λ xs. IsOne xs d) consumed.bytes more);
  }

  module _ (step : ℕ) where
    -- one more item, at the next multiple of the step
    items_push : (all : List ℕ) (at : ℕ) (ds : List D) (d : D) → ItemsAt IsOne step all at ds → IsOne (drop (at + length ds * step) all) d → ItemsAt IsOne step all at (ds ++ d ∷ [])
    items_push all at [] d before here = (let e : at + 0 * step ≡ at = omega arith in subst (λ k. IsOne (drop k all) d) e here, tt)
    items_push all at (x ∷ xs) d before here =
        let e : at + suc (length xs) * step ≡ (at + step) + length xs * step = omega arith in
        (before.0, items_push all (at + step) xs d before.1 (subst (λ k. IsOne (drop k all) d) e here))

    -- the loop invariant: the items so so_far, and the offset of the next
    pub record IsSoFar (offset size : ℕ) (a b : State) (at : ℕ) (ds : List D) : Type 0 where
      pub within : at ≤ offset + size
      pub offset_matches : at ≡ offset + length ds * step
      pub after_seek : AfterSeek a b
      pub is_possible : All (λ d. SomeBytes (λ xs. IsOne xs d)) ds
      pub matches : IfSome (all_bytes_of a.position) (λ all. ItemsAt IsOne step all offset ds)

    module _ (offset size : ℕ) (a b : State) (at : ℕ) (ds : List D) (can : 0 < step) (so_far : IsSoFar offset size a b at ds) where
      size_is : size ≡ length ds * step + (offset + size - at)
      size_is = let within = so_far.within in let offset_matches = so_far.offset_matches in omega arith

      -- no further item fits
      pub items_complete : offset + size - at < step → ItemsRead IsOne step a offset size ds b
      items_complete less =
          let count : length ds ≡ size / step = sym (ap (λ n. n / step) size_is ∙ div-mul-add (length ds) step (offset + size - at) less) in
          record {
            after_seek = so_far.after_seek;
            count = count;
            is_possible = so_far.is_possible;
            matches = if_some_more (all_bytes_of a.position) (λ all. ItemsAt IsOne step all offset ds) (λ all. AreItems IsOne step offset size all ds) (λ all each. record { count = count; items_match = each }) so_far.matches;
          }

      -- memory runs out for the last item
      pub items_some : 0 < length ds → SomeItemsRead IsOne step a offset size
      items_some some =
          let s = size_is in
          let fits : length ds * step ≤ size = omega arith in
          record { items = ds; is_nonempty = some; within = le-div (length ds) size step can fits; is_possible = so_far.is_possible; elements = so_far.matches }

      -- one more item was read
      pub items_more : (c : State) (d : D) (now : List D) → step ≤ offset + size - at → now ≡ ds ++ d ∷ [] → ItemRead IsOne b at d c → IsSoFar offset size a c (at + step) now
      items_more c d now more pushed was_read =
          let one : length now ≡ suc (length ds) = ap length pushed ∙ length-append ds (d ∷ []) ∙ omega arith in
          let within = so_far.within in
          record {
            within = omega arith;
            offset_matches = ap (λ k. k + step) so_far.offset_matches ∙ (let e : (offset + length ds * step) + step ≡ offset + suc (length ds) * step = omega arith in e) ∙ ap (λ n. offset + n * step) (sym one);
            after_seek = after_seek_more a b c so_far.after_seek was_read.after_seek;
            is_possible = subst (λ l. All (λ d. SomeBytes (λ xs. IsOne xs d)) l) (sym pushed) (All-push (λ d. SomeBytes (λ xs. IsOne xs d)) ds d so_far.is_possible was_read.is_possible);
            matches = if_some_both (all_bytes_of a.position) (λ all. ItemsAt IsOne step all offset ds) (λ all. IsOne (drop at all) d) (λ all. ItemsAt IsOne step all offset now)
                (λ all each here. subst (λ l. ItemsAt IsOne step all offset l) (sym pushed) (items_push all offset ds d each (subst (λ k. IsOne (drop k all) d) so_far.offset_matches here)))
                so_far.matches (subst (λ o. IfSome o (λ all. IsOne (drop at all) d)) so_far.after_seek.all_bytes was_read.matches);
          }

      -- reading the next item failed
      pub items_error : (Fails : State → ℕ → Error → State → Type 0) (c : State) (e : Error) → ((k : ℕ) → Fails b k e c → Fails a k e c) → step ≤ offset + size - at → AfterSeek b c × (e ≢ Memory → Fails b at e c)
          → AfterSeek a c × (e ≢ Memory → ItemsReadErrorBy IsOne Fails step a offset size e c)
      items_error Fails c e earlier more read_error =
          let s = size_is in
          let fits : suc (length ds) * step ≤ size = omega arith in (
            after_seek_more a b c so_far.after_seek read_error.0,
            λ ne. record {
              before = ds;
              too_few = le-div (suc (length ds)) size step can fits;
              is_possible = so_far.is_possible;
              elements = so_far.matches;
              error = subst (λ k. Fails a k e c) so_far.offset_matches (earlier at (read_error.1 ne));
            },
          )
