-- From the parts of a frame to its attribute, or to the error.
use Rattle.std.proofs.Common.{◌≡◌, ℕ, ◌+◌, ◌-◌, ◌^◌, ◌<◌, ◌≤◌, ◌++◌, List, [], length, take, refl, sym, ap, ◌∙◌, subst, inl, inr, arith, length-append, None}
use Rattle.std.specs.Prelude.{Result, Ok, Err, nat_eq, if◌then◌else◌}
use Rattle.std.proofs.Math.ListN.{replicate}
use Rattle.std.proofs.Math.Seq.{take-append_seam}
use Rattle.std.proofs.lemmas.List.{length-take-le, take-take, length-replicate}
use Rattle.std.specs.declared.io.Error.{Error as SourceError}
use Rattle.std.specs.declared.io.SeekFrom.TheVariants.{Start}
use Rattle.perfdata_sources.specs.Source.{State, ReadExactError, SeekSucceeded}
use Rattle.perfdata_sources.proofs.ConsumedLemmas.{consumed_more, consumed_none_later, failed_later}
use Rattle.perfdata_sources.specs.Attr.{own_size, attr_of_size, OwnSizeRead, OwnSizeReadError, AttrRestRead}
use Rattle.perfdata_sources.proofs.Attrs.{own_remains, attr_remains, attr_prefix, number_prefix, whole_attr, size_with}
use Rattle.perfdata_sources.specs.declared.attr.PerfEventAttr.{PerfEventAttr}
use Rattle.perfdata_base.specs.declared.section.PerfFileSection.{PerfFileSection}
use Rattle.perfdata_sections.specs.AttributeDescription.{attr_in, name_in, ids_in}
use Rattle.perfdata_sections.specs.Items.{NextReadError, ItemRead}
use Rattle.perfdata_sections.specs.AttrFrames.{IsFrameReadError, IsAttrInFrame, IsTruncatedFrame, ConsumesFrameError, FrameRead, ReadsFrame, ReadsFrameAt, IsPlainDescription, IsInvalidAttrSection}
use Rattle.perfdata_sections.proofs.ItemRuns.{if_some_more, later, cause_in_bytes, cause_of_truncation, error_there, read_there, Carries}
use Rattle.perfdata_sections.specs.declared.feature_sections.AttributeDescription.{AttributeDescription}
use Rattle.perfdata_sections.specs.declared.error.Error.{Error}
use Rattle.perfdata_sections.specs.declared.error.Error.TheVariants.{Read, InconsistentAttributeSizes}
use Rattle.perfdata_sections.specs.declared.error.ReadError.TheVariants.{PerfEventAttr as OfAttr}

zeros : (n : ℕ) → (xs : List ℕ) × (length xs ≡ n)
zeros n = (replicate n 0, length-replicate n 0)

first_eight : (header rest : List ℕ) → length header ≡ 8 → header ≡ take 8 (header ++ rest)
first_eight header rest long = sym (ap (λ n. take n (header ++ rest)) (sym long) ∙ take-append_seam header rest)

module _ (number : ℕ → List ℕ → ℕ) (first : (n : ℕ) (xs ys : List ℕ) → n ≤ length xs → number n (xs ++ ys) ≡ number n xs) (attr_size : ℕ) where
  -- the first 8 bytes have an error
  pub frame_header_error : (a b : State) (e : SourceError) → OwnSizeReadError number a e b → NextReadError (ConsumesFrameError number attr_size) (IsFrameReadError number attr_size) a (Read OfAttr) b
  frame_header_error a b e own = record {
    consumed_bytes = own.consumed_bytes;
    consumes = own.consumes;
    cause = elim own.cause [
      | inl short ↦ cause_of_truncation (ConsumesFrameError number attr_size) (IsFrameReadError number attr_size) a b own.consumed_bytes (Read OfAttr) own.consumes (inl (inl short.0), inl (inl short.0, refl)) (λ end. ((refl, inl short.0), end)) (elim short.1 [ inl none ↦ inl none.1 | inr failed ↦ inr failed ])
      | inr small ↦ cause_in_bytes (ConsumesFrameError number attr_size) (IsFrameReadError number attr_size) a b own.consumed_bytes (Read OfAttr) own.consumes (λ rest.
          let size = own_remains number first own.consumed_bytes rest (omega (arith, small.0)) in
          let long_enough : 8 ≤ length (own.consumed_bytes ++ rest) = omega (arith, length-append own.consumed_bytes rest, small.0) in
          let low : own_size number (own.consumed_bytes ++ rest) < 64 = omega (arith, small.1, size) in
          (inr (long_enough, low), inr (λ truncated. elim truncated [ inl too_few ↦ omega arith | inr part ↦ (let least = part.0 in omega arith) ], first_eight own.consumed_bytes rest small.0)))
    ];
  }

  -- the attribute's own size exceeds that of the frame
  pub frame_too_long : (a b : State) (header : List ℕ) (own : ℕ) → length header ≡ 8 → OwnSizeRead number a header own b → attr_size < own → NextReadError (ConsumesFrameError number attr_size) (IsFrameReadError number attr_size) a (InconsistentAttributeSizes own attr_size) b
  frame_too_long a b header own long was_read more = record {
    consumed_bytes = header;
    consumes = was_read.consumes;
    cause = cause_in_bytes (ConsumesFrameError number attr_size) (IsFrameReadError number attr_size) a b header (InconsistentAttributeSizes own attr_size) was_read.consumes (λ rest.
        let size = own_remains number first header rest (omega arith) in
        let long_enough : 8 ≤ length (header ++ rest) = omega (arith, length-append header rest) in
        let same : own ≡ own_size number (header ++ rest) = was_read.matches ∙ sym size in
        ((long_enough, same, refl, was_read.min_size, more), inr (λ truncated. elim truncated [ inl too_few ↦ omega arith | inr part ↦ (let within = part.1 in omega arith) ], first_eight header rest long)));
  }

  -- the bytes after the first 8 are truncated
  pub frame_rest_error : (a b c : State) (header : List ℕ) (own : ℕ) (e : SourceError) → length header ≡ 8 → OwnSizeRead number a header own b → own ≤ attr_size → ReadExactError b (own - 8) e c → NextReadError (ConsumesFrameError number attr_size) (IsFrameReadError number attr_size) a (Read OfAttr) c
  frame_rest_error a b c header own e long was_read within truncated =
      let size : own_size number (header ++ truncated.consumed_bytes) ≡ own = own_remains number first header truncated.consumed_bytes (omega arith) ∙ sym was_read.matches in
      let least = was_read.min_size in
      let less = truncated.too_few in
      let too_few : IsTruncatedFrame number attr_size (header ++ truncated.consumed_bytes) = inr (omega arith, omega arith, omega (arith, length-append header truncated.consumed_bytes)) in
      record {
        consumed_bytes = header ++ truncated.consumed_bytes;
        consumes = consumed_more a b c header truncated.consumed_bytes was_read.consumes truncated.consumes;
        cause = cause_of_truncation (ConsumesFrameError number attr_size) (IsFrameReadError number attr_size) a c (header ++ truncated.consumed_bytes) (Read OfAttr) (consumed_more a b c header truncated.consumed_bytes was_read.consumes truncated.consumes)
            (inl too_few, inl (too_few, refl)) (λ end. ((refl, too_few), end)) (elim truncated.cause [
              | inl short ↦ inl (consumed_none_later a b c header was_read.consumes short.1)
              | inr failed ↦ inr (failed_later a b c header was_read.consumes failed)
            ]);
      }

  pub frame_whole : (a b c : State) (header : List ℕ) (own : ℕ) (attr : PerfEventAttr) → length header ≡ 8 → OwnSizeRead number a header own b → own ≤ attr_size → AttrRestRead number b header own attr c → FrameRead number attr_size a attr c
  frame_whole a b c header own attr long was_read within more =
      let whole = whole_attr number first a b c header own attr long was_read more in
      let size : own_size number whole.bytes ≡ own = sym (size_with number (own_size number whole.bytes) whole.bytes) ∙ sym (ap (λ a. a.size) whole.matches.matches) ∙ whole.size in
      let sized : attr.size ≡ own = whole.size in
      record {
        bytes = whole.bytes;
        exact_len = whole.exact_len ∙ sym sized;
        fits_frame = omega arith;
        consumes = whole.consumes;
        matches = record { matches = whole.matches; within = omega arith };
      }

  -- other bytes with the same first `own_size` bytes contain the same frame
  framed_same : (xs ys : List ℕ) (a : PerfEventAttr) → IsAttrInFrame number attr_size xs a → own_size number xs ≤ length ys → take (own_size number xs) xs ≡ take (own_size number xs) ys → IsAttrInFrame number attr_size ys a
  framed_same xs ys a framed fits same =
      let least = framed.matches.min_size in
      let there = framed.matches.complete in
      let within = framed.within in
      let size : own_size number ys ≡ own_size number xs =
      ap (λ s. if nat_eq s 0 then 64 else s) (sym (number_prefix number first 4 4 (own_size number xs) xs ys (omega arith) there fits same))
      in
      let is : a ≡ attr_of_size number (own_size number xs) ys =
      framed.matches.matches ∙ attr_prefix number first (own_size number xs) (own_size number xs) xs ys (λ k low high. low) there fits same
      in
      record {
        matches = record { min_size = omega arith; complete = omega arith; matches = is ∙ ap (λ own. attr_of_size number own ys) (sym size) };
        within = omega arith;
      }

  -- the first `attr_size` bytes contain the frame, if there are as many
  pub frame_prefix : (xs : List ℕ) (a : PerfEventAttr) → IsAttrInFrame number attr_size xs a → attr_size ≤ length xs → IsAttrInFrame number attr_size (take attr_size xs) a
  frame_prefix xs a framed long_enough =
      let within = framed.within in
      let long = length-take-le attr_size xs long_enough in
      framed_same xs (take attr_size xs) a framed (omega arith) (sym (take-take (own_size number xs) attr_size xs within))

  -- the bytes of the attribute, padded to `attr_size` bytes, contain the frame
  pub frame_filled : (xs : List ℕ) (a : PerfEventAttr) → IsAttrInFrame number attr_size xs a → (ys : List ℕ) × (length ys ≡ attr_size) × IsAttrInFrame number attr_size ys a
  frame_filled xs a framed =
      let own = own_size number xs in
      let within = framed.within in
      let there = framed.matches.complete in
      let long : length (take own xs) ≡ own = length-take-le own xs there in
      let pad = zeros (attr_size - own) in
      let gap : length pad.0 ≡ attr_size - own = pad.1 in
      let all : length (take own xs ++ pad.0) ≡ attr_size = omega (arith, length-append (take own xs) pad.0, long, gap) in
      let same : take own xs ≡ take own (take own xs ++ pad.0) =
      sym (ap (λ n. take n (take own xs ++ pad.0)) (sym long) ∙ take-append_seam (take own xs) pad.0)
      in
      (take own xs ++ pad.0, all, framed_same xs (take own xs ++ pad.0) a framed (omega (arith, all, within)) same)

  -- a frame is unchanged by the bytes after it
  pub frame_remains : (xs rest : List ℕ) (a : PerfEventAttr) → IsAttrInFrame number attr_size xs a → IsAttrInFrame number attr_size (xs ++ rest) a
  frame_remains xs rest a framed =
      let least = framed.matches.min_size in
      let there = framed.matches.complete in
      let within = framed.within in
      let size = own_remains number first xs rest (omega arith) in
      record { matches = attr_remains number first xs rest a framed.matches; within = omega arith }

  -- an I/O error in reading a frame from a later state is also one from the earlier state
  pub frame_carries : Carries (IsFrameReadError number attr_size)
  frame_carries a b c e prefix after_seek read_error = (read_error.0, later a b c after_seek read_error.1)

  -- a seek, followed by reading a frame, which succeeds or fails
  pub frame_result : (a b c : State) (at n : ℕ) (r : Result PerfEventAttr Error) → SeekSucceeded a (Start at) n b → ReadsFrame number attr_size b r c → ReadsFrameAt number attr_size a at r c
  frame_result a b c at n (Ok attr) seek was_read = read_there (IsAttrInFrame number attr_size) a b c at n was_read.bytes attr seek was_read.consumes (λ rest. frame_remains was_read.bytes rest attr was_read.matches)
  frame_result a b c at n (Err e) seek read_error = error_there (ConsumesFrameError number attr_size) (IsFrameReadError number attr_size) frame_carries a b c at n e seek read_error

  -- the attribute of a frame is described without a name and without ids
  pub described : (a b : State) (at : ℕ) (attr : PerfEventAttr) (d : AttributeDescription) → attr_in d ≡ attr → name_in d ≡ None → ids_in d ≡ [] → ItemRead (IsAttrInFrame number attr_size) a at attr b → ItemRead (IsPlainDescription number attr_size) a at d b
  described a b at attr d same name ids was_read =
      let is_described : (xs : List ℕ) → IsAttrInFrame number attr_size xs attr → IsPlainDescription number attr_size xs d = λ xs framed. record { attr_in_frame = subst (λ x. IsAttrInFrame number attr_size xs x) (sym same) framed; name = name; ids = ids } in
      record {
        after_seek = was_read.after_seek;
        is_possible = (was_read.is_possible.0, is_described was_read.is_possible.0 was_read.is_possible.1);
        matches = if_some_more _ _ _ (λ all framed. is_described _ framed) was_read.matches;
      }

-- the end of a section of frames fits into 64 bits
pub attr_section_valid : (number : ℕ → List ℕ → ℕ) (attr_size : ℕ) (section : PerfFileSection) → 0 < attr_size → section.offset + section.size < 2 ^ 64 → ¬ IsInvalidAttrSection number attr_size section
attr_section_valid number attr_size section some low no_section = elim no_section [ inl none ↦ omega arith | inr far ↦ omega arith ]
