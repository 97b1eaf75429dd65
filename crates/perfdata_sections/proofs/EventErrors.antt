-- Bytes that are no EVENT_DESC have one error.
use Rattle.std.proofs.Common.{◌≡◌, ℕ, List, [], ◌∷◌, ◌++◌, length, refl, sym, ap, ◌∙◌, subst, inl, inr, arith, length-append, append_assoc}
use Rattle.std.specs.Prelude.{◌⊎◌}
use Rattle.perfdata_sources.specs.Attr.{IsTooSmall}
use Rattle.perfdata_sources.proofs.Numbers.{ReadsFirst}
use Rattle.perfdata_sections.specs.AttributeDescription.{DescribedEvent}
use Rattle.perfdata_sections.specs.AttrFrames.{IsTruncatedFrame, IsFrameError}
use Rattle.perfdata_sections.specs.Error.{IsUnexpectedEof}
use Rattle.perfdata_sections.specs.EventDesc.{AreEvents, IsEventError, IsEventDescError, frame_size_of}
use Rattle.perfdata_sections.specs.declared.error.Error.{Error}
use Rattle.perfdata_sections.specs.declared.error.Error.TheVariants.{Read, InconsistentAttributeSizes}
use Rattle.perfdata_sections.specs.declared.error.ReadError.TheVariants.{PerfEventAttr as OfAttr}
use Rattle.perfdata_sections.proofs.EventPrefixes.{same_split, same_event, frame_has_no_error, event_has_no_error}

-- two errors are equal, or both are an unexpected end of file
abbrev pub Alike : Error → Error → Type 0
Alike e f = (e ≡ f) ⊎ (IsUnexpectedEof e × IsUnexpectedEof f)

module _ (number : ℕ → List ℕ → ℕ) where
  -- ---- a frame

  frame_truncated : (size : ℕ) (f : Error) (xs : List ℕ) → IsTruncatedFrame number size xs ⊎ IsTooSmall number xs → IsFrameError number size f xs → (let e : Error = Read OfAttr in e) ≡ f
  frame_truncated size (Read OfAttr) xs x y = refl
  frame_truncated size (InconsistentAttributeSizes own all) xs (inl (inl short)) (has_header, is, are, least, above) = absurd (omega (arith, short, has_header))
  frame_truncated size (InconsistentAttributeSizes own all) xs (inl (inr (large, within, short))) (has_header, is, are, least, above) = absurd (omega (arith, within, is, above))
  frame_truncated size (InconsistentAttributeSizes own all) xs (inr (there, small)) (has_header, is, are, least, above) = absurd (omega (arith, small, is, least))
  frame_truncated size _ xs x y = absurd y

  frame_above : (size own all : ℕ) (f : Error) (xs : List ℕ) → IsFrameError number size (InconsistentAttributeSizes own all) xs → IsFrameError number size f xs → (let e : Error = InconsistentAttributeSizes own all in e) ≡ f
  frame_above size own all (Read OfAttr) xs x y = sym (frame_truncated size (InconsistentAttributeSizes own all) xs y x)
  frame_above size own all (InconsistentAttributeSizes other every) xs x y = ap (λ n. InconsistentAttributeSizes n all) (x.1 ∙ sym y.1) ∙ ap (λ n. InconsistentAttributeSizes other n) (x.2 ∙ sym y.2)
  frame_above size own all _ xs x y = absurd y

  -- bytes that begin with no frame have one error
  pub frame_error : (size : ℕ) (e f : Error) (xs : List ℕ) → IsFrameError number size e xs → IsFrameError number size f xs → e ≡ f
  frame_error size (Read OfAttr) f xs x y = frame_truncated size f xs x y
  frame_error size (InconsistentAttributeSizes own all) f xs x y = frame_above size own all f xs x y
  frame_error size _ f xs x y = absurd x

  -- ---- events

  module _ (first : ReadsFirst number) where
    event_errors_alike : (size : ℕ) (e f : Error) (xs : List ℕ) → IsEventError number size e xs → IsEventError number size f xs → Alike e f
    event_errors_alike size e f xs (inl x) (inl y) = inl (frame_error size e f xs x y)
    event_errors_alike size e f xs (inl x) (inr (framed, short, split)) = absurd (frame_has_no_error number first size e xs framed.0 framed.1 x)
    event_errors_alike size e f xs (inr (framed, short, split)) (inl y) = absurd (frame_has_no_error number first size f xs framed.0 framed.1 y)
    event_errors_alike size e f xs (inr (framed, short, split)) (inr (framed', short', split')) = inr (short, short')

    -- the errors after consecutive events in the same bytes are alike, since no event begins where an error is
    events_errors_alike : (size : ℕ) (e f : Error) (ds es : List DescribedEvent) (xs ys a b : List ℕ) → AreEvents number size xs ds → AreEvents number size ys es → xs ++ a ≡ ys ++ b → IsEventError number size e a → IsEventError number size f b → Alike e f
    events_errors_alike size e f [] [] xs ys a b x y same none none' =
        let here : a ≡ b = ap (λ l. l ++ a) (sym x) ∙ same ∙ ap (λ l. l ++ b) y in
        event_errors_alike size e f b (subst (IsEventError number size e) here none) none'
    events_errors_alike size e f [] (d ∷ es) xs ys a b x (two, others, split, is, are) same none none' =
        let whole : a ≡ two ++ (others ++ b) = ap (λ l. l ++ a) (sym x) ∙ same ∙ ap (λ l. l ++ b) split ∙ append_assoc two others b in
        absurd (event_has_no_error number first size e two (others ++ b) d is (subst (IsEventError number size e) whole none))
    events_errors_alike size e f (d ∷ ds) [] xs ys a b (one, more, split, is, are) y same none none' =
        let whole : b ≡ one ++ (more ++ a) = ap (λ l. l ++ b) (sym y) ∙ sym same ∙ ap (λ l. l ++ a) split ∙ append_assoc one more a in
        absurd (event_has_no_error number first size f one (more ++ a) d is (subst (IsEventError number size f) whole none'))
    events_errors_alike size e f (c ∷ ds) (d ∷ es) xs ys a b (one, more, split, is, are) (two, others, split', is', are') same none none' =
        let whole : one ++ (more ++ a) ≡ two ++ (others ++ b) = sym (append_assoc one more a) ∙ ap (λ l. l ++ a) (sym split) ∙ same ∙ ap (λ l. l ++ b) split' ∙ append_assoc two others b in
        let here = same_event number first size one two (more ++ a) (others ++ b) c d is is' whole in
        events_errors_alike size e f ds es more others a b are are' here.1 none none'

    -- ---- the section

    -- two errors of the same bytes are alike
    pub desc_error : (e f : Error) (xs : List ℕ) → IsEventDescError number e xs → IsEventDescError number f xs → Alike e f
    desc_error e f xs (inl (short, too_few)) (inl (short', too_few')) = inr (short, short')
    desc_error e f xs (inl (short, too_few)) (inr t) =
        let whole = ap length t.matches in
        let long = t.exact_len in
        absurd (omega (arith, too_few, whole, long, length-append t.header (t.bytes_before ++ t.rest)))
    desc_error e f xs (inr s) (inl (short, too_few)) =
        let whole = ap length s.matches in
        let long = s.exact_len in
        absurd (omega (arith, too_few, whole, long, length-append s.header (s.bytes_before ++ s.rest)))
    desc_error e f xs (inr s) (inr t) =
        let long : length s.header ≡ length t.header = s.exact_len ∙ sym t.exact_len in
        let split = same_split s.header (s.bytes_before ++ s.rest) t.header (t.bytes_before ++ t.rest) long (sym s.matches ∙ t.matches) in
        let are = subst (λ h. AreEvents number (frame_size_of number h) s.bytes_before s.before) split.0 s.elements in
        let here = subst (λ h. IsEventError number (frame_size_of number h) e s.rest) split.0 s.error_here in
        events_errors_alike (frame_size_of number t.header) e f s.before t.before s.bytes_before t.bytes_before s.rest t.rest are t.elements split.1 here t.error_here
