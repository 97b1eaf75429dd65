-- Bytes begin with one list of the events of EVENT_DESC or with none, which is decidable.
use Rattle.std.proofs.Common.{◌≡◌, ℕ, zero, suc, ◌+◌, ◌*◌, ◌<◌, ◌≤◌, List, [], ◌∷◌, ◌++◌, length, take, drop, refl, sym, ap, ◌∙◌, subst, inl, inr, arith, length-append, append_assoc, append-nil, length-drop, Option}
use Rattle.std.specs.Prelude.{◌⊎◌}
use Rattle.std.proofs.Math.Seq.{drop-append_seam, take-append_seam}
use Rattle.std.proofs.lemmas.Bool.{cases_lt}
use Rattle.std.proofs.lemmas.List.{length-take-le, take-append-drop}
use Rattle.perfdata_sources.specs.Attr.{own_size, attr_of}
use Rattle.perfdata_sources.specs.declared.attr.PerfEventAttr.{PerfEventAttr}
use Rattle.perfdata_sources.proofs.Numbers.{ReadsFirst}
use Rattle.perfdata_sections.specs.AttributeDescription.{DescribedEvent}
use Rattle.perfdata_sections.specs.AttrFrames.{IsAttrInFrame, IsFrameError}
use Rattle.perfdata_sections.specs.Error.{IsUnexpectedEof}
use Rattle.perfdata_sections.specs.EventDesc.{IsNameAndIds, IsTruncatedNameAndIds, IsEvent, AreEvents, IsEventError, BeginsWithEventDesc, IsEventDescError, event_count_of, frame_size_of}
use Rattle.perfdata_sections.specs.EventIds.{u64s_of}
use Rattle.perfdata_sections.specs.HeaderString.{before_nul, utf8_text}
use Rattle.perfdata_sections.specs.declared.error.Error.{Error}
use Rattle.perfdata_sections.specs.declared.error.Error.TheVariants.{Read, InconsistentAttributeSizes}
use Rattle.perfdata_sections.specs.declared.error.ReadError.TheVariants.{PerfEventAttr as OfAttr}
use Rattle.perfdata_sections.proofs.Frames.{frame_remains, frame_prefix}
use Rattle.perfdata_sections.proofs.PartLemmas.{drop_prefix}

take_prefix : (n : ℕ) (xs ys : List ℕ) → length xs ≡ n → take n (xs ++ ys) ≡ xs
take_prefix n xs ys long = ap (λ k. take k (xs ++ ys)) (sym long) ∙ take-append_seam xs ys

-- prefixes of one length are equal
pub same_split : (a b c d : List ℕ) → length a ≡ length c → a ++ b ≡ c ++ d → (a ≡ c) × (b ≡ d)
same_split a b c d long same = (
  sym (take-append_seam a b) ∙ ap (take (length a)) same ∙ take_prefix (length a) c d (sym long),
  sym (drop-append_seam a b) ∙ ap (drop (length a)) same ∙ drop_prefix (length a) c d (sym long),
)

described_same : (d : DescribedEvent) (a : PerfEventAttr) (n : Option (List ℕ)) (i : List ℕ) → d.attr ≡ a → d.name ≡ n → d.ids ≡ i → d ≡ (let e : DescribedEvent = record { attr = a; name = n; ids = i } in e)
described_same d a n i attr name ids =
    let one : (let e : DescribedEvent = record { attr = d.attr; name = d.name; ids = d.ids } in e) ≡ (let e : DescribedEvent = record { attr = a; name = d.name; ids = d.ids } in e) = ap (λ x. record { attr = x; name = d.name; ids = d.ids }) attr in
    let two : (let e : DescribedEvent = record { attr = a; name = d.name; ids = d.ids } in e) ≡ (let e : DescribedEvent = record { attr = a; name = n; ids = d.ids } in e) = ap (λ x. record { attr = a; name = x; ids = d.ids }) name in
    let three : (let e : DescribedEvent = record { attr = a; name = n; ids = d.ids } in e) ≡ (let e : DescribedEvent = record { attr = a; name = n; ids = i } in e) = ap (λ x. record { attr = a; name = n; ids = x }) ids in
    one ∙ two ∙ three

module _ (number : ℕ → List ℕ → ℕ) (first : ReadsFirst number) where
  -- ---- the bytes after a frame

  -- the size of a name, from the bytes that begin with it
  abbrev string_length : List ℕ → ℕ
  string_length xs = 4 + number 4 xs

  abbrev name_and_ids_length : List ℕ → ℕ
  name_and_ids_length xs = 4 + (string_length (drop 4 xs) + 8 * number 4 xs)

  -- the parts of a name and ids, followed by other bytes
  pub record NameAndIdsParts (xs : List ℕ) (name : Option (List ℕ)) (ids rest : List ℕ) : Type 0 where
    pub text : List ℕ
    pub words : List ℕ
    pub has_count : 4 ≤ length xs
    pub is : drop 4 xs ≡ text ++ (words ++ rest)
    pub least : 4 ≤ length text
    pub long : length text ≡ string_length (drop 4 xs)
    pub longs : length words ≡ 8 * number 4 xs
    pub named : name ≡ utf8_text (before_nul (drop 4 text))
    pub are : ids ≡ u64s_of number (number 4 xs) words

  parts_of : (xs rest : List ℕ) (name : Option (List ℕ)) (ids : List ℕ) → IsNameAndIds number xs name ids → NameAndIdsParts (xs ++ rest) name ids rest
  parts_of xs rest name ids t =
      let long = t.exact_len in
      let split : xs ++ rest ≡ t.count_bytes ++ (t.name_bytes ++ (t.id_bytes ++ rest)) = ap (λ l. l ++ rest) t.matches ∙ append_assoc t.count_bytes (t.name_bytes ++ t.id_bytes) rest ∙ ap (λ l. t.count_bytes ++ l) (append_assoc t.name_bytes t.id_bytes rest) in
      let later : drop 4 (xs ++ rest) ≡ t.name_bytes ++ (t.id_bytes ++ rest) = ap (drop 4) split ∙ drop_prefix 4 t.count_bytes (t.name_bytes ++ (t.id_bytes ++ rest)) long in
      let counted : number 4 (xs ++ rest) ≡ number 4 t.count_bytes = ap (number 4) split ∙ first 4 t.count_bytes (t.name_bytes ++ (t.id_bytes ++ rest)) (omega (arith, long)) in
      let texted : number 4 (drop 4 (xs ++ rest)) ≡ number 4 t.name_bytes = ap (number 4) later ∙ first 4 t.name_bytes (t.id_bytes ++ rest) t.valid_string.0.0 in
      let whole = ap length split in
      let texts = t.valid_string.0.1 in
      let words = t.elements.0 in
      record {
        text = t.name_bytes;
        words = t.id_bytes;
        has_count = omega (arith, whole, long, length-append t.count_bytes (t.name_bytes ++ (t.id_bytes ++ rest)));
        is = later;
        least = t.valid_string.0.0;
        long = omega (arith, texts, texted);
        longs = words ∙ ap (λ n. 8 * n) (sym counted);
        named = t.valid_string.1;
        are = t.elements.1 ∙ ap (λ n. u64s_of number n t.id_bytes) (sym counted);
      }

  name_and_ids_len : (xs rest : List ℕ) (name : Option (List ℕ)) (ids : List ℕ) → IsNameAndIds number xs name ids → length xs ≡ name_and_ids_length (xs ++ rest)
  name_and_ids_len xs rest name ids t =
      let b = parts_of xs rest name ids t in
      let header = b.has_count in
      let is = ap length b.is in
      let long = b.long in
      let longs = b.longs in
      omega (arith, header, is, long, longs, length-drop 4 (xs ++ rest), length-append b.text (b.words ++ rest), length-append b.words rest, length-append xs rest)

  -- a complete name with ids isn't truncated
  name_and_ids_not_truncated : (xs rest : List ℕ) (name : Option (List ℕ)) (ids : List ℕ) → IsNameAndIds number xs name ids → IsTruncatedNameAndIds number (xs ++ rest) → ⊥
  name_and_ids_not_truncated xs rest name ids t (inl short) = let b = parts_of xs rest name ids t in let header = b.has_count in omega (arith, short, header)
  name_and_ids_not_truncated xs rest name ids t (inr (inl (there, split))) =
      let b = parts_of xs rest name ids t in
      let is = ap length b.is in
      let long = b.long in
      let least = b.least in
      let sum = length-append b.text (b.words ++ rest) in
      let too_few = split (omega (arith, is, least, sum)) in
      omega (arith, is, long, too_few, sum)
  name_and_ids_not_truncated xs rest name ids t (inr (inr c)) =
      let b = parts_of xs rest name ids t in
      let header = c.exact_len in
      let later : drop 4 (xs ++ rest) ≡ c.name_bytes ++ c.id_bytes = ap (drop 4) c.matches ∙ drop_prefix 4 c.count_bytes (c.name_bytes ++ c.id_bytes) header in
      let counted : number 4 (xs ++ rest) ≡ number 4 c.count_bytes = ap (number 4) c.matches ∙ first 4 c.count_bytes (c.name_bytes ++ c.id_bytes) (omega (arith, header)) in
      let texted : number 4 (drop 4 (xs ++ rest)) ≡ number 4 c.name_bytes = ap (number 4) later ∙ first 4 c.name_bytes c.id_bytes c.valid_string.0 in
      let split = ap length (sym later ∙ b.is) in
      let too_few = c.too_few in
      let texts = c.valid_string.1 in
      let long = b.long in
      let longs = b.longs in
      omega (arith, split, too_few, texts, texted, counted, long, longs, length-append c.name_bytes c.id_bytes, length-append b.text (b.words ++ rest), length-append b.words rest)

  -- ---- an event

  module _ (size : ℕ) where
    abbrev event_length : List ℕ → ℕ
    event_length xs = size + name_and_ids_length (drop size xs)

    -- the event in these bytes, if they are an event
    abbrev event_at : List ℕ → DescribedEvent
    event_at xs =
        let after = drop 4 (drop size xs) in
        record {
          attr = attr_of number (take size xs);
          name = utf8_text (before_nul (drop 4 (take (string_length after) after)));
          ids = u64s_of number (number 4 (drop size xs)) (drop (string_length after) after);
        }

    after_event_frame : (xs rest : List ℕ) (d : DescribedEvent) → (e : IsEvent number size xs d) → drop size (xs ++ rest) ≡ e.after_frame ++ rest
    after_event_frame xs rest d e = ap (λ l. drop size (l ++ rest)) e.matches ∙ ap (drop size) (append_assoc e.frame_bytes e.after_frame rest) ∙ drop_prefix size e.frame_bytes (e.after_frame ++ rest) e.exact_len

    event_frame : (xs rest : List ℕ) (d : DescribedEvent) → (e : IsEvent number size xs d) → take size (xs ++ rest) ≡ e.frame_bytes
    event_frame xs rest d e = ap (λ l. take size (l ++ rest)) e.matches ∙ ap (take size) (append_assoc e.frame_bytes e.after_frame rest) ∙ take_prefix size e.frame_bytes (e.after_frame ++ rest) e.exact_len

    -- the bytes of an event determine its size, whatever follows
    event_len : (xs rest : List ℕ) (d : DescribedEvent) → IsEvent number size xs d → length xs ≡ event_length (xs ++ rest)
    event_len xs rest d e =
        let long = e.exact_len in
        let is = ap length e.matches in
        let name_and_ids : length e.after_frame ≡ name_and_ids_length (drop size (xs ++ rest)) = name_and_ids_len e.after_frame rest d.name d.ids e.name_and_ids ∙ ap name_and_ids_length (sym (after_event_frame xs rest d e)) in
        omega (arith, long, is, name_and_ids, length-append e.frame_bytes e.after_frame)

    -- the bytes of an event determine it
    event_from_bytes : (xs : List ℕ) (d : DescribedEvent) → IsEvent number size xs d → d ≡ event_at xs
    event_from_bytes xs d e =
        let whole : xs ++ [] ≡ xs = append-nil xs in
        let frame : take size xs ≡ e.frame_bytes = ap (take size) (sym whole) ∙ event_frame xs [] d e in
        let after : drop size xs ≡ e.after_frame = ap (drop size) (sym whole) ∙ after_event_frame xs [] d e ∙ append-nil e.after_frame in
        let name_and_ids = subst (λ l. IsNameAndIds number l d.name d.ids) (sym after) e.name_and_ids in
        let b = subst (λ l. NameAndIdsParts l d.name d.ids []) (append-nil (drop size xs)) (parts_of (drop size xs) [] d.name d.ids name_and_ids) in
        let text : take (string_length (drop 4 (drop size xs))) (drop 4 (drop size xs)) ≡ b.text = ap (take (string_length (drop 4 (drop size xs)))) b.is ∙ take_prefix (string_length (drop 4 (drop size xs))) b.text (b.words ++ []) b.long in
        let words : drop (string_length (drop 4 (drop size xs))) (drop 4 (drop size xs)) ≡ b.words =
        ap (drop (string_length (drop 4 (drop size xs)))) b.is ∙ drop_prefix (string_length (drop 4 (drop size xs))) b.text (b.words ++ []) b.long ∙ append-nil b.words in
        described_same d (attr_of number (take size xs)) (utf8_text (before_nul (drop 4 (take (string_length (drop 4 (drop size xs))) (drop 4 (drop size xs)))))) (u64s_of number (number 4 (drop size xs)) (drop (string_length (drop 4 (drop size xs))) (drop 4 (drop size xs))))
        (e.attr_in_frame.matches.matches ∙ ap (attr_of number) (sym frame))
        (b.named ∙ ap (λ t. utf8_text (before_nul (drop 4 t))) (sym text))
        (b.are ∙ ap (u64s_of number (number 4 (drop size xs))) (sym words))

    -- no event is a proper prefix of another
    pub same_event : (xs ys a b : List ℕ) (d e : DescribedEvent) → IsEvent number size xs d → IsEvent number size ys e → xs ++ a ≡ ys ++ b → (xs ≡ ys) × (a ≡ b) × (d ≡ e)
    same_event xs ys a b d e x y same =
        let long : length xs ≡ length ys = event_len xs a d x ∙ ap event_length same ∙ sym (event_len ys b e y) in
        let split = same_split xs a ys b long same in
        (split.0, split.1, event_from_bytes xs d x ∙ ap event_at split.0 ∙ sym (event_from_bytes ys e y))

    pub frame_has_no_error : (e : Error) (xs : List ℕ) (a : PerfEventAttr) → IsAttrInFrame number size xs a → IsFrameError number size e xs → ⊥
    frame_has_no_error (Read OfAttr) xs a framed (inl (inl short)) = let least = framed.matches.min_size in let there = framed.matches.complete in omega (arith, short, least, there)
    frame_has_no_error (Read OfAttr) xs a framed (inl (inr (least, within, short))) = let there = framed.matches.complete in omega (arith, short, there)
    frame_has_no_error (Read OfAttr) xs a framed (inr (header, small)) = let least = framed.matches.min_size in omega (arith, small, least)
    frame_has_no_error (InconsistentAttributeSizes own all) xs a framed (header, is, are, least, above) = let within = framed.within in omega (arith, is, within, above)
    frame_has_no_error _ xs a framed none = absurd none

    -- bytes that begin with an event have no error in it
    pub event_has_no_error : (err : Error) (xs rest : List ℕ) (d : DescribedEvent) → IsEvent number size xs d → IsEventError number size err (xs ++ rest) → ⊥
    event_has_no_error err xs rest d e (inl none) =
        let whole : xs ++ rest ≡ e.frame_bytes ++ (e.after_frame ++ rest) = ap (λ l. l ++ rest) e.matches ∙ append_assoc e.frame_bytes e.after_frame rest in
        frame_has_no_error err (xs ++ rest) d.attr (subst (λ l. IsAttrInFrame number size l d.attr) (sym whole) (frame_remains number first size e.frame_bytes (e.after_frame ++ rest) d.attr e.attr_in_frame)) none
    event_has_no_error err xs rest d e (inr (framed, short, split)) = name_and_ids_not_truncated e.after_frame rest d.name d.ids e.name_and_ids (subst (IsTruncatedNameAndIds number) (after_event_frame xs rest d e) split)

    -- ---- consecutive events

    events_one : (ds es : List DescribedEvent) (xs ys a b : List ℕ) → AreEvents number size xs ds → AreEvents number size ys es → xs ++ a ≡ ys ++ b → length ds ≡ length es → ds ≡ es
    events_one [] [] xs ys a b x y same long = refl
    events_one [] (e ∷ es) xs ys a b x y same long = absurd (omega (arith, long))
    events_one (d ∷ ds) [] xs ys a b x y same long = absurd (omega (arith, long))
    events_one (d ∷ ds) (e ∷ es) xs ys a b (one, more, split, is, are) (two, others, split', is', are') same long =
        let whole : one ++ (more ++ a) ≡ two ++ (others ++ b) = sym (append_assoc one more a) ∙ ap (λ l. l ++ a) (sym split) ∙ same ∙ ap (λ l. l ++ b) split' ∙ append_assoc two others b in
        let here = same_event one two (more ++ a) (others ++ b) d e is is' whole in
        ap (λ x. x ∷ ds) here.2 ∙ ap (λ l. e ∷ l) (events_one ds es more others a b are are' here.1 (omega (arith, long)))

    -- a list of fewer events than the bytes contain isn't followed by an error
    no_error_in_events : (err : Error) (before events : List DescribedEvent) (prefix rest xs after : List ℕ) → AreEvents number size prefix before → AreEvents number size xs events → prefix ++ rest ≡ xs ++ after → length before < length events
        → IsEventError number size err rest → ⊥
    no_error_in_events err before [] prefix rest xs after x y same too_few none = omega (arith, too_few)
    no_error_in_events err [] (e ∷ es) prefix rest xs after x (two, others, split, is, are) same too_few none =
        let whole : rest ≡ two ++ (others ++ after) = ap (λ l. l ++ rest) (sym x) ∙ same ∙ ap (λ l. l ++ after) split ∙ append_assoc two others after in
        event_has_no_error err two (others ++ after) e is (subst (IsEventError number size err) whole none)
    no_error_in_events err (d ∷ ds) (e ∷ es) prefix rest xs after (one, more, split, is, are) (two, others, split', is', are') same too_few none =
        let whole : one ++ (more ++ rest) ≡ two ++ (others ++ after) = sym (append_assoc one more rest) ∙ ap (λ l. l ++ rest) (sym split) ∙ same ∙ ap (λ l. l ++ after) split' ∙ append_assoc two others after in
        let here = same_event one two (more ++ rest) (others ++ after) d e is is' whole in
        no_error_in_events err ds es more rest others after are are' here.1 (omega (arith, too_few)) none

    -- ---- whether bytes begin with events

    -- the bytes begin with an event
    abbrev EventHere : List ℕ → Type 0
    EventHere xs = (d : DescribedEvent) × (prefix : List ℕ) × (rest : List ℕ) × (xs ≡ prefix ++ rest) × IsEvent number size prefix d

    -- bytes of the size of an event, with an attribute in the frame, begin with an event
    event_made : (xs : List ℕ) → event_length xs ≤ length xs → 64 ≤ own_size number (take size xs) → own_size number (take size xs) ≤ size → EventHere xs
    event_made xs there least within =
        let a = drop size xs in
        let b = drop 4 a in
        let n = string_length b in
        let c = drop n b in
        let m = 8 * number 4 a in
        let frame = take size xs in
        let count = take 4 a in
        let text = take n b in
        let words = take m c in
        let long_a = length-drop size xs in
        let long_b = length-drop 4 a in
        let long_c = length-drop n b in
        let long_frame : length frame ≡ size = length-take-le size xs (omega (arith, there)) in
        let long_count : length count ≡ 4 = length-take-le 4 a (omega (arith, there, long_a)) in
        let long_text : length text ≡ n = length-take-le n b (omega (arith, there, long_a, long_b)) in
        let long_words : length words ≡ m = length-take-le m c (omega (arith, there, long_a, long_b, long_c)) in
        let counted : number 4 count ≡ number 4 a = sym (ap (number 4) (sym (take-append-drop 4 a)) ∙ first 4 count b (omega (arith, long_count))) in
        let texted : number 4 text ≡ number 4 b = sym (ap (number 4) (sym (take-append-drop n b)) ∙ first 4 text c (omega (arith, long_text))) in
        let whole : xs ≡ (frame ++ (count ++ (text ++ words))) ++ drop m c =
        sym (take-append-drop size xs)
        ∙ ap (λ l. frame ++ l) (sym (take-append-drop 4 a) ∙ ap (λ l. count ++ l) (sym (take-append-drop n b) ∙ ap (λ l. text ++ l) (sym (take-append-drop m c)) ∙ sym (append_assoc text words (drop m c))) ∙ sym (append_assoc count (text ++ words) (drop m c)))
        ∙ sym (append_assoc frame (count ++ (text ++ words)) (drop m c)) in (
          record { attr = attr_of number frame; name = utf8_text (before_nul (drop 4 text)); ids = u64s_of number (number 4 count) words },
          frame ++ (count ++ (text ++ words)),
          drop m c,
          whole,
          record {
            frame_bytes = frame;
            after_frame = count ++ (text ++ words);
            matches = refl;
            exact_len = long_frame;
            attr_in_frame = record { matches = record { min_size = least; complete = omega (arith, within, long_frame); matches = refl }; within = within };
            name_and_ids = record {
              count_bytes = count;
              name_bytes = text;
              id_bytes = words;
              matches = refl;
              exact_len = long_count;
              valid_string = ((omega (arith, long_text), omega (arith, long_text, texted)), refl);
              elements = (long_words ∙ ap (λ k. 8 * k) (sym counted), refl);
            };
          },
        )

    -- the frame of an event contains an attribute
    event_has_frame : (xs : List ℕ) → (h : EventHere xs) → IsAttrInFrame number size (take size xs) h.0.attr
    event_has_frame xs (d, prefix, rest, split, is) = subst (λ l. IsAttrInFrame number size l d.attr) (sym (ap (take size) split ∙ event_frame prefix rest d is)) is.attr_in_frame

    event_complete : (xs : List ℕ) → EventHere xs → event_length xs ≤ length xs
    event_complete xs (d, prefix, rest, split, is) =
        let whole = event_len prefix rest d is in
        let same = ap event_length split in
        let long = ap length split in
        omega (arith, whole, same, long, length-append prefix rest)

    event_or_not : (xs : List ℕ) → EventHere xs ⊎ ¬ EventHere xs
    event_or_not xs = elim (cases_lt (length xs) (event_length xs)) [
      | inl short ↦ inr (λ h. let there = event_complete xs h in omega (arith, short, there))
      | inr there ↦ elim (cases_lt (own_size number (take size xs)) 64) [
        | inl small ↦ inr (λ h. let least = (event_has_frame xs h).matches.min_size in omega (arith, small, least))
        | inr least ↦ elim (cases_lt size (own_size number (take size xs))) [
          | inl above ↦ inr (λ h. let within = (event_has_frame xs h).within in omega (arith, above, within))
          | inr within ↦ inl (event_made xs there least within)
        ]
      ]
    ]

    -- the bytes begin with `n` events
    abbrev EventsHere : ℕ → List ℕ → Type 0
    EventsHere n xs = (ds : List DescribedEvent) × (prefix : List ℕ) × (rest : List ℕ) × (xs ≡ prefix ++ rest) × (length ds ≡ n) × AreEvents number size prefix ds

    events_first : (n : ℕ) (xs : List ℕ) → EventsHere (suc n) xs → (h : EventHere xs) × EventsHere n h.2
    events_first n xs ([], prefix, rest, split, long, are) = absurd (omega (arith, long))
    events_first n xs (d ∷ ds, prefix, rest, split, long, (one, more, inner_split, is, are)) = (
      (d, one, more ++ rest, split ∙ ap (λ l. l ++ rest) inner_split ∙ append_assoc one more rest, is),
      (ds, more, rest, refl, omega (arith, long), are),
    )

    events_cons : (n : ℕ) (xs : List ℕ) → (h : EventHere xs) → EventsHere n h.2 → EventsHere (suc n) xs
    events_cons n xs (d, one, later, split, is) (ds, more, rest, inner_split, long, are) =
        (d ∷ ds, one ++ more, rest, split ∙ ap (λ l. one ++ l) inner_split ∙ sym (append_assoc one more rest), omega (arith, long), (one, more, refl, is, are))

    same_later : (xs : List ℕ) → (g h : EventHere xs) → g.2 ≡ h.2
    same_later xs (d, one, later, split, is) (e, two, other, split', is') = (same_event one two later other d e is is' (sym split ∙ split')).1

    events_or_not : (n : ℕ) (xs : List ℕ) → EventsHere n xs ⊎ ¬ EventsHere n xs
    events_or_not zero xs = inl ([], [], xs, refl, refl, refl)
    events_or_not (suc n) xs = elim (event_or_not xs) [
      | inr none ↦ inr (λ all. none (events_first n xs all).0)
      | inl one ↦ elim (events_or_not n one.2) [
        | inl more ↦ inl (events_cons n xs one more)
        | inr none ↦ inr (λ all. let split = events_first n xs all in none (subst (EventsHere n) (same_later xs split.0 one) split.1))
      ]
    ]

    -- ---- the error of bytes that begin with no event

    -- one of the errors holds: the given unexpected end, the one of an attribute, or the one of two sizes
    abbrev AnError : Error → (Error → Type 0) → Type 0
    AnError short P = P short ⊎ (P (Read OfAttr) ⊎ ((own : ℕ) × (all : ℕ) × P (InconsistentAttributeSizes own all)))

    map_error : (short : Error) (P Q : Error → Type 0) → ((e : Error) → P e → Q e) → AnError short P → AnError short Q
    map_error short P Q go (inl x) = inl (go short x)
    map_error short P Q go (inr (inl x)) = inr (inl (go (Read OfAttr) x))
    map_error short P Q go (inr (inr (own, all, x))) = inr (inr (own, all, go (InconsistentAttributeSizes own all) x))

    -- a frame is followed by the rest of an event, or the bytes are truncated
    complete_or_truncated : (xs : List ℕ) → (name_and_ids_length xs ≤ length xs) ⊎ IsTruncatedNameAndIds number xs
    complete_or_truncated xs = elim (cases_lt (length xs) 4) [
      | inl too_few ↦ inr (inl too_few)
      | inr header ↦ elim (cases_lt (length (drop 4 xs)) 4) [
        | inl too_few ↦ inr (inr (inl (header, λ there. absurd (omega (arith, too_few, there)))))
        | inr counted ↦ elim (cases_lt (length (drop 4 xs)) (string_length (drop 4 xs))) [
          | inl too_few ↦ inr (inr (inl (header, λ there. too_few)))
          | inr named ↦ elim (cases_lt (length xs) (name_and_ids_length xs)) [
            | inr there ↦ inl there
            | inl too_few ↦
                let b = drop 4 xs in
                let n = string_length b in
                let count = take 4 xs in
                let text = take n b in
                let long_count : length count ≡ 4 = length-take-le 4 xs header in
                let long_text : length text ≡ n = length-take-le n b named in
                let long_b = length-drop 4 xs in
                let long_c = length-drop n b in
                let counts : number 4 xs ≡ number 4 count = ap (number 4) (sym (take-append-drop 4 xs)) ∙ first 4 count b (omega (arith, long_count)) in
                let texted : number 4 b ≡ number 4 text = ap (number 4) (sym (take-append-drop n b)) ∙ first 4 text (drop n b) (omega (arith, long_text)) in
                inr (inr (inr (record {
                  count_bytes = count;
                  name_bytes = text;
                  id_bytes = drop n b;
                  matches = sym (take-append-drop 4 xs) ∙ ap (λ l. count ++ l) (sym (take-append-drop n b));
                  exact_len = long_count;
                  valid_string = (omega (arith, long_text), omega (arith, long_text, texted));
                  too_few = omega (arith, too_few, counts, long_b, long_c, named, header);
                })))
          ]
        ]
      ]
    ]

    event_or_truncated : (short : Error) (xs : List ℕ) → IsUnexpectedEof short → IsAttrInFrame number size xs (attr_of number xs) → EventHere xs ⊎ AnError short (λ e. IsEventError number size e xs)
    event_or_truncated short xs is framed = elim (complete_or_truncated (drop size xs)) [
      | inr split ↦ inr (inl (inr ((attr_of number xs, framed), is, split)))
      | inl name_and_ids ↦
          let long = length-drop size xs in
          let there : event_length xs ≤ length xs = omega (arith, name_and_ids, long) in
          let prefix = frame_prefix number first size xs (attr_of number xs) framed (omega (arith, there)) in
          inl (event_made xs there prefix.matches.min_size prefix.within)
    ]

    event_or_error : (short : Error) (xs : List ℕ) → IsUnexpectedEof short → EventHere xs ⊎ AnError short (λ e. IsEventError number size e xs)
    event_or_error short xs is = elim (cases_lt (length xs) 8) [
      | inl too_few ↦ inr (inr (inl (inl (inl (inl too_few)))))
      | inr header ↦ elim (cases_lt (own_size number xs) 64) [
        | inl small ↦ inr (inr (inl (inl (inr (header, small)))))
        | inr least ↦ elim (cases_lt size (own_size number xs)) [
          | inl above ↦ inr (inr (inr (own_size number xs, size, inl (header, refl, refl, least, above))))
          | inr within ↦ elim (cases_lt (length xs) (own_size number xs)) [
            | inl split ↦ inr (inr (inl (inl (inl (inr (least, within, split))))))
            | inr there ↦ event_or_truncated short xs is (record { matches = record { min_size = least; complete = there; matches = refl }; within = within })
          ]
        ]
      ]
    ]

    -- fewer than `n` events, followed by an error
    abbrev StopsHere : ℕ → List ℕ → Error → Type 0
    StopsHere n xs e = (before : List DescribedEvent) × (prefix : List ℕ) × (rest : List ℕ) × (xs ≡ prefix ++ rest) × (length before < n) × AreEvents number size prefix before × IsEventError number size e rest

    stops_first : (n : ℕ) (xs : List ℕ) (e : Error) → IsEventError number size e xs → StopsHere (suc n) xs e
    stops_first n xs e none = ([], [], xs, refl, omega arith, refl, none)

    ids_error_later : (n : ℕ) (xs : List ℕ) → (h : EventHere xs) → (e : Error) → StopsHere n h.2 e → StopsHere (suc n) xs e
    ids_error_later n xs (d, one, later, split, is) e (before, prefix, rest, inner_split, too_few, are, none) =
        (d ∷ before, one ++ prefix, rest, split ∙ ap (λ l. one ++ l) inner_split ∙ sym (append_assoc one prefix rest), omega (arith, too_few), (one, prefix, refl, is, are), none)

    events_or_error : (short : Error) → IsUnexpectedEof short → (n : ℕ) (xs : List ℕ) → EventsHere n xs ⊎ AnError short (StopsHere n xs)
    events_or_error short is zero xs = inl ([], [], xs, refl, refl, refl)
    events_or_error short is (suc n) xs = elim (event_or_error short xs is) [
      | inr none ↦ inr (map_error short (λ e. IsEventError number size e xs) (StopsHere (suc n) xs) (stops_first n xs) none)
      | inl one ↦ elim (events_or_error short is n one.2) [
        | inl more ↦ inl (events_cons n xs one more)
        | inr none ↦ inr (map_error short (StopsHere n one.2) (StopsHere (suc n) xs) (ids_error_later n xs one) none)
      ]
    ]

  -- ---- the section

  pub event_desc_split : (xs : List ℕ) (ds : List DescribedEvent) → (t : BeginsWithEventDesc number xs ds) → xs ≡ t.3.header ++ (t.3.event_bytes ++ t.1)
  event_desc_split xs ds (prefix, rest, split, is) = split ∙ ap (λ l. l ++ rest) is.matches ∙ append_assoc is.header is.event_bytes rest

  -- bytes contain one list of events
  pub event_desc_is_unique : (xs : List ℕ) (ds es : List DescribedEvent) → BeginsWithEventDesc number xs ds → BeginsWithEventDesc number xs es → ds ≡ es
  event_desc_is_unique xs ds es x y =
      let long : length x.3.header ≡ length y.3.header = x.3.exact_len ∙ sym y.3.exact_len in
      let split = same_split x.3.header (x.3.event_bytes ++ x.1) y.3.header (y.3.event_bytes ++ y.1) long (sym (event_desc_split xs ds x) ∙ event_desc_split xs es y) in
      let are = subst (λ h. AreEvents number (frame_size_of number h) x.3.event_bytes ds) split.0 x.3.elements in
      events_one (frame_size_of number y.3.header) ds es x.3.event_bytes y.3.event_bytes x.1 y.1 are y.3.elements split.1 (x.3.count ∙ ap (event_count_of number) split.0 ∙ sym y.3.count)

  -- bytes that contain events have no error
  pub event_desc_or_error : (err : Error) (xs : List ℕ) (ds : List DescribedEvent) → IsEventDescError number err xs → BeginsWithEventDesc number xs ds → ⊥
  event_desc_or_error err xs ds (inl (short, too_few)) t =
      let whole = ap length (event_desc_split xs ds t) in
      let long = t.3.exact_len in
      omega (arith, too_few, whole, long, length-append t.3.header (t.3.event_bytes ++ t.1))
  event_desc_or_error err xs ds (inr s) t =
      let long : length s.header ≡ length t.3.header = s.exact_len ∙ sym t.3.exact_len in
      let split = same_split s.header (s.bytes_before ++ s.rest) t.3.header (t.3.event_bytes ++ t.1) long (sym s.matches ∙ event_desc_split xs ds t) in
      let are = subst (λ h. AreEvents number (frame_size_of number h) s.bytes_before s.before) split.0 s.elements in
      let here = subst (λ h. IsEventError number (frame_size_of number h) err s.rest) split.0 s.error_here in
      let too_few = s.too_few in
      let count = t.3.count in
      let says : event_count_of number s.header ≡ event_count_of number t.3.header = ap (event_count_of number) split.0 in
      no_error_in_events (frame_size_of number t.3.header) err s.before ds s.bytes_before s.rest t.3.event_bytes t.1 are t.3.elements split.1 (omega (arith, too_few, count, says)) here

  abbrev IsEventDescOfSome : List ℕ → Type 0
  IsEventDescOfSome xs = (ds : List DescribedEvent) × BeginsWithEventDesc number xs ds

  events_of_desc : (xs : List ℕ) → IsEventDescOfSome xs → EventsHere (frame_size_of number (take 8 xs)) (event_count_of number (take 8 xs)) (drop 8 xs)
  events_of_desc xs (ds, t) =
      let split = event_desc_split xs ds t in
      let header : take 8 xs ≡ t.3.header = ap (take 8) split ∙ take_prefix 8 t.3.header (t.3.event_bytes ++ t.1) t.3.exact_len in
      let later : drop 8 xs ≡ t.3.event_bytes ++ t.1 = ap (drop 8) split ∙ drop_prefix 8 t.3.header (t.3.event_bytes ++ t.1) t.3.exact_len in
      let are = subst (λ h. AreEvents number (frame_size_of number h) t.3.event_bytes ds) (sym header) t.3.elements in
      (ds, t.3.event_bytes, t.1, later, t.3.count ∙ ap (event_count_of number) (sym header), are)

  desc_has_header : (xs : List ℕ) → IsEventDescOfSome xs → 8 ≤ length xs
  desc_has_header xs (ds, t) =
      let whole = ap length (event_desc_split xs ds t) in
      let long = t.3.exact_len in
      omega (arith, whole, long, length-append t.3.header (t.3.event_bytes ++ t.1))

  desc_of_events : (xs : List ℕ) → 8 ≤ length xs → EventsHere (frame_size_of number (take 8 xs)) (event_count_of number (take 8 xs)) (drop 8 xs) → IsEventDescOfSome xs
  desc_of_events xs long (ds, events, rest, split, count, are) =
      let header = take 8 xs in (
        ds,
        (
          header ++ events,
          rest,
          sym (take-append-drop 8 xs) ∙ ap (λ l. header ++ l) split ∙ sym (append_assoc header events rest),
          record { header = header; event_bytes = events; matches = refl; exact_len = length-take-le 8 xs long; count = count; elements = are },
        ),
      )

  -- bytes either contain events or don't
  pub event_desc_or_not : (xs : List ℕ) → ((ds : List DescribedEvent) × BeginsWithEventDesc number xs ds) ⊎ ¬ ((ds : List DescribedEvent) × BeginsWithEventDesc number xs ds)
  event_desc_or_not xs = elim (cases_lt (length xs) 8) [
    | inl short ↦ inr (λ t. let long = desc_has_header xs t in omega (arith, short, long))
    | inr long ↦ elim (events_or_not (frame_size_of number (take 8 xs)) (event_count_of number (take 8 xs)) (drop 8 xs)) [
      | inl all ↦ inl (desc_of_events xs long all)
      | inr none ↦ inr (λ t. none (events_of_desc xs t))
    ]
  ]

  -- or they have one of the errors
  pub event_desc_or_some_error : (short : Error) (xs : List ℕ) → IsUnexpectedEof short
      → ((ds : List DescribedEvent) × BeginsWithEventDesc number xs ds)
      ⊎ (IsEventDescError number short xs ⊎ (IsEventDescError number (Read OfAttr) xs ⊎ ((own : ℕ) × (all : ℕ) × IsEventDescError number (InconsistentAttributeSizes own all) xs)))
  event_desc_or_some_error short xs is = elim (cases_lt (length xs) 8) [
    | inl too_few ↦ inr (inl (inl (is, too_few)))
    | inr long ↦
        let header = take 8 xs in
        elim (events_or_error (frame_size_of number header) short is (event_count_of number header) (drop 8 xs)) [
          | inl all ↦ inl (desc_of_events xs long all)
          | inr none ↦ inr (map_error (frame_size_of number header) short (StopsHere (frame_size_of number header) (event_count_of number header) (drop 8 xs)) (λ e. IsEventDescError number e xs)
              (λ e s. inr (record {
                header = header;
                bytes_before = s.1;
                rest = s.2;
                before = s.0;
                matches = sym (take-append-drop 8 xs) ∙ ap (λ l. header ++ l) s.3;
                exact_len = length-take-le 8 xs long;
                too_few = s.4;
                elements = s.5;
                error_here = s.6;
              })) none)
        ]
  ]
