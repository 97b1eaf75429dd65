-- From the parts of an event, and from events, to their section, or to the error.
use Rattle.std.proofs.Common.{◌≡◌, ◌≢◌, ℕ, ◌+◌, ◌-◌, ◌^◌, ◌<◌, ◌≤◌, List, [], ◌∷◌, ◌++◌, length, take, drop, refl, sym, ap, ◌∙◌, subst, inl, inr, arith, length-append, length-drop, append_assoc, append-nil, Option, None, Some, pos}
use Rattle.std.specs.Prelude.{◌⊎◌, IfSome, IfErr, Result, Ok, Err, Vec, string_bytes}
use Rattle.std.specs.Option.{option_map}
use Rattle.std.proofs.lemmas.List.{drop-drop, length-map, length-take-le, map_push, take-append-drop}
use Rattle.std.specs.declared.alloc.Global.{Global}
use Rattle.std.specs.declared.io.Error.{Error as SourceError}
use Rattle.std.specs.declared.io.SeekFrom.TheVariants.{Current}
use Rattle.perfdata_sources.specs.Source.{State, Position, prepend, advance_by, remaining_from, at_offset, all_bytes_of, RemainsFromPosition, SizeFitsI64, Consumed, SourceFailed, ReadExactError, AfterSeek, SeekSucceeded, SeekOutOfRange}
use Rattle.perfdata_sources.specs.declared.attr.PerfEventAttr.{PerfEventAttr}
use Rattle.perfdata_sources.specs.declared.source.append.AppendError.{AppendError}
use Rattle.perfdata_sources.specs.declared.source.append.AppendError.TheVariants.{Memory as NoMemory, Source}
use Rattle.perfdata_sources.proofs.ReadErrors.{consumed-after_seek, after_seek_more, failed_after_seek, paused_after_seek}
use Rattle.perfdata_sources.proofs.ConsumedLemmas.{consumed_more, consumed_none, consumed_none_later, failed_later, paused_later}
use Rattle.perfdata_sources.proofs.Numbers.{ReadsFirst}
use Rattle.perfdata_sections.specs.AttributeDescription.{DescribedEvent, event_in, events_in}
use Rattle.perfdata_sections.specs.AttrFrames.{IsAttrInFrame, ConsumesFrameError, FrameRead, IsAttributesSourceError}
use Rattle.perfdata_sections.specs.EventIds.{AreIds, ReadsIds}
use Rattle.perfdata_sections.specs.EventDesc.{IsNameAndIds, IsTruncatedNameAndIds, ReadsNameAndIds, IsEvent, AreEvents, IsEventError, PaddedFrameRead, FrameEndSeekError, FrameReadError, ReadsPaddedFrame, EventReadError, EventNeedsMemory, EventsNeedMemory, EventDescNeedsMemory, ReadsEvents, EventsRead, EventsReadError, IsEventDesc, DescribesByEventDesc, IsEventDescError, EventDescReadError, ReadsEventDesc, event_count_of, frame_size_of}
use Rattle.perfdata_sections.specs.ParsedPart.{PartRead, file_error_of}
use Rattle.perfdata_sections.specs.Items.{SomeBytes, IsTruncationOf, IsShorterThan}
use Rattle.perfdata_sections.specs.HeaderString.{IsHeaderStringOf, IsTruncatedString, ReadsHeaderString}
use Rattle.perfdata_sections.proofs.Frames.{frame_remains, frame_prefix, frame_filled}
use Rattle.perfdata_sections.proofs.PartLemmas.{drop_prefix}
use Rattle.perfdata_sections.proofs.Pmus.{read_error_after}
use Rattle.perfdata_sections.proofs.ItemRuns.{if_some_more, if_some_both, is_visible, truncated_next, read_error_next}
use Rattle.perfdata_sections.specs.declared.feature_sections.AttributeDescription.{AttributeDescription}
use Rattle.perfdata_sections.specs.declared.feature_sections.event_desc.NameAndIds.{NameAndIds}
use Rattle.perfdata_sections.specs.declared.error.Error.{Error}
use Rattle.perfdata_sections.specs.declared.error.Error.TheVariants.{IoError, Memory}

-- ---- advanced positions

-- seeking to the offset `n` bytes after a position advances the position by `n`
advanced_by_sum : (o : Option Position) (m n at : ℕ) → ((p : Position) → advance_by m o ≡ Some p → at ≡ p.offset + n) → at_offset at (advance_by m o) ≡ advance_by (m + n) o
advanced_by_sum None m n at target = refl
advanced_by_sum (Some p) m n at target =
    let there : at ≡ (p.offset + m) + n = target (record { all_bytes = p.all_bytes; offset = p.offset + m }) refl in
    let e : at ≡ p.offset + (m + n) = omega arith in
    ap (λ k. Some (record { all_bytes = p.all_bytes; offset = k })) e

advanced_by_same : (o : Option Position) (m n : ℕ) → m ≡ n → advance_by m o ≡ advance_by n o
advanced_by_same o m n same = ap (λ k. advance_by k o) same

dropped : ℕ → Option (List ℕ) → Option (List ℕ)
dropped n None = None
dropped n (Some xs) = Some (drop n xs)

remaining_advanced : (o : Option Position) (n : ℕ) → remaining_from (advance_by n o) ≡ dropped n (remaining_from o)
unfolding dropped
remaining_advanced None n = refl
remaining_advanced (Some p) n = ap (λ l. Some l) (sym (drop-drop n p.offset p.all_bytes))

-- the remaining bytes at an advanced position are those before, without the first `n`
bytes_advanced : (a b : State) (n : ℕ) → RemainsFromPosition a → RemainsFromPosition b → b.position ≡ advance_by n a.position → b.bytes ≡ dropped n a.bytes
bytes_advanced a b n from_position from_position' there = from_position' ∙ ap remaining_from there ∙ remaining_advanced a.position n ∙ ap (dropped n) (sym from_position)

more_than : (xs name_and_ids rest : List ℕ) (n : ℕ) → drop n xs ≡ name_and_ids ++ rest → 0 < length name_and_ids → n ≤ length xs
more_than xs name_and_ids rest n is some =
    let long : length (drop n xs) ≡ length name_and_ids + length rest = ap length is ∙ length-append name_and_ids rest in
    omega (arith, length-drop n xs)

-- if bytes were read after an advance by `n`, at least `n` bytes remained before the advance
bytes_before_advance : (n : ℕ) (old : Option (List ℕ)) (new : Option (List ℕ)) (name_and_ids : List ℕ) → dropped n old ≡ prepend name_and_ids new → 0 < length name_and_ids → IfSome old (λ xs. n ≤ length xs)
unfolding dropped
bytes_before_advance n None new name_and_ids is some = tt
bytes_before_advance n (Some xs) None name_and_ids is some = cc
bytes_before_advance n (Some xs) (Some rest) name_and_ids is some = let same : drop n xs ≡ name_and_ids ++ rest = cc in more_than xs name_and_ids rest n same some

abbrev at_in : Option Position → ℕ
at_in None = 0
at_in (Some p) = p.offset

-- after bytes were read, the position is within all bytes
position_within_all : (o : Option Position) (p : Position) (prefix rest : List ℕ) → advance_by (length prefix) o ≡ Some p → remaining_from o ≡ Some (prefix ++ rest) → 0 < length prefix → p.offset ≤ length p.all_bytes
position_within_all None p prefix rest is known some = absurd (let no : ⊥ = cc in no)
position_within_all (Some q) p prefix rest is known some =
    let at : q.offset + length prefix ≡ p.offset = ap at_in is in
    let same_all : Some q.all_bytes ≡ Some p.all_bytes = ap all_bytes_of is in
    let all : q.all_bytes ≡ p.all_bytes = cc in
    let same : drop q.offset q.all_bytes ≡ prefix ++ rest = cc in
    let long : length (drop q.offset q.all_bytes) ≡ length prefix + length rest = ap length same ∙ length-append prefix rest in
    let longs : length q.all_bytes ≡ length p.all_bytes = ap length all in
    omega (arith, length-drop q.offset q.all_bytes)

-- after bytes were read, a relative seek by a 32-bit distance is in range
seek_in_range : (a b : State) (prefix : List ℕ) (distance : ℕ) → RemainsFromPosition a → SizeFitsI64 b → Consumed a prefix b → 0 < length prefix → distance < 2 ^ 32 → SeekOutOfRange b (Current (pos distance)) → ⊥
seek_in_range a b prefix distance from_position small consumed some low none =
    let far : 2 ^ 64 ≤ none.start.offset + distance = none.out_of_range in
    let fits : length none.start.all_bytes < 2 ^ 63 = subst (λ o. IfSome (all_bytes_of o) (λ all. length all < 2 ^ 63)) none.at_start small in
    let after_seek = consumed-after_seek a b prefix from_position consumed in
    let known : b.bytes ≡ Some (drop none.start.offset none.start.all_bytes) = after_seek.from_position ∙ ap remaining_from none.at_start in
    let within = position_within_all a.position none.start prefix (drop none.start.offset none.start.all_bytes) (sym consumed.position ∙ none.at_start) (sym from_position ∙ consumed.bytes ∙ ap (prepend prefix) known) some in
    omega arith

io_not_memory : (error : SourceError) → IoError error ≡ Memory → ⊥
io_not_memory error is = absurd cc

module _ (number : ℕ → List ℕ → ℕ) (first : ReadsFirst number) where
  -- ---- the bytes after a frame

  pub name_and_ids_name_error : (a b c : State) (header : List ℕ) (error : AppendError) → length header ≡ 4 → Consumed a header b → ReadsHeaderString number b (Err error) c → ReadsNameAndIds number a (Err error) c
  name_and_ids_name_error a b c header NoMemory long before some = record {
    bytes = header ++ some.bytes;
    is_truncated = let enough = some.is_truncated.0 in omega (arith, long, enough, length-append header some.bytes);
    consumes = consumed_more a b c header some.bytes before some.consumes;
  }
  name_and_ids_name_error a b c header (Source e) long before truncated = read_error_after (IsTruncatedNameAndIds number) (IsTruncatedString number) a b c header e before truncated (λ part short.
      inr (inl (omega (arith, length-append header part), subst (IsTruncatedString number) (sym (drop_prefix 4 header part long)) short)))

  pub name_and_ids_ids_error : (a b c d : State) (header : List ℕ) (name : Option (List ℕ)) (count : ℕ) (error : AppendError) → length header ≡ 4 → count ≡ number 4 header → Consumed a header b → PartRead (IsHeaderStringOf number) b name c
      → ReadsIds number count c (Err error) d → ReadsNameAndIds number a (Err error) d
  name_and_ids_ids_error a b c d header name count NoMemory long says before was_read some =
      let name_long = was_read.matches.0.0 in
      record {
        bytes = header ++ (was_read.bytes ++ some.bytes);
        is_truncated = omega (arith, long, name_long, length-append header (was_read.bytes ++ some.bytes), length-append was_read.bytes some.bytes);
        consumes = consumed_more a b d header (was_read.bytes ++ some.bytes) before (consumed_more b c d was_read.bytes some.bytes was_read.consumes some.consumes);
      }
  name_and_ids_ids_error a b c d header name count (Source e) long says before was_read truncated =
      let less = truncated.too_few in
      record {
        bytes = header ++ (was_read.bytes ++ truncated.consumed_bytes);
        is_truncated = inr (inr (record { count_bytes = header; name_bytes = was_read.bytes; id_bytes = truncated.consumed_bytes; matches = refl; exact_len = long; valid_string = was_read.matches.0; too_few = omega arith }));
        consumes = consumed_more a b d header (was_read.bytes ++ truncated.consumed_bytes) before (consumed_more b c d was_read.bytes truncated.consumed_bytes was_read.consumes truncated.consumes);
        cause = elim truncated.cause [
          | inl short ↦ inl (short.0, consumed_none_later a b d header before (consumed_none_later b c d was_read.bytes was_read.consumes short.1))
          | inr failed ↦ inr (failed_later a b d header before (failed_later b c d was_read.bytes was_read.consumes failed))
        ];
      }

  pub name_and_ids_read : (a b c d : State) (header : List ℕ) (count : ℕ) (name : Option (List ℕ)) (t : NameAndIds) → length header ≡ 4 → count ≡ number 4 header → Consumed a header b → PartRead (IsHeaderStringOf number) b name c → option_map string_bytes t.name ≡ name
      → PartRead (AreIds number count) c t.event_ids.items d → ReadsNameAndIds number a (Ok t) d
  name_and_ids_read a b c d header count name t long says before was_read same ids = record {
    bytes = header ++ (was_read.bytes ++ ids.bytes);
    consumes = consumed_more a b d header (was_read.bytes ++ ids.bytes) before (consumed_more b c d was_read.bytes ids.bytes was_read.consumes ids.consumes);
    matches = record {
      count_bytes = header;
      name_bytes = was_read.bytes;
      id_bytes = ids.bytes;
      matches = refl;
      exact_len = long;
      valid_string = subst (λ n. IsHeaderStringOf number was_read.bytes n) (sym same) was_read.matches;
      elements = subst (λ n. AreIds number n ids.bytes t.event_ids.items) says ids.matches;
    };
  }

  -- a name with ids is nonempty, since it contains a count
  name_and_ids_nonempty : (xs : List ℕ) (name : Option (List ℕ)) (ids : List ℕ) → IsNameAndIds number xs name ids → 0 < length xs
  name_and_ids_nonempty xs name ids name_and_ids =
      let long = name_and_ids.exact_len in
      let whole : length xs ≡ length name_and_ids.count_bytes + length (name_and_ids.name_bytes ++ name_and_ids.id_bytes) = ap length name_and_ids.matches ∙ length-append name_and_ids.count_bytes (name_and_ids.name_bytes ++ name_and_ids.id_bytes) in
      omega arith

  module _ (attr_size : ℕ) where
    -- ---- a padded frame

    frame_visible : (a b : State) (attr : PerfEventAttr) → FrameRead number attr_size a attr b → IfSome a.bytes (λ xs. IsAttrInFrame number attr_size xs attr)
    frame_visible a b attr was_read = is_visible a.bytes b.bytes was_read.bytes (λ xs. IsAttrInFrame number attr_size xs attr) was_read.consumes.bytes (λ rest. frame_remains number first attr_size was_read.bytes rest attr was_read.matches)

    -- the attribute has the size of its frame
    pub frame_full : (a b : State) (attr : PerfEventAttr) → RemainsFromPosition a → FrameRead number attr_size a attr b → attr_size - attr.size ≡ 0 → PaddedFrameRead number attr_size a attr b
    frame_full a b attr from_position was_read none =
        let small = was_read.fits_frame in
        let own = was_read.exact_len in
        let long : length was_read.bytes ≡ attr_size = omega arith in
        record {
          after_seek = consumed-after_seek a b was_read.bytes from_position was_read.consumes;
          position = was_read.consumes.position ∙ advanced_by_same a.position (length was_read.bytes) attr_size long;
          is_possible = (was_read.bytes, was_read.matches);
          matches = frame_visible a b attr was_read;
        }

    -- a seek reached the end of the frame
    pub frame_padded : (a b c : State) (attr : PerfEventAttr) (distance n : ℕ) → RemainsFromPosition a → FrameRead number attr_size a attr b → distance ≡ attr_size - attr.size → SeekSucceeded b (Current (pos distance)) n c → PaddedFrameRead number attr_size a attr c
    frame_padded a b c attr distance n from_position was_read is seek =
        let small = was_read.fits_frame in
        let own = was_read.exact_len in
        let long : length was_read.bytes + distance ≡ attr_size = omega arith in
        let there : c.position ≡ at_offset n (advance_by (length was_read.bytes) a.position) = seek.position ∙ ap (at_offset n) was_read.consumes.position in
        record {
          after_seek = after_seek_more a b c (consumed-after_seek a b was_read.bytes from_position was_read.consumes) seek.after_seek;
          position = there ∙ advanced_by_sum a.position (length was_read.bytes) distance n (λ p same. seek.target p (was_read.consumes.position ∙ same)) ∙ advanced_by_same a.position (length was_read.bytes + distance) attr_size long;
          is_possible = (was_read.bytes, was_read.matches);
          matches = frame_visible a b attr was_read;
        }

    -- the seek to the end of the frame failed: its target is in range, hence the source failed
    pub frame_end_seek_failed : (a b c : State) (attr : PerfEventAttr) (distance : ℕ) (e : SourceError) → RemainsFromPosition a → SizeFitsI64 b → FrameRead number attr_size a attr b → distance < 2 ^ 32 → AfterSeek b c × (SourceFailed b c ⊎ SeekOutOfRange b (Current (pos distance)))
        → AfterSeek a c × (FrameReadError number attr_size a (IoError e) c ⊎ FrameEndSeekError number attr_size a (IoError e) c)
    frame_end_seek_failed a b c attr distance e from_position small was_read low seek =
        let least = was_read.matches.matches.min_size in
        let there = was_read.matches.matches.complete in (
          after_seek_more a b c (consumed-after_seek a b was_read.bytes from_position was_read.consumes) seek.0,
          elim seek.1 [
            | inl failed ↦ inr (record { attr = attr; mid = b; frame_read = was_read; io_error = tt; source_failed = failed })
            | inr none ↦ absurd (seek_in_range a b was_read.bytes distance from_position small was_read.consumes (omega arith) low none)
          ],
        )

    -- ---- an event

    frame_in : (old new : Option (List ℕ)) (attr : PerfEventAttr) → new ≡ dropped attr_size old → SomeBytes (λ xs. IsAttrInFrame number attr_size xs attr) → IfSome old (λ xs. IsAttrInFrame number attr_size xs attr) → IfSome old (λ xs. attr_size ≤ length xs)
        → (frame : List ℕ) × (length frame ≡ attr_size) × IsAttrInFrame number attr_size frame attr × (old ≡ prepend frame new)
    unfolding dropped
    frame_in None new attr is some framed long_enough =
        let filled = frame_filled number first attr_size some.0 attr some.1 in
        (filled.0, filled.1, filled.2, sym (ap (prepend filled.0) is))
    frame_in (Some xs) new attr is some framed long_enough = (
      take attr_size xs,
      length-take-le attr_size xs long_enough,
      frame_prefix number first attr_size xs attr framed long_enough,
      ap (λ l. Some l) (sym (take-append-drop attr_size xs)) ∙ sym (ap (prepend (take attr_size xs)) is),
    )

    -- a padded frame was consumed, if the source has as many bytes
    frame_consumed : (a b : State) (attr : PerfEventAttr) → RemainsFromPosition a → PaddedFrameRead number attr_size a attr b → IfSome a.bytes (λ xs. attr_size ≤ length xs)
        → (frame : List ℕ) × (length frame ≡ attr_size) × IsAttrInFrame number attr_size frame attr × Consumed a frame b
    frame_consumed a b attr from_position skipped long_enough =
        let f = frame_in a.bytes b.bytes attr (bytes_advanced a b attr_size from_position skipped.after_seek.from_position skipped.position) skipped.is_possible skipped.matches long_enough in (
          f.0,
          f.1,
          f.2,
          record {
            bytes = f.3;
            position = skipped.position ∙ advanced_by_same a.position attr_size (length f.0) (sym f.1);
            errors = skipped.after_seek.errors;
            pauses = skipped.after_seek.pauses;
            steady = skipped.after_seek.steady;
          },
        )

    pub event_read : (a b c : State) (attr : PerfEventAttr) (t : NameAndIds) → RemainsFromPosition a → PaddedFrameRead number attr_size a attr b → ReadsNameAndIds number b (Ok t) c
        → (let d : AttributeDescription = record { attr = attr; name = t.name; event_ids = t.event_ids } in PartRead (λ xs d. IsEvent number attr_size xs (event_in d)) a d c)
    event_read a b c attr t from_position skipped name_and_ids =
        let some = name_and_ids_nonempty name_and_ids.bytes (option_map string_bytes t.name) t.event_ids.items name_and_ids.matches in
        let long_enough = bytes_before_advance attr_size a.bytes c.bytes name_and_ids.bytes (sym (bytes_advanced a b attr_size from_position skipped.after_seek.from_position skipped.position) ∙ name_and_ids.consumes.bytes) some in
        let frame = frame_consumed a b attr from_position skipped long_enough in
        record {
          bytes = frame.0 ++ name_and_ids.bytes;
          consumes = consumed_more a b c frame.0 name_and_ids.bytes frame.3 name_and_ids.consumes;
          matches = record { frame_bytes = frame.0; after_frame = name_and_ids.bytes; matches = refl; exact_len = frame.1; attr_in_frame = frame.2; name_and_ids = name_and_ids.matches };
        }

    pub event_truncated : (a b c : State) (attr : PerfEventAttr) (error : AppendError) (e : Error) → PaddedFrameRead number attr_size a attr b → ReadsNameAndIds number b (Err error) c → e ≡ file_error_of error
        → AfterSeek a c × (e ≢ Memory → EventReadError number attr_size a e c)
    event_truncated a b c attr NoMemory e skipped some is = (after_seek_more a b c skipped.after_seek (consumed-after_seek b c some.bytes skipped.after_seek.from_position some.consumes), λ ne. absurd (ne is))
    event_truncated a b c attr (Source error) e skipped truncated is =
        subst (λ e. AfterSeek a c × (e ≢ Memory → EventReadError number attr_size a e c)) (sym is) (
          after_seek_more a b c skipped.after_seek (consumed-after_seek b c truncated.bytes skipped.after_seek.from_position truncated.consumes),
          λ ne. inr (inr (record { attr = attr; mid = b; frame_read = skipped; error = read_error_next (IsTruncatedNameAndIds number) b c error truncated })),
        )

    -- memory runs out after a frame
    pub event_needs_memory : (a b c : State) (attr : PerfEventAttr) (error : AppendError) (e : Error) → PaddedFrameRead number attr_size a attr b → ReadsNameAndIds number b (Err error) c → e ≡ file_error_of error → e ≡ Memory
        → EventNeedsMemory number attr_size a c
    event_needs_memory a b c attr NoMemory e skipped some is memory = record { attr = attr; mid = b; frame_read = skipped; partly_read = some }
    event_needs_memory a b c attr (Source error) e skipped truncated is memory = absurd (io_not_memory error (sym is ∙ memory))

    pub event_frame_error : (a b : State) (e : Error) → ReadsPaddedFrame number attr_size a (Err e) b → AfterSeek a b × (e ≢ Memory → EventReadError number attr_size a e b)
    event_frame_error a b e read_error = (read_error.0, λ ne. elim read_error.1 [ inl frame ↦ inl frame | inr end ↦ inr (inl end) ])

    -- ---- the events

    events_push : (prefix p : List ℕ) (ds : List DescribedEvent) (d : DescribedEvent) → AreEvents number attr_size prefix ds → IsEvent number attr_size p d → AreEvents number attr_size (prefix ++ p) (ds ++ d ∷ [])
    events_push prefix p [] d none is = (p, [], ap (λ l. l ++ p) none ∙ sym (append-nil p), is, refl)
    events_push prefix p (v ∷ ds) d (one, rest, truncated, is_one, are) is =
        (one, rest ++ p, ap (λ l. l ++ p) truncated ∙ append_assoc one rest p, is_one, events_push rest p ds d are is)

    pub events_none : (a : State) (ds : List AttributeDescription) → ds ≡ [] → EventsRead number attr_size 0 a ds a
    events_none a ds none = record { exact_len = ap length none; bytes = []; consumes = consumed_none a; elements = subst (λ l. AreEvents number attr_size [] (events_in l)) (sym none) refl }

    pub events_more : (i : ℕ) (a b c : State) (ds now : List AttributeDescription) (d : AttributeDescription) → EventsRead number attr_size i a ds b → PartRead (λ xs d. IsEvent number attr_size xs (event_in d)) b d c → now ≡ ds ++ d ∷ [] → EventsRead number attr_size (i + 1) a now c
    events_more i a b c ds now d was_read one pushed =
        let long = was_read.exact_len in
        record {
          exact_len = ap length pushed ∙ omega (arith, length-append ds (d ∷ []));
          bytes = was_read.bytes ++ one.bytes;
          consumes = consumed_more a b c was_read.bytes one.bytes was_read.consumes one.consumes;
          elements = subst (λ l. AreEvents number attr_size (was_read.bytes ++ one.bytes) l) (sym (ap events_in pushed ∙ map_push event_in ds d)) (events_push was_read.bytes one.bytes (events_in ds) (event_in d) was_read.elements one.matches);
        }

    pub events_stop : (i count : ℕ) (a b c : State) (ds : List AttributeDescription) (e : Error) → RemainsFromPosition a → i < count → EventsRead number attr_size i a ds b → AfterSeek b c × (e ≢ Memory → EventReadError number attr_size b e c)
        → AfterSeek a c × (e ≢ Memory → EventsReadError number attr_size count a e c)
    events_stop i count a b c ds e from_position low was_read read_error =
        let long = was_read.exact_len in (
          after_seek_more a b c (consumed-after_seek a b was_read.bytes from_position was_read.consumes) read_error.0,
          λ ne. record { before = events_in ds; mid = b; bytes_before = was_read.bytes; too_few = omega (arith, long, length-map ds event_in); consumes = was_read.consumes; elements = was_read.elements; error = read_error.1 ne },
        )

    -- memory runs out for the next event
    pub events_need_memory : (i count : ℕ) (a b c : State) (ds : List AttributeDescription) → i < count → EventsRead number attr_size i a ds b → EventNeedsMemory number attr_size b c ⊎ ((d : AttributeDescription) × PartRead (λ xs d. IsEvent number attr_size xs (event_in d)) b d c)
        → EventsNeedMemory number attr_size count a c
    events_need_memory i count a b c ds low was_read needs =
        let long = was_read.exact_len in
        record { before = events_in ds; mid = b; bytes_before = was_read.bytes; too_few = omega (arith, long, low, length-map ds event_in); consumes = was_read.consumes; elements = was_read.elements; needs = needs }

    -- the next event can't be allocated
    pub events_after_seek : (i : ℕ) (a b c : State) (ds : List AttributeDescription) (d : AttributeDescription) → RemainsFromPosition a → EventsRead number attr_size i a ds b → PartRead (λ xs d. IsEvent number attr_size xs (event_in d)) b d c → AfterSeek a c
    events_after_seek i a b c ds d from_position was_read one = consumed-after_seek a c (was_read.bytes ++ one.bytes) from_position (consumed_more a b c was_read.bytes one.bytes was_read.consumes one.consumes)

    -- ---- facts on the bytes of events

    holds_after_frame : (o : Option (List ℕ)) (P : List ℕ → Type 0) → IfSome (dropped attr_size o) P → IfSome o (λ xs. P (drop attr_size xs))
    unfolding dropped
    holds_after_frame None P h = tt
    holds_after_frame (Some xs) P h = h

    event_source_error : (a c : State) (e : Error) → RemainsFromPosition a → EventReadError number attr_size a e c → IfSome a.bytes (IsEventError number attr_size e) ⊎ IsAttributesSourceError a e c
    event_source_error a c e from_position read_error = elim read_error [
      | inl frame ↦ elim frame.cause [
        | inl bytes ↦ inl (if_some_more a.bytes (ConsumesFrameError number attr_size e frame.consumed_bytes) (IsEventError number attr_size e) (λ xs none. inl none.0) bytes.1)
        | inr source ↦ inr (inr (inr (source.0.0, source.1)))
      ]
      | inr remaining_from ↦ elim remaining_from [
        | inl end ↦ inr (inl (end.io_error, failed_later a end.mid c end.frame_read.bytes end.frame_read.consumes end.source_failed))
        | inr truncated ↦ elim truncated.error.cause [
          | inl bytes ↦ inl (if_some_both a.bytes (λ xs. IsAttrInFrame number attr_size xs truncated.attr) (λ xs. IsTruncationOf (IsTruncatedNameAndIds number) e truncated.error.consumed_bytes (drop attr_size xs)) (IsEventError number attr_size e)
              (λ xs framed none. inr ((truncated.attr, framed), none.0, none.1))
              truncated.frame_read.matches
              (holds_after_frame a.bytes (IsTruncationOf (IsTruncatedNameAndIds number) e truncated.error.consumed_bytes) (subst (λ o. IfSome o (IsTruncationOf (IsTruncatedNameAndIds number) e truncated.error.consumed_bytes)) (bytes_advanced a truncated.mid attr_size from_position truncated.frame_read.after_seek.from_position truncated.frame_read.position) bytes.1)))
          | inr source ↦ elim source.1 [
            | inl failed ↦ inr (inl (failed.0, failed_after_seek a truncated.mid c truncated.frame_read.after_seek failed.1))
            | inr paused ↦ inr (inr (inl (paused.0, paused_after_seek a truncated.mid c truncated.frame_read.after_seek paused.1)))
          ]
        ]
      ]
    ]

  -- ---- the section

  pub desc_header_truncated : (a b : State) (e : SourceError) → RemainsFromPosition a → ReadExactError a 8 e b → AfterSeek a b × (IoError e ≢ Memory → EventDescReadError number a (IoError e) b)
  desc_header_truncated a b e from_position truncated = (consumed-after_seek a b truncated.consumed_bytes from_position truncated.consumes, λ ne. inl (truncated_next a b 8 e truncated))

  desc_events_error : (a b c : State) (header : List ℕ) (count size : ℕ) (e : Error) → RemainsFromPosition a → length header ≡ 8 → Consumed a header b → count ≡ event_count_of number header → size ≡ frame_size_of number header → ReadsEvents number size count b (Err e) c
      → AfterSeek a c × (e ≢ Memory → EventDescReadError number a e c)
  desc_events_error a b c header count size e from_position long consumed says sized read_error = (
    after_seek_more a b c (consumed-after_seek a b header from_position consumed) read_error.0,
    λ ne. inr (record {
      header = header;
      mid = b;
      exact_len = long;
      consumes = consumed;
      error = subst (λ n. EventsReadError number n (event_count_of number header) b e c) sized (subst (λ n. EventsReadError number size n b e c) says (read_error.1 ne));
    }),
  )

  desc_read : (a b c : State) (header : List ℕ) (count size : ℕ) (v : Vec AttributeDescription Global) → length header ≡ 8 → Consumed a header b → count ≡ event_count_of number header → size ≡ frame_size_of number header → ReadsEvents number size count b (Ok v) c
      → PartRead (λ xs ds. IsEventDesc number xs (events_in ds)) a v.items c
  desc_read a b c header count size v long consumed says sized was_read = record {
    bytes = header ++ was_read.bytes;
    consumes = consumed_more a b c header was_read.bytes consumed was_read.consumes;
    matches = record { header = header; event_bytes = was_read.bytes; matches = refl; exact_len = long; count = length-map v.items event_in ∙ was_read.exact_len ∙ says; elements = subst (λ n. AreEvents number n was_read.bytes (events_in v.items)) sized was_read.elements };
  }

  -- memory runs out for an event of the section
  pub desc_needs_memory : (a b c : State) (header : List ℕ) (count size : ℕ) → length header ≡ 8 → Consumed a header b → count ≡ event_count_of number header → size ≡ frame_size_of number header → EventsNeedMemory number size count b c → EventDescNeedsMemory number a c
  desc_needs_memory a b c header count size long consumed says sized needs = record {
    header = header;
    mid = b;
    exact_len = long;
    consumes = consumed;
    needs = subst (λ n. EventsNeedMemory number n (event_count_of number header) b c) sized (subst (λ n. EventsNeedMemory number size n b c) says needs);
  }

  -- the result of reading the events after the first 8 bytes is that of the section
  pub desc_result : (a b c : State) (header : List ℕ) (count size : ℕ) (r : Result (Vec AttributeDescription Global) Error) → RemainsFromPosition a → length header ≡ 8 → Consumed a header b → count ≡ event_count_of number header → size ≡ frame_size_of number header
      → ReadsEvents number size count b r c → ReadsEventDesc number a r c
  desc_result a b c header count size (Ok v) from_position long consumed says sized was_read = desc_read a b c header count size v long consumed says sized was_read
  desc_result a b c header count size (Err e) from_position long consumed says sized read_error = desc_events_error a b c header count size e from_position long consumed says sized read_error

  pub desc_result_needs_memory : (a b c : State) (header : List ℕ) (count size : ℕ) (r : Result (Vec AttributeDescription Global) Error) → length header ≡ 8 → Consumed a header b → count ≡ event_count_of number header → size ≡ frame_size_of number header
      → IfErr r (λ e. e ≡ Memory → EventsNeedMemory number size count b c) → IfErr r (λ e. e ≡ Memory → EventDescNeedsMemory number a c)
  desc_result_needs_memory a b c header count size (Ok v) long consumed says sized needs = tt
  desc_result_needs_memory a b c header count size (Err e) long consumed says sized needs = λ memory. desc_needs_memory a b c header count size long consumed says sized (needs memory)

  -- the bytes of the source contain what was read
  pub event_desc_described : (old : State) (ds : List AttributeDescription) (new : State) → PartRead (λ xs ds. IsEventDesc number xs (events_in ds)) old ds new → IfSome old.bytes (λ xs. DescribesByEventDesc number xs ds)
  event_desc_described old ds new was_read = is_visible old.bytes new.bytes was_read.bytes (λ xs. DescribesByEventDesc number xs ds) was_read.consumes.bytes (λ rest. (was_read.bytes, rest, refl, was_read.matches))

  visible_before : (a b : Option (List ℕ)) (prefix : List ℕ) (P Q : List ℕ → Type 0) → a ≡ prepend prefix b → ((rest : List ℕ) → Q rest → P (prefix ++ rest)) → IfSome b Q → IfSome a P
  visible_before a None prefix P Q is more h = subst (λ o. IfSome o P) (sym is) tt
  visible_before a (Some rest) prefix P Q is more h = subst (λ o. IfSome o P) (sym is) (more rest h)

  source_error_later : (a b c : State) (e : Error) (prefix : List ℕ) → Consumed a prefix b → IsAttributesSourceError b e c → IsAttributesSourceError a e c
  source_error_later a b c e prefix consumed source_error = elim source_error [
    | inl failed ↦ inl (failed.0, failed_later a b c prefix consumed failed.1)
    | inr rest ↦ elim rest [
      | inl paused ↦ inr (inl (paused.0, paused_later a b c prefix consumed paused.1))
      | inr attr ↦ inr (inr (attr.0, elim attr.1 [ inl failed ↦ inl (failed_later a b c prefix consumed failed) | inr paused ↦ inr (paused_later a b c prefix consumed paused) ]))
    ]
  ]

  -- the bytes of the source show the first error, or the source failed or paused
  pub event_desc_source_error : (old : State) (e : Error) (new : State) → RemainsFromPosition old → EventDescReadError number old e new → IfSome old.bytes (IsEventDescError number e) ⊎ IsAttributesSourceError old e new
  event_desc_source_error old e new from_position stops = elim stops [
    | inl truncated ↦ elim truncated.cause [
      | inl bytes ↦ inl (if_some_more old.bytes (IsTruncationOf (IsShorterThan 8) e truncated.consumed_bytes) (IsEventDescError number e) (λ xs none. inl (none.0, none.1)) bytes.1)
      | inr source ↦ elim source.1 [ inl failed ↦ inr (inl failed) | inr paused ↦ inr (inr (inl paused)) ]
    ]
    | inr remaining_from ↦
        let events = remaining_from.error in
        let consumed = consumed_more old remaining_from.mid events.mid remaining_from.header events.bytes_before remaining_from.consumes events.consumes in
        let after_seek = consumed-after_seek old events.mid (remaining_from.header ++ events.bytes_before) from_position consumed in
        elim (event_source_error (frame_size_of number remaining_from.header) events.mid new e after_seek.from_position events.error) [
          | inl bytes ↦ inl (visible_before old.bytes events.mid.bytes (remaining_from.header ++ events.bytes_before) (IsEventDescError number e) (IsEventError number (frame_size_of number remaining_from.header) e) consumed.bytes (λ rest none. inr (record {
            header = remaining_from.header;
            bytes_before = events.bytes_before;
            rest = rest;
            before = events.before;
            matches = append_assoc remaining_from.header events.bytes_before rest;
            exact_len = remaining_from.exact_len;
            too_few = events.too_few;
            elements = events.elements;
            error_here = none;
          }))
              bytes)
          | inr source_error ↦ inr (source_error_later old events.mid new e (remaining_from.header ++ events.bytes_before) consumed source_error)
        ]
  ]
