-- The table entries and the sections that a file contains as a whole.
use Rattle.std.proofs.Common.{◌≡◌, ◌≢◌, ℕ, ◌+◌, ◌-◌, ◌*◌, ◌/◌, ◌<◌, ◌≤◌, ◌++◌, Bool, true, false, cond, List, [], ◌∷◌, length, take, drop, filter, nat_eq, nat_le, refl, sym, ap, ◌∙◌, subst, arith, inl, inr, length-append, length-take, length-drop, take_all, append_assoc, append-nil, div-mul-le_self, Option, None, Some, IsSome}
use Rattle.std.specs.Prelude.{◌&&◌, nat_lt, Result, Ok, Err, IfSome, All, Vec}
use Rattle.std.specs.declared.alloc.Global.{Global}
use Rattle.std.specs.declared.io.Error.{Error as IoErrorValue}
use Rattle.std.proofs.Math.Seq.{drop-append_seam, take-append_seam}
use Rattle.std.proofs.lemmas.Bool.{eq-eqb, eqb-true, leb-true}
use Rattle.std.proofs.lemmas.List.{map_push}
use Rattle.std.proofs.lemmas.List.Elements.{All-drop, All-head, filter-append, filter_passes}
use Rattle.indexmap.specs.IndexMap.{IndexMap}
use Rattle.perfdata_sources.specs.Source.{State, RemainsFromPosition, AfterSeek, Consumed, ReadExactError, SourceFailed, at_offset, all_bytes_of}
use Rattle.perfdata_sources.specs.Endian.{number_in}
use Rattle.perfdata_identifiers.specs.Features.{InsertsFeature, features_of}
use Rattle.perfdata_base.specs.Section.{SectionEntryParsed}
use Rattle.perfdata_sources.specs.declared.endian.Endianness.{Endianness}
use Rattle.perfdata_identifiers.specs.declared.features.Feature.{Feature}
use Rattle.perfdata_identifiers.specs.declared.features.FeatureSet.{FeatureSet}
use Rattle.perfdata_base.specs.declared.header.PerfHeader.{PerfHeader}
use Rattle.perfdata_base.specs.declared.section.PerfFileSection.{PerfFileSection}
use Rattle.perfdata_sources.proofs.ConsumedLemmas.{consumed_none, consumed_more, consumed_none_later, failed_later}
use Rattle.perfdata_sources.proofs.ReadErrors.{after_seek_more, after_seek_none, consumed-after_seek, failed_after_seek, paused_after_seek, none_or_paused, all_read}
use Rattle.perfdata_sections.specs.Error.{IsIoError}
use Rattle.perfdata_sections.specs.declared.error.Error.{Error}
use Rattle.perfdata_sections.specs.declared.error.Error.TheVariants.{IoError, Memory}
use Rattle.linux_perf_data.specs.FeatureData.{FeatureEntry, feature_entries_in, feature_data_by, feature_data_of, HoldsSection, FirstTruncatedSection}
use Rattle.linux_perf_data.specs.FileOpening.{table_offset}
use Rattle.linux_perf_data.specs.UnfinishedFile.{has_whole_data, whole_entries, whole_sections}
use Rattle.linux_perf_data.specs.steps.FeatureData.{feature_entries_of, ReadsFeatureData, SourceErrorInBytes}
use Rattle.linux_perf_data.specs.steps.UnfinishedFile.{HasLength, WholeEntriesRead, WholeEntriesError, ReadsWholeEntries, ContainsFeatures, ReadsWholeTable, ReadsWholeSections}
use Rattle.linux_perf_data.proofs.FeatureTables.{data_push, entries_push, entries_of_prefix, remaining_there, prefix_there, is_visible_before, earlier_source_error}
use Rattle.linux_perf_data.proofs.FileAttributes.{if_more, if_both}
use Rattle.linux_perf_data.proofs.NamedErrors.{file_bytes, file_io}
use Rattle.linux_perf_data.proofs.UnfinishedRecords.{not_all_read}
use Rattle.linux_perf_data.proofs.PipeMetadataGrowth.{is_some_of, some_of}

-- ---- the table

-- the section of an entry is in the first `len` bytes
abbrev pub is_within : ℕ → FeatureEntry → Bool
is_within len e = nat_le e.1.size (len - e.1.offset)

-- an entry, or none, is pushed
entries_or_none : (items : List (Feature × PerfFileSection)) (t : Bool) (f : Feature) (s : PerfFileSection) → feature_entries_of items ++ cond t ((f.0, s) ∷ []) [] ≡ feature_entries_of (items ++ cond t ((f, s) ∷ []) [])
entries_or_none items true f s = sym (map_push (λ e. (e.0.0, e.1)) items (f, s))
entries_or_none items false f s = append-nil (feature_entries_of items) ∙ sym (ap feature_entries_of (append-nil items))

pub pushed_if_whole : (items new : List (Feature × PerfFileSection)) (t : Bool) (x : Feature × PerfFileSection) → t ≡ true → new ≡ items ++ x ∷ [] → new ≡ items ++ cond t (x ∷ []) []
pushed_if_whole items new t x is grown = grown ∙ sym (ap (λ b. items ++ cond b (x ∷ []) []) is)

pub unchanged_if_partial : (items : List (Feature × PerfFileSection)) (t : Bool) (x : Feature × PerfFileSection) → t ≡ false → items ≡ items ++ cond t (x ∷ []) []
unchanged_if_partial items t x is = sym (ap (λ b. items ++ cond b (x ∷ []) []) is ∙ append-nil items)

module _ (order : Endianness) (features : List ℕ) (count len : ℕ) where
  -- the entries of some features are parsed, at most `count`, and these features remain
  pub record WholeEntriesSoFar (old : State) (es : List FeatureEntry) (remaining : List ℕ) (left : ℕ) (new : State) : Type 0 where
    pub done : List ℕ
    pub split : features ≡ done ++ remaining
    pub counted : length done + left ≡ count
    pub bytes : List ℕ
    pub exact_len : length bytes ≡ 16 * length done
    pub consumes : Consumed old bytes new
    pub matches : es ≡ filter (is_within len) (feature_entries_in order bytes done)

  pub entries_none : (a : State) (items : List (Feature × PerfFileSection)) (remaining : List ℕ) → items ≡ [] → remaining ≡ features → WholeEntriesSoFar a (feature_entries_of items) remaining count a
  entries_none a items remaining none is = record {
    done = [];
    split = sym is;
    counted = omega arith;
    bytes = [];
    exact_len = refl;
    consumes = consumed_none a;
    matches = ap feature_entries_of none;
  }

  -- one more entry is parsed
  entry_more : (a b c : State) (es : List FeatureEntry) (remaining later : List ℕ) (left left' n : ℕ) (s : PerfFileSection) → WholeEntriesSoFar a es remaining left b → remaining ≡ n ∷ later → left ≡ left' + 1 → SectionEntryParsed (number_in order) b s c
      → WholeEntriesSoFar a (es ++ cond (is_within len (n, s)) ((n, s) ∷ []) []) later left' c
  entry_more a b c es remaining later left left' n s so next one_less one =
      let counted = so.counted in
      let long = so.exact_len in
      let more = one.exact_len in
      let grown : feature_entries_in order (so.bytes ++ one.bytes) (so.done ++ n ∷ []) ≡ feature_entries_in order so.bytes so.done ++ (n, s) ∷ [] =
      entries_push order so.bytes one.bytes so.done n so.exact_len one.exact_len ∙ ap (λ t. feature_entries_in order so.bytes so.done ++ (n, t) ∷ []) (sym one.matches) in record {
        done = so.done ++ n ∷ [];
        split = so.split ∙ ap (λ l. so.done ++ l) next ∙ sym (append_assoc so.done (n ∷ []) later);
        counted = omega (arith, length-append so.done (n ∷ []), counted, one_less);
        bytes = so.bytes ++ one.bytes;
        exact_len = omega (arith, length-append so.bytes one.bytes, length-append so.done (n ∷ []), long, more);
        consumes = consumed_more a b c so.bytes one.bytes so.consumes one.consumes;
        matches = ap (λ l. l ++ cond (is_within len (n, s)) ((n, s) ∷ []) []) so.matches
            ∙ sym (ap (filter (is_within len)) grown ∙ filter-append (is_within len) (feature_entries_in order so.bytes so.done) ((n, s) ∷ []));
      }

  -- the entry is pushed if the file contains its section
  pub entry_pushed : (a b c : State) (items new : List (Feature × PerfFileSection)) (remaining later : List ℕ) (left left' : ℕ) (f : Feature) (s : PerfFileSection) → WholeEntriesSoFar a (feature_entries_of items) remaining left b → remaining ≡ f.0 ∷ later → left ≡ left' + 1
      → SectionEntryParsed (number_in order) b s c → new ≡ items ++ cond (nat_le s.size (len - s.offset)) ((f, s) ∷ []) [] → WholeEntriesSoFar a (feature_entries_of new) later left' c
  entry_pushed a b c items new remaining later left left' f s so next one_less one grown =
      let all : feature_entries_of items ++ cond (is_within len (f.0, s)) ((f.0, s) ∷ []) [] ≡ feature_entries_of new = entries_or_none items (nat_le s.size (len - s.offset)) f s ∙ sym (ap feature_entries_of grown) in
      subst (λ es. WholeEntriesSoFar a es later left' c) all (entry_more a b c (feature_entries_of items) remaining later left left' f.0 s so next one_less one)

  read_up_to : (a b : State) (es : List FeatureEntry) (remaining : List ℕ) (left : ℕ) (so : WholeEntriesSoFar a es remaining left b) → take count features ≡ so.done → WholeEntriesRead order features count len a es b
  read_up_to a b es remaining left so is = record {
    bytes = so.bytes;
    exact_len = so.exact_len ∙ ap (λ l. 16 * length l) (sym is);
    consumes = so.consumes;
    matches = so.matches ∙ ap (λ l. filter (is_within len) (feature_entries_in order so.bytes l)) (sym is);
  }

  -- the features are at an end
  pub entries_all : (a b : State) (es : List FeatureEntry) (remaining : List ℕ) (left : ℕ) → WholeEntriesSoFar a es remaining left b → remaining ≡ [] → WholeEntriesRead order features count len a es b
  entries_all a b es remaining left so none =
      let whole : features ≡ so.done = so.split ∙ ap (λ l. so.done ++ l) none ∙ append-nil so.done in
      let counted = so.counted in
      read_up_to a b es remaining left so (take_all count features (omega (arith, ap length whole, counted)) ∙ whole)

  -- all entries that the file has are parsed
  pub entries_counted : (a b : State) (es : List FeatureEntry) (remaining : List ℕ) (left : ℕ) → WholeEntriesSoFar a es remaining left b → left ≡ 0 → WholeEntriesRead order features count len a es b
  entries_counted a b es remaining left so none =
      let counted = so.counted in
      let same : count ≡ length so.done = omega (arith, counted, none) in
      read_up_to a b es remaining left so (ap (λ l. take count l) so.split ∙ ap (λ n. take n (so.done ++ remaining)) same ∙ take-append_seam so.done remaining)

  more_than : (done later : List ℕ) (n left : ℕ) → features ≡ done ++ n ∷ later → length done + left ≡ count → left ≢ 0 → length done < length (take count features)
  more_than done later n left split counted some =
      let long = length-take count features in
      let whole : length features ≡ length done + (1 + length later) = omega (arith, ap length split, length-append done (n ∷ later)) in
      omega (arith, long, whole, counted, some)

  -- parsing an entry fails
  pub entry_error : (a b c : State) (es : List FeatureEntry) (remaining later : List ℕ) (left n : ℕ) (e : IoErrorValue) → WholeEntriesSoFar a es remaining left b → remaining ≡ n ∷ later → left ≢ 0 → ReadExactError b 16 e c → WholeEntriesError features count a (IoError e) c
  entry_error a b c es remaining later left n e so next some error =
      let more = more_than so.done later n left (so.split ∙ ap (λ l. so.done ++ l) next) so.counted some in
      let long = so.exact_len in
      let less = error.too_few in record {
        bytes = so.bytes ++ error.consumed_bytes;
        consumes = consumed_more a b c so.bytes error.consumed_bytes so.consumes error.consumes;
        cause = λ _. (
          omega (arith, length-append so.bytes error.consumed_bytes, long, less, more),
          elim error.cause [
            | inl eof ↦ inl (eof.0, consumed_none_later a b c so.bytes so.consumes eof.1)
            | inr failed ↦ inr (tt, failed_later a b c so.bytes so.consumes failed)
          ],
        );
      }

  -- memory runs out for an entry
  pub entry_unkept : (a b c : State) (es : List FeatureEntry) (remaining : List ℕ) (left : ℕ) (s : PerfFileSection) (e : Error) → WholeEntriesSoFar a es remaining left b → SectionEntryParsed (number_in order) b s c → e ≡ Memory → WholeEntriesError features count a e c
  entry_unkept a b c es remaining left s e so one is = record {
    bytes = so.bytes ++ one.bytes;
    consumes = consumed_more a b c so.bytes one.bytes so.consumes one.consumes;
    cause = λ other. absurd (other is);
  }

-- ---- the features of entries

-- one more feature
pub features_more : (es : List FeatureEntry) (k : ℕ) (s : PerfFileSection) (old new : FeatureSet) → ContainsFeatures es old → InsertsFeature old k new → ContainsFeatures (es ++ (k, s) ∷ []) new
features_more es k s old new so inserts = λ all n.
    let more = data_push all es k s n in (
      λ has. elim ((inserts n).0 has) [
        | inl before ↦ (let both = (so all n).0 before in (both.0, subst IsSome (sym more) (some_of (nat_eq k n) _ (feature_data_by all es n) (inl both.1))))
        | inr put ↦ (put.0, subst IsSome (sym more) (some_of (nat_eq k n) _ (feature_data_by all es n) (inr (eq-eqb k n put.1))))
      ],
      λ both. (inserts n).1 (elim (is_some_of (nat_eq k n) _ (feature_data_by all es n) (subst IsSome more both.1)) [
        | inl before ↦ inl ((so all n).1 (both.0, before))
        | inr is ↦ inr (both.0, eqb-true k n is)
      ]),
    )

-- ---- the sections

nil_has_none : {X : Type 0} (ys zs : List X) (e : X) → [] ≡ ys ++ e ∷ zs → ⊥
nil_has_none [] zs e is = cc
nil_has_none (y ∷ ys) zs e is = cc

-- what a filter keeps passes its test
kept : {X : Type 0} (p : X → Bool) (xs ys zs : List X) (e : X) → filter p xs ≡ ys ++ e ∷ zs → p e ≡ true
kept p xs ys zs e is =
    let all = subst (All (λ x. p x ≡ true)) is (filter_passes p xs) in
    let later = subst (All (λ x. p x ≡ true)) (drop-append_seam ys (e ∷ zs)) (All-drop (λ x. p x ≡ true) (length ys) (ys ++ e ∷ zs) all) in
    All-head (λ x. p x ≡ true) e zs later

-- the data section ends in the file
whole_data_ends : (h : PerfHeader) (len : ℕ) → has_whole_data h len ≡ true → table_offset h ≤ len
whole_data_ends h len whole = leb-true (table_offset h) len (and_right (nat_lt 0 h.data_section.size) (nat_le (table_offset h) len) whole)
  where
    and_right : (a b : Bool) → (a && b) ≡ true → b ≡ true
    and_right true b is = is
    and_right false b is = cc

module _ (order : Endianness) (h : PerfHeader) (len : ℕ) (whole : has_whole_data h len ≡ true) where
  abbrev at : ℕ
  at = table_offset h

  abbrev count : ℕ
  count = (len - at) / 16

  abbrev features : List ℕ
  features = features_of h.features

  table_inside : at ≤ len
  table_inside = whole_data_ends h len whole

  -- the entries that were read are those of the file
  entries_there : (a b c : State) (es : List FeatureEntry) → AfterSeek a b → b.position ≡ at_offset at a.position → WholeEntriesRead order features count len b es c → IfSome (all_bytes_of a.position) (λ all. es ≡ whole_sections order h all len)
  entries_there a b c es seek moved read = remaining_there a.position b.position b.bytes at (λ all. es ≡ whole_sections order h all len) moved seek.from_position (λ all is.
      let t = prefix_there c.bytes (drop at all) read.bytes (sym is ∙ read.consumes.bytes) in
      let same : feature_entries_in order (drop at all) (take count features) ≡ feature_entries_in order read.bytes (take count features) =
      ap (λ l. feature_entries_in order l (take count features)) t.1 ∙ entries_of_prefix order read.bytes t.0 (take count features) read.exact_len in
      read.matches ∙ sym (ap (λ t. cond t (whole_entries order h all len) []) whole ∙ ap (filter (is_within len)) same))

  table_there : (a b c : State) (v : Vec (Feature × PerfFileSection) Global) → AfterSeek a b → b.position ≡ at_offset at a.position → WholeEntriesRead order features count len b (feature_entries_of v.items) c → ReadsWholeTable order h len a (Ok v) c
  table_there a b c v seek moved read = (after_seek_more a b c seek (consumed-after_seek b c read.bytes seek.from_position read.consumes), entries_there a b c (feature_entries_of v.items) seek moved read)

  -- the table's entries that were counted are in the file
  table_fits : (all : List ℕ) → len ≤ length all → at + 16 * length (take count features) ≤ length all
  table_fits all has =
      let inside = table_inside in
      let long = length-take count features in
      let times = div-mul-le_self (len - at) 16 in
      omega (arith, has, inside, long, times)

  -- reading the table fails
  entries_error : (a b c : State) (e : Error) → HasLength len a → AfterSeek a b → b.position ≡ at_offset at a.position → WholeEntriesError features count b e c → ReadsWholeTable order h len a (Err e) c
  entries_error a b c e has seek moved error = (
    after_seek_more a b c seek (consumed-after_seek b c error.bytes seek.from_position error.consumes),
    file_bytes b c e (λ other. elim (error.cause other).1 [ inl eof ↦ inl eof.0 | inr failed ↦ inr (inl failed) ]),
    λ other. let cause = error.cause other in if_more (all_bytes_of a.position) (λ all. len ≤ length all) (λ all. SourceErrorInBytes a e c) (λ all inside.
        elim cause.1 [
          | inl (eof, none) ↦ elim (none_or_paused b c none) [
            | inl ended ↦ absurd (not_all_read b a.position at (16 * length (take count features)) error.bytes seek.from_position moved
                (if_more (all_bytes_of a.position) (λ all. len ≤ length all) (λ all. at + 16 * length (take count features) ≤ length all) table_fits has) (all_read b c error.bytes error.consumes ended) cause.0)
            | inr paused ↦ inr (eof, paused_after_seek a b c seek paused)
          ]
          | inr (io, failed) ↦ inl (io, failed_after_seek a b c seek failed)
        ]) has,
  )

  -- the table is read, or reading it fails
  pub table_ends : (a b c : State) (r : Result (Vec (Feature × PerfFileSection) Global) Error) → HasLength len a → AfterSeek a b → b.position ≡ at_offset at a.position → ReadsWholeEntries order features count len b r c → ReadsWholeTable order h len a r c
  table_ends a b c (Ok v) has seek moved read = table_there a b c v seek moved read
  table_ends a b c (Err e) has seek moved error = entries_error a b c e has seek moved error

  -- seeking to the table fails
  pub table_unreached : (a b : State) (e : Error) → HasLength len a → AfterSeek a b × IsIoError e × SourceFailed a b → ReadsWholeTable order h len a (Err e) b
  table_unreached a b e has (seek, io, failed) = (seek, file_io e io, λ other. if_more (all_bytes_of a.position) (λ all. len ≤ length all) (λ all. SourceErrorInBytes a e b) (λ all inside. inl (io, failed)) has)

-- without the whole data section there is no table
pub no_table : (order : Endianness) (h : PerfHeader) (len : ℕ) (a : State) (v : Vec (Feature × PerfFileSection) Global) → has_whole_data h len ≡ false → RemainsFromPosition a → v.items ≡ [] → ReadsWholeTable order h len a (Ok v) a
no_table order h len a v none placed empty = (after_seek_none a placed, each (all_bytes_of a.position))
  where
    each : (o : Option (List ℕ)) → IfSome o (λ all. feature_entries_of v.items ≡ whole_sections order h all len)
    each None = tt
    each (Some all) = ap feature_entries_of empty ∙ sym (ap (λ t. cond t (whole_entries order h all len) []) none)

module _ (order : Endianness) (h : PerfHeader) (len : ℕ) (a b c : State) (v : Vec (Feature × PerfFileSection) Global) (table : ReadsWholeTable order h len a (Ok v) b) where
  abbrev es : List FeatureEntry
  es = feature_entries_of v.items

  pub sections_there : {S : Type 0} (set : FeatureSet) (m : IndexMap Feature (Vec ℕ Global) S) → ContainsFeatures es set → ReadsFeatureData es b (Ok m) c → ReadsWholeSections order h len a (Ok (set, m)) c
  sections_there set m contains read_data = (
    after_seek_more a b c table.0 read_data.0,
    if_both (all_bytes_of a.position) (λ all. es ≡ whole_sections order h all len) (λ all. All (λ e. HoldsSection all e.1) es × ((n : ℕ) → feature_data_of m n ≡ feature_data_by all es n))
        (λ all. ContainsFeatures (whole_sections order h all len) set × ((n : ℕ) → feature_data_of m n ≡ feature_data_by all (whole_sections order h all len) n))
        (λ all is holds. (subst (λ l. ContainsFeatures l set) is contains, λ n. holds.1 n ∙ ap (λ l. feature_data_by all l n) is))
        table.1 (is_visible_before a b (λ all. All (λ e. HoldsSection all e.1) es × ((n : ℕ) → feature_data_of m n ≡ feature_data_by all es n)) table.0 read_data.1),
  )

  -- an entry of the table is in the first `len` bytes
  entry_fits : (all : List ℕ) (before later : List FeatureEntry) (entry : FeatureEntry) → whole_sections order h all len ≡ before ++ entry ∷ later → entry.1.size ≤ len - entry.1.offset
  entry_fits all before later entry is = go (has_whole_data h len) is
    where
      go : (t : Bool) → cond t (whole_entries order h all len) [] ≡ before ++ entry ∷ later → entry.1.size ≤ len - entry.1.offset
      go true is = leb-true entry.1.size (len - entry.1.offset) (kept (is_within len) (feature_entries_in order (drop (table_offset h) all) (take ((len - table_offset h) / 16) (features_of h.features))) before later entry is)
      go false is = absurd (nil_has_none before later entry is)

  -- no section of the entries is truncated
  section_whole : (all : List ℕ) → len ≤ length all → es ≡ whole_sections order h all len → FirstTruncatedSection all es → ⊥
  section_whole all has is first =
      let fits = entry_fits all first.before first.later first.entry (sym is ∙ first.matches) in
      let truncated = first.is_truncated_here in
      omega (arith, fits, truncated, length-drop first.entry.1.offset all, has)

  -- reading a section fails
  pub data_error : (S : Type 0) (e : Error) → HasLength len a → ReadsFeatureData {S = S} es b (Err e) c → ReadsWholeSections {S = S} order h len a (Err e) c
  data_error S e has read_data = (
    after_seek_more a b c table.0 read_data.0,
    file_bytes b c e (λ other. elim (read_data.1 other) [ inl truncated ↦ inl truncated.0 | inr source ↦ inr source ]),
    λ other. elim (read_data.1 other) [
      | inl (eof, truncated) ↦ if_both (all_bytes_of a.position) (λ all. (len ≤ length all) × (es ≡ whole_sections order h all len)) (λ all. FirstTruncatedSection all es) (λ all. SourceErrorInBytes a e c)
          (λ all both first. absurd (section_whole all both.0 both.1 first))
          (if_both (all_bytes_of a.position) (λ all. len ≤ length all) (λ all. es ≡ whole_sections order h all len) (λ all. (len ≤ length all) × (es ≡ whole_sections order h all len)) (λ all x y. (x, y)) has table.1)
          (is_visible_before a b (λ all. FirstTruncatedSection all es) table.0 truncated)
      | inr source ↦ if_more (all_bytes_of a.position) (λ all. len ≤ length all) (λ all. SourceErrorInBytes a e c) (λ all inside. earlier_source_error a b c e table.0 source) has
    ],
  )
