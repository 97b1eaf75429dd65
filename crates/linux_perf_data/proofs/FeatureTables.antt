-- Parsed entries and bytes determine a file's feature sections, or the error.
use Rattle.std.proofs.Common.{◌≡◌, ℕ, ◌+◌, ◌*◌, ◌≤◌, ◌⊎◌, true, false, List, [], ◌∷◌, ◌++◌, length, take, drop, refl, sym, ap, ◌∙◌, subst, arith, inl, inr, length-append, length-drop, append_assoc, Option, None, Some}
use Rattle.std.specs.Prelude.{Result, Ok, Err, IfSome, Vec, All, cond, nat_eq}
use Rattle.std.specs.Option.{option_map}
use Rattle.std.specs.Map.{lookup, update, update_all}
use Rattle.std.specs.declared.alloc.Global.{Global}
use Rattle.std.specs.declared.io.Error.{Error as IoErrorValue}
use Rattle.std.proofs.lemmas.List.{drop-append-le, map_push, map-append}
use Rattle.std.proofs.lemmas.List.Elements.{All-push}
use Rattle.std.proofs.lemmas.List.Sums.{fold_push}
use Rattle.indexmap.specs.IndexMap.{IndexMap, get}
use Rattle.perfdata_sources.specs.Source.{State, Position, AfterSeek, ReadExactError, all_bytes_of, remaining_from, prepend, at_offset}
use Rattle.perfdata_sources.specs.Endian.{number_in}
use Rattle.perfdata_base.specs.Section.{section_entry_of, SectionEntryParsed}
use Rattle.perfdata_identifiers.specs.declared.features.Feature.{Feature}
use Rattle.perfdata_sources.specs.declared.endian.Endianness.{Endianness}
use Rattle.perfdata_base.specs.declared.section.PerfFileSection.{PerfFileSection}
use Rattle.perfdata_sources.specs.declared.source.append.AppendError.{AppendError}
use Rattle.perfdata_sources.specs.declared.source.append.AppendError.TheVariants.{Memory, Source}
use Rattle.perfdata_sources.proofs.ConsumedLemmas.{consumed_none, consumed_more, consumed_none_later, failed_later}
use Rattle.perfdata_sources.proofs.ReadErrors.{none_or_paused, all_read, consumed-after_seek, after_seek_more, failed_after_seek, paused_after_seek}
use Rattle.perfdata_sources.proofs.Numbers.{number_prefix, number_drop_prefix}
use Rattle.perfdata_sections.specs.ParsedPart.{ReadsBytes, file_error_of}
use Rattle.perfdata_sections.specs.Error.{IsUnexpectedEof}
use Rattle.perfdata_sections.specs.declared.error.Error.{Error}
use Rattle.perfdata_sections.specs.declared.error.Error.TheVariants.{IoError, Memory as OfMemory}
use Rattle.linux_perf_data.specs.FeatureData.{FeatureEntry, feature_entries_in, HoldsSection, SectionTruncated, section_bytes, feature_bytes_by, feature_data_by, feature_data_of, FirstTruncatedSection, feature_table_of, HoldsFeatureTable, HoldsAllSections, SectionsTruncated}
use Rattle.linux_perf_data.specs.steps.FeatureData.{feature_entries_of, SourceErrorInBytes, TableRead, TableReadError, ReadsSectionBytes, ReadsFeatureData, ReadsFeatures}

-- ---- one section

-- the remaining bytes at the target of a seek, if the bytes are known
pub remaining_there : (o o' : Option Position) (bytes : Option (List ℕ)) (n : ℕ) (P : List ℕ → Type 0) → o' ≡ at_offset n o → bytes ≡ remaining_from o' → ((all : List ℕ) → bytes ≡ Some (drop n all) → P all) → IfSome (all_bytes_of o) P
remaining_there None o' bytes n P at placed each = tt
remaining_there (Some p) o' bytes n P at placed each = each p.all_bytes (placed ∙ ap remaining_from at)

-- the bytes read at the target of a seek are a prefix of them
pub prefix_there : (o : Option (List ℕ)) (xs prefix : List ℕ) → Some xs ≡ prepend prefix o → (rest : List ℕ) × (xs ≡ prefix ++ rest)
prefix_there None xs prefix remaining = cc
prefix_there (Some rest) xs prefix remaining = (rest, cc)

pub earlier_source_error : (a b c : State) (e : Error) → AfterSeek a b → SourceErrorInBytes b e c → SourceErrorInBytes a e c
earlier_source_error a b c e seek (inl (is, failed)) = inl (is, failed_after_seek a b c seek failed)
earlier_source_error a b c e seek (inr (is, paused)) = inr (is, paused_after_seek a b c seek paused)

pub is_visible_before : (a b : State) (P : List ℕ → Type 0) → AfterSeek a b → IfSome (all_bytes_of b.position) P → IfSome (all_bytes_of a.position) P
is_visible_before a b P seek seen_here = subst (λ o. IfSome o P) seek.all_bytes seen_here

if_both : (o : Option (List ℕ)) (P Q S : List ℕ → Type 0) → ((x : List ℕ) → P x → Q x → S x) → IfSome o P → IfSome o Q → IfSome o S
if_both None P Q S both p q = tt
if_both (Some x) P Q S both p q = both x p q

section_truncated : (s : PerfFileSection) (a b c : State) (e : IoErrorValue) → AfterSeek a b → b.position ≡ at_offset s.offset a.position → ReadExactError b s.size e c
    → (IsUnexpectedEof (IoError e) × IfSome (all_bytes_of a.position) (λ all. SectionTruncated all s)) ⊎ SourceErrorInBytes a (IoError e) c
section_truncated s a b c e seek at truncated = elim truncated.cause [
  | inl (eof, none) ↦ elim (none_or_paused b c none) [
    | inl all ↦ inl (
      eof,
      remaining_there a.position b.position b.bytes s.offset (λ all'. SectionTruncated all' s) at seek.from_position (λ all' is.
          let same : Some (drop s.offset all') ≡ Some truncated.consumed_bytes = sym is ∙ all_read b c truncated.consumed_bytes truncated.consumes all in
          let fewer : length (drop s.offset all') ≡ length truncated.consumed_bytes = cc in
          let less = truncated.too_few in
          omega (arith, fewer, less)),
    )
    | inr paused ↦ inr (inr (eof, paused_after_seek a b c seek paused))
  ]
  | inr failed ↦ inr (inl (tt, failed_after_seek a b c seek failed))
]

pub section_error : (s : PerfFileSection) (a b c : State) (append_error : AppendError) (e : Error) → AfterSeek a b → b.position ≡ at_offset s.offset a.position → ReadsBytes b s.size (Err append_error) c → e ≡ file_error_of append_error
    → ReadsSectionBytes s a (Err e) c
section_error s a b c Memory e seek at remaining is = (
  after_seek_more a b c seek (consumed-after_seek b c remaining.consumed_bytes seek.from_position remaining.consumes),
  λ other. absurd (other is),
)
section_error s a b c (Source own) e seek at truncated is = (
  after_seek_more a b c seek (consumed-after_seek b c truncated.consumed_bytes seek.from_position truncated.consumes),
  λ _. subst (λ t. (IsUnexpectedEof t × IfSome (all_bytes_of a.position) (λ all. SectionTruncated all s)) ⊎ SourceErrorInBytes a t c) (sym is) (section_truncated s a b c own seek at truncated),
)

-- ---- the table

module _ (order : Endianness) where
  section_of_prefix : (prefix rest : List ℕ) → 16 ≤ length prefix → section_entry_of (number_in order) (prefix ++ rest) ≡ section_entry_of (number_in order) prefix
  section_of_prefix prefix rest long = rw (number_prefix order 8 prefix rest (omega arith), number_drop_prefix order 8 8 prefix rest (omega arith)) refl

  pub entries_of_prefix : (prefix rest : List ℕ) (ns : List ℕ) → length prefix ≡ 16 * length ns → feature_entries_in order (prefix ++ rest) ns ≡ feature_entries_in order prefix ns
  entries_of_prefix prefix rest [] long = refl
  entries_of_prefix prefix rest (n ∷ ns) long =
      let enough : 16 ≤ length prefix = omega arith in
      rw (section_of_prefix prefix rest enough, drop-append-le 16 prefix rest enough, entries_of_prefix (drop 16 prefix) rest ns (omega (arith, length-drop 16 prefix))) refl

  pub entries_push : (prefix p : List ℕ) (ns : List ℕ) (n : ℕ) → length prefix ≡ 16 * length ns → length p ≡ 16
      → feature_entries_in order (prefix ++ p) (ns ++ n ∷ []) ≡ feature_entries_in order prefix ns ++ (n, section_entry_of (number_in order) p) ∷ []
  entries_push [] p [] n long one = refl
  entries_push (x ∷ prefix) p [] n long one = absurd (omega arith)
  entries_push prefix p (m ∷ ns) n long one =
      let enough : 16 ≤ length prefix = omega arith in
      rw (section_of_prefix prefix p enough, drop-append-le 16 prefix p enough, entries_push (drop 16 prefix) p ns n (omega (arith, length-drop 16 prefix)) one) refl

  -- the entries of some features are parsed, and these features remain
  pub record SoFar (features : List ℕ) (old : State) (es : List FeatureEntry) (remaining_features : List ℕ) (new : State) : Type 0 where
    pub done : List ℕ
    pub split : features ≡ done ++ remaining_features
    pub table_read : TableRead order done old es new

  pub table_none : (features remaining_features : List ℕ) (a : State) (items : List (Feature × PerfFileSection)) → items ≡ [] → remaining_features ≡ features → SoFar features a (feature_entries_of items) remaining_features a
  table_none features remaining_features a items none is = record { done = []; split = sym is; table_read = record { bytes = []; exact_len = refl; consumes = consumed_none a; matches = ap feature_entries_of none } }

  pub table_more : (features remaining_features later : List ℕ) (a b c : State) (items new : List (Feature × PerfFileSection)) (f : Feature) (s : PerfFileSection) → SoFar features a (feature_entries_of items) remaining_features b
      → remaining_features ≡ f.0 ∷ later → SectionEntryParsed (number_in order) b s c → new ≡ items ++ (f, s) ∷ [] → SoFar features a (feature_entries_of new) later c
  table_more features remaining_features later a b c items new f s so next one grown = record {
    done = so.done ++ f.0 ∷ [];
    split = so.split ∙ ap (λ l. so.done ++ l) next ∙ sym (append_assoc so.done (f.0 ∷ []) later);
    table_read = record {
      bytes = so.table_read.bytes ++ one.bytes;
      exact_len = let long = so.table_read.exact_len in let more = one.exact_len in omega (arith, length-append so.table_read.bytes one.bytes, length-append so.done (f.0 ∷ []), long, more);
      consumes = consumed_more a b c so.table_read.bytes one.bytes so.table_read.consumes one.consumes;
      matches = ap feature_entries_of grown ∙ map_push (λ e. (e.0.0, e.1)) items (f, s)
          ∙ ap (λ l. l ++ (f.0, s) ∷ []) so.table_read.matches ∙ ap (λ t. feature_entries_in order so.table_read.bytes so.done ++ (f.0, t) ∷ []) one.matches
          ∙ sym (entries_push so.table_read.bytes one.bytes so.done f.0 so.table_read.exact_len one.exact_len);
    };
  }

  pub table_truncated : (features remaining_features later : List ℕ) (a b c : State) (es : List FeatureEntry) (n : ℕ) (e : IoErrorValue) → SoFar features a es remaining_features b → remaining_features ≡ n ∷ later → ReadExactError b 16 e c
      → TableReadError (16 * length features) a (IoError e) c
  table_truncated features remaining_features later a b c es n e so next truncated =
      let whole : length features ≡ length so.done + (1 + length later) = omega (arith, ap length (so.split ∙ ap (λ l. so.done ++ l) next), length-append so.done (n ∷ later)) in
      let long = so.table_read.exact_len in
      let less = truncated.too_few in record {
        bytes = so.table_read.bytes ++ truncated.consumed_bytes;
        consumes = consumed_more a b c so.table_read.bytes truncated.consumed_bytes so.table_read.consumes truncated.consumes;
        cause = λ _. (
          omega (arith, length-append so.table_read.bytes truncated.consumed_bytes, long, less, whole),
          elim truncated.cause [
            | inl eof ↦ inl (eof.0, consumed_none_later a b c so.table_read.bytes so.table_read.consumes eof.1)
            | inr failed ↦ inr (tt, failed_later a b c so.table_read.bytes so.table_read.consumes failed)
          ],
        );
      }

  pub table_full : (features remaining_features : List ℕ) (count : ℕ) (a b c : State) (es : List FeatureEntry) (s : PerfFileSection) → SoFar features a es remaining_features b → SectionEntryParsed (number_in order) b s c → TableReadError count a OfMemory c
  table_full features remaining_features count a b c es s so one = record {
    bytes = so.table_read.bytes ++ one.bytes;
    consumes = consumed_more a b c so.table_read.bytes one.bytes so.table_read.consumes one.consumes;
    cause = λ other. absurd (other refl);
  }

-- ---- the bytes

-- the bytes of these entries' sections are read
pub record DataSoFar {S : Type 0} (es : List FeatureEntry) (old : State) (m : IndexMap Feature (Vec ℕ Global) S) (new : State) : Type 0 where
  pub seek : AfterSeek old new
  pub seen_here : IfSome (all_bytes_of old.position) (λ all. All (λ e. HoldsSection all e.1) es × ((n : ℕ) → feature_data_of m n ≡ feature_data_by all es n))

-- the bytes of one more feature
pub data_push : (all : List ℕ) (es : List FeatureEntry) (k : ℕ) (s : PerfFileSection) (n : ℕ) → feature_data_by all (es ++ (k, s) ∷ []) n ≡ cond (nat_eq k n) (Some (section_bytes all s)) (feature_data_by all es n)
data_push all es k s n =
    ap (λ l. update_all nat_eq (λ _. None) l n) (map_push (λ e. (e.0, section_bytes all e.1)) es (k, s))
    ∙ ap (λ f. f n) (fold_push (λ g p. update nat_eq g p.0 (Some p.1)) (λ _. None) (feature_bytes_by all es) (k, section_bytes all s))

module _ {S : Type 0} (a b c : State) (m new : IndexMap Feature (Vec ℕ Global) S) (table : List (Feature × PerfFileSection)) (i : ℕ) (f : Feature) (s : PerfFileSection) where
  -- one more section is read
  pub data_more : (v : Vec ℕ Global) → DataSoFar (feature_entries_of (take i table)) a m b → take (i + 1) table ≡ take i table ++ (f, s) ∷ [] → ReadsSectionBytes s b (Ok v) c
      → ((n : ℕ) → feature_data_of new n ≡ cond (nat_eq f.0 n) (Some v.items) (feature_data_of m n)) → DataSoFar (feature_entries_of (take (i + 1) table)) a new c
  data_more v so grown one updates =
      let all_entries : feature_entries_of (take (i + 1) table) ≡ feature_entries_of (take i table) ++ (f.0, s) ∷ [] = ap feature_entries_of grown ∙ map_push (λ e. (e.0.0, e.1)) (take i table) (f, s) in
      subst (λ es. DataSoFar es a new c) (sym all_entries) (record {
        seek = after_seek_more a b c so.seek one.0;
        seen_here = if_both (all_bytes_of a.position) (λ all. All (λ e. HoldsSection all e.1) (feature_entries_of (take i table)) × ((n : ℕ) → feature_data_of m n ≡ feature_data_by all (feature_entries_of (take i table)) n)) (λ all. HoldsSection all s × (v.items ≡ section_bytes all s))
            (λ all. All (λ e. HoldsSection all e.1) (feature_entries_of (take i table) ++ (f.0, s) ∷ []) × ((n : ℕ) → feature_data_of new n ≡ feature_data_by all (feature_entries_of (take i table) ++ (f.0, s) ∷ []) n))
            (λ all complete here. (
              All-push (λ e. HoldsSection all e.1) (feature_entries_of (take i table)) (f.0, s) complete.0 here.0,
              λ n. updates n
                  ∙ elim (nat_eq f.0 n) as (λ t. cond t (Some v.items) (feature_data_of m n) ≡ cond t (Some (section_bytes all s)) (feature_data_by all (feature_entries_of (take i table)) n)) [ true ↦ ap (λ l. Some l) here.1 | false ↦ complete.1 n ]
                  ∙ sym (data_push all (feature_entries_of (take i table)) f.0 s n),
            ))
            so.seen_here (is_visible_before a b (λ all. HoldsSection all s × (v.items ≡ section_bytes all s)) so.seek one.1);
      })

  -- reading the next section fails
  pub data_error : (e : Error) (remaining_from : List (Feature × PerfFileSection)) → DataSoFar (feature_entries_of (take i table)) a m b → table ≡ take i table ++ (f, s) ∷ remaining_from → ReadsSectionBytes s b (Err e) c
      → ReadsFeatureData {S = S} (feature_entries_of table) a (Err e) c
  data_error e remaining_from so split one = (
    after_seek_more a b c so.seek one.0,
    λ other. elim (one.1 other) [
      | inl is_missing ↦ inl (
        is_missing.0,
        if_both (all_bytes_of a.position) (λ all. All (λ e'. HoldsSection all e'.1) (feature_entries_of (take i table)) × ((n : ℕ) → feature_data_of m n ≡ feature_data_by all (feature_entries_of (take i table)) n)) (λ all. SectionTruncated all s) (λ all. FirstTruncatedSection all (feature_entries_of table))
            (λ all complete here. record {
              before = feature_entries_of (take i table);
              entry = (f.0, s);
              later = feature_entries_of remaining_from;
              matches = ap feature_entries_of split ∙ map-append (λ e'. (e'.0.0, e'.1)) (take i table) ((f, s) ∷ remaining_from);
              complete_before = complete.0;
              is_truncated_here = here;
            })
            so.seen_here (is_visible_before a b (λ all. SectionTruncated all s) so.seek is_missing.1),
      )
      | inr source_error ↦ inr (earlier_source_error a b c e so.seek source_error)
    ],
  )

-- ---- the whole table

-- the parsed table is the table at the offset
table_there : (order : Endianness) (at : ℕ) (features : List ℕ) (a b c : State) (es : List FeatureEntry) → b.position ≡ at_offset at a.position → AfterSeek a b → TableRead order features b es c
    → IfSome (all_bytes_of a.position) (λ all. HoldsFeatureTable order all at features × (es ≡ feature_table_of order all at features))
table_there order at features a b c es seek_succeeded seek table_read = remaining_there a.position b.position b.bytes at (λ all. HoldsFeatureTable order all at features × (es ≡ feature_table_of order all at features)) seek_succeeded seek.from_position (λ all is.
    let truncated = prefix_there c.bytes (drop at all) table_read.bytes (sym is ∙ table_read.consumes.bytes) in
    let long = table_read.exact_len in (
      omega (arith, ap length truncated.1, length-append table_read.bytes truncated.0, long),
      table_read.matches ∙ sym (ap (λ l. feature_entries_in order l features) truncated.1 ∙ entries_of_prefix order table_read.bytes truncated.0 features table_read.exact_len),
    ))

-- reading the table fails
pub table_error : (S : Type 0) (order : Endianness) (at : ℕ) (features : List ℕ) (a b c : State) (e : Error) → b.position ≡ at_offset at a.position → AfterSeek a b → TableReadError (16 * length features) b e c
    → ReadsFeatures {S = S} order at features a (Err e) c
table_error S order at features a b c e seek_succeeded seek stopped = (
  after_seek_more a b c seek (consumed-after_seek b c stopped.bytes seek.from_position stopped.consumes),
  λ other. let reason = stopped.cause other in elim reason.1 [
    | inl (eof, none) ↦ elim (none_or_paused b c none) [
      | inl all ↦ inl (
        eof,
        remaining_there a.position b.position b.bytes at (λ all'. SectionsTruncated order all' at features) seek_succeeded seek.from_position (λ all' is.
            let same : Some (drop at all') ≡ Some stopped.bytes = sym is ∙ all_read b c stopped.bytes stopped.consumes all in
            let fewer : length (drop at all') ≡ length stopped.bytes = cc in
            inl (omega (arith, fewer, reason.0))),
      )
      | inr paused ↦ inr (inr (eof, paused_after_seek a b c seek paused))
    ]
    | inr (is, failed) ↦ inr (inl (is, failed_after_seek a b c seek failed))
  ],
)

-- the sections of the table are read, or reading them fails
pub sections_read : {S : Type 0} (order : Endianness) (at : ℕ) (features : List ℕ) (a b c d : State) (es : List FeatureEntry) (r : Result (IndexMap Feature (Vec ℕ Global) S) Error) → b.position ≡ at_offset at a.position → AfterSeek a b
    → TableRead order features b es c → ReadsFeatureData es c r d → ReadsFeatures order at features a r d
sections_read order at features a b c d es (Ok m) seek_succeeded seek table_read reads =
    let seek_c = after_seek_more a b c seek (consumed-after_seek b c table_read.bytes seek.from_position table_read.consumes) in (
      after_seek_more a c d seek_c reads.0,
      if_both (all_bytes_of a.position) (λ all. HoldsFeatureTable order all at features × (es ≡ feature_table_of order all at features)) (λ all. All (λ e. HoldsSection all e.1) es × ((n : ℕ) → feature_data_of m n ≡ feature_data_by all es n))
          (λ all. HoldsAllSections order all at features × ((n : ℕ) → feature_data_of m n ≡ feature_data_by all (feature_table_of order all at features) n))
          (λ all there complete. (
            (there.0, subst (λ l. All (λ e. HoldsSection all e.1) l) there.1 complete.0),
            λ n. complete.1 n ∙ ap (λ l. feature_data_by all l n) there.1,
          ))
          (table_there order at features a b c es seek_succeeded seek table_read) (is_visible_before a c (λ all. All (λ e. HoldsSection all e.1) es × ((n : ℕ) → feature_data_of m n ≡ feature_data_by all es n)) seek_c reads.1),
    )
sections_read order at features a b c d es (Err e) seek_succeeded seek table_read reads =
    let seek_c = after_seek_more a b c seek (consumed-after_seek b c table_read.bytes seek.from_position table_read.consumes) in (
      after_seek_more a c d seek_c reads.0,
      λ other. elim (reads.1 other) [
        | inl is_missing ↦ inl (
          is_missing.0,
          if_both (all_bytes_of a.position) (λ all. HoldsFeatureTable order all at features × (es ≡ feature_table_of order all at features)) (λ all. FirstTruncatedSection all es) (λ all. SectionsTruncated order all at features)
              (λ all there one. inr (there.0, subst (FirstTruncatedSection all) there.1 one))
              (table_there order at features a b c es seek_succeeded seek table_read) (is_visible_before a c (λ all. FirstTruncatedSection all es) seek_c is_missing.1),
        )
        | inr source_error ↦ inr (earlier_source_error a c d e seek_c source_error)
      ],
    )

-- the effect of an insertion on the bytes of features
pub data_put : {S : Type 0} (m new : IndexMap Feature (Vec ℕ Global) S) (k : Feature) (v : Vec ℕ Global)
    → ((q : Feature) → get (λ f g. nat_eq f.0 g.0) new q ≡ cond (nat_eq k.0 q.0) (Some v) (get (λ f g. nat_eq f.0 g.0) m q))
    → (n : ℕ) → feature_data_of new n ≡ cond (nat_eq k.0 n) (Some v.items) (feature_data_of m n)
data_put m new k v puts n =
    ap (option_map (λ (w : Vec ℕ Global). w.items)) (puts (record { 0 = n }))
    ∙ elim (nat_eq k.0 n) as (λ t. option_map (λ (w : Vec ℕ Global). w.items) (cond t (Some v) (get (λ (f g : Feature). nat_eq f.0 g.0) m (record { 0 = n }))) ≡ cond t (Some v.items) (feature_data_of m n)) [ true ↦ refl | false ↦ refl ]

-- an insertion that fails leaves the bytes of features unchanged
pub data_unchanged : {S : Type 0} (m new : IndexMap Feature (Vec ℕ Global) S) → new.entries ≡ m.entries → (n : ℕ) → feature_data_of new n ≡ feature_data_of m n
data_unchanged m new same n = ap (λ (es : List (Feature × Vec ℕ Global)). option_map (λ (v : Vec ℕ Global). v.items) (lookup (λ f. nat_eq n f.0) es)) same
