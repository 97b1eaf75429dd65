-- What holds of the entries of every kind.
use Rattle.std.proofs.Common.{◌≡◌, ◌⊎◌, ℕ, ◌+◌, ◌<◌, ◌≤◌, ◌++◌, Bool, not, List, [], ◌∷◌, length, refl, sym, ap, ◌∙◌, subst, arith, inl, inr, append-nil, append_assoc, length-append}
use Rattle.std.specs.Prelude.{◌==◌, map}
use Rattle.perfdata_sources.specs.declared.endian.Endianness.{Endianness}
use Rattle.linux_perf_data.specs.Attribute.{Attribute}
use Rattle.linux_perf_data.specs.Layout.{RecordView}
use Rattle.perfdata_arrays.proofs.RecordItems.{ItemKind, ItemsFrom, one_more_from}
use Rattle.perfdata_arrays.specs.Decoding.{AreEntriesOf, EntryKind, of_no_records, of_one_more}
use Rattle.perfdata_arrays.specs.declared.decoder.EntryCounts.{EntryCounts}

module _ {A B : Type 0} (kind : EntryKind A B) where
  -- A record adds the same each time, and frames only if it adds entries. With more frames before, its entries are after their number.
  -- What exceeds the arrays has one report.
  pub record KindLaws : Type 0 where
    pub unique : (wants : Bool) (order : Endianness) (attrs : List Attribute) (base used : ℕ) (h : RecordView) (s t : List A) (f g : List B) → kind.Adds wants order attrs base used h s f → kind.Adds wants order attrs base used h t g → (s ≡ t) × (f ≡ g)
    pub none : (wants : Bool) (order : Endianness) (attrs : List Attribute) (base used : ℕ) (h : RecordView) (f : List B) → kind.Adds wants order attrs base used h [] f → f ≡ []
    pub unshifted : (x : A) → kind.after_frames 0 x ≡ x
    pub moves : (wants : Bool) (order : Endianness) (attrs : List Attribute) (base n used : ℕ) (h : RecordView) (s : List A) (f : List B) → kind.Adds wants order attrs base used h s f → kind.Adds wants order attrs base (n + used) h (map (kind.after_frames n) s) f
    pub too_many : (capacity frames_capacity count used : ℕ) (s : List A) (f : List B) (needed : EntryCounts) → kind.Exceeds capacity frames_capacity count used s f needed → (capacity < count + length s) ⊎ (frames_capacity < used + length f)
    pub one_report : (capacity frames_capacity count used : ℕ) (s : List A) (f : List B) (a b : EntryCounts) → kind.Exceeds capacity frames_capacity count used s f a → kind.Exceeds capacity frames_capacity count used s f b → a ≡ b
    pub fits : (frames_capacity : ℕ) → kind.AlwaysFits frames_capacity → (order : Endianness) (attrs : List Attribute) (base capacity count used : ℕ) (h : RecordView) (s : List A) (f : List B) (needed : EntryCounts)
        → kind.Adds (not (frames_capacity == 0)) order attrs base used h s f → count < capacity → used ≤ frames_capacity → kind.Exceeds capacity frames_capacity count used s f needed → ⊥

  abbrev pub items : KindLaws → Bool → ItemKind A B
  items laws wants = record {
    Adds = kind.Adds wants;
    unique = laws.unique wants;
    none = laws.none wants;
    shift = kind.after_frames;
    unshifted = laws.unshifted;
    moves = laws.moves wants;
  }

pub counts_same : (a b : EntryCounts) → a.entries ≡ b.entries → a.frames ≡ b.frames → a ≡ b
counts_same a b entries frames = λ i. record { entries = entries i; frames = frames i }

-- ---- the entries of records

module _ {A B : Type 0} (kind : ItemKind A B) (order : Endianness) (attrs : List Attribute) where
  abbrev Are : ℕ → List RecordView → List A → List B → Type 0
  Are base = AreEntriesOf kind.Adds order (λ _. attrs) base

  pub items_of_entries : (base : ℕ) (records : List RecordView) (s : List A) (f : List B) → Are base records s f → ItemsFrom kind order attrs base 0 records s f
  items_of_entries base records s f of_no_records = (refl, refl)
  items_of_entries base records s f (of_one_more first entries frames h own own_frames are adds) =
      let start : length frames ≡ 0 + length frames = omega arith in
      one_more_from kind order attrs base 0 first entries frames h own own_frames (items_of_entries base first entries frames are) (subst (λ n. kind.Adds order attrs base n h own own_frames) start adds)

  -- after the entries of other records
  entries_after : (base : ℕ) (first later : List RecordView) (s t : List A) (f g : List B) → Are base first s f → ItemsFrom kind order attrs base (length f) later t g → Are base (first ++ later) (s ++ t) (f ++ g)
  entries_after base first [] s t f g are (no_entries, no_frames) =
      subst (λ l. Are base l (s ++ t) (f ++ g)) (sym (append-nil first))
      (subst (λ l. Are base first l (f ++ g)) (sym (append-nil s) ∙ ap (λ l. s ++ l) (sym no_entries)) (subst (Are base first s) (sym (append-nil f) ∙ ap (λ l. f ++ l) (sym no_frames)) are))
  entries_after base first (h ∷ hs) s t f g are p =
      let one : Are base (first ++ h ∷ []) (s ++ p.own) (f ++ p.own_seconds) = of_one_more first s f h p.own p.own_seconds are p.adds in
      let rest = subst (λ n. ItemsFrom kind order attrs base n hs p.later p.later_seconds) (sym (length-append f p.own_seconds)) p.rest in
      subst (λ l. Are base l (s ++ t) (f ++ g)) (append_assoc first (h ∷ []) hs)
      (subst (λ l. Are base ((first ++ h ∷ []) ++ hs) l (f ++ g)) (append_assoc s p.own p.later ∙ ap (λ l. s ++ l) (sym p.firsts_are))
      (subst (Are base ((first ++ h ∷ []) ++ hs) ((s ++ p.own) ++ p.later)) (append_assoc f p.own_seconds p.later_seconds ∙ ap (λ l. f ++ l) (sym p.seconds_are))
      (entries_after base (first ++ h ∷ []) hs (s ++ p.own) p.later (f ++ p.own_seconds) p.later_seconds one rest)))

  pub entries_of_items : (base : ℕ) (records : List RecordView) (s : List A) (f : List B) → ItemsFrom kind order attrs base 0 records s f → Are base records s f
  entries_of_items base records s f items = entries_after base [] records [] s [] f of_no_records items

  -- the offset of the first record matters only if there are records
  pub items_at_base : (first base : ℕ) (records : List RecordView) (s : List A) (f : List B) → (records ≡ []) ⊎ (first ≡ base) → ItemsFrom kind order attrs first 0 records s f → ItemsFrom kind order attrs base 0 records s f
  items_at_base first base records s f (inl none) items = subst (λ l. ItemsFrom kind order attrs base 0 l s f) (sym none) (subst (λ l. ItemsFrom kind order attrs first 0 l s f) none items)
  items_at_base first base records s f (inr same) items = subst (λ n. ItemsFrom kind order attrs n 0 records s f) same items
