-- What records add to two lists, in the order of the records: samples and their frames, or entries.
use Rattle.std.proofs.Common.{◌≡◌, ℕ, ◌+◌, ◌≤◌, ◌++◌, List, [], ◌∷◌, length, refl, sym, ap, ◌∙◌, subst, arith, length-append, append_assoc, append-nil}
use Rattle.std.specs.Prelude.{map}
use Rattle.std.proofs.lemmas.List.{map-append, nil_from_length}
use Rattle.perfdata_sources.specs.declared.endian.Endianness.{Endianness}
use Rattle.linux_perf_data.specs.Attribute.{Attribute}
use Rattle.linux_perf_data.specs.Layout.{RecordView}

-- ---- lists

-- a prefix after the same elements
after_same : {T : Type 0} (s t own other p q more : List T) → s ≡ own ++ p → t ≡ other ++ q → own ≡ other → q ≡ p ++ more → t ≡ s ++ more
after_same s t own other p q more first second same longer = second ∙ ap (λ l. l ++ q) (sym same) ∙ ap (λ l. own ++ l) longer ∙ sym (append_assoc own p more) ∙ ap (λ l. l ++ more) (sym first)

none_first : {T : Type 0} (own later : List T) → [] ≡ own ++ later → (own ≡ []) × (later ≡ [])
none_first [] later e = (refl, sym e)
none_first (x ∷ xs) later e = absurd cc

-- the shorter one of two prefixes of a list is a prefix of the other
pub shorter_prefix : {T : Type 0} (a b x y : List T) → a ++ x ≡ b ++ y → length a ≤ length b → (z : List T) × (a ++ z ≡ b)
shorter_prefix [] b x y e fewer = (b, refl)
shorter_prefix (h ∷ hs) [] x y e fewer = absurd (omega (arith, fewer))
shorter_prefix (h ∷ hs) (k ∷ ks) x y e fewer =
    let same : h ≡ k = cc in
    let tails : hs ++ x ≡ ks ++ y = cc in
    let found = shorter_prefix hs ks x y tails (omega (arith, fewer)) in
    (found.0, ap (λ l. h ∷ l) found.1 ∙ ap (λ r. r ∷ ks) same)

-- ---- what a record adds

-- What records add, by a byte order, attributes, the offset of the first record, and the number of elements of the second list before.
-- A record adds the same each time, and to the second list only if it adds to the first. With more elements before, the elements of the
-- first list are shifted by their number.
pub record ItemKind (A B : Type 0) : Type 1 where
  pub Adds : Endianness → List Attribute → ℕ → ℕ → RecordView → List A → List B → Type 0
  pub unique : (order : Endianness) (attrs : List Attribute) (base used : ℕ) (h : RecordView) (s t : List A) (f g : List B) → Adds order attrs base used h s f → Adds order attrs base used h t g → (s ≡ t) × (f ≡ g)
  pub none : (order : Endianness) (attrs : List Attribute) (base used : ℕ) (h : RecordView) (f : List B) → Adds order attrs base used h [] f → f ≡ []
  pub shift : ℕ → A → A
  pub unshifted : (x : A) → shift 0 x ≡ x
  pub moves : (order : Endianness) (attrs : List Attribute) (base n used : ℕ) (h : RecordView) (s : List A) (f : List B) → Adds order attrs base used h s f → Adds order attrs base (n + used) h (map (shift n) s) f

module _ {A B : Type 0} (kind : ItemKind A B) where
  -- elements of two pages, as those of one
  abbrev pub joined : List A → List B → List A → List A
  joined s f t = s ++ map (kind.shift (length f)) t

  pub unshifted_all : (s : List A) → map (kind.shift 0) s ≡ s
  unshifted_all [] = refl
  unshifted_all (x ∷ xs) = λ i. kind.unshifted x i ∷ unshifted_all xs i

  module _ (order : Endianness) (attrs : List Attribute) (base : ℕ) where
    -- The first of some records adds these, and the others the rest.
    pub record AddsFirst (used : ℕ) (h : RecordView) (s : List A) (f : List B) (Rest : ℕ → List A → List B → Type 0) : Type 0 where
      pub own : List A
      pub own_seconds : List B
      pub adds : kind.Adds order attrs base used h own own_seconds
      pub later : List A
      pub later_seconds : List B
      pub rest : Rest (used + length own_seconds) later later_seconds
      pub firsts_are : s ≡ own ++ later
      pub seconds_are : f ≡ own_seconds ++ later_seconds

    -- what records add, after a number of elements of the second list
    abbrev pub ItemsFrom : ℕ → List RecordView → List A → List B → Type 0
    ItemsFrom used [] s f = (s ≡ []) × (f ≡ [])
    ItemsFrom used (h ∷ hs) s f = AddsFirst used h s f (λ n t g. ItemsFrom n hs t g)

    pub one_more_from : (used : ℕ) (records : List RecordView) (s : List A) (f : List B) (h : RecordView) (own : List A) (own_seconds : List B)
        → ItemsFrom used records s f → kind.Adds order attrs base (used + length f) h own own_seconds → ItemsFrom used (records ++ h ∷ []) (s ++ own) (f ++ own_seconds)
    one_more_from used [] s f h own own_seconds (no_firsts, no_seconds) adds =
        let same : used + length f ≡ used = omega (arith, ap length no_seconds) in
        record {
          own = own;
          own_seconds = own_seconds;
          adds = subst (λ n. kind.Adds order attrs base n h own own_seconds) same adds;
          later = [];
          later_seconds = [];
          rest = (refl, refl);
          firsts_are = ap (λ l. l ++ own) no_firsts ∙ sym (append-nil own);
          seconds_are = ap (λ l. l ++ own_seconds) no_seconds ∙ sym (append-nil own_seconds);
        }
    one_more_from used (k ∷ ks) s f h own own_seconds first adds =
        let counted : used + length f ≡ used + length first.own_seconds + length first.later_seconds = omega (arith, ap length first.seconds_are, length-append first.own_seconds first.later_seconds) in
        record {
          own = first.own;
          own_seconds = first.own_seconds;
          adds = first.adds;
          later = first.later ++ own;
          later_seconds = first.later_seconds ++ own_seconds;
          rest = one_more_from (used + length first.own_seconds) ks first.later first.later_seconds h own own_seconds first.rest (subst (λ n. kind.Adds order attrs base n h own own_seconds) counted adds);
          firsts_are = ap (λ l. l ++ own) first.firsts_are ∙ append_assoc first.own first.later own;
          seconds_are = ap (λ l. l ++ own_seconds) first.seconds_are ∙ append_assoc first.own_seconds first.later_seconds own_seconds;
        }

    -- the records of one list and then those of another
    pub items_of_both : (used : ℕ) (records later : List RecordView) (s t : List A) (f g : List B) → ItemsFrom used records s f → ItemsFrom (used + length f) later t g → ItemsFrom used (records ++ later) (s ++ t) (f ++ g)
    items_of_both used [] later s t f g (no_firsts, no_seconds) q =
        let same : used + length f ≡ used = omega (arith, ap length no_seconds) in
        subst (λ l. ItemsFrom used later (l ++ t) (f ++ g)) (sym no_firsts) (subst (λ l. ItemsFrom used later t (l ++ g)) (sym no_seconds) (subst (λ n. ItemsFrom n later t g) same q))
    items_of_both used (h ∷ hs) later s t f g p q =
        let counted : used + length f ≡ used + length p.own_seconds + length p.later_seconds = omega (arith, ap length p.seconds_are, length-append p.own_seconds p.later_seconds) in
        record {
          own = p.own;
          own_seconds = p.own_seconds;
          adds = p.adds;
          later = p.later ++ t;
          later_seconds = p.later_seconds ++ g;
          rest = items_of_both (used + length p.own_seconds) hs later p.later t p.later_seconds g p.rest (subst (λ n. ItemsFrom n later t g) counted q);
          firsts_are = ap (λ l. l ++ t) p.firsts_are ∙ append_assoc p.own p.later t;
          seconds_are = ap (λ l. l ++ g) p.seconds_are ∙ append_assoc p.own_seconds p.later_seconds g;
        }

    -- after more elements
    pub items_later : (n used : ℕ) (records : List RecordView) (s : List A) (f : List B) → ItemsFrom used records s f → ItemsFrom (n + used) records (map (kind.shift n) s) f
    items_later n used [] s f (no_firsts, no_seconds) = (ap (map (kind.shift n)) no_firsts, no_seconds)
    items_later n used (h ∷ hs) s f p =
        let counted : n + (used + length p.own_seconds) ≡ n + used + length p.own_seconds = omega arith in
        record {
          own = map (kind.shift n) p.own;
          own_seconds = p.own_seconds;
          adds = kind.moves order attrs base n used h p.own p.own_seconds p.adds;
          later = map (kind.shift n) p.later;
          later_seconds = p.later_seconds;
          rest = subst (λ k. ItemsFrom k hs (map (kind.shift n) p.later) p.later_seconds) counted (items_later n (used + length p.own_seconds) hs p.later p.later_seconds p.rest);
          firsts_are = ap (map (kind.shift n)) p.firsts_are ∙ map-append (kind.shift n) p.own p.later;
          seconds_are = p.seconds_are;
        }

    -- where there are no elements, there are none of the second list
    pub no_seconds_from : (used : ℕ) (records : List RecordView) (f : List B) → ItemsFrom used records [] f → f ≡ []
    no_seconds_from used [] f (no_firsts, no_seconds) = no_seconds
    no_seconds_from used (h ∷ hs) f first =
        let parts = none_first first.own first.later first.firsts_are in
        let none_here : first.own_seconds ≡ [] = kind.none order attrs base used h first.own_seconds (subst (λ l. kind.Adds order attrs base used h l first.own_seconds) parts.0 first.adds) in
        let rest = no_seconds_from (used + length first.own_seconds) hs first.later_seconds (subst (λ l. ItemsFrom (used + length first.own_seconds) hs l first.later_seconds) parts.1 first.rest) in
        first.seconds_are ∙ ap (λ l. l ++ first.later_seconds) none_here ∙ rest

    -- elements, and more of both lists
    pub record ArePrefixes (s : List A) (f : List B) (t : List A) (g : List B) : Type 0 where
      pub more : List A
      pub more_seconds : List B
      pub firsts_are : t ≡ s ++ more
      pub seconds_are : g ≡ f ++ more_seconds

    -- Of the same records, fewer elements are a prefix of more elements.
    pub prefixes : (used : ℕ) (a b x y : List RecordView) (s t : List A) (f g : List B) → a ++ x ≡ b ++ y → ItemsFrom used a s f → ItemsFrom used b t g → length s ≤ length t → ArePrefixes s f t g
    prefixes used [] b x y s t f g e (no_firsts, no_seconds) q fewer = record { more = t; more_seconds = g; firsts_are = ap (λ l. l ++ t) (sym no_firsts); seconds_are = ap (λ l. l ++ g) (sym no_seconds) }
    prefixes used (h ∷ hs) [] x y s t f g e p (no_firsts, no_seconds) fewer =
        let none : s ≡ [] = nil_from_length s (omega (arith, fewer, ap length no_firsts)) in
        let none_of_seconds : f ≡ [] = no_seconds_from used (h ∷ hs) f (subst (λ l. ItemsFrom used (h ∷ hs) l f) none p) in
        record { more = []; more_seconds = []; firsts_are = no_firsts ∙ ap (λ l. l ++ []) (sym none); seconds_are = no_seconds ∙ ap (λ l. l ++ []) (sym none_of_seconds) }
    prefixes used (h ∷ hs) (k ∷ ks) x y s t f g e p q fewer =
        let same : h ≡ k = cc in
        let tails : hs ++ x ≡ ks ++ y = cc in
        let unique = kind.unique order attrs base used k p.own q.own p.own_seconds q.own_seconds (subst (λ r. kind.Adds order attrs base used r p.own p.own_seconds) same p.adds) q.adds in
        let rest = subst (λ l. ItemsFrom (used + length l) ks q.later q.later_seconds) (sym unique.1) q.rest in
        let longer : length p.later ≤ length q.later = omega (arith, fewer, ap length p.firsts_are, ap length q.firsts_are, ap length unique.0, length-append p.own p.later, length-append q.own q.later) in
        let found = prefixes (used + length p.own_seconds) hs ks x y p.later q.later p.later_seconds q.later_seconds tails p.rest rest longer in
        record {
          more = found.more;
          more_seconds = found.more_seconds;
          firsts_are = after_same s t p.own q.own p.later q.later found.more p.firsts_are q.firsts_are unique.0 found.firsts_are;
          seconds_are = after_same f g p.own_seconds q.own_seconds p.later_seconds q.later_seconds found.more_seconds p.seconds_are q.seconds_are unique.1 found.seconds_are;
        }

    -- fewer records have no more elements
    pub fewer_items : (used : ℕ) (a b x : List RecordView) (s t : List A) (f g : List B) → a ++ x ≡ b → ItemsFrom used a s f → ItemsFrom used b t g → (length s ≤ length t) × (length f ≤ length g)
    fewer_items used [] b x s t f g e (no_firsts, no_seconds) q = (omega (arith, ap length no_firsts), omega (arith, ap length no_seconds))
    fewer_items used (h ∷ hs) [] x s t f g e p q = absurd cc
    fewer_items used (h ∷ hs) (k ∷ ks) x s t f g e p q =
        let same : h ≡ k = cc in
        let tails : hs ++ x ≡ ks = cc in
        let unique = kind.unique order attrs base used k p.own q.own p.own_seconds q.own_seconds (subst (λ r. kind.Adds order attrs base used r p.own p.own_seconds) same p.adds) q.adds in
        let rest = subst (λ l. ItemsFrom (used + length l) ks q.later q.later_seconds) (sym unique.1) q.rest in
        let fewer = fewer_items (used + length p.own_seconds) hs ks x p.later q.later p.later_seconds q.later_seconds tails p.rest rest in
        let less = fewer.0 in
        let less_seconds = fewer.1 in (
          omega (arith, less, ap length p.firsts_are, ap length q.firsts_are, ap length unique.0, length-append p.own p.later, length-append q.own q.later),
          omega (arith, less_seconds, ap length p.seconds_are, ap length q.seconds_are, ap length unique.1, length-append p.own_seconds p.later_seconds, length-append q.own_seconds q.later_seconds),
        )
