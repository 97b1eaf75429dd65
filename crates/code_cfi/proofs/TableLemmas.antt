-- The FDE at an address, by two searches in the order of the first addresses.
use Rattle.std.proofs.Common.{◌≡◌, ℕ, ◌+◌, ◌-◌, ◌<◌, ◌≤◌, List, [], ◌∷◌, ◌++◌, length, get_or, refl, sym, ap, ◌∙◌, subst, arith, leb, ltb, true, false, Option, Some, None, inl, inr}
use Rattle.std.specs.List.Sorted.{IsPartitionPoint, IsNonDecreasingBy}
use Rattle.std.proofs.lemmas.Bool.{cases_lt, leb-true, ltb-true, le-leb, lt-ltb, true≢false}
use Rattle.std.proofs.lemmas.List.{get_or_default}
use Rattle.code_cfi.specs.Entries.{PieceAt}
use Rattle.code_cfi.specs.Tables.{Pieces, Reaches, IsNearest, IsCieIn, IsCieOf, CiesOf, NoCieIn, IsFdeIn, IsFdeOf, FdesOf, NoFdeIn}
use Rattle.code_cfi.specs.declared.entry.FrameSection.{FrameSection}
use Rattle.code_cfi.specs.declared.entry.CfiEntry.{CfiEntry}
use Rattle.code_cfi.specs.declared.cie.Cie.{Cie}
use Rattle.code_cfi.specs.declared.fde.Fde.{Fde}

pub pieces_push : (section : FrameSection) (size : ℕ) (bytes mid rest : List ℕ) (ps : List (Option CfiEntry)) (p : Option CfiEntry) → Pieces section size bytes ps mid → PieceAt section size mid p rest → Pieces section size bytes (ps ++ p ∷ []) rest
pieces_push section size bytes mid rest [] p before at = (rest, subst (λ bs. PieceAt section size bs p rest) before at, refl)
pieces_push section size bytes mid rest (q ∷ ps) p before at = (before.0, before.1, pieces_push section size before.0 mid rest ps p before.2 at)

pub cie_of_piece : (section : FrameSection) (bytes at rest : List ℕ) (p : Option CfiEntry) (c : Cie) → Reaches section bytes at → PieceAt section (length bytes) at p rest → IsCieIn p c → IsCieOf section bytes c
cie_of_piece section bytes at rest None c reached piece h = absurd h
cie_of_piece section bytes at rest (Some e) c reached piece h =
    record { entry = e; is_entry = record { at = at; rest = rest; reached = reached; entry_at = piece }; kind = h.0; cie_at = h.1 }

pub fde_of_piece : (section : FrameSection) (address : ℕ) (bytes at rest : List ℕ) (cies : List Cie) (p : Option CfiEntry) (f : Fde) → Reaches section bytes at → PieceAt section (length bytes) at p rest → IsFdeIn address cies p f → IsFdeOf section address bytes cies f
fde_of_piece section address bytes at rest cies None f reached piece h = absurd h
fde_of_piece section address bytes at rest cies (Some e) f reached piece h =
    record { entry = e; is_entry = record { at = at; rest = rest; reached = reached; entry_at = piece }; is_fde = h }

pub cies_skip : (ps : List (Option CfiEntry)) (p : Option CfiEntry) (cs : List Cie) → CiesOf ps cs → NoCieIn p → CiesOf (ps ++ p ∷ []) cs
cies_skip [] p cs h none = inl (none, h)
cies_skip (q ∷ ps) p cs (inl h) none = inl (h.0, cies_skip ps p cs h.1 none)
cies_skip (q ∷ ps) p cs (inr t) none = inr (t.0, t.1, t.2, t.3, cies_skip ps p t.1 t.4 none)

pub cies_push : (ps : List (Option CfiEntry)) (p : Option CfiEntry) (cs : List Cie) (c : Cie) → CiesOf ps cs → IsCieIn p c → CiesOf (ps ++ p ∷ []) (cs ++ c ∷ [])
cies_push [] p cs c h is = inr (c, [], ap (λ (ds : List Cie). ds ++ c ∷ []) h, is, refl)
cies_push (q ∷ ps) p cs c (inl h) is = inl (h.0, cies_push ps p cs c h.1 is)
cies_push (q ∷ ps) p cs c (inr t) is = inr (t.0, t.1 ++ c ∷ [], ap (λ (ds : List Cie). ds ++ c ∷ []) t.2, t.3, cies_push ps p t.1 c t.4 is)

pub fdes_skip : (address : ℕ) (cies : List Cie) (ps : List (Option CfiEntry)) (p : Option CfiEntry) (fs : List Fde) → FdesOf address cies ps fs → NoFdeIn address cies p → FdesOf address cies (ps ++ p ∷ []) fs
fdes_skip address cies [] p fs h none = inl (none, h)
fdes_skip address cies (q ∷ ps) p fs (inl h) none = inl (h.0, fdes_skip address cies ps p fs h.1 none)
fdes_skip address cies (q ∷ ps) p fs (inr t) none = inr (t.0, t.1, t.2, t.3, fdes_skip address cies ps p t.1 t.4 none)

pub fdes_push : (address : ℕ) (cies : List Cie) (ps : List (Option CfiEntry)) (p : Option CfiEntry) (fs : List Fde) (f : Fde) → FdesOf address cies ps fs → IsFdeIn address cies p f → FdesOf address cies (ps ++ p ∷ []) (fs ++ f ∷ [])
fdes_push address cies [] p fs f h is = inr (f, [], ap (λ (gs : List Fde). gs ++ f ∷ []) h, is, refl)
fdes_push address cies (q ∷ ps) p fs f (inl h) is = inl (h.0, fdes_push address cies ps p fs f h.1 is)
fdes_push address cies (q ∷ ps) p fs f (inr t) is = inr (t.0, t.1 ++ f ∷ [], ap (λ (gs : List Fde). gs ++ f ∷ []) t.2, t.3, fdes_push address cies ps p t.1 f t.4 is)

-- an element that fails the first test and one that passes it
not_low : (n x : ℕ) → leb n x ≡ false → n ≤ x → ⊥
not_low n x h low = true≢false (sym (le-leb n x low) ∙ h)

not_less : (n x : ℕ) → ltb n x ≡ false → n < x → ⊥
not_less n x h less = true≢false (sym (lt-ltb n x less) ∙ h)

module _ (fs : List Fde) (x above index : ℕ) (f g : Fde) (up : IsNonDecreasingBy (λ (h : Fde). h.start) fs)
    (low : IsPartitionPoint (λ (h : Fde). leb h.start x ≡ true) (λ (h : Fde). leb h.start x ≡ false) fs above) where
  -- an element up to the address is among the first
  pub among_first : (k : ℕ) (d : Fde) → k < length fs → (get_or fs k d).start ≤ x → k < above
  among_first k d within small = elim (cases_lt k above) [
    | inl h ↦ h
    | inr h ↦ absurd (not_low (get_or fs k d).start x (low.1 k d h within) small)
  ]

  module _ (same : IsPartitionPoint (λ (h : Fde). ltb h.start f.start ≡ true) (λ (h : Fde). ltb h.start f.start ≡ false) fs index)
      (some : 0 < above) (bound : above ≤ length fs) (f_is : f ≡ get_or fs (above - 1) f) where
    pub last_start : (d : Fde) → (get_or fs (above - 1) d).start ≡ f.start
    last_start d = let lt : above - 1 < length fs = omega (arith, some, bound) in
        ap (λ (h : Fde). h.start) (get_or_default fs (above - 1) d f lt ∙ sym f_is)

    pub start_low : f.start ≤ x
    start_low =
        let lt : above - 1 < above = omega (arith, some) in
        let small = leb-true (get_or fs (above - 1) f).start x (low.0 (above - 1) f (omega arith) lt) in
        let e = last_start f in
        omega (arith, small, e)

    pub index_before : index ≤ above - 1
    index_before = elim (cases_lt (above - 1) index) [
      | inl h ↦ (let less = ltb-true (get_or fs (above - 1) f).start f.start (same.0 (above - 1) f (omega arith) h) in
          let e = last_start f in
          absurd (omega (arith, less, e)))
      | inr h ↦ h
    ]

    pub index_within : index < length fs
    index_within = let h = index_before in omega (arith, h, some, bound)

    pub nearest_start : g ≡ get_or fs index g → g.start ≡ f.start
    nearest_start g_is =
        let within = index_within in
        let lt : above - 1 < length fs = omega (arith, some, bound) in
        let risen = up index (above - 1) g index_before lt in
        let e = last_start g in
        let same_g : (get_or fs index g).start ≡ g.start = ap (λ (h : Fde). h.start) (sym g_is) in
        let at_least : f.start ≤ (get_or fs index g).start = elim (cases_lt (get_or fs index g).start f.start) [
          | inl h ↦ absurd (not_less (get_or fs index g).start f.start (same.1 index g (omega arith) within) h)
          | inr h ↦ h
        ] in
        omega (arith, risen, e, same_g, at_least)

    pub nearest : g ≡ get_or fs index g → IsNearest fs x index g
    nearest g_is =
        let within = index_within in
        let lt : above - 1 < length fs = omega (arith, some, bound) in
        let start = nearest_start g_is in
        let small = start_low in
        record {
          within = within;
          fde_is = g_is;
          starts = omega (arith, start, small);
          greatest = λ k d k_within k_small.
              let first = among_first k d k_within k_small in
              let r = up k (above - 1) d (omega (arith, first)) lt in
              let l = last_start d in
              omega (arith, r, l, start);
          first = λ k k_within k_start. elim (cases_lt k index) [
            | inl h ↦ (let less = ltb-true (get_or fs k g).start f.start (same.0 k g (omega arith) h) in absurd (omega (arith, less, k_start, start)))
            | inr h ↦ h
          ];
        }

-- there is at most one nearest FDE
pub nearest_unique : (fs : List Fde) (x i j : ℕ) (f g : Fde) → IsNearest fs x i f → IsNearest fs x j g → f ≡ g
nearest_unique fs x i j f g a b =
    let fi : (get_or fs i g).start ≡ f.start = ap (λ (h : Fde). h.start) (get_or_default fs i g f a.within ∙ sym a.fde_is) in
    let gj : (get_or fs j f).start ≡ g.start = ap (λ (h : Fde). h.start) (get_or_default fs j f g b.within ∙ sym b.fde_is) in
    let fl = a.starts in
    let gl = b.starts in
    let up = b.greatest i g a.within (omega (arith, fi, fl)) in
    let down = a.greatest j f b.within (omega (arith, gj, gl)) in
    let same : f.start ≡ g.start = omega (arith, fi, gj, up, down) in
    let one = b.first i a.within (omega (arith, fi, same)) in
    let two = a.first j b.within (omega (arith, gj, same)) in
    let index : i ≡ j = omega (arith, one, two) in
    a.fde_is ∙ get_or_default fs i f g a.within ∙ ap (λ k. get_or fs k g) index ∙ sym b.fde_is

-- an FDE that starts after the one before it, and up to the address, which is before the one after it
pub nearest_between : (fs : List Fde) (x i : ℕ) (f : Fde) → IsNonDecreasingBy (λ (h : Fde). h.start) fs → i < length fs → f ≡ get_or fs i f → f.start ≤ x → (0 < i → (g : Fde) → (get_or fs (i - 1) g).start < f.start) → (i + 1 < length fs → (g : Fde) → x < (get_or fs (i + 1) g).start) → IsNearest fs x i f
nearest_between fs x i f up within is starts before after = record {
  within = within;
  fde_is = is;
  starts = starts;
  greatest = λ k d k_within k_small. elim (cases_lt i k) [
    | inl later ↦ (let next : i + 1 < length fs = omega (arith, later, k_within) in
        let r = up (i + 1) k d (omega (arith, later)) k_within in
        let s = after next d in
        absurd (omega (arith, r, s, k_small)))
    | inr earlier ↦ (let r = up k i d earlier within in
        let e : (get_or fs i d).start ≡ f.start = ap (λ (h : Fde). h.start) (get_or_default fs i d f within ∙ sym is) in
        omega (arith, r, e))
  ];
  first = λ k k_within k_start. elim (cases_lt k i) [
    | inl less ↦ (let some : 0 < i = omega (arith, less) in
        let b = before some f in
        let r = up k (i - 1) f (omega (arith, less)) (omega (arith, within, some)) in
        absurd (omega (arith, b, r, k_start)))
    | inr h ↦ h
  ];
}
