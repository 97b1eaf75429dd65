-- Where an entry is no FDE that can be used.
use Rattle.std.proofs.Common.{◌≡◌, ℕ, ◌+◌, ◌-◌, ◌%◌, ◌^◌, ◌<◌, ◌≤◌, List, length, get_or, subst, sym, ap, ◌∙◌, arith, Bool, true, false, Option, Some, None, inl, inr}
use Rattle.std.specs.Prelude.{◌≢◌, All}
use Rattle.std.proofs.Common.{[], ◌∷◌, ◌++◌, length-append}
use Rattle.std.proofs.lemmas.List.Elements.{All-push}
use Rattle.std.proofs.Math.Seq.{get_or-append_seam}
use Rattle.code_cfi.specs.Entries.{PieceAt}
use Rattle.code_cfi.specs.declared.entry.FrameSection.{FrameSection}
use Rattle.std.specs.Option.{unwrap_or}
use Rattle.std.specs.List.Sorted.{IsPartitionPoint, IsNonDecreasingBy}
use Rattle.std.proofs.lemmas.Bool.{cases_lt, true≢false, lt-ltb, ltb-true}
use Rattle.std.proofs.lemmas.List.{get_or_default, get_or_append_left}
use Rattle.std.proofs.Common.{ltb}
use Rattle.code_cfi.specs.steps.Numbers.{NoBlock}
use Rattle.code_cfi.specs.Pointers.{EncodedAt, PointerAt}
use Rattle.code_cfi.specs.steps.Pointers.{NoEncoded}
use Rattle.code_cfi.specs.Fdes.{DataAt, FdeAt, IsFde}
use Rattle.code_cfi.specs.steps.Fdes.{NoData, NoFde}
use Rattle.code_cfi.specs.Tables.{IsCieIn}
use Rattle.code_cfi.specs.steps.Tables.{AreRising}
use Rattle.code_cfi.specs.declared.entry.CfiEntry.{CfiEntry}
use Rattle.code_cfi.specs.declared.cie.Cie.{Cie}
use Rattle.code_cfi.specs.declared.fde.Fde.{Fde}
use Rattle.code_cfi.proofs.UniqueNumbers.{encoded_same, pointer_same}

pub no_data : (has : Bool) (bytes : List ℕ) → has ≡ true → NoBlock bytes → NoData has bytes
no_data true bytes is none rest at = none at.0 rest at.1
no_data false bytes is none rest at = true≢false (sym is)

module _ (address : ℕ) (e : CfiEntry) (c : Cie) where
  module _ (start : ℕ) (after_start : List ℕ)
      (start_at : PointerAt c.augmentation.pointer_encoding ((address + (e.end - length e.body.now)) % 2 ^ 64) e.body.now start after_start) where
    pub no_fde_size : NoEncoded c.augmentation.pointer_encoding after_start → NoFde address e c
    no_fde_size none f at =
        let same = pointer_same _ _ e.body.now f.start start at.after_start after_start at.start_at start_at in
        none f.size at.after_size (subst (λ (bs : List ℕ). EncodedAt c.augmentation.pointer_encoding bs f.size at.after_size) same.1 at.size_at)

    module _ (size : ℕ) (after_size : List ℕ) (size_at : EncodedAt c.augmentation.pointer_encoding after_start size after_size) where
      sizes : (f : Fde) (at : FdeAt address e c f) → (f.size ≡ size) × (at.after_size ≡ after_size)
      sizes f at =
          let same = pointer_same _ _ e.body.now f.start start at.after_start after_start at.start_at start_at in
          encoded_same c.augmentation.pointer_encoding after_start f.size size at.after_size after_size (subst (λ (bs : List ℕ). EncodedAt c.augmentation.pointer_encoding bs f.size at.after_size) same.1 at.size_at) size_at

      pub no_fde_data : NoData c.augmentation.has_data after_size → NoFde address e c
      no_fde_data none f at = none at.rest (subst (λ (bs : List ℕ). DataAt c.augmentation.has_data bs at.rest) (sizes f at).1 at.data_at)

  pub size_same : (f g : Fde) → FdeAt address e c f → FdeAt address e c g → f.size ≡ g.size
  size_same f g p q = (sizes g.start q.after_start q.start_at g.size q.after_size q.size_at f p).0

-- CIEs by their offsets
pub rising_by : (cies : List Cie) → AreRising cies → IsNonDecreasingBy (λ (c : Cie). c.offset) cies
rising_by cies up i j d le within = elim (cases_lt i j) [
  | inl less ↦ (let r = up i j d less within in omega (arith, r))
  | inr more ↦ (let same : i ≡ j = omega (arith, le, more) in let e = ap (λ k. (get_or cies k d).offset) same in omega (arith, e))
]

pub index_same : (cies : List Cie) → AreRising cies → (i j : ℕ) (c d : Cie) → i < length cies → j < length cies → (get_or cies i c).offset ≡ (get_or cies j d).offset → i ≡ j
index_same cies up i j c d wi wj e =
    let other = ap (λ (x : Cie). x.offset) (get_or_default cies j d c wj) in
    elim (cases_lt i j) [
      | inl less ↦ (let r = up i j c less wj in absurd (omega (arith, r, e, other)))
      | inr more ↦ elim (cases_lt j i) [
        | inl less ↦ (let r = up j i c less wi in absurd (omega (arith, r, e, other)))
        | inr le ↦ omega (arith, more, le)
      ]
    ]

pub none_at_offset : (cies : List Cie) (offset index : ℕ) → AreRising cies → IsPartitionPoint (λ (c : Cie). ltb c.offset offset ≡ true) (λ (c : Cie). ltb c.offset offset ≡ false) cies index
    → (index < length cies → (d : Cie) → (get_or cies index d).offset ≢ offset) → All (λ (c : Cie). c.offset ≢ offset) cies
none_at_offset cies offset index up point other k d within is = elim (cases_lt k index) [
  | inl low ↦ (let less = ltb-true (get_or cies k d).offset offset (point.0 k d (omega arith) low) in omega (arith, less, is))
  | inr high ↦ elim (cases_lt index k) [
    | inl later ↦ (let r = up index k d later within in
        let less : (get_or cies index d).offset < offset = omega (arith, r, is) in
        true≢false (sym (lt-ltb (get_or cies index d).offset offset less) ∙ point.1 index d (omega arith) (omega (arith, later, within))))
    | inr same ↦ (let e : index ≡ k = omega (arith, high, same) in
        other (omega (arith, e, within)) d (ap (λ i. (get_or cies i d).offset) e ∙ is))
  ]
]

pub some_same : {A : Type 0} (x y : A) → Some x ≡ Some y → x ≡ y
some_same {A} x y is = ap (λ (o : Option A). unwrap_or o x) is

pub no_fde_at : (address : ℕ) (cies : List Cie) (e : CfiEntry) (offset index : ℕ) (cie : Cie) → AreRising cies → e.cie_offset ≡ Some offset → index < length cies → cie ≡ get_or cies index cie → cie.offset ≡ offset
    → ((f : Fde) → FdeAt address e cie f → 0 < f.size → ⊥) → (f : Fde) → IsFde address cies e f → ⊥
no_fde_at address cies e offset index cie up is within cie_is at_offset none f at =
    let offsets : at.cie.offset ≡ offset = some_same at.cie.offset offset (sym at.offset_is ∙ is) in
    let one : (get_or cies f.cie at.cie).offset ≡ offset = ap (λ (c : Cie). c.offset) (sym at.cie_is) ∙ offsets in
    let two : (get_or cies index cie).offset ≡ offset = ap (λ (c : Cie). c.offset) (sym cie_is) ∙ at_offset in
    let indexes = index_same cies up f.cie index at.cie cie at.within within (one ∙ sym two) in
    let the_cie : at.cie ≡ cie = at.cie_is ∙ ap (λ k. get_or cies k at.cie) indexes ∙ get_or_default cies index at.cie cie within ∙ sym cie_is in
    none f (subst (λ (c : Cie). FdeAt address e c f) the_cie at.fde_at) at.positive

-- CIEs in the order of the section
pub offset_of_piece : (section : FrameSection) (size : ℕ) (at rest : List ℕ) (p : Option CfiEntry) (c : Cie) → PieceAt section size at p rest → IsCieIn p c → c.offset + length at ≡ size
offset_of_piece section size at rest None c piece is = absurd is
offset_of_piece section size at rest (Some e) c piece is =
    let starts = piece.starts in
    let offset = is.1.offset_is in
    omega (arith, starts, offset)

pub rising_push : (cies : List Cie) (c : Cie) → AreRising cies → All (λ (b : Cie). b.offset < c.offset) cies → AreRising (cies ++ c ∷ [])
rising_push cies c up below i j d less within =
    let size : length (cies ++ c ∷ []) ≡ length cies + 1 = length-append cies (c ∷ []) in
    let first : i < length cies = omega (arith, less, within, size) in
    let left = ap (λ (b : Cie). b.offset) (get_or_append_left cies (c ∷ []) d i first) in
    elim (cases_lt j (length cies)) [
      | inl low ↦ (let right = ap (λ (b : Cie). b.offset) (get_or_append_left cies (c ∷ []) d j low) in
          let r = up i j d less low in
          omega (arith, left, right, r))
      | inr high ↦ (let last : j ≡ length cies = omega (arith, high, within, size) in
          let right : (get_or (cies ++ c ∷ []) j d).offset ≡ c.offset = ap (λ k. (get_or (cies ++ c ∷ []) k d).offset) last ∙ ap (λ (b : Cie). b.offset) (get_or-append_seam cies c [] d) in
          let r = below i d first in
          omega (arith, left, right, r))
    ]

-- all CIEs that were read are before the bytes that are left
abbrev pub AreBefore : List Cie → ℕ → ℕ → Type 0
AreBefore cies left size = All (λ (c : Cie). c.offset + left < size) cies

pub before_less : (cies : List Cie) (left less size : ℕ) → less ≤ left → AreBefore cies left size → AreBefore cies less size
before_less cies left less size fewer before k d within = let r = before k d within in omega (arith, r, fewer)

pub before_push : (cies : List Cie) (c : Cie) (left less size : ℕ) → less < left → c.offset + left ≡ size → AreBefore cies left size → AreBefore (cies ++ c ∷ []) less size
before_push cies c left less size fewer at before =
    All-push (λ (b : Cie). b.offset + less < size) cies c (before_less cies left less size (omega (arith, fewer)) before) (omega (arith, fewer, at))

pub below_next : (cies : List Cie) (c : Cie) (left size : ℕ) → c.offset + left ≡ size → AreBefore cies left size → All (λ (b : Cie). b.offset < c.offset) cies
below_next cies c left size at before k d within = let r = before k d within in omega (arith, r, at)
