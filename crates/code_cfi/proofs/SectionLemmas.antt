-- A section has one list of CIEs and one of FDEs.
use Rattle.std.proofs.Common.{◌≡◌, ℕ, ◌+◌, ◌-◌, ◌*◌, ◌%◌, ◌^◌, ◌<◌, ◌≤◌, List, [], ◌∷◌, length, take, drop, get_or, suc, zero, refl, sym, ap, ◌∙◌, subst, arith, Bool, true, false, Option, Some, None, inl, inr, length-drop, length-take-le}
use Rattle.std.specs.Prelude.{◌⊎◌, ◌==◌, All, if◌then◌else◌}
use Rattle.std.proofs.lemmas.Bool.{cases_lt}
use Rattle.std.proofs.lemmas.List.{get_or_default}
use Rattle.std.proofs.lemmas.List.Elements.{All-cons}
use Rattle.std.proofs.lemmas.List.Sorted.{length_permutation}
use Rattle.code_cfi.specs.Numbers.{FixedAt}
use Rattle.code_cfi.specs.Pointers.{PointerAt, EncodedAt}
use Rattle.code_cfi.specs.Entries.{LengthAt, id_size, cie_id, cie_offset, EntryAt, AfterZero, ZeroAt, PieceAt, NoPiece}
use Rattle.code_cfi.specs.Cies.{VersionAt, CieAt}
use Rattle.code_cfi.specs.Fdes.{DataAt, FdeAt, IsFde}
use Rattle.code_cfi.specs.Tables.{Pieces, IsCieIn, CiesOf, CiesOfSection, IsFdeIn, FdesOf, IsNearest, SortedFdesOf}
use Rattle.code_cfi.specs.steps.Tables.{AreRising}
use Rattle.code_cfi.specs.Sections.{AreFew, FindsFdeOfSection, HasOneListOfCies, HasOneListOfFdes, HasOneFdeAt, FindsEachThatCovers}
use Rattle.code_cfi.specs.declared.entry.FrameSection.{FrameSection}
use Rattle.code_cfi.specs.declared.entry.FrameSection.TheVariants as sections
use Rattle.code_cfi.specs.declared.entry.CfiEntry.{CfiEntry}
use Rattle.code_cfi.specs.declared.cie.Cie.{Cie}
use Rattle.code_cfi.specs.declared.fde.Fde.{Fde}
use Rattle.code_cfi.proofs.UniqueNumbers.{fixed_same, encoded_same, pointer_same, block_same}
use Rattle.code_cfi.proofs.UniqueCies.{cie_same}
use Rattle.code_cfi.proofs.UniqueFdes.{index_same, offset_of_piece, some_same}
use Rattle.code_cfi.proofs.TableLemmas.{nearest_unique}
use Rattle.code_cfi.proofs.StableLemmas.{nearest_moves, stable_back}

-- lengths
length_same : (bytes : List ℕ) (a b : Bool) (m n : ℕ) (r s : List ℕ) → LengthAt bytes a m r → LengthAt bytes b n s → (a ≡ b) × (m ≡ n) × (r ≡ s)
length_same bytes false false m n r s p q = let e = fixed_same 4 bytes m n r s p.0 q.0 in (refl, e.0, e.1)
length_same bytes false true m n r s p q = absurd (p.1 (fixed_same 4 bytes m (2 ^ 32 - 1) r q.0 p.0 q.1).0)
length_same bytes true false m n r s p q = absurd (q.1 (fixed_same 4 bytes n (2 ^ 32 - 1) s p.0 q.0 p.1).0)
length_same bytes true true m n r s p q =
    let mids = (fixed_same 4 bytes (2 ^ 32 - 1) (2 ^ 32 - 1) p.0 q.0 p.1 q.1).1 in
    let e = fixed_same 8 q.0 m n r s (subst (λ (l : List ℕ). FixedAt 8 l m r) mids p.2) q.2 in
    (refl, e.0, e.1)

fixed_shorter : (size : ℕ) (bytes : List ℕ) (n : ℕ) (rest : List ℕ) → FixedAt size bytes n rest → size + length rest ≡ length bytes
fixed_shorter size bytes n rest at =
    let within = at.within in
    let sizes : length rest ≡ length bytes - size = ap (λ (l : List ℕ). length l) at.after ∙ length-drop size bytes in
    omega (arith, within, sizes)

length_shorter : (bytes : List ℕ) (w : Bool) (n : ℕ) (rest : List ℕ) → LengthAt bytes w n rest → length rest < length bytes
length_shorter bytes false n rest at = let h = fixed_shorter 4 bytes n rest at.0 in omega (arith, h)
length_shorter bytes true n rest at =
    let h = fixed_shorter 4 bytes (2 ^ 32 - 1) at.0 at.1 in
    let k = fixed_shorter 8 at.0 n rest at.2 in
    omega (arith, h, k)

-- entries: all but where the bytes lie in memory
record Alike (e d : CfiEntry) : Type 0 where
  offsets : e.offset ≡ d.offset
  cie_offsets : e.cie_offset ≡ d.cie_offset
  kinds : e.is_cie ≡ d.is_cie
  bodies : e.body.now ≡ d.body.now
  ends : e.end ≡ d.end

alike_back : (e d : CfiEntry) → Alike e d → Alike d e
alike_back e d a = record { offsets = sym a.offsets; cie_offsets = sym a.cie_offsets; kinds = sym a.kinds; bodies = sym a.bodies; ends = sym a.ends }

abbrev cie_offset_by : FrameSection → ℕ → Bool → List ℕ → ℕ → Option ℕ
cie_offset_by section size w mid id = (if id == cie_id section w then None else cie_offset section (size - length mid) id)

entry_same : (section : FrameSection) (size : ℕ) (bytes : List ℕ) (e d : CfiEntry) (r s : List ℕ) → EntryAt section size bytes e r → EntryAt section size bytes d s → Alike e d × (r ≡ s)
entry_same section size bytes e d r s p q =
    let lengths = length_same bytes p.is_64 q.is_64 p.len q.len p.mid q.mid p.length_at q.length_at in
    let one = subst (λ (l : List ℕ). FixedAt (id_size section p.is_64) (take p.len l) p.id e.body.now) lengths.2 p.id_at in
    let two = subst (λ n. FixedAt (id_size section p.is_64) (take n q.mid) p.id e.body.now) lengths.1 one in
    let three = subst (λ (w : Bool). FixedAt (id_size section w) (take q.len q.mid) p.id e.body.now) lengths.0 two in
    let ids = fixed_same (id_size section q.is_64) (take q.len q.mid) p.id q.id e.body.now d.body.now three q.id_at in
    let rests : r ≡ s = p.after ∙ ap (λ n. drop n p.mid) lengths.1 ∙ ap (λ (l : List ℕ). drop q.len l) lengths.2 ∙ sym q.after in
    let sizes = ap (λ (l : List ℕ). length l) rests in
    let starts = p.starts in
    let other_starts = q.starts in
    let ends = p.ends in
    let other_ends = q.ends in (
      record {
        offsets = omega (arith, starts, other_starts);
        cie_offsets = p.cie ∙ ap (λ k. cie_offset_by section size p.is_64 p.mid k) ids.0 ∙ ap (λ (w : Bool). cie_offset_by section size w p.mid q.id) lengths.0 ∙ ap (λ (l : List ℕ). cie_offset_by section size q.is_64 l q.id) lengths.2 ∙ sym q.cie;
        kinds = p.kind ∙ ap (λ k. k == cie_id section p.is_64) ids.0 ∙ ap (λ (w : Bool). q.id == cie_id section w) lengths.0 ∙ sym q.kind;
        bodies = ids.1;
        ends = omega (arith, ends, other_ends, sizes);
      },
      rests,
    )

-- pieces
abbrev PiecesAlike : Option CfiEntry → Option CfiEntry → Type 0
PiecesAlike None None = Unit {0}
PiecesAlike (Some e) (Some d) = Alike e d
PiecesAlike None (Some d) = ⊥
PiecesAlike (Some e) None = ⊥

after_same : (section : FrameSection) (m n r s : List ℕ) → m ≡ n → AfterZero section m r → AfterZero section n s → r ≡ s
after_same sections.EhFrame m n r s e p q = p ∙ sym q
after_same sections.DebugFrame m n r s e p q = p ∙ e ∙ sym q

after_shorter : (section : FrameSection) (bytes m r : List ℕ) → length m < length bytes → AfterZero section m r → length r < length bytes
after_shorter sections.EhFrame bytes m r less p = let h = ap (λ (l : List ℕ). length l) p in omega (arith, less, h)
after_shorter sections.DebugFrame bytes m r less p = let h = ap (λ (l : List ℕ). length l) p in omega (arith, less, h)

not_zero : (section : FrameSection) (size : ℕ) (bytes : List ℕ) (e : CfiEntry) (r s : List ℕ) → EntryAt section size bytes e r → ZeroAt section bytes s → ⊥
not_zero section size bytes e r s p q =
    let lengths = length_same bytes p.is_64 q.is_64 p.len 0 p.mid q.mid p.length_at q.length_at in
    let none = lengths.1 in
    let some = p.positive in
    omega (arith, none, some)

piece_same : (section : FrameSection) (size : ℕ) (bytes : List ℕ) (p q : Option CfiEntry) (r s : List ℕ) → PieceAt section size bytes p r → PieceAt section size bytes q s → PiecesAlike p q × (r ≡ s)
piece_same section size bytes None None r s a b =
    (tt, after_same section a.mid b.mid r s (length_same bytes a.is_64 b.is_64 0 0 a.mid b.mid a.length_at b.length_at).2 a.after b.after)
piece_same section size bytes None (Some d) r s a b = absurd (not_zero section size bytes d s r b a)
piece_same section size bytes (Some e) None r s a b = absurd (not_zero section size bytes e r s a b)
piece_same section size bytes (Some e) (Some d) r s a b = entry_same section size bytes e d r s a b

piece_shorter : (section : FrameSection) (size : ℕ) (bytes : List ℕ) (p : Option CfiEntry) (r : List ℕ) → PieceAt section size bytes p r → length r < length bytes
piece_shorter section size bytes None r a = after_shorter section bytes a.mid r (length_shorter bytes a.is_64 0 a.mid a.length_at) a.after
piece_shorter section size bytes (Some e) r a =
    let less = length_shorter bytes a.is_64 a.len a.mid a.length_at in
    let sizes : length r ≡ length a.mid - a.len = ap (λ (l : List ℕ). length l) a.after ∙ length-drop a.len a.mid in
    omega (arith, less, sizes)

id_least : (section : FrameSection) (w : Bool) → 4 ≤ id_size section w
id_least sections.EhFrame w = omega arith
id_least sections.DebugFrame false = omega arith
id_least sections.DebugFrame true = omega arith

length_least : (bytes : List ℕ) (w : Bool) (n : ℕ) (rest : List ℕ) → LengthAt bytes w n rest → length rest + 4 ≤ length bytes
length_least bytes false n rest at = let h = fixed_shorter 4 bytes n rest at.0 in omega (arith, h)
length_least bytes true n rest at =
    let h = fixed_shorter 4 bytes (2 ^ 32 - 1) at.0 at.1 in
    let k = fixed_shorter 8 at.0 n rest at.2 in
    omega (arith, h, k)

entry_size : (section : FrameSection) (size : ℕ) (bytes : List ℕ) (e : CfiEntry) (r : List ℕ) → EntryAt section size bytes e r → length r + 8 ≤ length bytes
entry_size section size bytes e r a =
    let less = length_least bytes a.is_64 a.len a.mid a.length_at in
    let sizes : length r ≡ length a.mid - a.len = ap (λ (l : List ℕ). length l) a.after ∙ length-drop a.len a.mid in
    let within = a.within in
    let taken : length (take a.len a.mid) ≡ a.len = length-take-le a.len a.mid within in
    let id = a.id_at.within in
    let least = id_least section a.is_64 in
    omega (arith, less, sizes, within, taken, id, least)

abbrev Ends : FrameSection → ℕ → List ℕ → Type 0
Ends section size rest = (rest ≡ []) ⊎ NoPiece section size rest

no_more : (section : FrameSection) (size : ℕ) (bytes rest : List ℕ) (p : Option CfiEntry) (r : List ℕ) → rest ≡ bytes → Ends section size rest → PieceAt section size bytes p r → ⊥
no_more section size bytes rest p r same (inl empty) at =
    let less = piece_shorter section size bytes p r at in
    let sizes = ap (λ (l : List ℕ). length l) (sym same ∙ empty) in
    omega (arith, less, sizes)
no_more section size bytes rest p r same (inr none) at = none p r (subst (λ (l : List ℕ). PieceAt section size l p r) (sym same) at)

-- what a piece is, one that is alike is too
cie_moves : (e d : CfiEntry) (c : Cie) → Alike e d → CieAt e c → CieAt d c
cie_moves e d c a at = record {
  version = at.version;
  string = at.string;
  after_sizes = at.after_sizes;
  after_code = at.after_code;
  after_data = at.after_data;
  after_register = at.after_register;
  rest = at.rest;
  version_at = subst (λ (l : List ℕ). VersionAt l at.version at.string at.after_sizes) a.bodies at.version_at;
  code_at = at.code_at;
  data_at = at.data_at;
  register_at = at.register_at;
  augmentation_at = at.augmentation_at;
  offset_is = at.offset_is ∙ a.offsets;
  starts = at.starts ∙ a.ends;
  ends = at.ends ∙ a.ends;
}

cie_in_moves : (p q : Option CfiEntry) (c : Cie) → PiecesAlike p q → IsCieIn p c → IsCieIn q c
cie_in_moves None q c a is = absurd is
cie_in_moves (Some e) None c a is = absurd a
cie_in_moves (Some e) (Some d) c a is = (sym a.kinds ∙ is.0, cie_moves e d c a is.1)

cie_in_same : (p q : Option CfiEntry) (c b : Cie) → PiecesAlike p q → IsCieIn p c → IsCieIn q b → c ≡ b
cie_in_same None q c b a is other = absurd is
cie_in_same (Some e) None c b a is other = absurd a
cie_in_same (Some e) (Some d) c b a is other = cie_same d c b (cie_moves e d c a is.1) other.1

pieces_back : (p q : Option CfiEntry) → PiecesAlike p q → PiecesAlike q p
pieces_back None None a = tt
pieces_back None (Some d) a = absurd a
pieces_back (Some e) None a = absurd a
pieces_back (Some e) (Some d) a = alike_back e d a

module _ (section : FrameSection) (size : ℕ) where
  cies_same : (bytes : List ℕ) (ps qs : List (Option CfiEntry)) (r s : List ℕ) (cs ds : List Cie) → Pieces section size bytes ps r → Pieces section size bytes qs s → Ends section size r → Ends section size s → CiesOf ps cs → CiesOf qs ds → cs ≡ ds
  cies_same bytes [] [] r s cs ds a b er es h k = h ∙ sym k
  cies_same bytes [] (q ∷ qs) r s cs ds a b er es h k = absurd (no_more section size bytes r q b.0 a er b.1)
  cies_same bytes (p ∷ ps) [] r s cs ds a b er es h k = absurd (no_more section size bytes s p a.0 b es a.1)
  cies_same bytes (p ∷ ps) (q ∷ qs) r s cs ds a b er es (inl x) (inl y) =
      let same = piece_same section size bytes p q a.0 b.0 a.1 b.1 in
      cies_same b.0 ps qs r s cs ds (subst (λ (l : List ℕ). Pieces section size l ps r) same.1 a.2) b.2 er es x.1 y.1
  cies_same bytes (p ∷ ps) (q ∷ qs) r s cs ds a b er es (inl x) (inr y) =
      let same = piece_same section size bytes p q a.0 b.0 a.1 b.1 in
      absurd (x.0 y.0 (cie_in_moves q p y.0 (pieces_back p q same.0) y.3))
  cies_same bytes (p ∷ ps) (q ∷ qs) r s cs ds a b er es (inr x) (inl y) =
      let same = piece_same section size bytes p q a.0 b.0 a.1 b.1 in
      absurd (y.0 x.0 (cie_in_moves p q x.0 same.0 x.3))
  cies_same bytes (p ∷ ps) (q ∷ qs) r s cs ds a b er es (inr x) (inr y) =
      let same = piece_same section size bytes p q a.0 b.0 a.1 b.1 in
      let heads = cie_in_same p q x.0 y.0 same.0 x.3 y.3 in
      let tails = cies_same b.0 ps qs r s x.1 y.1 (subst (λ (l : List ℕ). Pieces section size l ps r) same.1 a.2) b.2 er es x.4 y.4 in
      x.2 ∙ ap (λ (c : Cie). c ∷ x.1) heads ∙ ap (λ (l : List Cie). y.0 ∷ l) tails ∙ sym y.2

pub cies_are_one : HasOneListOfCies
cies_are_one section bytes cies others a b = cies_same section (length bytes) bytes a.pieces b.pieces a.rest b.rest cies others a.are b.are a.ends b.ends a.cies_are b.cies_are

-- CIEs in the order of the section
rising_cons : (c : Cie) (cs : List Cie) → All (λ (b : Cie). c.offset < b.offset) cs → AreRising cs → AreRising (c ∷ cs)
rising_cons c cs above up zero zero d less within = absurd (omega (arith, less))
rising_cons c cs above up zero (suc j) d less within = above j d (omega (arith, within))
rising_cons c cs above up (suc i) zero d less within = absurd (omega (arith, less))
rising_cons c cs above up (suc i) (suc j) d less within = up i j d (omega (arith, less)) (omega (arith, within))

none_rise : (cs : List Cie) → cs ≡ [] → AreRising cs
none_rise cs none i j d less within = let sizes = ap (λ (l : List Cie). length l) none in absurd (omega (arith, within, sizes))

module _ (section : FrameSection) (size : ℕ) where
  -- the CIEs of pieces are at the bytes or after them
  abbrev AreFrom : List ℕ → List Cie → Type 0
  AreFrom bytes cs = All (λ (c : Cie). size ≤ c.offset + length bytes) cs

  cies_from : (bytes : List ℕ) (ps : List (Option CfiEntry)) (r : List ℕ) (cs : List Cie) → Pieces section size bytes ps r → CiesOf ps cs → AreFrom bytes cs × AreRising cs
  cies_from bytes [] r cs a h = ((λ k d within. let sizes = ap (λ (l : List Cie). length l) h in absurd (omega (arith, within, sizes))), none_rise cs h)
  cies_from bytes (p ∷ ps) r cs a (inl x) =
      let more = cies_from a.0 ps r cs a.2 x.1 in
      let less = piece_shorter section size bytes p a.0 a.1 in
      ((λ k d within. let h = more.0 k d within in omega (arith, h, less)), more.1)
  cies_from bytes (p ∷ ps) r cs a (inr x) =
      let more = cies_from a.0 ps r x.1 a.2 x.4 in
      let less = piece_shorter section size bytes p a.0 a.1 in
      let here = offset_of_piece section size bytes a.0 p x.0 a.1 x.3 in
      let later : AreFrom bytes x.1 = λ k d within. let h = more.0 k d within in omega (arith, h, less) in
      let above : All (λ (b : Cie). x.0.offset < b.offset) x.1 = λ k d within. let h = more.0 k d within in omega (arith, h, less, here) in (
        subst (AreFrom bytes) (sym x.2) (All-cons (λ (c : Cie). size ≤ c.offset + length bytes) x.0 x.1 (omega (arith, here)) later),
        subst AreRising (sym x.2) (rising_cons x.0 x.1 above more.1),
      )

cies_rise : (section : FrameSection) (bytes : List ℕ) (cies : List Cie) → CiesOfSection section bytes cies → AreRising cies
cies_rise section bytes cies a = (cies_from section (length bytes) bytes a.pieces a.rest cies a.are a.cies_are).1

-- FDEs
data_same : (has : Bool) (bytes r s : List ℕ) → DataAt has bytes r → DataAt has bytes s → r ≡ s
data_same false bytes r s p q = p ∙ sym q
data_same true bytes r s p q = (block_same bytes p.0 q.0 r s p.1 q.1).1

module _ (address : ℕ) where
  abbrev StartAt : Cie → List ℕ → ℕ → ℕ → List ℕ → Type 0
  StartAt c body end start rest = PointerAt c.augmentation.pointer_encoding ((address + (end - length body)) % 2 ^ 64) body start rest

  fde_moves : (e d : CfiEntry) (c : Cie) (f : Fde) → Alike e d → FdeAt address e c f → FdeAt address d c f
  fde_moves e d c f a at = record {
    after_start = at.after_start;
    after_size = at.after_size;
    rest = at.rest;
    start_at = subst (λ n. StartAt c d.body.now n f.start at.after_start) a.ends (subst (λ (l : List ℕ). StartAt c l e.end f.start at.after_start) a.bodies at.start_at);
    size_at = at.size_at;
    data_at = at.data_at;
    starts = at.starts ∙ a.ends;
    ends = at.ends ∙ a.ends;
  }

  fde_same : (e : CfiEntry) (c : Cie) (f g : Fde) → f.cie ≡ g.cie → FdeAt address e c f → FdeAt address e c g → f ≡ g
  fde_same e c f g cies p q =
      let one = pointer_same c.augmentation.pointer_encoding ((address + (e.end - length e.body.now)) % 2 ^ 64) e.body.now f.start g.start p.after_start q.after_start p.start_at q.start_at in
      let two = encoded_same c.augmentation.pointer_encoding q.after_start f.size g.size p.after_size q.after_size (subst (λ (l : List ℕ). EncodedAt c.augmentation.pointer_encoding l f.size p.after_size) one.1 p.size_at) q.size_at in
      let rests = data_same c.augmentation.has_data q.after_size p.rest q.rest (subst (λ (l : List ℕ). DataAt c.augmentation.has_data l p.rest) two.1 p.data_at) q.data_at in
      let sizes = ap (λ (l : List ℕ). length l) rests in
      let left = p.starts in
      let right = q.starts in
      let starts : f.start ≡ g.start = one.0 in
      let counts : f.size ≡ g.size = two.0 in
      let programs : f.instructions.start ≡ g.instructions.start = omega (arith, left, right, sizes) in
      let ends : f.instructions.end ≡ g.instructions.end = p.ends ∙ sym q.ends in
      λ i. record { start = starts i; size = counts i; cie = cies i; instructions = record { start = programs i; end = ends i } }

  module _ (cies : List Cie) (up : AreRising cies) where
    fde_in_moves : (p q : Option CfiEntry) (f : Fde) → PiecesAlike p q → IsFdeIn address cies p f → IsFdeIn address cies q f
    fde_in_moves None q f a is = absurd is
    fde_in_moves (Some e) None f a is = absurd a
    fde_in_moves (Some e) (Some d) f a is = record {
      cie = is.cie;
      within = is.within;
      cie_is = is.cie_is;
      offset_is = sym a.cie_offsets ∙ is.offset_is;
      fde_at = fde_moves e d is.cie f a is.fde_at;
      positive = is.positive;
    }

    of_entry_same : (e : CfiEntry) (f g : Fde) → IsFde address cies e f → IsFde address cies e g → f ≡ g
    of_entry_same e f g p q =
        let offsets : p.cie.offset ≡ q.cie.offset = some_same p.cie.offset q.cie.offset (sym p.offset_is ∙ q.offset_is) in
        let one : (get_or cies f.cie p.cie).offset ≡ p.cie.offset = ap (λ (c : Cie). c.offset) (sym p.cie_is) in
        let two : (get_or cies g.cie q.cie).offset ≡ q.cie.offset = ap (λ (c : Cie). c.offset) (sym q.cie_is) in
        let indexes = index_same cies up f.cie g.cie p.cie q.cie p.within q.within (one ∙ offsets ∙ sym two) in
        let the_cie : p.cie ≡ q.cie = p.cie_is ∙ ap (λ k. get_or cies k p.cie) indexes ∙ get_or_default cies g.cie p.cie q.cie q.within ∙ sym q.cie_is in
        fde_same e q.cie f g indexes (subst (λ (c : Cie). FdeAt address e c f) the_cie p.fde_at) q.fde_at

    fde_in_same : (p q : Option CfiEntry) (f g : Fde) → PiecesAlike p q → IsFdeIn address cies p f → IsFdeIn address cies q g → f ≡ g
    fde_in_same None q f g a is other = absurd is
    fde_in_same (Some e) None f g a is other = absurd a
    fde_in_same (Some e) (Some d) f g a is other = of_entry_same d f g (fde_in_moves (Some e) (Some d) f a is) other

    module _ (section : FrameSection) (size : ℕ) where
      fdes_same : (bytes : List ℕ) (ps qs : List (Option CfiEntry)) (r s : List ℕ) (fs gs : List Fde) → Pieces section size bytes ps r → Pieces section size bytes qs s → Ends section size r → Ends section size s
          → FdesOf address cies ps fs → FdesOf address cies qs gs → fs ≡ gs
      fdes_same bytes [] [] r s fs gs a b er es h k = h ∙ sym k
      fdes_same bytes [] (q ∷ qs) r s fs gs a b er es h k = absurd (no_more section size bytes r q b.0 a er b.1)
      fdes_same bytes (p ∷ ps) [] r s fs gs a b er es h k = absurd (no_more section size bytes s p a.0 b es a.1)
      fdes_same bytes (p ∷ ps) (q ∷ qs) r s fs gs a b er es (inl x) (inl y) =
          let same = piece_same section size bytes p q a.0 b.0 a.1 b.1 in
          fdes_same b.0 ps qs r s fs gs (subst (λ (l : List ℕ). Pieces section size l ps r) same.1 a.2) b.2 er es x.1 y.1
      fdes_same bytes (p ∷ ps) (q ∷ qs) r s fs gs a b er es (inl x) (inr y) =
          let same = piece_same section size bytes p q a.0 b.0 a.1 b.1 in
          absurd (x.0 y.0 (fde_in_moves q p y.0 (pieces_back p q same.0) y.3))
      fdes_same bytes (p ∷ ps) (q ∷ qs) r s fs gs a b er es (inr x) (inl y) =
          let same = piece_same section size bytes p q a.0 b.0 a.1 b.1 in
          absurd (y.0 x.0 (fde_in_moves p q x.0 same.0 x.3))
      fdes_same bytes (p ∷ ps) (q ∷ qs) r s fs gs a b er es (inr x) (inr y) =
          let same = piece_same section size bytes p q a.0 b.0 a.1 b.1 in
          let heads = fde_in_same p q x.0 y.0 same.0 x.3 y.3 in
          let tails = fdes_same b.0 ps qs r s x.1 y.1 (subst (λ (l : List ℕ). Pieces section size l ps r) same.1 a.2) b.2 er es x.4 y.4 in
          x.2 ∙ ap (λ (f : Fde). f ∷ x.1) heads ∙ ap (λ (l : List Fde). y.0 ∷ l) tails ∙ sym y.2

pub fdes_are_one : HasOneListOfFdes
fdes_are_one section address bytes cies others fs gs a b =
    let cs = cies_are_one section bytes others cies b.cies_are a.cies_are in
    let own = a.fdes_are in
    let other = b.fdes_are in
    let moved = subst (λ (l : List Cie). FdesOf address l other.pieces gs) cs other.fdes_are in
    fdes_same address cies (cies_rise section bytes cies a.cies_are) section (length bytes) bytes own.pieces other.pieces own.rest other.rest fs gs own.are other.are own.ends other.ends own.fdes_are moved

pub fde_at_is_one : HasOneFdeAt
fde_at_is_one section address bytes at f g p q =
    let lists = fdes_are_one section address bytes q.cies p.cies q.fdes p.fdes q.entries_are p.entries_are in
    nearest_unique p.fdes at p.index q.index f g p.nearest (subst (λ (l : List Fde). IsNearest l at q.index g) lists q.nearest)

-- how many there are
cie_size : (section : FrameSection) (size : ℕ) (bytes : List ℕ) (p : Option CfiEntry) (c : Cie) (r : List ℕ) → PieceAt section size bytes p r → IsCieIn p c → length r + 8 ≤ length bytes
cie_size section size bytes None c r a is = absurd is
cie_size section size bytes (Some e) c r a is = entry_size section size bytes e r a

fde_size : (address : ℕ) (cies : List Cie) (section : FrameSection) (size : ℕ) (bytes : List ℕ) (p : Option CfiEntry) (f : Fde) (r : List ℕ) → PieceAt section size bytes p r → IsFdeIn address cies p f → length r + 8 ≤ length bytes
fde_size address cies section size bytes None f r a is = absurd is
fde_size address cies section size bytes (Some e) f r a is = entry_size section size bytes e r a

cies_few : (section : FrameSection) (size : ℕ) (bytes : List ℕ) (ps : List (Option CfiEntry)) (r : List ℕ) (cs : List Cie) → Pieces section size bytes ps r → CiesOf ps cs → 8 * length cs + length r ≤ length bytes
cies_few section size bytes [] r cs a h =
    let none = ap (λ (l : List Cie). length l) h in
    let left = ap (λ (l : List ℕ). length l) a in
    omega (arith, none, left)
cies_few section size bytes (p ∷ ps) r cs a (inl x) =
    let more = cies_few section size a.0 ps r cs a.2 x.1 in
    let less = piece_shorter section size bytes p a.0 a.1 in
    omega (arith, more, less)
cies_few section size bytes (p ∷ ps) r cs a (inr x) =
    let more = cies_few section size a.0 ps r x.1 a.2 x.4 in
    let less = cie_size section size bytes p x.0 a.0 a.1 x.3 in
    let sizes = ap (λ (l : List Cie). length l) x.2 in
    omega (arith, more, less, sizes)

fdes_few : (address : ℕ) (cies : List Cie) (section : FrameSection) (size : ℕ) (bytes : List ℕ) (ps : List (Option CfiEntry)) (r : List ℕ) (fs : List Fde) → Pieces section size bytes ps r → FdesOf address cies ps fs → 8 * length fs + length r ≤ length bytes
fdes_few address cies section size bytes [] r fs a h =
    let none = ap (λ (l : List Fde). length l) h in
    let left = ap (λ (l : List ℕ). length l) a in
    omega (arith, none, left)
fdes_few address cies section size bytes (p ∷ ps) r fs a (inl x) =
    let more = fdes_few address cies section size a.0 ps r fs a.2 x.1 in
    let less = piece_shorter section size bytes p a.0 a.1 in
    omega (arith, more, less)
fdes_few address cies section size bytes (p ∷ ps) r fs a (inr x) =
    let more = fdes_few address cies section size a.0 ps r x.1 a.2 x.4 in
    let less = fde_size address cies section size bytes p x.0 a.0 a.1 x.3 in
    let sizes = ap (λ (l : List Fde). length l) x.2 in
    omega (arith, more, less, sizes)

pub are_few : (section : FrameSection) (address : ℕ) (bytes : List ℕ) (cies : List Cie) (fdes : List Fde) → CiesOfSection section bytes cies → SortedFdesOf section address bytes cies fdes → AreFew bytes cies fdes
are_few section address bytes cies fdes all sorted =
    let own = sorted.1 in
    let one = cies_few section (length bytes) bytes all.pieces all.rest cies all.are all.cies_are in
    let two = fdes_few address cies section (length bytes) bytes own.pieces own.rest sorted.0 own.are own.fdes_are in
    let sizes = length_permutation sorted.0 fdes sorted.4 in
    (omega (arith, one), omega (arith, two, sizes))

-- the FDE that is found in the order of the first addresses
pub finds_fde : FindsFdeOfSection
finds_fde section address bytes cies fdes at (Some index) all sorted found =
    let f = found.0 in
    let near = found.1 in
    let moved = nearest_moves fdes sorted.0 at index f (stable_back sorted.0 fdes sorted.3) near in (
      f,
      near.within,
      near.fde_is,
      record { cies = cies; fdes = sorted.0; index = moved.0; entries_are = record { cies_are = all; fdes_are = sorted.1 }; nearest = moved.1; describes = found.2 },
    )
finds_fde section address bytes cies fdes at None all sorted found = λ f other.
    let lists = fdes_are_one section address bytes other.cies cies other.fdes sorted.0 other.entries_are (record { cies_are = all; fdes_are = sorted.1 }) in
    let here = subst (λ (l : List Fde). IsNearest l at other.index f) lists other.nearest in
    let moved = nearest_moves sorted.0 fdes at other.index f sorted.3 here in
    let after = found moved.0 f moved.1 in
    let before = other.describes in
    omega (arith, after, before)

-- FDEs that are apart
pub finds_each : FindsEachThatCovers
finds_each section address bytes cies fdes entries apart at index d within = λ covers.
    let f = get_or fdes index d in
    let same : get_or fdes index f ≡ f = get_or_default fdes index f d within in
    let low = covers.0 in
    let high = covers.1 in
    let there : (k : ℕ) (h : Fde) → k < length fdes → (get_or fdes k h).start ≤ at → f.start ≤ (get_or fdes k h).start → index ≡ k = λ k h k_within k_low k_high.
    let one = ap (λ (g : Fde). g.start) (get_or_default fdes k d h k_within) in
    apart index k d within k_within (omega (arith, one, k_high), omega (arith, one, k_low, high)) in
    record {
      cies = cies;
      fdes = fdes;
      index = index;
      entries_are = entries;
      nearest = record {
        within = within;
        fde_is = sym same;
        starts = low;
        greatest = λ k h k_within k_low. elim (cases_lt f.start (get_or fdes k h).start) [
          | inl more ↦ (let e = there k h k_within k_low (omega (arith, more)) in
              let starts = ap (λ n. (get_or fdes n h).start) (sym e) in
              let own = ap (λ (g : Fde). g.start) (get_or_default fdes index h d within) in
              omega (arith, starts, own))
          | inr le ↦ le
        ];
        first = λ k k_within equal. let e = there k f k_within (omega (arith, equal, low)) (omega (arith, equal)) in omega (arith, e);
      };
      describes = high;
    }
