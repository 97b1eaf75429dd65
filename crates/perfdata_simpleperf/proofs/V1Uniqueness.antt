-- Bytes begin with a file record of the older format in at most one way, or else have at most one kind of error.
use Rattle.std.proofs.Common.{◌≡◌, ℕ, ◌<◌, ◌⊎◌, inl, inr, List, [], ◌∷◌, ◌++◌, length, refl, sym, ap, ◌∙◌, subst, arith}
use Rattle.std.specs.Prelude.{◌≢◌, Result, Ok, Err, IfOk, IfErr, IsErrAnd, MatchResult}
use Rattle.std.specs.IoError.{error_kind}
use Rattle.std.specs.Str.{IsUtf8}
use Rattle.std.specs.declared.io.Error.{Error}
use Rattle.std.specs.declared.io.ErrorKind.{ErrorKind}
use Rattle.std.specs.declared.io.ErrorKind.TheVariants.{OutOfMemory}
use Rattle.std.proofs.Math.Seq.{drop-append_seam}
use Rattle.std.proofs.lemmas.List.Elements.{All-drop, All-head, All-tail}
use Rattle.perfdata_sources.specs.Raw.{HasNoNul}
use Rattle.perfdata_simpleperf.specs.FileRecord.{Info, no_info, dex_file, elf_file, kernel_module, FileValue, record_value}
use Rattle.perfdata_simpleperf.specs.FileV1.{SequenceAt, SequenceError, RepeatedAt, RepeatedError, IntegerAt, IntegerError, BoundedAt, BoundedError, CountedAt, CountedError, SymbolAt, SymbolError, OffsetAt, OffsetError, InfoAt, InfoError, AfterTypeAt, AfterTypeError, V1At, IsV1, V1Error}
use Rattle.perfdata_simpleperf.specs.NulText.{TextAt, TextError}
use Rattle.perfdata_simpleperf.specs.declared.simpleperf.file_record.SimpleperfFileRecord.{SimpleperfFileRecord}

-- a part is decoded in at most one way, or else has at most one kind of error
pub record IsUnique {A : Type 0} (At : List ℕ → A → List ℕ → Type 0) (IsError : List ℕ → ErrorKind → Type 0) : Type 0 where
  pub same : (bs : List ℕ) (a b : A) (r s : List ℕ) → At bs a r → At bs b s → (a ≡ b) × (r ≡ s)
  pub not_both : (bs : List ℕ) (a : A) (r : List ℕ) (k : ErrorKind) → At bs a r → IsError bs k → ⊥
  pub error : (bs : List ℕ) (k l : ErrorKind) → IsError bs k → IsError bs l → k ≡ l

-- ---- strings

contains_nul : (text rest : List ℕ) → HasNoNul (text ++ 0 ∷ rest) → ⊥
contains_nul text rest plain = All-head (λ b. b ≢ 0) 0 rest (subst HasNoNul (drop-append_seam text (0 ∷ rest)) (All-drop (λ b. b ≢ 0) (length text) (text ++ 0 ∷ rest) plain)) refl

ends_same : (t u r s : List ℕ) → HasNoNul t → HasNoNul u → t ++ 0 ∷ r ≡ u ++ 0 ∷ s → (t ≡ u) × (r ≡ s)
ends_same [] [] r s t_plain u_plain e = (refl, cc)
ends_same [] (x ∷ u) r s t_plain u_plain e = let zero : x ≡ 0 = cc in absurd (All-head (λ b. b ≢ 0) x u u_plain zero)
ends_same (x ∷ t) [] r s t_plain u_plain e = let zero : x ≡ 0 = cc in absurd (All-head (λ b. b ≢ 0) x t t_plain zero)
ends_same (x ∷ t) (y ∷ u) r s t_plain u_plain e =
    let first_byte : x ≡ y = cc in
    let tail : t ++ 0 ∷ r ≡ u ++ 0 ∷ s = cc in
    let more = ends_same t u r s (All-tail (λ b. b ≢ 0) x t t_plain) (All-tail (λ b. b ≢ 0) y u u_plain) tail in
    ((λ i. first_byte i ∷ more.0 i), more.1)

text_same : (bs a b r s : List ℕ) → TextAt bs a r → TextAt bs b s → (a ≡ b) × (r ≡ s)
text_same bs a b r s x y = ends_same a b r s x.splits_at_nul.no_nul y.splits_at_nul.no_nul (sym x.splits_at_nul.split ∙ y.splits_at_nul.split)

text_not_both : (bs a r : List ℕ) (k : ErrorKind) → TextAt bs a r → TextError bs k → ⊥
text_not_both bs a r k x (inl f) = contains_nul a r (subst HasNoNul x.splits_at_nul.split f.1)
text_not_both bs a r k x (inr f) =
    let same = ends_same a f.1.text r f.1.rest x.splits_at_nul.no_nul f.1.splits_at_nul.no_nul (sym x.splits_at_nul.split ∙ f.1.splits_at_nul.split) in
    f.1.not_utf8 (subst IsUtf8 same.0 x.utf8)

text_error : (bs : List ℕ) (k l : ErrorKind) → TextError bs k → TextError bs l → k ≡ l
text_error bs k l (inl f) (inl g) = f.0 ∙ sym g.0
text_error bs k l (inl f) (inr g) = absurd (contains_nul g.1.text g.1.rest (subst HasNoNul g.1.splits_at_nul.split f.1))
text_error bs k l (inr f) (inl g) = absurd (contains_nul f.1.text f.1.rest (subst HasNoNul f.1.splits_at_nul.split g.1))
text_error bs k l (inr f) (inr g) = f.0 ∙ sym g.0

text_is_unique : IsUnique TextAt TextError
text_is_unique = record { same = text_same; not_both = text_not_both; error = text_error }

-- ---- consecutive parts

module _ {A B : Type 0} (FirstAt : List ℕ → A → List ℕ → Type 0) (FirstError : List ℕ → ErrorKind → Type 0) (NextAt : A → List ℕ → B → List ℕ → Type 0) (NextError : A → List ℕ → ErrorKind → Type 0)
    (first : IsUnique FirstAt FirstError) (next : (a : A) → IsUnique (NextAt a) (NextError a)) where
  sequence_same : (bs : List ℕ) (p q : A × B) (r s : List ℕ) → SequenceAt FirstAt NextAt bs p r → SequenceAt FirstAt NextAt bs q s → (p ≡ q) × (r ≡ s)
  sequence_same bs (a, b) (c, d) r s x y =
      let e = first.same bs a c x.0 y.0 x.1 y.1 in
      let moved : NextAt c y.0 b r = subst (λ (z : A). NextAt z y.0 b r) e.0 (subst (λ (l : List ℕ). NextAt a l b r) e.1 x.2) in
      let f = (next c).same y.0 b d r s moved y.2 in
      ((λ i. (e.0 i, f.0 i)), f.1)

  sequence_not_both : (bs : List ℕ) (p : A × B) (r : List ℕ) (k : ErrorKind) → SequenceAt FirstAt NextAt bs p r → SequenceError FirstAt FirstError NextError bs k → ⊥
  sequence_not_both bs (a, b) r k x (inl f) = first.not_both bs a x.0 k x.1 f
  sequence_not_both bs (a, b) r k x (inr f) =
      let e = first.same bs f.0 a f.1 x.0 f.2 x.1 in
      let moved : NextError a x.0 k = subst (λ (z : A). NextError z x.0 k) e.0 (subst (λ (l : List ℕ). NextError f.0 l k) e.1 f.3) in
      (next a).not_both x.0 b r k x.2 moved

  sequence_error : (bs : List ℕ) (k l : ErrorKind) → SequenceError FirstAt FirstError NextError bs k → SequenceError FirstAt FirstError NextError bs l → k ≡ l
  sequence_error bs k l (inl f) (inl g) = first.error bs k l f g
  sequence_error bs k l (inl f) (inr g) = absurd (first.not_both bs g.0 g.1 k g.2 f)
  sequence_error bs k l (inr f) (inl g) = absurd (first.not_both bs f.0 f.1 l f.2 g)
  sequence_error bs k l (inr f) (inr g) =
      let e = first.same bs f.0 g.0 f.1 g.1 f.2 g.2 in
      let moved : NextError g.0 g.1 k = subst (λ (z : A). NextError z g.1 k) e.0 (subst (λ (x : List ℕ). NextError f.0 x k) e.1 f.3) in
      (next g.0).error g.1 k l moved g.3

  sequence_is_unique : IsUnique (SequenceAt FirstAt NextAt) (SequenceError FirstAt FirstError NextError)
  sequence_is_unique = record { same = sequence_same; not_both = sequence_not_both; error = sequence_error }

module _ {A : Type 0} (ItemAt : List ℕ → A → List ℕ → Type 0) (ItemError : List ℕ → ErrorKind → Type 0) (one : IsUnique ItemAt ItemError) where
  repeated_same : (bs : List ℕ) (ds es : List A) (r s : List ℕ) → length ds ≡ length es → RepeatedAt ItemAt bs ds r → RepeatedAt ItemAt bs es s → (ds ≡ es) × (r ≡ s)
  repeated_same bs [] [] r s long x y = (refl, x ∙ sym y)
  repeated_same bs [] (e ∷ es) r s long x y = absurd (omega arith)
  repeated_same bs (d ∷ ds) [] r s long x y = absurd (omega arith)
  repeated_same bs (d ∷ ds) (e ∷ es) r s long x y =
      let here = one.same bs d e x.0 y.0 x.1 y.1 in
      let more = repeated_same y.0 ds es r s (omega arith) (subst (λ (l : List ℕ). RepeatedAt ItemAt l ds r) here.1 x.2) y.2 in
      ((λ i. here.0 i ∷ more.0 i), more.1)

  repeated_not_both : (bs : List ℕ) (ds es : List A) (r m : List ℕ) (k : ErrorKind) → length es < length ds → RepeatedAt ItemAt bs ds r → RepeatedAt ItemAt bs es m → ItemError m k → ⊥
  repeated_not_both bs [] es r m k fewer x y error = omega arith
  repeated_not_both bs (d ∷ ds) [] r m k fewer x y error = one.not_both bs d x.0 k x.1 (subst (λ (l : List ℕ). ItemError l k) y error)
  repeated_not_both bs (d ∷ ds) (e ∷ es) r m k fewer x y error =
      let here = one.same bs d e x.0 y.0 x.1 y.1 in
      repeated_not_both y.0 ds es r m k (omega arith) (subst (λ (l : List ℕ). RepeatedAt ItemAt l ds r) here.1 x.2) y.2 error

  repeated_error : (bs : List ℕ) (ds es : List A) (m w : List ℕ) (k l : ErrorKind) → RepeatedAt ItemAt bs ds m → RepeatedAt ItemAt bs es w → ItemError m k → ItemError w l → k ≡ l
  repeated_error bs [] [] m w k l x y f g = one.error bs k l (subst (λ (z : List ℕ). ItemError z k) x f) (subst (λ (z : List ℕ). ItemError z l) y g)
  repeated_error bs [] (e ∷ es) m w k l x y f g = absurd (one.not_both bs e y.0 k y.1 (subst (λ (z : List ℕ). ItemError z k) x f))
  repeated_error bs (d ∷ ds) [] m w k l x y f g = absurd (one.not_both bs d x.0 l x.1 (subst (λ (z : List ℕ). ItemError z l) y g))
  repeated_error bs (d ∷ ds) (e ∷ es) m w k l x y f g =
      let here = one.same bs d e x.0 y.0 x.1 y.1 in
      repeated_error y.0 ds es m w k l (subst (λ (z : List ℕ). RepeatedAt ItemAt z ds m) here.1 x.2) y.2 f g

  repeated_is_unique : (n : ℕ) → IsUnique (λ mid ds end. (n ≡ length ds) × RepeatedAt ItemAt mid ds end) (RepeatedError ItemAt ItemError n)
  repeated_is_unique n = record {
    same = λ bs a b r s x y. repeated_same bs a b r s (sym x.0 ∙ y.0) x.1 y.1;
    not_both = λ bs a r k x f. let fewer = f.too_few in let long = x.0 in repeated_not_both bs a f.earlier r f.mid k (omega (arith, fewer, long)) x.1 f.elements f.error_here;
    error = λ bs k l f g. repeated_error bs f.earlier g.earlier f.mid g.mid k l f.elements g.elements f.error_here g.error_here;
  }

module _ (number : ℕ → List ℕ → ℕ) where
  -- ---- numbers

  number_is_unique : (size : ℕ) → IsUnique (IntegerAt number size) (IntegerError number size)
  number_is_unique size = record {
    same = λ bs a b r s x y. (x.value ∙ sym y.value, x.rest_matches ∙ sym y.rest_matches);
    not_both = λ bs a r k x f. let enough = x.enough in let fewer = f.1 in omega (arith, enough, fewer);
    error = λ bs k l f g. f.0 ∙ sym g.0;
  }

  module _ (bound : List ℕ → ℕ) where
    bounded_not_both : (bs : List ℕ) (n : ℕ) (r : List ℕ) (k : ErrorKind) → BoundedAt number bound bs n r → BoundedError number bound bs k → ⊥
    bounded_not_both bs n r k x (inl f) = (number_is_unique 4).not_both bs n r k x.reads f
    bounded_not_both bs n r k x (inr f) =
        let e = (number_is_unique 4).same bs n f.1.value r f.1.rest x.reads f.1.reads in
        let up = f.1.exceeds_bound in
        let low = x.in_bounds in
        omega (arith, e.0, ap bound e.1, up, low)

    bounded_error : (bs : List ℕ) (k l : ErrorKind) → BoundedError number bound bs k → BoundedError number bound bs l → k ≡ l
    bounded_error bs k l (inl f) (inl g) = f.0 ∙ sym g.0
    bounded_error bs k l (inl f) (inr g) = absurd ((number_is_unique 4).not_both bs g.1.value g.1.rest k g.1.reads f)
    bounded_error bs k l (inr f) (inl g) = absurd ((number_is_unique 4).not_both bs f.1.value f.1.rest l f.1.reads g)
    bounded_error bs k l (inr f) (inr g) = f.0 ∙ sym g.0

    bounded_is_unique : IsUnique (BoundedAt number bound) (BoundedError number bound)
    bounded_is_unique = record { same = λ bs a b r s x y. (number_is_unique 4).same bs a b r s x.reads y.reads; not_both = bounded_not_both; error = bounded_error }

  counted_is_unique : {A : Type 0} (ItemAt : List ℕ → A → List ℕ → Type 0) (ItemError : List ℕ → ErrorKind → Type 0) → IsUnique ItemAt ItemError → IsUnique (CountedAt number ItemAt) (CountedError number ItemAt ItemError)
  counted_is_unique ItemAt ItemError one =
      let row = sequence_is_unique (BoundedAt number length) (BoundedError number length) (λ n mid ds end. (n ≡ length ds) × RepeatedAt ItemAt mid ds end) (RepeatedError ItemAt ItemError) (bounded_is_unique length) (repeated_is_unique ItemAt ItemError one) in
      record {
        same = λ bs a b r s x y. let e = row.same bs (length a, a) (length b, b) r s x y in (ap (λ p. p.1) e.0, e.1);
        not_both = λ bs a r k x f. row.not_both bs (length a, a) r k x f;
        error = row.error;
      }

  -- ---- symbols

  symbol_is_unique : IsUnique (SymbolAt number) (SymbolError number)
  symbol_is_unique =
      let tail = sequence_is_unique (IntegerAt number 4) (IntegerError number 4) (λ _. TextAt) (λ _. TextError) (number_is_unique 4) (λ _. text_is_unique) in
      let row = sequence_is_unique (IntegerAt number 8) (IntegerError number 8) (λ _. SequenceAt (IntegerAt number 4) (λ _. TextAt)) (λ _. SequenceError (IntegerAt number 4) (IntegerError number 4) (λ _. TextError)) (number_is_unique 8) (λ _. tail) in
      record {
        same = λ bs a b r s x y.
            let e = row.same bs (a.vaddr, (a.len, a.name)) (b.vaddr, (b.len, b.name)) r s x y in
            ((λ i. record { vaddr = (e.0 i).0; len = (e.0 i).1.0; name = (e.0 i).1.1 }), e.1);
        not_both = λ bs a r k x f. row.not_both bs (a.vaddr, (a.len, a.name)) r k x f;
        error = row.error;
      }

  -- ---- the information for a type

  offset_same : (bs : List ℕ) (a b : ℕ) (r s : List ℕ) → OffsetAt number bs a r → OffsetAt number bs b s → (a ≡ b) × (r ≡ s)
  offset_same bs a b r s (inl x) (inl y) = (x.1 ∙ sym y.1, x.2 ∙ sym y.2)
  offset_same bs a b r s (inl x) (inr y) = let empty = x.0 in let nonempty = y.0 in absurd (omega (arith, empty, nonempty))
  offset_same bs a b r s (inr x) (inl y) = let empty = y.0 in let nonempty = x.0 in absurd (omega (arith, empty, nonempty))
  offset_same bs a b r s (inr x) (inr y) = (number_is_unique 8).same bs a b r s x.1 y.1

  offset_not_both : (bs : List ℕ) (a : ℕ) (r : List ℕ) (k : ErrorKind) → OffsetAt number bs a r → OffsetError number bs k → ⊥
  offset_not_both bs a r k (inl x) f = let empty = x.0 in let nonempty = f.0 in omega (arith, empty, nonempty)
  offset_not_both bs a r k (inr x) f = (number_is_unique 8).not_both bs a r k x.1 f.1

  offset_is_unique : IsUnique (OffsetAt number) (OffsetError number)
  offset_is_unique = record { same = offset_same; not_both = offset_not_both; error = λ bs k l f g. f.1.0 ∙ sym g.1.0 }

  offsets_are_unique : IsUnique (CountedAt number (IntegerAt number 8)) (CountedError number (IntegerAt number 8) (IntegerError number 8))
  offsets_are_unique = counted_is_unique (IntegerAt number 8) (IntegerError number 8) (number_is_unique 8)

  module _ (t : ℕ) where
    info_same : (bs : List ℕ) (a b : Info) (r s : List ℕ) → InfoAt number t bs a r → InfoAt number t bs b s → (a ≡ b) × (r ≡ s)
    info_same bs no_info no_info r s x y = (refl, x.3 ∙ sym y.3)
    info_same bs no_info (dex_file b) r s x y = absurd (x.2 y.0)
    info_same bs no_info (elf_file b) r s x y = absurd (x.1 y.0)
    info_same bs no_info (kernel_module b) r s x y = absurd (x.0 y.0)
    info_same bs (dex_file a) no_info r s x y = absurd (y.2 x.0)
    info_same bs (dex_file a) (dex_file b) r s x y = let e = offsets_are_unique.same bs a b r s x.1 y.1 in (ap dex_file e.0, e.1)
    info_same bs (dex_file a) (elf_file b) r s x y = let p = x.0 in let q = y.0 in absurd (omega (arith, p, q))
    info_same bs (dex_file a) (kernel_module b) r s x y = let p = x.0 in let q = y.0 in absurd (omega (arith, p, q))
    info_same bs (elf_file a) no_info r s x y = absurd (y.1 x.0)
    info_same bs (elf_file a) (dex_file b) r s x y = let p = x.0 in let q = y.0 in absurd (omega (arith, p, q))
    info_same bs (elf_file a) (elf_file b) r s x y = let e = offset_same bs a b r s x.1 y.1 in (ap elf_file e.0, e.1)
    info_same bs (elf_file a) (kernel_module b) r s x y = let p = x.0 in let q = y.0 in absurd (omega (arith, p, q))
    info_same bs (kernel_module a) no_info r s x y = absurd (y.0 x.0)
    info_same bs (kernel_module a) (dex_file b) r s x y = let p = x.0 in let q = y.0 in absurd (omega (arith, p, q))
    info_same bs (kernel_module a) (elf_file b) r s x y = let p = x.0 in let q = y.0 in absurd (omega (arith, p, q))
    info_same bs (kernel_module a) (kernel_module b) r s x y = let e = offset_same bs a b r s x.1 y.1 in (ap kernel_module e.0, e.1)

    -- a type with a list of offsets isn't a type with one offset
    apart : t ≡ 3 → (t ≡ 1) ⊎ (t ≡ 2) → ⊥
    apart three (inl one) = omega (arith, three, one)
    apart three (inr two) = omega (arith, three, two)

    info_not_both : (bs : List ℕ) (a : Info) (r : List ℕ) (k : ErrorKind) → InfoAt number t bs a r → InfoError number t bs k → ⊥
    info_not_both bs no_info r k x (inl f) = x.2 f.0
    info_not_both bs no_info r k x (inr f) = elim f.0 [ inl one ↦ x.0 one | inr two ↦ x.1 two ]
    info_not_both bs (dex_file a) r k x (inl f) = offsets_are_unique.not_both bs a r k x.1 f.1
    info_not_both bs (dex_file a) r k x (inr f) = apart x.0 f.0
    info_not_both bs (elf_file a) r k x (inl f) = apart f.0 (inr x.0)
    info_not_both bs (elf_file a) r k x (inr f) = offset_not_both bs a r k x.1 f.1
    info_not_both bs (kernel_module a) r k x (inl f) = apart f.0 (inl x.0)
    info_not_both bs (kernel_module a) r k x (inr f) = offset_not_both bs a r k x.1 f.1

    info_error : (bs : List ℕ) (k l : ErrorKind) → InfoError number t bs k → InfoError number t bs l → k ≡ l
    info_error bs k l (inl f) (inl g) = offsets_are_unique.error bs k l f.1 g.1
    info_error bs k l (inl f) (inr g) = absurd (apart f.0 g.0)
    info_error bs k l (inr f) (inl g) = absurd (apart g.0 f.0)
    info_error bs k l (inr f) (inr g) = offset_is_unique.error bs k l f.1 g.1

    info_is_unique : IsUnique (InfoAt number t) (InfoError number t)
    info_is_unique = record { same = info_same; not_both = info_not_both; error = info_error }

    after_type_is_unique : IsUnique (AfterTypeAt number t) (AfterTypeError number t)
    after_type_is_unique =
        let symbols = counted_is_unique (SymbolAt number) (SymbolError number) symbol_is_unique in
        let row = sequence_is_unique (CountedAt number (SymbolAt number)) (CountedError number (SymbolAt number) (SymbolError number)) (λ _. InfoAt number t) (λ _. InfoError number t) symbols (λ _. info_is_unique) in
        sequence_is_unique (IntegerAt number 8) (IntegerError number 8) (λ _. SequenceAt (CountedAt number (SymbolAt number)) (λ _. InfoAt number t))
        (λ _. SequenceError (CountedAt number (SymbolAt number)) (CountedError number (SymbolAt number) (SymbolError number)) (λ _. InfoError number t)) (number_is_unique 8) (λ _. row)

  -- ---- a record

  v1_is_unique : IsUnique (V1At number) (V1Error number)
  v1_is_unique =
      let typed = sequence_is_unique (BoundedAt number (λ _. 5)) (BoundedError number (λ _. 5)) (AfterTypeAt number) (AfterTypeError number) (bounded_is_unique (λ _. 5)) after_type_is_unique in
      let row = sequence_is_unique TextAt TextError (λ _. SequenceAt (BoundedAt number (λ _. 5)) (AfterTypeAt number)) (λ _. SequenceError (BoundedAt number (λ _. 5)) (BoundedError number (λ _. 5)) (AfterTypeError number)) text_is_unique (λ _. typed) in
      record {
        same = λ bs v w r s x y.
            let e = row.same bs (v.path, (v.type_, (v.min_vaddr, (v.symbol, v.info)))) (w.path, (w.type_, (w.min_vaddr, (w.symbol, w.info)))) r s x y in
            ((λ i. record { path = (e.0 i).0; type_ = (e.0 i).1.0; min_vaddr = (e.0 i).1.1.0; symbol = (e.0 i).1.1.1.0; info = (e.0 i).1.1.1.1 }), e.1);
        not_both = λ bs v r k x f. row.not_both bs (v.path, (v.type_, (v.min_vaddr, (v.symbol, v.info)))) r k x f;
        error = row.error;
      }

  pub v1_same : (bs : List ℕ) (v w : FileValue) → IsV1 number bs v → IsV1 number bs w → v ≡ w
  v1_same bs v w x y = (v1_is_unique.same bs v w x.0 y.0 x.1 y.1).0

  pub v1_not_both : (bs : List ℕ) (v : FileValue) (k : ErrorKind) → IsV1 number bs v → V1Error number bs k → ⊥
  v1_not_both bs v k x f = v1_is_unique.not_both bs v x.0 k x.1 f

  pub v1_error : (bs : List ℕ) (k l : ErrorKind) → V1Error number bs k → V1Error number bs l → k ≡ l
  v1_error bs k l f g = v1_is_unique.error bs k l f g

  -- ---- the result

  is_memory : (bs : List ℕ) (v : FileValue) (k : ErrorKind) → IsV1 number bs v → (k ≡ OutOfMemory) ⊎ V1Error number bs k → k ≡ OutOfMemory
  is_memory bs v k x (inl memory) = memory
  is_memory bs v k x (inr f) = absurd (v1_not_both bs v k x f)

  reports_error : (bs : List ℕ) (k l : ErrorKind) → V1Error number bs k → (l ≡ OutOfMemory) ⊎ V1Error number bs l → (l ≡ OutOfMemory) ⊎ (l ≡ k)
  reports_error bs k l f (inl memory) = inl memory
  reports_error bs k l f (inr g) = inr (v1_error bs l k g f)

  pub only_v1 : (bs : List ℕ) (r : Result SimpleperfFileRecord Error) → IfOk r (λ f. IsV1 number bs (record_value f)) → IfErr r (λ e. (error_kind e ≡ OutOfMemory) ⊎ V1Error number bs (error_kind e))
      → (v : FileValue) → IsV1 number bs v → MatchResult r (λ f. record_value f ≡ v) (λ e. error_kind e ≡ OutOfMemory)
  only_v1 bs (Ok f) on_ok on_error v x = v1_same bs (record_value f) v on_ok x
  only_v1 bs (Err e) on_ok on_error v x = is_memory bs v (error_kind e) x on_error

  pub first_v1 : (bs : List ℕ) (r : Result SimpleperfFileRecord Error) → IfOk r (λ f. IsV1 number bs (record_value f)) → IfErr r (λ e. (error_kind e ≡ OutOfMemory) ⊎ V1Error number bs (error_kind e))
      → (k : ErrorKind) → V1Error number bs k → IsErrAnd r (λ e. (error_kind e ≡ OutOfMemory) ⊎ (error_kind e ≡ k))
  first_v1 bs (Ok f) on_ok on_error k x = absurd (v1_not_both bs (record_value f) k on_ok x)
  first_v1 bs (Err e) on_ok on_error k x = reports_error bs k (error_kind e) x on_error
