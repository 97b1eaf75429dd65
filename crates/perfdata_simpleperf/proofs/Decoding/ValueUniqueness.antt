-- A message has one value, and a decoder that finds this value or the error of the message returns the specified result.
use Rattle.std.proofs.Common.{◌≡◌, ℕ, ◌^◌, ◌⊎◌, inl, inr, List, [], ◌∷◌, ◌++◌, length, map, refl, ap, sym, ◌∙◌, subst, arith, Result, Ok, Err}
use Rattle.std.specs.Prelude.{IfOk, IfErr, MatchResult, IsErrAnd}
use Rattle.perfdata_sections.specs.declared.decode_error.DecodeError.{DecodeError}
use Rattle.perfdata_sections.specs.declared.decode_error.DecodeError.TheVariants.{Memory}
use Rattle.perfdata_simpleperf.specs.declared.protobuf.field.Message.TheVariants as messages
use Rattle.perfdata_simpleperf.specs.declared.simpleperf.file_record.SimpleperfFileRecord.{SimpleperfFileRecord}
use Rattle.perfdata_simpleperf.specs.Protobuf.WireFormat.{Contents, number, bytes, skipped}
use Rattle.perfdata_simpleperf.specs.Protobuf.Fields.{FieldValue}
use Rattle.perfdata_simpleperf.specs.Protobuf.Messages.{ArePacked, IsFileMessage, FileMessageError}
use Rattle.perfdata_simpleperf.specs.FileRecord.{SymbolValue, Info, no_info, dex_file, elf_file, kernel_module, FileValue, record_value}
use Rattle.perfdata_simpleperf.specs.Protobuf.Values.{numbers_of, texts_of, last_or, symbol_from, no_symbol, IsSymbol, AreSymbols, contents_of, IsOffsets, AreOffsets, IsDex, IsAddressFrom, with_field_number, concat_runs, IsLastRun, IsInfo, infos_of, HasValue, IsFileRecord}
use Rattle.perfdata_simpleperf.proofs.Decoding.GroupSteps.{varint_shorter}
use Rattle.perfdata_simpleperf.proofs.Decoding.Infos.{info_number}
use Rattle.perfdata_simpleperf.proofs.Decoding.NumberUniqueness.{number_same}
use Rattle.perfdata_simpleperf.proofs.Decoding.MessageUniqueness.{leaf_same, file_same, file_not_both, file_error}

packed_same : (bs xs ys : List ℕ) → ArePacked bs xs → ArePacked bs ys → xs ≡ ys
packed_same bs [] [] p q = refl
packed_same bs [] (y ∷ ys) p q = let a = ap length p in let b = varint_shorter 10 (2 ^ 64) bs y q.0 q.1 in absurd (omega (arith, a, b))
packed_same bs (x ∷ xs) [] p q = let a = ap length q in let b = varint_shorter 10 (2 ^ 64) bs x p.0 p.1 in absurd (omega (arith, a, b))
packed_same bs (x ∷ xs) (y ∷ ys) p q =
    let e = number_same bs x y p.0 q.0 p.1 q.1 in
    ap (λ (z : ℕ). z ∷ xs) e.0 ∙ ap (λ (z : List ℕ). y ∷ z) (packed_same q.0 xs ys (subst (λ (z : List ℕ). ArePacked z xs) e.1 p.2) q.2)

offsets_one : (x : Contents) (a b : List ℕ) → IsOffsets x a → IsOffsets x b → a ≡ b
offsets_one (number n) a b p q = p ∙ sym q
offsets_one (bytes s) a b p q = packed_same s a b p q
offsets_one skipped a b p q = p ∙ sym q

offsets_same : (xs : List Contents) (a b : List ℕ) → AreOffsets xs a → AreOffsets xs b → a ≡ b
offsets_same [] a b p q = p ∙ sym q
offsets_same (x ∷ xs) a b p q = p.4 ∙ ap (λ (z : List ℕ). z ++ p.1) (offsets_one x p.0 q.0 p.2 q.2) ∙ ap (λ (z : List ℕ). q.0 ++ z) (offsets_same xs p.1 q.1 p.3 q.3) ∙ sym q.4

dex_same : (bs a b : List ℕ) → IsDex bs a → IsDex bs b → a ≡ b
dex_same bs a b p q =
    let e = leaf_same messages.Dex bs p.0 q.0 p.1 q.1 in
    offsets_same (contents_of 1 q.0) a b (subst (λ (ps : List FieldValue). AreOffsets (contents_of 1 ps) a) e p.2) q.2

address_same : (start : ℕ) (bs : List ℕ) (n m : ℕ) → IsAddressFrom start bs n → IsAddressFrom start bs m → n ≡ m
address_same start bs n m p q = p.2 ∙ ap (λ (ps : List FieldValue). last_or start (numbers_of 1 ps)) (leaf_same messages.Address bs p.0 q.0 p.1 q.1) ∙ sym q.2

symbol_same : (bs : List ℕ) (s t : SymbolValue) → IsSymbol bs s → IsSymbol bs t → s ≡ t
symbol_same bs s t p q = p.2 ∙ ap (λ (ps : List FieldValue). symbol_from no_symbol ps) (leaf_same messages.Symbol bs p.0 q.0 p.1 q.1) ∙ sym q.2

symbols_same : (bs : List (List ℕ)) (ss ts : List SymbolValue) → AreSymbols bs ss → AreSymbols bs ts → ss ≡ ts
symbols_same [] ss ts p q = p ∙ sym q
symbols_same (b ∷ bs) ss ts p q = p.4 ∙ ap (λ (z : SymbolValue). z ∷ p.1) (symbol_same b p.0 q.0 p.2 q.2) ∙ ap (λ (z : List SymbolValue). q.0 ∷ z) (symbols_same bs p.1 q.1 p.3 q.3) ∙ sym q.4

-- ---- the longest suffix with one number

prefix_number : (k d : ℕ) (run : List (List ℕ)) (y : ℕ × List ℕ) (b ys : List (ℕ × List ℕ)) → with_field_number k run ≡ y ∷ (b ++ ys) → last_or d (map (λ x. x.0) (y ∷ b)) ≡ k
prefix_number k d [] y b ys e = absurd (let a = ap length e in omega (arith, a))
prefix_number k d (r ∷ run) y [] ys e = let h : (k, r) ≡ y = cc in ap (λ (x : ℕ × List ℕ). x.0) (sym h)
prefix_number k d (r ∷ run) y (z ∷ b) ys e = let t : with_field_number k run ≡ z ∷ (b ++ ys) = cc in prefix_number k y.0 run z b ys t

with_field_number_same : (k : ℕ) (run other : List (List ℕ)) → with_field_number k run ≡ with_field_number k other → run ≡ other
with_field_number_same k [] [] e = refl
with_field_number_same k [] (b ∷ other) e = absurd (let a = ap length e in omega (arith, a))
with_field_number_same k (a ∷ run) [] e = absurd (let b = ap length e in omega (arith, b))
with_field_number_same k (a ∷ run) (b ∷ other) e =
    let h : (k, a) ≡ (k, b) = cc in
    let g : a ≡ b = ap (λ (x : ℕ × List ℕ). x.1) h in
    let t : with_field_number k run ≡ with_field_number k other = cc in
    ap (λ (z : List ℕ). z ∷ run) g ∙ ap (λ (z : List (List ℕ)). b ∷ z) (with_field_number_same k run other t)

ends_same : (k d : ℕ) (b c : List (ℕ × List ℕ)) (run other : List (List ℕ)) → (last_or d (map (λ x. x.0) b) ≡ k → ⊥) → (last_or d (map (λ x. x.0) c) ≡ k → ⊥) → b ++ with_field_number k run ≡ c ++ with_field_number k other → run ≡ other
ends_same k d [] [] run other f g e = with_field_number_same k run other e
ends_same k d [] (y ∷ c) run other f g e = absurd (g (prefix_number k d run y c (with_field_number k other) e))
ends_same k d (x ∷ b) [] run other f g e = absurd (f (prefix_number k d other x b (with_field_number k run) (sym e)))
ends_same k d (x ∷ b) (y ∷ c) run other f g e =
    let h : x ≡ y = cc in
    let t : b ++ with_field_number k run ≡ c ++ with_field_number k other = cc in
    ends_same k y.0 b c run other (λ w. f (ap (λ (z : ℕ × List ℕ). last_or z.0 (map (λ x. x.0) b)) h ∙ w)) g t

run_same : (k : ℕ) (xs : List (ℕ × List ℕ)) (run other : List (List ℕ)) → IsLastRun k xs run → IsLastRun k xs other → run ≡ other
run_same k xs run other p q = ends_same k 0 p.earlier q.earlier run other p.longest q.longest (sym p.split ∙ q.split)

info_same : (xs : List (ℕ × List ℕ)) (i j : Info) → IsInfo xs i → IsInfo xs j → i ≡ j
info_same xs no_info no_info p q = refl
info_same xs (dex_file a) (dex_file b) p q =
    let r = run_same 5 xs p.0 q.0 p.1 q.1 in
    ap dex_file (dex_same (concat_runs q.0) a b (subst (λ (z : List (List ℕ)). IsDex (concat_runs z) a) r p.2) q.2)
info_same xs (elf_file n) (elf_file m) p q =
    let r = run_same 6 xs p.0 q.0 p.1 q.1 in
    ap elf_file (address_same 0 (concat_runs q.0) n m (subst (λ (z : List (List ℕ)). IsAddressFrom 0 (concat_runs z) n) r p.2) q.2)
info_same xs (kernel_module n) (kernel_module m) p q =
    let r = run_same 7 xs p.0 q.0 p.1 q.1 in
    ap kernel_module (address_same 0 (concat_runs q.0) n m (subst (λ (z : List (List ℕ)). IsAddressFrom 0 (concat_runs z) n) r p.2) q.2)
info_same xs i j p q = let e = sym (info_number xs i p) ∙ info_number xs j q in absurd (omega (arith, e))

abbrev made : List ℕ → ℕ → ℕ → List SymbolValue → Info → FileValue
made a b c d e = record { path = a; type_ = b; min_vaddr = c; symbol = d; info = e }

value_same : (ps : List FieldValue) (v w : FileValue) → HasValue ps v → HasValue ps w → v ≡ w
value_same ps v w p q =
    ap (λ (z : List ℕ). made z v.type_ v.min_vaddr v.symbol v.info) (p.path ∙ sym q.path)
    ∙ ap (λ (z : ℕ). made w.path z v.min_vaddr v.symbol v.info) (p.type_ ∙ sym q.type_)
    ∙ ap (λ (z : ℕ). made w.path w.type_ z v.symbol v.info) (p.min_vaddr ∙ sym q.min_vaddr)
    ∙ ap (λ (z : List SymbolValue). made w.path w.type_ w.min_vaddr z v.info) (symbols_same (texts_of 4 ps) v.symbol w.symbol p.symbol q.symbol)
    ∙ ap (λ (z : Info). made w.path w.type_ w.min_vaddr w.symbol z) (info_same (infos_of ps) v.info w.info p.info q.info)

pub record_same : (bs : List ℕ) (v w : FileValue) → IsFileRecord bs v → IsFileRecord bs w → v ≡ w
record_same bs v w p q = value_same q.0 v w (subst (λ (ps : List FieldValue). HasValue ps v) (file_same bs p.0 q.0 p.1 q.1) p.2) q.2

-- ---- the result

error_is_memory : (bs : List ℕ) (e : DecodeError) (v : FileValue) → IsFileRecord bs v → (e ≡ Memory) ⊎ FileMessageError bs e → e ≡ Memory
error_is_memory bs e v r (inl m) = m
error_is_memory bs e v r (inr f) = absurd (file_not_both bs r.0 e r.1 f)

pub only_from : (bs : List ℕ) (r : Result SimpleperfFileRecord DecodeError) → IfOk r (λ x. IsFileRecord bs (record_value x)) → IfErr r (λ e. (e ≡ Memory) ⊎ FileMessageError bs e) → (v : FileValue) → IsFileRecord bs v → MatchResult r (λ x. record_value x ≡ v) (λ e. e ≡ Memory)
only_from bs (Ok x) on_ok on_error v h = record_same bs (record_value x) v on_ok h
only_from bs (Err e) on_ok on_error v h = error_is_memory bs e v h on_error

same_error : (bs : List ℕ) (e f : DecodeError) → FileMessageError bs e → (f ≡ Memory) ⊎ FileMessageError bs f → (f ≡ Memory) ⊎ (f ≡ e)
same_error bs e f h (inl m) = inl m
same_error bs e f h (inr g) = inr (file_error bs f e g h)

pub first_from : (bs : List ℕ) (r : Result SimpleperfFileRecord DecodeError) → IfOk r (λ x. IsFileRecord bs (record_value x)) → IfErr r (λ e. (e ≡ Memory) ⊎ FileMessageError bs e) → (e : DecodeError) → FileMessageError bs e → IsErrAnd r (λ f. (f ≡ Memory) ⊎ (f ≡ e))
first_from bs (Ok x) on_ok on_error e h = absurd (file_not_both bs on_ok.0 e on_ok.1 h)
first_from bs (Err f) on_ok on_error e h = same_error bs e f h on_error

message_error_is_memory : (bs : List ℕ) (e : DecodeError) (ps : List FieldValue) → IsFileMessage bs ps → (e ≡ Memory) ⊎ FileMessageError bs e → e ≡ Memory
message_error_is_memory bs e ps r (inl m) = m
message_error_is_memory bs e ps r (inr f) = absurd (file_not_both bs ps e r f)

pub message_from : (bs : List ℕ) (r : Result SimpleperfFileRecord DecodeError) → IfOk r (λ x. IsFileRecord bs (record_value x)) → IfErr r (λ e. (e ≡ Memory) ⊎ FileMessageError bs e) → (ps : List FieldValue) → IsFileMessage bs ps → MatchResult r (λ x. HasValue ps (record_value x)) (λ e. e ≡ Memory)
message_from bs (Ok x) on_ok on_error ps h = subst (λ (qs : List FieldValue). HasValue qs (record_value x)) (file_same bs on_ok.0 ps on_ok.1 h) on_ok.2
message_from bs (Err e) on_ok on_error ps h = message_error_is_memory bs e ps h on_error
