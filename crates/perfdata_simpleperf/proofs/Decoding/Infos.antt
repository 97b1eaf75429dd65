-- Appending a field 5, 6 or 7 to a list of fields, and the value of a record with one more field.
use Rattle.std.proofs.Common.{◌≡◌, ℕ, ◌<◌, inl, inr, List, [], ◌∷◌, ◌++◌, length, map, refl, ap, sym, ◌∙◌, subst, arith, append_assoc, length-append}
use Rattle.std.proofs.lemmas.List.Concat.{flat_map-append}
use Rattle.std.proofs.lemmas.List.{map-append, append-nil}
use Rattle.perfdata_simpleperf.specs.declared.protobuf.field.Message.TheVariants as messages
use Rattle.perfdata_simpleperf.specs.Protobuf.Fields.{FieldValue}
use Rattle.perfdata_simpleperf.specs.Protobuf.Messages.{NoNestedMessage}
use Rattle.perfdata_simpleperf.specs.FileRecord.{Info, no_info, dex_file, elf_file, kernel_module, SymbolValue, FileValue}
use Rattle.perfdata_simpleperf.specs.Protobuf.Values.{numbers_of, texts_of, last_or, low_u32, IsDex, IsAddressFrom, IsLastRun, IsInfo, MergesInfo, MergesInfos, last_info_field, with_field_number, concat_runs, previous_offsets, previous_elf_offset, previous_module_offset, AreSymbols, HasValue, infos_of, infos_in}
use Rattle.perfdata_simpleperf.proofs.Decoding.MessageSteps.{last_or-append, last_number, last_low, last_text, texts_of-append, offsets_more}
use Rattle.perfdata_simpleperf.proofs.Decoding.Tails.{messages_join}

dex_join : (a b xs ys : List ℕ) → IsDex a xs → IsDex b ys → IsDex (a ++ b) (xs ++ ys)
dex_join a b xs ys p q = (p.0 ++ q.0, messages_join NoNestedMessage messages.Dex a b p.0 q.0 p.1 q.1, offsets_more 1 p.0 q.0 xs ys p.2 q.2)

address_join : (start n k : ℕ) (a b : List ℕ) → IsAddressFrom start a n → IsAddressFrom n b k → IsAddressFrom start (a ++ b) k
address_join start n k a b p q = (p.0 ++ q.0, messages_join NoNestedMessage messages.Address a b p.0 q.0 p.1 q.1, q.2 ∙ ap (λ (s : ℕ). last_or s (numbers_of 1 q.0)) p.2 ∙ last_number start 1 p.0 q.0)

abbrev pub field_number_of : Info → ℕ
field_number_of no_info = 0
field_number_of (dex_file xs) = 5
field_number_of (elf_file n) = 6
field_number_of (kernel_module n) = 7

same_number : (k d : ℕ) (run : List (List ℕ)) → d ≡ k → last_or d (map (λ x. x.0) (with_field_number k run)) ≡ k
same_number k d [] e = e
same_number k d (b ∷ run) e = same_number k k run refl

first_number : (k d : ℕ) (run : List (List ℕ)) → 0 < length run → last_or d (map (λ x. x.0) (with_field_number k run)) ≡ k
first_number k d [] h = absurd (omega (arith, h))
first_number k d (b ∷ run) h = same_number k k run refl

last_info_field-append : (xs ys : List (ℕ × List ℕ)) → last_info_field (xs ++ ys) ≡ last_or (last_info_field xs) (map (λ x. x.0) ys)
last_info_field-append xs ys = ap (λ (zs : List ℕ). last_or 0 zs) (map-append (λ (x : ℕ × List ℕ). x.0) xs ys) ∙ sym (last_or-append 0 (map (λ (x : ℕ × List ℕ). x.0) xs) (map (λ (x : ℕ × List ℕ). x.0) ys))

run_number : (k : ℕ) (xs : List (ℕ × List ℕ)) (run : List (List ℕ)) → IsLastRun k xs run → last_info_field xs ≡ k
run_number k xs run r = ap last_info_field r.split ∙ last_info_field-append r.earlier (with_field_number k run) ∙ first_number k (last_info_field r.earlier) run r.is_nonempty

pub info_number : (xs : List (ℕ × List ℕ)) (info : Info) → IsInfo xs info → last_info_field xs ≡ field_number_of info
info_number xs no_info i = ap last_info_field i
info_number xs (dex_file zs) i = run_number 5 xs i.0 i.1
info_number xs (elf_file n) i = run_number 6 xs i.0 i.1
info_number xs (kernel_module n) i = run_number 7 xs i.0 i.1

run_more : (k : ℕ) (xs : List (ℕ × List ℕ)) (run : List (List ℕ)) (b : List ℕ) → IsLastRun k xs run → IsLastRun k (xs ++ (k, b) ∷ []) (run ++ b ∷ [])
run_more k xs run b r = record {
  earlier = r.earlier;
  split = ap (λ (x : List (ℕ × List ℕ)). x ++ (k, b) ∷ []) r.split ∙ append_assoc r.earlier (with_field_number k run) ((k, b) ∷ []) ∙ ap (λ (x : List (ℕ × List ℕ)). r.earlier ++ x) (sym (map-append (λ (c : List ℕ). (k, c)) run (b ∷ [])));
  is_nonempty = (let l = length-append run (b ∷ []) in omega (arith, l));
  longest = r.longest;
}

run_new : (k : ℕ) (xs : List (ℕ × List ℕ)) (b : List ℕ) → (last_info_field xs ≡ k → ⊥) → IsLastRun k (xs ++ (k, b) ∷ []) (b ∷ [])
run_new k xs b other = record { earlier = xs; split = refl; is_nonempty = omega arith; longest = other }

concat_runs_more : (run : List (List ℕ)) (b : List ℕ) → concat_runs (run ++ b ∷ []) ≡ concat_runs run ++ b
concat_runs_more run b = flat_map-append (λ (c : List ℕ). c) run (b ∷ []) ∙ ap (λ (x : List ℕ). concat_runs run ++ x) (append-nil b)

concat_runs_one : (b : List ℕ) → concat_runs (b ∷ []) ≡ b
concat_runs_one b = append-nil b

dex_new : (xs : List (ℕ × List ℕ)) (b ns : List ℕ) → (last_info_field xs ≡ 5 → ⊥) → IsDex b ns → IsInfo (xs ++ (5, b) ∷ []) (dex_file ns)
dex_new xs b ns other d = (b ∷ [], run_new 5 xs b other, rw (concat_runs_one b) d)

elf_new : (xs : List (ℕ × List ℕ)) (b : List ℕ) (n : ℕ) → (last_info_field xs ≡ 6 → ⊥) → IsAddressFrom 0 b n → IsInfo (xs ++ (6, b) ∷ []) (elf_file n)
elf_new xs b n other d = (b ∷ [], run_new 6 xs b other, rw (concat_runs_one b) d)

module_new : (xs : List (ℕ × List ℕ)) (b : List ℕ) (n : ℕ) → (last_info_field xs ≡ 7 → ⊥) → IsAddressFrom 0 b n → IsInfo (xs ++ (7, b) ∷ []) (kernel_module n)
module_new xs b n other d = (b ∷ [], run_new 7 xs b other, rw (concat_runs_one b) d)

differ : (m k j : ℕ) → m ≡ j → (j ≡ k → ⊥) → m ≡ k → ⊥
differ m k j e ne h = ne (sym e ∙ h)

dex_more : (xs : List (ℕ × List ℕ)) (old : Info) (b ns : List ℕ) → IsInfo xs old → IsDex b ns → IsInfo (xs ++ (5, b) ∷ []) (dex_file (previous_offsets old ++ ns))
dex_more xs no_info b ns i d = dex_new xs b ns (differ _ 5 0 (ap last_info_field i) (λ h. omega (arith, h))) d
dex_more xs (dex_file zs) b ns i d = (i.0 ++ b ∷ [], run_more 5 xs i.0 b i.1, rw (concat_runs_more i.0 b) (dex_join (concat_runs i.0) b zs ns i.2 d))
dex_more xs (elf_file n) b ns i d = dex_new xs b ns (differ _ 5 6 (run_number 6 xs i.0 i.1) (λ h. omega (arith, h))) d
dex_more xs (kernel_module n) b ns i d = dex_new xs b ns (differ _ 5 7 (run_number 7 xs i.0 i.1) (λ h. omega (arith, h))) d

elf_more : (xs : List (ℕ × List ℕ)) (old : Info) (b : List ℕ) (k : ℕ) → IsInfo xs old → IsAddressFrom (previous_elf_offset old) b k → IsInfo (xs ++ (6, b) ∷ []) (elf_file k)
elf_more xs no_info b k i d = elf_new xs b k (differ _ 6 0 (ap last_info_field i) (λ h. omega (arith, h))) d
elf_more xs (dex_file zs) b k i d = elf_new xs b k (differ _ 6 5 (run_number 5 xs i.0 i.1) (λ h. omega (arith, h))) d
elf_more xs (elf_file n) b k i d = (i.0 ++ b ∷ [], run_more 6 xs i.0 b i.1, rw (concat_runs_more i.0 b) (address_join 0 n k (concat_runs i.0) b i.2 d))
elf_more xs (kernel_module n) b k i d = elf_new xs b k (differ _ 6 7 (run_number 7 xs i.0 i.1) (λ h. omega (arith, h))) d

module_more : (xs : List (ℕ × List ℕ)) (old : Info) (b : List ℕ) (k : ℕ) → IsInfo xs old → IsAddressFrom (previous_module_offset old) b k → IsInfo (xs ++ (7, b) ∷ []) (kernel_module k)
module_more xs no_info b k i d = module_new xs b k (differ _ 7 0 (ap last_info_field i) (λ h. omega (arith, h))) d
module_more xs (dex_file zs) b k i d = module_new xs b k (differ _ 7 5 (run_number 5 xs i.0 i.1) (λ h. omega (arith, h))) d
module_more xs (elf_file n) b k i d = module_new xs b k (differ _ 7 6 (run_number 6 xs i.0 i.1) (λ h. omega (arith, h))) d
module_more xs (kernel_module n) b k i d = (i.0 ++ b ∷ [], run_more 7 xs i.0 b i.1, rw (concat_runs_more i.0 b) (address_join 0 n k (concat_runs i.0) b i.2 d))

info_more : (xs : List (ℕ × List ℕ)) (k : ℕ) (b : List ℕ) (old new : Info) → IsInfo xs old → MergesInfo k b old new → IsInfo (xs ++ (k, b) ∷ []) new
info_more xs k b old new i (inl p) = rw (p.0, p.3) (dex_more xs old b p.1 i p.2)
info_more xs k b old new i (inr (inl p)) = rw (p.0, p.3) (elf_more xs old b p.1 i p.2)
info_more xs k b old new i (inr (inr p)) = rw (p.0, p.3) (module_more xs old b p.1 i p.2)

infos_more : (xs ys : List (ℕ × List ℕ)) (old new : Info) → IsInfo xs old → MergesInfos ys old new → IsInfo (xs ++ ys) new
infos_more xs [] old new i p = rw (append-nil xs, p) i
infos_more xs (y ∷ ys) old new i p = subst (λ (z : List (ℕ × List ℕ)). IsInfo z new) (append_assoc xs (y ∷ []) ys) (infos_more (xs ++ y ∷ []) ys p.0 new (info_more xs y.0 y.1 old p.0 i p.1) p.2)

symbols_append : (cs bs : List (List ℕ)) (xs ys : List SymbolValue) → AreSymbols cs xs → AreSymbols bs ys → AreSymbols (cs ++ bs) (xs ++ ys)
symbols_append [] bs xs ys p q = rw p q
symbols_append (a ∷ cs) bs xs ys p q = (p.0, p.1 ++ ys, p.2, symbols_append cs bs p.1 ys p.3 q, rw p.4 refl)

pub no_fields : HasValue [] (record { path = []; type_ = 0; min_vaddr = 0; symbol = []; info = no_info })
no_fields = record { path = refl; type_ = refl; min_vaddr = refl; symbol = refl; info = refl }

pub value_more : (ps : List FieldValue) (p : FieldValue) (old new : FileValue) (ss : List SymbolValue) → HasValue ps old
    → new.path ≡ last_or old.path (texts_of 1 (p ∷ [])) → new.type_ ≡ last_or old.type_ (map low_u32 (numbers_of 2 (p ∷ []))) → new.min_vaddr ≡ last_or old.min_vaddr (numbers_of 3 (p ∷ []))
    → AreSymbols (texts_of 4 (p ∷ [])) ss → new.symbol ≡ old.symbol ++ ss → MergesInfos (infos_of (p ∷ [])) old.info new.info → HasValue (ps ++ p ∷ []) new
value_more ps p old new ss h path type_ min_vaddr symbols symbol info = record {
  path = path ∙ ap (λ (s : List ℕ). last_or s (texts_of 1 (p ∷ []))) h.path ∙ last_text [] 1 ps (p ∷ []);
  type_ = type_ ∙ ap (λ (s : ℕ). last_or s (map low_u32 (numbers_of 2 (p ∷ [])))) h.type_ ∙ last_low 0 2 ps (p ∷ []);
  min_vaddr = min_vaddr ∙ ap (λ (s : ℕ). last_or s (numbers_of 3 (p ∷ []))) h.min_vaddr ∙ last_number 0 3 ps (p ∷ []);
  symbol = rw (symbol, texts_of-append 4 ps (p ∷ [])) (symbols_append (texts_of 4 ps) (texts_of 4 (p ∷ [])) old.symbol ss h.symbol symbols);
  info = rw (flat_map-append infos_in ps (p ∷ [])) (infos_more (infos_of ps) (infos_of (p ∷ [])) old.info new.info h.info info);
}
