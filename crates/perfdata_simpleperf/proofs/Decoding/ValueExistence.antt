-- Each message of complete fields has a value.
use Rattle.std.proofs.Common.{◌≡◌, ℕ, Bool, true, false, cond, inl, inr, List, [], ◌∷◌, ◌++◌, map, refl, sym, subst, append_assoc}
use Rattle.std.specs.Prelude.{◌==◌, ◌||◌}
use Rattle.std.proofs.lemmas.Bool.{cases_eq, ne_eqb}
use Rattle.std.proofs.lemmas.List.{append-nil}
use Rattle.perfdata_simpleperf.specs.declared.protobuf.field.Message.TheVariants as messages
use Rattle.perfdata_simpleperf.specs.declared.protobuf.field.FieldType.TheVariants as field_types
use Rattle.perfdata_simpleperf.specs.Protobuf.WireFormat.{Contents, number, bytes, skipped}
use Rattle.perfdata_simpleperf.specs.Protobuf.Fields.{FieldValue, field_type}
use Rattle.perfdata_simpleperf.specs.Protobuf.Messages.{IsValidContents, FieldsWith, NoNestedMessage, IsAnyLeaf, IsFileMessage}
use Rattle.perfdata_simpleperf.specs.FileRecord.{SymbolValue, Info, dex_file, elf_file, kernel_module, FileValue}
use Rattle.perfdata_simpleperf.specs.Protobuf.Values.{bytes_list, numbers_of, texts_of, texts_in, last_or, low_u32, symbol_from, no_symbol, IsSymbol, contents_in, contents_of, IsOffsets, AreOffsets, IsDex, IsAddressFrom, AreSymbols, with_field_number, infos_in, infos_of, HasValue, IsFileRecord, previous_offsets, previous_elf_offset, previous_module_offset, MergesInfos}
use Rattle.perfdata_simpleperf.proofs.Decoding.MessageSteps.{offsets_append}
use Rattle.perfdata_simpleperf.proofs.Decoding.Infos.{no_fields, value_more}

-- ---- submessages

symbol_some : (b : List ℕ) → IsAnyLeaf messages.Symbol b → (s : SymbolValue) × IsSymbol b s
symbol_some b is = (symbol_from no_symbol is.0, (is.0, is.1, refl))

address_some : (start : ℕ) (b : List ℕ) → IsAnyLeaf messages.Address b → (n : ℕ) × IsAddressFrom start b n
address_some start b is = (last_or start (numbers_of 1 is.0), (is.0, is.1, refl))

offset_some : (x : Contents) → IsValidContents NoNestedMessage field_types.Numbers x → (ns : List ℕ) × IsOffsets x ns
offset_some (number n) valid = (n ∷ [], refl)
offset_some (bytes b) valid = valid
offset_some skipped valid = ([], refl)

offsets_if : (b : Bool) (x : Contents) → IsValidContents NoNestedMessage (cond b field_types.Numbers field_types.Unknown) x → (ns : List ℕ) × AreOffsets (cond b (x ∷ []) []) ns
offsets_if true x valid = let o = offset_some x valid in (o.0 ++ [], (o.0, [], o.1, refl, refl))
offsets_if false x valid = ([], refl)

offsets_some : (bs : List ℕ) (ps : List FieldValue) (rest : List ℕ) → FieldsWith NoNestedMessage messages.Dex bs ps rest → (ns : List ℕ) × AreOffsets (contents_of 1 ps) ns
offsets_some bs [] rest f = ([], refl)
offsets_some bs (p ∷ ps) rest f =
    let a = offsets_if (p.field_number == 1) p.contents f.2 in
    let b = offsets_some f.0 ps rest f.3 in
    (a.0 ++ b.0, offsets_append (contents_in 1 p) (contents_of 1 ps) a.0 b.0 a.1 b.1)

dex_some : (b : List ℕ) → IsAnyLeaf messages.Dex b → (ns : List ℕ) × IsDex b ns
dex_some b is = let o = offsets_some b is.0 [] is.1 in (o.0, (is.0, is.1, o.1))

-- ---- symbols

symbols_in_contents : (x : Contents) → IsValidContents IsAnyLeaf (field_types.Submessage messages.Symbol) x → (ss : List SymbolValue) × AreSymbols (bytes_list x) ss
symbols_in_contents (bytes b) is = let s = symbol_some b is in (s.0 ∷ [], (s.0, [], s.1, refl, refl))
symbols_in_contents (number n) is = ([], refl)
symbols_in_contents skipped is = ([], refl)

symbols_four : (n : ℕ) (x : Contents) → n ≡ 4 → IsValidContents IsAnyLeaf (field_type messages.File n) x → (ss : List SymbolValue) × AreSymbols (cond (n == 4) (bytes_list x) []) ss
symbols_four n x four valid =
    let s = symbols_in_contents x (subst (λ (k : ℕ). IsValidContents IsAnyLeaf (field_type messages.File k) x) four valid) in
    (s.0, subst (λ (k : ℕ). AreSymbols (cond (k == 4) (bytes_list x) []) s.0) (sym four) s.1)

symbols_other : (n : ℕ) (x : Contents) → (n ≡ 4 → ⊥) → (ss : List SymbolValue) × AreSymbols (cond (n == 4) (bytes_list x) []) ss
symbols_other n x other = ([], subst (λ (b : Bool). AreSymbols (cond b (bytes_list x) []) []) (sym (ne_eqb n 4 other)) refl)

symbols_some : (p : FieldValue) → IsValidContents IsAnyLeaf (field_type messages.File p.field_number) p.contents → (ss : List SymbolValue) × AreSymbols (texts_of 4 (p ∷ [])) ss
symbols_some p valid =
    let s : (ss : List SymbolValue) × AreSymbols (texts_in 4 p) ss = elim (cases_eq p.field_number 4) [ inl four ↦ symbols_four p.field_number p.contents four valid | inr other ↦ symbols_other p.field_number p.contents other ] in
    (s.0, subst (λ (t : List (List ℕ)). AreSymbols t s.0) (sym (append-nil (texts_in 4 p))) s.1)

-- ---- infos

dex_merge : (x : Contents) (old : Info) → IsValidContents IsAnyLeaf (field_types.Submessage messages.Dex) x → (new : Info) × MergesInfos (with_field_number 5 (bytes_list x)) old new
dex_merge (bytes b) old is = let d = dex_some b is in let new = dex_file (previous_offsets old ++ d.0) in (new, (new, inl (refl, d.0, d.1, refl), refl))
dex_merge (number n) old is = (old, refl)
dex_merge skipped old is = (old, refl)

elf_merge : (x : Contents) (old : Info) → IsValidContents IsAnyLeaf (field_types.Submessage messages.Address) x → (new : Info) × MergesInfos (with_field_number 6 (bytes_list x)) old new
elf_merge (bytes b) old is = let n = address_some (previous_elf_offset old) b is in let new = elf_file n.0 in (new, (new, inr (inl (refl, n.0, n.1, refl)), refl))
elf_merge (number n) old is = (old, refl)
elf_merge skipped old is = (old, refl)

module_merge : (x : Contents) (old : Info) → IsValidContents IsAnyLeaf (field_types.Submessage messages.Address) x → (new : Info) × MergesInfos (with_field_number 7 (bytes_list x)) old new
module_merge (bytes b) old is = let n = address_some (previous_module_offset old) b is in let new = kernel_module n.0 in (new, (new, inr (inr (refl, n.0, n.1, refl)), refl))
module_merge (number n) old is = (old, refl)
module_merge skipped old is = (old, refl)

abbrev Merges : ℕ → Contents → Info → Type 0
Merges n x old = (new : Info) × MergesInfos (infos_in (record { field_number = n; contents = x })) old new

none_merged : (a b c : Bool) (xs : List (ℕ × List ℕ)) (old : Info) → a ≡ false → b ≡ false → c ≡ false → (new : Info) × MergesInfos (cond (a || b || c) xs []) old new
none_merged false false false xs old p q r = (old, refl)
none_merged true b c xs old p q r = absurd cc
none_merged false true c xs old p q r = absurd cc
none_merged false false true xs old p q r = absurd cc

merge_some : (n : ℕ) (x : Contents) (old : Info) → IsValidContents IsAnyLeaf (field_type messages.File n) x → Merges n x old
merge_some n x old valid = elim (cases_eq n 5) [
  | inl five ↦ subst (λ (k : ℕ). Merges k x old) (sym five) (dex_merge x old (subst (λ (k : ℕ). IsValidContents IsAnyLeaf (field_type messages.File k) x) five valid))
  | inr a ↦ elim (cases_eq n 6) [
    | inl six ↦ subst (λ (k : ℕ). Merges k x old) (sym six) (elf_merge x old (subst (λ (k : ℕ). IsValidContents IsAnyLeaf (field_type messages.File k) x) six valid))
    | inr b ↦ elim (cases_eq n 7) [
      | inl seven ↦ subst (λ (k : ℕ). Merges k x old) (sym seven) (module_merge x old (subst (λ (k : ℕ). IsValidContents IsAnyLeaf (field_type messages.File k) x) seven valid))
      | inr c ↦ none_merged (n == 5) (n == 6) (n == 7) (with_field_number n (bytes_list x)) old (ne_eqb n 5 a) (ne_eqb n 6 b) (ne_eqb n 7 c)
    ]
  ]
]

infos_some : (p : FieldValue) (old : Info) → IsValidContents IsAnyLeaf (field_type messages.File p.field_number) p.contents → (new : Info) × MergesInfos (infos_of (p ∷ [])) old new
infos_some p old valid =
    let i = merge_some p.field_number p.contents old valid in
    (i.0, subst (λ (xs : List (ℕ × List ℕ)). MergesInfos xs old i.0) (sym (append-nil (infos_in p))) i.1)

-- ---- the record

value_then : (ps : List FieldValue) (p : FieldValue) (old : FileValue) → HasValue ps old → IsValidContents IsAnyLeaf (field_type messages.File p.field_number) p.contents → (new : FileValue) × HasValue (ps ++ p ∷ []) new
value_then ps p old has valid =
    let s = symbols_some p valid in
    let i = infos_some p old.info valid in
    let new : FileValue = record {
      path = last_or old.path (texts_of 1 (p ∷ []));
      type_ = last_or old.type_ (map low_u32 (numbers_of 2 (p ∷ [])));
      min_vaddr = last_or old.min_vaddr (numbers_of 3 (p ∷ []));
      symbol = old.symbol ++ s.0;
      info = i.0;
    } in
    (new, value_more ps p old new s.0 has refl refl refl s.1 refl i.1)

fields_value : (qs : List FieldValue) (bs : List ℕ) (ps : List FieldValue) (old : FileValue) → HasValue ps old → FieldsWith IsAnyLeaf messages.File bs qs [] → (new : FileValue) × HasValue (ps ++ qs) new
fields_value [] bs ps old has f = (old, subst (λ (rs : List FieldValue). HasValue rs old) (sym (append-nil ps)) has)
fields_value (q ∷ qs) bs ps old has f =
    let v = value_then ps q old has f.2 in
    let w = fields_value qs f.0 (ps ++ q ∷ []) v.0 v.1 f.3 in
    (w.0, subst (λ (rs : List FieldValue). HasValue rs w.0) (append_assoc ps (q ∷ []) qs) w.1)

pub record_some : (bs : List ℕ) (ps : List FieldValue) → IsFileMessage bs ps → (v : FileValue) × IsFileRecord bs v
record_some bs ps is = let v = fields_value ps bs [] _ no_fields is in (v.0, (ps, is, v.1))
