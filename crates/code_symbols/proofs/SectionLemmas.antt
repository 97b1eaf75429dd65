-- The flags of sections.
use Rattle.std.proofs.Common.{◌≡◌, ℕ, ◌+◌, ◌<◌, inl, inr, Bool, false, List, [], ◌∷◌, ◌++◌, length, get_or, length-append, sym, ap, subst, ◌∙◌, arith}
use Rattle.std.specs.Prelude.{◌↔◌, IsTrue}
use Rattle.std.proofs.Math.Seq.{get_or-append_seam}
use Rattle.std.proofs.lemmas.Bool.{cases_lt}
use Rattle.std.proofs.lemmas.List.{get_or_append_left, get_or_default}
use Rattle.bstr.specs.Text.{Contains}
use Rattle.code_symbols.specs.Strings.{string_in}
use Rattle.code_symbols.specs.SymbolTables.{AreFlagsBefore}
use Rattle.code_symbols.specs.declared.elf.header.Section.{Section}

abbrev text_name : List ℕ
text_name = 116 ∷ 101 ∷ 120 ∷ 116 ∷ []

-- the flag of one more section
pub flags_more : (names : List ℕ) (sections : List Section) (flags : List Bool) (n : ℕ) (d : Section) (flag : Bool) (name : List ℕ) → n < length sections
    → name ≡ string_in names (get_or sections n d).name → (IsTrue flag ↔ Contains name text_name) → AreFlagsBefore names sections flags n
    → AreFlagsBefore names sections (flags ++ flag ∷ []) (n + 1)
flags_more names sections flags n d flag name within name_is holds f = record {
  size = omega (arith, length-append flags (flag ∷ []), f.size);
  each = λ i s lt is. elim (cases_lt i n) [
    | inl less ↦
        let before : i < length flags = omega (arith, less, f.size) in
        subst (λ b. IsTrue b ↔ Contains (string_in names s.name) text_name) (sym (get_or_append_left flags (flag ∷ []) false i before)) (f.each i s less is)
    | inr more ↦
        let same : i ≡ n = omega (arith, lt, more) in
        let last : get_or (flags ++ flag ∷ []) i false ≡ flag = ap (λ k. get_or (flags ++ flag ∷ []) k false) (same ∙ sym f.size) ∙ get_or-append_seam flags flag [] false in
        let element : s ≡ get_or sections n d = is ∙ ap (λ k. get_or sections k s) same ∙ get_or_default sections n s d within in
        let named : name ≡ string_in names s.name = name_is ∙ ap (λ x. string_in names x.name) (sym element) in
        subst (λ b. IsTrue b ↔ Contains (string_in names s.name) text_name) (sym last) (subst (λ t. IsTrue flag ↔ Contains t text_name) named holds)
  ];
}

-- the section that stands for one outside a list
abbrev pub no_section : Section
no_section = record {
  name = 0;
  section_type = 0;
  is_code = false;
  is_compressed = false;
  address = 0;
  offset = 0;
  size = 0;
  link = 0;
  info = 0;
  entry_size = 0;
}
