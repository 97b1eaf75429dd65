-- Symbols of entries that are appended.
use Rattle.std.proofs.Common.{◌≡◌, ℕ, ◌+◌, ◌*◌, ◌≤◌, List, [], ◌∷◌, ◌++◌, length, sym, subst, ap, ◌∙◌, arith, append_assoc}
use Rattle.std.proofs.lemmas.List.{append-nil}
use Rattle.std.specs.Prelude.{slice_range}
use Rattle.std.proofs.lemmas.List.Elements.{All-push}
use Rattle.code_symbols.specs.declared.elf.symbols.ElfSymbol.{ElfSymbol}
use Rattle.code_symbols.specs.declared.elf.symbols.SymbolContext.{SymbolContext}
use Rattle.code_symbols.specs.declared.ranked.RankedSymbol.{RankedSymbol}
use Rattle.code_symbols.specs.ElfSymbols.{AddsEntries, AddsFirst, IsLeftOut, IsListed, IsOfEntry, IsRanked, elf_symbol_in, entry_at, entry_left_out, entry_listed, no_entry}

module _ (c : SymbolContext) (entries : List ℕ) (size : ℕ) where
  -- one more symbol
  pub adds_more : (old new : List RankedSymbol) (r : RankedSymbol) → AddsEntries c entries size old new → IsOfEntry c entries size r → AddsEntries c entries size old (new ++ r ∷ [])
  adds_more old new r adds is = record {
    added = adds.added ++ r ∷ [];
    appended = ap (λ rs. rs ++ r ∷ []) adds.appended ∙ append_assoc old adds.added (r ∷ []);
    each = All-push (IsOfEntry c entries size) adds.added r adds.each is;
  }

  -- the symbol of the entry at an offset
  pub of_entry : (index at : ℕ) (s : ElfSymbol) (r : RankedSymbol) → at ≡ index * size → at + size ≤ length entries → s ≡ elf_symbol_in c.header.encoding (slice_range entries at (at + size)) → IsRanked c s index r → IsOfEntry c entries size r
  of_entry index at s r counted within symbol ranked = record {
    index = index;
    within = subst (λ k. k + size ≤ length entries) counted within;
    ranked = subst (λ k. IsRanked c (elf_symbol_in c.header.encoding (slice_range entries k (k + size))) index r) counted (subst (λ x. IsRanked c x index r) symbol ranked);
  }

  -- the entry that was read is that at its index
  is_entry : (index at : ℕ) (s : ElfSymbol) → at ≡ index * size → s ≡ elf_symbol_in c.header.encoding (slice_range entries at (at + size)) → s ≡ entry_at c.header.encoding entries size index
  is_entry index at s counted symbol = symbol ∙ ap (λ k. elf_symbol_in c.header.encoding (slice_range entries k (k + size))) counted

  -- no symbol so far
  pub first_none : (old : List RankedSymbol) → AddsFirst c entries size 0 old old
  first_none old = record { added = []; appended = sym (append-nil old); of_first = no_entry }

  -- the next entry has no symbol
  pub first_left_out : (index at : ℕ) (old new : List RankedSymbol) (s : ElfSymbol) → AddsFirst c entries size index old new
      → at ≡ index * size → s ≡ elf_symbol_in c.header.encoding (slice_range entries at (at + size)) → IsLeftOut c s index → AddsFirst c entries size (index + 1) old new
  first_left_out index at old new s adds counted symbol out = record {
    added = adds.added;
    appended = adds.appended;
    of_first = entry_left_out index adds.added adds.of_first (subst (λ x. IsLeftOut c x index) (is_entry index at s counted symbol) out);
  }

  -- the next entry has this symbol
  pub first_listed : (index at : ℕ) (old new : List RankedSymbol) (s : ElfSymbol) (r : RankedSymbol) → AddsFirst c entries size index old new
      → at ≡ index * size → s ≡ elf_symbol_in c.header.encoding (slice_range entries at (at + size)) → IsRanked c s index r → IsListed c s index r
      → AddsFirst c entries size (index + 1) old (new ++ r ∷ [])
  first_listed index at old new s r adds counted symbol ranked is_listed =
      let same = is_entry index at s counted symbol in
      record {
        added = adds.added ++ r ∷ [];
        appended = ap (λ rs. rs ++ r ∷ []) adds.appended ∙ append_assoc old adds.added (r ∷ []);
        of_first = entry_listed index adds.added r adds.of_first (subst (λ x. IsRanked c x index r) same ranked) (subst (λ x. IsListed c x index r) same is_listed);
      }

-- the offset of the next entry
pub next_offset : (index at size : ℕ) → at ≡ index * size → at + size ≡ (index + 1) * size
next_offset index at size counted = grind (arith, counted)
