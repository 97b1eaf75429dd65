-- Symbols of the entries of a procedure linkage table that are appended.
use Rattle.std.proofs.Common.{◌≡◌, ℕ, ◌+◌, ◌%◌, ◌^◌, ◌<◌, List, [], ◌∷◌, ◌++◌, length, get_or, sym, ap, ◌∙◌, append-nil, append_assoc, ◌-◌, ◌≤◌, inl, inr, take, drop, arith, length-append, length-drop}
use Rattle.std.specs.Prelude.{codes, slice_range}
use Rattle.std.proofs.lemmas.Bool.{cases_lt}
use Rattle.std.proofs.lemmas.List.{drop-append-le, take-append-le}
use Rattle.std.proofs.lemmas.List.Elements.{All-nil, All-push}
use Rattle.std.proofs.lemmas.Option.{slice_get-get_or}
use Rattle.code_symbols.specs.declared.elf.header.Section.{Section}
use Rattle.code_symbols.specs.declared.elf.plt.PltContext.{PltContext}
use Rattle.code_symbols.specs.declared.elf.plt.PltEntry.{PltEntry}
use Rattle.code_symbols.specs.declared.elf.plt.Relocation.{Relocation}
use Rattle.code_symbols.specs.declared.ranked.RankedSymbol.{RankedSymbol}
use Rattle.code_symbols.specs.declared.ranked.RankedSymbols.{RankedSymbols}
use Rattle.code_symbols.specs.PltEntries.{AddsPlt, HasText, IsMade, IsOfPlt, name_of_relocation}

-- a part of a list stays where more follows
part_stays : (names more : List ℕ) (start end : ℕ) → end ≤ length names → slice_range (names ++ more) start end ≡ slice_range names start end
part_stays names more start end within = elim (cases_lt start end) [
  | inl less ↦
      ap (take (end - start)) (drop-append-le start names more (omega (arith, less, within)))
      ∙ take-append-le (end - start) (drop start names) more (omega (arith, within, length-drop start names))
  | inr none ↦
      let zero_long : end - start ≡ 0 = omega (arith, none) in
      ap (λ k. take k (drop start (names ++ more))) zero_long ∙ sym (ap (λ k. take k (drop start names)) zero_long)
]

-- a name stays where more names follow
pub text_stays : (old more new text : List ℕ) (r : RankedSymbol) → new ≡ old ++ more → HasText old text r → HasText new text r
text_stays old more new text r is has = record {
  within = omega (arith, has.within, ap length is, length-append old more);
  is = ap (λ names. slice_range names r.symbol.name_start r.symbol.name_end) is
      ∙ part_stays old more r.symbol.name_start r.symbol.name_end has.within ∙ has.is;
}

module _ (c : PltContext) (section : Section) (entries : List PltEntry) (relocations : List Relocation) (old : RankedSymbols) where
  entry_stays : (old_names more new_names : List ℕ) → new_names ≡ old_names ++ more → (r : RankedSymbol) → IsOfPlt c section entries relocations old_names r
      → IsOfPlt c section entries relocations new_names r
  entry_stays old_names more new_names is r e = record {
    index = e.index;
    relocation = e.relocation;
    entry = e.entry;
    is = e.is;
    entry_is = e.entry_is;
    made = e.made;
    text = text_stays old_names more new_names _ r is e.text;
  }

  pub plt_none : AddsPlt c section entries relocations old old
  plt_none = record {
    added = [];
    names = [];
    appended = sym (append-nil old.symbols.items);
    appended_names = sym (append-nil old.names.items);
    each = All-nil (IsOfPlt c section entries relocations old.names.items);
  }

  -- more names alone
  pub plt_names : (now new : RankedSymbols) (more : List ℕ) → AddsPlt c section entries relocations old now → new.symbols.items ≡ now.symbols.items
      → new.names.items ≡ now.names.items ++ more → AddsPlt c section entries relocations old new
  plt_names now new more adds symbols names = record {
    added = adds.added;
    names = adds.names ++ more;
    appended = symbols ∙ adds.appended;
    appended_names = names ∙ ap (λ bytes. bytes ++ more) adds.appended_names ∙ append_assoc old.names.items adds.names more;
    each = λ k d less. entry_stays now.names.items more new.names.items names _ (adds.each k d less);
  }

  -- one more symbol
  pub plt_more : (now new : RankedSymbols) (index : ℕ) (d : Relocation) (d' : PltEntry) (more : List ℕ) (r : RankedSymbol) → AddsPlt c section entries relocations old now → index < length relocations → index < length entries
      → new.names.items ≡ now.names.items ++ more → new.symbols.items ≡ now.symbols.items ++ r ∷ []
      → IsMade ((section.offset + (get_or entries index d').offset) % 2 ^ 64) (get_or entries index d').size r
      → HasText new.names.items (name_of_relocation c (get_or relocations index d) ++ codes "@plt") r → AddsPlt c section entries relocations old new
  plt_more now new index d d' more r adds within has_entry names symbols made text = record {
    added = adds.added ++ r ∷ [];
    names = adds.names ++ more;
    appended = symbols ∙ ap (λ rs. rs ++ r ∷ []) adds.appended ∙ append_assoc old.symbols.items adds.added (r ∷ []);
    appended_names = names ∙ ap (λ bytes. bytes ++ more) adds.appended_names ∙ append_assoc old.names.items adds.names more;
    each = All-push (IsOfPlt c section entries relocations new.names.items) adds.added r (λ k d less. entry_stays now.names.items more new.names.items names _ (adds.each k d less)) (record {
      index = index;
      relocation = get_or relocations index d;
      entry = get_or entries index d';
      is = slice_get-get_or relocations index d within;
      entry_is = slice_get-get_or entries index d' has_entry;
      made = made;
      text = text;
    });
  }
