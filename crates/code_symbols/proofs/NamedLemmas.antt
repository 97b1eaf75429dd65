-- Sections by their names.
use Rattle.std.proofs.Common.{ℕ, ◌+◌, ◌<◌, List, ◌++◌, length, get_or, take, drop, sym, ap, subst, ◌∙◌}
use Rattle.std.specs.Prelude.{All}
use Rattle.std.proofs.lemmas.List.{drop_more, take-append-drop, take_more}
use Rattle.std.proofs.lemmas.List.Elements.{All-push}
use Rattle.code_symbols.specs.NamedSections.{IsFirstOfName, IsNamed}
use Rattle.code_symbols.specs.declared.elf.header.Section.{Section}

module _ (names name : List ℕ) (sections : List Section) (i : ℕ) (d : Section) where
  -- one more section that doesn't have the name
  pub other_name : i < length sections → All (λ s. ¬ IsNamed names name s) (take i sections) → ¬ IsNamed names name (get_or sections i d)
      → All (λ s. ¬ IsNamed names name s) (take (i + 1) sections)
  other_name within before other =
      subst (All (λ s. ¬ IsNamed names name s)) (sym (take_more sections i d within)) (All-push (λ s. ¬ IsNamed names name s) (take i sections) (get_or sections i d) before other)

  -- the first section with the name
  pub first_name : i < length sections → All (λ s. ¬ IsNamed names name s) (take i sections) → IsNamed names name (get_or sections i d)
      → IsFirstOfName names sections name (get_or sections i d)
  first_name within before named = record {
    before = take i sections;
    after = drop (i + 1) sections;
    list = sym (take-append-drop i sections) ∙ ap (λ rest. take i sections ++ rest) (drop_more sections i d within);
    named = named;
    first = before;
  }
