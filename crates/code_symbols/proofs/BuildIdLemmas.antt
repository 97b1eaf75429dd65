-- The first range of notes with a build id.
use Rattle.std.proofs.Common.{◌≡◌, ℕ, ◌+◌, ◌<◌, ◌≤◌, List, ◌++◌, length, get_or, take, drop, Option, None, Some, false, sym, ap, subst, ◌∙◌}
use Rattle.std.specs.Prelude.{All, IfSome}
use Rattle.std.proofs.lemmas.List.{drop_more, take-append-drop, take_all}
use Rattle.std.proofs.lemmas.List.Elements.{All-more}
use Rattle.code_symbols.specs.BuildIds.{IsFirstId, IsIdInRange}
use Rattle.code_symbols.specs.declared.elf.input.Encoding.{Encoding}
use Rattle.code_symbols.specs.declared.elf.notes.NoteRange.{NoteRange}

-- the range that stands for one outside a list
abbrev pub no_range : NoteRange
no_range = record { offset = 0; size = 0; has_align_8 = false }

module _ (e : Encoding) (ranges : List NoteRange) (i : ℕ) where
  -- the ranges before an index have no build id
  abbrev pub NoneBefore : List ℕ → Type 0
  NoneBefore all = All (λ r. IsIdInRange e all r None) (take i ranges)

  -- the next one neither
  pub none_more : (image now : Option (List ℕ)) → i < length ranges → now ≡ image → IfSome image NoneBefore → IfSome now (λ all. IsIdInRange e all (get_or ranges i no_range) None)
      → IfSome image (λ all. All (λ r. IsIdInRange e all r None) (take (i + 1) ranges))
  none_more None now within same none here = tt
  none_more (Some all) now within same none here =
      All-more (λ r. IsIdInRange e all r None) ranges i no_range within none (subst (λ o. IfSome o (λ bytes. IsIdInRange e bytes (get_or ranges i no_range) None)) same here)

  -- the next one has a build id
  pub found_id : (image now : Option (List ℕ)) (id : List ℕ) → i < length ranges → now ≡ image → IfSome image NoneBefore
      → IfSome now (λ all. IsIdInRange e all (get_or ranges i no_range) (Some id)) → IfSome image (λ all. IsFirstId e all ranges id)
  found_id None now id within same none here = tt
  found_id (Some all) now id within same none here = record {
    before = take i ranges;
    range = get_or ranges i no_range;
    after = drop (i + 1) ranges;
    list = sym (take-append-drop i ranges) ∙ ap (λ rest. take i ranges ++ rest) (drop_more ranges i no_range within);
    none = none;
    found = subst (λ o. IfSome o (λ bytes. IsIdInRange e bytes (get_or ranges i no_range) (Some id))) same here;
  }

  -- none has one
  pub none_found : (image : Option (List ℕ)) → length ranges ≤ i → IfSome image NoneBefore → IfSome image (λ all. All (λ r. IsIdInRange e all r None) ranges)
  none_found None all_before none = tt
  none_found (Some all) all_before none = subst (All (λ r. IsIdInRange e all r None)) (take_all i ranges all_before) none
