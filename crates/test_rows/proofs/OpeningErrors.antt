-- The errors of opening bytes in memory are errors of these bytes.
use Rattle.std.proofs.Common.{◌≡◌, ◌≢◌, ℕ, ◌++◌, List, [], ◌∷◌, refl, sym, subst, ◌∙◌, append-nil, Option, None, Some, inl, inr}
use Rattle.std.specs.Prelude.{IfSome, IsTrue}
use Rattle.perfdata_sources.specs.Source.{State, Position, EndedOrPaused, prepend}
use Rattle.perfdata_sections.specs.declared.error.Error.{Error}
use Rattle.perfdata_sections.specs.declared.error.Error.TheVariants.{Memory}
use Rattle.linux_perf_data.specs.FileOpening.{IsFileError, SourceErrorInOpening}
use Rattle.linux_perf_data.specs.OpenedFile.{FileParseError}
use Rattle.linux_perf_data.specs.OpenedPipe.{PipeParseError}
use Rattle.linux_perf_data.specs.PipeOpening.{IsPipeError}

-- the consumed bytes are a prefix of all bytes
prefix_of : (bytes consumed : List ℕ) (unread : Option (List ℕ)) → Some bytes ≡ prepend consumed unread → (rest : List ℕ) × (bytes ≡ consumed ++ rest) × (unread ≡ Some rest)
prefix_of bytes consumed None is = cc
prefix_of bytes consumed (Some rest) is = (rest, cc, refl)

module _ (old : State) (steady : IsTrue old.steady) where
  no_source_error : (e : Error) (new : State) → SourceErrorInOpening old e new → ⊥
  no_source_error e new (inl failed) = failed.1.not_steady steady
  no_source_error e new (inr (inl paused)) = paused.1.not_steady steady
  no_source_error e new (inr (inr (is, inl failed))) = failed.not_steady steady
  no_source_error e new (inr (inr (is, inr paused))) = paused.not_steady steady

  pub file_open_error : (p : Position) (e : Error) → old.position ≡ Some p → FileParseError old e → e ≢ Memory → IsFileError p e
  file_open_error p e at error other = elim (error.cause other) [
    | inl visible ↦ subst (λ o. IfSome o (λ p. IsFileError p e)) at visible
    | inr source ↦ absurd (no_source_error e error.final_state source)
  ]

  -- the errors of a pipe whose consumed bytes are its first, and all if the source ended
  at_end : (bytes consumed rest : List ℕ) (e : Error) (new : State) → bytes ≡ consumed ++ rest → new.bytes ≡ Some rest → EndedOrPaused old new → IsPipeError consumed e → IsPipeError bytes e
  at_end bytes consumed [] e new is none ended stops = subst (λ l. IsPipeError l e) (sym (is ∙ append-nil consumed)) stops
  at_end bytes consumed (x ∷ xs) e new is some ended stops = absurd ((ended (λ none. (let none_left : Some (x ∷ xs) ≡ Some [] = sym some ∙ none in absurd cc))).not_steady steady)

  pub pipe_open_error : {R : Type 0} (state : R → State) (bytes : List ℕ) (e : Error) → old.bytes ≡ Some bytes → PipeParseError state old e → e ≢ Memory → IsPipeError bytes e
  pipe_open_error state bytes e known parsed other =
      let error = parsed.error in
      let split = prefix_of bytes error.consumed_bytes parsed.final_state.bytes (sym known ∙ error.consumes.bytes) in
      elim (error.cause other) [
        | inl each ↦ subst (λ l. IsPipeError l e) (sym split.1) (each split.0)
        | inr cause ↦ elim cause [
          | inl ended ↦ at_end bytes error.consumed_bytes split.0 e parsed.final_state split.1 split.2 ended.0 ended.1
          | inr failed ↦ absurd (failed.1.not_steady steady)
        ]
      ]
