-- The metadata records that are read are those that open a pipe.
use Rattle.std.proofs.Common.{◌≡◌, ℕ, ◌^◌, ◌<◌, ◌++◌, List, [], ◌∷◌, length, refl, sym, ap, ◌∙◌, subst, arith, inl, length-append, append-nil, Option, None, Some}
use Rattle.std.specs.Prelude.{All}
use Rattle.std.specs.List.{concat}
use Rattle.std.proofs.lemmas.List.Elements.{All-nil, All-push}
use Rattle.std.proofs.lemmas.List.Folds.{concat-append}
use Rattle.perfdata_sources.specs.Source.{State, Consumed}
use Rattle.perfdata_sources.proofs.ConsumedLemmas.{consumed_none, consumed_more, consumed_none_later}
use Rattle.perfdata_sources.specs.declared.endian.Endianness.{Endianness}
use Rattle.perfdata_sections.specs.declared.error.Error.{Error}
use Rattle.linux_perf_data.specs.PipeOpening.{AreMetadata, MetadataEnded, IsMetadataRecord, FailsBy, IsMetadataReadError, IsMetadataRecordError}
use Rattle.linux_perf_data.specs.steps.PipeSteps.{CollectsMetadata, MetadataEndRead, MetadataRead, NextRecordRead}
use Rattle.linux_perf_data.specs.declared.metadata_records.PipeMetadata.{PipeMetadata}
use Rattle.linux_perf_data.proofs.PipeMetadataGrowth.{metadata_more}
use Rattle.linux_perf_data.proofs.PipeErrors.{error_later}

module _ (order : Endianness) where
  -- records are read, and their metadata accumulated
  pub record SoFar (old now : State) (m : PipeMetadata) (offset : ℕ) : Type 0 where
    pub pieces : List (List ℕ)
    pub are : All (IsMetadataRecord order) pieces
    pub consumption : Consumed old (concat pieces) now
    pub states : CollectsMetadata order pieces m
    pub at : offset ≡ length (concat pieces)
    pub fits : offset < 2 ^ 64

  pub so_none : (s : State) (m : PipeMetadata) → CollectsMetadata order [] m → SoFar s s m 0
  so_none s m states = record { pieces = []; are = All-nil (IsMetadataRecord order); consumption = consumed_none s; states = states; at = refl; fits = omega arith }

  pub so_more : (a b c : State) (m m' : PipeMetadata) (offset end : ℕ) → SoFar a b m offset → NextRecordRead order offset b m end c m' → SoFar a c m' end
  so_more a b c m m' offset end so t =
      let p = t.raw_record in
      let at = so.at in
      let ends = t.end_offset in
      let all : concat (so.pieces ++ p ∷ []) ≡ concat so.pieces ++ p = concat-append so.pieces (p ∷ []) ∙ ap (λ l. concat so.pieces ++ l) (append-nil p) in record {
        pieces = so.pieces ++ p ∷ [];
        are = All-push (IsMetadataRecord order) so.pieces p so.are t.matches;
        consumption = subst (λ l. Consumed a l c) (sym all) (consumed_more a b c (concat so.pieces) p so.consumption t.consumes);
        states = metadata_more order so.pieces p m m' so.states t.record_added;
        at = omega (arith, ap length all, length-append (concat so.pieces) p, at, ends);
        fits = t.end_fits;
      }

  metadata_so : (old now : State) (m : PipeMetadata) (offset : ℕ) (so : SoFar old now m offset) → AreMetadata order so.pieces
  metadata_so old now m offset so = record { elements = so.are; size_fits = let at = so.at in let fits = so.fits in omega (arith, at, fits) }

  pub ended_later : (a b c : State) (first_part last : List ℕ) (header : Option (List ℕ)) → Consumed a first_part b → MetadataEnded order header b last c → MetadataEnded order header a last c
  ended_later a b c first_part last None consumption ended = (ended.0, consumed_none_later a b c first_part consumption ended.1)
  ended_later a b c first_part last (Some header) consumption ended = ended

  -- the metadata records end
  pub so_ended : (a b c : State) (m m' : PipeMetadata) (offset : ℕ) (header : Option (List ℕ)) → SoFar a b m offset → MetadataEndRead order b m header c m' → (pieces : List (List ℕ)) × MetadataRead order pieces header a c × CollectsMetadata order pieces m'
  so_ended a b c m m' offset header so t = (
    so.pieces,
    record {
      last_bytes = t.last_bytes;
      elements = metadata_so a b m offset so;
      consumes = consumed_more a b c (concat so.pieces) t.last_bytes so.consumption t.consumes;
      metadata_end = ended_later a b c (concat so.pieces) t.last_bytes header so.consumption t.metadata_end;
    },
    subst (CollectsMetadata order so.pieces) (sym t.unchanged) so.states,
  )

  -- reading the next record fails
  pub so_error : (a b c : State) (m : PipeMetadata) (offset : ℕ) (e : Error) → SoFar a b m offset → FailsBy (IsMetadataRecordError order offset) b e c → FailsBy (IsMetadataReadError order) a e c
  so_error a b c m offset e so r =
      error_later (IsMetadataRecordError order offset) (IsMetadataReadError order) a b c (concat so.pieces) e so.consumption r
      (λ xs stops. record { raw_records = so.pieces; after_records = xs; split = refl; elements = metadata_so a b m offset so; cause = inl (subst (λ o. IsMetadataRecordError order o xs e) so.at stops) })
