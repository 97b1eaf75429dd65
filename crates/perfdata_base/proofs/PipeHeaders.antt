-- The result of parsing a pipe header, from the results of its steps.
use Rattle.std.proofs.Common.{◌≡◌, ℕ, ◌-◌, ◌<◌, ◌≤◌, Bool, List, length, ap, subst, sym, ◌∙◌, arith, ◌==◌, inl, inr}
use Rattle.std.proofs.lemmas.Bool.{cases_eq, eq-eqb, ne_eqb}
use Rattle.perfdata_sources.specs.Source.{State, Consumed, EndedOrPaused, SkippedUpTo, PartlyRead, SourceFailed}
use Rattle.perfdata_sources.proofs.ConsumedLemmas.{consumed_more, failed_later, consumed_none_later}
use Rattle.perfdata_base.specs.PipeHeader.{pipe_header_of, PipeHeaderWithExtraParsed, IsExtraComplete, ExtraReadError}
use Rattle.perfdata_base.specs.declared.header.pipe.PerfPipeHeader.{PerfPipeHeader}

-- all extra bytes were skipped, or fewer because the source ended or paused
complete_or_not : (a b c : State) (bytes extra : List ℕ) (count n : ℕ) → Consumed a bytes b → length extra ≡ n → n ≤ count → (n < count → EndedOrPaused b c) → IsExtraComplete count a extra (n == count) c
complete_or_not a b c bytes extra count n consumed long within less = elim (cases_eq n count) [
  | inl is ↦ subst (λ w. IsExtraComplete count a extra w c) (sym (eq-eqb n count is)) (long ∙ is)
  | inr isnt ↦ subst (λ w. IsExtraComplete count a extra w c) (sym (ne_eqb n count isnt)) (omega (arith, long, within, isnt), consumed_none_later a b c bytes consumed (less (omega (arith, within, isnt))))
]

-- 16 bytes were read, and the extra bytes skipped, all or some of them
pub whole_prefix : (a b c : State) (bytes : List ℕ) (h : PerfPipeHeader) (count n : ℕ) (whole : Bool) → length bytes ≡ 16 → h ≡ pipe_header_of bytes → Consumed a bytes b
    → count ≡ h.size - 16 → SkippedUpTo b count n c → whole ≡ (n == count) → PipeHeaderWithExtraParsed a h whole c
whole_prefix a b c bytes h count n whole long is consumed counts skipped shows = record {
  bytes = bytes;
  exact_len = long;
  matches = is;
  extra = skipped.bytes;
  consumes = consumed_more a b c bytes skipped.bytes consumed skipped.consumes;
  extra_complete = subst (λ w. IsExtraComplete (h.size - 16) a skipped.bytes w c) (sym shows)
      (subst (λ k. IsExtraComplete k a skipped.bytes (n == count) c) counts (complete_or_not a b c bytes skipped.bytes count n consumed skipped.exact_len skipped.within skipped.if_incomplete));
}

-- the source failed in the extra bytes
pub failed_after : (a b c : State) (bytes : List ℕ) (h : PerfPipeHeader) (count : ℕ) → length bytes ≡ 16 → h ≡ pipe_header_of bytes → Consumed a bytes b
    → count ≡ h.size - 16 → PartlyRead b count c → SourceFailed b c → ExtraReadError a c
failed_after a b c bytes h count long is consumed counts consumed_part failed = record {
  bytes = bytes;
  exact_len = long;
  consumed_bytes = consumed_part.consumed_bytes;
  too_few = subst (λ k. length consumed_part.consumed_bytes < k) (counts ∙ ap (λ x. x.size - 16) is) consumed_part.too_few;
  consumes = consumed_more a b c bytes consumed_part.consumed_bytes consumed consumed_part.consumes;
  source_failed = failed_later a b c bytes consumed failed;
}
