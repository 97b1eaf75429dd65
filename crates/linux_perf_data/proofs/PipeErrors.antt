-- The errors of a pipe's opening, relative to the state in which a read started.
use Rattle.std.proofs.Common.{◌≡◌, ◌≢◌, ℕ, ◌+◌, ◌-◌, ◌^◌, ◌<◌, ◌≤◌, ◌++◌, List, [], length, refl, sym, subst, arith, inl, inr, ◌∙◌, append_assoc}
use Rattle.std.specs.Prelude.{◌⊎◌, Ok, Err}
use Rattle.perfdata_sources.specs.Source.{State, Consumed}
use Rattle.perfdata_sources.proofs.ConsumedLemmas.{consumed_none, consumed_more, consumed_none_later, failed_later}
use Rattle.perfdata_sources.specs.declared.endian.Endianness.{Endianness}
use Rattle.perfdata_sources.specs.declared.event.record_header.PerfEventHeader.{PerfEventHeader}
use Rattle.perfdata_sections.specs.Error.{IsUnexpectedEof}
use Rattle.perfdata_sections.specs.declared.error.Error.{Error}
use Rattle.perfdata_sections.specs.declared.error.Error.TheVariants.{Memory, Read}
use Rattle.perfdata_sections.specs.declared.error.ReadError.TheVariants.{PerfEventData}
use Rattle.linux_perf_data.specs.LateMetadata.{IsMetadataError}
use Rattle.linux_perf_data.specs.steps.RecordFraming.{ChecksRecordEnd, BytesRead}
use Rattle.linux_perf_data.specs.PipeOpening.{FailsBy}

-- an error after consumed bytes is an error of all bytes
pub error_later : (Stops Stops' : List ℕ → Error → Type 0) (a b c : State) (first_part : List ℕ) (e : Error) → Consumed a first_part b → FailsBy Stops b e c → ((xs : List ℕ) → Stops xs e → Stops' (first_part ++ xs) e) → FailsBy Stops' a e c
error_later Stops Stops' a b c first_part e before r more = record {
  consumed_bytes = first_part ++ r.consumed_bytes;
  consumes = consumed_more a b c first_part r.consumed_bytes before r.consumes;
  cause = λ m. elim (r.cause m) [
    | inl shows ↦ inl (λ rest. subst (λ l. Stops' l e) (sym (append_assoc first_part r.consumed_bytes rest)) (more (r.consumed_bytes ++ rest) (shows rest)))
    | inr (inl (none, stops)) ↦ inr (inl (consumed_none_later a b c first_part before none, more r.consumed_bytes stops))
    | inr (inr (io, failed)) ↦ inr (inr (io, failed_later a b c first_part before failed))
  ];
}

pub error_by : (Stops Stops' : List ℕ → Error → Type 0) (a b : State) (e : Error) → FailsBy Stops a e b → ((xs : List ℕ) → Stops xs e → Stops' xs e) → FailsBy Stops' a e b
error_by Stops Stops' a b e r more = error_later Stops Stops' a a b [] e (consumed_none a) r more

-- the consumed bytes determine the error
pub shows : (Stops : List ℕ → Error → Type 0) (a b : State) (part_read : List ℕ) (e : Error) → Consumed a part_read b → (e ≢ Memory → (rest : List ℕ) → Stops (part_read ++ rest) e) → FailsBy Stops a e b
shows Stops a b part_read e consumption stops = record { consumed_bytes = part_read; consumes = consumption; cause = λ m. inl (stops m) }

-- ---- what follows a record header

module _ (order : Endianness) (offset : ℕ) (header : PerfEventHeader) where
  -- The body after a record header has an error: it ends at 2^64 or later, is truncated, or contains invalid metadata of its
  -- type.
  abbrev pub IsContentsError : List ℕ → Error → Type 0
  IsContentsError xs e =
      ((e ≡ Read PerfEventData) × (2 ^ 64 ≤ offset + header.size))
      ⊎ ((IsUnexpectedEof e × (offset + header.size < 2 ^ 64) × (length xs < header.size - 8))
      ⊎ ((offset + header.size < 2 ^ 64) × ((body : List ℕ) × (rest : List ℕ) × (xs ≡ body ++ rest) × (length body ≡ header.size - 8) × IsMetadataError order header.type_ body e)))

  -- its end offset is out of range
  pub end_overflows : (a : State) (e : Error) → ChecksRecordEnd offset header.size (Err e) → FailsBy IsContentsError a e a
  end_overflows a e (is, overflows) = shows IsContentsError a a [] e (consumed_none a) (λ m rest. inl (is, overflows))

  -- its body is truncated
  pub truncated : (a b : State) (e : Error) (end count : ℕ) → ChecksRecordEnd offset header.size (Ok end) → count ≡ header.size - 8 → FailsBy (λ xs e. IsUnexpectedEof e × (length xs < count)) a e b → FailsBy IsContentsError a e b
  truncated a b e end count (ends, fits) is r =
      error_by (λ xs e. IsUnexpectedEof e × (length xs < count)) IsContentsError a b e r (λ xs stops. inr (inl (stops.0, omega (arith, ends, fits), (let too_few = stops.1 in omega (arith, too_few, is)))))

  -- its body has an error
  pub invalid_metadata : (a b : State) (e : Error) (end count : ℕ) (body : List ℕ) → ChecksRecordEnd offset header.size (Ok end) → count ≡ header.size - 8 → BytesRead a count body b → (e ≢ Memory → IsMetadataError order header.type_ body e) → FailsBy IsContentsError a e b
  invalid_metadata a b e end count body (ends, fits) is read invalid =
      shows IsContentsError a b body e read.consumes (λ m rest. inr (inr (omega (arith, ends, fits), (body, rest, refl, read.exact_len ∙ is, invalid m))))
