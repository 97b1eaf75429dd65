-- Consecutive debug entries.
use Rattle.std.proofs.Common.{◌≡◌, ℕ, List, [], ◌∷◌, ◌++◌, refl, subst}
use Rattle.std.specs.declared.io.Error.{Error}
use Rattle.perfdata_jit.specs.JitRecords.{IsDebugEntry, AreDebugEntries, IsDebugEntriesError}
use Rattle.perfdata_jit.specs.declared.records.JitCodeDebugInfoEntry.{JitCodeDebugInfoEntry}

-- one more entry follows them
pub entries_more : (number : ℕ → List ℕ → ℕ) (bytes mid rest : List ℕ) (entries : List JitCodeDebugInfoEntry) (entry : JitCodeDebugInfoEntry)
    → AreDebugEntries number bytes entries mid → IsDebugEntry number mid entry rest → AreDebugEntries number bytes (entries ++ entry ∷ []) rest
entries_more number bytes mid rest [] entry are is = (rest, subst (λ l. IsDebugEntry number l entry rest) are is, refl)
entries_more number bytes mid rest (one ∷ entries) entry are is = (are.0, are.1, entries_more number are.0 mid rest entries entry are.2 is)

-- the same error for equal counts and bytes
pub entries_error_at : (number : ℕ → List ℕ → ℕ) (n m : ℕ) (bytes body : List ℕ) (e : Error) → n ≡ m → bytes ≡ body → IsDebugEntriesError number n bytes e → IsDebugEntriesError number m body e
entries_error_at number n m bytes body e same is error = subst (λ l. IsDebugEntriesError number m l e) is (subst (λ k. IsDebugEntriesError number k bytes e) same error)
