-- Lists of consecutive records, one record longer.
use Rattle.std.proofs.Common.{◌≡◌, ℕ, ◌+◌, ◌++◌, List, [], ◌∷◌, length, ap, ◌∙◌, subst, arith, length-append}
use Rattle.std.specs.List.{concat}
use Rattle.std.proofs.lemmas.List.{append-nil}
use Rattle.std.proofs.lemmas.List.Folds.{concat-append}
use Rattle.perfdata_sources.specs.declared.endian.Endianness.{Endianness}
use Rattle.perfdata_jit.specs.RecordBytes.{AreRecords, IsOneRecord}

-- the bytes of one more record follow those of the others
pub concat-snoc : (raw_records : List (List ℕ)) (next : List ℕ) → concat (raw_records ++ next ∷ []) ≡ concat raw_records ++ next
concat-snoc raw_records next = concat-append raw_records (next ∷ []) ∙ ap (λ l. concat raw_records ++ l) (append-nil next)

-- a record at the end of consecutive records follows them
pub records-snoc : (endian : Endianness) (offset : ℕ) (raw_records : List (List ℕ)) (next : List ℕ) → AreRecords endian offset raw_records → IsOneRecord endian (offset + length (concat raw_records)) next → AreRecords endian offset (raw_records ++ next ∷ [])
records-snoc endian offset [] next are is = (subst (λ n. IsOneRecord endian n next) (let e : offset + 0 ≡ offset = omega arith in e) is, tt)
records-snoc endian offset (raw ∷ raw_records) next are is =
    let sum : offset + length (raw ++ concat raw_records) ≡ (offset + length raw) + length (concat raw_records) = omega (arith, length-append raw (concat raw_records)) in
    (are.0, records-snoc endian (offset + length raw) raw_records next are.1 (subst (λ n. IsOneRecord endian n next) sum is))
