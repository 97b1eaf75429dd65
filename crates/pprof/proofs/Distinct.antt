-- Rows of which none is there twice.
use Rattle.std.proofs.Common.{◌≡◌, ◌∙◌, ◌&&◌, ◌==◌, ◌-◌, ◌⊎◌, inl, inr, ap, cond, refl, sym, subst, true≢false, ℕ, zero, suc, Bool, true, false, List, [], ◌∷◌, ◌++◌, length, map, slice_get, Some, Result, Ok, Err, IfOk}
use Rattle.std.proofs.lemmas.Bool.Decides.{Decides-and, Decides-eqb}
use Rattle.std.proofs.lemmas.List.{length-map, map-append}
use Rattle.std.proofs.lemmas.Slice.Eq.{slice_eq-Decides}
use Rattle.std.specs.Bool.{Decides}
use Rattle.std.specs.Cmp.Lexicographic.{pointwise}
use Rattle.indexmap.specs.IndexSet.{insert_key}
use Rattle.std.proofs.lemmas.Map.Keys.{IsDistinct-head, IsDistinct-tail}
use Rattle.std.specs.List.{AllByRecursion, IsDistinct, list_any}
use Rattle.pprof.specs.Builders.{place_of}
use Rattle.pprof.specs.Rows.{AreDistinct, Identifies, IsAbsent, IsId}
use Rattle.pprof.specs.Tables.{Place}
use Rattle.pprof.specs.steps.Rows.{IdentifiesBy}
use Rattle.pprof.specs.declared.builder.FunctionNames.{FunctionNames}
use Rattle.pprof.specs.declared.builder.MappedFile.{MappedFile}
use Rattle.pprof.specs.declared.builder.LocationRow.{LocationRow}
use Rattle.pprof.specs.declared.profile.Line.{Line}
use Rattle.pprof.specs.declared.profile.ValueType.{ValueType}
use Rattle.pprof.proofs.Interning.{at_map, or_none, some_same}

holds_at : {A : Type 0} → (P : A → Type 0) (xs : List A) (index : ℕ) (x : A) → AllByRecursion P xs → slice_get xs index ≡ Some x → P x
holds_at P [] index x all at = cc
holds_at {A} P (y ∷ xs) zero x all at = subst P (some_same y x at) all.0
holds_at P (y ∷ xs) (suc index) x all at = holds_at P xs index x all.1 at

-- Rows of which no two are the same by a test that says so of a row and itself.
pub distinct_rows : {A : Type 0} → (eq : A → A → Bool) (reflexive : (x : A) → eq x x ≡ true) (xs : List A) → IsDistinct eq xs → AreDistinct xs
distinct_rows eq reflexive [] apart first second row at also = cc
distinct_rows eq reflexive (x ∷ xs) apart zero zero row at also = refl
distinct_rows {A} eq reflexive (x ∷ xs) apart zero (suc second) row at also =
    let other = holds_at (λ y. eq x y ≡ false) xs second row (IsDistinct-head eq x xs apart) also in
    absurd (true≢false (sym (reflexive x) ∙ ap (eq x) (some_same x row at) ∙ other))
distinct_rows {A} eq reflexive (x ∷ xs) apart (suc first) zero row at also =
    let other = holds_at (λ y. eq x y ≡ false) xs first row (IsDistinct-head eq x xs apart) at in
    absurd (true≢false (sym (reflexive x) ∙ ap (eq x) (some_same x row also) ∙ other))
distinct_rows eq reflexive (x ∷ xs) apart (suc first) (suc second) row at also =
    ap suc (distinct_rows eq reflexive xs (IsDistinct-tail eq x xs apart) first second row at also)

-- A row that no row equals is absent.
pub absent_row : {A : Type 0} → (eq : A → A → Bool) (reflexive : (x : A) → eq x x ≡ true) (row : A) (xs : List A) → list_any (eq row) xs ≡ false → IsAbsent xs row
absent_row eq reflexive row [] none index is = cc
absent_row eq reflexive row (x ∷ xs) none zero is =
    true≢false (sym (reflexive row) ∙ ap (eq row) (sym (some_same x row is)) ∙ (or_none (eq row x) (list_any (eq row) xs) none).0)
absent_row eq reflexive row (x ∷ xs) none (suc index) is =
    absent_row eq reflexive row xs (or_none (eq row x) (list_any (eq row) xs) none).1 index is

same_number : (n : ℕ) → (n == n) ≡ true
same_number n = (Decides-eqb n n).1 refl

both : (a b : Bool) → a ≡ true → b ≡ true → (a && b) ≡ true
both a b is also = ap (λ (x : Bool). x && b) is ∙ also

abbrev pub eq_file : MappedFile → MappedFile → Bool
eq_file a b = (a.memory_start == b.memory_start) && ((a.memory_limit == b.memory_limit) && ((a.file_offset == b.file_offset) && ((a.filename == b.filename) && (a.build_id == b.build_id))))

pub same_file : (row : MappedFile) → eq_file row row ≡ true
same_file row = (both (row.memory_start == row.memory_start) ((row.memory_limit == row.memory_limit) && ((row.file_offset == row.file_offset) && ((row.filename == row.filename) && (row.build_id == row.build_id)))) (same_number row.memory_start) (both (row.memory_limit == row.memory_limit) ((row.file_offset == row.file_offset) && ((row.filename == row.filename) && (row.build_id == row.build_id))) (same_number row.memory_limit) (both (row.file_offset == row.file_offset) ((row.filename == row.filename) && (row.build_id == row.build_id)) (same_number row.file_offset) (both (row.filename == row.filename) ((row.build_id == row.build_id)) (same_number row.filename) (same_number row.build_id)))))

abbrev pub eq_names : FunctionNames → FunctionNames → Bool
eq_names a b = (a.name == b.name) && ((a.system_name == b.system_name) && (a.filename == b.filename))

pub same_names : (row : FunctionNames) → eq_names row row ≡ true
same_names row = (both (row.name == row.name) ((row.system_name == row.system_name) && (row.filename == row.filename)) (same_number row.name) (both (row.system_name == row.system_name) (row.filename == row.filename) (same_number row.system_name) (same_number row.filename)))

abbrev pub eq_line : Line → Line → Bool
eq_line a b = (a.function_id == b.function_id) && (a.line == b.line)

line-Decides : (a b : Line) → Decides (eq_line a b) (a ≡ b)
line-Decides a b =
    let parts = Decides-and (a.function_id == b.function_id) (a.line == b.line) (Decides-eqb a.function_id b.function_id) (Decides-eqb a.line b.line) in (
      (λ is. let p = parts.0 is in λ i. record { function_id = p.0 i; line = p.1 i }),
      (λ is. parts.1 (ap (λ (l : Line). l.function_id) is, ap (λ (l : Line). l.line) is)),
    )

lines-Decides : (xs ys : List Line) → Decides (pointwise eq_line xs ys) (xs ≡ ys)
lines-Decides xs ys = slice_eq-Decides line-Decides xs ys (pointwise eq_line xs ys) refl

abbrev pub eq_place : LocationRow → LocationRow → Bool
eq_place a b = (a.mapping_id == b.mapping_id) && ((a.address == b.address) && pointwise eq_line a.lines.items b.lines.items)

-- Locations are the same if they are so apart from their vectors' memory.
pub place-Decides : (a b : LocationRow) → Decides (eq_place a b) (place_of a ≡ place_of b)
place-Decides a b =
    let rest = Decides-and (a.address == b.address) (pointwise eq_line a.lines.items b.lines.items) (Decides-eqb a.address b.address) (lines-Decides a.lines.items b.lines.items) in
    let parts = Decides-and (a.mapping_id == b.mapping_id) ((a.address == b.address) && pointwise eq_line a.lines.items b.lines.items) (Decides-eqb a.mapping_id b.mapping_id) rest in (
      (λ is. let p = parts.0 is in λ i. record { mapping_id = p.0 i; address = p.1.0 i; lines = p.1.1 i }),
      (λ is. parts.1 (ap (λ (l : Place). l.mapping_id) is, (ap (λ (l : Place). l.address) is, ap (λ (l : Place). l.lines) is))),
    )

mapped_at : {A B : Type 0} → (f : A → B) (xs : List A) (index : ℕ) (y : B) → slice_get (map f xs) index ≡ Some y → ((x : A) × (slice_get xs index ≡ Some x) × (f x ≡ y))
mapped_at f [] index y is = cc
mapped_at f (x ∷ xs) zero y is = (x, refl, some_same (f x) y is)
mapped_at f (x ∷ xs) (suc index) y is = mapped_at f xs index y is

-- Values of rows of which no two are the same by a test of their values.
module _ {A B : Type 0} (eq : A → A → Bool) (f : A → B) (same : (x y : A) → Decides (eq x y) (f x ≡ f y)) where
  pub distinct_values : (xs : List A) → IsDistinct eq xs → AreDistinct (map f xs)
  distinct_values [] apart first second row at also = cc
  distinct_values (x ∷ xs) apart zero zero row at also = refl
  distinct_values (x ∷ xs) apart zero (suc second) row at also =
      let y = mapped_at f xs second row also in
      let other = holds_at (λ z. eq x z ≡ false) xs second y.0 (IsDistinct-head eq x xs apart) y.1 in
      absurd (true≢false (sym ((same x y.0).1 (some_same (f x) row at ∙ sym y.2)) ∙ other))
  distinct_values (x ∷ xs) apart (suc first) zero row at also =
      let y = mapped_at f xs first row at in
      let other = holds_at (λ z. eq x z ≡ false) xs first y.0 (IsDistinct-head eq x xs apart) y.1 in
      absurd (true≢false (sym ((same x y.0).1 (some_same (f x) row also ∙ sym y.2)) ∙ other))
  distinct_values (x ∷ xs) apart (suc first) (suc second) row at also =
      ap suc (distinct_values xs (IsDistinct-tail eq x xs apart) first second row at also)

  -- The value of a row that no row equals is absent.
  pub absent_value : (row : A) (xs : List A) → list_any (eq row) xs ≡ false → IsAbsent (map f xs) (f row)
  absent_value row [] none index is = cc
  absent_value row (x ∷ xs) none zero is =
      true≢false (sym ((same row x).1 (sym (some_same (f x) (f row) is))) ∙ (or_none (eq row x) (list_any (eq row) xs) none).0)
  absent_value row (x ∷ xs) none (suc index) is =
      absent_value row xs (or_none (eq row x) (list_any (eq row) xs) none).1 index is

  added : (old new : List A) (row : A) → new ≡ insert_key eq old row → (map f new ≡ map f old) ⊎ (map f new ≡ map f old ++ f row ∷ [])
  added old new row is = by (list_any (eq row) old) is
    where
      by : (b : Bool) → new ≡ cond b old (old ++ row ∷ []) → (map f new ≡ map f old) ⊎ (map f new ≡ map f old ++ f row ∷ [])
      by true stays = inl (ap (map f) stays)
      by false longer = inr (ap (map f) longer ∙ map-append f old (row ∷ []))

  -- The id of a row is that of its value.
  pub identified : {E : Type 0} → (result : Result ℕ E) (old new : List A) (row : A) → IfOk result (λ id. IdentifiesBy eq old row id new) → IfOk result (λ id. Identifies (map f old) (f row) id (map f new))
  identified (Ok id) old new row is = record {
    is_id = subst (λ (n : ℕ). IsId id n) (sym (length-map new f)) is.is_id;
    interns = record {
      is_at = at_map f new (id - 1) is.stored.0 is.stored.1 ∙ ap (λ (v : B). Some v) (sym ((same row is.stored.0).0 is.stored.2));
      adds = added old new row is.adds;
    };
  }
  identified (Err error) old new row is = tt

abbrev pub eq_type : ValueType → ValueType → Bool
eq_type a b = (a.kind == b.kind) && (a.unit == b.unit)

pub same_type : (row : ValueType) → eq_type row row ≡ true
same_type row = (both (row.kind == row.kind) ((row.unit == row.unit)) (same_number row.kind) (same_number row.unit))
