-- Rows by their labels and locations.
use Rattle.std.proofs.Common.{◌≡◌, ◌&&◌, ◌==◌, ap, refl, ℕ, Bool}
use Rattle.std.proofs.lemmas.Bool.Decides.{Decides-and, Decides-eqb}
use Rattle.std.proofs.lemmas.Slice.Eq.{slice_eq-Decides}
use Rattle.std.specs.Bool.{Decides}
use Rattle.std.specs.Cmp.Lexicographic.{pointwise}
use Rattle.pprof.specs.declared.builder.RowKey.{RowKey}
use Rattle.pprof.specs.declared.profile.Label.{Label}

abbrev pub eq_label : Label → Label → Bool
eq_label a b = (a.key == b.key) && ((a.text == b.text) && (a.number == b.number))

label-Decides : (a b : Label) → Decides (eq_label a b) (a ≡ b)
label-Decides a b =
    let value = Decides-and (a.text == b.text) (a.number == b.number) (Decides-eqb a.text b.text) (Decides-eqb a.number b.number) in
    let parts = Decides-and (a.key == b.key) ((a.text == b.text) && (a.number == b.number)) (Decides-eqb a.key b.key) value in (
      (λ is. let p = parts.0 is in λ i. record { key = p.0 i; text = p.1.0 i; number = p.1.1 i }),
      (λ is. parts.1 (ap (λ (l : Label). l.key) is, (ap (λ (l : Label). l.text) is, ap (λ (l : Label). l.number) is))),
    )

abbrev pub eq_number : ℕ → ℕ → Bool
eq_number a b = a == b

abbrev pub eq_row : RowKey → RowKey → Bool
eq_row a b = pointwise eq_number a.location_ids.items b.location_ids.items && pointwise eq_label a.labels.items b.labels.items

pub row-Decides : (a b : RowKey) → Decides (eq_row a b) ((a.location_ids.items ≡ b.location_ids.items) × (a.labels.items ≡ b.labels.items))
row-Decides a b =
    let locations = slice_eq-Decides Decides-eqb a.location_ids.items b.location_ids.items (pointwise eq_number a.location_ids.items b.location_ids.items) refl in
    let labels = slice_eq-Decides label-Decides a.labels.items b.labels.items (pointwise eq_label a.labels.items b.labels.items) refl in
    Decides-and (pointwise eq_number a.location_ids.items b.location_ids.items) (pointwise eq_label a.labels.items b.labels.items) locations labels
