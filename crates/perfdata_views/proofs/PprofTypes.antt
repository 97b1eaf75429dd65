-- The sample types of a profile for pprof as they are added.
use Rattle.std.proofs.Common.{◌≡◌, ◌∙◌, ◌<◌, get_or, inl, inr, ap, refl, sym, subst, arith, true, ℕ, zero, suc, Bool, List, [], ◌∷◌, ◌++◌, length, length-append, slice_get, Some}
use Rattle.std.specs.Str.Lossy.{utf8_lossy}
use Rattle.std.proofs.lemmas.Option.{get_or_from_slice_get}
use Rattle.perfdata_profile.proofs.Elements.{old_or_last, slice_get_last, slice_get_more, some_same}
use Rattle.perfdata_profile.proofs.Growing.{grows_equal, grows_trans, none_at}
use Rattle.perfdata_profile.proofs.Valuing.{entry_at}
use Rattle.perfdata_views.specs.PprofSamples.{IsText, IsType}
use Rattle.perfdata_views.specs.declared.pprof_profile.Column.{Column}
use Rattle.perfdata_views.specs.steps.PprofSamples.{AreTypes, Extends, ExtendsTypes}
use Rattle.perfdata_views.proofs.PprofTables.{interns_grow, text_kept, type_kept}
use Rattle.pprof.specs.Rows.{AreDistinct, Interns}
use Rattle.pprof.specs.Tables.{Tables}
use Rattle.pprof.specs.Texts.{AreStrings}
use Rattle.pprof.specs.declared.profile.ValueType.{ValueType}

pub types_trans : (first second third : Tables) → ExtendsTypes first second → ExtendsTypes second third → ExtendsTypes first third
types_trans first second third extends more = record {
  strings = grows_trans first.strings second.strings third.strings extends.strings more.strings;
  types = grows_trans first.types second.types third.types extends.types more.types;
  samples = more.samples ∙ extends.samples;
  once = λ once. more.once (extends.once once);
}

-- A sample type is added after its texts.
module _ (first second third fourth : Tables) (named : Extends first second) (has_unit : Extends second third) (kind unit index : ℕ) (interns : Interns third.types (record { kind = kind; unit = unit }) index fourth.types) (rest : fourth ≡ record third { types = fourth.types }) where
  strings_same : fourth.strings ≡ third.strings
  strings_same = ap (λ (t : Tables). t.strings) rest

  types_before : third.types ≡ first.types
  types_before = has_unit.keeps.types ∙ named.keeps.types

  pub type_added : ExtendsTypes first fourth
  type_added = record {
    strings = grows_trans first.strings third.strings fourth.strings (grows_trans first.strings second.strings third.strings named.keeps.strings has_unit.keeps.strings)
        (grows_equal third.strings fourth.strings strings_same);
    types = grows_trans first.types third.types fourth.types (grows_equal first.types third.types types_before) (interns_grow third.types fourth.types (record { kind = kind; unit = unit }) index interns);
    samples = ap (λ (t : Tables). t.samples) rest ∙ has_unit.samples ∙ named.samples;
    once = λ once.
        let was = has_unit.keeps.once (named.keeps.once once) in record {
          strings = subst AreStrings (sym strings_same) was.strings;
          mappings = subst AreDistinct (sym (ap (λ (t : Tables). t.mappings) rest)) was.mappings;
          functions = subst AreDistinct (sym (ap (λ (t : Tables). t.functions) rest)) was.functions;
          locations = subst AreDistinct (sym (ap (λ (t : Tables). t.locations) rest)) was.locations;
        };
  }

  pub type_is : (name text : List ℕ) → IsText second kind (utf8_lossy name) → IsText third unit (utf8_lossy text) → IsType fourth index name text
  type_is name text name_is unit_is =
      let kind_kept = text_kept second third has_unit.keeps kind (utf8_lossy name) name_is in
      record {
        value_type = record { kind = kind; unit = unit };
        is_at = interns.is_at;
        name_is = ap (λ (strings : List (List ℕ)). slice_get strings kind) strings_same ∙ kind_kept;
        unit_is = ap (λ (strings : List (List ℕ)). slice_get strings unit) strings_same ∙ unit_is;
      }

  pub type_first : first.types ≡ [] → index ≡ 0
  type_first none = elim interns.adds [
    | inl same ↦ absurd (none_at fourth.types (same ∙ types_before ∙ none) index (record { kind = kind; unit = unit }) interns.is_at)
    | inr more ↦ only index (sym (ap (λ (types : List ValueType). slice_get types index) (more ∙ ap (λ (types : List ValueType). types ++ record { kind = kind; unit = unit } ∷ []) (types_before ∙ none))) ∙ interns.is_at)
  ]
    where
      only : (at : ℕ) → slice_get {X = ValueType} (record { kind = kind; unit = unit } ∷ []) at ≡ Some (record { kind = kind; unit = unit }) → at ≡ 0
      only zero is = refl
      only (suc at) is = absurd (none_at [] refl at (record { kind = kind; unit = unit }) is)

-- One more column.
pub columns_more : (old new : Tables) (described : List Column) (column : Column) (used : List Bool) (values more : List ℕ) (is_used : Bool) (value : ℕ) → AreTypes old described used values
    → ExtendsTypes old new → slice_get used (length described) ≡ Some is_used → (is_used ≡ true → IsType new value column.name.items column.unit.now) → more ≡ values ++ value ∷ []
    → AreTypes new (described ++ column ∷ []) used more
columns_more old new described column used values more is_used value are extends at is longer = record {
  number = ap length longer ∙ (let left = length-append values (value ∷ []) in let right = length-append described (column ∷ []) in omega (arith, left, right, are.number));
  each = λ index one there marked. elim (old_or_last described column index one there) [
    | inl was ↦
        let found = are.each index one was marked in (
          found.0,
          ap (λ (v : List ℕ). slice_get v index) longer ∙ slice_get_more values (value ∷ []) index found.0 found.1,
          type_kept old new extends.strings extends.types found.0 one.name.items one.unit.now found.2,
        )
    | inr last ↦
        let used_here : is_used ≡ true = some_same is_used true (sym at ∙ ap (slice_get used) (sym last.0) ∙ marked) in
        let place : length values ≡ index = are.number ∙ sym last.0 in (
          value,
          ap (λ (v : List ℕ). slice_get v index) longer ∙ ap (slice_get (values ++ value ∷ [])) (sym place) ∙ slice_get_last values value,
          subst (λ (c : Column). IsType new value c.name.items c.unit.now) (sym last.1) (is used_here),
        )
  ];
}

-- The element at an index.
pub is_at : {A : Type 0} → (xs : List A) (index : ℕ) (other : A) → index < length xs → slice_get xs index ≡ Some (get_or xs index other)
is_at {A} xs index other below =
    let found = entry_at xs index below in
    found.1 ∙ ap (λ (x : A). Some x) (sym (get_or_from_slice_get xs index found.0 other found.1))

pub found_at : {A : Type 0} → (xs : List A) (index : ℕ) (x : A) → index < length xs → x ≡ get_or xs index x → slice_get xs index ≡ Some x
found_at {A} xs index x below is = is_at xs index x below ∙ ap (λ (y : A). Some y) (sym is)
