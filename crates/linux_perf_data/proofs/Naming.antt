-- Attributes are named one after another.
use Rattle.std.proofs.Common.{◌≡◌, ℕ, zero, suc, ◌+◌, ◌<◌, List, [], ◌∷◌, ◌++◌, length, get_or, set, take, drop, refl, sym, ap, ◌∙◌, subst, arith, Option}
use Rattle.std.specs.Prelude.{map, All, String, string_bytes}
use Rattle.std.specs.Option.{option_map}
use Rattle.std.specs.declared.alloc.Global.{Global}
use Rattle.std.proofs.lemmas.List.{take_more, take_more_set, map_push, get_or-drop, get_or_default, drop-drop, drop-set-lt}
use Rattle.std.proofs.lemmas.List.Elements.{All-nil, All-cons}
use Rattle.perfdata_sections.specs.AttributeDescription.{attr_in, name_in, ids_in}
use Rattle.perfdata_sections.specs.declared.feature_sections.AttributeDescription.{AttributeDescription}
use Rattle.linux_perf_data.specs.Attribute.{Attribute}
use Rattle.linux_perf_data.specs.Descriptions.{described_attribute, described_attributes}
use Rattle.linux_perf_data.specs.steps.Names.{names_in, name_bytes_of}

-- ---- one more renamed attribute

pub set_same : {A B : Type 0} (f : A → B) (xs : List A) (i : ℕ) (y : A) → f y ≡ f (get_or xs i y) → map f (set xs i y) ≡ map f xs
set_same f [] i y is = refl
set_same f (x ∷ xs) zero y is = ap (λ b. b ∷ map f xs) is
set_same f (x ∷ xs) (suc i) y is = ap (λ l. f x ∷ l) (set_same f xs i y is)

module _ (ds : List AttributeDescription) (i : ℕ) (old new : AttributeDescription) (there : i < length ds) where
  -- its attribute and its IDs are unchanged
  pub renamed : attr_in new ≡ attr_in (get_or ds i old) → ids_in new ≡ ids_in (get_or ds i old) → described_attributes (set ds i new) ≡ described_attributes ds
  renamed attr ids =
      let one : described_attribute new ≡ described_attribute (get_or ds i old) = cc in
      set_same described_attribute ds i new (one ∙ ap described_attribute (get_or_default ds i old new there))

  -- it has the name at its index
  pub named_more : (names remaining : List (Option (String Global))) (n : Option (String Global)) → i < length names → names_in (take i ds) ≡ name_bytes_of (take i names) → drop i remaining ≡ drop i names
      → n ≡ get_or remaining i n → name_in new ≡ option_map string_bytes n → names_in (take (i + 1) (set ds i new)) ≡ name_bytes_of (take (i + 1) names)
  named_more names remaining n within before same is one =
      let none : i + 0 ≡ i = omega arith in
      let at : get_or remaining (i + 0) n ≡ get_or names (i + 0) n = sym (get_or-drop i remaining 0 n) ∙ ap (λ l. get_or l 0 n) same ∙ get_or-drop i names 0 n in
      let here : get_or names i n ≡ n = sym (is ∙ (subst (λ k. get_or remaining k n ≡ get_or names k n) none at)) in
      ap names_in (take_more_set ds i new there) ∙ map_push name_in (take i ds) new
      ∙ ap (λ l. l ++ name_in new ∷ []) before ∙ ap (λ x. name_bytes_of (take i names) ++ x ∷ []) (one ∙ ap (λ m. option_map string_bytes m) (sym here))
      ∙ sym (ap name_bytes_of (take_more names i n within) ∙ map_push (λ name. option_map string_bytes name) (take i names) (get_or names i n))

-- the names after it are unchanged
pub remaining_more : {A : Type 0} (names remaining : List A) (i : ℕ) (x : A) → drop i remaining ≡ drop i names → drop (i + 1) (set remaining i x) ≡ drop (i + 1) names
remaining_more names remaining i x same = drop-set-lt (i + 1) remaining i x (omega arith) ∙ sym (drop-drop 1 i remaining) ∙ ap (λ l. drop 1 l) same ∙ drop-drop 1 i names

-- ---- all of them

pub all_by_map : {A B : Type 0} (f g : A → B) (xs : List A) → map f xs ≡ map g xs → All (λ x. f x ≡ g x) xs
all_by_map f g [] same = All-nil (λ x. f x ≡ g x)
all_by_map f g (x ∷ xs) same =
    let here : f x ≡ g x = cc in
    let later : map f xs ≡ map g xs = cc in
    All-cons (λ x. f x ≡ g x) x xs here (all_by_map f g xs later)

pub by_attributes : (f : List ℕ → Option (List ℕ)) (ds : List AttributeDescription) → map (λ d. f (ids_in d)) ds ≡ map (λ (a : Attribute). f a.ids) (described_attributes ds)
by_attributes f [] = refl
by_attributes f (d ∷ ds) = ap (λ l. f (ids_in d) ∷ l) (by_attributes f ds)

-- attributes have the names that their IDs map to
pub named_by : (f : List ℕ → Option (List ℕ)) (ds new : List AttributeDescription) → names_in new ≡ map (λ d. f (ids_in d)) ds → described_attributes new ≡ described_attributes ds → All (λ d. name_in d ≡ f (ids_in d)) new
named_by f ds new names same = all_by_map name_in (λ d. f (ids_in d)) new
    (names ∙ by_attributes f ds ∙ ap (map (λ (a : Attribute). f a.ids)) (sym same) ∙ sym (by_attributes f new))
