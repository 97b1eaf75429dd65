-- Where the names of threads are after one more record.
use Rattle.std.proofs.Common.{◌≡◌, ◌∙◌, ap, refl, sym, subst, arith, ℕ, ℤ, ◌+◌, ◌^◌, ◌<◌, ◌≤◌, Bool, true, false, cond, List, [], ◌∷◌, ◌++◌, length, length-append, length-drop, take, drop, Option, None, Some}
use Rattle.std.proofs.Math.Seq.{drop-append_seam, take-append_seam}
use Rattle.std.proofs.lemmas.List.{drop-append-le, map_push, take-append-le}
use Rattle.std.proofs.lemmas.List.Concat.{flat_map-append}
use Rattle.perfdata_spaces.proofs.Lists.{flat_map_push}
use Rattle.perfdata_spaces.proofs.NameSteps.{inherited_step, name_push, named_step}
use Rattle.perfdata_spaces.specs.AddressSpaces.{name_effects}
use Rattle.perfdata_spaces.specs.Effects.{Applied, Inherits, KeepsAll, NameEffect, Names, name_effect}
use Rattle.perfdata_spaces.specs.NameHistories.{IsName}
use Rattle.perfdata_spaces.specs.Processes.{is_same}
use Rattle.perfdata_stack_arrays.specs.Arrays.{count_of}
use Rattle.perfdata_stack_arrays.specs.Mappings.{name_in, path_of, text_in, text_of}
use Rattle.perfdata_stack_arrays.specs.Names.{IsRangeOf}
use Rattle.perfdata_stack_arrays.specs.steps.Names.{FollowsRanges, range_after, range_at, range_of}
use Rattle.perfdata_stack_arrays.specs.declared.names.NameRanges.{NameRanges}
use Rattle.perfdata_stack_arrays.specs.declared.names.TextRange.{TextRange}

-- ---- the text

pub text_push : (before : List Applied) (applied : Applied) → text_in (before ++ applied ∷ []) ≡ text_in before ++ text_of applied
text_push before applied = flat_map_push text_of before applied

-- A part of a text remains where it is.
part_kept : (text more : List ℕ) (offset size : ℕ) → offset + size ≤ length text → take size (drop offset (text ++ more)) ≡ take size (drop offset text)
part_kept text more offset size within =
    ap (take size) (drop-append-le offset text more (omega (arith, within)))
    ∙ take-append-le size (drop offset text) more (omega (arith, within, length-drop offset text))

pub names_text_of : (before more : List Applied) (offset size : ℕ) → offset + size ≤ length (text_in before) → take size (drop offset (text_in (before ++ more))) ≡ take size (drop offset (text_in before))
names_text_of before more offset size within = ap (λ l. take size (drop offset l)) (flat_map-append text_of before more) ∙ part_kept (text_in before) (text_in more) offset size within

range_kept : (text more : List ℕ) (range : Option TextRange) (name : Option (List ℕ)) → IsRangeOf text range name → IsRangeOf (text ++ more) range name
range_kept text more None name is = is
range_kept text more (Some range) name (is, within) = (
  is ∙ ap (λ l. Some l) (sym (part_kept text more range.offset range.size within)),
  omega (arith, within, length-append text more),
)

-- Bytes after a text.
part_after : (text bytes more : List ℕ) → take (length bytes) (drop (length text) (text ++ (bytes ++ more))) ≡ bytes
part_after text bytes more = ap (take (length bytes)) (drop-append_seam text (bytes ++ more)) ∙ take-append_seam bytes more

own_range : (text bytes more : List ℕ) → IsRangeOf (text ++ (bytes ++ more)) (Some (range_at (length text) bytes)) (Some bytes)
own_range text bytes more = (
  ap (λ l. Some l) (sym (part_after text bytes more)),
  omega (arith, length-append text (bytes ++ more), length-append bytes more),
)

-- ---- one more record

-- A part of a text is the name of a thread after effects, or the thread has none.
abbrev NameAt : List NameEffect → List ℕ → ℤ → Option TextRange → Type 0
NameAt effects text tid range = (name : Option (List ℕ)) × (IsName tid effects name × IsRangeOf text range name)

name_step : (effects : List NameEffect) (text path : List ℕ) (effect : NameEffect) (range : ℤ → Option TextRange) (tid : ℤ) → ((t : ℤ) → NameAt effects text t (range t))
    → NameAt (effects ++ effect ∷ []) (text ++ (name_in effect ++ path)) tid (range_after effect (length text) range tid)
name_step effects text path (Names thread bytes) range tid at = by_thread (is_same thread tid) refl
  where
    by_thread : (same : Bool) → is_same thread tid ≡ same → NameAt (effects ++ Names thread bytes ∷ []) (text ++ (bytes ++ path)) tid (cond same (Some (range_at (length text) bytes)) (range tid))
    by_thread true is = (Some bytes, (named_step tid thread bytes effects (at tid).0 true is (at tid).1.0, own_range text bytes path))
    by_thread false is = ((at tid).0, (named_step tid thread bytes effects (at tid).0 false is (at tid).1.0, range_kept text (bytes ++ path) (range tid) (at tid).0 (at tid).1.1))
name_step effects text path (Inherits thread parent) range tid at = by_thread (is_same thread tid) refl
  where
    by_thread : (same : Bool) → is_same thread tid ≡ same → NameAt (effects ++ Inherits thread parent ∷ []) (text ++ ([] ++ path)) tid (cond same (range parent) (range tid))
    by_thread true is = ((at parent).0, (inherited_step tid thread parent effects (at tid).0 (at parent).0 true is (at tid).1.0 (at parent).1.0, range_kept text ([] ++ path) (range parent) (at parent).0 (at parent).1.1))
    by_thread false is = ((at tid).0, (inherited_step tid thread parent effects (at tid).0 (at parent).0 false is (at tid).1.0 (at parent).1.0, range_kept text ([] ++ path) (range tid) (at tid).0 (at tid).1.1))
name_step effects text path KeepsAll range tid at = ((at tid).0, (name_push tid effects (at tid).0 KeepsAll refl (at tid).1.0, range_kept text ([] ++ path) (range tid) (at tid).0 (at tid).1.1))

pub ranges_step : (before : List Applied) (applied : Applied) (old new : NameRanges) (offset : ℕ) → offset ≡ count_of (text_in before) → FollowsRanges before old
    → ((tid : ℤ) → range_of new tid ≡ range_after (name_effect applied) offset (range_of old) tid) → FollowsRanges (before ++ applied ∷ []) new
ranges_step before applied old new offset offset_is follows changes = λ short tid.
    let longer = ap length (text_push before applied) in
    let shorter : length (text_in before) < 2 ^ 64 = omega (arith, short, longer, length-append (text_in before) (text_of applied)) in
    let offset_here : offset ≡ length (text_in before) = omega (arith, offset_is, shorter) in
    let at : (t : ℤ) → NameAt (name_effects before) (text_in before) t (range_of old t) = λ t. (let is = follows shorter t in (is.name, (is.is_name, is.is_at))) in
    let step = name_step (name_effects before) (text_in before) (path_of applied) (name_effect applied) (range_of old) tid at in
    let range : range_of new tid ≡ range_after (name_effect applied) (length (text_in before)) (range_of old) tid = changes tid ∙ ap (λ n. range_after (name_effect applied) n (range_of old) tid) offset_here in
    record {
      name = step.0;
      is_name = subst (λ (effects : List NameEffect). IsName tid effects step.0) (sym (map_push name_effect before applied)) step.1.0;
      is_at = subst (λ (r : Option TextRange). IsRangeOf (text_in (before ++ applied ∷ [])) r step.0) (sym range) (subst (λ (text : List ℕ). IsRangeOf text (range_after (name_effect applied) (length (text_in before)) (range_of old) tid) step.0) (sym (text_push before applied)) step.1.1);
    }
