-- The names of entries as numbers of a table of texts, and as ranks of texts.
use Rattle.std.proofs.Common.{◌≡◌, ◌∙◌, ◌+◌, ◌-◌, ◌<◌, ◌≤◌, inl, inr, ap, refl, sym, subst, arith, ℕ, List, [], ◌∷◌, ◌++◌, Contains, append_assoc, drop, get_or, length, map, reverse, Some, set, slice_get, take}
use Rattle.std.proofs.lemmas.Bool.{cases_eq}
use Rattle.std.proofs.lemmas.List.{append-nil, drop_all, drop_more, get_or-map, get_or-set_other, get_or-set_same, get_or_append_left, get_or_default, length-append, length-map, map_push, reverse-append, take_all, take_more}
use Rattle.std.proofs.lemmas.List.Elements.{All-nil, All-push, All-weaker}
use Rattle.std.proofs.lemmas.List.Sums.{sum_by-cons}
use Rattle.std.proofs.lemmas.Option.{get_or_from_slice_get, slice_get_within}
use Rattle.std.specs.List.{sum_by}
use Rattle.perfdata_profile.proofs.Counting.{related_push}
use Rattle.perfdata_profile.specs.Interning.{Grows, Interns}
use Rattle.perfdata_profile.specs.Profiles.{valued_entry}
use Rattle.perfdata_profile.specs.Samples.{AreRelated}
use Rattle.perfdata_profile.specs.Values.{Lists, name_at, sample_value}
use Rattle.perfdata_profile.specs.declared.names.NameId.{NameId}
use Rattle.perfdata_profile.specs.declared.sums.SampleKey.{SampleKey}
use Rattle.perfdata_profile.specs.declared.sums.Sums.{Sums}
use Rattle.perfdata_views.specs.Entries.{Entry, weight_of}
use Rattle.perfdata_views.specs.EntryTrees.{AreNumbers, IsRanked, IsRanking, entry_names, text_at}
use Rattle.perfdata_views.specs.steps.Numbering.{HasNumbers, IsNumbered, IsReranked, ranked_numbers}
use Rattle.perfdata_views.specs.Trees.{stack_weight}
use Rattle.perfdata_views.specs.declared.tree.RankedStack.{RankedStack}
use Rattle.perfdata_views.proofs.EntryStacks.{below_all, map_same}
use Rattle.perfdata_views.proofs.LineSums.{inside, value_at}

numbers_kept : (texts more names : List (List ℕ)) (numbers : List ℕ) → AreNumbers texts names numbers → AreNumbers (texts ++ more) names numbers
numbers_kept texts more names numbers is = record {
  within = All-weaker (λ (n : ℕ). n < length texts) (λ (n : ℕ). n < length (texts ++ more)) (λ n below. omega (arith, below, length-append texts more)) numbers is.within;
  are = map_same (text_at (texts ++ more)) (text_at texts) numbers (λ k n at. get_or_append_left texts more [] n (below_all (λ (m : ℕ). m < length texts) numbers k n at is.within)) ∙ is.are;
}

numbers_grow : (texts new names : List (List ℕ)) (numbers : List ℕ) → Grows texts new → AreNumbers texts names numbers → AreNumbers new names numbers
numbers_grow texts new names numbers grows is = subst (λ (ts : List (List ℕ)). AreNumbers ts names numbers) (sym grows.1) (numbers_kept texts grows.0 names numbers is)

interned_grows : (texts new : List (List ℕ)) (text : List ℕ) (number : ℕ) → Interns texts text number new → Grows texts new
interned_grows texts new text number interned = elim interned.adds [
  | inl same ↦ ([], same ∙ sym (append-nil texts))
  | inr longer ↦ (text ∷ [], longer)
]

-- One more name.
pub numbers_pushed : (start old new names : List (List ℕ)) (text : List ℕ) (number : ℕ) (numbers pushed : List ℕ) → Interns old text number new → pushed ≡ numbers ++ number ∷ [] → HasNumbers start old names numbers → HasNumbers start new (names ++ text ∷ []) pushed
numbers_pushed start old new names text number numbers pushed interned pushed_is has =
    let grows = interned_grows old new text number interned in
    let kept = numbers_grow old new names numbers grows has.are in
    let within = slice_get_within new number text interned.is_at in
    let text_is : text_at new number ≡ text = get_or_from_slice_get new number text [] interned.is_at in
    record {
      grows = (has.grows.0 ++ grows.0, grows.1 ∙ ap (λ (ts : List (List ℕ)). ts ++ grows.0) has.grows.1 ∙ append_assoc start has.grows.0 grows.0);
      are = subst (AreNumbers new (names ++ text ∷ [])) (sym pushed_is) (record {
        within = All-push (λ (n : ℕ). n < length new) numbers number kept.within within;
        are = map_push (text_at new) numbers number ∙ ap (λ (ns : List (List ℕ)). ns ++ text_at new number ∷ []) kept.are ∙ ap (λ (t : List ℕ). names ++ t ∷ []) text_is;
      });
    }

pub numbers_start : (texts : List (List ℕ)) (numbers : List ℕ) → numbers ≡ [] → HasNumbers texts texts [] numbers
numbers_start texts numbers none = subst (HasNumbers texts texts []) (sym none) (record {
  grows = ([], sym (append-nil texts));
  are = record { within = All-nil (λ (n : ℕ). n < length texts); are = refl };
})

-- The names of one more function, towards the leaf.
pub names_more : (lists : Lists) (thread : List ℕ) (ids : List NameId) (d : NameId) (index : ℕ) → 0 < index → index ≤ length ids
    → (thread ∷ reverse (drop index (map (name_at lists) ids))) ++ name_at lists (get_or ids (index - 1) d) ∷ [] ≡ thread ∷ reverse (drop (index - 1) (map (name_at lists) ids))
names_more lists thread ids d index positive within =
    let named : List (List ℕ) = map (name_at lists) ids in
    let place = index - 1 in
    let below : place < length ids = omega arith in
    let size = length-map ids (name_at lists) in
    let back : place + 1 ≡ index = omega arith in
    let own = get_or named place (name_at lists d) in
    let is : own ≡ name_at lists (get_or ids place d) = get_or-map (name_at lists) ids place d (name_at lists d) below in
    let dropped : drop place named ≡ own ∷ drop index named = drop_more named place (name_at lists d) (omega (arith, size)) ∙ ap (λ (n : ℕ). own ∷ drop n named) back in
    let names : reverse (drop place named) ≡ reverse (drop index named) ++ own ∷ [] = ap reverse dropped ∙ reverse-append (own ∷ []) (drop index named) in
    sym (ap (λ (ns : List (List ℕ)). thread ∷ ns) (names ∙ ap (λ (n : List ℕ). reverse (drop index named) ++ n ∷ []) is))

pub names_none : (lists : Lists) (thread : List ℕ) (ids : List NameId) → thread ∷ [] ≡ thread ∷ reverse (drop (length ids) (map (name_at lists) ids))
names_none lists thread ids =
    let size = length-map ids (name_at lists) in
    ap (λ (l : List (List ℕ)). thread ∷ reverse l) (sym (drop_all (length ids) (map (name_at lists) ids) (omega (arith, size))))

stacks_kept : (texts new : List (List ℕ)) → Grows texts new → (entries : List Entry) (stacks : List RankedStack) → AreRelated (IsNumbered texts) entries stacks → AreRelated (IsNumbered new) entries stacks
stacks_kept texts new grows [] [] are = are
stacks_kept texts new grows [] (s ∷ ss) are = absurd are
stacks_kept texts new grows (e ∷ es) [] are = absurd are
stacks_kept texts new grows (e ∷ es) (s ∷ ss) are = (
  record { numbers = numbers_grow texts new (entry_names e.0) s.ranks.items grows are.0.numbers; weight = are.0.weight },
  stacks_kept texts new grows es ss are.1,
)

-- The stack of one more entry.
pub numbered_next : (lists : Lists) (keys : List (SampleKey × Sums)) (index : ℕ) (key : SampleKey × Sums) → slice_get keys index ≡ Some key → (old new : List (List ℕ)) (stacks pushed : List RankedStack) (stack : RankedStack)
    → AreRelated (IsNumbered old) (take index (map (valued_entry lists) keys)) stacks → HasNumbers old new (entry_names (sample_value lists key.0)) stack.ranks.items → stack.weight ≡ key.1.weight → pushed ≡ stacks ++ stack ∷ []
    → AreRelated (IsNumbered new) (take (index + 1) (map (valued_entry lists) keys)) pushed
numbered_next lists keys index key at old new stacks pushed stack are has weight pushed_is =
    let all : List Entry = map (valued_entry lists) keys in
    let entry : Entry = valued_entry lists key in
    let next : take (index + 1) all ≡ take index all ++ entry ∷ [] = take_more all index entry (inside lists keys index key at) ∙ ap (λ (e : Entry). take index all ++ e ∷ []) (value_at lists keys index key at) in
    let one : IsNumbered new entry stack = record { numbers = has.are; weight = weight } in
    let more = related_push (IsNumbered new) (take index all) stacks entry stack (stacks_kept old new has.grows (take index all) stacks are) one in
    subst (λ (es : List Entry). AreRelated (IsNumbered new) es pushed) (sym next) (subst (AreRelated (IsNumbered new) (take index all ++ entry ∷ [])) (sym pushed_is) more)

pub numbered_all : (lists : Lists) (keys : List (SampleKey × Sums)) (index : ℕ) (texts : List (List ℕ)) (stacks : List RankedStack) → length keys ≤ index → AreRelated (IsNumbered texts) (take index (map (valued_entry lists) keys)) stacks → AreRelated (IsNumbered texts) (map (valued_entry lists) keys) stacks
numbered_all lists keys index texts stacks past are =
    let size = length-map keys (valued_entry lists) in
    subst (λ (es : List Entry). AreRelated (IsNumbered texts) es stacks) (take_all index (map (valued_entry lists) keys) (omega (arith, size))) are

-- The ranks of the first texts in an order.
pub ranks_next : (count : ℕ) (order ranks : List ℕ) (rank : ℕ) → length ranks ≡ count → ((k : ℕ) → k < rank → get_or order k 0 < count → get_or order (get_or ranks (get_or order k 0) 0) 0 ≡ get_or order k 0)
    → (k : ℕ) → k < rank + 1 → get_or order k 0 < count → get_or order (get_or (set ranks (get_or order rank 0) rank) (get_or order k 0) 0) 0 ≡ get_or order k 0
ranks_next count order ranks rank size has k below known = elim (cases_eq (get_or order k 0) (get_or order rank 0)) [
  | inl same ↦
      let place : get_or order rank 0 < length ranks = omega (arith, size, same, known) in
      let read : get_or (set ranks (get_or order rank 0) rank) (get_or order k 0) 0 ≡ rank = ap (λ (n : ℕ). get_or (set ranks (get_or order rank 0) rank) n 0) same ∙ get_or-set_same ranks (get_or order rank 0) rank 0 place in
      ap (λ (r : ℕ). get_or order r 0) read ∙ sym same
  | inr apart ↦
      let earlier : k < rank = elim (cases_eq k rank) [
        | inl here ↦ absurd (apart (ap (λ (n : ℕ). get_or order n 0) here))
        | inr other ↦ strict k rank below other
      ] in
      let read : get_or (set ranks (get_or order rank 0) rank) (get_or order k 0) 0 ≡ get_or ranks (get_or order k 0) 0 = get_or-set_other ranks (get_or order rank 0) (get_or order k 0) rank 0 apart in
      ap (λ (r : ℕ). get_or order r 0) read ∙ has k earlier known
]
  where
    strict : (a b : ℕ) → a < b + 1 → (a ≡ b → ⊥) → a < b
    strict a b most other = omega (arith, most, other)

pub ranking_is : (count : ℕ) (order ranks : List ℕ) (rank : ℕ) → length order ≤ rank → ((number : ℕ) → number < count → Contains order number) → ((k : ℕ) → k < rank → get_or order k 0 < count → get_or order (get_or ranks (get_or order k 0) 0) 0 ≡ get_or order k 0) → IsRanking count order ranks
ranking_is count order ranks rank past contains has = record {
  each = λ number below.
      let there = contains number below in
      let is : get_or order there.0 0 ≡ number = get_or_default order there.0 0 number there.1 ∙ there.2 in
      let ranked = has there.0 (omega (arith, there.1)) (omega (arith, is)) in
      subst (λ (n : ℕ). get_or order (get_or ranks n 0) 0 ≡ n) is ranked;
}

-- Stacks by ranks are those of the entries.
pub ranked_entries : (texts : List (List ℕ)) (ranks : List ℕ) (entries : List Entry) (stacks ranked : List RankedStack) → AreRelated (IsNumbered texts) entries stacks → AreRelated (IsReranked ranks) stacks ranked → AreRelated (IsRanked texts ranks) entries ranked
ranked_entries texts ranks [] [] [] are is = tt
ranked_entries texts ranks [] [] (r ∷ rs) are is = absurd is
ranked_entries texts ranks [] (s ∷ ss) ranked are is = absurd are
ranked_entries texts ranks (e ∷ es) [] ranked are is = absurd are
ranked_entries texts ranks (e ∷ es) (s ∷ ss) [] are is = absurd is
ranked_entries texts ranks (e ∷ es) (s ∷ ss) (r ∷ rs) are is = (
  record { numbers = s.ranks.items; are = are.0.numbers; ranks_are = is.0.ranks_are; weight = is.0.weight ∙ are.0.weight },
  ranked_entries texts ranks es ss rs are.1 is.1,
)

pub reranked_next : (ranks : List ℕ) (stacks : List RankedStack) (index : ℕ) (stack new : RankedStack) (ranked pushed : List RankedStack) → index < length stacks → stack ≡ get_or stacks index stack → new.ranks.items ≡ ranked_numbers ranks stack.ranks.items → new.weight ≡ stack.weight → pushed ≡ ranked ++ new ∷ []
    → AreRelated (IsReranked ranks) (take index stacks) ranked → AreRelated (IsReranked ranks) (take (index + 1) stacks) pushed
reranked_next ranks stacks index stack new ranked pushed below is ranks_are weight pushed_is are =
    let next : take (index + 1) stacks ≡ take index stacks ++ stack ∷ [] = take_more stacks index stack below ∙ ap (λ (s : RankedStack). take index stacks ++ s ∷ []) (sym is) in
    let one : IsReranked ranks stack new = record { ranks_are = ranks_are; weight = weight } in
    let more = related_push (IsReranked ranks) (take index stacks) ranked stack new are one in
    subst (λ (ss : List RankedStack). AreRelated (IsReranked ranks) ss pushed) (sym next) (subst (AreRelated (IsReranked ranks) (take index stacks ++ stack ∷ [])) (sym pushed_is) more)

pub reranked_all : (ranks : List ℕ) (stacks : List RankedStack) (index : ℕ) (ranked : List RankedStack) → length stacks ≤ index → AreRelated (IsReranked ranks) (take index stacks) ranked → AreRelated (IsReranked ranks) stacks ranked
reranked_all ranks stacks index ranked past are = subst (λ (ss : List RankedStack). AreRelated (IsReranked ranks) ss ranked) (take_all index stacks past) are

pub reranked_sum : (ranks : List ℕ) (stacks ranked : List RankedStack) → AreRelated (IsReranked ranks) stacks ranked → sum_by stack_weight ranked ≡ sum_by stack_weight stacks
reranked_sum ranks [] [] are = refl
reranked_sum ranks [] (r ∷ rs) are = absurd are
reranked_sum ranks (s ∷ ss) [] are = absurd are
reranked_sum ranks (s ∷ ss) (r ∷ rs) are =
    let here = are.0.weight in
    let rest = reranked_sum ranks ss rs are.1 in
    omega (arith, here, rest, sum_by-cons stack_weight r rs, sum_by-cons stack_weight s ss)

pub numbered_sum : (texts : List (List ℕ)) (entries : List Entry) (stacks : List RankedStack) → AreRelated (IsNumbered texts) entries stacks → sum_by stack_weight stacks ≡ sum_by weight_of entries
numbered_sum texts [] [] are = refl
numbered_sum texts [] (s ∷ ss) are = absurd are
numbered_sum texts (e ∷ es) [] are = absurd are
numbered_sum texts (e ∷ es) (s ∷ ss) are =
    let here = are.0.weight in
    let rest = numbered_sum texts es ss are.1 in
    omega (arith, here, rest, sum_by-cons stack_weight s ss, sum_by-cons weight_of e es)
