use Rattle.std.proofs.Common.{◌≡◌, ◌∷◌, [], ◌++◌, cond, length, None, Some, refl, ap, ◌∙◌, sym, subst, inl, inr, arith}
use Rattle.std.specs.BTreeMap.{get, is_at}
use Rattle.std.specs.Option.{option_copied}
use Rattle.perfdata_order.specs.ParseInfoKeys.{Key, parse_info_key, key_cmp, AreIndexed}
use Rattle.perfdata_order.proofs.ParseInfoKeys.{distinct_from_indexed, absent_from_map, indexed_more}
use Rattle.perfdata_order.proofs.parse_infos.ParseInfos.find_or_add.Goals as goal

pub returns-in-Some : goal.returns-in-Some
returns-in-Some c =
    let old = c.args.self.now in
    let p = c.args.parse_info.now in
    let at : get key_cmp old.indices (parse_info_key p) ≡ Some c.in-Some.index.now =
    ap (λ k. get key_cmp old.indices k) (sym c.parse_info_key-key.ensures) ∙ sym c.get.ensures.value ∙ ap option_copied c.in-Some.is in
    inl (record { at_index = (old.indexed p c.in-Some.index.now).0 at; unchanged = refl })

pub invariant_of-self-2 : goal.invariant_of-self-2
invariant_of-self-2 c =
    let old = c.args.self.now in
    let new = c.insert.new.self in
    let p = c.args.parse_info.now in
    let n = c.len-index.result in
    let absent : get key_cmp old.indices (parse_info_key p) ≡ None =
    ap (λ k. get key_cmp old.indices k) (sym c.parse_info_key-key.ensures) ∙ sym c.get.ensures.value ∙ ap option_copied c.in-None.is in
    let count = c.len-index.ensures in
    let all = old.found.ok.0 in
    let is : n ≡ length old.found.items = omega (arith, count, all) in
    let puts : (q : Key) → get key_cmp new q ≡ cond (is_at (key_cmp (parse_info_key p)) q) (Some n) (get key_cmp old.indices q) = λ q.
    c.in-Ok.ensures.updates.0 q ∙ ap (λ k. cond (is_at (key_cmp k) q) (Some n) (get key_cmp old.indices q)) c.parse_info_key-key.ensures in
    let items : c.push_reserved.new.self.items ≡ old.found.items ++ p ∷ [] = c.push_reserved.ensures.items ∙ ap (λ xs. xs ++ p ∷ []) c.reserve.ensures.items in
    let all_indexed = subst (λ xs. AreIndexed new xs) (sym items) (indexed_more old.indices new old.found.items p n is old.indexed absent puts) in
    record { indexed = all_indexed; distinct = distinct_from_indexed new c.push_reserved.new.self.items all_indexed }

pub returns : goal.returns
returns c =
    let old = c.args.self.now in
    let p = c.args.parse_info.now in
    let absent : get key_cmp old.indices (parse_info_key p) ≡ None =
    ap (λ k. get key_cmp old.indices k) (sym c.parse_info_key-key.ensures) ∙ sym c.get.ensures.value ∙ ap option_copied c.in-None.is in
    let count = c.len-index.ensures in
    let all = old.found.ok.0 in
    inr (record {
      was_absent = absent_from_map old.indices old.found.items p old.indexed absent;
      is_last = omega (arith, count, all);
      one_more = c.push_reserved.ensures.items ∙ ap (λ xs. xs ++ p ∷ []) c.reserve.ensures.items;
    })
