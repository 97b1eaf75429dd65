use Rattle.std.proofs.Common.{rules, ◌≡◌, ◌∙◌, inl, inr, ap, refl, sym, true≢false, None, Some}
use Rattle.std.specs.Map.{keys_of, lookup}
use Rattle.perfdata_profile.specs.declared.sums.SampleKey.{SampleKey}
use Rattle.perfdata_profile.specs.declared.sums.Sums.{Sums}
use Rattle.perfdata_profile.proofs.Deciding.{eq_key, key-Decides}
use Rattle.perfdata_profile.proofs.Searching.{found_at, map_at, none_found}
use Rattle.perfdata_profile.proofs.sums.SampleSums.entry_index.Goals as goal

pub returns-in-Some : goal.returns-in-Some
returns-in-Some c =
    let entries = c.args.self.now.entries.entries in
    let key = found_at (eq_key c.args.key.now) (keys_of entries) c.in-Some.index (sym c.in-Some.ensures.index) in
    let entry = map_at (λ (e : SampleKey × Sums). e.0) entries c.in-Some.index key.0 key.1 in
    let is : c.args.key.now ≡ entry.0.0 = (key-Decides c.args.key.now key.0).0 key.2 ∙ sym entry.2 in
    inl (entry.0.1, entry.1 ∙ ap (λ (k : SampleKey). Some (k, entry.0.1)) (sym is))

pub returns-in-None : goal.returns-in-None
returns-in-None c =
    let entries = c.args.self.now.entries.entries in
    let absent : lookup (eq_key c.args.key.now) entries ≡ None = search rules in
    inr (λ index sums at. true≢false (sym ((key-Decides c.args.key.now c.args.key.now).1 refl) ∙ none_found (eq_key c.args.key.now) entries index c.args.key.now sums absent at), c.len.ensures.len)
