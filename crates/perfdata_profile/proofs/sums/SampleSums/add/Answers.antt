use Rattle.std.proofs.Common.{rules, ◌≡◌, ◌∙◌, ap, subst, sym, None, Some}
use Rattle.std.specs.Map.{keys_of, lookup}
use Rattle.indexmap.proofs.CallerLemmas.{insert_entry-new}
use Rattle.perfdata_profile.proofs.Deciding.{eq_key, key-Decides}
use Rattle.perfdata_profile.proofs.Elements.{set_keeps}
use Rattle.perfdata_profile.proofs.Searching.{found_at, map_at}
use Rattle.perfdata_profile.proofs.Summing.{first_entry, first_keeps, first_sample, first_totals, raised_entry, raised_is, raised_sample, raised_totals}
use Rattle.perfdata_profile.specs.SampleSums.{KeepsKeys}
use Rattle.perfdata_profile.specs.Sums.{sums_after}
use Rattle.perfdata_profile.specs.declared.sums.SampleKey.{SampleKey}
use Rattle.perfdata_profile.specs.declared.sums.Sums.{Sums}
use Rattle.perfdata_profile.proofs.sums.SampleSums.add.Goals as goal

pub invariant_of-self : goal.invariant_of-self
invariant_of-self c =
    let entries = c.args.self.now.entries.entries in
    let key = found_at (eq_key c.args.key) (keys_of entries) c.in-Some-get_index_of.index (sym c.in-Some-get_index_of.ensures.index) in
    let entry = map_at (λ (e : SampleKey × Sums). e.0) entries c.in-Some-get_index_of.index key.0 key.1 in
    let totals = raised_totals entries c.in-Some-get_index_of.index entry.0.0 entry.0.1 entry.1 c.raise.new.entries.entries c.args.self.now.total c.in-Some.total c.args.weight c.args.self.now.samples_summed c.args.self.now.weights_summed c.in-Some.ensures.some c.in-Some.ensures.fits.0 c.in-Some.ensures.fits.1 (c.raise.ensures entry.0.0 entry.0.1 entry.1) in
    record { samples_summed = totals.0; weights_summed = totals.1; fits = c.in-Some.ensures.fits }

pub returns-in-Some-get_index_of-clause-ok : goal.returns-in-Some-get_index_of-clause-ok
returns-in-Some-get_index_of-clause-ok c = λ counted tallies. raised_sample eq_key key-Decides c.args.self.now _ c.args.key c.args.weight counted tallies c.in-Some.ensures.some c.in-Some-get_index_of.index (sym c.in-Some-get_index_of.ensures.index) c.in-Some.ensures.fits.0 c.in-Some.ensures.fits.1 c.raise.ensures

pub invariant_of-self-in-Ok : goal.invariant_of-self-in-Ok
invariant_of-self-in-Ok c =
    let absent : lookup (eq_key c.args.key) c.args.self.now.entries.entries ≡ None = search rules in
    let longer = c.in-Ok.ensures.entries ∙ insert_entry-new eq_key c.args.self.now.entries c.args.key _ absent in
    let totals = first_totals c.args.self.now.entries.entries c.insert.new.self.entries c.args.key c.args.self.now.total c.in-Some.total c.args.weight c.args.self.now.samples_summed c.args.self.now.weights_summed c.in-Some.ensures.some longer in
    record { samples_summed = totals.0; weights_summed = totals.1; fits = c.in-Some.ensures.fits }

pub returns-in-Ok-clause-ok : goal.returns-in-Ok-clause-ok
returns-in-Ok-clause-ok c = λ counted tallies.
    let absent : lookup (eq_key c.args.key) c.args.self.now.entries.entries ≡ None = search rules in
    let longer = c.in-Ok.ensures.entries ∙ insert_entry-new eq_key c.args.self.now.entries c.args.key _ absent in
    first_sample eq_key key-Decides c.args.self.now _ c.args.key c.args.weight counted tallies c.in-Some.ensures.some absent longer

pub returns-in-Some-get_index_of-clause-keys : goal.returns-in-Some-get_index_of-clause-keys
returns-in-Some-get_index_of-clause-keys c =
    let entries = c.args.self.now.entries.entries in
    let key = found_at (eq_key c.args.key) (keys_of entries) c.in-Some-get_index_of.index (sym c.in-Some-get_index_of.ensures.index) in
    let entry = map_at (λ (e : SampleKey × Sums). e.0) entries c.in-Some-get_index_of.index key.0 key.1 in
    let raised = raised_is entries c.in-Some-get_index_of.index entry.0.0 entry.0.1 entry.1 c.raise.new.entries.entries c.args.self.now.total c.in-Some.total c.args.weight c.args.self.now.samples_summed c.args.self.now.weights_summed c.in-Some.ensures.some c.in-Some.ensures.fits.0 c.in-Some.ensures.fits.1 (c.raise.ensures entry.0.0 entry.0.1 entry.1) in
    subst (KeepsKeys entries) (sym raised) (set_keeps entries c.in-Some-get_index_of.index (sums_after entry.0.1 c.args.weight))

pub returns-in-Some-get_index_of-clause-entry : goal.returns-in-Some-get_index_of-clause-entry
returns-in-Some-get_index_of-clause-entry c =
    let entries = c.args.self.now.entries.entries in
    let key = found_at (eq_key c.args.key) (keys_of entries) c.in-Some-get_index_of.index (sym c.in-Some-get_index_of.ensures.index) in
    let entry = map_at (λ (e : SampleKey × Sums). e.0) entries c.in-Some-get_index_of.index key.0 key.1 in
    let is : c.args.key ≡ entry.0.0 = (key-Decides c.args.key key.0).0 key.2 ∙ sym entry.2 in
    let at = entry.1 ∙ ap (λ (k : SampleKey). Some (k, entry.0.1)) (sym is) in
    raised_entry entries c.raise.new.entries.entries c.args.key (returns-in-Some-get_index_of-clause-keys c) c.in-Some-get_index_of.index entry.0.1 at

pub returns-in-Ok-clause-keys : goal.returns-in-Ok-clause-keys
returns-in-Ok-clause-keys c =
    let absent : lookup (eq_key c.args.key) c.args.self.now.entries.entries ≡ None = search rules in
    let longer = c.in-Ok.ensures.entries ∙ insert_entry-new eq_key c.args.self.now.entries c.args.key _ absent in
    first_keeps c.args.self.now.entries.entries c.insert.new.self.entries c.args.key _ longer

pub returns-in-Ok-clause-entry : goal.returns-in-Ok-clause-entry
returns-in-Ok-clause-entry c =
    let absent : lookup (eq_key c.args.key) c.args.self.now.entries.entries ≡ None = search rules in
    let longer = c.in-Ok.ensures.entries ∙ insert_entry-new eq_key c.args.self.now.entries c.args.key _ absent in
    first_entry c.args.self.now.entries.entries c.insert.new.self.entries c.args.key _ longer
