use Rattle.std.proofs.Common.{rules, ◌≡◌, sym, false, nat_eq}
use Rattle.std.proofs.lemmas.Slice.Eq.{bytes_eq-Decides}
use Rattle.std.specs.List.{list_any}
use Rattle.std.specs.Cmp.Lexicographic.{pointwise}
use Rattle.perfdata_profile.proofs.Searching.{interned_new, interned_old, items_push, list_once}
use Rattle.perfdata_profile.proofs.names.Names.intern.Goals as goal

pub returns-in-Some-clause-ok : goal.returns-in-Some-clause-ok
returns-in-Some-clause-ok c = interned_old nat_eq bytes_eq-Decides c.args.self.now.names.keys c.args.name.now c.in-Some.number (sym c.in-Some.ensures.index)

pub invariant_of-self-2 : goal.invariant_of-self-2
invariant_of-self-2 c =
    let bytes : c.in_ok-to_vec.field-0.items ≡ c.args.name.now = search rules in
    let none : list_any (λ key. pointwise nat_eq c.args.name.now key.items) c.args.self.now.names.keys ≡ false = sym c.in_default.ensures.found in
    record { once = list_once nat_eq bytes_eq-Decides c.insert.result c.args.self.now.names.keys c.insert.new.self.keys c.in_ok-to_vec.field-0 c.args.name.now bytes c.args.self.now.once none c.insert.ensures.keys c.insert.ensures.err }

pub returns-clause-ok : goal.returns-clause-ok
returns-clause-ok c =
    let bytes : c.in_ok-to_vec.field-0.items ≡ c.args.name.now = search rules in
    let none : list_any (λ key. pointwise nat_eq c.args.name.now key.items) c.args.self.now.names.keys ≡ false = sym c.in_default.ensures.found in
    let longer = items_push nat_eq bytes_eq-Decides c.args.self.now.names.keys c.insert.new.self.keys c.in_ok-to_vec.field-0 c.args.name.now bytes none c.in_ok-insert.ensures.keys in
    rw c.len-number.ensures.len (interned_new nat_eq bytes_eq-Decides c.args.self.now.names.keys c.insert.new.self.keys c.args.name.now longer)
