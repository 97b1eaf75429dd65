use Rattle.std.proofs.Common.{rules, ◌≡◌, sym, false}
use Rattle.std.specs.List.{list_any}
use Rattle.std.specs.Cmp.Lexicographic.{pointwise}
use Rattle.perfdata_profile.proofs.Deciding.{eq_line, lines-Decides}
use Rattle.perfdata_profile.proofs.Searching.{interned_new, interned_old, items_push, list_once}
use Rattle.perfdata_profile.proofs.lines.LineLists.intern.Goals as goal

pub returns-in-Some-clause-ok : goal.returns-in-Some-clause-ok
returns-in-Some-clause-ok c = interned_old eq_line lines-Decides c.args.self.now.lists.keys c.args.lines.now c.in-Some.number (sym c.in-Some.ensures.index)

pub invariant_of-self-2 : goal.invariant_of-self-2
invariant_of-self-2 c =
    let bytes : c.in_ok-to_vec.field-0.items ≡ c.args.lines.now = search rules in
    let none : list_any (λ key. pointwise eq_line c.args.lines.now key.items) c.args.self.now.lists.keys ≡ false = sym c.in_default.ensures.found in
    record { once = list_once eq_line lines-Decides c.insert.result c.args.self.now.lists.keys c.insert.new.self.keys c.in_ok-to_vec.field-0 c.args.lines.now bytes c.args.self.now.once none c.insert.ensures.keys c.insert.ensures.err }

pub returns-clause-ok : goal.returns-clause-ok
returns-clause-ok c =
    let bytes : c.in_ok-to_vec.field-0.items ≡ c.args.lines.now = search rules in
    let none : list_any (λ key. pointwise eq_line c.args.lines.now key.items) c.args.self.now.lists.keys ≡ false = sym c.in_default.ensures.found in
    let longer = items_push eq_line lines-Decides c.args.self.now.lists.keys c.insert.new.self.keys c.in_ok-to_vec.field-0 c.args.lines.now bytes none c.in_ok-insert.ensures.keys in
    rw c.len-number.ensures.len (interned_new eq_line lines-Decides c.args.self.now.lists.keys c.insert.new.self.keys c.args.lines.now longer)
