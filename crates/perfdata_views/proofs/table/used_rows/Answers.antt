use Rattle.std.proofs.Common.{◌≡◌, ◌∙◌, ◌+◌, ◌<◌, ◌++◌, List, sym, ap, arith, append_assoc, drop, get_or, length}
use Rattle.std.proofs.lemmas.List.{append-nil, drop_all, get_or_default}
use Rattle.perfdata_views.specs.steps.FunctionTables.{no_tally, rows_of, used_row}
use Rattle.perfdata_views.specs.declared.table.FunctionRow.{FunctionRow}
use Rattle.perfdata_views.specs.declared.table.Tally.{Tally}
use Rattle.perfdata_views.proofs.TableRows.{rows_next}
use Rattle.perfdata_views.proofs.table.used_rows.Goals as goal

pub names-preserved : goal.names-preserved
names-preserved c =
    let tallies = c.args.tallies.now in
    let number = c.names.number in
    let below : number < length tallies = omega arith in
    let tally : Tally = get_or tallies number no_tally in
    let later : List FunctionRow = rows_of (number + 1) (drop (number + 1) tallies) in
    let pushed : c.push_row.new.rows.items ≡ c.names.rows.items ++ used_row number tally = c.in_ok-push_row.ensures in
    ap (λ (rows : List FunctionRow). rows ++ later) pushed ∙ append_assoc c.names.rows.items (used_row number tally) later ∙ ap (λ (rows : List FunctionRow). c.names.rows.items ++ rows) (sym (rows_next tallies number tally below (get_or_default tallies number no_tally tally below))) ∙ c.names.invariant

pub returns : goal.returns
returns c =
    let none = drop_all c.names.number c.args.tallies.now (omega arith) in
    sym (append-nil c.names.rows.items) ∙ ap (λ (ts : List Tally). c.names.rows.items ++ rows_of c.names.number ts) (sym none) ∙ c.names.invariant
