use Rattle.std.proofs.Common.{◌≡◌, ◌∙◌, sym, inl, None, rules, length}
use Rattle.std.specs.Map.{lookup}
use Rattle.indexmap.proofs.CallerLemmas.{insert_entry-new}
use Rattle.pprof.specs.declared.builder.RowKey.{RowKey}
use Rattle.pprof.proofs.Counting.{added_to_row, appends_row, none_has_key, row_lacks}
use Rattle.std.proofs.lemmas.Result.{err_from_is_err_and}
use Rattle.pprof.proofs.Keys.{eq_row}
use Rattle.pprof.proofs.builder.Builder.add.Goals as goal

pub returns-in-Some-clause-ok : goal.returns-in-Some-clause-ok
returns-in-Some-clause-ok c =
    let key : RowKey = record { location_ids = c.args.location_ids; labels = c.args.labels } in
    added_to_row c.raise.result c.args.self.now.rows.entries c.raise.new.rows.entries key c.in-Some.index c.len-type_count.result
    (length c.args.self.now.sample_types.keys) c.args.weight c.len-type_count.ensures.len (sym c.in-Some.ensures.index) c.raise.ensures.ok

pub returns-clause-ok : goal.returns-clause-ok
returns-clause-ok c =
    let key : RowKey = record { location_ids = c.args.location_ids; labels = c.args.labels } in
    let absent : lookup (eq_row key) c.args.self.now.rows.entries ≡ None = search rules in
    let longer = c.in_ok-insert.ensures.entries ∙ insert_entry-new eq_row c.args.self.now.rows key c.in_ok-values.values absent in
    appends_row c.args.self.now.rows.entries c.insert.new.self.entries key c.in_ok-values.values c.len-type_count.result
    (length c.args.self.now.sample_types.keys) c.args.weight c.len-type_count.ensures.len absent longer c.in_ok-values.ensures

pub returns-in-Some-clause-memory : goal.returns-in-Some-clause-memory
returns-in-Some-clause-memory c =
    let key : RowKey = record { location_ids = c.args.location_ids; labels = c.args.labels } in
    row_lacks c.raise.result c.args.self.now.rows.entries key c.in-Some.index c.len-type_count.result
    (length c.args.self.now.sample_types.keys) c.len-type_count.ensures.len (sym c.in-Some.ensures.index) c.raise.ensures.lacks

pub returns-in_err-values-clause-memory : goal.returns-in_err-values-clause-memory
returns-in_err-values-clause-memory c =
    let key : RowKey = record { location_ids = c.args.location_ids; labels = c.args.labels } in
    let absent : lookup (eq_row key) c.args.self.now.rows.entries ≡ None = search rules in
    let p = err_from_is_err_and c.from_residual.result c.from_residual.ensures.1 in
    rw p.1 (inl (none_has_key c.args.self.now.rows.entries key absent))

pub returns-in_err-insert-clause-memory : goal.returns-in_err-insert-clause-memory
returns-in_err-insert-clause-memory c =
    let key : RowKey = record { location_ids = c.args.location_ids; labels = c.args.labels } in
    let absent : lookup (eq_row key) c.args.self.now.rows.entries ≡ None = search rules in
    let p = err_from_is_err_and c.from_residual-in_err-insert.result c.from_residual-in_err-insert.ensures.1 in
    rw p.1 (inl (none_has_key c.args.self.now.rows.entries key absent))
