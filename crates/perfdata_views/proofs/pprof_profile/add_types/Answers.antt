use Rattle.std.proofs.Common.{◌≡◌, ◌∙◌, ◌<◌, ℕ, List, Some, ap, arith, codes, false, get_or, length, rules, slice_get, subst, sym, take}
use Rattle.std.proofs.lemmas.List.{length-take}
use Rattle.perfdata_views.specs.PprofSamples.{IsType}
use Rattle.perfdata_views.specs.declared.pprof_profile.Column.{Column}
use Rattle.perfdata_views.specs.steps.PprofSamples.{AreTypes}
use Rattle.perfdata_views.proofs.PprofConverting.{taken}
use Rattle.perfdata_views.proofs.PprofTables.{type_kept}
use Rattle.perfdata_views.proofs.PprofTypes.{columns_more, found_at, is_at, types_trans}
use Rattle.pprof.specs.Builders.{tables_of}
use Rattle.perfdata_views.proofs.pprof_profile.add_types.Goals as goal

pub columns-preserved : goal.columns-preserved
columns-preserved c =
    let columns = c.args.columns.now in
    let used = c.args.used.now in
    let index = c.columns.index in
    let below : index < length columns = omega arith in
    let column = c.index-columns-index.result in
    let at = found_at columns index column below c.index-columns-index.is in
    let count = length-take index columns in
    let here : index ≡ length (take index columns) = omega (arith, count, below) in
    let marked : slice_get used (length (take index columns)) ≡ Some (get_or used index false) =
    ap (slice_get used) (sym here) ∙ is_at used index false (omega (arith, below, c.requires)) in
    let next = columns_more (tables_of c.columns.builder) (tables_of c.add_column.new.builder) (take index columns) column used c.columns.values.items c.push.new.self.items
    (get_or used index false) c.in_ok-add_column.field-0 c.columns.invariant.are c.in_ok-add_column.ensures.extends marked c.in_ok-add_column.ensures.ok c.in_ok-push.ensures.items in
    record {
      are = subst (λ (described : List Column). AreTypes (tables_of c.add_column.new.builder) described used c.push.new.self.items) (taken columns index column at) next;
      extends = types_trans (tables_of c.add_type.new.builder) (tables_of c.columns.builder) (tables_of c.add_column.new.builder) c.columns.invariant.extends c.in_ok-add_column.ensures.extends;
    }

pub returns-clause-first : goal.returns-clause-first
returns-clause-first c = λ none.
    let before = tables_of c.add_type.new.builder in
    let bytes : c.as_bytes.result.now ≡ codes "samples" = search rules in
    let index = c.in_ok-samples.ensures.first none in
    let named = subst (λ (name : List ℕ). IsType before c.in_ok-samples.samples name (codes "count")) bytes c.in_ok-samples.ensures.ok in
    let first = subst (λ (n : ℕ). IsType before n (codes "samples") (codes "count")) index named in
    type_kept before (tables_of c.columns.builder) c.columns.invariant.extends.strings c.columns.invariant.extends.types 0 (codes "samples") (codes "count") first
