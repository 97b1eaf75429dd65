use Rattle.std.proofs.Common.{rules, arith}
use Rattle.std.specs.Prelude.{string_bytes}
use Rattle.std.specs.Option.{option_map}
use Rattle.std.proofs.lemmas.Result.{err_from_is_err_and}
use Rattle.perfdata_sections.proofs.Pmus.{units_none, units_more, units_error, units_out_of_memory}
use Rattle.perfdata_sections.proofs.feature_sections.pmu_mappings.read_pmus.Goals as goal

pub pmus-init : goal.pmus-init
pmus-init g c = record { prefix_read = units_none g.T.ByteOrder.number_of g.met.T.ByteOrder.reads_first _ c.new-names.result c.new-names.ensures.empty; pauses = search rules; same_loan = search rules }

pub returns-in_err-number-clause-reads : goal.returns-in_err-number-clause-reads
returns-in_err-number-clause-reads g c =
    let p = err_from_is_err_and c.from_residual.result c.from_residual.ensures.1 in
    rw (p.1, p.2) (units_error g.T.ByteOrder.number_of g.met.T.ByteOrder.reads_first c.pmus._index c.args.count _ _ _ c.pmus.names _ (omega arith) c.pmus.invariant.prefix_read c.in_err-number.ensures.reads)

pub returns-in_err-insert_name-clause-reads : goal.returns-in_err-insert_name-clause-reads
returns-in_err-insert_name-clause-reads g c =
    let p = err_from_is_err_and c.from_residual-in_err-insert_name.result c.from_residual-in_err-insert_name.ensures.1 in
    rw (p.1, p.2, c.in_err-insert_name.ensures) (units_out_of_memory g.T.ByteOrder.number_of g.met.T.ByteOrder.reads_first c.pmus._index c.args.count _ (g.R.Source.state c.pmus.source) _ c.pmus.names (c.in_ok-number.number, option_map string_bytes c.in_ok-number.name) (omega arith) c.pmus.invariant.prefix_read c.in_ok-number.ensures.reads)

pub pmus-preserved : goal.pmus-preserved
pmus-preserved g c = record {
  prefix_read = units_more g.T.ByteOrder.number_of g.met.T.ByteOrder.reads_first c.pmus._index _ (g.R.Source.state c.pmus.source) _ c.pmus.names c.insert_name.new.names (c.in_ok-number.number, option_map string_bytes c.in_ok-number.name) c.pmus.invariant.prefix_read c.in_ok-number.ensures.reads c.in_ok-insert_name.ensures;
  pauses = search rules;
  same_loan = search rules;
}
