use Rattle.std.proofs.Common.{◌≡◌, ℕ}
use Rattle.std.proofs.lemmas.Result.{IfOk-weaker}
use Rattle.linux_perf_data.specs.Descriptions.{described_attributes}
use Rattle.linux_perf_data.specs.steps.IdBounds.{ResolvesIds}
use Rattle.linux_perf_data.specs.steps.IdPairs.{last_index_of_id}
use Rattle.linux_perf_data.specs.IdTable.{id_lookup}
use Rattle.linux_perf_data.proofs.LookupIds.{table_of_one, table_of_several}
use Rattle.linux_perf_data.proofs.attributes.lookup.build_table.Goals as goal

pub returns-then-attributes-eq1 : goal.returns-then-attributes-eq1
returns-then-attributes-eq1 c = table_of_one c.empty.result c.args.attributes.now c.if-attributes-eq1.true c.empty.ensures

pub returns : goal.returns
returns c =
    let attrs = described_attributes c.args.attributes.now in
    IfOk-weaker c.new.result (λ t. (id : ℕ) → id_lookup t id ≡ last_index_of_id id 0 attrs) (λ t. ResolvesIds t attrs) (λ t. table_of_several t attrs) c.new.ensures
