use Rattle.linux_perf_data.proofs.AddedAttributes.{attributes_in_views_of_records}
use Rattle.linux_perf_data.proofs.laws.markers_add_no_attributes.Goals as goal

pub returns : goal.returns
returns c = λ order bound offset round attrs pieces. attributes_in_views_of_records order bound offset round attrs pieces
