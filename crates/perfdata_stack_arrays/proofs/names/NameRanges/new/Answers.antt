use Rattle.std.proofs.Common.{◌≡◌, [], false, refl, None}
use Rattle.std.proofs.lemmas.List.Elements.{All-nil}
use Rattle.perfdata_spaces.specs.NameHistories.{never_named, names}
use Rattle.perfdata_stack_arrays.proofs.names.NameRanges.new.Goals as goal

pub returns : goal.returns
returns c = λ short tid. record {
  name = None;
  is_name = never_named tid [] None (All-nil (λ e. names tid e ≡ false)) refl;
  is_at = rw c.new.ensures.empty refl;
}
