use Rattle.std.proofs.Common.{◌≡◌, [], false, refl}
use Rattle.std.proofs.lemmas.List.Elements.{All-nil}
use Rattle.perfdata_spaces.specs.NameHistories.{never_named, names}
use Rattle.perfdata_spaces.proofs.thread_names.ThreadNames.new.Goals as goal

pub returns : goal.returns
returns c = λ tid. never_named tid [] _ (All-nil (λ e. names tid e ≡ false)) (rw c.new.ensures.empty refl)
