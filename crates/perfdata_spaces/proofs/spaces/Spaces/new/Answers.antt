use Rattle.std.proofs.Common.{[], refl, rules}
use Rattle.std.proofs.lemmas.List.Elements.{All-nil}
use Rattle.perfdata_spaces.specs.Histories.{never_reset}
use Rattle.perfdata_spaces.proofs.spaces.Spaces.new.Goals as goal

pub returns : goal.returns
returns c = record {
  mappings = search rules;
  processes = λ pid. record {
    history = [];
    is = never_reset pid [] [] (All-nil _) refl;
    finds = λ address fits. rw (c.new-2.ensures pid address) refl;
  };
  kernel = λ address fits. rw (c.new-3.ensures address) refl;
  symbols = λ address fits. rw (c.new-4.ensures address) refl;
}
