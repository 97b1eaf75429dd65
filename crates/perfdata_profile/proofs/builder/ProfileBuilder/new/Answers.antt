use Rattle.std.proofs.Common.{[], refl}
use Rattle.perfdata_profile.specs.Samples.{none}
use Rattle.perfdata_profile.proofs.Growing.{none_at}
use Rattle.perfdata_profile.proofs.builder.ProfileBuilder.new.Goals as goal

pub returns : goal.returns
returns g c = record {
  has_options = λ i. record { detail = c.new-2.ensures.detail i; thread_ids = c.args.options.thread_ids; times = c.new_list.ensures.has i };
  follows = c.new.ensures;
  cache = λ index at id found. absurd (none_at _ c.new-2.ensures.cache index (at, id) found);
  chains = λ index chain at. absurd (none_at _ c.new-4.ensures index chain at);
  counted = [];
  are = none [] [] refl refl;
  sums = c.new-3.ensures;
  listed = c.new_list.ensures.list _;
}
