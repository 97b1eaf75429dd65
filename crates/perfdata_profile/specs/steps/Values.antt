-- Steps of private functions: what the ids of a profile stand for.
use Rattle.perfdata_profile.specs.Interning.{Grows}
use Rattle.perfdata_profile.specs.Values.{Lists}

-- Entries are added after those that were there.
pub record ListsGrow (old new : Lists) : Type 0 where
  pub names : Grows old.names new.names
  pub ranges : Grows old.ranges new.ranges
  pub lines : Grows old.lines new.lines
  pub locations : Grows old.locations new.locations
  pub stacks : Grows old.stacks new.stacks
