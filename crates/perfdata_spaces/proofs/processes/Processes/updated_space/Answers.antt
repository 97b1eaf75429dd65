use Rattle.std.proofs.Common.{◌≡◌, ◌∙◌, ◌<◌, ◌^◌, ap, ℕ, Option, Result, Ok, Err, IfOk, if◌then◌else◌, w32}
use Rattle.std.proofs.lemmas.Int.{to_z-of_z}
use Rattle.std.specs.declared.alloc.AllocError.{AllocError}
use Rattle.perfdata_spaces.specs.Ranges.{value_of}
use Rattle.perfdata_spaces.specs.steps.Ranges.{covers}
use Rattle.perfdata_spaces.specs.Processes.{value_in, value_in_space}
use Rattle.perfdata_spaces.specs.declared.ranges.AddressRange.{AddressRange}
use Rattle.perfdata_spaces.specs.declared.ranges.RangeMap.{RangeMap}
use Rattle.perfdata_spaces.proofs.processes.Processes.updated_space.Goals as goal

Sets : Option AddressRange → Option ℕ → (ℕ → Option ℕ) → Result RangeMap AllocError → Type 0
Sets range value old result = IfOk result (λ space. (address : ℕ) → address < 2 ^ 64 → value_of space address ≡ (if covers range address then value else old address))

same_old : (range : Option AddressRange) (value : Option ℕ) (old other : ℕ → Option ℕ) → ((address : ℕ) → old address ≡ other address) → (result : Result RangeMap AllocError) → Sets range value old result → Sets range value other result
unfolding Sets
same_old range value old other same (Ok space) sets = λ address fits. sets address fits ∙ ap (λ kept. if covers range address then value else kept) (same address)
same_old range value old other same (Err error) sets = sets

pub returns-in-Some : goal.returns-in-Some
unfolding Sets
returns-in-Some c =
    let found = rw (to_z-of_z w32 c.args.pid c.ranges.pid) at c.in-Some.ensures in
    same_old c.args.range c.args.value (value_of c.in-Some.space.now) (value_in c.args.self.now c.args.pid) (λ address. ap (λ space. value_in_space space address) found) c.updated.result c.updated.ensures

pub returns-in-None : goal.returns-in-None
unfolding Sets
returns-in-None c =
    let found = rw (to_z-of_z w32 c.args.pid c.ranges.pid) at c.in-None.ensures in
    same_old c.args.range c.args.value (value_of c.new.result) (value_in c.args.self.now c.args.pid) (λ address. c.new.ensures address ∙ ap (λ space. value_in_space space address) found) c.updated-in-None.result c.updated-in-None.ensures
