use Rattle.std.proofs.Common.{ℕ, subst, w32}
use Rattle.std.proofs.lemmas.Int.{to_z-of_z}
use Rattle.perfdata_stack_arrays.proofs.Finding.{frame_found, one_of_bool}
use Rattle.perfdata_stack_arrays.specs.steps.Frames.{FindsFileOffset}
use Rattle.perfdata_stack_arrays.proofs.frame.frame_entry.Goals as goal

pub returns : goal.returns
returns c = λ before follows.
    let finds = subst (λ (a : ℕ). FindsFileOffset before c.args.pid a c.args.frame.frame.context c.find_file_offset-offset.result) c.lookup_address.ensures (rw (to_z-of_z w32 c.args.pid c.ranges.pid) at (c.find_file_offset-offset.ensures before follows)) in
    frame_found before c.args.pid c.args.frame c.find_file_offset-offset.result _ finds
    (λ i. record { address = c.args.frame.frame.address; file_offset = c.find_file_offset-offset.result.file_offset; mapping = c.find_file_offset-offset.result.mapping; context = (c.new.ensures i).context; is_caller = one_of_bool c.args.frame.is_caller i })
