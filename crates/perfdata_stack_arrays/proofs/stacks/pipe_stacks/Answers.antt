use Rattle.perfdata_stack_arrays.proofs.stacks.pipe_stacks.Goals as goal

pub returns : goal.returns
returns c = record { opened = c.parse_pipe-opened.result; parses = c.parse_pipe-opened.ensures; reads = c.write_stacks.ensures }
