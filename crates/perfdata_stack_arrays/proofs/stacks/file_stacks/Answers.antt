use Rattle.perfdata_stack_arrays.proofs.stacks.file_stacks.Goals as goal

pub returns : goal.returns
returns c = record { opened = c.parse_file-opened.result; parses = c.parse_file-opened.ensures; reads = c.write_stacks.ensures }
