use Rattle.std.proofs.lemmas.List.{take_rest}
use Rattle.perfdata_jit.proofs.header.parse_fields.Goals as goal

pub returns : goal.returns
returns c =
    let size = rw take_rest at c.read_u32-2.ensures in
    let machine = rw take_rest at c.read_u32-3.ensures in
    let process = rw take_rest at c.read_u32-4.ensures in
    let time = rw take_rest at c.read_u64.ensures in
    let flags = rw take_rest at c.read_u64-2.ensures in
    λ i. record {
      magic = c.args.magic;
      version = c.read_u32.ensures i;
      total_size = size i;
      elf_machine_arch = machine i;
      pid = process i;
      timestamp = time i;
      flags = flags i;
    }
