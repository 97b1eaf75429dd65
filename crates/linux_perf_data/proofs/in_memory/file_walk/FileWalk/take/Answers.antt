use Rattle.std.proofs.Common.{◌-◌, refl, arith, length, drop, length-drop}
use Rattle.std.proofs.lemmas.List.{take_all}
use Rattle.linux_perf_data.proofs.in_memory.file_walk.FileWalk.take.Goals as goal

pub returns-clause-walk : goal.returns-clause-walk
returns-clause-walk c =
    let bytes = c.args.self.now.remaining.now in
    let n = c.args.next.length in
    record {
      same_endian = refl;
      same_section_size = refl;
      same_round = refl;
      offset_is = refl;
      remaining_is = take_all (length bytes - n) (drop n bytes) (omega (arith, length-drop n bytes));
      same_parse_info = refl;
    }
