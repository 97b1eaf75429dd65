use Rattle.std.proofs.Common.{[], refl, inl, inr}
use Rattle.perfdata_stack_arrays.proofs.stacks.write_stacks.Goals as goal

pub returns-in-Err : goal.returns-in-Err
returns-in-Err c = record {
  own = record { stacks = []; frames = []; mappings = []; text = [] };
  totals_are = refl;
  writes = record { stacks = refl; frames = refl; mappings = refl; text = refl };
  ends = inl (record {
    error = c.in-Err.error;
    is_error = c.in-Err.is;
    stacks_none = refl;
    frames_none = refl;
    mappings_none = refl;
    text_none = refl;
    status_is = c.status_of_error.ensures;
  });
}

pub walk_stacks-walked-requires : goal.walk_stacks-walked-requires
walk_stacks-walked-requires c = (_, (_, c.new-records.ensures))

pub returns : goal.returns
returns c =
    let w = c.walk_stacks-walked.ensures in
    record {
      own = w.own;
      totals_are = w.totals_are;
      writes = w.writes;
      ends = inr (
        c.in-Ok.reader,
        (
          c.in-Ok.is,
          record {
            start = c.new-records.result;
            starts = c.new-records.ensures;
            entries = w.entries;
            events = w.events;
            at_end = w.at_end;
            file_at_end = w.file_at_end;
            read = w.read;
            has = w.has;
            end = c.walk_stacks-walked.result.end;
            last = c.walk_stacks-walked.new.records;
            last_file = c.walk_stacks-walked.new.perf_file;
            ends = w.ends;
            status_is = c.status_of_end.ensures;
          },
        ),
      );
    }
