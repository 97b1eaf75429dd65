use Rattle.std.proofs.Common.{sym, ap, ◌∙◌}
use Rattle.std.specs.Option.{option_map}
use Rattle.perfdata_records.specs.BuildIdEvent.{build_id_entry_of}
use Rattle.perfdata_records.specs.DsoKey.{key_in, key_of}
use Rattle.linux_perf_data.proofs.LastBuildIds.{eq_is, key_found, key_missed, last_skipped, last_kept}
use Rattle.linux_perf_data.proofs.perf_file.build_ids.insert_entry.Goals as goal

pub returns-in-None : goal.returns-in-None
returns-in-None c = λ es before.
    let e = build_id_entry_of c.args.entry in
    let mode = c.from_misc-mode.result in
    last_skipped c.args.ids.now es e (key_missed e mode c.from_misc-mode.ensures (sym (ap (option_map key_in) c.in-None.is) ∙ c.in_ok-key.ensures ∙ ap (λ p. key_of p mode) c.as_slice.ensures.value)) before

pub returns : goal.returns
returns c = λ es before.
    let e = build_id_entry_of c.args.entry in
    let mode = c.from_misc-mode.result in
    last_kept _ eq_is c.args.ids.now c.insert.new.self c.in-Some.key _ c.in_ok-insert.ensures.updates es e
    (key_found e mode c.in-Some.key c.from_misc-mode.ensures (sym (ap (option_map key_in) c.in-Some.is) ∙ c.in_ok-key.ensures ∙ ap (λ p. key_of p mode) c.as_slice.ensures.value)) before
