use Rattle.std.proofs.Common.{rules, ◌∙◌, ap, refl, inr}
use Rattle.std.specs.IoError.{error_kind}
use Rattle.perfdata_chunks.proofs.events.read_event.Goals as goal

pub returns-in-Err-parse : goal.returns-in-Err-parse
returns-in-Err-parse c =
    let found = c.in-Ok.found in
    let result = c.event_result-in-Err-parse.ensures in
    let status = ap (λ r. r.status) result ∙ c.status_of_body.ensures in
    inr (
      found.format,
      (
        found.raw,
        c.in-Ok.ensures,
        inr (inr (
          search rules,
          (refl, ap (λ r. r.frames_count) result, ap (λ r. r.counters_count) result),
          (error_kind c.in-Err-parse.error, c.in-Err-parse.ensures.error, status),
        )),
      ),
    )
