use Rattle.perfdata_cli.proofs.input.OpenInput.into_bytes.Goals as goal

pub returns : goal.returns
returns c = record { whole = λ other. c.content_end-end.ensures (c.in_ok-bytes.ensures other) }
