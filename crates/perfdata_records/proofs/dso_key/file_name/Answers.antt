use Rattle.std.proofs.Common.{◌+◌, ◌-◌, ◌∙◌, sym, ap, arith, length, drop, length-drop}
use Rattle.std.proofs.lemmas.List.{take_all}
use Rattle.memchr.specs.Find.{is_byte}
use Rattle.memchr.proofs.lemmas.ValueLemmas.{IsLastByte-value}
use Rattle.perfdata_records.specs.DsoKey.{after_offset}
use Rattle.perfdata_records.proofs.dso_key.file_name.Goals as goal

pub returns-in-Some : goal.returns-in-Some
returns-in-Some c =
    let path = c.args.path.now in
    let offset = c.in-Some.slash_offset in
    take_all (length path - (offset + 1)) (drop (offset + 1) path) (omega (arith, length-drop (offset + 1) path))
    ∙ ap (after_offset path) (sym c.in-Some.is ∙ IsLastByte-value (is_byte 47) path c.memrchr.result c.memrchr.ensures)

pub returns-in-None : goal.returns-in-None
returns-in-None c =
    ap (after_offset c.args.path.now) (sym c.in-None.is ∙ IsLastByte-value (is_byte 47) c.args.path.now c.memrchr.result c.memrchr.ensures)
