use Rattle.std.proofs.Common.{◌≡◌, ◌≤◌, ◌+◌, ◌-◌, ◌∙◌, sym, subst, ap, arith, length, drop, take, length-drop}
use Rattle.std.specs.Str.{IsUtf8}
use Rattle.std.proofs.lemmas.List.{take_all}
use Rattle.std.proofs.lemmas.Result.{err_from_is_err_and}
use Rattle.perfdata_sources.specs.Endian.{number_in}
use Rattle.perfdata_sections.specs.HeaderString.{before_nul}
use Rattle.linux_perf_data.specs.Values.{string_text}
use Rattle.linux_perf_data.proofs.perf_file.parse.split_string.Goals as goal

pub returns-in_err-text : goal.returns-in_err-text
returns-in_err-text c =
    let p = err_from_is_err_and c.from_residual.result c.from_residual.ensures.1 in
    let same : c.before_nul.result.now ≡ string_text c.args.endian c.args.bytes.now = c.before_nul.ensures ∙ ap (λ l. before_nul (take c.read_u32-length.result l)) (take_all (length c.args.bytes.now - 4) (drop 4 c.args.bytes.now) (omega (arith, length-drop 4 c.args.bytes.now))) ∙ ap (λ n. before_nul (take n (drop 4 c.args.bytes.now))) c.read_u32-length.ensures in
    let fits : 4 + number_in c.args.endian 4 c.args.bytes.now ≤ length c.args.bytes.now = omega (arith, length-drop 4 c.args.bytes.now, c.read_u32-length.ensures) in
    rw (p.1, p.2) (((c.if-bytes-lt4.false, fits), λ utf8. c.in_err-text.ensures.cases.0 (subst IsUtf8 (sym same) utf8)))
