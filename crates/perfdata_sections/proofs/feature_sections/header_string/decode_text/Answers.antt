use Rattle.std.proofs.Common.{ap, ◌∙◌, sym, subst, length, take}
use Rattle.std.specs.Prelude.{string_bytes}
use Rattle.std.specs.Str.{IsUtf8}
use Rattle.std.proofs.lemmas.Bool.{false≢true}
use Rattle.std.proofs.lemmas.Str.{IsUtf8-string_bytes}
use Rattle.perfdata_sections.specs.HeaderString.{before_nul}
use Rattle.perfdata_sections.proofs.Texts.{text_is_prefix, text_is_utf8, text_is_not_utf8}
use Rattle.perfdata_sections.proofs.feature_sections.header_string.decode_text.Goals as goal

pub returns-in-Ok : goal.returns-in-Ok
returns-in-Ok c =
    let kept = text_is_prefix c.args.bytes.items _ (c.truncate.ensures.items ∙ ap (λ l. take (length l) c.args.bytes.items) (c.before_nul-length.ensures ∙ ap before_nul c.as_slice.ensures.value)) in
    text_is_utf8 (before_nul c.args.bytes.items) (string_bytes c.in-Ok.text) (ap (λ v. v.items) c.in-Ok.ensures.ok ∙ kept) (IsUtf8-string_bytes c.in-Ok.text)

pub returns : goal.returns
returns c =
    let kept = text_is_prefix c.args.bytes.items _ (c.truncate.ensures.items ∙ ap (λ l. take (length l) c.args.bytes.items) (c.before_nul-length.ensures ∙ ap before_nul c.as_slice.ensures.value)) in
    text_is_not_utf8 (before_nul c.args.bytes.items) (λ is. false≢true (c.in-Err.ensures.succeeds (subst IsUtf8 (sym kept) is)))
