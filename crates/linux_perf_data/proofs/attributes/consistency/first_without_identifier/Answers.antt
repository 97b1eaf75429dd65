use Rattle.std.proofs.Common.{◌≡◌, false, true, get_or, ap, sym, ◌∙◌, arith}
use Rattle.perfdata_identifiers.specs.ParseInfo.{is_set}
use Rattle.linux_perf_data.specs.Attribute.{has_identifier}
use Rattle.linux_perf_data.specs.Descriptions.{described_attribute}
use Rattle.linux_perf_data.proofs.OneMoreAttribute.{looked_at}
use Rattle.linux_perf_data.proofs.attributes.consistency.first_without_identifier.Goals as goal

pub returns-then-not-has_identifier : goal.returns-then-not-has_identifier
returns-then-not-has_identifier c =
    let i = c.attributes.invariant in
    let d = c.attribute-item.result in
    let inside = c.attributes-test.true in
    let here : d ≡ get_or c.args.attributes.now c.attributes.index d = c.attribute-item.is ∙ ap (λ n. get_or c.args.attributes.now n d) (sym i.at) in
    let is_missing : has_identifier (described_attribute d) ≡ false = sym (ap (λ a. is_set a.sample_format.0 16) c.attributes-in-attributes.ensures) ∙ sym c.has_identifier.ensures ∙ c.if-not-has_identifier.true in
    sym (looked_at c.args.attributes.now c.attributes.index d false (let at = i.at in omega (arith, at, inside)) here is_missing) ∙ i.are

pub attributes-preserved : goal.attributes-preserved
attributes-preserved c =
    let i = c.attributes.invariant in
    let d = c.attribute-item.result in
    let inside = c.attributes-test.true in
    let at = i.at in
    let here : d ≡ get_or c.args.attributes.now c.attributes.index d = c.attribute-item.is ∙ ap (λ n. get_or c.args.attributes.now n d) (sym i.at) in
    let has : has_identifier (described_attribute d) ≡ true = sym (ap (λ a. is_set a.sample_format.0 16) c.attributes-in-attributes.ensures) ∙ sym c.has_identifier.ensures ∙ c.if-not-has_identifier.false in
    record {
      at = omega (arith, at);
      are = sym (looked_at c.args.attributes.now c.attributes.index d true (omega (arith, at, inside)) here has) ∙ i.are;
    }
