use Rattle.std.proofs.Common.{◌≡◌, ◌∙◌, ℕ, List, [], ◌∷◌, ◌++◌, refl, sym, subst, inl, inr}
use Rattle.std.proofs.lemmas.Result.{err_from_is_err_and}
use Rattle.perfdata_sections.specs.AttributeDescription.{ids_in}
use Rattle.linux_perf_data.specs.Attribute.{Attribute}
use Rattle.linux_perf_data.specs.Descriptions.{described_attribute}
use Rattle.linux_perf_data.specs.AttributeLookup.{Represents}
use Rattle.perfdata_records.specs.HeaderAttr.{attribute_of}
use Rattle.linux_perf_data.proofs.LateMetadataLemmas.{added_not, fits_reserved, attribute_applied}
use Rattle.linux_perf_data.proofs.metadata_records.apply_attribute.Goals as goal

pub push_attribute-requires-clause-fits : goal.push_attribute-requires-clause-fits
push_attribute-requires-clause-fits c =
    let made = c.in_ok-reserve_one.ensures in
    let own : ids_in c.new.result ≡ c.deref.result.now = c.new.ensures.ids ∙ sym c.deref.ensures.value in
    fits_reserved c.args.perf_file.now c.reserve_one.new.self c.deref.result.now (ids_in c.new.result) c.in_ok-naming.naming made.0 made.4 own c.in_ok-naming.ensures.0

pub returns-in_err-naming : goal.returns-in_err-naming
returns-in_err-naming c =
    let p = err_from_is_err_and c.from_residual-in_err-naming.result c.from_residual-in_err-naming.ensures.1 in
    rw (p.1, p.2) (
      record { same_endian = refl; descriptions = refl; features = refl; feature_data = λ n. refl },
      λ _. c.in_ok-header.ensures.0,
      λ other. inr (inl (c.in_ok-header.ensures.0, c.in_err-naming.ensures other)),
    )

pub returns-in_err-add : goal.returns-in_err-add
returns-in_err-add c =
    let p = err_from_is_err_and c.from_residual-in_err-add.result c.from_residual-in_err-add.ensures.1 in
    rw (p.1, p.2) (let reason = added_not c.args.endian c.args.lookup.now c.args.perf_file.now c.args.body.now c.in_ok-header.header.attr c.deref-2.result.now c.in_ok-header.header.ids.items c.deref.result.now c.in_ok-naming.naming c.in_err-add.field-0.0
    c.in_ok-header.ensures.0 c.deref-2.ensures.value c.in_ok-header.ensures.1 c.in_ok-naming.ensures c.in_err-add.ensures in
    (c.in_ok-reserve_one.ensures.0, reason.0, reason.1))

pub returns : goal.returns
returns c =
    let header = c.in_ok-header.header in
    let made = c.in_ok-reserve_one.ensures in
    let one : described_attribute c.new.result ≡ attribute_of header = (let attr = c.new.ensures.attr in let ids = c.new.ensures.ids in cc) in
    let knows = λ (attrs : List Attribute) (k : Represents c.args.endian c.args.lookup.now attrs). subst (λ (l : List ℕ). Represents c.args.endian c.add.new.self (attrs ++ record { attr = header.attr; ids = l } ∷ [])) c.deref-2.ensures.value (c.in_ok-add.ensures attrs k) in
    attribute_applied c.args.endian c.args.lookup.now c.add.new.self c.args.perf_file.now c.reserve_one.new.self c.push_attribute.new.self c.args.body.now (attribute_of header) c.new.result c.in_ok-naming.naming c.deref.result.now
    c.in_ok-header.ensures.0 c.in_ok-header.ensures.1 c.in_ok-naming.ensures made.0 made.4 knows one c.push_attribute.ensures
