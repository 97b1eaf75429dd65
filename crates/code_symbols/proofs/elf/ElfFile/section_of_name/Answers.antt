use Rattle.std.proofs.Common.{◌≡◌, ℕ, ◌<◌, List, length, sym, ap, subst, ◌∙◌, arith}
use Rattle.std.specs.Prelude.{All, get_or}
use Rattle.std.proofs.lemmas.List.{take_all}
use Rattle.std.proofs.lemmas.Bool.{false≢true}
use Rattle.code_symbols.specs.ElfFiles.{section_names_of, sections_of}
use Rattle.code_symbols.specs.NamedSections.{IsFirstOfName, IsNamed}
use Rattle.code_symbols.specs.declared.elf.header.Section.{Section}
use Rattle.code_symbols.proofs.NamedLemmas.{first_name, other_name}
use Rattle.code_symbols.proofs.SectionLemmas.{no_section}
use Rattle.code_symbols.proofs.elf.ElfFile.section_of_name.Goals as goal

pub returns-then-is_named : goal.returns-then-is_named
returns-then-is_named g c =
    let names = section_names_of c.args.self.now in
    let sections : List Section = sections_of c.args.self.now in
    let i : ℕ = c.sections.section-index in
    let same : c.deref-section-items.result.now ≡ sections = c.deref-section-items.ensures.value in
    let within : i < length sections = omega (arith, c.sections-test.true, ap length same) in
    let here : IsNamed names c.args.name.now (get_or sections i no_section) =
    subst (λ xs. IsNamed names c.args.name.now (get_or xs i no_section)) same (c.is_named.ensures.0 c.if-is_named.true) in
    subst (λ xs. IsFirstOfName names sections c.args.name.now (get_or xs i no_section)) (sym same)
    (first_name names c.args.name.now sections i no_section within c.sections.invariant here)

pub sections-preserved : goal.sections-preserved
sections-preserved g c =
    let names = section_names_of c.args.self.now in
    let sections : List Section = sections_of c.args.self.now in
    let i : ℕ = c.sections.section-index in
    let same : c.deref-section-items.result.now ≡ sections = c.deref-section-items.ensures.value in
    let within : i < length sections = omega (arith, c.sections-test.true, ap length same) in
    other_name names c.args.name.now sections i no_section within c.sections.invariant
    (λ named. false≢true (sym c.if-is_named.false ∙ c.is_named.ensures.1 (subst (λ xs. IsNamed names c.args.name.now (get_or xs i no_section)) (sym same) named)))

pub returns : goal.returns
returns g c =
    let sections : List Section = sections_of c.args.self.now in
    let same : c.deref-section-items.result.now ≡ sections = c.deref-section-items.ensures.value in
    subst (All (λ s. ¬ IsNamed (section_names_of c.args.self.now) c.args.name.now s))
    (take_all c.sections.section-index sections (omega (arith, c.sections-test.false, ap length same))) c.sections.invariant
