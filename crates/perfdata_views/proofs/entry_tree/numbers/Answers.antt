use Rattle.std.proofs.Common.{◌≡◌, ◌∙◌, ◌<◌, ◌≤◌, ◌∷◌, ◌++◌, [], List, ℕ, ap, subst, arith, drop, length, map, reverse}
use Rattle.perfdata_profile.specs.Names.{names_of}
use Rattle.perfdata_profile.specs.Profiles.{lists_of}
use Rattle.perfdata_profile.specs.Values.{name_at, thread_key}
use Rattle.perfdata_profile.specs.declared.names.NameId.{NameId}
use Rattle.perfdata_views.specs.Lines.{thread_text}
use Rattle.perfdata_views.specs.steps.Numbering.{HasNumbers}
use Rattle.perfdata_views.proofs.Numbered.{names_more, names_none, numbers_start}
use Rattle.perfdata_views.proofs.entry_tree.numbers.Goals as goal

pub frames-init : goal.frames-init
frames-init c =
    let lists = lists_of c.args.tables.now in
    let thread = thread_text (thread_key lists c.args.key.now.thread) in
    let first = c.in_ok-push_thread_text.ensures (names_of c.args.texts.now) [] (numbers_start (names_of c.args.texts.now) c.new-numbers.result.items c.new-numbers.ensures.items) in
    subst (λ (ns : List (List ℕ)). HasNumbers (names_of c.args.texts.now) (names_of c.push_thread_text.new.texts) ns c.push_thread_text.new.numbers.items) (names_none lists thread c.as_slice-functions.result.now) first

pub frames-preserved : goal.frames-preserved
frames-preserved c =
    let lists = lists_of c.args.tables.now in
    let thread = thread_text (thread_key lists c.args.key.now.thread) in
    let functions = c.as_slice-functions.result.now in
    let positive : 0 < c.frames.index = omega arith in
    let within : c.frames.index ≤ length functions = omega arith in
    let d : NameId = record { 0 = 0 } in
    let before : List (List ℕ) = thread ∷ reverse (drop c.frames.index (map (name_at lists) functions)) in
    let more = c.in_ok-push_text.ensures (names_of c.args.texts.now) before c.frames.invariant in
    let named = subst (λ (t : List ℕ). HasNumbers (names_of c.args.texts.now) (names_of c.push_text.new.texts) (before ++ t ∷ []) c.push_text.new.numbers.items) c.find_name.ensures more in
    subst (λ (ns : List (List ℕ)). HasNumbers (names_of c.args.texts.now) (names_of c.push_text.new.texts) ns c.push_text.new.numbers.items) (names_more lists thread functions d c.frames.index positive within) named

pub returns : goal.returns
returns c =
    let lists = lists_of c.args.tables.now in
    let thread = thread_text (thread_key lists c.args.key.now.thread) in
    let none : c.frames.index ≡ 0 = omega arith in
    let all = ap (λ (n : ℕ). thread ∷ reverse (drop n (map (name_at lists) c.as_slice-functions.result.now))) none ∙ ap (λ (ids : List NameId). thread ∷ reverse (map (name_at lists) ids)) c.as_slice-functions.ensures.value ∙ ap (λ (names : List (List ℕ)). thread ∷ reverse names) c.in_ok-names.ensures.names in
    subst (λ (ns : List (List ℕ)). HasNumbers (names_of c.args.texts.now) (names_of c.frames.texts) ns c.frames.numbers.items) all c.frames.invariant
