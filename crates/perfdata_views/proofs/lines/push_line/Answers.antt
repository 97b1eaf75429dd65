use Rattle.std.proofs.Common.{◌≡◌, ◌∙◌, ◌<◌, ◌≤◌, ◌++◌, ℕ, List, ap, append_assoc, arith, drop, length, map}
use Rattle.perfdata_profile.specs.Profiles.{lists_of}
use Rattle.perfdata_profile.specs.Values.{name_at, stack_at, thread_key}
use Rattle.perfdata_profile.specs.declared.names.NameId.{NameId}
use Rattle.perfdata_views.specs.Lines.{frames_text, names_text, thread_text}
use Rattle.perfdata_views.proofs.LineSums.{line_more, line_none}
use Rattle.perfdata_views.proofs.lines.push_line.Goals as goal

pub frames-init : goal.frames-init
frames-init c = line_none (lists_of c.args.tables.now) c.as_slice-functions.result.now c.push_thread.new.line.items

pub frames-preserved : goal.frames-preserved
frames-preserved c =
    let positive : 0 < c.frames.index = omega arith in
    let within : c.frames.index ≤ length c.as_slice-functions.result.now = omega arith in
    let first : NameId = record { 0 = 0 } in
    let more = c.in_ok-extend_from_slice.ensures.items ∙ ap (λ (n : List ℕ). c.push.new.self.items ++ n) c.find_name.ensures in
    line_more (lists_of c.args.tables.now) c.as_slice-functions.result.now first c.frames.index c.push_thread.new.line.items c.frames.line.items c.push.new.self.items c.extend_from_slice.new.self.items positive within c.frames.invariant c.in_ok-push.ensures.items more

pub returns : goal.returns
returns c =
    let lists = lists_of c.args.tables.now in
    let before = c.push_thread.new.line.items in
    let none : c.frames.index ≡ 0 = omega arith in
    let stack = stack_at lists c.args.key.now.stack in
    c.frames.invariant ∙ ap (λ (n : ℕ). before ++ names_text (drop n (map (name_at lists) c.as_slice-functions.result.now))) none
    ∙ ap (λ (ids : List NameId). before ++ names_text (map (name_at lists) ids)) c.as_slice-functions.ensures.value
    ∙ ap (λ (names : List (List ℕ)). before ++ names_text names) c.in_ok-names.ensures.names
    ∙ ap (λ (b : List ℕ). b ++ frames_text stack) c.in_ok-push_thread.ensures
    ∙ append_assoc c.args.line.now.items (thread_text (thread_key lists c.args.key.now.thread)) (frames_text stack)
