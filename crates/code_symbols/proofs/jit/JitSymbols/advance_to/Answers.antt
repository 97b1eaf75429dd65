use Rattle.std.proofs.Common.{◌≡◌, ℕ, ◌<◌, ◌≤◌, List, length, get_or, take, sym, ap, subst, ◌∙◌, arith}
use Rattle.std.proofs.lemmas.List.{get_or_read}
use Rattle.code_symbols.specs.Loads.{ShowsMore}
use Rattle.code_symbols.specs.declared.jit.Load.{Load}
use Rattle.code_symbols.proofs.JitLemmas.{first_until, shows_more}
use Rattle.code_symbols.proofs.jit.JitSymbols.advance_to.Goals as goal

more_of : (low n : ℕ) (loads now : List Load) → now ≡ loads → low ≤ n → ShowsMore (take low loads) (take n now)
more_of low n loads now same least = subst (λ xs. ShowsMore (take low loads) (take n xs)) (sym same) (shows_more low n loads least)

pub returns-in_err-push-clause-kept : goal.returns-in_err-push-clause-kept
returns-in_err-push-clause-kept c =
    more_of c.args.self.now.added c.loads.self.added c.args.self.now.loads.items c.loads.self.loads.items c.loads.invariant.loads_are c.loads.invariant.more

pub returns-else-index-time-clause-kept : goal.returns-else-index-time-clause-kept
returns-else-index-time-clause-kept c =
    more_of c.args.self.now.added c.loads.self.added c.args.self.now.loads.items c.loads.self.loads.items c.loads.invariant.loads_are c.loads.invariant.more

pub returns-after-loads-clause-kept : goal.returns-after-loads-clause-kept
returns-after-loads-clause-kept c =
    more_of c.args.self.now.added c.loads.self.added c.args.self.now.loads.items c.loads.self.loads.items c.loads.invariant.loads_are c.loads.invariant.more

pub returns-else-index-time-clause-up_to : goal.returns-else-index-time-clause-up_to
returns-else-index-time-clause-up_to c = λ old.
    let loads : List Load = c.args.self.now.loads.items in
    let now : List Load = c.loads.self.loads.items in
    let n : ℕ = c.loads.self.added in
    let time : ℕ = c.args.time in
    let same : now ≡ loads = c.loads.invariant.loads_are in
    let within : n ≤ length loads = omega (arith, c.loads.invariant.within, ap length same) in
    let next : n < length loads → (d : Load) → time < (get_or loads n d).time = λ less d.
    let less_now : n < length now = omega (arith, less, ap length same) in
    let is : c.index.result.now ≡ get_or now n d = get_or_read now n c.index.result.now less_now c.index.ensures d in
    subst (λ xs. time < (get_or xs n d).time) same (subst (λ l. time < l.time) is c.if-index-time.false)
    in
    ap (take n) same ∙ first_until time c.args.self.now.added n loads c.args.self.now.sorted c.loads.invariant.more within c.loads.invariant.until next old

pub returns-after-loads-clause-up_to : goal.returns-after-loads-clause-up_to
returns-after-loads-clause-up_to c = λ old.
    let loads : List Load = c.args.self.now.loads.items in
    let now : List Load = c.loads.self.loads.items in
    let n : ℕ = c.loads.self.added in
    let time : ℕ = c.args.time in
    let same : now ≡ loads = c.loads.invariant.loads_are in
    let within : n ≤ length loads = omega (arith, c.loads.invariant.within, ap length same) in
    let next : n < length loads → (d : Load) → time < (get_or loads n d).time = λ less d. absurd (omega (arith, less, ap length same, c.loads-test.false)) in
    ap (take n) same ∙ first_until time c.args.self.now.added n loads c.args.self.now.sorted c.loads.invariant.more within c.loads.invariant.until next old
