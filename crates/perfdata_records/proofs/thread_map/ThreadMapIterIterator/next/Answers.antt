use Rattle.std.proofs.Common.{◌≡◌, ◌≤◌, ◌∷◌, ◌/◌, ℕ, List, length, drop, ap, sym, arith, ◌∙◌}
use Rattle.perfdata_sources.specs.Raw.{bytes_of}
use Rattle.perfdata_sources.specs.Endian.{number_in}
use Rattle.perfdata_records.specs.Thread.{Thread, thread_at}
use Rattle.perfdata_records.specs.ThreadMap.{threads_in}
use Rattle.perfdata_records.proofs.Threads.{threads_step}
use Rattle.perfdata_records.proofs.thread_map.ThreadMapIterIterator.next.Goals as goal

step : (number : ℕ → List ℕ → ℕ) (bytes rest : List ℕ) (thread : Thread) → 24 ≤ length bytes → thread ≡ thread_at number bytes → rest ≡ drop 24 bytes
    → threads_in number (length bytes / 24) bytes ≡ thread ∷ threads_in number (length rest / 24) rest
step number bytes rest thread enough is rest_is =
    threads_step number bytes enough ∙ (λ i. sym is i ∷ ap (λ l. threads_in number (length l / 24) l) (sym rest_is) i)

pub returns-clause-steps : goal.returns-clause-steps
returns-clause-steps c =
    let iter = c.args.self.now in
    let split = c.in_ok-entry.ensures in
    step (number_in iter.endian) (bytes_of iter.rest) (bytes_of c.in_ok-entry.rest) _ split.some split.entry split.rest

pub returns-clause-goes : goal.returns-clause-goes
returns-clause-goes c =
    let iter = c.args.self.now in
    let split = c.in_ok-entry.ensures in
    let all = ap length (step (number_in iter.endian) (bytes_of iter.rest) (bytes_of c.in_ok-entry.rest) _ split.some split.entry split.rest) in
    record { on = λ _. (tt, tt, omega (arith, all)); keeps = tt; rests = λ _. tt }
