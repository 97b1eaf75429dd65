use Rattle.std.proofs.Common.{◌≡◌, ◌+◌, ◌<◌, suc, length, arith, rules}
use Rattle.code_cfi.proofs.ErrorLemmas.{on_any_error}
use Rattle.code_cfi.proofs.UniqueCies.{letters_before, letters_after, no_letters_at}
use Rattle.code_cfi.proofs.cie.read_letters.Goals as goal

pub letters-preserved : goal.letters-preserved
letters-preserved c =
    let bs = c.args.letters.now in
    let i = c.letters.byte-index in
    let within : i < length bs = search rules in
    let next : suc i ≡ i + 1 = omega arith in
    let rest = c.in_ok-rest-in-Some.rest.now in
    let mid = c.read_letter.new.augmentation in
    record {
      leads = λ a at. c.letters.invariant.leads a (letters_before bs i c.letters.rest.now c.letters.augmentation c.in-Some.letter within c.in-Some.ensures.code (i + 1) rest mid a next c.in_ok-rest-in-Some.ensures.found at);
      follows = λ a at. letters_after bs i c.letters.rest.now c.letters.augmentation c.in-Some.letter within c.in-Some.ensures.code (i + 1) rest mid a next c.in_ok-rest-in-Some.ensures.found (c.letters.invariant.follows a at);
    }

pub returns-in_err-rest-in-Some-clause-none : goal.returns-in_err-rest-in-Some-clause-none
returns-in_err-rest-in-Some-clause-none c =
    let bs = c.args.letters.now in
    let i = c.letters.byte-index in
    let within : i < length bs = search rules in
    on_any_error c.from_residual.result _
    (λ a at. no_letters_at bs i c.letters.rest.now c.letters.augmentation c.in-Some.letter within c.in-Some.ensures.code c.in_err-rest-in-Some.ensures.none a (c.letters.invariant.follows a at))
