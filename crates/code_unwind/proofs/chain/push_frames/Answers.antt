use Rattle.std.proofs.Common.{◌<◌, length, arith, refl}
use Rattle.code_unwind.specs.Chains.{frame_limit}
use Rattle.code_unwind.specs.Expressions.{remaining_of}
use Rattle.code_unwind.proofs.ChainLemmas.{step_in_more, chain_ends, chain_stops, chain_goes}
use Rattle.code_unwind.proofs.chain.push_frames.Goals as goal

pub returns-in-Err-clause-chain : goal.returns-in-Err-clause-chain
returns-in-Err-clause-chain g c =
    let m = c.args.sample.now.machine in
    let copy = c.args.sample.now.copy in
    let executable = g.C.CodeMap.executable c.args.code.now in
    let at = g.C.CodeMap.places c.args.code.now in
    let n = remaining_of c.find_step.new.evaluator in
    let is_step = step_in_more (g.C.CodeMap.executable c.frames.code) executable c.frames.invariant.executable (g.C.CodeMap.places c.frames.code) at c.frames.invariant.places m copy c.frames.frame (remaining_of c.frames.evaluator) c.in_ok-step.step c.find_step.new.caller n c.in_ok-step.ensures.step in
    chain_ends executable at m copy (frame_limit copy) c.args.first 16384 c.frames.frames.items c.push.new.self.items c.frames.frame (remaining_of c.frames.evaluator) c.in_ok-step.step c.find_step.new.caller n c.user_frame.result is_step c.frames.invariant.leads c.user_frame.ensures c.in_ok-push.ensures.items c.in-Err.end c.in-Err.is

pub returns-in-Ok-clause-chain : goal.returns-in-Ok-clause-chain
returns-in-Ok-clause-chain g c =
    let m = c.args.sample.now.machine in
    let copy = c.args.sample.now.copy in
    let executable = g.C.CodeMap.executable c.args.code.now in
    let at = g.C.CodeMap.places c.args.code.now in
    let n = remaining_of c.find_step.new.evaluator in
    let is_step = step_in_more (g.C.CodeMap.executable c.frames.code) executable c.frames.invariant.executable (g.C.CodeMap.places c.frames.code) at c.frames.invariant.places m copy c.frames.frame (remaining_of c.frames.evaluator) c.in_ok-step.step c.find_step.new.caller n c.in_ok-step.ensures.step in
    chain_stops executable at m copy (frame_limit copy) c.args.first 16384 c.frames.frames.items c.push.new.self.items c.frames.frame (remaining_of c.frames.evaluator) c.in_ok-step.step c.find_step.new.caller n c.user_frame.result is_step c.frames.invariant.leads c.user_frame.ensures c.in_ok-push.ensures.items c.in-Ok.is (omega (arith, c.if-len-limit.true, c.len.ensures))

pub frames-preserved : goal.frames-preserved
frames-preserved g c =
    let m = c.args.sample.now.machine in
    let copy = c.args.sample.now.copy in
    let executable = g.C.CodeMap.executable c.args.code.now in
    let at = g.C.CodeMap.places c.args.code.now in
    let n = remaining_of c.find_step.new.evaluator in
    let is_step = step_in_more (g.C.CodeMap.executable c.frames.code) executable c.frames.invariant.executable (g.C.CodeMap.places c.frames.code) at c.frames.invariant.places m copy c.frames.frame (remaining_of c.frames.evaluator) c.in_ok-step.step c.find_step.new.caller n c.in_ok-step.ensures.step in
    let within : length c.push.new.self.items < frame_limit copy = omega (arith, c.if-len-limit.false, c.len.ensures) in
    record {
      limit_is = refl;
      within = within;
      executable = λ a b h. c.frames.invariant.executable a b (c.in_ok-step.ensures.executable a b h);
      places = λ a p h. c.frames.invariant.places a p (c.in_ok-step.ensures.places a p h);
      leads = chain_goes executable at m copy (frame_limit copy) c.args.first 16384 c.frames.frames.items c.push.new.self.items c.frames.frame (remaining_of c.frames.evaluator) c.in_ok-step.step c.find_step.new.caller n c.user_frame.result is_step c.frames.invariant.leads c.user_frame.ensures c.in_ok-push.ensures.items c.in-Ok-2.is within;
    }
