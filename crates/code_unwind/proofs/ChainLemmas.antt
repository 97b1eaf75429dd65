-- Steps of a process that has mapped no more than another, and the chain of a frame and its caller's.
use Rattle.std.proofs.Common.{◌≡◌, ℕ, ◌+◌, ◌-◌, ◌<◌, ◌≤◌, List, [], ◌∷◌, ◌++◌, length, Bool, Ok, Err, Result, refl, sym, ap, ◌∙◌, subst, inl, inr, arith, append_assoc, length-append, drop, true, false, IfOk, OnOk}
use Rattle.std.specs.Prelude.{All}
use Rattle.std.proofs.lemmas.Bool.{true≢false}
use Rattle.std.proofs.lemmas.List.Elements.{All-nil, All-cons, All-same}
use Rattle.code_cfi.specs.declared.instruction.Machine.{Machine}
use Rattle.code_unwind.specs.Callers.{IsCaller, EndsWith, IsEnd}
use Rattle.code_unwind.specs.steps.Callers.{MakesFoundCaller}
use Rattle.code_unwind.specs.steps.ChainEnds.{value_in}
use Rattle.code_unwind.specs.Chains.{IsLast, IsChain, IsMapped}
use Rattle.code_unwind.specs.Frames.{look_up_of, user_frame_of}
use Rattle.code_unwind.specs.FrameSteps.{Finds}
use Rattle.code_unwind.specs.steps.FrameSteps.{IsStep}
use Rattle.code_unwind.specs.declared.registers.FrameRegisters.{FrameRegisters}
use Rattle.code_unwind.specs.declared.stack_copy.StackCopy.{StackCopy}
use Rattle.code_unwind.specs.declared.code.MappedCode.{MappedCode}
use Rattle.code_unwind.specs.declared.frame.UnwoundFrame.{UnwoundFrame}
use Rattle.code_unwind.specs.declared.frame.UserFrame.{UserFrame}
use Rattle.code_unwind.specs.declared.frame.ChainEnd.{ChainEnd}
use Rattle.code_unwind.specs.declared.frame.ChainEnd.TheVariants as ends
use Rattle.code_unwind.specs.declared.step.CallerRegisters.{CallerRegisters}
use Rattle.code_unwind.specs.declared.step.Step.{Step}

module _ (executable others : ℕ → Bool → Type 0) (more : (a : ℕ) (b : Bool) → executable a b → others a b) (m : Machine) (f : UnwoundFrame) (found : CallerRegisters) where
  pub caller_in_more : (g : UnwoundFrame) → IsCaller executable m f found g → IsCaller others m f found g
  caller_in_more g h = record { registers = h.registers; found_are = h.found_are; has = record { may = h.has.may; caller_is = h.has.caller_is; mapped = more _ _ h.has.mapped } }

  pub ends_in_more : (r : FrameRegisters) (e : ChainEnd) → EndsWith executable m f found r e → EndsWith others m f found r e
  ends_in_more r ends.Root h = h
  ends_in_more r ends.Truncated h = h
  ends_in_more r ends.Outside h = (h.0, h.1, more _ _ h.2)
  ends_in_more r ends.NoCfi h = h
  ends_in_more r ends.BadCfi h = h
  ends_in_more r ends.Stuck h = h
  ends_in_more r ends.Limit h = h
  ends_in_more r ends.OtherAbi h = h
  ends_in_more r ends.None h = h

  pub end_in_more : (e : ChainEnd) → IsEnd executable m f found e → IsEnd others m f found e
  end_in_more e (inl h) = inl h
  end_in_more e (inr h) = inr (record { registers = h.registers; found_are = h.found_are; ends_with = ends_in_more h.registers e h.ends_with })

  pub made_in_more : (r : Result UnwoundFrame ChainEnd) → MakesFoundCaller executable m f found r → MakesFoundCaller others m f found r
  made_in_more (Ok g) h = caller_in_more g h
  made_in_more (Err e) h = end_in_more e h

module _ (at places : ℕ → MappedCode → Type 0) (more : (a : ℕ) (p : MappedCode) → at a p → places a p) (m : Machine) (c : StackCopy) (f : UnwoundFrame) (k : ℕ) (found : CallerRegisters) (n : ℕ) where
  pub finds_in_more : Finds at m c f k found n → Finds places m c f k found n
  finds_in_more (inl h) = inl (record { place = h.place; place_is = more _ _ h.place_is; table = h.table; index = h.index; address = h.address; has_fde = h.has_fde; by_fde = h.by_fde })
  finds_in_more (inr h) = inr (record { place = h.place; place_is = more _ _ h.place_is; no_fde = h.no_fde; code_place = h.code_place; code_place_is = more _ _ h.code_place_is; found_is = h.found_is; left_is = h.left_is })

module _ (executable : ℕ → Bool → Type 0) (m : Machine) (finds : UnwoundFrame → ℕ → CallerRegisters → ℕ → Type 0) where
  -- what is left of a chain after these frames makes the chain
  abbrev pub Leads : ℕ → UnwoundFrame → ℕ → List UserFrame → UnwoundFrame → ℕ → Type 0
  Leads limit first start frames f k = (us : List UserFrame) (e : ChainEnd) → IsChain executable m finds (limit - length frames) f k us e → IsChain executable m finds limit first start (frames ++ us) e

  pub leads_more : (limit : ℕ) (first : UnwoundFrame) (start : ℕ) (frames : List UserFrame) (f : UnwoundFrame) (k : ℕ) (found : CallerRegisters) (n : ℕ) (u : UserFrame) (g : UnwoundFrame) → Leads limit first start frames f k → finds f k found n → u ≡ user_frame_of f found.is_signal → length frames + 1 < limit → IsCaller executable m f found g → Leads limit first start (frames ++ u ∷ []) g n
  leads_more limit first start frames f k found n u g leads finds_it is within caller us e h =
      let rooms : limit - length (frames ++ u ∷ []) ≡ limit - length frames - 1 = omega (arith, length-append frames (u ∷ [])) in
      let rest : IsChain executable m finds (limit - length frames - 1) g n us e = subst (λ (r : ℕ). IsChain executable m finds r g n us e) rooms h in
      let enough : 2 ≤ limit - length frames = omega (arith, within) in
      subst (λ (all : List UserFrame). IsChain executable m finds limit first start all e) (sym (append_assoc frames (u ∷ []) us))
      (leads (u ∷ us) e (found, n, finds_it, is, inr (g, enough, caller, rest)))

  pub leads_last : (limit : ℕ) (first : UnwoundFrame) (start : ℕ) (frames : List UserFrame) (f : UnwoundFrame) (k : ℕ) (found : CallerRegisters) (n : ℕ) (u : UserFrame) (e : ChainEnd) → Leads limit first start frames f k → finds f k found n → u ≡ user_frame_of f found.is_signal → IsLast executable m finds f found (limit - length frames) e → IsChain executable m finds limit first start (frames ++ u ∷ []) e
  leads_last limit first start frames f k found n u e leads finds_it is last = leads (u ∷ []) e (found, n, finds_it, is, inl (refl, last))

-- a step of a process that has mapped no more than another
pub step_in_more : (executable others : ℕ → Bool → Type 0) → ((a : ℕ) (b : Bool) → executable a b → others a b) → (at places : ℕ → MappedCode → Type 0) → ((a : ℕ) (p : MappedCode) → at a p → places a p) → (m : Machine) (c : StackCopy) (f : UnwoundFrame) (k : ℕ) (step : Step) (caller : UnwoundFrame) (n : ℕ) → IsStep executable at m c f k step caller n → IsStep others places m c f k step caller n
step_in_more executable others more at places mapped m c f k step caller n h = record {
  found = h.found;
  finds = finds_in_more at places mapped m c f k h.found n h.finds;
  makes = made_in_more executable others more m f h.found (value_in step.end caller) h.makes;
  signal_is = h.signal_is;
}

-- A frame of a loop: `all` are the frames with it.
module _ (executable : ℕ → Bool → Type 0) (at : ℕ → MappedCode → Type 0) (m : Machine) (c : StackCopy) (limit : ℕ) (first : UnwoundFrame) (start : ℕ) (frames all : List UserFrame) (f : UnwoundFrame) (k : ℕ) (step : Step) (caller : UnwoundFrame) (n : ℕ) (u : UserFrame) (is_step : IsStep executable at m c f k step caller n) (leads : Leads executable m (Finds at m c) limit first start frames f k) (is : u ≡ user_frame_of f step.is_signal) (all_are : all ≡ frames ++ u ∷ []) where
  pub user_frame_is : u ≡ user_frame_of f is_step.found.is_signal
  user_frame_is = is ∙ ap (λ (b : Bool). user_frame_of f b) is_step.signal_is

  pub length_all : length all ≡ length frames + 1
  length_all = ap (λ (us : List UserFrame). length us) all_are ∙ length-append frames (u ∷ [])

  pub chain_with : (e : ChainEnd) → IsLast executable m (Finds at m c) f is_step.found (limit - length frames) e → IsChain executable m (Finds at m c) limit first start all e
  chain_with e last =
      subst (λ (us : List UserFrame). IsChain executable m (Finds at m c) limit first start us e) (sym all_are)
      (leads_last executable m (Finds at m c) limit first start frames f k is_step.found n u e leads is_step.finds user_frame_is last)

  made_of : (end : Result (Unit {0}) ChainEnd) → step.end ≡ end → MakesFoundCaller executable m f is_step.found (value_in end caller)
  made_of end is_end = subst (λ (r : Result (Unit {0}) ChainEnd). MakesFoundCaller executable m f is_step.found (value_in r caller)) is_end is_step.makes

  pub chain_ends : (e : ChainEnd) → step.end ≡ Err e → IsChain executable m (Finds at m c) limit first start all e
  chain_ends e is_end = chain_with e (record { why = inl (made_of (Err e) is_end) })

  pub chain_stops : step.end ≡ Ok tt → limit ≤ length all → IsChain executable m (Finds at m c) limit first start all ends.Limit
  chain_stops is_caller full =
      let is : IsCaller executable m f is_step.found caller = made_of (Ok tt) is_caller in
      let room : limit - length frames ≤ 1 = omega (arith, length_all, full) in
      chain_with ends.Limit (record { why = inr (refl, room, (caller, is)) })

  pub chain_goes : step.end ≡ Ok tt → length all < limit → Leads executable m (Finds at m c) limit first start all caller n
  chain_goes is_caller within =
      let called : IsCaller executable m f is_step.found caller = made_of (Ok tt) is_caller in
      let enough : length frames + 1 < limit = omega (arith, length_all, within) in
      subst (λ (us : List UserFrame). Leads executable m (Finds at m c) limit first start us caller n) (sym all_are)
      (leads_more executable m (Finds at m c) limit first start frames f k is_step.found n u caller leads is_step.finds user_frame_is enough called)

-- The callers are in executable mappings.
module _ (executable : ℕ → Bool → Type 0) (m : Machine) (finds : UnwoundFrame → ℕ → CallerRegisters → ℕ → Type 0) where
  pub mapped_frame : (f : UnwoundFrame) (u : UserFrame) (b : Bool) → u ≡ user_frame_of f b → executable (look_up_of f) true → IsMapped executable u
  mapped_frame f u false is mapped not_signal = subst (λ (a : ℕ). executable a true) (sym (ap (λ (v : UserFrame). v.address) is)) mapped
  mapped_frame f u true is mapped not_signal = absurd (true≢false (sym (ap (λ (v : UserFrame). v.is_signal) is) ∙ not_signal))

  pub mapped_from : (room : ℕ) (f : UnwoundFrame) (k : ℕ) (us : List UserFrame) (e : ChainEnd) → executable (look_up_of f) true → IsChain executable m finds room f k us e → All (IsMapped executable) us
  mapped_from room f k [] e mapped h = absurd h
  mapped_from room f k (u ∷ us) e mapped h =
      let others : All (IsMapped executable) us = elim h.4 [
        | inl x ↦ All-same (IsMapped executable) us [] x.0 (All-nil (IsMapped executable))
        | inr y ↦ mapped_from (room - 1) y.0 h.1 us e y.2.has.mapped y.3
      ] in
      All-cons (IsMapped executable) u us (mapped_frame f u h.0.is_signal h.3 mapped) others

  pub callers_mapped : (room : ℕ) (f : UnwoundFrame) (k : ℕ) (us : List UserFrame) (e : ChainEnd) → IsChain executable m finds room f k us e → All (IsMapped executable) (drop 1 us)
  callers_mapped room f k [] e h = absurd h
  callers_mapped room f k (u ∷ us) e h = elim h.4 [
    | inl x ↦ All-same (IsMapped executable) us [] x.0 (All-nil (IsMapped executable))
    | inr y ↦ mapped_from (room - 1) y.0 h.1 us e y.2.has.mapped y.3
  ]

  pub result_mapped : {E : Type 0} (r : Result ChainEnd E) (room : ℕ) (f : UnwoundFrame) (k : ℕ) (us : List UserFrame) → IfOk r (λ e. IsChain executable m finds room f k us e) → OnOk r (All (IsMapped executable) (drop 1 us))
  result_mapped (Ok e) room f k us h = callers_mapped room f k us e h
  result_mapped (Err x) room f k us h = h
