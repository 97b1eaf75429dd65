-- The chains of a cache.
use Rattle.std.proofs.Common.{◌≡◌, ◌∙◌, ◌⊎◌, ◌≤◌, ◌-◌, ◌&&◌, ◌==◌, inl, inr, ap, refl, sym, arith, ℕ, ℤ, of_z, to_z, w32, FitsSigned, Bool, true, false, List, [], ◌∷◌, ◌++◌, length, length-append, map, slice_get, slice_range, take, drop, Some}
use Rattle.std.proofs.lemmas.Bool.Decides.{Decides-and, Decides-eqb}
use Rattle.std.proofs.lemmas.Int.{to_z-of_z}
use Rattle.std.proofs.lemmas.List.{append-nil, drop_at, drop-append-le, length-drop, take_at, take-append-le}
use Rattle.std.proofs.lemmas.Slice.Eq.{slice_eq-Decides}
use Rattle.std.specs.Bool.{beq, Decides}
use Rattle.std.specs.Cmp.Lexicographic.{pointwise}
use Rattle.perfdata_events.specs.declared.fields.call_chain.CallContext.{CallContext}
use Rattle.perfdata_events.specs.declared.fields.call_chain.CallContext.TheVariants.{Hypervisor, Kernel, User, Guest, GuestKernel, GuestUser, Unknown}
use Rattle.perfdata_events.specs.contracts.fields.call_chain.CallContextPartialEq.TheImpl.{eq-value as eq_contexts}
use Rattle.perfdata_profile.specs.Chains.{ChainValue, chain_value, chains_in}
use Rattle.perfdata_profile.specs.steps.Chains.{AddsChain, AddsNoChain}
use Rattle.perfdata_profile.specs.steps.ChainRanges.{AreRanges}
use Rattle.perfdata_profile.specs.declared.chain_cache.Chain.{Chain}
use Rattle.perfdata_profile.specs.declared.chain_cache.ChainCache.{ChainCache}
use Rattle.perfdata_profile.specs.declared.stacks.StackId.{StackId}
use Rattle.perfdata_profile.proofs.Elements.{old_or_last}
use Rattle.perfdata_profile.proofs.Searching.{at_map, map_at}
use Rattle.perfdata_stacks.specs.declared.frames.SampleFrame.{SampleFrame}
use Rattle.perfdata_stacks.specs.contracts.frames.SampleFramePartialEq.TheImpl.{eq-value}

contexts-Decides : (a b : CallContext) → Decides (eq_contexts.it a b) (a ≡ b)
contexts-Decides Hypervisor Hypervisor = (λ is. refl, λ is. refl)
contexts-Decides Kernel Kernel = (λ is. refl, λ is. refl)
contexts-Decides User User = (λ is. refl, λ is. refl)
contexts-Decides Guest Guest = (λ is. refl, λ is. refl)
contexts-Decides GuestKernel GuestKernel = (λ is. refl, λ is. refl)
contexts-Decides GuestUser GuestUser = (λ is. refl, λ is. refl)
contexts-Decides Unknown Unknown = (λ is. refl, λ is. refl)
contexts-Decides a b = (λ is. cc, λ is. cc)

flags-Decides : (a b : Bool) → Decides (beq a b) (a ≡ b)
flags-Decides true true = (λ is. refl, λ is. refl)
flags-Decides false false = (λ is. refl, λ is. refl)
flags-Decides a b = (λ is. cc, λ is. cc)

abbrev eq_places : SampleFrame → SampleFrame → Bool
eq_places a b = (a.frame.address == b.frame.address) && eq_contexts.it a.frame.context b.frame.context

frame-Decides : (a b : SampleFrame) → Decides (eq-value.it a b) (a ≡ b)
frame-Decides a b =
    let places = Decides-and (a.frame.address == b.frame.address) (eq_contexts.it a.frame.context b.frame.context) (Decides-eqb a.frame.address b.frame.address) (contexts-Decides a.frame.context b.frame.context) in
    let parts = Decides-and (eq_places a b) (beq a.is_caller b.is_caller) places (flags-Decides a.is_caller b.is_caller) in (
      (λ is. let p = parts.0 is in λ i. record { frame = record { address = p.0.0 i; context = p.0.1 i }; is_caller = p.1 i }),
      (λ is. parts.1 ((ap (λ (f : SampleFrame). f.frame.address) is, ap (λ (f : SampleFrame). f.frame.context) is), ap (λ (f : SampleFrame). f.is_caller) is)),
    )

pub frames-Decides : (xs ys : List SampleFrame) → Decides (pointwise eq-value.it xs ys) (xs ≡ ys)
frames-Decides xs ys = slice_eq-Decides frame-Decides xs ys (pointwise eq-value.it xs ys) refl

pub same_pid : (a b : ℤ) → FitsSigned w32 a → FitsSigned w32 b → of_z w32 a ≡ of_z w32 b → a ≡ b
same_pid a b first second is = sym (to_z-of_z w32 a first) ∙ ap (to_z w32) is ∙ to_z-of_z w32 b second

-- A chain that is found.
pub chain_found : (arena frames kept : List SampleFrame) (chains : List Chain) (index : ℕ) (chain : Chain) (pid : ℤ) → slice_get chains index ≡ Some chain → kept ≡ slice_range arena chain.start chain.end → kept ≡ frames → chain.pid ≡ pid → ((at : ℕ) × (slice_get (map (chain_value arena) chains) at ≡ Some (record { pid = pid; frames = frames; id = chain.id })))
chain_found arena frames kept chains index chain pid at range same pid_is =
    let frames_are : slice_range arena chain.start chain.end ≡ frames = sym range ∙ same in
    (index, at_map (chain_value arena) chains index chain at ∙ λ i. Some (record { pid = pid_is i; frames = frames_are i; id = chain.id }))

-- A range of frames stays as frames are appended.
range_kept : (arena more : List SampleFrame) (start end : ℕ) → start ≤ end → end ≤ length arena → slice_range (arena ++ more) start end ≡ slice_range arena start end
range_kept arena more start end first last =
    let within : start ≤ length arena = omega (arith, first, last) in
    let size : end - start ≤ length (drop start arena) = omega (arith, first, last, length-drop start arena) in
    ap (take (end - start)) (drop-append-le start arena more within) ∙ take-append-le (end - start) (drop start arena) more size

-- The range of the frames that are appended.
range_added : (arena frames : List SampleFrame) (start end : ℕ) → start ≡ length arena → end ≡ length (arena ++ frames) → slice_range (arena ++ frames) start end ≡ frames
range_added arena frames start end first last =
    let size : end - start ≡ length frames = omega (arith, first, last, length-append arena frames) in
    ap (take (end - start)) (drop_at arena frames start (sym first)) ∙ ap (take (end - start)) (sym (append-nil frames)) ∙ take_at frames [] (end - start) (sym size)

-- One more chain.
module _ (arena longer frames : List SampleFrame) (chains more : List Chain) (chain : Chain) (ranges : AreRanges chains (length arena)) (frames_are : longer ≡ arena ++ frames) (chains_are : more ≡ chains ++ chain ∷ []) (start_is : chain.start ≡ length arena) (end_is : chain.end ≡ length longer) where
  pub chain_added : (pid : ℤ) (id : StackId) → chain.pid ≡ pid → chain.id ≡ id → (index : ℕ) (other : ChainValue) → slice_get (map (chain_value longer) more) index ≡ Some other → ((at : ℕ) × (slice_get (map (chain_value arena) chains) at ≡ Some other)) ⊎ (other ≡ record { pid = pid; frames = frames; id = id })
  chain_added pid id pid_is id_is index other at =
      let m = map_at (chain_value longer) more index other at in
      elim (old_or_last chains chain index m.0 (ap (λ l. slice_get l index) (sym chains_are) ∙ m.1)) [
        | inl was ↦
            let within = ranges index m.0 was in
            let same : slice_range longer m.0.start m.0.end ≡ slice_range arena m.0.start m.0.end = ap (λ l. slice_range l m.0.start m.0.end) frames_are ∙ range_kept arena frames m.0.start m.0.end within.0 within.1 in
            let value : chain_value longer m.0 ≡ chain_value arena m.0 = λ i. record { pid = m.0.pid; frames = same i; id = m.0.id } in
            inl (index, at_map (chain_value arena) chains index m.0 was ∙ ap (λ (v : ChainValue). Some v) (sym value ∙ m.2))
        | inr last ↦
            let range : slice_range longer chain.start chain.end ≡ frames = ap (λ l. slice_range l chain.start chain.end) frames_are ∙ range_added arena frames chain.start chain.end start_is (end_is ∙ ap length frames_are) in
            let value : chain_value longer chain ≡ record { pid = pid; frames = frames; id = id } = λ i. record { pid = pid_is i; frames = range i; id = id_is i } in
            inr (sym m.2 ∙ ap (chain_value longer) last.1 ∙ value)
      ]

-- Nothing is added.
pub no_chain_added : (old new : ChainCache) (chain : ChainValue) → chains_in new ≡ chains_in old → AddsChain old chain new
no_chain_added old new chain same = λ index other at. inl (index, ap (λ l. slice_get l index) (sym same) ∙ at)

-- A chain is added to what is left of those that were cached.
pub chain_added_to : (old first second third new : ChainCache) (chain : ChainValue) → chains_in first ≡ chains_in old → AddsNoChain first second → chains_in third ≡ chains_in second → AddsChain third chain new → AddsChain old chain new
chain_added_to old first second third new chain first_same none same adds = λ index other at. elim (adds index other at) [
  | inl was ↦
      let left = none was.0 other (ap (λ l. slice_get l was.0) (sym same) ∙ was.1) in
      inl (left.0, ap (λ l. slice_get l left.0) (sym first_same) ∙ left.1)
  | inr is ↦ inr is
]
