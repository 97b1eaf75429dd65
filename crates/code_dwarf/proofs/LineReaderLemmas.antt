-- What a reader of a line program has read.
use Rattle.std.proofs.Common.{◌≡◌, ◌⊎◌, ℕ, ◌+◌, ◌-◌, ◌<◌, ◌≤◌, List, [], ◌∷◌, ◌++◌, length, take, drop, get_or, Bool, true, false, cond, Option, Some, None, refl, sym, ap, ◌∙◌, subst, inl, inr, arith, length-drop, length-append, length-take-le}
use Rattle.std.specs.Prelude.{All, slice_range}
use Rattle.std.specs.List.{AllZip, Contains, filter}
use Rattle.std.proofs.lemmas.List.{drop-append-le, take-append-le, append-nil, take-append-drop, take_all, take_rest, drop_all}
use Rattle.std.proofs.lemmas.List.Elements.{All-nil, All-push, All-weaker, All-contains, filter-append}
use Rattle.code_dwarf.specs.steps.LineInstructions.{InstructionAt}
use Rattle.code_dwarf.specs.steps.LineMachine.{initial, after, effect_of}
use Rattle.code_dwarf.specs.steps.LineRows.{Sequence, Progress, stepped, moved, counts, counted, first_address, program_bytes, LastRow, RowIn}
use Rattle.code_dwarf.specs.steps.LineReaders.{row_of, IsWithin, IsIn, IsOf, IsKept, BeginsWith, Notes, notes_count, first_after, descends_after, Follows, NotesRow, NotesState, AddsState, EndsSequence, KeepsSequence, IsProgram, bytes_from}
use Rattle.code_dwarf.specs.declared.line_header.LineHeader.{LineHeader}
use Rattle.code_dwarf.specs.declared.line_instruction.LineInstruction.{LineInstruction}
use Rattle.code_dwarf.specs.declared.line_instruction.Registers.{Registers}
use Rattle.code_dwarf.specs.declared.line_instruction.RowEffect.{RowEffect}
use Rattle.code_dwarf.specs.declared.line_instruction.RowEffect.TheVariants as effects
use Rattle.code_dwarf.specs.declared.line_program.Checkpoint.{Checkpoint}
use Rattle.code_dwarf.specs.declared.line_program.LineSequence.{LineSequence}
use Rattle.code_dwarf.specs.declared.line_program.LineProgram.{LineProgram}
use Rattle.code_dwarf.specs.declared.line_program.ProgramReader.{ProgramReader}
use Rattle.code_dwarf.specs.declared.ranges.AddressRange.{AddressRange}
use Rattle.code_dwarf.proofs.LineRowLemmas.{within_more, within_last, notes_more, counts_noted, counts_not_noted, begins_more, begins_row, begins_none, range_same, zip_more, zip_weaker, zip_at}

-- only the registers of a reader change
pub record Moves (old new : ProgramReader) (r : Registers) : Type 0 where
  pub registers_are : new.registers ≡ r
  pub first_is : new.first ≡ old.first
  pub row_is : new.row ≡ old.row
  pub descends_is : new.descends ≡ old.descends
  pub start_is : new.start ≡ old.start
  pub sequences_are : new.sequences.items ≡ old.sequences.items
  pub states_are : new.checkpoints.items ≡ old.checkpoints.items

pub moves_of : (old new : ProgramReader) (r s : Registers) → new ≡ record old { registers = r } → r ≡ s → Moves old new s
moves_of old new r s is same = subst (λ (m : ProgramReader). Moves old m s) (sym is) (record {
  registers_are = same;
  first_is = refl;
  row_is = refl;
  descends_is = refl;
  start_is = refl;
  sequences_are = refl;
  states_are = refl;
})

abbrev pub states_of : ProgramReader → List Checkpoint
states_of m = drop m.start m.checkpoints.items

abbrev pub kept_states : ProgramReader → List Checkpoint
kept_states m = take m.start m.checkpoints.items

module _ (section : List ℕ) (h : LineHeader) (code : List AddressRange) where
  abbrev pub Kept : ProgramReader → Progress → Type 0
  Kept m p = AllZip (IsKept section h code (kept_states m)) m.sequences.items (counted code p.ended)

  -- as `Follows`, before the state after the last instruction was added
  pub record Ready (m : ProgramReader) (p : Progress) (rest : List ℕ) : Type 0 where
    pub registers_are : m.registers ≡ p.registers
    pub notes : Notes m.first m.row m.descends p.rows
    pub start_within : m.start ≤ length m.checkpoints.items
    pub begins : BeginsWith (states_of m) p.rows ⊎ ((states_of m ≡ []) × (p.rows ≡ m.row ∷ []))
    pub are : All (IsIn section h p.rows rest p.registers) (states_of m)
    pub kept : Kept m p

  same_states : (a b : ProgramReader) → a.start ≡ b.start → a.checkpoints.items ≡ b.checkpoints.items → states_of a ≡ states_of b
  same_states a b starts items = ap (λ (n : ℕ). drop n a.checkpoints.items) starts ∙ ap (λ (l : List Checkpoint). drop b.start l) items

  same_kept : (a b : ProgramReader) → a.start ≡ b.start → a.checkpoints.items ≡ b.checkpoints.items → kept_states a ≡ kept_states b
  same_kept a b starts items = ap (λ (n : ℕ). take n a.checkpoints.items) starts ∙ ap (λ (l : List Checkpoint). take b.start l) items

  kept_by : (p : Progress) (a b : ProgramReader) → kept_states a ≡ kept_states b → a.sequences.items ≡ b.sequences.items → Kept b p → Kept a p
  kept_by p a b states sequences k =
      subst (λ (l : List LineSequence). AllZip (IsKept section h code (kept_states a)) l (counted code p.ended)) (sym sequences)
      (subst (λ (l : List Checkpoint). AllZip (IsKept section h code l) b.sequences.items (counted code p.ended)) (sym states) k)

  notes_by : (rows : List Registers) (a b : ProgramReader) → a.first ≡ b.first → a.row ≡ b.row → a.descends ≡ b.descends → Notes b.first b.row b.descends rows → Notes a.first a.row a.descends rows
  notes_by rows a b firsts last falls n =
      subst (λ (o : Option Registers). Notes o a.row a.descends rows) (sym firsts)
      (subst (λ (r : Registers). Notes b.first r a.descends rows) (sym last) (subst (λ (x : Bool). Notes b.first b.row x rows) (sym falls) n))

  -- a state was added, or is there already
  module _ (m new : ProgramReader) (p : Progress) (rest : List ℕ) (left : ℕ) (ready : Ready m p rest) (noted : NotesState left m new)
      (left_is : length rest ≡ left) (whole : rest ≡ drop (length (program_bytes section h) - length rest) (program_bytes section h)) where
    starts_at_rest : rest ≡ drop (length (program_bytes section h) - left) (program_bytes section h)
    starts_at_rest = whole ∙ ap (λ (n : ℕ). drop (length (program_bytes section h) - n) (program_bytes section h)) left_is

    is_first : new.start ≡ m.start
    is_first = noted.start_is

    follows_same : new.checkpoints.items ≡ m.checkpoints.items → BeginsWith (states_of m) p.rows → Follows section h code new p rest
    follows_same items begins =
        let states = same_states new m is_first items in
        let starts : new.start ≡ m.start = is_first in
        let sizes : length new.checkpoints.items ≡ length m.checkpoints.items = ap length items in
        let within = ready.start_within in
        record {
          registers_are = noted.registers_are ∙ ready.registers_are;
          notes = notes_by p.rows new m noted.first_is noted.row_is noted.descends_is ready.notes;
          start_within = omega (arith, starts, sizes, within);
          begins = subst (λ (l : List Checkpoint). BeginsWith l p.rows) (sym states) begins;
          are = subst (λ (l : List Checkpoint). All (IsIn section h p.rows rest p.registers) l) (sym states) ready.are;
          kept = kept_by p new m (same_kept new m is_first items) noted.sequences_are ready.kept;
        }

    follows_push : (f : Registers) (rows : List Registers) → p.rows ≡ f ∷ rows → new.checkpoints.items ≡ m.checkpoints.items ++ record { left = left; registers = m.registers; row = m.row } ∷ [] → Follows section h code new p rest
    follows_push f rows rows_are items =
        let c : Checkpoint = record { left = left; registers = m.registers; row = m.row } in
        let starts : new.start ≡ m.start = is_first in
        let within = ready.start_within in
        let sizes : length new.checkpoints.items ≡ length m.checkpoints.items + length (c ∷ []) = ap length items ∙ length-append m.checkpoints.items (c ∷ []) in
        let states : states_of new ≡ states_of m ++ c ∷ [] =
        ap (λ (n : ℕ). drop n new.checkpoints.items) starts ∙ ap (λ (l : List Checkpoint). drop m.start l) items ∙ drop-append-le m.start m.checkpoints.items (c ∷ []) within in
        let kept_are : kept_states new ≡ kept_states m =
        ap (λ (n : ℕ). take n new.checkpoints.items) starts ∙ ap (λ (l : List Checkpoint). take m.start l) items ∙ take-append-le m.start m.checkpoints.items (c ∷ []) within in
        let notes : Notes m.first m.row m.descends (f ∷ rows) = subst (λ (l : List Registers). Notes m.first m.row m.descends l) rows_are ready.notes in
        let here : IsWithin section h (f ∷ rows) rest m.registers (bytes_from section h c) m.registers m.row = within_last section h f rows rest (bytes_from section h c) m.registers m.row starts_at_rest notes.1 in
        let there : IsIn section h p.rows rest p.registers c =
        subst (λ (r : Registers). IsWithin section h p.rows rest r (bytes_from section h c) m.registers m.row) ready.registers_are
        (subst (λ (l : List Registers). IsWithin section h l rest m.registers (bytes_from section h c) m.registers m.row) (sym rows_are) here) in
        let begins : BeginsWith (states_of m ++ c ∷ []) p.rows =
        elim ready.begins [
          | inl b ↦ subst (λ (l : List Registers). BeginsWith (states_of m ++ c ∷ []) l) (sym rows_are) (begins_more (states_of m) f rows c (subst (λ (l : List Registers). BeginsWith (states_of m) l) rows_are b))
          | inr b ↦ subst (λ (l : List Registers). BeginsWith (states_of m ++ c ∷ []) l) (sym b.1) (subst (λ (l : List Checkpoint). BeginsWith (l ++ c ∷ []) (m.row ∷ [])) (sym b.0) refl)
        ] in
        record {
          registers_are = noted.registers_are ∙ ready.registers_are;
          notes = notes_by p.rows new m noted.first_is noted.row_is noted.descends_is ready.notes;
          start_within = omega (arith, starts, sizes, within);
          begins = subst (λ (l : List Checkpoint). BeginsWith l p.rows) (sym states) begins;
          are = subst (λ (l : List Checkpoint). All (IsIn section h p.rows rest p.registers) l) (sym states) (All-push (IsIn section h p.rows rest p.registers) (states_of m) c ready.are there);
          kept = kept_by p new m kept_are noted.sequences_are ready.kept;
        }

    begins_if : m.start < length m.checkpoints.items → BeginsWith (states_of m) p.rows
    begins_if less = elim ready.begins [
      | inl b ↦ b
      | inr b ↦
          let sizes : length (states_of m) ≡ length m.checkpoints.items - m.start = length-drop m.start m.checkpoints.items in
          let none : length (states_of m) ≡ 0 = ap length b.0 in
          absurd (omega (arith, sizes, none, less))
    ]

    by_rows : (rows : List Registers) → p.rows ≡ rows → Follows section h code new p rest
    by_rows [] rows_are =
        let notes : Notes m.first m.row m.descends [] = subst (λ (l : List Registers). Notes m.first m.row m.descends l) rows_are ready.notes in
        let c : Checkpoint = record { left = left; registers = m.registers; row = m.row } in
        let items : new.checkpoints.items ≡ m.checkpoints.items = subst (λ (o : Option Registers). AddsState o m.start m.checkpoints.items c new.checkpoints.items) notes.0 noted.states_are in
        follows_same items (elim ready.begins [
          | inl b ↦ b
          | inr b ↦ let e : [] ≡ m.row ∷ [] = sym rows_are ∙ b.1 in absurd (omega (arith, ap length e))
        ])
    by_rows (f ∷ rows) rows_are =
        let notes : Notes m.first m.row m.descends (f ∷ rows) = subst (λ (l : List Registers). Notes m.first m.row m.descends l) rows_are ready.notes in
        let c : Checkpoint = record { left = left; registers = m.registers; row = m.row } in
        let adds : AddsState (Some f) m.start m.checkpoints.items c new.checkpoints.items =
        subst (λ (o : Option Registers). AddsState o m.start m.checkpoints.items c new.checkpoints.items) notes.0 noted.states_are in
        elim adds [
          | inl items ↦ follows_push f rows rows_are items
          | inr same ↦ follows_same same.0 (begins_if same.1)
        ]

    pub follows_ready : Follows section h code new p rest
    follows_ready = by_rows p.rows refl

  -- an instruction
  module _ (old mid : ProgramReader) (p : Progress) (bytes rest : List ℕ) (i : LineInstruction) (at : InstructionAt section h bytes i rest)
      (follows : Follows section h code old p bytes) (moves : Moves old mid (after h i p.registers)) where
    going : (e : RowEffect) → effect_of i ≡ e → (e ≡ effects.End → ⊥) → effect_of i ≡ effects.End → ⊥
    going e is not_end ends = not_end (sym is ∙ ends)

    all_in : (e : RowEffect) → effect_of i ≡ e → (e ≡ effects.End → ⊥) → All (IsIn section h (p.rows ++ row_of e (after h i p.registers)) rest (after h i p.registers)) (states_of old)
    all_in e is not_end = All-weaker (IsIn section h p.rows bytes p.registers) (IsIn section h (p.rows ++ row_of e (after h i p.registers)) rest (after h i p.registers))
        (λ c w. subst (λ (x : RowEffect). IsIn section h (p.rows ++ row_of x (after h i p.registers)) rest (after h i p.registers) c) is
        (within_more section h p.rows bytes p.registers (bytes_from section h c) c.registers c.row i rest w at (going e is not_end))) (states_of old) follows.are

    pub ready_none : effect_of i ≡ effects.None → Ready mid (stepped h i p) rest
    ready_none is =
        let starts : mid.start ≡ old.start = moves.start_is in
        let sizes : length mid.checkpoints.items ≡ length old.checkpoints.items = ap length moves.states_are in
        let within = follows.start_within in
        let states = same_states mid old moves.start_is moves.states_are in
        let q : Progress = moved effects.None (after h i p.registers) p in
        let there : All (IsIn section h p.rows rest (after h i p.registers)) (states_of old) =
        subst (λ (l : List Registers). All (IsIn section h l rest (after h i p.registers)) (states_of old)) (append-nil p.rows) (all_in effects.None is (λ e. cc)) in
        let here : Ready mid q rest = record {
          registers_are = moves.registers_are;
          notes = notes_by p.rows mid old moves.first_is moves.row_is moves.descends_is follows.notes;
          start_within = omega (arith, starts, sizes, within);
          begins = inl (subst (λ (l : List Checkpoint). BeginsWith l p.rows) (sym states) follows.begins);
          are = subst (λ (l : List Checkpoint). All (IsIn section h p.rows rest (after h i p.registers)) l) (sym states) there;
          kept = kept_by p mid old (same_kept mid old moves.start_is moves.states_are) moves.sequences_are follows.kept;
        } in
        subst (λ (x : RowEffect). Ready mid (moved x (after h i p.registers) p) rest) (sym is) here

    begins_at : (m : ProgramReader) (rows : List Registers) → BeginsWith (states_of m) rows → m.row ≡ after h i p.registers → BeginsWith (states_of m) (rows ++ after h i p.registers ∷ []) ⊎ ((states_of m ≡ []) × (rows ++ after h i p.registers ∷ [] ≡ m.row ∷ []))
    begins_at m [] b is = inr (begins_none (states_of m) b, ap (λ (r : Registers). r ∷ []) (sym is))
    begins_at m (f ∷ rows) b is = inl (begins_row (states_of m) f rows (after h i p.registers) b)

    pub ready_row : (m : ProgramReader) → NotesRow mid m → effect_of i ≡ effects.Row → Ready m (stepped h i p) rest
    ready_row m row is =
        let r : Registers = after h i p.registers in
        let starts : m.start ≡ old.start = row.start_is ∙ moves.start_is in
        let items : m.checkpoints.items ≡ old.checkpoints.items = row.states_are ∙ moves.states_are in
        let sizes : length m.checkpoints.items ≡ length old.checkpoints.items = ap length items in
        let within = follows.start_within in
        let states = same_states m old starts items in
        let q : Progress = moved effects.Row r p in
        let before : Notes mid.first mid.row mid.descends p.rows = notes_by p.rows mid old moves.first_is moves.row_is moves.descends_is follows.notes in
        let more : Notes (first_after mid.first mid.registers) mid.registers (descends_after mid.first mid.row mid.descends mid.registers) (p.rows ++ mid.registers ∷ []) = notes_more mid.first mid.row mid.descends p.rows mid.registers before in
        let noted : Notes m.first m.row m.descends (p.rows ++ mid.registers ∷ []) =
        subst (λ (o : Option Registers). Notes o m.row m.descends (p.rows ++ mid.registers ∷ [])) (sym row.first_is)
        (subst (λ (x : Registers). Notes (first_after mid.first mid.registers) x m.descends (p.rows ++ mid.registers ∷ [])) (sym row.row_is)
        (subst (λ (b : Bool). Notes (first_after mid.first mid.registers) mid.registers b (p.rows ++ mid.registers ∷ [])) (sym row.descends_is) more)) in
        let begins : BeginsWith (states_of m) p.rows = subst (λ (l : List Checkpoint). BeginsWith l p.rows) (sym states) follows.begins in
        let here : Ready m q rest = record {
          registers_are = row.registers_are ∙ moves.registers_are;
          notes = subst (λ (x : Registers). Notes m.first m.row m.descends (p.rows ++ x ∷ [])) moves.registers_are noted;
          start_within = omega (arith, starts, sizes, within);
          begins = begins_at m p.rows begins (row.row_is ∙ moves.registers_are);
          are = subst (λ (l : List Checkpoint). All (IsIn section h (p.rows ++ r ∷ []) rest r) l) (sym states) (all_in effects.Row is (λ e. cc));
          kept = kept_by p m old (same_kept m old starts items) (row.sequences_are ∙ moves.sequences_are) follows.kept;
        } in
        subst (λ (x : RowEffect). Ready m (moved x r p) rest) (sym is) here

    -- the sequence that ends
    abbrev ended_sequence : Sequence
    ended_sequence = record { rows = p.rows; end = (after h i p.registers).address }

    all_of : effect_of i ≡ effects.End → All (IsOf section h ended_sequence) (states_of old)
    all_of is = All-weaker (IsIn section h p.rows bytes p.registers) (IsOf section h ended_sequence)
        (λ c w. record { rest = bytes; registers = p.registers; is_within = w; last = i; after_last = rest; last_at = at; ends = is }) (states_of old) follows.are

    -- states that are added leave the kept ones as they are
    kept_whole : (q : LineSequence) (s : Sequence) → IsKept section h code (kept_states old) q s → IsKept section h code old.checkpoints.items q s
    kept_whole q s k =
        let whole : kept_states old ++ states_of old ≡ old.checkpoints.items = take-append-drop old.start old.checkpoints.items in
        let within = k.within in
        let same : slice_range old.checkpoints.items q.first q.last ≡ slice_range (kept_states old) q.first q.last =
        ap (λ (l : List Checkpoint). slice_range l q.first q.last) (sym whole) ∙ range_same (kept_states old) (states_of old) q.first q.last within in
        let sizes : length (kept_states old) ≡ old.start = length-take-le old.start old.checkpoints.items follows.start_within in
        let low = follows.start_within in
        record {
          counts_is = k.counts_is;
          starts = k.starts;
          ends = k.ends;
          within = omega (arith, within, sizes, low);
          begins = subst (λ (l : List Checkpoint). BeginsWith l s.rows) (sym same) k.begins;
          are = subst (λ (l : List Checkpoint). All (IsOf section h s) l) (sym same) k.are;
        }

    ended_more : counted code (p.ended ++ ended_sequence ∷ []) ≡ counted code p.ended ++ cond (counts code ended_sequence) (ended_sequence ∷ []) []
    ended_more = filter-append (counts code) p.ended (ended_sequence ∷ [])

    module _ (new : ProgramReader) (ends : EndsSequence code mid new) (is : effect_of i ≡ effects.End) where
      abbrev ended_progress : Progress
      ended_progress = moved effects.End (after h i p.registers) p

      no_states : drop new.start new.checkpoints.items ≡ []
      no_states = let starts = ends.start_is in drop_all new.start new.checkpoints.items (omega (arith, starts))

      all_kept : kept_states new ≡ new.checkpoints.items
      all_kept = let starts = ends.start_is in take_all new.start new.checkpoints.items (omega (arith, starts))

      follows_kept : AllZip (IsKept section h code new.checkpoints.items) new.sequences.items (counted code (p.ended ++ ended_sequence ∷ [])) → Follows section h code new ended_progress rest
      follows_kept kept =
          let starts = ends.start_is in
          record {
            registers_are = ends.registers_are;
            notes = (ends.first_is, ends.descends_is);
            start_within = omega (arith, starts);
            begins = subst (λ (l : List Checkpoint). BeginsWith l []) (sym no_states) tt;
            are = subst (λ (l : List Checkpoint). All (IsIn section h [] rest initial) l) (sym no_states) (All-nil (IsIn section h [] rest initial));
            kept = subst (λ (l : List Checkpoint). AllZip (IsKept section h code l) new.sequences.items (counted code (p.ended ++ ended_sequence ∷ []))) (sym all_kept) kept;
          }

      notes_mid : Notes mid.first mid.row mid.descends p.rows
      notes_mid = notes_by p.rows mid old moves.first_is moves.row_is moves.descends_is follows.notes

      end_is : mid.registers.address ≡ (after h i p.registers).address
      end_is = ap (λ (r : Registers). r.address) moves.registers_are

      not_kept : notes_count code mid.first mid.row mid.descends mid.registers.address ≡ None → (new.sequences.items ≡ mid.sequences.items) × (new.checkpoints.items ≡ take mid.start mid.checkpoints.items) → Follows section h code new ended_progress rest
      not_kept none same =
          let fails : counts code ended_sequence ≡ false = counts_not_noted code mid.first mid.row mid.descends (after h i p.registers).address p.rows notes_mid
          (subst (λ (n : ℕ). notes_count code mid.first mid.row mid.descends n ≡ None) end_is none) in
          let ended_are : counted code (p.ended ++ ended_sequence ∷ []) ≡ counted code p.ended =
          ended_more ∙ ap (λ (b : Bool). counted code p.ended ++ cond b (ended_sequence ∷ []) []) fails ∙ append-nil (counted code p.ended) in
          let items : new.checkpoints.items ≡ kept_states old = same.1 ∙ same_kept mid old moves.start_is moves.states_are in
          let sequences : new.sequences.items ≡ old.sequences.items = same.0 ∙ moves.sequences_are in
          follows_kept (subst (λ (l : List Sequence). AllZip (IsKept section h code new.checkpoints.items) new.sequences.items l) (sym ended_are)
          (subst (λ (l : List LineSequence). AllZip (IsKept section h code new.checkpoints.items) l (counted code p.ended)) (sym sequences)
          (subst (λ (l : List Checkpoint). AllZip (IsKept section h code l) old.sequences.items (counted code p.ended)) (sym items) follows.kept)))

      abbrev new_sequence : ℕ → LineSequence
      new_sequence start = record { start = start; end = mid.registers.address; first = mid.start; last = length mid.checkpoints.items }

      is_kept : (start : ℕ) → notes_count code mid.first mid.row mid.descends mid.registers.address ≡ Some start
          → (new.sequences.items ≡ mid.sequences.items ++ new_sequence start ∷ []) × (new.checkpoints.items ≡ mid.checkpoints.items) → Follows section h code new ended_progress rest
      is_kept start some same =
          let found = counts_noted code mid.first mid.row mid.descends (after h i p.registers).address p.rows start notes_mid
          (subst (λ (n : ℕ). notes_count code mid.first mid.row mid.descends n ≡ Some start) end_is some) in
          let ended_are : counted code (p.ended ++ ended_sequence ∷ []) ≡ counted code p.ended ++ ended_sequence ∷ [] =
          ended_more ∙ ap (λ (b : Bool). counted code p.ended ++ cond b (ended_sequence ∷ []) []) found.0 in
          let items : new.checkpoints.items ≡ old.checkpoints.items = same.1 ∙ moves.states_are in
          let sequences : new.sequences.items ≡ old.sequences.items ++ new_sequence start ∷ [] = same.0 ∙ ap (λ (l : List LineSequence). l ++ new_sequence start ∷ []) moves.sequences_are in
          let range : slice_range old.checkpoints.items mid.start (length mid.checkpoints.items) ≡ states_of old =
          ap (λ (n : ℕ). slice_range old.checkpoints.items n (length mid.checkpoints.items)) moves.start_is
          ∙ ap (λ (l : List Checkpoint). slice_range old.checkpoints.items old.start (length l)) moves.states_are ∙ take_rest old.checkpoints.items old.start in
          let sizes : length mid.checkpoints.items ≡ length old.checkpoints.items = ap length moves.states_are in
          let one : IsKept section h code old.checkpoints.items (new_sequence start) ended_sequence = record {
            counts_is = found.0;
            starts = found.1;
            ends = end_is;
            within = omega (arith, sizes);
            begins = subst (λ (l : List Checkpoint). BeginsWith l p.rows) (sym range) follows.begins;
            are = subst (λ (l : List Checkpoint). All (IsOf section h ended_sequence) l) (sym range) (all_of is);
          } in
          let before : AllZip (IsKept section h code old.checkpoints.items) old.sequences.items (counted code p.ended) =
          zip_weaker (IsKept section h code (kept_states old)) (IsKept section h code old.checkpoints.items) old.sequences.items (counted code p.ended) kept_whole follows.kept in
          let all = zip_more (IsKept section h code old.checkpoints.items) old.sequences.items (counted code p.ended) (new_sequence start) ended_sequence before one in
          follows_kept (subst (λ (l : List Sequence). AllZip (IsKept section h code new.checkpoints.items) new.sequences.items l) (sym ended_are)
          (subst (λ (l : List LineSequence). AllZip (IsKept section h code new.checkpoints.items) l (counted code p.ended ++ ended_sequence ∷ [])) (sym sequences)
          (subst (λ (l : List Checkpoint). AllZip (IsKept section h code l) (old.sequences.items ++ new_sequence start ∷ []) (counted code p.ended ++ ended_sequence ∷ [])) (sym items) all)))

      by_count : (o : Option ℕ) → notes_count code mid.first mid.row mid.descends mid.registers.address ≡ o → KeepsSequence o mid new → Follows section h code new ended_progress rest
      by_count None e same = not_kept e same
      by_count (Some start) e same = is_kept start e same

      pub follows_end : Follows section h code new (stepped h i p) rest
      follows_end =
          let here = by_count (notes_count code mid.first mid.row mid.descends mid.registers.address) refl ends.keeps in
          subst (λ (x : RowEffect). Follows section h code new (moved x (after h i p.registers) p) rest) (sym is) here

-- the row that is read from a state of a sequence
first_state : (cs : List Checkpoint) (rows : List Registers) (d : Checkpoint) → BeginsWith cs rows → 0 < length cs → (get_or cs 0 d).row.address ≡ first_address rows
first_state [] rows d b some = absurd (omega (arith, some))
first_state (c ∷ cs) [] d b some = absurd b
first_state (c ∷ cs) (r ∷ rows) d b some = ap (λ (x : Registers). x.address) b

pub row_in : (section : List ℕ) (code : List AddressRange) (program : LineProgram) (p : Progress) (q : LineSequence) (a : ℕ) (c : Checkpoint) (row : Registers) → IsProgram section code program p → Contains program.sequences.items q → q.start ≤ a → a < q.end
    → Contains (slice_range program.checkpoints.items q.first q.last) c → (c.row.address ≤ a) ⊎ ((d : Checkpoint) → c ≡ get_or (slice_range program.checkpoints.items q.first q.last) 0 d)
    → ((k : List AddressRange) (s : Sequence) → counts k s ≡ true → IsOf section program.header s c → c.row.address ≤ a → LastRow s.rows a row) → RowIn code p.ended a row
row_in section code program p q a c row is inside low high state which last =
    let found = zip_at (IsKept section program.header code program.checkpoints.items) program.sequences.items (counted code p.ended) q is.kept inside in
    let s : Sequence = found.0 in
    let kept : IsKept section program.header code program.checkpoints.items q s = found.2 in
    let states = slice_range program.checkpoints.items q.first q.last in
    let starts : q.start ≡ first_address s.rows = kept.starts in
    let ends : q.end ≡ s.end = kept.ends in
    let some : 0 < length states = let w = state.1 in omega (arith, w) in
    let early : c.row.address ≤ a =
    elim which [
      | inl le ↦ le
      | inr first ↦
          let same : c.row.address ≡ (get_or states 0 c).row.address = ap (λ (x : Checkpoint). x.row.address) (first c) in
          let there : (get_or states 0 c).row.address ≡ first_address s.rows = first_state states s.rows c kept.begins some in
          omega (arith, same, there, starts, low)
    ] in
    record {
      sequence = s;
      within = found.1;
      holds = (omega (arith, starts, low), omega (arith, ends, high));
      last = last code s kept.counts_is (All-contains (IsOf section program.header s) states c kept.are state) early;
    }
