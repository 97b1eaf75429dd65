-- From the items of a split to the fields of a line, and from the lines to the events of a text.
use Rattle.std.proofs.Common.{◌≡◌, ℕ, List, [], ◌∷◌, ◌++◌, Bor, refl, sym, ap, ◌∙◌, subst, append_assoc, length, length-append, arith, ◌+◌, Some, None}
use Rattle.std.specs.Prelude.{Option, map}
use Rattle.std.specs.Iterator.{AlwaysYields}
use Rattle.std.proofs.lemmas.Iterator.{YieldsList}
use Rattle.std.proofs.lemmas.List.{append-nil, map_push}
use Rattle.perfdata_simpleperf.specs.EventTypeInfo.{EventType, event_type_of, text_lines, line_fields, DescribesEvent, DescribeEvents, BeginsWithEvents, IsNumber}
use Rattle.perfdata_simpleperf.specs.steps.EventTypeInfo.{IsFirstThree}
use Rattle.perfdata_sections.specs.declared.event_type.SimplePerfEventType.{SimplePerfEventType}

-- the first three fields of a line, with two numbers, describe an event
pub event_described : (fields : List (List ℕ)) (a b c : Bor (List ℕ)) (type_ config : ℕ) → IsFirstThree {A = Bor (List ℕ)} (λ x. x.now) fields (Some (a, b, c)) → IsNumber b.now type_ → IsNumber c.now config → (e : EventType) × DescribesEvent fields e
event_described [] a b c type_ config three first second = absurd three
event_described (p ∷ []) a b c type_ config three first second = absurd three
event_described (p ∷ q ∷ []) a b c type_ config three first second = absurd three
event_described (p ∷ q ∷ r ∷ more) a b c type_ config three first second =
    (record { name = p; type_ = type_; config = config }, (refl, subst (λ l. IsNumber l type_) three.1 first, subst (λ l. IsNumber l config) three.2 second))

nonempty_list : (x : EventType) (xs : List EventType) → (x ∷ xs) ≡ [] → ⊥
nonempty_list x xs is = let same = ap length is in omega arith

module _ {S : Type 0} (steps : S → Option (Bor (List ℕ)) → S → Type 0) where
  -- ---- the first three

  pub three_lack_second : (xs : List (List ℕ)) (s t u : S) (a : Bor (List ℕ)) → AlwaysYields steps (λ x. x.now) s xs → steps s (Some a) t → steps t None u → IsFirstThree {A = Bor (List ℕ)} (λ x. x.now) xs None
  three_lack_second [] s t u a runs one none = tt
  three_lack_second (p ∷ []) s t u a runs one none = tt
  three_lack_second (p ∷ q ∷ []) s t u a runs one none = tt
  three_lack_second (p ∷ q ∷ r ∷ more) s t u a runs one none = absurd ((runs.1 a t one).1.0 u none)

  pub three_lack_third : (xs : List (List ℕ)) (s t u w : S) (a b : Bor (List ℕ)) → AlwaysYields steps (λ x. x.now) s xs → steps s (Some a) t → steps t (Some b) u → steps u None w
      → IsFirstThree {A = Bor (List ℕ)} (λ x. x.now) xs None
  three_lack_third [] s t u w a b runs one two none = tt
  three_lack_third (p ∷ []) s t u w a b runs one two none = tt
  three_lack_third (p ∷ q ∷ []) s t u w a b runs one two none = tt
  three_lack_third (p ∷ q ∷ r ∷ more) s t u w a b runs one two none = absurd (((runs.1 a t one).1.1 b u two).1.0 w none)

  pub three_items : (xs : List (List ℕ)) (s t u w : S) (a b c : Bor (List ℕ)) → AlwaysYields steps (λ x. x.now) s xs → steps s (Some a) t → steps t (Some b) u → steps u (Some c) w
      → IsFirstThree {A = Bor (List ℕ)} (λ x. x.now) xs (Some (a, b, c))
  three_items [] s t u w a b c runs one two three = absurd (runs a t one)
  three_items (p ∷ []) s t u w a b c runs one two three = absurd ((runs.1 a t one).1 b u two)
  three_items (p ∷ q ∷ []) s t u w a b c runs one two three = absurd (((runs.1 a t one).1.1 b u two).1 c w three)
  three_items (p ∷ q ∷ r ∷ more) s t u w a b c runs one two three =
      let first = runs.1 a t one in
      let second = first.1.1 b u two in
      let third = second.1.1 c w three in
      (first.0, second.0, third.0)

  -- ---- the lines

  -- the lines before the iterator's remaining ones describe these events
  pub record EventsSoFar (text : List ℕ) (s : S) (items : List SimplePerfEventType) : Type 0 where
    pub rest : List (List ℕ)
    pub runs : YieldsList steps (λ x. x.now) s rest
    pub whole : (es : List EventType) → DescribeEvents rest es → DescribeEvents (text_lines text) (map event_type_of items ++ es)
    pub only : (es : List EventType) → DescribeEvents (text_lines text) es → (more : List EventType) × DescribeEvents rest more
    pub lines : List (List ℕ)
    pub split : text_lines text ≡ lines ++ rest
    pub valid_lines : DescribeEvents lines (map event_type_of items)

  pub events_none : (text : List ℕ) (s : S) (items : List SimplePerfEventType) → items ≡ [] → YieldsList steps (λ x. x.now) s (text_lines text) → EventsSoFar text s items
  events_none text s items none runs = record {
    rest = text_lines text;
    runs = runs;
    whole = λ es describes. subst (λ l. DescribeEvents (text_lines text) (map event_type_of l ++ es)) (sym none) describes;
    only = λ es describes. (es, describes);
    lines = [];
    split = refl;
    valid_lines = ap (map event_type_of) none;
  }

  first_of : (line : List ℕ) (others : List (List ℕ)) (es : List EventType) → DescribeEvents (line ∷ others) es → (e : EventType) × (more : List EventType) × DescribesEvent (line_fields line) e × DescribeEvents others more
  first_of line others [] describes = absurd describes
  first_of line others (e ∷ more) describes = (e, more, describes.0, describes.1)

  -- one more line describes one more event
  describe_push : (lines : List (List ℕ)) (es : List EventType) (line : List ℕ) (e : EventType) → DescribeEvents lines es → DescribesEvent (line_fields line) e → DescribeEvents (lines ++ line ∷ []) (es ++ e ∷ [])
  describe_push [] [] line e describes here = (here, refl)
  describe_push [] (x ∷ xs) line e describes here = absurd (nonempty_list x xs describes)
  describe_push (p ∷ ps) [] line e describes here = absurd describes
  describe_push (p ∷ ps) (x ∷ xs) line e describes here = (describes.0, describe_push ps xs line e describes.1 here)

  events_more_in : (text : List ℕ) (s t : S) (items new : List SimplePerfEventType) (x : Bor (List ℕ)) (e : SimplePerfEventType) (rest : List (List ℕ)) → AlwaysYields steps (λ y. y.now) s rest
      → ((es : List EventType) → DescribeEvents rest es → DescribeEvents (text_lines text) (map event_type_of items ++ es))
      → ((es : List EventType) → DescribeEvents (text_lines text) es → (more : List EventType) × DescribeEvents rest more)
      → steps s (Some x) t → DescribesEvent (line_fields x.now) (event_type_of e) → new ≡ items ++ e ∷ []
      → (lines : List (List ℕ)) → text_lines text ≡ lines ++ rest → DescribeEvents lines (map event_type_of items) → EventsSoFar text t new
  events_more_in text s t items new x e [] runs whole only step describes_event pushed lines split valid = absurd (runs x t step)
  events_more_in text s t items new x e (line ∷ others) runs whole only step describes_event pushed lines split valid =
      let next = runs.1 x t step in
      let here : DescribesEvent (line_fields line) (event_type_of e) = subst (λ l. DescribesEvent (line_fields l) (event_type_of e)) next.0 describes_event in
      let all : map event_type_of new ≡ map event_type_of items ++ event_type_of e ∷ [] = ap (map event_type_of) pushed ∙ map_push event_type_of items e in
      record {
        rest = others;
        runs = record { runs = next.1 };
        whole = λ es describes. subst (DescribeEvents (text_lines text)) (sym (ap (λ l. l ++ es) all ∙ append_assoc (map event_type_of items) (event_type_of e ∷ []) es)) (whole (event_type_of e ∷ es) (here, describes));
        only = λ es describes. let old = only es describes in let parted = first_of line others old.0 old.1 in (parted.1, parted.3);
        lines = lines ++ line ∷ [];
        split = split ∙ sym (append_assoc lines (line ∷ []) others);
        valid_lines = subst (DescribeEvents (lines ++ line ∷ [])) (sym all) (describe_push lines (map event_type_of items) line (event_type_of e) valid here);
      }

  pub events_more : (text : List ℕ) (s t : S) (items new : List SimplePerfEventType) (x : Bor (List ℕ)) (e : SimplePerfEventType) → EventsSoFar text s items → steps s (Some x) t
      → DescribesEvent (line_fields x.now) (event_type_of e) → new ≡ items ++ e ∷ [] → EventsSoFar text t new
  events_more text s t items new x e so_far step describes_event pushed = events_more_in text s t items new x e so_far.rest so_far.runs.runs so_far.whole so_far.only step describes_event pushed so_far.lines so_far.split so_far.valid_lines

  begins_in : (text : List ℕ) (s t : S) (es : List EventType) (x : Bor (List ℕ)) (e : EventType) (rest lines : List (List ℕ)) → AlwaysYields steps (λ y. y.now) s rest → steps s (Some x) t
      → text_lines text ≡ lines ++ rest → DescribeEvents lines es → DescribesEvent (line_fields x.now) e → BeginsWithEvents text
  begins_in text s t es x e [] lines runs step split valid here = absurd (runs x t step)
  begins_in text s t es x e (line ∷ others) lines runs step split valid here =
      let next = runs.1 x t step in
      record {
        lines = lines ++ line ∷ [];
        rest = others;
        events = es ++ e ∷ [];
        split = split ∙ sym (append_assoc lines (line ∷ []) others);
        is_nonempty = (let long = length-append es (e ∷ []) in omega arith);
        valid_lines = describe_push lines es line e valid (subst (λ l. DescribesEvent (line_fields l) e) next.0 here);
      }

  -- the next line describes an event
  pub events_begin : (text : List ℕ) (s t : S) (items : List SimplePerfEventType) (x : Bor (List ℕ)) (e : EventType) → EventsSoFar text s items → steps s (Some x) t → DescribesEvent (line_fields x.now) e → BeginsWithEvents text
  events_begin text s t items x e so_far step here = begins_in text s t (map event_type_of items) x e so_far.rest so_far.lines so_far.runs.runs step so_far.split so_far.valid_lines here

  stops_in : (s t : S) (x : Bor (List ℕ)) (rest : List (List ℕ)) → AlwaysYields steps (λ y. y.now) s rest → steps s (Some x) t → ((e : EventType) → ¬ DescribesEvent (line_fields x.now) e)
      → (es : List EventType) → ¬ DescribeEvents rest es
  stops_in s t x [] runs step none es = λ describes. runs x t step
  stops_in s t x (line ∷ others) runs step none es = λ describes.
      let next = runs.1 x t step in
      let parted = first_of line others es describes in
      none parted.0 (subst (λ l. DescribesEvent (line_fields l) parted.0) (sym next.0) parted.2)

  pub events_stop : (text : List ℕ) (s t : S) (items : List SimplePerfEventType) (x : Bor (List ℕ)) → EventsSoFar text s items → steps s (Some x) t → ((e : EventType) → ¬ DescribesEvent (line_fields x.now) e)
      → (es : List EventType) → ¬ DescribeEvents (text_lines text) es
  events_stop text s t items x so_far step none es = λ describes. let old = so_far.only es describes in stops_in s t x so_far.rest so_far.runs.runs step none old.0 old.1

  whole_in : (s t : S) (rest : List (List ℕ)) → AlwaysYields steps (λ y. y.now) s rest → steps s None t → DescribeEvents rest []
  whole_in s t [] runs step = refl
  whole_in s t (line ∷ others) runs step = absurd (runs.0 t step)

  pub events_whole : (text : List ℕ) (s t : S) (items : List SimplePerfEventType) → EventsSoFar text s items → steps s None t → DescribeEvents (text_lines text) (map event_type_of items)
  events_whole text s t items so_far step = subst (DescribeEvents (text_lines text)) (append-nil (map event_type_of items)) (so_far.whole [] (whole_in s t so_far.rest so_far.runs.runs step))
