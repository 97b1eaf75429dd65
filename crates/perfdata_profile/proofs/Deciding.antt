-- The equality of ids and of the keys of tables.
use Rattle.std.proofs.Common.{◌≡◌, ◌&&◌, ◌==◌, ap, refl, ℕ, Bool, List, Option, None, Some}
use Rattle.std.proofs.lemmas.Bool.Decides.{Decides-and, Decides-eqb, Decides-int_eq}
use Rattle.std.proofs.lemmas.Slice.Eq.{slice_eq-Decides}
use Rattle.std.specs.Bool.{Decides}
use Rattle.std.specs.Cmp.Lexicographic.{pointwise}
use Rattle.std.specs.Option.{option_eq}
use Rattle.std.specs.Ordering.{int_eq}
use Rattle.perfdata_profile.specs.declared.cache.MappedAddress.{MappedAddress}
use Rattle.perfdata_profile.specs.declared.lines.Line.{Line}
use Rattle.perfdata_profile.specs.declared.lines.LinesId.{LinesId}
use Rattle.perfdata_profile.specs.declared.locations.Location.{Location}
use Rattle.perfdata_profile.specs.declared.locations.LocationId.{LocationId}
use Rattle.perfdata_profile.specs.declared.mappings.MappedRange.{MappedRange}
use Rattle.perfdata_profile.specs.declared.mappings.MappingId.{MappingId}
use Rattle.perfdata_profile.specs.declared.names.NameId.{NameId}
use Rattle.perfdata_profile.specs.declared.stacks.StackId.{StackId}
use Rattle.perfdata_profile.specs.declared.sums.SampleKey.{SampleKey}
use Rattle.perfdata_profile.specs.declared.sums.Thread.{Thread}
use Rattle.perfdata_profile.proofs.Elements.{some_same}

abbrev name_id : ℕ → NameId
name_id n = record { 0 = n }

abbrev mapping_id : ℕ → MappingId
mapping_id n = record { 0 = n }

abbrev lines_id : ℕ → LinesId
lines_id n = record { 0 = n }

abbrev location_id : ℕ → LocationId
location_id n = record { 0 = n }

abbrev stack_id : ℕ → StackId
stack_id n = record { 0 = n }

pub name-Decides : (id other : NameId) → Decides (id.0 == other.0) (id ≡ other)
name-Decides id other = (λ is. ap (λ (n : ℕ). name_id n) ((Decides-eqb id.0 other.0).0 is), λ is. (Decides-eqb id.0 other.0).1 (ap (λ (o : NameId). o.0) is))

pub mapping-Decides : (id other : MappingId) → Decides (id.0 == other.0) (id ≡ other)
mapping-Decides id other = (λ is. ap (λ (n : ℕ). mapping_id n) ((Decides-eqb id.0 other.0).0 is), λ is. (Decides-eqb id.0 other.0).1 (ap (λ (o : MappingId). o.0) is))

pub lines_id-Decides : (id other : LinesId) → Decides (id.0 == other.0) (id ≡ other)
lines_id-Decides id other = (λ is. ap (λ (n : ℕ). lines_id n) ((Decides-eqb id.0 other.0).0 is), λ is. (Decides-eqb id.0 other.0).1 (ap (λ (o : LinesId). o.0) is))

pub location_id-Decides : (id other : LocationId) → Decides (id.0 == other.0) (id ≡ other)
location_id-Decides id other = (λ is. ap (λ (n : ℕ). location_id n) ((Decides-eqb id.0 other.0).0 is), λ is. (Decides-eqb id.0 other.0).1 (ap (λ (o : LocationId). o.0) is))

pub stack-Decides : (id other : StackId) → Decides (id.0 == other.0) (id ≡ other)
stack-Decides id other = (λ is. ap (λ (n : ℕ). stack_id n) ((Decides-eqb id.0 other.0).0 is), λ is. (Decides-eqb id.0 other.0).1 (ap (λ (o : StackId). o.0) is))

option-Decides : {X : Type 0} → (E : X → X → Bool) (same : (x y : X) → Decides (E x y) (x ≡ y)) (a b : Option X) → Decides (option_eq E a b) (a ≡ b)
option-Decides E same None None = (λ is. refl, λ is. refl)
option-Decides E same None (Some y) = (λ is. cc, λ is. cc)
option-Decides E same (Some x) None = (λ is. cc, λ is. cc)
option-Decides {X} E same (Some x) (Some y) = (λ is. ap (λ (v : X). Some v) ((same x y).0 is), λ is. (same x y).1 (some_same x y is))

abbrev pub eq_mapping : MappingId → MappingId → Bool
eq_mapping a b = a.0 == b.0

abbrev pub eq_location : Location → Location → Bool
eq_location a b = option_eq eq_mapping a.mapping b.mapping && ((a.address == b.address) && (a.lines.0 == b.lines.0))

pub location-Decides : (a b : Location) → Decides (eq_location a b) (a ≡ b)
location-Decides a b =
    let lines = Decides-and (a.address == b.address) (a.lines.0 == b.lines.0) (Decides-eqb a.address b.address) (lines_id-Decides a.lines b.lines) in
    let parts = Decides-and (option_eq eq_mapping a.mapping b.mapping) ((a.address == b.address) && (a.lines.0 == b.lines.0)) (option-Decides eq_mapping mapping-Decides a.mapping b.mapping) lines in (
      (λ is. let p = parts.0 is in λ i. record { mapping = p.0 i; address = p.1.0 i; lines = p.1.1 i }),
      (λ is. parts.1 (ap (λ (l : Location). l.mapping) is, (ap (λ (l : Location). l.address) is, ap (λ (l : Location). l.lines) is))),
    )

abbrev pub eq_line : Line → Line → Bool
eq_line a b = (a.function.0 == b.function.0) && ((a.file.0 == b.file.0) && (a.line == b.line))

pub line-Decides : (a b : Line) → Decides (eq_line a b) (a ≡ b)
line-Decides a b =
    let file = Decides-and (a.file.0 == b.file.0) (a.line == b.line) (name-Decides a.file b.file) (Decides-eqb a.line b.line) in
    let parts = Decides-and (a.function.0 == b.function.0) ((a.file.0 == b.file.0) && (a.line == b.line)) (name-Decides a.function b.function) file in (
      (λ is. let p = parts.0 is in λ i. record { function = p.0 i; file = p.1.0 i; line = p.1.1 i }),
      (λ is. parts.1 (ap (λ (l : Line). l.function) is, (ap (λ (l : Line). l.file) is, ap (λ (l : Line). l.line) is))),
    )

abbrev eq_file : MappedRange → MappedRange → Bool
eq_file a b = (a.path.0 == b.path.0) && (a.build_id.0 == b.build_id.0)

abbrev eq_offset : MappedRange → MappedRange → Bool
eq_offset a b = (a.page_offset == b.page_offset) && eq_file a b

abbrev eq_end : MappedRange → MappedRange → Bool
eq_end a b = (a.end == b.end) && eq_offset a b

abbrev pub eq_range : MappedRange → MappedRange → Bool
eq_range a b = (a.start == b.start) && eq_end a b

pub range-Decides : (a b : MappedRange) → Decides (eq_range a b) (a ≡ b)
range-Decides a b =
    let file = Decides-and (a.path.0 == b.path.0) (a.build_id.0 == b.build_id.0) (name-Decides a.path b.path) (name-Decides a.build_id b.build_id) in
    let offset = Decides-and (a.page_offset == b.page_offset) (eq_file a b) (Decides-eqb a.page_offset b.page_offset) file in
    let end = Decides-and (a.end == b.end) (eq_offset a b) (Decides-eqb a.end b.end) offset in
    let parts = Decides-and (a.start == b.start) (eq_end a b) (Decides-eqb a.start b.start) end in (
      (λ is. let p = parts.0 is in λ i. record { start = p.0 i; end = p.1.0 i; page_offset = p.1.1.0 i; path = p.1.1.1.0 i; build_id = p.1.1.1.1 i }),
      (λ is. parts.1 (ap (λ (l : MappedRange). l.start) is, (ap (λ (l : MappedRange). l.end) is, (ap (λ (l : MappedRange). l.page_offset) is, (ap (λ (l : MappedRange). l.path) is, ap (λ (l : MappedRange). l.build_id) is))))),
    )

abbrev pub same_id : LocationId → LocationId → Bool
same_id a b = a.0 == b.0

pub locations-Decides : (xs ys : List LocationId) → Decides (pointwise same_id xs ys) (xs ≡ ys)
locations-Decides xs ys = slice_eq-Decides location_id-Decides xs ys (pointwise same_id xs ys) refl

pub lines-Decides : (xs ys : List Line) → Decides (pointwise eq_line xs ys) (xs ≡ ys)
lines-Decides xs ys = slice_eq-Decides line-Decides xs ys (pointwise eq_line xs ys) refl

abbrev pub eq_address : MappedAddress → MappedAddress → Bool
eq_address a b = (a.index == b.index) && (a.address == b.address)

pub address-Decides : (a b : MappedAddress) → Decides (eq_address a b) (a ≡ b)
address-Decides a b =
    let parts = Decides-and (a.index == b.index) (a.address == b.address) (Decides-eqb a.index b.index) (Decides-eqb a.address b.address) in (
      (λ is. let p = parts.0 is in λ i. record { index = p.0 i; address = p.1 i }),
      (λ is. parts.1 (ap (λ (l : MappedAddress). l.index) is, ap (λ (l : MappedAddress). l.address) is)),
    )

abbrev eq_ids : Thread → Thread → Bool
eq_ids a b = option_eq int_eq a.pid b.pid && option_eq int_eq a.tid b.tid

abbrev pub eq_thread : Thread → Thread → Bool
eq_thread a b = (a.name.0 == b.name.0) && eq_ids a b

thread-Decides : (a b : Thread) → Decides (eq_thread a b) (a ≡ b)
thread-Decides a b =
    let ids = Decides-and (option_eq int_eq a.pid b.pid) (option_eq int_eq a.tid b.tid) (option-Decides int_eq Decides-int_eq a.pid b.pid) (option-Decides int_eq Decides-int_eq a.tid b.tid) in
    let parts = Decides-and (a.name.0 == b.name.0) (eq_ids a b) (name-Decides a.name b.name) ids in (
      (λ is. let p = parts.0 is in λ i. record { name = p.0 i; pid = p.1.0 i; tid = p.1.1 i }),
      (λ is. parts.1 (ap (λ (l : Thread). l.name) is, (ap (λ (l : Thread). l.pid) is, ap (λ (l : Thread). l.tid) is))),
    )

abbrev eq_stack : SampleKey → SampleKey → Bool
eq_stack a b = (a.stack.0 == b.stack.0) && (a.column == b.column)

abbrev pub eq_key : SampleKey → SampleKey → Bool
eq_key a b = eq_thread a.thread b.thread && eq_stack a b

pub key-Decides : (a b : SampleKey) → Decides (eq_key a b) (a ≡ b)
key-Decides a b =
    let stack = Decides-and (a.stack.0 == b.stack.0) (a.column == b.column) (stack-Decides a.stack b.stack) (Decides-eqb a.column b.column) in
    let parts = Decides-and (eq_thread a.thread b.thread) (eq_stack a b) (thread-Decides a.thread b.thread) stack in (
      (λ is. let p = parts.0 is in λ i. record { thread = p.0 i; stack = p.1.0 i; column = p.1.1 i }),
      (λ is. parts.1 (ap (λ (l : SampleKey). l.thread) is, (ap (λ (l : SampleKey). l.stack) is, ap (λ (l : SampleKey). l.column) is))),
    )
