-- From the units that were read to the section, or to the error.
use Rattle.std.proofs.Common.{◌≡◌, ℕ, zero, suc, ◌+◌, ◌<◌, ◌≤◌, List, [], ◌∷◌, ◌++◌, length, refl, sym, ap, ◌∙◌, subst, inl, inr, true, false, arith, length-append, append_assoc, append-nil, None, Some}
use Rattle.std.specs.Prelude.{Err, Option, String, string_bytes, nat_eq, cond}
use Rattle.std.specs.Option.{option_map}
use Rattle.std.specs.BTreeMap.{BTreeMap, IsOrdered, get as get_kept}
use Rattle.std.specs.Map.{lookup, update, update_all}
use Rattle.std.specs.declared.alloc.Global.{Global}
use Rattle.std.specs.declared.io.Error.{Error}
use Rattle.std.proofs.lemmas.List.Elements.{filter_map-append}
use Rattle.std.proofs.lemmas.List.Sums.{fold_push}
use Rattle.std.specs.Cmp.{unsigned_tied}
use Rattle.std.specs.Ordering.{is_eq, nat_cmp}
use Rattle.std.specs.Cmp.{ranks}
use Rattle.std.specs.List.{AllByRecursion}
use Rattle.std.specs.List.Sorted.{IsStrictlySortedBy}
use Rattle.std.specs.Map.{keys_of}
use Rattle.std.specs.Ordering.{MatchOrdering}
use Rattle.std.specs.declared.cmp.Ordering.TheVariants.{Less}
use Rattle.std.proofs.lemmas.Bool.{eq-eqb, ne_eqb}
use Rattle.std.proofs.lemmas.Map.Keys.{IsStrictlyIncreasing-from_sorted, sorted_head, sorted_tail}
use Rattle.indexmap.specs.IndexMap.{IndexMap, keys, insert_entry}
use Rattle.indexmap.proofs.CallerLemmas.{insert_entry-new}
use Rattle.perfdata_sections.specs.declared.feature_sections.pmu_mappings.PmuMappings.{PmuMappings}
use Rattle.perfdata_sources.specs.Source.{State, Consumed}
use Rattle.perfdata_sources.specs.declared.source.append.AppendError.{AppendError}
use Rattle.perfdata_sources.specs.declared.source.append.AppendError.TheVariants.{Memory, Source}
use Rattle.perfdata_sources.proofs.ConsumedLemmas.{consumed_more, consumed_none, consumed_none_later, failed_later}
use Rattle.perfdata_sources.proofs.Numbers.{ReadsFirst}
use Rattle.perfdata_sections.specs.ParsedPart.{PartRead, PartPartlyRead, PartReadError}
use Rattle.perfdata_sections.specs.HeaderString.{IsHeaderStringOf, IsTruncatedString, IsTruncatedText, ReadsHeaderString}
use Rattle.perfdata_sections.specs.PmuMappings.{PmuUnit, named_units, last_name, collected_name, IsPmuUnit, IsTruncatedUnit, IsTruncatedName, ArePmuUnits, TruncatedUnits, UnitsOutOfMemory, IsPmuSection, IsPmuSectionOf, IsTruncatedPmuSection, IsPrefixOfPmuSection, ReadsPmuUnit, PmuUnitsRead, ReadsPmuUnits, ReadsPmus}
use Rattle.perfdata_sections.specs.steps.PmuMappings.{SortsUnits}
use Rattle.perfdata_sections.proofs.PartLemmas.{drop_prefix}

-- ---- the names in ascending order of their numbers

-- two numbers compare as equal if and only if they are the same
same_number : (k q : ℕ) → is_eq (nat_cmp k q) ≡ nat_eq k q
same_number k q = unsigned_tied k q

same_self : (k : ℕ) → nat_eq k k ≡ true
same_self k = eq-eqb k k refl

-- a fact on all keys holds for the key after a prefix
key_after_prefix : {X : Type 0} (P : ℕ → Type 0) (es rest : List (ℕ × X)) (k : ℕ) (x : X) → AllByRecursion P (keys_of (es ++ (k, x) ∷ rest)) → P k
key_after_prefix P [] rest k x all = all.0
key_after_prefix P (e ∷ es) rest k x all = key_after_prefix P es rest k x all.1

-- a number above another differs from it
apart : (low high : ℕ) → nat_cmp low high ≡ Less → nat_eq high low ≡ false
apart low high less = ne_eqb high low (λ same. let below = subst (λ r. MatchOrdering r (low < high) (low ≡ high) (high < low)) less (ranks low high) in absurd (omega arith))

-- in a sorted list, a key isn't among those before it
not_in_prefix : {X : Type 0} (es rest : List (ℕ × X)) (k : ℕ) (x : X) → IsStrictlySortedBy nat_cmp (keys_of (es ++ (k, x) ∷ rest)) → lookup (nat_eq k) es ≡ None
not_in_prefix [] rest k x up = refl
not_in_prefix (e ∷ es) rest k x up =
    ap (λ b. cond b (Some e.1) (lookup (nat_eq k) es)) (apart e.0 k (key_after_prefix (λ y. nat_cmp e.0 y ≡ Less) es rest k x (sorted_head nat_cmp e.0 (keys_of (es ++ (k, x) ∷ rest)) up)))
    ∙ not_in_prefix es rest k x (sorted_tail nat_cmp e.0 (keys_of (es ++ (k, x) ∷ rest)) up)

-- one more name is appended to the map
pub names_ordered : {S : Type 0} (all rest : List (ℕ × String Global)) (m new : IndexMap ℕ (String Global) S) (k : ℕ) (name : String Global) → IsStrictlySortedBy nat_cmp (keys_of all)
    → m.entries ++ (k, name) ∷ rest ≡ all → new.entries ≡ insert_entry nat_eq m.entries k name → new.entries ++ rest ≡ all
names_ordered all rest m new k name up is put =
    ap (λ es. es ++ rest) (put ∙ insert_entry-new nat_eq m k name (not_in_prefix m.entries rest k name (subst (λ es. IsStrictlySortedBy nat_cmp (keys_of es)) (sym is) up)))
    ∙ append_assoc m.entries ((k, name) ∷ []) rest ∙ is

-- the map contains all names in order
pub sorts_units : {S : Type 0} (names_by_number : BTreeMap ℕ (String Global)) (m : IndexMap ℕ (String Global) S) → IsOrdered nat_cmp names_by_number → m.entries ≡ names_by_number.entries → SortsUnits names_by_number m
sorts_units names_by_number m up is = record {
  is_ascending = IsStrictlyIncreasing-from_sorted (keys m) (subst (λ es. IsStrictlySortedBy nat_cmp (keys_of es)) (sym is) up);
  names = λ k. ap (option_map string_bytes) (ap (lookup (nat_eq k)) is ∙ same_lookup k names_by_number.entries);
}
  where
    same_lookup : (k : ℕ) (es : List (ℕ × String Global)) → lookup (nat_eq k) es ≡ lookup (λ q. is_eq (nat_cmp k q)) es
    same_lookup k [] = refl
    same_lookup k (e ∷ es) = ap (λ b. cond b (Some e.1) (lookup (nat_eq k) es)) (sym (same_number k e.0)) ∙ ap (cond (is_eq (nat_cmp k e.0)) (Some e.1)) (same_lookup k es)

-- a map with an entry has a name
nonempty_map : (es : List (ℕ × String Global)) → 0 < length es → ((k : ℕ) → option_map string_bytes (lookup (λ q. is_eq (nat_cmp k q)) es) ≡ None) → ⊥
nonempty_map [] some none = absurd (omega (arith, some))
nonempty_map (e ∷ es) some none =
    let found : option_map string_bytes (cond (is_eq (nat_cmp e.0 e.0)) (Some e.1) (lookup (λ q. is_eq (nat_cmp e.0 q)) es)) ≡ Some (string_bytes e.1) =
    ap (λ b. option_map string_bytes (cond b (Some e.1) (lookup (λ q. is_eq (nat_cmp e.0 q)) es))) (same_number e.0 e.0 ∙ same_self e.0)
    in
    let no : Some (string_bytes e.1) ≡ None = sym found ∙ none e.0 in
    cc

no_units : (us : List PmuUnit) → length us ≡ 0 → us ≡ []
no_units [] none = refl
no_units (u ∷ us) none = absurd (omega (arith, none))

-- a truncation after a prefix is a truncation of the whole
pub read_error_after : (IsTruncated IsTruncatedRest : List ℕ → Type 0) (a b c : State) (prefix : List ℕ) (e : Error) → Consumed a prefix b → PartReadError IsTruncatedRest b e c
    → ((part : List ℕ) → IsTruncatedRest part → IsTruncated (prefix ++ part)) → PartReadError IsTruncated a e c
read_error_after IsTruncated IsTruncatedRest a b c prefix e before truncated whole = record {
  bytes = prefix ++ truncated.bytes;
  is_truncated = whole truncated.bytes truncated.is_truncated;
  consumes = consumed_more a b c prefix truncated.bytes before truncated.consumes;
  cause = elim truncated.cause [
    | inl short ↦ inl (short.0, consumed_none_later a b c prefix before short.1)
    | inr failed ↦ inr (failed_later a b c prefix before failed)
  ];
}

pub partly_read_after : (IsTruncated IsTruncatedRest : List ℕ → Type 0) (a b c : State) (prefix : List ℕ) → Consumed a prefix b → PartPartlyRead IsTruncatedRest b c
    → ((part : List ℕ) → IsTruncatedRest part → IsTruncated (prefix ++ part)) → PartPartlyRead IsTruncated a c
partly_read_after IsTruncated IsTruncatedRest a b c prefix before some whole = record {
  bytes = prefix ++ some.bytes;
  is_truncated = whole some.bytes some.is_truncated;
  consumes = consumed_more a b c prefix some.bytes before some.consumes;
}

-- a unit with a name is the last of its number
last_push : (us : List PmuUnit) (k : ℕ) (name : List ℕ) (q : ℕ) → last_name (us ++ (k, Some name) ∷ []) q ≡ cond (nat_eq k q) (Some name) (last_name us q)
last_push us k name q =
    ap (λ l. update_all nat_eq (λ _. None) l q) (filter_map-append (λ u. option_map (λ n. (u.0, n)) u.1) us ((k, Some name) ∷ []))
    ∙ ap (λ f. f q) (fold_push (λ g p. update nat_eq g p.0 (Some p.1)) (λ _. None) (named_units us) (k, name))

-- a unit without a name doesn't change the names
pub last_unnamed : (us : List PmuUnit) (k q : ℕ) → last_name (us ++ (k, None) ∷ []) q ≡ last_name us q
last_unnamed us k q =
    ap (λ l. update_all nat_eq (λ _. None) l q) (filter_map-append (λ u. option_map (λ n. (u.0, n)) u.1) us ((k, None) ∷ []) ∙ append-nil (named_units us))

pub names_push : (old new : BTreeMap ℕ (String Global)) (us : List PmuUnit) (k : ℕ) (name : String Global) → ((q : ℕ) → collected_name old q ≡ last_name us q)
    → ((q : ℕ) → get_kept nat_cmp new q ≡ cond (is_eq (nat_cmp k q)) (Some name) (get_kept nat_cmp old q)) → (q : ℕ) → collected_name new q ≡ last_name (us ++ (k, Some (string_bytes name)) ∷ []) q
names_push old new us k name before updates q =
    ap (option_map string_bytes) (updates q)
    ∙ ap (λ b. option_map string_bytes (cond b (Some name) (get_kept nat_cmp old q))) (same_number k q)
    ∙ elim (nat_eq k q) as (λ b. option_map string_bytes (cond b (Some name) (get_kept nat_cmp old q)) ≡ cond b (Some (string_bytes name)) (last_name us q)) [ true ↦ refl | false ↦ before q ]
    ∙ sym (last_push us k (string_bytes name) q)

module _ (number : ℕ → List ℕ → ℕ) (first : ReadsFirst number) where
  -- ---- a unit

  unit_truncated : (header part : List ℕ) → length header ≡ 4 → IsTruncatedString number part → IsTruncatedUnit number (header ++ part)
  unit_truncated header part long truncated = λ _. subst (IsTruncatedString number) (sym (drop_prefix 4 header part long)) truncated

  pub unit_error : (a b c : State) (header : List ℕ) (error : AppendError) → length header ≡ 4 → Consumed a header b → ReadsHeaderString number b (Err error) c → ReadsPmuUnit number a (Err error) c
  unit_error a b c header Memory long before some = partly_read_after (IsTruncatedName number) (IsTruncatedText number) a b c header before some (λ part truncated. (omega (arith, long, length-append header part), subst (IsTruncatedText number) (sym (drop_prefix 4 header part long)) truncated))
  unit_error a b c header (Source e) long before truncated = read_error_after (IsTruncatedUnit number) (IsTruncatedString number) a b c header e before truncated (λ part. unit_truncated header part long)

  pub unit_read : (a b c : State) (header : List ℕ) (n : ℕ) (name : Option (List ℕ)) → length header ≡ 4 → n ≡ number 4 header → Consumed a header b → PartRead (IsHeaderStringOf number) b name c
      → PartRead (IsPmuUnit number) a (n, name) c
  unit_read a b c header n name long is before was_read = record {
    bytes = header ++ was_read.bytes;
    consumes = consumed_more a b c header was_read.bytes before was_read.consumes;
    matches = (
      omega (arith, length-append header was_read.bytes),
      is ∙ sym (first 4 header was_read.bytes (omega arith)),
      subst (λ l. IsHeaderStringOf number l name) (sym (drop_prefix 4 header was_read.bytes long)) was_read.matches,
    );
  }

  -- ---- the units

  units_push : (prefix p : List ℕ) (us : List PmuUnit) (u : PmuUnit) → ArePmuUnits number prefix us → IsPmuUnit number p u → ArePmuUnits number (prefix ++ p) (us ++ u ∷ [])
  units_push prefix p [] u none is = (p, [], ap (λ l. l ++ p) none ∙ sym (append-nil p), is, refl)
  units_push prefix p (v ∷ us) u (one, rest, truncated, is_one, are) is =
      (one, rest ++ p, ap (λ l. l ++ p) truncated ∙ append_assoc one rest p, is_one, units_push rest p us u are is)

  pub units_none : (a : State) (m : BTreeMap ℕ (String Global)) → m.entries ≡ [] → PmuUnitsRead number 0 a m a
  units_none a m empty = record { units = []; bytes = []; exact_len = refl; consumes = consumed_none a; elements = refl; names = λ k. ap (λ es. option_map string_bytes (lookup (λ q. is_eq (nat_cmp k q)) es)) empty }

  -- one more unit
  pub units_more : (i : ℕ) (a b c : State) (m new : BTreeMap ℕ (String Global)) (u : PmuUnit) → PmuUnitsRead number i a m b → PartRead (IsPmuUnit number) b u c
      → ((us : List PmuUnit) → ((q : ℕ) → collected_name m q ≡ last_name us q) → (q : ℕ) → collected_name new q ≡ last_name (us ++ u ∷ []) q) → PmuUnitsRead number (i + 1) a new c
  units_more i a b c m new u was_read one keeps = record {
    units = was_read.units ++ u ∷ [];
    bytes = was_read.bytes ++ one.bytes;
    exact_len = let long = was_read.exact_len in omega (arith, length-append was_read.units (u ∷ []));
    consumes = consumed_more a b c was_read.bytes one.bytes was_read.consumes one.consumes;
    elements = units_push was_read.bytes one.bytes was_read.units u was_read.elements one.matches;
    names = keeps was_read.units was_read.names;
  }

  -- the next unit has an error
  pub units_error : (i count : ℕ) (a b c : State) (m : BTreeMap ℕ (String Global)) (error : AppendError) → i < count → PmuUnitsRead number i a m b → ReadsPmuUnit number b (Err error) c
      → ReadsPmuUnits number count a (Err error) c
  units_error i count a b c m Memory low was_read some =
      partly_read_after (UnitsOutOfMemory number count) (IsTruncatedName number) a b c was_read.bytes was_read.consumes some (λ part truncated.
      let long = was_read.exact_len in record { units = was_read.units; unit_bytes = was_read.bytes; rest = part; matches = refl; elements = was_read.elements; cause = inl (omega (arith, long, low), truncated) })
  units_error i count a b c m (Source e) low was_read stopped =
      read_error_after (TruncatedUnits number count) (IsTruncatedUnit number) a b c was_read.bytes e was_read.consumes stopped (λ part truncated.
      let long = was_read.exact_len in record { units = was_read.units; unit_bytes = was_read.bytes; rest = part; too_few = omega arith; matches = refl; elements = was_read.elements; is_truncated = truncated })

  -- the names of the units can't be allocated
  pub units_partly_read : (i count : ℕ) (a b : State) (m : BTreeMap ℕ (String Global)) → 0 < i → i ≤ count → PmuUnitsRead number i a m b → PartPartlyRead (UnitsOutOfMemory number count) a b
  units_partly_read i count a b m some low was_read =
      let long = was_read.exact_len in record {
        bytes = was_read.bytes;
        is_truncated = record { units = was_read.units; unit_bytes = was_read.bytes; rest = []; matches = sym (append-nil was_read.bytes); elements = was_read.elements; cause = inr (omega (arith, long, some), omega (arith, long, low), refl) };
        consumes = was_read.consumes;
      }

  -- nor can the name of one more unit
  pub units_out_of_memory : (i count : ℕ) (a b c : State) (m : BTreeMap ℕ (String Global)) (u : PmuUnit) → i < count → PmuUnitsRead number i a m b → PartRead (IsPmuUnit number) b u c
      → PartPartlyRead (UnitsOutOfMemory number count) a c
  units_out_of_memory i count a b c m u low was_read one =
      let long = was_read.exact_len in record {
        bytes = was_read.bytes ++ one.bytes;
        is_truncated = record {
          units = was_read.units ++ u ∷ [];
          unit_bytes = was_read.bytes ++ one.bytes;
          rest = [];
          matches = sym (append-nil (was_read.bytes ++ one.bytes));
          elements = units_push was_read.bytes one.bytes was_read.units u was_read.elements one.matches;
          cause = inr (omega (arith, length-append was_read.units (u ∷ [])), omega (arith, long, low, length-append was_read.units (u ∷ [])), refl);
        };
        consumes = consumed_more a b c was_read.bytes one.bytes was_read.consumes one.consumes;
      }

  -- ---- the section

  pub section_error : (a b c : State) (header : List ℕ) (count : ℕ) (error : AppendError) → length header ≡ 4 → count ≡ number 4 header → Consumed a header b
      → ReadsPmuUnits number count b (Err error) c → ReadsPmus number a (Err error) c
  section_error a b c header count Memory long says before some = partly_read_after (IsPrefixOfPmuSection number) (UnitsOutOfMemory number count) a b c header before some (λ part partial.
      let same = first 4 header part (omega arith) in
      let all : count ≡ number 4 (header ++ part) = omega arith in (
        omega (arith, long, length-append header part),
        subst (UnitsOutOfMemory number (number 4 (header ++ part))) (sym (drop_prefix 4 header part long)) (subst (λ n. UnitsOutOfMemory number n part) all partial),
      ))
  section_error a b c header count (Source e) long says before stopped = read_error_after (IsTruncatedPmuSection number) (TruncatedUnits number count) a b c header e before stopped (λ part truncated _.
      let same = first 4 header part (omega arith) in
      let all : count ≡ number 4 (header ++ part) = omega arith in
      subst (TruncatedUnits number (number 4 (header ++ part))) (sym (drop_prefix 4 header part long)) (subst (λ n. TruncatedUnits number n part) all truncated))

  section_is : (header bytes : List ℕ) (count : ℕ) (us : List PmuUnit) → length header ≡ 4 → count ≡ number 4 header → length us ≡ count → ArePmuUnits number bytes us → IsPmuSection number (header ++ bytes) us
  section_is header bytes count us long says all are =
      let same = first 4 header bytes (omega arith) in record {
        has_count = omega (arith, length-append header bytes);
        count = omega arith;
        elements = subst (λ l. ArePmuUnits number l us) (sym (drop_prefix 4 header bytes long)) are;
      }

  -- if the map isn't empty, a unit was read
  some_units : (count : ℕ) (b c : State) (m : BTreeMap ℕ (String Global)) → PmuUnitsRead number count b m c → 0 < length m.entries → 0 < count
  some_units zero b c m was_read some = absurd (nonempty_map m.entries some (λ k. was_read.names k ∙ ap (λ us. last_name us k) (no_units was_read.units was_read.exact_len)))
  some_units (suc n) b c m was_read some = omega arith

  -- the map in ascending order can't be allocated
  pub section_partly_read : (a b c : State) (header : List ℕ) (count : ℕ) (m : BTreeMap ℕ (String Global)) → length header ≡ 4 → count ≡ number 4 header → Consumed a header b → PmuUnitsRead number count b m c
      → 0 < length m.entries → PartPartlyRead (IsPrefixOfPmuSection number) a c
  section_partly_read a b c header count m long says before was_read some =
      section_error a b c header count Memory long says before (units_partly_read count count b c m (some_units count b c m was_read some) (omega arith) was_read)

  pub section_read : (a b c : State) (header : List ℕ) (count : ℕ) (m : BTreeMap ℕ (String Global)) (pmus : PmuMappings) → length header ≡ 4 → count ≡ number 4 header → Consumed a header b
      → PmuUnitsRead number count b m c → SortsUnits m pmus.0 → PartRead (IsPmuSectionOf number) a pmus c
  section_read a b c header count m pmus long says before was_read sorted = record {
    bytes = header ++ was_read.bytes;
    consumes = consumed_more a b c header was_read.bytes before was_read.consumes;
    matches = (
      was_read.units,
      section_is header was_read.bytes count was_read.units long says was_read.exact_len was_read.elements,
      record { is_ascending = sorted.is_ascending; names = λ k. sorted.names k ∙ was_read.names k },
    );
  }
