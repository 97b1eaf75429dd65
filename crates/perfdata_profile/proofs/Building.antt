-- A builder as it is given one more record.
use Rattle.std.proofs.Common.{◌≡◌, ◌∙◌, ◌+◌, ◌<◌, inl, inr, ap, refl, sym, subst, ℕ, ℤ, Bool, true, false, List, [], ◌∷◌, ◌++◌, get_or, length, map, slice_get, take, Option, None, Some, IfSome}
use Rattle.std.proofs.lemmas.List.{append-nil, map-append, take_more}
use Rattle.std.proofs.lemmas.List.Concat.{flat_map-append}
use Rattle.std.proofs.lemmas.Option.{get_or_from_slice_get, slice_get_within}
use Rattle.perfdata_events.specs.declared.event.EventRecord.{EventRecord}
use Rattle.perfdata_events.specs.declared.event.EventRecord.TheVariants.{Sample}
use Rattle.perfdata_events.specs.declared.fields.task.Task.{Task}
use Rattle.perfdata_events.specs.declared.sample.SampleRecord.{SampleRecord}
use Rattle.perfdata_profile.specs.Building.{Builds, HasKey, IsProfileOf, options_of}
use Rattle.perfdata_profile.specs.steps.Building.{HasStack, HasThread}
use Rattle.perfdata_profile.specs.Chains.{ChainValue, ChainsHold, IsStackOf, chains_in}
use Rattle.perfdata_profile.specs.steps.Chains.{AddsChain}
use Rattle.perfdata_profile.specs.Interning.{Grows}
use Rattle.perfdata_profile.specs.Locating.{CacheHolds, located_lists}
use Rattle.perfdata_profile.specs.steps.Locating.{IsTime, LocatorGrows}
use Rattle.perfdata_profile.specs.Profiles.{lists_of, valued_entry, valued_sample}
use Rattle.perfdata_profile.specs.Names.{number_of}
use Rattle.perfdata_profile.specs.Resolving.{IsIdOf, Meaning}
use Rattle.perfdata_profile.specs.SampleLists.{IsEntryOf, IsListed, ListsIfSome, ListsSamples, listed_in, selected_times}
use Rattle.perfdata_profile.specs.SampleSums.{TalliesSamples, entries_of, then_counted}
use Rattle.perfdata_profile.specs.Samples.{AreCounted, AreRelated, IsSample, IsThread, Locates, passed, sample, Given, applied_as, applied_by, applied_in, is_selected, is_selected_as, sample_task}
use Rattle.perfdata_profile.specs.Interned.{stack_number}
use Rattle.perfdata_profile.specs.Tallies.{Counted, Tallies}
use Rattle.perfdata_profile.specs.Threads.{pid_of, tid_of}
use Rattle.perfdata_profile.specs.Values.{AreLocations, AreOnce, AreWithin, IsKey, IsLocation, Lists, location_at, sample_value, stack_at, thread_key}
use Rattle.perfdata_profile.specs.steps.Values.{ListsGrow}
use Rattle.perfdata_profile.specs.declared.builder.ProfileBuilder.{ProfileBuilder}
use Rattle.perfdata_profile.specs.declared.chain_cache.ChainCache.{ChainCache}
use Rattle.perfdata_profile.specs.declared.locating.Locator.{Locator}
use Rattle.perfdata_profile.specs.declared.locations.LocationId.{LocationId}
use Rattle.perfdata_profile.specs.declared.options.Detail.{Detail}
use Rattle.perfdata_profile.specs.declared.options.ProfileOptions.{ProfileOptions}
use Rattle.perfdata_profile.specs.declared.options.ThreadIds.{ThreadIds}
use Rattle.perfdata_profile.specs.declared.profile.Profile.{Profile}
use Rattle.perfdata_profile.specs.declared.stacks.StackId.{StackId}
use Rattle.perfdata_profile.specs.declared.sample_list.SampleList.{SampleList}
use Rattle.perfdata_profile.specs.declared.sums.SampleKey.{SampleKey}
use Rattle.perfdata_profile.specs.declared.sums.SampleSums.{SampleSums}
use Rattle.perfdata_profile.specs.declared.sums.SampleWeight.{SampleWeight}
use Rattle.perfdata_profile.specs.declared.sums.Sums.{Sums}
use Rattle.perfdata_profile.specs.declared.sums.Thread.{Thread}
use Rattle.perfdata_profile.specs.declared.interned.Interned.{Interned}
use Rattle.perfdata_profile.proofs.Counting.{counted_keys, counted_map, counted_number, counted_weaker, related_push}
use Rattle.perfdata_profile.proofs.Elements.{old_or_last}
use Rattle.perfdata_profile.proofs.Growing.{key_kept, key_within, lists_trans, locations_kept, locations_within, none_at, stack_within, stack_kept as stack_value_kept}
use Rattle.perfdata_profile.proofs.Listing.{related_map, times_push, times_stay}
use Rattle.perfdata_profile.proofs.Looking.{cached_mapped}
use Rattle.perfdata_profile.proofs.Valuing.{tallies_values, value_is}
use Rattle.perfdata_spaces.specs.AddressSpaces.{Follows, mapping_values, name_effects}
use Rattle.perfdata_spaces.specs.Effects.{Applied}
use Rattle.perfdata_spaces.specs.NameHistories.{IsName}
use Rattle.perfdata_spaces.specs.declared.address_spaces.AddressSpaces.{AddressSpaces}
use Rattle.perfdata_stacks.specs.declared.frames.SampleFrame.{SampleFrame}

applied_push : (given : List Given) (last : Given) → applied_in (given ++ last ∷ []) ≡ applied_in given ++ applied_by last
applied_push given last = flat_map-append applied_by given (last ∷ []) ∙ ap (λ l. applied_in given ++ l) (append-nil (applied_by last))

pub selected_applied : (misc : ℕ) (event : EventRecord) (weight : Option SampleWeight) → applied_as misc event ≡ record { misc = misc; event = event } ∷ [] → is_selected_as event weight ≡ false
selected_applied misc (Sample s) weight is = cc
selected_applied misc event weight is = refl

-- A stack of ids that refer to locations, with one more.
pub more_locations : (lists : Lists) (stack more : List LocationId) (id : LocationId) → more ≡ stack ++ id ∷ [] → AreLocations lists stack → IsLocation lists id → AreLocations lists more
more_locations lists stack more id pushed are is = λ index other at. elim (old_or_last stack id index other (ap (λ l. slice_get l index) (sym pushed) ∙ at)) [
  | inl was ↦ are index other was
  | inr last ↦ subst (IsLocation lists) (sym last.1) is
]

pub locator_trans : (first second third : Locator) → LocatorGrows first second → LocatorGrows second third → LocatorGrows first third
locator_trans first second third grows more = record {
  lists = lists_trans (located_lists first) (located_lists second) (located_lists third) grows.lists more.lists;
  detail = more.detail ∙ grows.detail;
}

time_of : (one are : Bool) (time other : Option ℕ) → (are ≡ true → one ≡ true) → IsTime are time other → IsTime one time other
time_of one are time other implies at = elim at [ inl is ↦ inl (implies is) | inr same ↦ inr same ]

module _ (meaning : Meaning) where
  -- A stack as tables grow.
  module _ (old new : Lists) (grows : ListsGrow old new) (table : AreWithin old) (detail : Detail) (before : List Applied) (pid : ℤ) (time : Option ℕ) (frames : List SampleFrame) (stack : List LocationId) where
    pub stack_kept : HasStack meaning old detail before pid time frames stack → HasStack meaning new detail before pid time frames stack
    stack_kept has = record {
      within = locations_within old new grows stack has.within;
      are = subst (AreRelated (Locates meaning detail before pid time) frames) (sym (locations_kept old new grows table stack has.within)) has.are;
    }

  -- One more location of a stack.
  pub stack_more : (old new : Lists) → ListsGrow old new → AreWithin old → (detail : Detail) (before : List Applied) (pid : ℤ) (time : Option ℕ) (frames : List SampleFrame) (frame : SampleFrame) (stack more : List LocationId) (id : LocationId) → more ≡ stack ++ id ∷ [] → IsLocation new id → HasStack meaning old detail before pid time frames stack → Locates meaning detail before pid time frame (location_at new id) → HasStack meaning new detail before pid time (frames ++ frame ∷ []) more
  stack_more old new grows table detail before pid time frames frame stack more id pushed is has located =
      let kept = stack_kept old new grows table detail before pid time frames stack has in
      let values : map (location_at new) more ≡ map (location_at new) stack ++ location_at new id ∷ [] = ap (map (location_at new)) pushed ∙ map-append (location_at new) stack (id ∷ []) in
      record {
        within = more_locations new stack more id pushed kept.within is;
        are = subst (AreRelated (Locates meaning detail before pid time) (frames ++ frame ∷ [])) (sym values) (related_push (Locates meaning detail before pid time) frames (map (location_at new) stack) frame (location_at new id) kept.are located);
      }

  -- One more location of a stack, and what is cached after it.
  module _ (first old new : Locator) (spaces : AddressSpaces) (pid : ℤ) (time : Option ℕ) (frames : List SampleFrame) (index : ℕ) (d : SampleFrame) (inside : index < length frames) (stack more : List LocationId) (id : LocationId) (grows : LocatorGrows first old) (adds : LocatorGrows old new) (pushed : more ≡ stack ++ id ∷ []) (within : IsLocation (located_lists new) id) where
    pub next_stack : (before : List Applied) → CacheHolds meaning first.detail (mapping_values spaces) old × HasStack meaning (located_lists old) first.detail before pid time (take index frames) stack → (CacheHolds meaning old.detail (mapping_values spaces) old → CacheHolds meaning old.detail (mapping_values spaces) new) → (CacheHolds meaning old.detail (mapping_values spaces) old → Locates meaning old.detail before pid time (get_or frames index d) (location_at (located_lists new) id)) → CacheHolds meaning first.detail (mapping_values spaces) new × HasStack meaning (located_lists new) first.detail before pid time (take (index + 1) frames) more
    next_stack before was cache located =
        let holds = subst (λ (x : Detail). CacheHolds meaning x (mapping_values spaces) old) (sym grows.detail) was.0 in
        let here = subst (λ (x : Detail). Locates meaning x before pid time (get_or frames index d) (location_at (located_lists new) id)) grows.detail (located holds) in
        let next = stack_more (located_lists old) (located_lists new) adds.lists old.tables.within first.detail before pid time (take index frames) (get_or frames index d) stack more id pushed within was.1 here in (
          subst (λ (x : Detail). CacheHolds meaning x (mapping_values spaces) new) grows.detail (cache holds),
          subst (λ (fs : List SampleFrame). HasStack meaning (located_lists new) first.detail before pid time fs more) (sym (take_more frames index d inside)) next,
        )

  -- The same at the time of the sample or, if all locations are fixed, at each time.
  module _ (first old new : Locator) (spaces : AddressSpaces) (pid : ℤ) (time : Option ℕ) (frames : List SampleFrame) (index : ℕ) (d : SampleFrame) (inside : index < length frames) (stack more : List LocationId) (id : LocationId) (grows : LocatorGrows first old) (adds : LocatorGrows old new) (pushed : more ≡ stack ++ id ∷ []) (within : IsLocation (located_lists new) id) (were fixed are : Bool) (both : are ≡ true → (were ≡ true) × (fixed ≡ true)) (before : List Applied) where
    pub next_stacks : CacheHolds meaning first.detail (mapping_values spaces) old × ((other : Option ℕ) → IsTime were time other → HasStack meaning (located_lists old) first.detail before pid other (take index frames) stack) → (CacheHolds meaning old.detail (mapping_values spaces) old → CacheHolds meaning old.detail (mapping_values spaces) new) → (CacheHolds meaning old.detail (mapping_values spaces) old → (other : Option ℕ) → IsTime fixed time other → Locates meaning old.detail before pid other (get_or frames index d) (location_at (located_lists new) id)) → CacheHolds meaning first.detail (mapping_values spaces) new × ((other : Option ℕ) → IsTime are time other → HasStack meaning (located_lists new) first.detail before pid other (take (index + 1) frames) more)
    next_stacks was cache located = (
      (next_stack first old new spaces pid time frames index d inside stack more id grows adds pushed within before (was.0, was.1 time (inr refl)) cache (λ holds. located holds time (inr refl))).0,
      λ other at. (next_stack first old new spaces pid other frames index d inside stack more id grows adds pushed within before (was.0, was.1 other (time_of were are time other (λ is. (both is).0) at)) cache (λ holds. located holds other (time_of fixed are time other (λ is. (both is).1) at))).1,
    )

  -- The id of a name of a thread.
  pub has_thread : (lists : Lists) (ids : ThreadIds) (before : List Applied) (task : Task) (thread : Thread) (comm : Option (List ℕ)) → IsName task.tid (name_effects before) comm → IsIdOf (meaning.names_thread (record { task = task; comm = comm })) lists.names thread.name → thread.pid ≡ pid_of ids task → thread.tid ≡ tid_of ids task → HasThread meaning lists ids before task thread
  has_thread lists ids before task thread comm is_comm named pid tid = record {
    within = slice_get_within lists.names (number_of thread.name) named.name named.at;
    is = record {
      comm = comm;
      is_comm = is_comm;
      is_name = subst (meaning.names_thread (record { task = task; comm = comm })) (sym (get_or_from_slice_get lists.names (number_of thread.name) named.name [] named.at)) named.is;
      pid = pid;
      tid = tid;
    };
  }

  -- The id of a stack of the locations of frames.
  module _ (old new : Lists) (grows : ListsGrow old new) (table : AreWithin old) (detail : Detail) (before : List Applied) where
    pub stack_of : (pid : ℤ) (time : Option ℕ) (frames : List SampleFrame) (id : StackId) (stack : List LocationId) → slice_get new.stacks (stack_number id) ≡ Some stack → HasStack meaning old detail before pid time frames stack → IsStackOf meaning detail new before pid time frames id
    stack_of pid time frames id stack at has =
        let kept = stack_kept old new grows table detail before pid time frames stack has in
        record {
          within = slice_get_within new.stacks (stack_number id) stack at;
          are = subst (AreRelated (Locates meaning detail before pid time) frames) (sym (value_is (map (location_at new)) new.stacks [] (stack_number id) stack at)) kept.are;
        }

    pub stack_of_kept : (pid : ℤ) (time : Option ℕ) (frames : List SampleFrame) (id : StackId) → IsStackOf meaning detail old before pid time frames id → IsStackOf meaning detail new before pid time frames id
    stack_of_kept pid time frames id is = record {
      within = stack_within old new grows id is.within;
      are = subst (AreRelated (Locates meaning detail before pid time) frames) (sym (stack_value_kept old new grows table id is.within)) is.are;
    }

    -- The chains of a cache.
    pub chains_kept : (chains : ChainCache) → ChainsHold meaning detail old before chains → ChainsHold meaning detail new before chains
    chains_kept chains hold = λ index chain at time. stack_of_kept chain.pid time chain.frames chain.id (hold index chain at time)

  pub chains_added : (lists : Lists) (detail : Detail) (before : List Applied) (old new : ChainCache) (chain : ChainValue) → AddsChain old chain new → ChainsHold meaning detail lists before old → ((time : Option ℕ) → IsStackOf meaning detail lists before chain.pid time chain.frames chain.id) → ChainsHold meaning detail lists before new
  chains_added lists detail before old new chain adds hold is = λ index other at time. elim (adds index other at) [
    | inl was ↦ hold was.0 other was.1 time
    | inr same ↦ subst (λ (c : ChainValue). IsStackOf meaning detail lists before c.pid time c.frames c.id) (sym same) (is time)
  ]

  pub no_chains : (lists : Lists) (detail : Detail) (before : List Applied) (chains : ChainCache) → chains_in chains ≡ [] → ChainsHold meaning detail lists before chains
  no_chains lists detail before chains none = λ index chain at time. absurd (none_at (chains_in chains) none index chain at)

  -- The ids of the thread and the stack of a sample.
  pub has_key : (options : ProfileOptions) (first second : Lists) → ListsGrow first second → AreWithin first → (id : StackId) (before : List Applied) (misc : ℕ) (s : SampleRecord) (column : ℕ) (task : Task) (thread : Thread) (frames : List SampleFrame) → task ≡ sample_task s → meaning.has_frames before misc s frames → IsStackOf meaning options.detail first before task.pid s.timestamp frames id → HasThread meaning second options.thread_ids before task thread → HasKey meaning second options before misc s column (record { thread = thread; stack = id; column = column })
  has_key options first second grows table id before misc s column task thread frames task_is has_frames is has_thread =
      let kept = stack_of_kept first second grows table options.detail before task.pid s.timestamp frames id is in
      record {
        within = (has_thread.within, kept.within);
        is = record {
          is_thread = subst (λ (t : Task). IsThread meaning options.thread_ids before t (thread_key second thread)) task_is has_thread.is;
          frames = frames;
          has_frames = has_frames;
          are_located = subst (λ (t : Task). AreRelated (Locates meaning options.detail before t.pid s.timestamp) frames (stack_at second id)) task_is kept.are;
          is_column = refl;
        };
      }

  -- The ids of a key stay those of a sample as tables grow.
  key_stays : (options : ProfileOptions) (old new : Lists) → ListsGrow old new → AreWithin old → (before : List Applied) (misc : ℕ) (s : SampleRecord) (column : ℕ) (key : SampleKey) → HasKey meaning old options before misc s column key → HasKey meaning new options before misc s column key
  key_stays options old new grows table before misc s column key has = record {
    within = key_within old new grows key has.within;
    is = subst (IsSample meaning options before misc s column) (sym (key_kept old new grows table key has.within)) has.is;
  }

  module _ {R : Type 0} (options : ProfileOptions) (given : List Given) (old new : ProfileBuilder R) (builds : Builds meaning options given old) where
    pub builds_counted : (misc : ℕ) (s : SampleRecord) (weight : SampleWeight) (key : SampleKey) → options_of new ≡ options_of old → new.spaces ≡ old.spaces → LocatorGrows old.locator new.locator → CacheHolds meaning options.detail (mapping_values old.spaces) new.locator → ChainsHold meaning options.detail (located_lists new.locator) (applied_in given) new.chains → HasKey meaning (located_lists new.locator) options (applied_in given) misc s weight.column key → ((counted : List (Counted SampleKey)) → TalliesSamples counted old.sums → TalliesSamples (then_counted counted key weight.weight) new.sums) → ((times : List (Option ℕ)) (counted : List (Counted SampleKey)) → ListsIfSome times counted (entries_of old.sums) old.samples → ListsIfSome (times ++ s.timestamp ∷ []) (then_counted counted key weight.weight) (entries_of new.sums) new.samples) → Builds meaning options (given ++ record { misc = misc; event = Sample s; weight = Some weight } ∷ []) new
    builds_counted misc s weight key same_options spaces grows cache chains has tallies lists =
        let last : Given = record { misc = misc; event = Sample s; weight = Some weight } in
        let same = applied_push given last ∙ append-nil (applied_in given) in
        let kept = counted_weaker (HasKey meaning (located_lists old.locator) options) (HasKey meaning (located_lists new.locator) options) (key_stays options (located_lists old.locator) (located_lists new.locator) grows.lists old.locator.tables.within) given builds.counted builds.are in
        record {
          has_options = same_options ∙ builds.has_options;
          follows = subst (λ (r : List Applied). Follows r new.spaces) (sym same) (subst (Follows (applied_in given)) (sym spaces) builds.follows);
          cache = subst (λ (s : List _). CacheHolds meaning options.detail s new.locator) (ap mapping_values (sym spaces)) cache;
          chains = subst (λ (r : List Applied). ChainsHold meaning options.detail (located_lists new.locator) r new.chains) (sym same) chains;
          counted = then_counted builds.counted key weight.weight;
          are = sample (given ++ last ∷ []) given (then_counted builds.counted key weight.weight) builds.counted misc s weight key refl refl has kept;
          sums = tallies builds.counted builds.sums;
          listed = subst (λ (times : List (Option ℕ)). ListsIfSome times (then_counted builds.counted key weight.weight) (entries_of new.sums) new.samples) (sym (times_push given last)) (lists (selected_times given) builds.counted builds.listed);
        }

    pub builds_applied : (last : Given) → is_selected last ≡ false → options_of new ≡ options_of old → new.locator ≡ old.locator → new.sums ≡ old.sums → new.samples ≡ old.samples → Grows (mapping_values old.spaces) (mapping_values new.spaces) → Follows (applied_in given ++ applied_by last) new.spaces → ChainsHold meaning options.detail (located_lists new.locator) (applied_in given ++ applied_by last) new.chains → Builds meaning options (given ++ last ∷ []) new
    builds_applied last not same_options locator sums samples grows follows chains = record {
      has_options = same_options ∙ builds.has_options;
      follows = subst (λ (r : List Applied). Follows r new.spaces) (sym (applied_push given last)) follows;
      cache = subst (CacheHolds meaning options.detail (mapping_values new.spaces)) (sym locator) (cached_mapped meaning options.detail (located_lists old.locator) (mapping_values old.spaces) (mapping_values new.spaces) grows old.locator.cache builds.cache);
      chains = subst (λ (r : List Applied). ChainsHold meaning options.detail (located_lists new.locator) r new.chains) (sym (applied_push given last)) chains;
      counted = builds.counted;
      are = passed (given ++ last ∷ []) given builds.counted last refl not (subst (λ (l : Locator). AreCounted (HasKey meaning (located_lists l) options) given builds.counted) (sym locator) builds.are);
      sums = subst (TalliesSamples builds.counted) (sym sums) builds.sums;
      listed =
          let kept = subst (λ (s : SampleSums). ListsIfSome (selected_times given) builds.counted (entries_of s) old.samples) (sym sums) builds.listed in
          let same = subst (ListsIfSome (selected_times given) builds.counted (entries_of new.sums)) (sym samples) kept in
          subst (λ (times : List (Option ℕ)). ListsIfSome times builds.counted (entries_of new.sums) new.samples) (sym (times_stay given last not)) same;
    }

  -- A sample that isn't selected changes nothing.
  pub builds_unselected : {R : Type 0} → (options : ProfileOptions) (given : List Given) (builder : ProfileBuilder R) (misc : ℕ) (s : SampleRecord) → Builds meaning options given builder → Builds meaning options (given ++ record { misc = misc; event = Sample s; weight = None } ∷ []) builder
  builds_unselected options given builder misc s builds = builds_applied options given builder builder builds (record { misc = misc; event = Sample s; weight = None }) refl refl refl refl refl ([], sym (append-nil (mapping_values builder.spaces))) (subst (λ (r : List Applied). Follows r builder.spaces) (sym (append-nil (applied_in given))) builds.follows) (subst (λ (r : List Applied). ChainsHold meaning options.detail (located_lists builder.locator) r builder.chains) (sym (append-nil (applied_in given))) builds.chains)

  once_of : (tables : Interned) → AreOnce (lists_of tables)
  once_of tables = record { names = tables.names.once; ranges = tables.mappings.once; lines = tables.lines.once; locations = tables.locations.once; stacks = tables.stacks.once }

  pub profile_of : {R : Type 0} → (options : ProfileOptions) (given : List Given) (builder : ProfileBuilder R) (profile : Profile) → Builds meaning options given builder → profile.tables ≡ builder.locator.tables → profile.sums ≡ builder.sums → profile.samples ≡ builder.samples → IsProfileOf meaning options given profile
  profile_of options given builder profile builds tables sums samples =
      let lists = located_lists builder.locator in
      let keys : (index : ℕ) (one : Counted SampleKey) → slice_get builds.counted index ≡ Some one → IsKey lists one.key = counted_keys (HasKey meaning lists options) (IsKey lists) (λ before misc s column key has. has.within) given builds.counted builds.are in
      let tallies = tallies_values lists builds.counted (entries_of builder.sums) (once_of builder.locator.tables) builder.locator.tables.within keys builds.sums.entries in
      let valued = counted_map (sample_value lists) (HasKey meaning lists options) (IsSample meaning options) (λ before misc s column key has. has.is) given builds.counted builds.are in
      let both : (record { tables = builder.locator.tables; sums = builder.sums; samples = builder.samples }) ≡ profile = sym (λ i. record { tables = tables i; sums = sums i; samples = samples i }) in
      record {
        counted = map (valued_sample lists) builds.counted;
        are = valued;
        sums = subst (λ (p : Profile). Tallies (map (valued_sample lists) builds.counted) (map (valued_entry (lists_of p.tables)) (entries_of p.sums))) both tallies;
        number = counted_number (IsSample meaning options) given (map (valued_sample lists) builds.counted) valued;
        within = subst (λ (p : Profile). (index : ℕ) (key : SampleKey) (sums : Sums) → slice_get (entries_of p.sums) index ≡ Some (key, sums) → IsKey (lists_of p.tables) key) both (λ index key sums at.
            let c = builds.sums.entries.only index key sums at in
            subst (IsKey lists) c.3 (keys c.0 c.1 c.2));
      }

  module _ {R : Type 0} (options : ProfileOptions) (given : List Given) (builder : ProfileBuilder R) (builds : Builds meaning options given builder) where
    abbrev built : Profile
    built = record { tables = builder.locator.tables; sums = builder.sums; samples = builder.samples }

    lists_samples : (samples : Option SampleList) → ListsIfSome (selected_times given) builds.counted (entries_of builder.sums) samples → IfSome samples (ListsSamples meaning options given built)
    unfolding profile_of
    lists_samples None lists = tt
    lists_samples (Some list) lists =
        let lists_there = located_lists builder.locator in
        let is = profile_of options given builder built builds refl refl refl in
        record {
          counted = map (valued_sample lists_there) builds.counted;
          are = is.are;
          listed = related_map (IsEntryOf (entries_of builder.sums)) (IsListed built) (valued_sample lists_there) (λ listed one at. record { key = one.key; sums = at.sums; entry = at.entry; value = refl; weight = at.weight }) (listed_in list) builds.counted lists.listed;
          times = lists.times;
          sums = is.sums;
        }

    pub list_of : (profile : Profile) → profile.tables ≡ builder.locator.tables → profile.sums ≡ builder.sums → profile.samples ≡ builder.samples → IfSome profile.samples (ListsSamples meaning options given profile)
    list_of profile tables sums samples =
        let both : built ≡ profile = sym (λ i. record { tables = tables i; sums = sums i; samples = samples i }) in
        subst (λ (p : Profile). IfSome p.samples (ListsSamples meaning options given p)) both (lists_samples builder.samples builds.listed)
