-- The map from each key to its last entry, built entry by entry.
use Rattle.std.proofs.Common.{◌≡◌, ℕ, ◌%◌, ◌++◌, true, false, Bool, List, [], ◌∷◌, refl, sym, ap, ◌∙◌, subst, None, Some, append-nil}
use Rattle.std.specs.Prelude.{Option, cond, filter_map}
use Rattle.std.specs.HashMap.{HashMap, UpdatesBy}
use Rattle.std.specs.Map.{lookup, update, update_all, KeepsOthers, IsKeyTest, AreApart}
use Rattle.std.specs.Option.{option_map}
use Rattle.std.specs.Str.{bytes_eq}
use Rattle.std.proofs.lemmas.Bool.{false≢true, false_from_ne_true, and_parts}
use Rattle.std.proofs.lemmas.List.Elements.{filter_map-append}
use Rattle.std.proofs.lemmas.List.Sums.{fold_push}
use Rattle.std.proofs.lemmas.Slice.Eq.{bytes_eq-Decides}
use Rattle.perfdata_sources.specs.CpuMode.{cpu_mode_of}
use Rattle.perfdata_sources.specs.declared.event.cpu_mode.CpuMode.{CpuMode}
use Rattle.perfdata_records.specs.BuildIdEvent.{BuildIdEntry}
use Rattle.perfdata_records.specs.DsoKey.{Key, kernel, guest_kernel, vdso_32, vdso_x32, vdso_64, vsyscall, kernel_module, user, key_in, key_of, keys_equal}
use Rattle.perfdata_records.specs.declared.dso_info.DsoInfo.{DsoInfo}
use Rattle.perfdata_records.specs.declared.dso_key.DsoKey.{DsoKey}
use Rattle.perfdata_records.specs.declared.dso_key.DsoKey.TheVariants as dso
use Rattle.perfdata_records.specs.contracts.dso_key.DsoKeyPartialEq.TheImpl.{ghosts}
use Rattle.linux_perf_data.specs.BuildIds.{PathAndId, path_and_id_of, keyed_entry, last_info, map_info_at, MapsLastEntries}

-- ---- keys

same_text : (xs : List ℕ) → bytes_eq xs xs ≡ true
same_text xs = (bytes_eq-Decides xs xs).1 refl

same_self : (a : Key) → keys_equal a a ≡ true
same_self kernel = refl
same_self guest_kernel = refl
same_self vdso_32 = refl
same_self vdso_x32 = refl
same_self vdso_64 = refl
same_self vsyscall = refl
same_self (kernel_module name) = same_text name
same_self (user file path) = rw (same_text file) (same_text path)

same_is : (a b : Key) → keys_equal a b ≡ true → a ≡ b
same_is kernel kernel is = refl
same_is guest_kernel guest_kernel is = refl
same_is vdso_32 vdso_32 is = refl
same_is vdso_x32 vdso_x32 is = refl
same_is vdso_64 vdso_64 is = refl
same_is vsyscall vsyscall is = refl
same_is (kernel_module name) (kernel_module other) is = ap kernel_module ((bytes_eq-Decides name other).0 is)
same_is (user file path) (user other other_path) is =
    let parts = and_parts (bytes_eq file other) (bytes_eq path other_path) is in
    ap (λ f. user f path) ((bytes_eq-Decides file other).0 parts.0) ∙ ap (user other) ((bytes_eq-Decides path other_path).0 parts.1)
same_is _ _ is = absurd (false≢true is)

same_turned : (a b : Key) → keys_equal a b ≡ true → keys_equal b a ≡ true
same_turned a b is = subst (λ k. keys_equal k a ≡ true) (same_is a b is) (same_self a)

-- `==` compares keys by their text
pub eq_is : (x y : DsoKey) → ghosts.eq x y ≡ keys_equal (key_in x) (key_in y)
eq_is dso.Kernel dso.Kernel = refl
eq_is dso.GuestKernel dso.GuestKernel = refl
eq_is dso.Vdso32 dso.Vdso32 = refl
eq_is dso.VdsoX32 dso.VdsoX32 = refl
eq_is dso.Vdso64 dso.Vdso64 = refl
eq_is dso.Vsyscall dso.Vsyscall = refl
eq_is (dso.KernelModule name) (dso.KernelModule other) = refl
eq_is (dso.User file path) (dso.User other other_path) = refl
eq_is _ _ = refl

-- ---- the entries

pub key_found : (e : BuildIdEntry) (mode : CpuMode) (key : DsoKey) → mode ≡ cpu_mode_of (e.header.misc % 8) → Some (key_in key) ≡ key_of e.path mode → keyed_entry e ≡ Some (key_in key, (e.path, e.build_id))
key_found e mode key by found = ap (option_map (λ k. (k, (e.path, e.build_id)))) (sym (found ∙ ap (key_of e.path) by))

pub key_missed : (e : BuildIdEntry) (mode : CpuMode) → mode ≡ cpu_mode_of (e.header.misc % 8) → None ≡ key_of e.path mode → keyed_entry e ≡ None
key_missed e mode by missed = ap (option_map (λ k. (k, (e.path, e.build_id)))) (sym (missed ∙ ap (key_of e.path) by))

one_more : (es : List BuildIdEntry) (e : BuildIdEntry) (p : Key × PathAndId) → keyed_entry e ≡ Some p → filter_map keyed_entry (es ++ e ∷ []) ≡ filter_map keyed_entry es ++ p ∷ []
one_more es e p is = filter_map-append keyed_entry es (e ∷ []) ∙ ap (λ l. filter_map keyed_entry es ++ l) (rw is refl)

none_more : (es : List BuildIdEntry) (e : BuildIdEntry) → keyed_entry e ≡ None → filter_map keyed_entry (es ++ e ∷ []) ≡ filter_map keyed_entry es
none_more es e is = filter_map-append keyed_entry es (e ∷ []) ∙ ap (λ l. filter_map keyed_entry es ++ l) (rw is refl) ∙ append-nil (filter_map keyed_entry es)

last_more : (es : List BuildIdEntry) (e : BuildIdEntry) (p : Key × PathAndId) (k : Key) → keyed_entry e ≡ Some p → last_info (es ++ e ∷ []) k ≡ cond (keys_equal p.0 k) (Some p.1) (last_info es k)
last_more es e p k is =
    ap (λ l. update_all keys_equal (λ _. None) l k) (one_more es e p is)
    ∙ ap (λ f. f k) (fold_push (λ g q. update keys_equal g q.0 (Some q.1)) (λ _. None) (filter_map keyed_entry es) p)

-- an entry without a key leaves the map unchanged
pub last_skipped : {S : Type 0} (m : HashMap DsoKey DsoInfo S) (es : List BuildIdEntry) (e : BuildIdEntry) → keyed_entry e ≡ None → MapsLastEntries m es → MapsLastEntries m (es ++ e ∷ [])
last_skipped m es e is before k = before k ∙ sym (ap (λ l. update_all keys_equal (λ _. None) l k) (none_more es e is))

-- ---- the map

module _ {S : Type 0} (eq : DsoKey → DsoKey → Bool) (eq_is : (x y : DsoKey) → eq x y ≡ keys_equal (key_in x) (key_in y)) (old new : HashMap DsoKey DsoInfo S) (key : DsoKey) (info : DsoInfo)
    (updates : UpdatesBy eq (eq key) old new (Some info)) where
  abbrev at : Key → DsoKey → Bool
  at k q = keys_equal k (key_in q)

  key_test : (k : Key) → IsKeyTest eq (at k)
  key_test k = λ x y here.
      let is : k ≡ key_in x = same_is k (key_in x) here in
      ap (λ a. keys_equal a (key_in y)) is ∙ sym (eq_is x y)

  apart : (k : Key) → keys_equal k (key_in key) ≡ false → AreApart (eq key) (at k)
  apart k other = λ q here.
      let is : key_in key ≡ key_in q = same_is (key_in key) (key_in q) (sym (eq_is key q) ∙ here) in
      ap (keys_equal k) (sym is) ∙ other

  -- the value of the key, and the values of other keys
  value_there : (k : Key) → keys_equal k (key_in key) ≡ true → map_info_at new k ≡ Some (path_and_id_of info)
  value_there k here =
      ap (option_map path_and_id_of) (ap (λ f. lookup f new.entries) (λ i q. key_test k key q here i) ∙ updates.1)

  value_elsewhere : (k : Key) → keys_equal k (key_in key) ≡ false → map_info_at new k ≡ map_info_at old k
  unfolding KeepsOthers
  value_elsewhere k other = ap (option_map path_and_id_of) (updates.3 (at k) (key_test k) (apart k other))

  next : (k : Key) (b : Bool) → keys_equal k (key_in key) ≡ b → (last : Option PathAndId) → map_info_at old k ≡ last → map_info_at new k ≡ cond (keys_equal (key_in key) k) (Some (path_and_id_of info)) last
  next k true here last before = value_there k here ∙ ap (λ b. cond b (Some (path_and_id_of info)) last) (sym (same_turned k (key_in key) here))
  next k false other last before =
      value_elsewhere k other ∙ before ∙ ap (λ b. cond b (Some (path_and_id_of info)) last) (sym (false_from_ne_true (keys_equal (key_in key) k) (λ here. false≢true (sym other ∙ same_turned (key_in key) k here))))

  -- the last entry with the key
  pub last_kept : (es : List BuildIdEntry) (e : BuildIdEntry) → keyed_entry e ≡ Some (key_in key, path_and_id_of info) → MapsLastEntries old es → MapsLastEntries new (es ++ e ∷ [])
  last_kept es e is before k = next k (keys_equal k (key_in key)) refl (last_info es k) (before k) ∙ sym (last_more es e (key_in key, path_and_id_of info) k is)
