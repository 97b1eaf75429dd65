-- An EVENT_DESC that is parsed contains names, one with an error contains none, and the names of attributes are unique.
use Rattle.std.proofs.Common.{◌≡◌, ℕ, List, [], ◌∷◌, Option, None, Some, map, refl, sym, ap, ◌∙◌}
use Rattle.std.specs.Prelude.{All, if◌then◌else◌}
use Rattle.std.proofs.lemmas.List.Elements.{All-head, All-tail}
use Rattle.perfdata_sources.specs.Endian.{number_in}
use Rattle.perfdata_sources.specs.declared.endian.Endianness.{Endianness}
use Rattle.perfdata_sources.proofs.Numbers.{in_reads_first}
use Rattle.perfdata_sections.specs.AttributeDescription.{DescribedEvent, name_in, ids_in, events_in}
use Rattle.perfdata_sections.specs.EventDesc.{DescribesByEventDesc, IsEventDescError}
use Rattle.perfdata_sections.specs.declared.error.Error.{Error}
use Rattle.perfdata_sections.specs.declared.feature_sections.AttributeDescription.{AttributeDescription}
use Rattle.perfdata_sections.proofs.EventPrefixes.{event_desc_is_unique, event_desc_or_error}
use Rattle.linux_perf_data.specs.Names.{IsReadableEventDesc, NamedByEventDesc, NamedBy, name_by_first_id, same_first_id}

-- parsed bytes contain names
pub described_is_readable : (order : Endianness) (bytes : List ℕ) (ds : List AttributeDescription) → DescribesByEventDesc (number_in order) bytes ds → IsReadableEventDesc order bytes
described_is_readable order bytes ds is = (events_in ds, is)

-- bytes with an error contain no names
pub error_or_readable : (order : Endianness) (e : Error) (bytes : List ℕ) → IsEventDescError (number_in order) e bytes → ¬ IsReadableEventDesc order bytes
error_or_readable order e bytes none (events, is) = event_desc_or_error (number_in order) (in_reads_first order) e bytes events none is

-- the name from these events
name_of : List DescribedEvent → List ℕ → Option (List ℕ)
name_of [] ids = None
name_of (e ∷ es) ids = if same_first_id e.ids ids then e.name else name_of es ids

name_by_events : (events : List AttributeDescription) (ids : List ℕ) → name_by_first_id events ids ≡ name_of (events_in events) ids
unfolding name_of
name_by_events [] ids = refl
name_by_events (d ∷ ds) ids = ap (λ n. if same_first_id (ids_in d) ids then name_in d else n) (name_by_events ds ids)

names_by : (f : List ℕ → Option (List ℕ)) (ds : List AttributeDescription) → All (λ d. name_in d ≡ f (ids_in d)) ds → map name_in ds ≡ map f (map ids_in ds)
names_by f [] are = refl
names_by f (d ∷ ds) are =
    let P = λ (x : AttributeDescription). name_in x ≡ f (ids_in x) in
    ap (λ n. n ∷ map name_in ds) (All-head P d ds are) ∙ ap (λ l. f (ids_in d) ∷ l) (names_by f ds (All-tail P d ds are))

map_alike : (f g : List ℕ → Option (List ℕ)) → ((ids : List ℕ) → f ids ≡ g ids) → (l : List (List ℕ)) → map f l ≡ map g l
map_alike f g same [] = refl
map_alike f g same (x ∷ xs) = ap (λ n. n ∷ map f xs) (same x) ∙ ap (λ l. g x ∷ l) (map_alike f g same xs)

named_alike : (events others ds es : List AttributeDescription) → ((ids : List ℕ) → name_by_first_id events ids ≡ name_by_first_id others ids) → NamedBy events ds → NamedBy others es → map ids_in ds ≡ map ids_in es → map name_in ds ≡ map name_in es
named_alike events others ds es same x y ids =
    names_by (name_by_first_id events) ds x ∙ ap (map (name_by_first_id events)) ids ∙ map_alike (name_by_first_id events) (name_by_first_id others) same (map ids_in es) ∙ sym (names_by (name_by_first_id others) es y)

-- attributes with the same IDs have the same names from one EVENT_DESC, or none
pub names_are_unique : (order : Endianness) (desc : Option (List ℕ)) (ds es : List AttributeDescription) → NamedByEventDesc order desc ds → NamedByEventDesc order desc es → map ids_in ds ≡ map ids_in es → map name_in ds ≡ map name_in es
names_are_unique order None ds es x y ids = named_alike [] [] ds es (λ l. refl) x y ids
names_are_unique order (Some bytes) ds es (events, is, by) (others, is', by') ids =
    let same : events_in events ≡ events_in others = event_desc_is_unique (number_in order) (in_reads_first order) bytes (events_in events) (events_in others) is is' in
    named_alike events others ds es (λ l. name_by_events events l ∙ ap (λ es. name_of es l) same ∙ sym (name_by_events others l)) by by' ids
