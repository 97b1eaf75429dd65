use Rattle.std.proofs.Common.{◌≡◌, ◌∙◌, ◌+◌, [], ◌∷◌, ◌++◌, List, map, length, ap, arith, rules}
use Rattle.std.proofs.lemmas.List.{length-map, map-append}
use Rattle.std.proofs.lemmas.Map.Iter.{iter_end}
use Rattle.std.specs.Map.Iter.{deref}
use Rattle.pprof.specs.Builders.{place_of}
use Rattle.pprof.specs.Messages.{LocationValue, location_value}
use Rattle.pprof.specs.Rows.{numbered}
use Rattle.pprof.specs.Tables.{known_line, location_row}
use Rattle.pprof.specs.declared.profile.Line.{Line}
use Rattle.pprof.specs.declared.profile.Location.{Location}
use Rattle.pprof.proofs.Numbering.{map_twice, rows_more}
use Rattle.pprof.proofs.builder.take_locations.Goals as goal

pub rows-preserved : goal.rows-preserved
rows-preserved c =
    let row = location_row c.args.mapping_count c.args.function_count in
    let place = c.in-Some.place.now in
    let old = map location_value c.rows.locations.items in
    let size = length-map c.rows.locations.items location_value in
    let counted : c.len.result ≡ length old = omega (arith, size) in
    let lines = c.in_ok-lines.ensures ∙ ap (λ (ls : List Line). map (known_line c.args.function_count) ls) c.as_slice.ensures.value in
    let pushed : Location = record { id = c.len.result + 1; mapping_id = c.known.result; address = place.address; lines = c.in_ok-lines.lines } in
    let value : location_value pushed ≡ row (c.len.result + 1) (place_of place) = λ i. record { id = c.len.result + 1; mapping_id = c.known.ensures i; address = place.address; lines = lines i } in
    let longer = ap (map location_value) c.in_ok-push.ensures.items ∙ map-append location_value c.rows.locations.items (pushed ∷ []) ∙ ap (λ (v : LocationValue). old ++ v ∷ []) value in
    rows_more row (λ p. place_of (deref p)) c.rows.yielded c.in-Some.place old (map location_value c.push.new.self.items) c.len.result c.rows.invariant counted longer

pub returns : goal.returns
returns c =
    let row = location_row c.args.mapping_count c.args.function_count in
    let all : map deref c.rows.yielded ≡ c.args.places.now.keys = search (rules, iter_end) in
    c.rows.invariant ∙ ap (λ places. numbered row 1 places) (map_twice deref place_of c.rows.yielded ∙ ap (map place_of) all)
