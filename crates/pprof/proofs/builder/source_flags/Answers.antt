use Rattle.std.proofs.Common.{◌≡◌, ◌∙◌, ◌∷◌, [], List, ap, length, map, rules, subst, sym}
use Rattle.std.proofs.lemmas.List.{length-replicate, map-append}
use Rattle.std.proofs.lemmas.Map.Iter.{iter_end}
use Rattle.std.specs.Map.Iter.{deref}
use Rattle.pprof.specs.Builders.{place_of}
use Rattle.pprof.specs.Tables.{Place}
use Rattle.pprof.specs.declared.builder.SourceFlags.{SourceFlags}
use Rattle.pprof.specs.steps.Flags.{AreFlags, no_flags}
use Rattle.pprof.proofs.Flagging.{no_places}
use Rattle.pprof.proofs.Numbering.{map_twice}
use Rattle.pprof.proofs.builder.source_flags.Goals as goal

pub places-init : goal.places-init
places-init c =
    let count = c.args.mapping_count in
    let items = c.in_ok-flags.ensures.items_if_clones_equal (λ y is. is) in
    (ap (λ (flags : List SourceFlags). length flags) items ∙ length-replicate count no_flags, no_places c.args.functions.now.keys count c.in_ok-flags.flags.items items)

pub places-preserved : goal.places-preserved
places-preserved c =
    let before = map (λ p. place_of (deref p)) c.places.yielded in
    let more = c.add_place.ensures.are before c.places.invariant.1 in (
      c.add_place.ensures.count ∙ c.places.invariant.0,
      subst (λ (places : List Place). AreFlags c.args.functions.now.keys places c.add_place.new.flags.items) (sym (map-append (λ p. place_of (deref p)) c.places.yielded (c.in-Some.place ∷ []))) more,
    )

pub returns-clause-are : goal.returns-clause-are
returns-clause-are c =
    let all : map deref c.places.yielded ≡ c.args.places.now.keys = search (rules, iter_end) in
    subst (λ (places : List Place). AreFlags c.args.functions.now.keys places c.places.flags.items) (map_twice deref place_of c.places.yielded ∙ ap (map place_of) all) c.places.invariant.1
