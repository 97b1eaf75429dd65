use Rattle.std.proofs.Common.{◌≡◌, ◌+◌, subst, sym, refl}
use Rattle.std.proofs.lemmas.Bool.{false≢true}
use Rattle.perfdata_simpleperf.specs.MetaInfo.{Pair}
use Rattle.perfdata_arrays.specs.MetaPairs.{offset_after}
use Rattle.perfdata_arrays.proofs.MetaPairsLemmas.{PairsWritten, pairs_invalid, pairs_more, pairs_none}
use Rattle.perfdata_arrays.proofs.meta_info.meta_info.Goals as goal

pub pairs-init : goal.pairs-init
pairs-init c = pairs_none c.args.section.now c.args.entries.now

pub returns-then-not-is_utf8_pair : goal.returns-then-not-is_utf8_pair
returns-then-not-is_utf8_pair c =
    let test = c.if-not-is_utf8_pair.ensures in
    pairs_invalid c.args.section.now c.pairs.offset c.pairs.count c.args.entries.now c.pairs.entries (c.in-Some.key.now, c.in-Some.value.now) c.pairs.invariant c.in-Some.ensures (λ text. false≢true (test.1 text))

pub pairs-preserved : goal.pairs-preserved
pairs-preserved c =
    let section = c.args.section.now in
    let old = c.args.entries.now in
    let p : Pair = (c.in-Some.key.now, c.in-Some.value.now) in
    let test = c.if-not-is_utf8_pair.ensures in
    let entry = c.pair_entry-entry.result in
    let next : entry.value_offset + entry.value_size + 1 ≡ offset_after c.pairs.offset p = λ i. (c.pair_entry-entry.ensures i).value_offset + (c.pair_entry-entry.ensures i).value_size + 1 in
    subst (λ n. PairsWritten section n (c.pairs.count + 1) old c.copy_entries.new.array) (sym next)
    (pairs_more section c.pairs.offset c.pairs.count old c.pairs.entries c.copy_entries.new.array p entry c.pairs.invariant c.in-Some.ensures (test.0 refl) c.pair_entry-entry.ensures c.copy_entries.ensures)
