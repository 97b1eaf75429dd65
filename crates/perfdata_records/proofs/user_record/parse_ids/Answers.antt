use Rattle.std.proofs.Common.{rules, length, length-drop, ap, ◌∙◌, ◌++◌, ◌∷◌, [], arith}
use Rattle.perfdata_sources.specs.Raw.{bytes_of}
use Rattle.perfdata_records.proofs.Ids.{ids_more}
use Rattle.perfdata_records.proofs.user_record.parse_ids.Goals as goal

pub ids-preserved : goal.ids-preserved
ids-preserved g c =
    let invariant = c.ids.invariant in
    let dropped = c.in_ok-id.ensures.rest in (
      ids_more g.T.ByteOrder.number_of (bytes_of c.args.bytes) c.ids.ids.items (bytes_of c.ids.rest) c.push.new.self.items (bytes_of c.read_u64.new.self) invariant.0 dropped.enough
          (c.in_ok-push.ensures.items ∙ ap (λ n. c.ids.ids.items ++ n ∷ []) c.in_ok-id.ensures.value) dropped.rest,
      invariant.1,
      omega (arith, invariant.2, ap length dropped.rest, length-drop 8 (bytes_of c.ids.rest)),
    )

pub ids-init : goal.ids-init
ids-init g c = search rules
