use Rattle.std.proofs.Common.{set, sym, ap, ◌∙◌}
use Rattle.std.proofs.lemmas.List.{get_or-map}
use Rattle.pool.proofs.Chains.{set_modify}
use Rattle.records.proofs.turning.relink.Goals as goal

pub returns : goal.returns
returns g c =
    let link = g.R.Linked.link in
    let relinked = g.R.Linked.relinked in
    let t = c.args.table.now in
    let at = c.args.at in
    let row = c.args.row in
    let h = c.if-at-table.false in
    let d = c.index-table-at-2.result in
    let d' = c.index-table-at.result in
    (h, ap (set t at) c.set_next.ensures ∙ set_modify (λ x. relinked x row) at t d h, c.next-next.ensures ∙ sym (get_or-map link t at d' 0 h))
