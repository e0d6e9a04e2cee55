use Rattle.std.proofs.Common.{◌≡◌, ap, arith, ◌∙◌, map}
use Rattle.std.specs.Prelude.{reverse}
use Rattle.std.proofs.lemmas.List.{map-append, length-map, length-reverse, reverse-reverse}
use Rattle.std.proofs.lemmas.Iterator.Adapters.{YieldsList-from_rev_slice}
use Rattle.std.proofs.lemmas.Iterator.Consumers.{YieldsList-turn, YieldsList-end}
use Rattle.unreachable.proofs.BareNames.{one_bare}
use Rattle.unreachable.proofs.keeping.bare_row.Goals as goal

pub loop-name-preserved : goal.loop-name-preserved
loop-name-preserved c =
    let t = YieldsList-turn (YieldsList-from_rev_slice c.args.noted.now.names.items cc) c.loop-name.yielded _ c.loop-name.yielded_by _ _ c.in-Some.name
    c.in-Some.is c.next.ensures.steps in
    rw (map-append (λ b. b.now) c.loop-name.yielded)
    (one_bare c.args.decls.now c.loop-name.decls c.push_bare_declarator-row.new.decls c.args.pools.now c.loop-name.pools
    c.push_bare_declarator-row.new.pools c.args.noted.now c.loop-name.row c.push_bare_declarator-row.result c.in-Some.name.now
    (map (λ b. b.now) c.loop-name.yielded)
    (let m = length-map c.loop-name.yielded (λ b. b.now) in let r = length-reverse c.args.noted.now.names.items in omega (arith, t.0))
    c.push_bare_declarator-row.auto.decls c.loop-name.invariant c.push_bare_declarator-row.ensures)

pub returns : goal.returns
returns c es ss l q s loose rest o =
    let t = YieldsList-end (YieldsList-from_rev_slice c.args.noted.now.names.items cc) c.loop-name.yielded _ c.loop-name.yielded_by _ _ c.in-None.is
    c.next.ensures.steps in
    let m = (c.loop-name.invariant es ss l q s loose rest o).moved in
    let e : reverse (map (λ b. b.now) c.loop-name.yielded) ≡ l = ap reverse t.0 ∙ reverse-reverse c.args.noted.now.names.items ∙ q.names in
    rw e at m
