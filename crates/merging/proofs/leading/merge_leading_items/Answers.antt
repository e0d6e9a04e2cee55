use Rattle.std.proofs.Common.{arith}
use Rattle.merging.proofs.LeadingItems.{all_merged, step_goes, step_stays}
use Rattle.merging.proofs.leading.merge_leading_items.Goals as goal

pub loop-preserved : goal.loop-preserved
loop-preserved c =
    step_goes c.args.exprs.now c.args.decls.now c.args.pools.now c.loop.exprs c.loop.decls c.loop.pools c.args.discarded
    c.args.kind c.args.names c.args.items c.loop.left c.loop.counter c.loop.invariant c.merge_leading_item.new.exprs
    c.merge_leading_item.new.decls c.merge_leading_item.new.pools c.in-Some.behind c.in-Some.ensures

pub returns-in_default : goal.returns-in_default
returns-in_default c =
    step_stays c.args.exprs.now c.args.decls.now c.args.pools.now c.loop.exprs c.loop.decls c.loop.pools c.args.discarded
    c.args.kind c.args.names c.args.items c.loop.left c.loop.counter c.loop.invariant c.merge_leading_item.new.exprs
    c.merge_leading_item.new.decls c.merge_leading_item.new.pools c.in_default.ensures

pub returns : goal.returns
returns c ss xs ds loose rest o =
    all_merged c.args.exprs.now c.args.decls.now c.args.pools.now c.loop.exprs c.loop.decls c.loop.pools c.args.discarded
    c.args.kind c.args.names c.args.items c.loop.left c.loop.counter c.loop.invariant ss xs ds loose rest (omega arith) o
