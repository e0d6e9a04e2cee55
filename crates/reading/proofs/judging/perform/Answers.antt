use Rattle.script.specs.Stacks.{perform}
use Rattle.reading.proofs.Matching.{making_matches}
use Rattle.reading.proofs.Performed.{expr_judged, declarator_judged}
use Rattle.reading.proofs.PerformedStmts.{stmt_judged, body_judged}
use Rattle.reading.proofs.Rooms.{exprs_room, stmts_room, decls_room, no_body_yet}
use Rattle.reading.proofs.judging.perform.Goals as goal

pub put_expr-requires : goal.put_expr-requires
put_expr-requires c = exprs_room _ c.args.draft.now c.requires.held.0 c.requires.limited c.requires.held.1

pub put_declarator-requires : goal.put_declarator-requires
put_declarator-requires c = decls_room _ c.args.draft.now c.requires.held.0 c.requires.limited c.requires.held.1

pub put_stmt-requires : goal.put_stmt-requires
put_stmt-requires c = stmts_room _ c.args.draft.now c.requires.held.0 c.requires.limited c.requires.held.1

pub returns-in-Expr : goal.returns-in-Expr
returns-in-Expr c m holds reads listed =
    let d = c.args.draft.now in
    let q = making_matches c.args.command m.stacks _ c.in-Expr.ensures listed in
    expr_judged c.args.exprs.now c.args.stmts.now c.args.decls.now d m holds (no_body_yet d.stage m.stage reads.0 reads.1)
    c.in-Expr.kind c.in-Expr.parts (perform c.args.command m.stacks)
    c.put_expr.result c.put_expr.new.draft c.put_expr.new.exprs q c.put_expr.ensures

pub returns-in-Decl : goal.returns-in-Decl
returns-in-Decl c m holds reads listed =
    let d = c.args.draft.now in
    let q = making_matches c.args.command m.stacks _ c.in-Decl.ensures listed in
    declarator_judged c.args.exprs.now c.args.stmts.now c.args.decls.now d m holds (no_body_yet d.stage m.stage reads.0 reads.1)
    c.in-Decl.name c.in-Decl.parts (perform c.args.command m.stacks)
    c.put_declarator.result c.put_declarator.new.draft c.put_declarator.new.exprs c.put_declarator.new.decls q c.put_declarator.ensures

pub returns-in-Stmt : goal.returns-in-Stmt
returns-in-Stmt c m holds reads listed =
    let d = c.args.draft.now in
    let q = making_matches c.args.command m.stacks _ c.in-Stmt.ensures listed in
    stmt_judged c.args.exprs.now c.args.stmts.now c.args.decls.now d m holds (no_body_yet d.stage m.stage reads.0 reads.1)
    c.in-Stmt.kind c.in-Stmt.parts (perform c.args.command m.stacks)
    c.put_stmt.result c.put_stmt.new.draft c.put_stmt.new.exprs c.put_stmt.new.stmts c.put_stmt.new.decls q c.put_stmt.ensures

pub returns-in-Body : goal.returns-in-Body
returns-in-Body c m holds reads listed =
    let d = c.args.draft.now in
    let q = making_matches c.args.command m.stacks _ c.in-Body.ensures listed in
    body_judged c.args.exprs.now c.args.stmts.now c.args.decls.now d m holds (no_body_yet d.stage m.stage reads.0 reads.1)
    c.in-Body.count (perform c.args.command m.stacks)
    c.put_body.result c.put_body.new.draft c.put_body.new.stmts q c.put_body.ensures
