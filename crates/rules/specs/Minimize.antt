-- The work on one list.
use Rattle.std.specs.Prelude.{ℕ, zero, suc}
use Rattle.script.specs.Tree.{Stmts, Stmt, empty, expression, declaration, return_of, throw, if_then, block, while, stmt_then, do_while, for}
use Rattle.script.specs.Tree.{switch, break, continue, no_stmts}
use Rattle.rules.specs.Statements.{handle_block, push_all}
use Rattle.rules.specs.Merging.{handle_expression_statement}
use Rattle.rules.specs.Returns.{handle_return_statement}
use Rattle.rules.specs.Declarations.{handle_variable_declaration}
use Rattle.rules.specs.For.{handle_for_statement}
use Rattle.rules.specs.Throws.{handle_throw_statement}
use Rattle.rules.specs.Switches.{handle_switch_statement}
use Rattle.rules.specs.Jumps.{in_source_order, drop_last_jump}
use Rattle.rules.specs.Unreachable.{then_rest}
use Rattle.rules.specs.Folding.{Context, handle_if_statement}

-- one statement; then the others

abbrev pub minimize_statement : Context → (Stmts → Stmts → Stmts) → (Stmts → Stmts) → Stmt → Stmts → Stmts → Stmts
minimize_statement s again more empty rest r = then_rest more rest r
minimize_statement s again more (expression e) rest r = then_rest more rest (handle_expression_statement s.sequences e r)
minimize_statement s again more (declaration k ds) rest r = then_rest more rest (handle_variable_declaration s.join_vars k ds r)
minimize_statement s again more (return_of p) rest r =
    then_rest more rest (handle_return_statement s.sequences s.host s.holder p r)
minimize_statement s again more (throw e) rest r = then_rest more rest (handle_throw_statement s.sequences e r)
minimize_statement s again more (if_then t c a) rest r = handle_if_statement s again more t c a rest r
minimize_statement s again more (block ss) rest r = then_rest more rest (handle_block ss r)
minimize_statement s again more (while t b) rest r = then_rest more rest (stmt_then (while t b) r)
minimize_statement s again more (do_while b t) rest r = then_rest more rest (stmt_then (do_while b t) r)
minimize_statement s again more (for i t u b) rest r = then_rest more rest (handle_for_statement s.sequences i t u b r)
minimize_statement s again more (switch d cs) rest r = then_rest more rest (handle_switch_statement s.sequences d cs r)
minimize_statement s again more break rest r = then_rest more rest (stmt_then break r)
minimize_statement s again more continue rest r = then_rest more rest (stmt_then continue r)

abbrev pub minimize_onto_with : Context → (Stmts → Stmts → Stmts) → Stmts → Stmts → Stmts
minimize_onto_with s again no_stmts r = r
minimize_onto_with s again (stmt_then x rest) r = minimize_statement s again (λ r₁. minimize_onto_with s again rest r₁) x rest r

-- an `if` that takes in the statements behind it, or gives up its alternate, goes one level deeper
abbrev pub minimize_onto : ℕ → Context → Stmts → Stmts → Stmts
minimize_onto zero s todo r = minimize_onto_with s push_all todo r
minimize_onto (suc n) s todo r = minimize_onto_with s (λ todo₁ r₁. minimize_onto n s todo₁ r₁) todo r

abbrev pub minimize_statements : ℕ → Context → Stmts → Stmts
minimize_statements n s ss = in_source_order (drop_last_jump s.holder (minimize_onto n s ss no_stmts)) no_stmts
