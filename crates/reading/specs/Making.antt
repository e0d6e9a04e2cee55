-- What a whole command makes, by its kind and the numbers of its parts, and that this is what performing it puts.
use Rattle.std.specs.Prelude.{◌≡◌, ℕ, ◌+◌, ◌<◌, ◌≤◌, Bool, true, false, ◌⊎◌, List, length, ◌≢◌}
use Rattle.script.specs.declared.ExpressionKind.TheVariants as expression
use Rattle.script.specs.declared.StatementKind.{StatementKind}
use Rattle.script.specs.declared.StatementKind.TheVariants as kind
use Rattle.script.specs.declared.Command.{Command}
use Rattle.script.specs.declared.Command.TheVariants as command
use Rattle.script.specs.Tree.{Expr}
use Rattle.script.specs.Stacks.{Item, Declarator, Stacks, Performed, lacks, misplaces, puts_expr, puts_item, puts_declarator, puts_body}
use Rattle.reading.specs.declared.making.Parts.{Parts}
use Rattle.reading.specs.declared.making.Making.{Making}
use Rattle.reading.specs.declared.making.Making.TheVariants as makes
use Rattle.records.specs.Heap.{expr_label, stmt_label, decl_label}
use Rattle.records.specs.Rows.{Row, end, node}
use Rattle.records.specs.Embedding.{expr_row, item_row, declarator_row, stmts_row, expr_stack, stmt_stack, decl_stack}
use Rattle.records.specs.Flags.{one_if}
use Rattle.shapes.specs.Shape.{head_expressions, init_statements, fits_stmt, survey, decl_survey, first_declared}
use Rattle.records.specs.Turning.{front, behind}

-- so many parts of each stack
abbrev pub parts_of : ℕ → ℕ → ℕ → Parts
parts_of a b c = record { exprs = a; stmts = b; decls = c }

-- what a command makes, and of how many parts
abbrev pub made_by : Command → Making
made_by (command.Number b) = makes.Expr (expression.Number b) 0
made_by (command.Word w) = makes.Expr (expression.Word w) 0
made_by (command.Name n) = makes.Expr (expression.Name n) 0
made_by (command.Assignment n) = makes.Expr (expression.Assignment n) 1
made_by (command.Call n c) = makes.Expr (expression.Call n) c
made_by (command.Sequence c) = makes.Expr expression.Sequence c
made_by command.Conditional = makes.Expr expression.Conditional 3
made_by (command.Logical o) = makes.Expr (expression.Logical o) 2
made_by command.Not = makes.Expr expression.Not 1
made_by command.Void = makes.Expr expression.Void 1
made_by command.StrictEquality = makes.Expr expression.StrictEquality 2
made_by (command.Declarator n v) = makes.Decl n (one_if v)
made_by command.Empty = makes.Stmt kind.Empty (parts_of 0 0 0)
made_by command.Expression = makes.Stmt kind.Expression (parts_of 1 0 0)
made_by (command.Declaration k c) = makes.Stmt (kind.Declaration k) (parts_of 0 0 c)
made_by (command.Return v) = makes.Stmt kind.Return (parts_of (one_if v) 0 0)
made_by command.Throw = makes.Stmt kind.Throw (parts_of 1 0 0)
made_by (command.If a) = makes.Stmt kind.If (parts_of 1 (1 + one_if a) 0)
made_by (command.Block c) = makes.Stmt kind.Block (parts_of 0 c 0)
made_by command.While = makes.Stmt kind.While (parts_of 1 1 0)
made_by command.DoWhile = makes.Stmt kind.DoWhile (parts_of 1 1 0)
made_by (command.For h) = makes.Stmt (kind.For h) (parts_of (head_expressions h) (1 + init_statements h.init) 0)
made_by command.Break = makes.Stmt kind.Break (parts_of 0 0 0)
made_by command.Continue = makes.Stmt kind.Continue (parts_of 0 0 0)
made_by (command.Case t c) = makes.Stmt kind.Case (parts_of (one_if t) c 0)
made_by (command.Switch c) = makes.Stmt kind.Switch (parts_of 1 c 0)
made_by (command.Body c) = makes.Body c

-- counts that the operands allow
abbrev pub Listed : Command → Type 0
Listed (command.Number b) = Unit {0}
Listed (command.Word w) = Unit {0}
Listed (command.Name n) = Unit {0}
Listed (command.Assignment n) = Unit {0}
Listed (command.Call n c) = Unit {0}
Listed (command.Sequence c) = 2 ≤ c
Listed command.Conditional = Unit {0}
Listed (command.Logical o) = Unit {0}
Listed command.Not = Unit {0}
Listed command.Void = Unit {0}
Listed command.StrictEquality = Unit {0}
Listed (command.Declarator n v) = Unit {0}
Listed command.Empty = Unit {0}
Listed command.Expression = Unit {0}
Listed (command.Declaration k c) = 1 ≤ c
Listed (command.Return v) = Unit {0}
Listed command.Throw = Unit {0}
Listed (command.If a) = Unit {0}
Listed (command.Block c) = Unit {0}
Listed command.While = Unit {0}
Listed command.DoWhile = Unit {0}
Listed (command.For h) = Unit {0}
Listed command.Break = Unit {0}
Listed command.Continue = Unit {0}
Listed (command.Case t c) = Unit {0}
Listed (command.Switch c) = Unit {0}
Listed (command.Body c) = Unit {0}

-- a stack after n of its items were taken
pub record LessExprs (n : ℕ) (before after : List Expr) : Type 0 where
  pub rows : expr_stack after ≡ behind n (expr_stack before)
  pub count : length after + n ≡ length before

pub record LessStmts (n : ℕ) (before after : List Item) : Type 0 where
  pub rows : stmt_stack after ≡ behind n (stmt_stack before)
  pub count : length after + n ≡ length before

pub record LessDecls (n : ℕ) (before after : List Declarator) : Type 0 where
  pub rows : decl_stack after ≡ behind n (decl_stack before)
  pub count : length after + n ≡ length before

-- the stacks have as many items as are taken
pub record Enough (s : Stacks) (n : Parts) : Type 0 where
  pub exprs : n.exprs ≤ length s.exprs
  pub stmts : n.stmts ≤ length s.stmts
  pub decls : n.decls ≤ length s.decls

abbrev pub Wanting : Stacks → Parts → Type 0
Wanting s n = (length s.exprs < n.exprs) ⊎ (length s.stmts < n.stmts) ⊎ (length s.decls < n.decls)

pub record Left (s : Stacks) (n : Parts) (s' : Stacks) : Type 0 where
  pub exprs : LessExprs n.exprs s.exprs s'.exprs
  pub stmts : LessStmts n.stmts s.stmts s'.stmts
  pub decls : LessDecls n.decls s.decls s'.decls

-- the parts of a statement that is made fit its kind
abbrev pub fitting : StatementKind → Parts → Stacks → Bool
fitting k n s =
    fits_stmt k n.exprs (survey (front n.stmts (stmt_stack s.stmts) end)) (decl_survey (front n.decls (decl_stack s.decls) end))
    (first_declared (front n.stmts (stmt_stack s.stmts) end))

-- what performing a command puts is what it makes
abbrev pub Matches : Making → Stacks → Performed → Type 0
Matches (makes.Expr k n) s lacks = length s.exprs < n
Matches (makes.Expr k n) s misplaces = ⊥
Matches (makes.Expr k n) s (puts_expr e s') =
    Enough s (parts_of n 0 0) × Left s (parts_of n 0 0) s' × ((w : Row) → expr_row e w ≡ node (expr_label k) (front n (expr_stack s.exprs) end) end end w)
Matches (makes.Expr k n) s (puts_item i s') = ⊥
Matches (makes.Expr k n) s (puts_declarator d s') = ⊥
Matches (makes.Expr k n) s (puts_body ss s') = ⊥
Matches (makes.Decl x n) s lacks = length s.exprs < n
Matches (makes.Decl x n) s misplaces = ⊥
Matches (makes.Decl x n) s (puts_expr e s') = ⊥
Matches (makes.Decl x n) s (puts_item i s') = ⊥
Matches (makes.Decl x n) s (puts_declarator d s') =
    Enough s (parts_of n 0 0) × Left s (parts_of n 0 0) s' × ((w : Row) → declarator_row d w ≡ node (decl_label x) (front n (expr_stack s.exprs) end) end end w)
Matches (makes.Decl x n) s (puts_body ss s') = ⊥
Matches (makes.Stmt k n) s lacks = Wanting s n
Matches (makes.Stmt k n) s misplaces = Enough s n × (fitting k n s ≡ false)
Matches (makes.Stmt k n) s (puts_expr e s') = ⊥
Matches (makes.Stmt k n) s (puts_item i s') =
    Enough s n × (fitting k n s ≡ true) × Left s n s'
    × ((w : Row) → item_row i w ≡ node (stmt_label k) (front n.exprs (expr_stack s.exprs) end) (front n.stmts (stmt_stack s.stmts) end)
    (front n.decls (decl_stack s.decls) end) w)
Matches (makes.Stmt k n) s (puts_declarator d s') = ⊥
Matches (makes.Stmt k n) s (puts_body ss s') = ⊥
Matches (makes.Body n) s lacks = length s.stmts < n
Matches (makes.Body n) s misplaces = Enough s (parts_of 0 n 0) × ((survey (front n (stmt_stack s.stmts) end)).cases ≢ 0)
Matches (makes.Body n) s (puts_expr e s') = ⊥
Matches (makes.Body n) s (puts_item i s') = ⊥
Matches (makes.Body n) s (puts_declarator d s') = ⊥
Matches (makes.Body n) s (puts_body ss s') =
    Enough s (parts_of 0 n 0) × Left s (parts_of 0 n 0) s' × ((survey (front n (stmt_stack s.stmts) end)).cases ≡ 0)
    × (stmts_row ss ≡ front n (stmt_stack s.stmts) end)
