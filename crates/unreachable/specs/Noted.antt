-- Names that are noted, each once: flags by name, and the names in their order.
use Rattle.std.specs.Prelude.{◌≡◌, ℕ, suc, ◌+◌, ◌<◌, ◌≤◌, false, cond, List, [], ◌∷◌, ◌++◌, length, slice_index_or}
use Rattle.pool.specs.Chain.{occurrences}
use Rattle.script.specs.declared.DeclarationKind.{DeclarationKind}
use Rattle.script.specs.declared.DeclarationKind.TheVariants.{Const, Let, Var}
use Rattle.script.specs.declared.StatementKind.{StatementKind}
use Rattle.script.specs.declared.StatementKind.TheVariants as statement
use Rattle.records.specs.Heap.{Label, decl_label, expr_label, stmt_label}
use Rattle.records.specs.Rows.{Row, end, node, row_length}
use Rattle.run.specs.Environment.{among}
use Rattle.rules.specs.Unreachable.{note_hoisted_names}
use Rattle.unreachable.specs.declared.noting.NotedNames.{NotedNames}

-- one name more, if it is new
abbrev pub noted_with : ℕ → List ℕ → List ℕ
noted_with n l = cond (among n l) l (l ++ (n ∷ []))

-- these names are noted
pub record Notes (noted : NotedNames) (l : List ℕ) : Type 0 where
  pub flags : length noted.seen ≡ 256
  pub seen : (n : ℕ) → n < 256 → slice_index_or noted.seen n false ≡ among n l
  pub names : noted.names.items ≡ l
  pub bytes : (k : ℕ) → 256 ≤ k → occurrences k l ≡ 0
  pub once : (k : ℕ) → occurrences k l ≤ 1

-- these names were noted, one after the other
abbrev pub Noting : NotedNames → NotedNames → List ℕ → Type 0
Noting before after ns = (l : List ℕ) → Notes before l → Notes after (note_hoisted_names ns l)

-- the name that a label tells
abbrev pub label_name : Label → ℕ
label_name (expr_label k) = 0
label_name (stmt_label k) = 0
label_name (decl_label n) = n

-- the names of a row of declarators
abbrev pub names_of_row : Row → List ℕ
names_of_row end = []
names_of_row (node l x y z w) = label_name l ∷ names_of_row w

-- the names that a statement declares by `var` itself
abbrev pub vars_by : DeclarationKind → Row → List ℕ
vars_by Var z = names_of_row z
vars_by Let z = []
vars_by Const z = []

abbrev pub vars_of_kind : StatementKind → Row → List ℕ
vars_of_kind statement.Empty z = []
vars_of_kind statement.Expression z = []
vars_of_kind (statement.Declaration k) z = vars_by k z
vars_of_kind statement.Return z = []
vars_of_kind statement.Throw z = []
vars_of_kind statement.If z = []
vars_of_kind statement.Block z = []
vars_of_kind statement.While z = []
vars_of_kind statement.DoWhile z = []
vars_of_kind (statement.For h) z = []
vars_of_kind statement.Switch z = []
vars_of_kind statement.Break z = []
vars_of_kind statement.Continue z = []
vars_of_kind statement.Case z = []

abbrev pub vars_of_label : Label → Row → List ℕ
vars_of_label (expr_label k) z = []
vars_of_label (stmt_label k) z = vars_of_kind k z
vars_of_label (decl_label n) z = []

-- the names that a row of statements or cases declares by `var`, at any depth
abbrev pub vars_of_row : Row → List ℕ
vars_of_row end = []
vars_of_row (node l x y z w) = vars_of_label l z ++ (vars_of_row y ++ vars_of_row w)

-- how many statements and cases a row has, and how many declarators, at any depth
abbrev pub statements_in : Row → ℕ
statements_in end = 0
statements_in (node l x y z w) = suc (statements_in y + statements_in w)

abbrev pub declarators_in : Row → ℕ
declarators_in end = 0
declarators_in (node l x y z w) = row_length z + (declarators_in y + declarators_in w)
