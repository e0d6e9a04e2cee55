-- What is kept of the statements behind a jump.
use Rattle.std.specs.Prelude.{ℕ, Bool, true, false, cond, ◌&&◌, List, [], ◌∷◌, ◌++◌}
use Rattle.script.specs.declared.DeclarationKind.TheVariants.{Var}
use Rattle.script.specs.Tree.{Stmts, no_stmts, stmt_then, Declarators, no_declarators, declarator_then, absent, declaration}
use Rattle.run.specs.Environment.{among}
use Rattle.run.specs.Names.{var_declared_list}
use Rattle.rules.specs.Statements.{statement_cares_about_scope, push_all, is_terminated}

-- behind a jump: let and const stay as they are, var names are kept

abbrev pub lexical_declarations : Stmts → Stmts
lexical_declarations no_stmts = no_stmts
lexical_declarations (stmt_then x xs) =
    cond (statement_cares_about_scope x) (stmt_then x (lexical_declarations xs)) (lexical_declarations xs)

-- each name once, the first met first
abbrev pub note_hoisted_names : List ℕ → List ℕ → List ℕ
note_hoisted_names [] seen = seen
note_hoisted_names (n ∷ ns) seen = note_hoisted_names ns (cond (among n seen) seen (seen ++ (n ∷ [])))

abbrev pub bare_declarators : List ℕ → Declarators
bare_declarators [] = no_declarators
bare_declarators (n ∷ ns) = declarator_then n absent (bare_declarators ns)

abbrev pub push_kept_vars : List ℕ → Stmts → Stmts
push_kept_vars [] r = r
push_kept_vars (n ∷ ns) r = stmt_then (declaration Var (bare_declarators (n ∷ ns))) r

-- what is kept of the statements behind a jump, put to the results (newest first)
abbrev pub keep_declarations : Stmts → Stmts → Stmts
keep_declarations rest r = push_kept_vars (note_hoisted_names (var_declared_list rest) []) (push_all (lexical_declarations rest) r)

abbrev pub is_nonempty : Stmts → Bool
is_nonempty no_stmts = false
is_nonempty (stmt_then x xs) = true

abbrev pub last_is_terminated : Stmts → Bool
last_is_terminated no_stmts = false
last_is_terminated (stmt_then x r) = is_terminated x

-- more is the work on the rest; this is what comes after one statement
abbrev pub then_rest : (Stmts → Stmts) → Stmts → Stmts → Stmts
then_rest more rest r = cond (last_is_terminated r && is_nonempty rest) (keep_declarations rest r) (more r)
