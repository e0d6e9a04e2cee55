-- What is kept behind a jump is what stood there, or is lighter, or has let and const put before the var.
use Rattle.std.proofs.Common.{◌≡◌, ℕ, suc, ◌+◌, ◌<◌, ◌≤◌, Bool, true, false, cond, ◌&&◌, T, ◌⊎◌, List, [], ◌∷◌, ◌++◌, length, sym, refl, ap, ◌∙◌, subst, inl, inr, append_assoc, append-nil, arith, length-append}
use Rattle.script.specs.declared.DeclarationKind.{DeclarationKind}
use Rattle.script.specs.declared.DeclarationKind.TheVariants.{Var, Let, Const}
use Rattle.script.specs.Sound.{records_expr}
use Rattle.script.specs.Tree.{Expr, number, word, name, assignment, call, sequence, conditional, logical, not, void, strict_equality}
use Rattle.script.specs.Tree.{OptionalExpr, absent, present, Declarators, no_declarators, declarator_then, Init, no_init, init_expression}
use Rattle.script.specs.Tree.{init_declaration, Stmt, empty, expression, declaration, return_of, throw, if_then, block, while, do_while, for}
use Rattle.script.specs.Tree.{switch, break, continue, Alternate, no_alternate, alternate, Stmts, no_stmts, stmt_then, Cases, no_cases}
use Rattle.script.specs.Tree.{case_then}
use Rattle.run.specs.Environment.{among}
use Rattle.run.specs.Names.{bound_names, var_names, var_declared, var_declared_list, var_declared_init, var_declared_alternate, var_declared_cases}
use Rattle.rules.specs.Statements.{statement_cares_about_scope, push_all}
use Rattle.rules.specs.Jumps.{in_source_order}
use Rattle.rules.specs.Unreachable.{lexical_declarations, note_hoisted_names, bare_declarators, push_kept_vars, keep_declarations}
use Rattle.rules.specs.Unreachable.{then_rest, last_is_terminated, is_nonempty}
use Rattle.rules.specs.Weight.{weight, weight_of_statement, weight_of_declarators, weight_of_init, weight_of_return, weight_of_alternate}
use Rattle.rules.specs.Weight.{weight_of_cases, vars_here, vars_ahead_after, vars_ahead}
use Rattle.rules.proofs.WeightMerging.{Sinks}
use Rattle.rules.proofs.WeightStatements.{push_all_weight}

-- what becomes of results, the newest first
pub data Outcome (a b : Stmts) : Type 0 where
  same : a ≡ b → Outcome a b
  lighter : weight a < weight b → Outcome a b
  reordered : weight a ≡ weight b → vars_ahead (in_source_order a no_stmts) < vars_ahead (in_source_order b no_stmts) → Outcome a b

pub outcome_below : (a b : Stmts) → Outcome a b → weight a ≤ weight b
outcome_below a b (same e) = let h : weight a ≡ weight b = ap weight e in omega arith
outcome_below a b (lighter l) = omega arith
outcome_below a b (reordered e l) = omega arith

-- a var name weighs one at least

expr_some : (e : Expr) → 1 ≤ records_expr e
expr_some (number bits) = omega arith
expr_some (word w) = omega arith
expr_some (name n) = omega arith
expr_some (assignment n e) = omega arith
expr_some (call n es) = omega arith
expr_some (sequence e es) = omega arith
expr_some (conditional t a b) = omega arith
expr_some (logical o a b) = omega arith
expr_some (not e) = omega arith
expr_some (void e) = omega arith
expr_some (strict_equality a b) = omega arith

bound_names_weight : (ds : Declarators) → length (bound_names ds) ≤ weight_of_declarators ds
bound_names_weight no_declarators = omega arith
bound_names_weight (declarator_then n v ds) = let h = bound_names_weight ds in omega arith

var_names_weight : (k : DeclarationKind) (ds : Declarators) → length (var_names k ds) ≤ weight_of_declarators ds
var_names_weight Var ds = bound_names_weight ds
var_names_weight Let ds = omega arith
var_names_weight Const ds = omega arith

init_names_weight : (i : Init) → length (var_declared_init i) ≤ weight_of_init i
init_names_weight no_init = omega arith
init_names_weight (init_expression e) = omega arith
init_names_weight (init_declaration k ds) = var_names_weight k ds

return_some : (p : OptionalExpr) → 1 ≤ weight_of_return p
return_some absent = omega arith
return_some (present e) = omega arith

mutual
  names_weight : (x : Stmt) → length (var_declared x) < weight_of_statement x
  names_weight empty = omega arith
  names_weight (expression e) = omega arith
  names_weight (declaration k ds) = let h = var_names_weight k ds in omega arith
  names_weight (return_of p) = return_some p
  names_weight (throw e) = omega arith
  names_weight (if_then t c a) =
      let h = names_weight c in
      let i = alternate_names_weight a in let j = length-append (var_declared c) (var_declared_alternate a) in omega arith
  names_weight (block ss) = let h = list_names_weight ss in omega arith
  names_weight (while t b) = let h = names_weight b in omega arith
  names_weight (do_while b t) = let h = names_weight b in omega arith
  names_weight (for i t u b) =
      let h = names_weight b in
      let j = init_names_weight i in let k = length-append (var_declared_init i) (var_declared b) in omega arith
  names_weight (switch d cs) = let h = cases_names_weight cs in omega arith
  names_weight break = omega arith
  names_weight continue = omega arith

  alternate_names_weight : (a : Alternate) → length (var_declared_alternate a) ≤ weight_of_alternate a
  alternate_names_weight no_alternate = omega arith
  alternate_names_weight (alternate x) = let h = names_weight x in omega arith

  list_names_weight : (ss : Stmts) → length (var_declared_list ss) ≤ weight ss
  list_names_weight no_stmts = omega arith
  list_names_weight (stmt_then x xs) =
      let h = names_weight x in
      let i = list_names_weight xs in let j = length-append (var_declared x) (var_declared_list xs) in omega arith

  cases_names_weight : (cs : Cases) → length (var_declared_cases cs) ≤ weight_of_cases cs
  cases_names_weight no_cases = omega arith
  cases_names_weight (case_then p ss cs) =
      let h = list_names_weight ss in
      let i = cases_names_weight cs in let j = length-append (var_declared_list ss) (var_declared_cases cs) in omega arith

-- the declaration of the names that are kept

abbrev kept_weight : List ℕ → ℕ
kept_weight [] = 0
kept_weight (n ∷ ns) = 2 + length ns

bare_weight : (ns : List ℕ) → weight_of_declarators (bare_declarators ns) ≡ length ns
bare_weight [] = refl
bare_weight (n ∷ ns) = let h = bare_weight ns in omega arith

push_kept_weight : (ns : List ℕ) (r : Stmts) → weight (push_kept_vars ns r) ≡ kept_weight ns + weight r
push_kept_weight [] r = omega arith
push_kept_weight (n ∷ ns) r = let h = bare_weight ns in omega arith

kept_below : (ns : List ℕ) → kept_weight ns ≤ 1 + length ns
kept_below [] = omega arith
kept_below (n ∷ ns) = omega arith

-- each name once is all names, or fewer
abbrev AllOrFewer : List ℕ → List ℕ → Type 0
AllOrFewer l ns = (l ≡ ns) ⊎ (length l < length ns)

fewer : (l ns : List ℕ) → AllOrFewer l ns → length l ≤ length ns
fewer l ns (inl e) = let h : length l ≡ length ns = ap length e in omega arith
fewer l ns (inr h) = omega arith

noted : (ns seen : List ℕ) → AllOrFewer (note_hoisted_names ns seen) (seen ++ ns)
noted [] seen = inl (sym (append-nil seen))
noted (n ∷ ns) seen = by (among n seen) (λ s. noted ns s)
  where
    by : (b : Bool) → ((s : List ℕ) → AllOrFewer (note_hoisted_names ns s) (s ++ ns))
        → AllOrFewer (note_hoisted_names ns (cond b seen (seen ++ (n ∷ [])))) (seen ++ (n ∷ ns))
    by true h =
        let i = fewer (note_hoisted_names ns seen) (seen ++ ns) (h seen) in
        let j = length-append seen ns in let k = length-append seen (n ∷ ns) in inr (omega arith)
    by false h =
        subst (λ (l : List ℕ). AllOrFewer (note_hoisted_names ns (seen ++ (n ∷ []))) l) (append_assoc seen (n ∷ []) ns)
        (h (seen ++ (n ∷ [])))

noted_fewer : (ns : List ℕ) → length (note_hoisted_names ns []) ≤ length ns
noted_fewer ns = fewer (note_hoisted_names ns []) ns (noted ns [])

-- declarators with no values are the bare ones
bare_or_lighter : (ds : Declarators) → (bare_declarators (bound_names ds) ≡ ds) ⊎ (length (bound_names ds) < weight_of_declarators ds)
bare_or_lighter no_declarators = inl refl
bare_or_lighter (declarator_then n absent ds) = by (bare_or_lighter ds)
  where
    by : (bare_declarators (bound_names ds) ≡ ds) ⊎ (length (bound_names ds) < weight_of_declarators ds)
        → (declarator_then n absent (bare_declarators (bound_names ds)) ≡ declarator_then n absent ds)
        ⊎ (suc (length (bound_names ds)) < suc (0 + weight_of_declarators ds))
    by (inl e) = inl (ap (λ (l : Declarators). declarator_then n absent l) e)
    by (inr l) = inr (omega arith)
bare_or_lighter (declarator_then n (present e) ds) = let h = expr_some e in let i = bound_names_weight ds in inr (omega arith)

-- a var declaration that is what is kept of it
record Stays (x : Stmt) (ns : List ℕ) : Type 0 where
  declared : (r : Stmts) → push_kept_vars ns r ≡ stmt_then x r
  is_var : vars_here x ≡ 1
  nothing_behind : (n : ℕ) → vars_ahead_after n (stmt_then x no_stmts) ≡ 0

-- what is kept of a statement is the statement, or lighter
abbrev Kept : Stmt → List ℕ → Type 0
Kept x ns = Stays x ns ⊎ (kept_weight ns < weight_of_statement x)

kept_few : (x : Stmt) → suc (length (var_declared x)) < weight_of_statement x → Kept x (note_hoisted_names (var_declared x) [])
kept_few x h =
    let i = noted_fewer (var_declared x) in let j = kept_below (note_hoisted_names (var_declared x) []) in inr (omega arith)

kept_none : (x : Stmt) → var_declared x ≡ [] → Kept x (note_hoisted_names (var_declared x) [])
kept_none x e =
    let h = names_weight x in
    let i : kept_weight (note_hoisted_names (var_declared x) []) ≡ 0 = ap (λ (l : List ℕ). kept_weight (note_hoisted_names l [])) e in
    inr (omega arith)

kept_var : (ds : Declarators) → Kept (declaration Var ds) (note_hoisted_names (bound_names ds) [])
kept_var ds = by (note_hoisted_names (bound_names ds) []) (noted (bound_names ds) []) (bare_or_lighter ds)
  where
    by : (ns : List ℕ) → AllOrFewer ns (bound_names ds)
        → (bare_declarators (bound_names ds) ≡ ds) ⊎ (length (bound_names ds) < weight_of_declarators ds) → Kept (declaration Var ds) ns
    by [] p q = inr (omega arith)
    by (n ∷ ns) (inr l) q = let h = bound_names_weight ds in inr (omega arith)
    by (n ∷ ns) (inl e) (inr l) = let h : suc (length ns) ≡ length (bound_names ds) = ap length e in inr (omega arith)
    by (n ∷ ns) (inl e) (inl g) =
        inl (record {
          declared = λ r. ap (λ (l : Declarators). stmt_then (declaration Var l) r) (ap bare_declarators e ∙ g);
          is_var = refl;
          nothing_behind = λ n. refl;
        })

kept : (x : Stmt) → Kept x (note_hoisted_names (var_declared x) [])
kept empty = kept_none empty refl
kept (expression e) = kept_none (expression e) refl
kept (declaration Var ds) = kept_var ds
kept (declaration Let ds) = kept_none (declaration Let ds) refl
kept (declaration Const ds) = kept_none (declaration Const ds) refl
kept (return_of p) = kept_none (return_of p) refl
kept (throw e) = kept_none (throw e) refl
kept (if_then t c a) =
    let h = names_weight c in
    let i = alternate_names_weight a in
    let j = length-append (var_declared c) (var_declared_alternate a) in kept_few (if_then t c a) (omega arith)
kept (block no_stmts) = kept_none (block no_stmts) refl
kept (block (stmt_then x xs)) =
    let h = names_weight x in
    let i = list_names_weight xs in
    let j = length-append (var_declared x) (var_declared_list xs) in kept_few (block (stmt_then x xs)) (omega arith)
kept (while t b) = let h = names_weight b in let i = expr_some t in kept_few (while t b) (omega arith)
kept (do_while b t) = let h = names_weight b in let i = expr_some t in kept_few (do_while b t) (omega arith)
kept (for i t u b) =
    let h = names_weight b in
    let j = init_names_weight i in let k = length-append (var_declared_init i) (var_declared b) in kept_few (for i t u b) (omega arith)
kept (switch d cs) = let h = cases_names_weight cs in kept_few (switch d cs) (omega arith)
kept break = kept_none break refl
kept continue = kept_none continue refl

-- lists of let and const declarations only

abbrev AllLexical : Stmts → Type 0
AllLexical no_stmts = Unit {0}
AllLexical (stmt_then x xs) = T (statement_cares_about_scope x) × AllLexical xs

lexical_no_vars : (x : Stmt) → T (statement_cares_about_scope x) → var_declared x ≡ []
lexical_no_vars empty t = refl
lexical_no_vars (expression e) t = refl
lexical_no_vars (declaration Var ds) t = absurd t
lexical_no_vars (declaration Let ds) t = refl
lexical_no_vars (declaration Const ds) t = refl
lexical_no_vars (return_of p) t = refl
lexical_no_vars (throw e) t = refl
lexical_no_vars (if_then c a b) t = absurd t
lexical_no_vars (block ss) t = absurd t
lexical_no_vars (while c b) t = absurd t
lexical_no_vars (do_while b c) t = absurd t
lexical_no_vars (for i c u b) t = absurd t
lexical_no_vars (switch d cs) t = absurd t
lexical_no_vars break t = refl
lexical_no_vars continue t = refl

all_lexical_stay : (xs : Stmts) → AllLexical xs → lexical_declarations xs ≡ xs
all_lexical_stay no_stmts p = refl
all_lexical_stay (stmt_then x xs) p = by (statement_cares_about_scope x) p.0 (all_lexical_stay xs p.1)
  where
    by : (b : Bool) → T b → lexical_declarations xs ≡ xs
        → cond b (stmt_then x (lexical_declarations xs)) (lexical_declarations xs) ≡ stmt_then x xs
    by true t e = ap (λ (l : Stmts). stmt_then x l) e
    by false t e = absurd t

all_lexical_no_vars : (xs : Stmts) → AllLexical xs → var_declared_list xs ≡ []
all_lexical_no_vars no_stmts p = refl
all_lexical_no_vars (stmt_then x xs) p = rw (lexical_no_vars x p.0, all_lexical_no_vars xs p.1) refl

-- the let and const of a list with the names of its vars: all of it, or lighter
abbrev LexicalOrLighter : Stmts → Type 0
LexicalOrLighter xs = AllLexical xs ⊎ (weight (lexical_declarations xs) + length (var_declared_list xs) < weight xs)

lexical_below : (xs : Stmts) → LexicalOrLighter xs → weight (lexical_declarations xs) + length (var_declared_list xs) ≤ weight xs
lexical_below xs (inl p) =
    let h : weight (lexical_declarations xs) ≡ weight xs = ap weight (all_lexical_stay xs p) in
    let i : length (var_declared_list xs) ≡ 0 = ap length (all_lexical_no_vars xs p) in omega arith
lexical_below xs (inr l) = omega arith

lexical_or_lighter : (xs : Stmts) → LexicalOrLighter xs
lexical_or_lighter no_stmts = inl tt
lexical_or_lighter (stmt_then x xs) = by (statement_cares_about_scope x) (λ t. t) (lexical_or_lighter xs)
  where
    by : (b : Bool) → (T b → T (statement_cares_about_scope x)) → LexicalOrLighter xs
        → AllLexical (stmt_then x xs)
        ⊎ (weight (cond b (stmt_then x (lexical_declarations xs)) (lexical_declarations xs))
        + length (var_declared x ++ var_declared_list xs) < weight_of_statement x + weight xs)
    by true t (inl p) = inl (t tt, p)
    by true t (inr l) =
        let h : length (var_declared x) ≡ 0 = ap length (lexical_no_vars x (t tt)) in
        let i = length-append (var_declared x) (var_declared_list xs) in inr (omega arith)
    by false t p =
        let h = lexical_below xs p in
        let i = names_weight x in let j = length-append (var_declared x) (var_declared_list xs) in inr (omega arith)

-- a var put behind let and const

abbrev pub before : Stmts → Stmts → Stmts
before no_stmts l = l
before (stmt_then x xs) l = stmt_then x (before xs l)

pub push_all_order : (xs r l : Stmts) → in_source_order (push_all xs r) l ≡ in_source_order r (before xs l)
push_all_order no_stmts r l = refl
push_all_order (stmt_then x xs) r l = push_all_order xs (stmt_then x r) l

fewer_at : (b : Bool) (n m : ℕ) → n < m → cond b n 0 ≤ cond b m 0
fewer_at true n m h = omega arith
fewer_at false n m h = omega arith

fewer_here : (b : Bool) (n m : ℕ) → T b → n < m → cond b n 0 < cond b m 0
fewer_here true n m t h = h
fewer_here false n m t h = absurd t

fewer_ahead : (x : Stmt) → ((n : ℕ) → vars_ahead_after n (stmt_then x no_stmts) ≡ 0) → (xs : Stmts) (n m : ℕ) → n < m
    → vars_ahead_after n (before xs (stmt_then x no_stmts)) ≤ vars_ahead_after m (before xs no_stmts)
fewer_ahead x h no_stmts n m l = let i = h n in omega arith
fewer_ahead x h (stmt_then y ys) n m l =
    let i = fewer_ahead x h ys (n + vars_here y) (m + vars_here y) (omega arith) in
    let j = fewer_at (statement_cares_about_scope y) n m l in omega arith

-- more pairs in what follows are more pairs in all
ahead_in_order : (r l₁ l₂ : Stmts) → ((n : ℕ) → vars_ahead_after n l₁ < vars_ahead_after n l₂)
    → (n : ℕ) → vars_ahead_after n (in_source_order r l₁) < vars_ahead_after n (in_source_order r l₂)
ahead_in_order no_stmts l₁ l₂ h n = h n
ahead_in_order (stmt_then x r) l₁ l₂ h n =
    ahead_in_order r (stmt_then x l₁) (stmt_then x l₂) (λ m. let i = h (m + vars_here x) in omega arith) n

var_behind : (x : Stmt) (ns : List ℕ) → Stays x ns → (xs r : Stmts) → AllLexical xs
    → Outcome (stmt_then x (push_all xs r)) (push_all xs (stmt_then x r))
var_behind x ns k no_stmts r p = same refl
var_behind x ns k (stmt_then y ys) r p =
    reordered (let i = push_all_weight (stmt_then y ys) r in let j = push_all_weight (stmt_then y ys) (stmt_then x r) in omega arith)
    (rw (push_all_order ys (stmt_then y r) (stmt_then x no_stmts), push_all_order ys (stmt_then y (stmt_then x r)) no_stmts)
    (ahead_in_order r (stmt_then y (before ys (stmt_then x no_stmts))) (stmt_then x (stmt_then y (before ys no_stmts)))
    (λ n.
    let v = k.is_var in
    let i = fewer_ahead x k.nothing_behind ys (n + vars_here y) ((n + vars_here x) + vars_here y) (omega arith) in
    let j = fewer_here (statement_cares_about_scope y) n (n + vars_here x) p.0 (omega arith) in omega arith) 0))

-- what is kept behind a jump

kept_all_lexical : (x : Stmt) (xs r : Stmts) → AllLexical xs → Kept x (note_hoisted_names (var_declared x) [])
    → Outcome (push_kept_vars (note_hoisted_names (var_declared x) []) (push_all xs r)) (push_all xs (stmt_then x r))
kept_all_lexical x xs r p (inl k) = rw (k.declared (push_all xs r)) (var_behind x (note_hoisted_names (var_declared x) []) k xs r p)
kept_all_lexical x xs r p (inr l) =
    let h = push_kept_weight (note_hoisted_names (var_declared x) []) (push_all xs r) in
    let i = push_all_weight xs r in let j = push_all_weight xs (stmt_then x r) in lighter (omega arith)

kept_first : (x : Stmt) (xs r : Stmts) → LexicalOrLighter xs
    → Outcome (push_kept_vars (note_hoisted_names (var_declared x ++ var_declared_list xs) []) (push_all (lexical_declarations xs) r))
    (push_all xs (stmt_then x r))
kept_first x xs r (inl p) =
    rw (all_lexical_stay xs p, all_lexical_no_vars xs p, append-nil (var_declared x)) (kept_all_lexical x xs r p (kept x))
kept_first x xs r (inr l) =
    let ns : List ℕ = var_declared x ++ var_declared_list xs in
    let a = push_kept_weight (note_hoisted_names ns []) (push_all (lexical_declarations xs) r) in
    let b = kept_below (note_hoisted_names ns []) in
    let c = noted_fewer ns in
    let d = length-append (var_declared x) (var_declared_list xs) in
    let e = names_weight x in
    let f = push_all_weight (lexical_declarations xs) r in
    let g = push_all_weight xs (stmt_then x r) in lighter (omega arith)

keep_declarations_outcome : (rest r : Stmts) → Outcome (keep_declarations rest r) (push_all rest r)
keep_declarations_outcome no_stmts r = same refl
keep_declarations_outcome (stmt_then x xs) r =
    by (statement_cares_about_scope x) (λ t. t) (keep_declarations_outcome xs (stmt_then x r))
  where
    by : (b : Bool) → (T b → T (statement_cares_about_scope x))
        → Outcome (keep_declarations xs (stmt_then x r)) (push_all xs (stmt_then x r))
        → Outcome (push_kept_vars (note_hoisted_names (var_declared x ++ var_declared_list xs) [])
        (push_all (cond b (stmt_then x (lexical_declarations xs)) (lexical_declarations xs)) r)) (push_all xs (stmt_then x r))
    by true t h = rw (lexical_no_vars x (t tt)) h
    by false t h = kept_first x xs r (lexical_or_lighter xs)

pub either_outcome : (b : Bool) (xs ys zs : Stmts) → Outcome xs zs → Outcome ys zs → Outcome (cond b xs ys) zs
either_outcome true xs ys zs p q = p
either_outcome false xs ys zs p q = q

-- after a rule on one statement
pub sunk_outcome : (rest a r₁ r₂ : Stmts) → Sinks r₁ r₂ → Outcome a (push_all rest r₁) → Outcome a (push_all rest r₂)
sunk_outcome rest a r₁ r₂ (inl e) h = subst (λ (r : Stmts). Outcome a (push_all rest r)) e h
sunk_outcome rest a r₁ r₂ (inr l) h =
    let i = outcome_below a (push_all rest r₁) h in
    let j = push_all_weight rest r₁ in let k = push_all_weight rest r₂ in lighter (omega arith)

pub then_rest_outcome : (rest : Stmts) (more : Stmts → Stmts) → ((r : Stmts) → Outcome (more r) (push_all rest r))
    → (r₁ r₂ : Stmts) → Sinks r₁ r₂ → Outcome (then_rest more rest r₁) (push_all rest r₂)
then_rest_outcome rest more m r₁ r₂ s =
    sunk_outcome rest (then_rest more rest r₁) r₁ r₂ s
    (either_outcome (last_is_terminated r₁ && is_nonempty rest) (keep_declarations rest r₁) (more r₁) (push_all rest r₁)
    (keep_declarations_outcome rest r₁) (m r₁))
