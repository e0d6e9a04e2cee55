-- A byte that is taken keeps every rule of the trees.
use mathlib.Core.Path.{◌≡◌, refl, ap}
use mathlib.Core.Bool.{Bool, true, false, cond}
use mathlib.Core.Bool.{not as negated}
use mathlib.Core.List.{List, [], ◌∷◌}
use mathlib.Core.Option.{Option, none, some}
use Prim.Native.Nat.{ℕ, zero, suc, ◌+◌, ◌≤◌, ◌<◌}
use native.Mathlib.Omega.{arith}
use lib.ListN.{length}
use lib.Dec.{eqb, ltb}
use borrow.Author.Tests.{ltb-false}
use Rattle.script.specs.declared.ForInit.{ForInit}
use Rattle.script.specs.declared.ForInit.TheVariants as init
use Rattle.script.specs.declared.Code.{Code}
use Rattle.script.specs.declared.Code.TheVariants as code
use Rattle.script.specs.declared.Command.{Command}
use Rattle.script.specs.declared.Command.TheVariants as command
use Rattle.script.specs.declared.Counted.{Counted}
use Rattle.script.specs.declared.Counted.TheVariants as counted
use Rattle.script.specs.declared.Awaiting.{Awaiting}
use Rattle.script.specs.declared.Awaiting.TheVariants as awaiting
use Rattle.script.specs.declared.Table.{Table}
use Rattle.script.specs.Tree.{Expr, OptionalExpr, absent, present}
use Rattle.script.specs.Tree.{Init, no_init, init_expression, init_declaration, Stmts, no_stmts, stmt_then, Cases, no_cases, case_then}
use Rattle.script.specs.Tree.{Stmt, empty, expression, declaration, return_of, throw, if_then, block, while, do_while, for, switch, break, continue}
use Rattle.script.specs.Format.{Lexed, refused, awaits, ends, begun, begun_or_none, code_of, word_of, operator_of, kind_of, head_of, flag_of}
use Rattle.script.specs.Format.{bad_operand, listed, count_ends, two, lexed}
use Rattle.script.specs.Stacks.{Item, statement, case, Declarator, declarator, Stacks}
use Rattle.script.specs.Stacks.{Performed, lacks, misplaces, puts_expr, puts_item, puts_declarator, puts_body, perform}
use Rattle.script.specs.Stacks.{pop, pop_if, pops, exprs_of, declarators_of, lexical_declaration, unless, as_branch, as_stmts, as_cases}
use Rattle.script.specs.Stacks.{as_init, pop_init, as_sequence, left, sound_declaration, sound_cases}
use Rattle.script.specs.Judge.{Stage, reading, complete, Spares, Verdict, turned_away, taken, spend, alone, settled, after_lexing, judge_at}
use Rattle.script.specs.Sound.{count_exprs, count_declarators, SoundExpr, SoundExprs, SoundOptional, SoundDeclarators, SoundInit}
use Rattle.script.specs.Sound.{SoundStmt, SoundStmts, SoundCases, SoundItem, SoundDeclarator, Every, SoundStacks, SoundModel}
use Rattle.script.specs.Laws.{TakenKeepsSound}

-- what is put and what is left are sound
abbrev SoundPerformed : Performed → Type 0
SoundPerformed lacks = Unit {0}
SoundPerformed misplaces = Unit {0}
SoundPerformed (puts_expr e s) = SoundExpr e × SoundStacks s
SoundPerformed (puts_item i s) = SoundItem i × SoundStacks s
SoundPerformed (puts_declarator d s) = SoundDeclarator d × SoundStacks s
SoundPerformed (puts_body ss s) = SoundStmts ss × SoundStacks s

-- what lexing tells of a command
abbrev SoundCommand : Command → Type 0
SoundCommand (command.Number b) = Unit {0}
SoundCommand (command.Word w) = Unit {0}
SoundCommand (command.Name n) = Unit {0}
SoundCommand (command.Assignment n) = Unit {0}
SoundCommand (command.Call n c) = c ≤ 255
SoundCommand (command.Sequence c) = 2 ≤ c
SoundCommand command.Conditional = Unit {0}
SoundCommand (command.Logical o) = Unit {0}
SoundCommand command.Not = Unit {0}
SoundCommand command.Void = Unit {0}
SoundCommand command.StrictEquality = Unit {0}
SoundCommand (command.Declarator n v) = Unit {0}
SoundCommand command.Empty = Unit {0}
SoundCommand command.Expression = Unit {0}
SoundCommand (command.Declaration k c) = 1 ≤ c
SoundCommand (command.Return v) = Unit {0}
SoundCommand command.Throw = Unit {0}
SoundCommand (command.If a) = Unit {0}
SoundCommand (command.Block c) = Unit {0}
SoundCommand command.While = Unit {0}
SoundCommand command.DoWhile = Unit {0}
SoundCommand (command.For h) = Unit {0}
SoundCommand command.Break = Unit {0}
SoundCommand command.Continue = Unit {0}
SoundCommand (command.Case t c) = Unit {0}
SoundCommand (command.Switch c) = Unit {0}
SoundCommand (command.Body c) = Unit {0}

-- the tops of stacks
pop_sound : {A : Type 0} (P : A → Type 0) (xs : List A) (k : A → List A → Performed) → Every P xs →
    ((x : A) (rest : List A) → P x → Every P rest → SoundPerformed (k x rest)) → SoundPerformed (pop xs k)
pop_sound P [] k h then = tt
pop_sound P (x ∷ xs) k h then = then x xs h.0 h.1

pop_if_sound : (t : Bool) (xs : List Expr) (k : OptionalExpr → List Expr → Performed) → Every SoundExpr xs →
    ((v : OptionalExpr) (rest : List Expr) → SoundOptional v → Every SoundExpr rest → SoundPerformed (k v rest)) → SoundPerformed (pop_if t xs k)
pop_if_sound false xs k h then = then absent xs tt h
pop_if_sound true xs k h then = pop_sound SoundExpr xs (λ x. k (present x)) h (λ x rest. then (present x) rest)

pops_sound : {A : Type 0} (P : A → Type 0) (n : ℕ) (xs parts : List A) (k : List A → List A → Performed) → Every P xs → Every P parts →
    ((all rest : List A) → length all ≡ n + length parts → Every P all → Every P rest → SoundPerformed (k all rest)) →
    SoundPerformed (pops n xs parts k)
pops_sound P zero xs parts k h g then = then parts xs (omega arith) g h
pops_sound P (suc n) [] parts k h g then = tt
pops_sound P (suc n) (x ∷ xs) parts k h g then =
    pops_sound P n xs (x ∷ parts) k h.1 (h.0, g) (λ all rest e. then all rest (omega arith))

-- lists of parts
pub exprs_of_sound : (es : List Expr) → Every SoundExpr es → SoundExprs (exprs_of es)
exprs_of_sound [] h = tt
exprs_of_sound (e ∷ es) h = (h.0, exprs_of_sound es h.1)

pub count_exprs_of : (es : List Expr) → count_exprs (exprs_of es) ≡ length es
count_exprs_of [] = refl
count_exprs_of (e ∷ es) = ap suc (count_exprs_of es)

pub declarators_of_sound : (ds : List Declarator) → Every SoundDeclarator ds → SoundDeclarators (declarators_of ds)
declarators_of_sound [] h = tt
declarators_of_sound (declarator n v ∷ ds) h = (h.0, declarators_of_sound ds h.1)

pub count_declarators_of : (ds : List Declarator) → count_declarators (declarators_of ds) ≡ length ds
count_declarators_of [] = refl
count_declarators_of (declarator n v ∷ ds) = ap suc (count_declarators_of ds)

-- tests
unless_sound : (t : Bool) (p : Performed) → (t ≡ false → SoundPerformed p) → SoundPerformed (unless t p)
unless_sound true p then = tt
unless_sound false p then = then refl

unless_not_sound : (t : Bool) (p : Performed) → (t ≡ true → SoundPerformed p) → SoundPerformed (unless (negated t) p)
unless_not_sound true p then = then refl
unless_not_sound false p then = tt

-- parts in their places
as_branch_sound : (i : Item) (k : Stmt → Performed) → SoundItem i →
    ((s : Stmt) → lexical_declaration s ≡ false → SoundStmt s → SoundPerformed (k s)) → SoundPerformed (as_branch i k)
as_branch_sound (statement s) k h then = unless_sound (lexical_declaration s) (k s) (λ e. then s e h)
as_branch_sound (case t ss) k h then = tt

as_stmts_sound : (is : List Item) (k : Stmts → Performed) → Every SoundItem is →
    ((ss : Stmts) → SoundStmts ss → SoundPerformed (k ss)) → SoundPerformed (as_stmts is k)
as_stmts_sound [] k h then = then no_stmts tt
as_stmts_sound (statement s ∷ is) k h then = as_stmts_sound is (λ ss. k (stmt_then s ss)) h.1 (λ ss g. then (stmt_then s ss) (h.0, g))
as_stmts_sound (case t ss ∷ is) k h then = tt

as_cases_sound : (is : List Item) (k : Cases → Performed) → Every SoundItem is →
    ((cs : Cases) → SoundCases cs → SoundPerformed (k cs)) → SoundPerformed (as_cases is k)
as_cases_sound [] k h then = then no_cases tt
as_cases_sound (statement s ∷ is) k h then = tt
as_cases_sound (case t ss ∷ is) k h then =
    as_cases_sound is (λ cs. k (case_then t ss cs)) h.1 (λ cs g. then (case_then t ss cs) (h.0.0, h.0.1, g))

as_sequence_sound : (es : List Expr) (k : Expr → Performed) → 2 ≤ length es → Every SoundExpr es →
    ((e : Expr) → SoundExpr e → SoundPerformed (k e)) → SoundPerformed (as_sequence es k)
as_sequence_sound [] k n h then = tt
as_sequence_sound (e ∷ es) k n h then = then _ (omega (arith, count_exprs_of es), h.0, exprs_of_sound es h.1)

as_init_sound : (i : Item) (k : Init → Performed) → SoundItem i →
    ((j : Init) → SoundInit j → SoundPerformed (k j)) → SoundPerformed (as_init i k)
as_init_sound (case t ss) k h then = tt
as_init_sound (statement (declaration kind ds)) k h then = then (init_declaration kind ds) h
as_init_sound (statement empty) k h then = tt
as_init_sound (statement (expression e)) k h then = tt
as_init_sound (statement (return_of v)) k h then = tt
as_init_sound (statement (throw e)) k h then = tt
as_init_sound (statement (if_then t c a)) k h then = tt
as_init_sound (statement (block ss)) k h then = tt
as_init_sound (statement (while t b)) k h then = tt
as_init_sound (statement (do_while b t)) k h then = tt
as_init_sound (statement (for i t u b)) k h then = tt
as_init_sound (statement (switch d cs)) k h then = tt
as_init_sound (statement break) k h then = tt
as_init_sound (statement continue) k h then = tt

-- the first part of a for is handed on as a function that gives a sound one
abbrev GivesInit : ((Init → Performed) → Performed) → Type 0
GivesInit give = (k : Init → Performed) → ((i : Init) → SoundInit i → SoundPerformed (k i)) → SoundPerformed (give k)

pop_init_sound : (t : ForInit) (es : List Expr) (is : List Item) (k : ((Init → Performed) → Performed) → List Expr → List Item → Performed) →
    Every SoundExpr es → Every SoundItem is →
    ((give : (Init → Performed) → Performed) (es' : List Expr) (is' : List Item) →
    GivesInit give → Every SoundExpr es' → Every SoundItem is' → SoundPerformed (k give es' is')) →
    SoundPerformed (pop_init t es is k)
pop_init_sound init.Absent es is k h g then = then (λ j. j no_init) es is (λ j f. f no_init tt) h g
pop_init_sound init.Expression es is k h g then =
    pop_sound SoundExpr es _ h (λ e es' p h'. then (λ j. j (init_expression e)) es' is (λ j f. f (init_expression e) p) h' g)
pop_init_sound init.Declaration es is k h g then =
    pop_sound SoundItem is _ g (λ i is' p g'. then (as_init i) es is' (λ j f. as_init_sound i j p f) h g')

-- the stacks that are left
left_sound : {es : List Expr} {is : List Item} {ds : List Declarator} →
    Every SoundExpr es → Every SoundItem is → Every SoundDeclarator ds → SoundStacks (left es is ds)
left_sound h g f = record { exprs = h; stmts = g; decls = f }

perform_sound : (c : Command) (s : Stacks) → SoundCommand c → SoundStacks s → SoundPerformed (perform c s)
perform_sound (command.Number b) s n h = (tt, h)
perform_sound (command.Word w) s n h = (tt, h)
perform_sound (command.Name x) s n h = (tt, h)
perform_sound (command.Assignment x) s n h =
    pop_sound SoundExpr s.exprs _ h.exprs (λ e es p q. (p, left_sound q h.stmts h.decls))
perform_sound (command.Call x c) s n h =
    pops_sound SoundExpr c s.exprs [] _ h.exprs tt (λ all es size p q.
    ((omega (arith, count_exprs_of all), exprs_of_sound all p), left_sound q h.stmts h.decls))
perform_sound (command.Sequence c) s n h =
    pops_sound SoundExpr c s.exprs [] _ h.exprs tt (λ all es size p q.
    as_sequence_sound all _ (omega arith) p (λ e e_sound. (e_sound, left_sound q h.stmts h.decls)))
perform_sound command.Conditional s n h =
    pop_sound SoundExpr s.exprs _ h.exprs (λ b es₁ b_sound q₁.
    pop_sound SoundExpr es₁ _ q₁ (λ a es₂ a_sound q₂.
    pop_sound SoundExpr es₂ _ q₂ (λ t es t_sound q. ((t_sound, a_sound, b_sound), left_sound q h.stmts h.decls))))
perform_sound (command.Logical o) s n h =
    pop_sound SoundExpr s.exprs _ h.exprs (λ b es₁ b_sound q₁.
    pop_sound SoundExpr es₁ _ q₁ (λ a es a_sound q. ((a_sound, b_sound), left_sound q h.stmts h.decls)))
perform_sound command.Not s n h =
    pop_sound SoundExpr s.exprs _ h.exprs (λ e es p q. (p, left_sound q h.stmts h.decls))
perform_sound command.Void s n h =
    pop_sound SoundExpr s.exprs _ h.exprs (λ e es p q. (p, left_sound q h.stmts h.decls))
perform_sound command.StrictEquality s n h =
    pop_sound SoundExpr s.exprs _ h.exprs (λ b es₁ b_sound q₁.
    pop_sound SoundExpr es₁ _ q₁ (λ a es a_sound q. ((a_sound, b_sound), left_sound q h.stmts h.decls)))
perform_sound (command.Declarator x v) s n h =
    pop_if_sound v s.exprs _ h.exprs (λ e es p q. (p, left_sound q h.stmts h.decls))
perform_sound command.Empty s n h = (tt, h)
perform_sound command.Expression s n h =
    pop_sound SoundExpr s.exprs _ h.exprs (λ e es p q. (p, left_sound q h.stmts h.decls))
perform_sound (command.Declaration k c) s n h =
    pops_sound SoundDeclarator c s.decls [] _ h.decls tt (λ all ds size p q.
    unless_not_sound (sound_declaration k (declarators_of all)) _ (λ e.
    ((omega (arith, count_declarators_of all), e, declarators_of_sound all p), left_sound h.exprs h.stmts q)))
perform_sound (command.Return v) s n h =
    pop_if_sound v s.exprs _ h.exprs (λ e es p q. (p, left_sound q h.stmts h.decls))
perform_sound command.Throw s n h =
    pop_sound SoundExpr s.exprs _ h.exprs (λ e es p q. (p, left_sound q h.stmts h.decls))
perform_sound (command.If false) s n h =
    pop_sound SoundExpr s.exprs _ h.exprs (λ t es t_sound q.
    pop_sound SoundItem s.stmts _ h.stmts (λ c is c_sound g.
    as_branch_sound c _ c_sound (λ c' e c'_sound. ((t_sound, e, c'_sound, tt), left_sound q g h.decls))))
perform_sound (command.If true) s n h =
    pop_sound SoundExpr s.exprs _ h.exprs (λ t es t_sound q.
    pop_sound SoundItem s.stmts _ h.stmts (λ a is₁ a_sound g₁.
    pop_sound SoundItem is₁ _ g₁ (λ c is c_sound g.
    as_branch_sound c _ c_sound (λ c' e c'_sound.
    as_branch_sound a _ a_sound (λ a' f a'_sound.
    ((t_sound, e, c'_sound, (f, a'_sound)), left_sound q g h.decls))))))
perform_sound (command.Block c) s n h =
    pops_sound SoundItem c s.stmts [] _ h.stmts tt (λ all is size p g.
    as_stmts_sound all _ p (λ ss ss_sound. (ss_sound, left_sound h.exprs g h.decls)))
perform_sound command.While s n h =
    pop_sound SoundExpr s.exprs _ h.exprs (λ t es t_sound q.
    pop_sound SoundItem s.stmts _ h.stmts (λ b is b_sound g.
    as_branch_sound b _ b_sound (λ b' e b'_sound. ((t_sound, e, b'_sound), left_sound q g h.decls))))
perform_sound command.DoWhile s n h =
    pop_sound SoundExpr s.exprs _ h.exprs (λ t es t_sound q.
    pop_sound SoundItem s.stmts _ h.stmts (λ b is b_sound g.
    as_branch_sound b _ b_sound (λ b' e b'_sound. ((e, b'_sound, t_sound), left_sound q g h.decls))))
perform_sound (command.For d) s n h =
    pop_if_sound d.update s.exprs _ h.exprs (λ u es₁ u_sound q₁.
    pop_if_sound d.test es₁ _ q₁ (λ t es₂ t_sound q₂.
    pop_sound SoundItem s.stmts _ h.stmts (λ b is₁ b_sound g₁.
    pop_init_sound d.init es₂ is₁ _ q₂ g₁ (λ give es is gives q g.
    gives _ (λ i i_sound.
    as_branch_sound b _ b_sound (λ b' e b'_sound.
    ((i_sound, t_sound, u_sound, e, b'_sound), left_sound q g h.decls)))))))
perform_sound command.Break s n h = (tt, h)
perform_sound command.Continue s n h = (tt, h)
perform_sound (command.Case t c) s n h =
    pop_if_sound t s.exprs _ h.exprs (λ v es v_sound q.
    pops_sound SoundItem c s.stmts [] _ h.stmts tt (λ all is size p g.
    as_stmts_sound all _ p (λ ss ss_sound. ((v_sound, ss_sound), left_sound q g h.decls))))
perform_sound (command.Switch c) s n h =
    pop_sound SoundExpr s.exprs _ h.exprs (λ d es d_sound q.
    pops_sound SoundItem c s.stmts [] _ h.stmts tt (λ all is size p g.
    as_cases_sound all _ p (λ cs cs_sound.
    unless_not_sound (sound_cases cs) _ (λ e. ((d_sound, e, cs_sound), left_sound q g h.decls)))))
perform_sound (command.Body c) s n h =
    pops_sound SoundItem c s.stmts [] _ h.stmts tt (λ all is size p g.
    as_stmts_sound all _ p (λ ss ss_sound. (ss_sound, left_sound h.exprs g h.decls)))

-- a command that lexing ends is sound
abbrev SoundLexed : Lexed → Type 0
SoundLexed (refused why) = Unit {0}
SoundLexed (awaits a) = Unit {0}
SoundLexed (ends c) = SoundCommand c

begun_sound : (c : Code) → SoundLexed (begun c)
begun_sound code.Number = tt
begun_sound code.Word = tt
begun_sound code.Name = tt
begun_sound code.Assignment = tt
begun_sound code.Call = tt
begun_sound code.Sequence = tt
begun_sound code.Conditional = tt
begun_sound code.Logical = tt
begun_sound code.Not = tt
begun_sound code.Void = tt
begun_sound code.StrictEquality = tt
begun_sound code.Declarator = tt
begun_sound code.ValuedDeclarator = tt
begun_sound code.Empty = tt
begun_sound code.Expression = tt
begun_sound code.Declaration = tt
begun_sound code.BareReturn = tt
begun_sound code.ValuedReturn = tt
begun_sound code.Throw = tt
begun_sound code.If = tt
begun_sound code.IfElse = tt
begun_sound code.Block = tt
begun_sound code.While = tt
begun_sound code.DoWhile = tt
begun_sound code.For = tt
begun_sound code.Break = tt
begun_sound code.Continue = tt
begun_sound code.Case = tt
begun_sound code.Switch = tt
begun_sound code.Body = tt

begun_or_none_sound : (o : Option Code) → SoundLexed (begun_or_none o)
begun_or_none_sound none = tt
begun_or_none_sound (some c) = begun_sound c

listed_sound : {A : Type 0} (o : Option A) (k : A → Lexed) → ((a : A) → SoundLexed (k a)) → SoundLexed (listed o k)
listed_sound none k h = tt
listed_sound (some a) k h = h a

at_least_sound : (n least : ℕ) (c : Command) → (least ≤ n → SoundCommand c) → SoundLexed (cond (ltb n least) (refused bad_operand) (ends c))
at_least_sound n least c h = by (ltb n least) refl
  where
    by : (t : Bool) → ltb n least ≡ t → SoundLexed (cond t (refused bad_operand) (ends c))
    by true e = tt
    by false e = h (ltb-false n least e)

count_ends_sound : (c : Counted) (n : ℕ) → SoundLexed (count_ends c n)
count_ends_sound counted.Sequence n = at_least_sound n 2 (command.Sequence n) (λ h. h)
count_ends_sound (counted.Declaration k) n = at_least_sound n 1 (command.Declaration k n) (λ h. h)
count_ends_sound counted.Block n = tt
count_ends_sound (counted.Case t) n = tt
count_ends_sound counted.Switch n = tt
count_ends_sound counted.Body n = tt

zero_sound : (t : Bool) (a : Awaiting) → SoundLexed (cond t (awaits a) (refused bad_operand))
zero_sound true a = tt
zero_sound false a = tt

lexed_sound : (a : Awaiting) (b : ℕ) → b < 256 → SoundLexed (lexed a b)
lexed_sound awaiting.Command b below = begun_or_none_sound (code_of b)
lexed_sound awaiting.NumberFirst b below = tt
lexed_sound (awaiting.NumberSecond x) b below = tt
lexed_sound (awaiting.NumberThird x y) b below = tt
lexed_sound (awaiting.NumberFourth x y z) b below = tt
lexed_sound awaiting.Word b below = listed_sound (word_of b) _ (λ w. tt)
lexed_sound awaiting.Name b below = tt
lexed_sound awaiting.Assignment b below = tt
lexed_sound awaiting.CallNumber b below = tt
lexed_sound (awaiting.CallCount x) b below = omega arith
lexed_sound awaiting.LogicalOperator b below = listed_sound (operator_of b) _ (λ o. tt)
lexed_sound (awaiting.Declarator v) b below = tt
lexed_sound awaiting.DeclarationKind b below = listed_sound (kind_of b) _ (λ k. tt)
lexed_sound awaiting.ForHead b below = listed_sound (head_of b) _ (λ h. tt)
lexed_sound awaiting.CaseTest b below = listed_sound (flag_of b) _ (λ t. tt)
lexed_sound awaiting.BodyZero b below = zero_sound (eqb b 0) (awaiting.Count counted.Body)
lexed_sound (awaiting.Count c) b below = tt
lexed_sound (awaiting.CountHigh c low) b below = count_ends_sound c (two low b)

-- a verdict that takes the byte leaves a sound model
abbrev SoundVerdict : Verdict → Type 0
SoundVerdict (turned_away why) = Unit {0}
SoundVerdict (taken m) = SoundModel m

spend_sound : (n : ℕ) (t : Table) (k : ℕ → Verdict) → ((n' : ℕ) → SoundVerdict (k n')) → SoundVerdict (spend n t k)
spend_sound zero t k h = tt
spend_sound (suc n) t k h = h n

alone_sound : {A B C : Type 0} (es : List A) (is : List B) (ds : List C) (v : Verdict) → SoundVerdict v → SoundVerdict (alone es is ds v)
alone_sound [] [] [] v h = h
alone_sound [] [] (d ∷ ds) v h = tt
alone_sound [] (i ∷ is) [] v h = tt
alone_sound [] (i ∷ is) (d ∷ ds) v h = tt
alone_sound (e ∷ es) [] [] v h = tt
alone_sound (e ∷ es) [] (d ∷ ds) v h = tt
alone_sound (e ∷ es) (i ∷ is) [] v h = tt
alone_sound (e ∷ es) (i ∷ is) (d ∷ ds) v h = tt

settled_sound : (p : Performed) (n : Spares) → SoundPerformed p → SoundVerdict (settled p n)
settled_sound lacks n h = tt
settled_sound misplaces n h = tt
settled_sound (puts_expr e s) n h =
    let stacks = h.1 in
    spend_sound n.exprs _ _ (λ m. record { stage = tt; stacks = record { exprs = (h.0, stacks.exprs); stmts = stacks.stmts; decls = stacks.decls } })
settled_sound (puts_item i s) n h =
    let stacks = h.1 in
    spend_sound n.stmts _ _ (λ m. record { stage = tt; stacks = record { exprs = stacks.exprs; stmts = (h.0, stacks.stmts); decls = stacks.decls } })
settled_sound (puts_declarator d s) n h =
    let stacks = h.1 in
    spend_sound n.decls _ _ (λ m. record { stage = tt; stacks = record { exprs = stacks.exprs; stmts = stacks.stmts; decls = (h.0, stacks.decls) } })
settled_sound (puts_body ss s) n h = alone_sound s.exprs s.stmts s.decls _ (record { stage = h.0; stacks = h.1 })

after_lexing_sound : (l : Lexed) (s : Stacks) (n : Spares) → SoundLexed l → SoundStacks s → SoundVerdict (after_lexing l s n)
after_lexing_sound (refused why) s n l_sound h = tt
after_lexing_sound (awaits a) s n l_sound h = record { stage = tt; stacks = h }
after_lexing_sound (ends c) s n l_sound h = settled_sound (perform c s) n (perform_sound c s l_sound h)

judge_at_sound : (stage : Stage) (s : Stacks) (n : Spares) (b : ℕ) → b < 256 → SoundStacks s → SoundVerdict (judge_at stage s n b)
judge_at_sound (complete ss) s n b below h = tt
judge_at_sound (reading a) s n b below h = after_lexing_sound (lexed a b) s n (lexed_sound a b below) h

pub taken_keeps_sound : TakenKeepsSound
taken_keeps_sound m m' b below sound e = rw e at (judge_at_sound m.stage m.stacks m.spares b below sound.stacks)
