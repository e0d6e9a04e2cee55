-- A body that breaks no rule of feeding is fused to one that breaks none.
use Rattle.std.proofs.Common.{◌≡◌, suc, false, ◌&&◌, leb, refl, ap, ◌∙◌, ap₂}
use Rattle.script.specs.Sound.{SoundStmts, SoundStmt, SoundAlternate, SoundCases}
use Rattle.script.specs.Stacks.{lexical_declaration, defaults, some_case, sound_cases}
use Rattle.script.specs.Tree.{Stmts, Stmt, empty, expression, declaration, return_of, throw, if_then, block, while, do_while, for, switch}
use Rattle.script.specs.Tree.{break, continue, Cases, no_cases, case_then, absent, present, Alternate, no_alternate, alternate, no_stmts}
use Rattle.script.specs.Tree.{stmt_then}
use Rattle.hosts.specs.Meaning.{Lawful}
use Rattle.rules.specs.Holder.{Holder, other_list, loop_block, body_list}
use Rattle.rules.specs.JumpCount.{jumps_list}
use Rattle.rules.specs.Fuse.{Setting, minimize_list, fuse_statement, fuse_cases, fuse_list, do_while_holder, fuse_alternate}
use Rattle.rules.specs.Laws.{FusingKeepsTheRules}
use Rattle.rules.proofs.SoundMinimize.{minimize_statements_sound}

module _ (m : Setting) (law : Lawful m.host) where
  minimize_list_sound : (h : Holder) (ss : Stmts) → SoundStmts ss → SoundStmts (minimize_list m h ss)
  minimize_list_sound h ss p =
      minimize_statements_sound (record { sequences = m.sequences; join_vars = m.join_vars; host = m.host; holder = h }) law
      (jumps_list ss) ss p

  fuse_statement_branch : (h : Holder) (x : Stmt) → lexical_declaration x ≡ false → lexical_declaration (fuse_statement m h x) ≡ false
  fuse_statement_branch h empty e = e
  fuse_statement_branch h (expression x) e = e
  fuse_statement_branch h (declaration k ds) e = e
  fuse_statement_branch h (return_of v) e = e
  fuse_statement_branch h (throw x) e = e
  fuse_statement_branch h (if_then t c a) e = e
  fuse_statement_branch h (block ss) e = e
  fuse_statement_branch h (while t b) e = e
  fuse_statement_branch h (do_while b t) e = e
  fuse_statement_branch h (for i t u b) e = e
  fuse_statement_branch h (switch d cs) e = e
  fuse_statement_branch h break e = e
  fuse_statement_branch h continue e = e

  fuse_cases_defaults : (cs : Cases) → defaults (fuse_cases m cs) ≡ defaults cs
  fuse_cases_defaults no_cases = refl
  fuse_cases_defaults (case_then absent ss cs) = ap suc (fuse_cases_defaults cs)
  fuse_cases_defaults (case_then (present e) ss cs) = fuse_cases_defaults cs

  fuse_cases_some : (cs : Cases) → some_case (fuse_cases m cs) ≡ some_case cs
  fuse_cases_some no_cases = refl
  fuse_cases_some (case_then t ss cs) = refl

  fuse_sound_cases : (cs : Cases) → sound_cases (fuse_cases m cs) ≡ sound_cases cs
  fuse_sound_cases cs = ap₂ (λ a n. a && leb n 1) (fuse_cases_some cs) (fuse_cases_defaults cs)

  mutual
    fuse_statement_sound : (x : Stmt) (h : Holder) → SoundStmt x → SoundStmt (fuse_statement m h x)
    fuse_statement_sound empty h p = p
    fuse_statement_sound (expression e) h p = p
    fuse_statement_sound (declaration k ds) h p = p
    fuse_statement_sound (return_of v) h p = p
    fuse_statement_sound (throw e) h p = p
    fuse_statement_sound (if_then t c a) h p =
        (p.0, fuse_statement_branch other_list c p.1, fuse_statement_sound c other_list p.2, fuse_alternate_sound a p.3)
    fuse_statement_sound (block ss) h p = minimize_list_sound h (fuse_list m ss) (fuse_list_sound ss p)
    fuse_statement_sound (while t b) h p = (p.0, fuse_statement_branch loop_block b p.1, fuse_statement_sound b loop_block p.2)
    fuse_statement_sound (do_while b t) h p = (
      fuse_statement_branch (do_while_holder (m.host.truth t)) b p.0,
      fuse_statement_sound b (do_while_holder (m.host.truth t))
          p.1,
      p.2,
    )
    fuse_statement_sound (for i t u b) h p =
        (p.0, p.1, p.2, fuse_statement_branch loop_block b p.3, fuse_statement_sound b loop_block p.4)
    fuse_statement_sound (switch d cs) h p = (p.0, fuse_sound_cases cs ∙ p.1, fuse_cases_sound cs p.2)
    fuse_statement_sound break h p = p
    fuse_statement_sound continue h p = p

    fuse_alternate_sound : (a : Alternate) → SoundAlternate a → SoundAlternate (fuse_alternate m a)
    fuse_alternate_sound no_alternate p = tt
    fuse_alternate_sound (alternate x) p = (fuse_statement_branch other_list x p.0, fuse_statement_sound x other_list p.1)

    pub fuse_list_sound : (ss : Stmts) → SoundStmts ss → SoundStmts (fuse_list m ss)
    fuse_list_sound no_stmts p = tt
    fuse_list_sound (stmt_then x xs) p = (fuse_statement_sound x other_list p.0, fuse_list_sound xs p.1)

    fuse_cases_sound : (cs : Cases) → SoundCases cs → SoundCases (fuse_cases m cs)
    fuse_cases_sound no_cases p = tt
    fuse_cases_sound (case_then t ss cs) p =
        (p.0, minimize_list_sound other_list (fuse_list m ss) (fuse_list_sound ss p.1), fuse_cases_sound cs p.2)

pub fusing_keeps_the_rules : FusingKeepsTheRules
fusing_keeps_the_rules m law body p = minimize_list_sound m law body_list (fuse_list m body) (fuse_list_sound m law body p)
