-- Where the mergers of returns and of throws stop.
use Rattle.std.specs.Prelude.{◌≡◌, ℕ, zero, suc}
use Rattle.script.specs.Tree.{Expr, Stmts, present, no_alternate, stmt_then, return_of, throw, if_then, conditional}
use Rattle.hosts.specs.Known.{bare}
use Rattle.rules.specs.Fuse.{fuse_body}
use Rattle.rules.specs.Marked.{under, call_f, call_g, one, only, two}

-- `g() ? 1 : g() ? 1 : .. : 2`, so many conditionals in a row
abbrev pub conditionals : ℕ → Expr
conditionals zero = two
conditionals (suc n) = conditional call_g one (conditionals n)

-- `if (f()) return 1; return ..`, and the same of throw
abbrev pub two_returns : Expr → Stmts
two_returns e = stmt_then (if_then call_f (return_of (present one)) no_alternate) (only (return_of (present e)))

abbrev pub two_throws : Expr → Stmts
two_throws e = stmt_then (if_then call_f (throw one) no_alternate) (only (throw e))

-- a second argument with 499 conditionals in a row still takes in the first, one with 500 does not
abbrev pub StopsAt500 : Type 0
StopsAt500 =
    (fuse_body (under bare) (two_returns (conditionals 499)) ≡ only (return_of (present (conditional call_f one (conditionals 499)))))
    × (fuse_body (under bare) (two_returns (conditionals 500)) ≡ two_returns (conditionals 500))
    × (fuse_body (under bare) (two_throws (conditionals 499)) ≡ only (throw (conditional call_f one (conditionals 499))))
    × (fuse_body (under bare) (two_throws (conditionals 500)) ≡ two_throws (conditionals 500))
