-- How many blocks the fusing of the marked bodies opens.
use Rattle.std.specs.Prelude.{◌≡◌, ℕ, List, [], ◌∷◌}
use Rattle.script.specs.Tree.{stmt_then, expression, sequence, expr_then, no_exprs, block}
use Rattle.hosts.specs.Known.{bare}
use Rattle.rules.specs.Opened.{opened_in_body}
use Rattle.rules.specs.Marked.{Case, under, call_f, call_g, only}

-- fusing each body opens so many blocks
abbrev pub AllOpen : ℕ → List Case → Type 0
AllOpen n [] = Unit {0}
AllOpen n (c ∷ cs) = (opened_in_body c.setting c.body ≡ n) × AllOpen n cs

-- `{ f(); g() }` gives `f(), g()` and opens the block
abbrev pub marked_block : List Case
marked_block =
    record {
      setting = under bare;
      body = only (block (stmt_then (expression call_f) (only (expression call_g))));
      fused = only (expression (sequence call_f (expr_then call_g no_exprs)));
    }
    ∷ []
