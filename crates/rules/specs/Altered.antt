-- Whether fusing alters a body.
use Rattle.std.specs.Prelude.{◌≡◌, Bool, true, false}
use Rattle.script.specs.Tree.{Stmts}
use Rattle.rules.specs.Equal.{stmts_eq}
use Rattle.rules.specs.Fuse.{Setting, fuse_body}

abbrev pub differ : {xs ys : Stmts} → Dec (xs ≡ ys) → Bool
differ (yes e) = false
differ (no e) = true

abbrev pub altered : Setting → Stmts → Bool
altered m body = differ (stmts_eq (fuse_body m body) body)
