-- Declarators without values for noted names.
use Rattle.std.proofs.Common.{◌≡◌, ℕ, ◌+◌, ◌<◌, ◌≤◌, List, [], ◌∷◌, ◌++◌, length, sym, ap, arith, length-append}
use Rattle.std.specs.Prelude.{reverse}
use Rattle.std.proofs.lemmas.List.{reverse-append}
use Rattle.script.specs.Tree.{Declarators, absent, declarator_then}
use Rattle.records.specs.declared.record.DeclRecord.{DeclRecord}
use Rattle.records.specs.declared.record.ExprRecord.{ExprRecord}
use Rattle.records.specs.declared.record.Pools.{Pools}
use Rattle.records.specs.declared.record.StmtRecord.{StmtRecord}
use Rattle.records.specs.Embedding.{declarators_row}
use Rattle.records.specs.Heap.{Heap, Place, decl_at}
use Rattle.records.specs.Owned.{Owns, Root}
use Rattle.records.specs.Readable.{tables}
use Rattle.records.proofs.Tallies.{lengths}
use Rattle.rules.specs.Unreachable.{bare_declarators}
use Rattle.moves.specs.Moved.{Moved, Turns}
use Rattle.moves.proofs.Frames.{then_move}
use Rattle.moves.proofs.Spared.{spared}
use Rattle.unreachable.specs.declared.noting.NotedNames.{NotedNames}
use Rattle.unreachable.specs.Noted.{Notes}

-- the declarators of the names that were taken from the end of the list, and enough spares for the others
pub record HalfBare (h h' : Heap) (p' : Pools) (loose : List Place) (others : List Root) (l : List ℕ) (row : ℕ) (taken : List ℕ) : Type 0 where
  pub moved : Moved h h' p' loose ((decl_at row, declarators_row (bare_declarators (reverse taken))) ∷ others)
  pub enough : length l ≤ length taken + p'.decls.count

abbrev pub Baring : List DeclRecord → List DeclRecord → Pools → Pools → NotedNames → ℕ → List ℕ → Type 0
Baring decls decls' p p' noted row taken =
    (es : List ExprRecord) (ss : List StmtRecord) (l : List ℕ) → Notes noted l → length l ≤ p.decls.count → (loose : List Place) (others : List Root)
    → Owns (tables es ss decls) p loose others
    → HalfBare (tables es ss decls) (tables es ss decls') p' loose others l row taken

pub one_bare : (decls decls₁ decls₂ : List DeclRecord) (p p₁ p₂ : Pools) (noted : NotedNames) (row row' name : ℕ) (taken : List ℕ)
    → length taken < length noted.names.items → length decls₂ ≡ length decls₁ → Baring decls decls₁ p p₁ noted row taken
    → ((es : List ExprRecord) (ss : List StmtRecord) (ds : Declarators) → 1 ≤ p₁.decls.count
    → Turns (tables es ss decls₁) p₁ (tables es ss decls₂) p₂ [] ((decl_at row, declarators_row ds) ∷ [])
    ((decl_at row', declarators_row (declarator_then name absent ds)) ∷ []))
    → Baring decls decls₂ p p₂ noted row' (taken ++ (name ∷ []))
one_bare decls decls₁ decls₂ p p₁ p₂ noted row row' name taken more same inv pushes es ss l q s loose others o =
    let t = inv es ss l q s loose others o in
    let u = t.enough in
    let c = ap length q.names in
    let ds : Declarators = bare_declarators (reverse taken) in
    let m = pushes es ss ds (omega arith) loose others t.moved.owned in
    let lengths_same : lengths (tables es ss decls₁) ≡ lengths (tables es ss decls₂) =
    ap (λ (v : ℕ). record { exprs = length es; stmts = length ss; decls = v }) (sym same) in
    let z = spared loose others [] ((decl_at row, declarators_row ds) ∷ []) ((decl_at row', declarators_row (declarator_then name absent ds)) ∷ [])
    lengths_same t.moved.owned m.owned in
    let y = z.decls in
    let k = length-append taken (name ∷ []) in
    record { moved = rw (reverse-append taken (name ∷ [])) (then_move t.moved (λ v. m)); enough = omega arith }
