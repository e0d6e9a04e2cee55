-- The rule on declarations.
use Rattle.std.specs.Prelude.{Bool, true, false}
use Rattle.script.specs.declared.DeclarationKind.{DeclarationKind}
use Rattle.script.specs.Tree.{Declarators, no_declarators, declarator_then, Stmts, stmt_then, declaration, absent, present}
use Rattle.rules.specs.Equal.{same_kind}
use Rattle.rules.specs.Merging.{LastDeclaration?, last_declaration, no_last_declaration, last_declaration?, Worked}
use Rattle.rules.specs.Merging.{merge_leading_assignments_to_declaration}
use Rattle.rules.specs.Returns.{value_or_void_0}

abbrev pub append_declarators : Declarators → Declarators → Declarators
append_declarators no_declarators es = es
append_declarators (declarator_then n p ds) es = declarator_then n p (append_declarators ds es)

abbrev pub join_declarations_as : Bool → DeclarationKind → Declarators → DeclarationKind → Declarators → Stmts → Stmts
join_declarations_as true k₀ ds₀ k ds r = stmt_then (declaration k₀ (append_declarators ds₀ ds)) r
join_declarations_as false k₀ ds₀ k ds r = stmt_then (declaration k ds) (stmt_then (declaration k₀ ds₀) r)

abbrev pub join_declarations : Bool → DeclarationKind → Declarators → {r : Stmts} → LastDeclaration? r → Stmts
join_declarations true k ds (last_declaration k₀ ds₀ r) = join_declarations_as (same_kind k₀ k) k₀ ds₀ k ds r
join_declarations true k ds {r} no_last_declaration = stmt_then (declaration k ds) r
join_declarations false k ds {r} v = stmt_then (declaration k ds) r

abbrev pub handle_variable_declaration : Bool → DeclarationKind → Declarators → Stmts → Stmts
handle_variable_declaration j k no_declarators r = join_declarations j k no_declarators (last_declaration? r)
handle_variable_declaration j k (declarator_then n absent ds) r = join_declarations j k (declarator_then n absent ds) (last_declaration? r)
handle_variable_declaration j k (declarator_then n (present e) ds) r =
    let w : Worked = merge_leading_assignments_to_declaration false e r in
    join_declarations j k (declarator_then n (present (value_or_void_0 w.target)) ds) (last_declaration? w.results)
