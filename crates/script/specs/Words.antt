-- The word that each table is told by.
use Rattle.std.specs.Prelude.{ℕ, List, codes}
use Rattle.script.specs.declared.Table.{Table}
use Rattle.script.specs.declared.Table.TheVariants.{Expressions, Statements, Declarators}

abbrev pub table_word : Table → List ℕ
table_word Expressions = codes "expression"
table_word Statements = codes "statement"
table_word Declarators = codes "declarator"
