-- The words that a fault is told by, from those of its table.
use Rattle.std.specs.Prelude.{ℕ, List, Option, Some, codes}
use Rattle.std.specs.Fmt.{◌++?◌}
use Rattle.pool.specs.declared.PoolFault.{PoolFault}
use Rattle.pool.specs.declared.PoolFault.TheVariants.{Empty, Outside, TooLong}

abbrev pub fault_words : {T : Type 0} → (T → Option (List ℕ)) → PoolFault T → Option (List ℕ)
fault_words word (Empty table) = Some (codes "no ") ++? (word table ++? Some (codes " record is spare"))
fault_words word (Outside table) = Some (codes "a spare record lies outside its table")
fault_words word (TooLong table) = Some (codes "a table has too many records")
