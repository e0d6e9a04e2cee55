-- What a pool answers, by its first spare, its count and the links of its table.
use Rattle.std.specs.Prelude.{ℕ, ◌-◌, cond, List, length, Ok, Err, Result, ◌==◌, nat_lt, slice_index}
use Rattle.pool.specs.declared.Pool.{Pool}
use Rattle.pool.specs.declared.PoolFault.{PoolFault}
use Rattle.pool.specs.declared.PoolFault.TheVariants.{Empty, Outside, TooLong}
use Rattle.pool.specs.Chain.{nowhere}

-- the first spare, unless there is none or it lies outside
abbrev pub taken : {T : Type 0} → T → List ℕ → Pool → Result ℕ (PoolFault T)
taken table links p = cond (p.count == 0) (Err (Empty table)) (cond (nat_lt p.head (length links)) (Ok p.head) (Err (Outside table)))

-- the pool then begins at the link of what was taken
abbrev pub pool_after : List ℕ → Pool → Pool
pool_after links p = cond (p.count == 0) p (cond (nat_lt p.head (length links)) (record { head = slice_index links p.head; count = p.count - 1 }) p)

-- a place outside is turned away, and a count that could not be told
abbrev pub given : {T : Type 0} → T → ℕ → ℕ → Pool → Result (Unit {0}) (PoolFault T)
given table n at p = cond (nat_lt at n) (cond (p.count == nowhere) (Err (TooLong table)) (Ok tt)) (Err (Outside table))
