use Rattle.std.proofs.Common.{◌≡◌, ℕ, List, ◌++◌, drop}
use Rattle.writing.specs.Bytes.{placed}
use Rattle.writing.proofs.bytes.put_all.Given as goal

-- those that are left are still to be put
abbrev pub invariant-loop-byte : goal.invariant-loop-byte
invariant-loop-byte l =
    (rest : List ℕ) → placed l.initial.out l.at (l.bytes ++ rest) ≡ placed l.out l.end (drop l.byte-index l.bytes ++ rest)
