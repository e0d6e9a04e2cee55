use Rattle.std.proofs.Common.{◌≡◌, ℕ, ◌+◌, List, length, sym, ap, ◌∙◌, arith}
use Rattle.writing.specs.Bytes.{body_row_bytes}
use Rattle.writing.proofs.Writing.{small_row}
use Rattle.writing.proofs.Lengths.{body_most, placed_none}
use Rattle.writing.proofs.bytes.bytes_length.Goals as goal

pub returns : goal.returns
returns c row a =
    let bytes = body_row_bytes row in
    let s = small_row c.requires row a in
    let l = body_most row in
    let e = sym (c.write_whole.ensures row a) ∙ placed_none 0 bytes (omega arith) in
    let n : c.write_whole.result ≡ 0 + length bytes = ap (λ (p : List ℕ × ℕ). p.1) e in
    omega arith
