use Rattle.std.proofs.Common.{◌≡◌, ℕ, ◌+◌, ◌≤◌, List, [], length, sym, refl, ap, ◌∙◌, arith}
use Rattle.script.specs.Written.{body_bytes}
use Rattle.records.specs.Heap.{stmt_at}
use Rattle.records.specs.Lent.{heap}
use Rattle.records.specs.Embedding.{stmts_row}
use Rattle.writing.specs.Bytes.{body_row_bytes, placed}
use Rattle.writing.proofs.TreeBytes.{body_is}
use Rattle.writing.proofs.Writing.{limited, small_row}
use Rattle.writing.proofs.Lengths.{body_most, placed_is}
use Rattle.writing.proofs.bytes.write_body.Goals as goal

pub returns-then-bytes_length-out : goal.returns-then-bytes_length-out
returns-then-bytes_length-out c ss a s =
    let b : length (body_row_bytes (stmts_row ss)) ≡ length (body_bytes ss) = ap length (body_is ss s) in
    let n = c.bytes_length.ensures (stmts_row ss) a in
    let t = c.if-bytes_length-out.true in
    (omega arith, refl)

pub returns : goal.returns
returns c ss a s =
    let h = heap c.args.tables in
    let out = c.args.out.now in
    let bytes = body_bytes ss in
    let r = stmts_row ss in
    let b : body_row_bytes r ≡ bytes = body_is ss s in
    let l : length (body_row_bytes r) ≡ length bytes = ap length b in
    let n = c.bytes_length.ensures r a in
    let t = c.if-bytes_length-out.false in
    let m = body_most r in
    let k = small_row (limited h (stmt_at c.args.body) c.requires.readable c.requires.limited) r a in
    let fits : length bytes ≤ length out = omega arith in
    let e = sym (c.write_whole.ensures r a) ∙ ap (placed out 0) b ∙ placed_is [] out bytes fits (omega arith) in
    let z : c.write_whole.result ≡ 0 + length bytes = ap (λ (p : List ℕ × ℕ). p.1) e in
    (fits, omega arith, ap (λ (p : List ℕ × ℕ). p.0) e)
