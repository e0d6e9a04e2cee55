-- What the public calls rest on: the sizes, a fresh start, and reading back what was written.
use Rattle.std.proofs.Common.{◌≡◌, ℕ, ◌+◌, ◌≤◌, true, leb, List, [], ◌∷◌, length, Some, None, Ok, Err, sym, refl, ap, ◌∙◌, subst, arith, le-leb, leb-true}
use borrow.Author.Tests.{lt-leb}
use Rattle.faults.specs.declared.fault.SheetFault.TheVariants.{ShortOutput}
use Rattle.std.specs.List.{range_with_len}
use Rattle.pool.specs.Chain.{nowhere, Chain, places, occurrences}
use Rattle.pool.specs.declared.Pool.{Pool}
use Rattle.pool.proofs.Chains.{occurrences_counting_in}
use Rattle.script.specs.declared.Awaiting.TheVariants as awaiting
use Rattle.script.specs.Stacks.{Stacks}
use Rattle.script.specs.Written.{body_bytes}
use Rattle.script.specs.Judge.{Stage as ModelStage, reading, complete, Model, Spares, fresh, judge_all}
use Rattle.script.specs.Sound.{SoundStage}
use Rattle.script.proofs.Agreement.{accepted_bytes_spell}
use Rattle.script.proofs.Stmts.{written_is_taken}
use Rattle.script.proofs.Spelling.{written_spells}
use Rattle.records.specs.declared.record.Stage.{Stage}
use Rattle.records.specs.declared.record.Stage.TheVariants.{Reading, Complete}
use Rattle.records.specs.declared.record.Draft.{Draft}
use Rattle.records.specs.declared.record.Whole.{Whole}
use Rattle.records.specs.declared.record.Pools.{Pools}
use Rattle.records.specs.declared.record.ExprRecord.{ExprRecord}
use Rattle.records.specs.declared.record.StmtRecord.{StmtRecord}
use Rattle.records.specs.declared.record.DeclRecord.{DeclRecord}
use Rattle.records.specs.Heap.{Heap, Place, expr_at, stmt_at, decl_at, Within, expr_links, stmt_links, decl_links, spare}
use Rattle.records.specs.Owned.{Owns}
use Rattle.records.specs.Embedding.{expr_stack, stmt_stack, decl_stack, stmts_row}
use Rattle.writing.specs.Bytes.{WrittenOut}
use Rattle.records.specs.Holds.{Holds, counted, SameStage, StandsAlone, body_root}
use Rattle.sheet.specs.Calls.{sizes_fit, lengths, AllSpare, ReadsBack, WritesBytes, ClosesFrom}
use Rattle.records.proofs.Moves.{end_out}
use Rattle.shapes.proofs.Surveys.{both}
use Rattle.records.proofs.Tallies.{whole_lengths}

-- sizes that fit
pub fitting_sizes : (e s d m : ℕ) → true ≡ sizes_fit e s d m → (e ≤ 32768) × (s ≤ 4096) × (d ≤ 4096) × (e + (s + d) ≤ m)
fitting_sizes e s d m h =
    let a = both (leb e 32768) _ (sym h) in
    let b = both (leb s 4096) _ a.1 in
    let c = both (leb d 4096) _ b.1 in
    (leb-true e 32768 a.0, leb-true s 4096 b.0, leb-true d 4096 c.0, leb-true (e + (s + d)) m c.1)

-- one table all of whose records are spare
abbrev pub SpareTable : List ℕ → Pool → ℕ → Type 0
SpareTable links p n = (n ≤ nowhere) × (p.count ≡ n) × Chain links p.head p.count × (places links p.head p.count ≡ range_with_len 0 n)

module _ (es : List ExprRecord) (ss : List StmtRecord) (ds : List DeclRecord) (p : Pools)
    (a : SpareTable (expr_links es) p.exprs (length es)) (b : SpareTable (stmt_links ss) p.stmts (length ss)) (c : SpareTable (decl_links ds) p.decls (length ds)) where
  abbrev pub started : Draft
  started = record {
    stage = Reading awaiting.Command;
    exprs = record { top = nowhere; count = 0 };
    stmts = record { top = nowhere; count = 0 };
    decls = record { top = nowhere; count = 0 };
    pools = p;
  }

  pub fresh_held : Holds (record { exprs = es; stmts = ss; decls = ds }) started (fresh (lengths (record { exprs = es; stmts = ss; decls = ds })))
  fresh_held = record {
    sound = record { stage = tt; stacks = record { exprs = tt; stmts = tt; decls = tt } };
    stage = refl;
    alone = tt;
    owned = record {
      short = record { exprs = a.0; stmts = b.0; decls = c.0 };
      inside = tt;
      held = (refl, (refl, (refl, tt)));
      chains = record { exprs = a.2; stmts = b.2; decls = c.2 };
      once = once;
    };
    exprs = refl;
    stmts = refl;
    decls = refl;
    spares = (λ i. record { exprs = a.1 i; stmts = b.1 i; decls = c.1 i });
  }
    where
      once : (q : Place) → Within (record { exprs = es; stmts = ss; decls = ds }) q → 0 + ((0 + (0 + (0 + 0))) + spare q (record { exprs = es; stmts = ss; decls = ds }) p) ≡ 1
      once (expr_at i) w = let o = ap (occurrences i) a.3 ∙ occurrences_counting_in i 0 (length es) (omega arith) (omega arith) in omega arith
      once (stmt_at i) w = let o = ap (occurrences i) b.3 ∙ occurrences_counting_in i 0 (length ss) (omega arith) (omega arith) in omega arith
      once (decl_at i) w = let o = ap (occurrences i) c.3 ∙ occurrences_counting_in i 0 (length ds) (omega arith) (omega arith) in omega arith

  pub fresh_spare : AllSpare (record { exprs = es; stmts = ss; decls = ds }) started
  fresh_spare = record { exprs = a.3; stmts = b.3; decls = c.3 }

-- what a sheet's tables would write is taken again on tables of the same lengths
pub read_back : (h : Heap) (w : Whole) → ReadsBack h w
read_back h w body o = (
  ap (λ (n : Spares). judge_all (body_bytes body) (fresh n)) (whole_lengths h w body o) ∙ written_is_taken body (counted w.pools) o.sound,
  written_spells accepted_bytes_spell written_is_taken body o.sound,
)

-- what was written out is what is promised
module _ (w : Whole) (bytes out out' : List ℕ) where
  pub wrote : (n : ℕ) → WrittenOut (Some n) bytes out out' → WritesBytes (leb (length bytes) (length out)) w bytes out (record { whole = w; answer = Ok n }) out'
  wrote n h = rw (le-leb (length bytes) (length out) h.0) ((λ i. record { whole = w; answer = Ok (h.1 i) }), h.2)

  pub wrote_none : WrittenOut None bytes out out' → WritesBytes (leb (length bytes) (length out)) w bytes out (record { whole = w; answer = Err ShortOutput }) out'
  wrote_none h = rw (lt-leb (length bytes) (length out) h.0) (refl, h.1)

-- a draft is closed by its stage
pub closed_from : (h : Heap) (d : Draft) (m : Model) → Holds h d m → (at : ℕ) → d.stage ≡ Complete at →
    ClosesFrom d.stage m.stage d (Ok (record { body = at; pools = d.pools })) h
closed_from h d m o at e = by d.stage e m.stage o.stage o.sound.stage o.alone o.owned
  where
    by : (s : Stage) → s ≡ Complete at → (t : ModelStage) → SameStage s t → SoundStage t → StandsAlone t m.stacks →
        Owns h d.pools [] ((expr_at d.exprs.top, expr_stack m.stacks.exprs) ∷ (stmt_at d.stmts.top, stmt_stack m.stacks.stmts) ∷ (decl_at d.decls.top, decl_stack m.stacks.decls) ∷ body_root s t) →
        ClosesFrom s t d (Ok (record { body = at; pools = d.pools })) h
    by (Reading a) e t st so al ow = let z : ◌≡◌ {A = ℕ} 0 1 = cc in absurd (omega arith)
    by (Complete at') e (reading a) st so al ow = absurd st
    by (Complete at') e (complete body) st so al ow =
        let z : at ≡ at' = cc in
        let emptied = subst (λ (s : Stacks). Owns h d.pools [] ((expr_at d.exprs.top, expr_stack s.exprs) ∷ (stmt_at d.stmts.top, stmt_stack s.stmts) ∷ (decl_at d.decls.top, decl_stack s.decls) ∷ (stmt_at at', stmts_row body) ∷ [])) al ow in
        ((λ i. Ok (record { body = z i; pools = d.pools })), record { sound = so; owned = end_out (end_out (end_out emptied)) })
