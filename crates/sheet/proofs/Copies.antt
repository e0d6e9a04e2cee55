-- Copying: what each call promises gives the promised answer.
use Rattle.std.proofs.Common.{◌≡◌, ℕ, Bool, true, false, leb, List, length, take, drop, replicate, Ok, Err, Result, sym, refl, ap, ◌∙◌, subst, arith}
use mathlib.Core.Option.{some}
use lib.Seq.{take-append_seam}
use Rattle.script.specs.Tree.{Stmts}
use Rattle.script.specs.Judge.{Stage as ModelStage, reading, complete, Spares, Model, fresh, Fed, all_taken, stopped, judge_all}
use Rattle.script.specs.Reading.{Reading, nothing_read, plain_reading}
use Rattle.script.specs.Laws.{AfterFeeding, StageAgrees}
use Rattle.script.specs.Sound.{SoundStage, SoundStmts}
use Rattle.script.specs.Written.{body_bytes}
use Rattle.script.proofs.Agreement.{accepted_bytes_spell}
use Rattle.script.proofs.Stmts.{written_is_taken}
use Rattle.script.proofs.Spelling.{written_spells}
use Rattle.faults.specs.declared.fault.SheetFault.{SheetFault}
use Rattle.faults.specs.declared.fault.ReadFault.{ReadFault}
use Rattle.faults.specs.declared.fault.ReadFault.TheVariants.{Sheet}
use Rattle.records.specs.declared.record.Stage.{Stage}
use Rattle.records.specs.declared.record.Stage.TheVariants.{Reading as StageReading, Complete}
use Rattle.records.specs.declared.record.Draft.{Draft}
use Rattle.records.specs.declared.record.Whole.{Whole}
use Rattle.sheet.specs.declared.feeding.Fed.{Fed as FedSheet}
use Rattle.sheet.specs.declared.closing.Unclosed.{Unclosed}
use Rattle.sheet.specs.declared.output.Wrote.{Wrote}
use Rattle.sheet.specs.declared.copying.Copied.{Copied}
use Rattle.sheet.specs.declared.copying.Refused.{Refused}
use Rattle.records.specs.Heap.{Heap}
use Rattle.records.specs.Holds.{Holds, HoldsWhole, SameStage, counted}
use Rattle.reading.specs.Judged.{FedAs}
use Rattle.sheet.specs.Calls.{sizes_fit, sizes_of, lengths, cleared, Starts, Feeds, Closes, ClosesFrom, WritesBytes, WritesSheet}
use Rattle.sheet.specs.Copies.{refused_after, spared_of, CopiesBody, CopiesStage, CopiesFed, Copies, Spells}

-- writing
module _ (w : Whole) (r : Wrote) (t : ℕ) (out out' : List ℕ) where
  written_copies : (b : Bool) (bytes : List ℕ) (n : ℕ) → r.answer ≡ Ok n → WritesBytes b w bytes out r out' →
      CopiesBody b bytes (counted w.pools) t out (Ok (record { taken = t; written = n; spared = spared_of (counted r.whole.pools) })) out'
  written_copies true bytes n e h =
      let a = ap (λ (x : Wrote). x.answer) h.0 in
      let z : n ≡ length bytes = cc in
      ((λ i. Ok (record { taken = t; written = z i; spared = spared_of (counted (h.0 i).whole.pools) })), h.1)
  written_copies false bytes n e h =
      let a = ap (λ (x : Wrote). x.answer) h.0 in
      let z : ◌≡◌ {A = ℕ} 0 1 = cc in absurd (omega arith)

  short_copies : (b : Bool) (bytes : List ℕ) (f : SheetFault) → r.answer ≡ Err f → WritesBytes b w bytes out r out' →
      CopiesBody b bytes (counted w.pools) t out (refused_after t (Sheet f)) out'
  short_copies true bytes f e h =
      let a = ap (λ (x : Wrote). x.answer) h.0 in
      let z : ◌≡◌ {A = ℕ} 0 1 = cc in absurd (omega arith)
  short_copies false bytes f e h =
      let a = ap (λ (x : Wrote). x.answer) h.0 in
      (cc, h.1)

  module _ (h : Heap) (marks marks' : List ℕ) where
    pub write_copies : (v : Bool) → true ≡ v → WritesSheet v h w marks out r marks' out' → (n : ℕ) → r.answer ≡ Ok n → (body : Stmts) → HoldsWhole h w body →
        CopiesBody (leb (length (body_bytes body)) (length out)) (body_bytes body) (counted w.pools) t out (Ok (record { taken = t; written = n; spared = spared_of (counted r.whole.pools) })) out'
    write_copies true fit promise n e body o = written_copies _ (body_bytes body) n e (promise.0 body o)
    write_copies false fit promise n e body o = let z : ◌≡◌ {A = ℕ} 0 1 = cc in absurd (omega arith)

    pub write_refuses : (v : Bool) → true ≡ v → WritesSheet v h w marks out r marks' out' → (f : SheetFault) → r.answer ≡ Err f → (body : Stmts) → HoldsWhole h w body →
        CopiesBody (leb (length (body_bytes body)) (length out)) (body_bytes body) (counted w.pools) t out (refused_after t (Sheet f)) out'
    write_refuses true fit promise f e body o = short_copies _ (body_bytes body) f e (promise.0 body o)
    write_refuses false fit promise f e body o = let z : ◌≡◌ {A = ℕ} 0 1 = cc in absurd (omega arith)

    pub write_clears : (v : Bool) → true ≡ v → WritesSheet v h w marks out r marks' out' → marks' ≡ cleared marks
    write_clears true fit promise = promise.2
    write_clears false fit promise = let z : ◌≡◌ {A = ℕ} 0 1 = cc in absurd (omega arith)

-- closing
module _ (h : Heap) (d : Draft) (t : ℕ) (out : List ℕ) where
  closed_copies : (w : Whole) (r : Result Copied Refused) (out' : List ℕ) →
      ((body : Stmts) → HoldsWhole h w body → CopiesBody (leb (length (body_bytes body)) (length out)) (body_bytes body) (counted w.pools) t out r out') →
      (s : Stage) (ms : ModelStage) → ClosesFrom s ms d (Ok w) h → CopiesStage ms (counted d.pools) t out r out'
  closed_copies w r out' next (StageReading a) ms e = let z : ◌≡◌ {A = ℕ} 0 1 = cc in absurd (omega arith)
  closed_copies w r out' next (Complete at) (reading a) e = absurd e
  closed_copies w r out' next (Complete at) (complete body) e =
      let made = e.0 in
      let z : w ≡ record { body = at; pools = d.pools } = cc in
      let copies = next body (subst (λ (x : Whole). HoldsWhole h x body) (sym z) e.1) in
      subst (λ (x : Whole). CopiesBody (leb (length (body_bytes body)) (length out)) (body_bytes body) (counted x.pools) t out r out') z copies

  unclosed_refuses : (u : Unclosed) (left : Spares) (s : Stage) (ms : ModelStage) → SameStage s ms → ClosesFrom s ms d (Err u) h →
      CopiesStage ms left t out (refused_after t (Sheet u.fault)) out
  unclosed_refuses u left (StageReading a) (reading b) same e =
      let z : u ≡ record { draft = d; fault = _ } = cc in
      ((λ i. refused_after t (Sheet (z i).fault)), refl)
  unclosed_refuses u left (StageReading a) (complete body) same e = absurd same
  unclosed_refuses u left (Complete at) (reading b) same e = absurd same
  unclosed_refuses u left (Complete at) (complete body) same e =
      let made = e.0 in
      let z : ◌≡◌ {A = ℕ} 0 1 = cc in absurd (omega arith)

  module _ (marks marks' : List ℕ) where
    pub close_copies : (v : Bool) → true ≡ v → (w : Whole) → Closes v h d marks (Ok w) marks' → (r : Result Copied Refused) (out' : List ℕ) →
        ((body : Stmts) → HoldsWhole h w body → CopiesBody (leb (length (body_bytes body)) (length out)) (body_bytes body) (counted w.pools) t out r out') →
        (m : Model) → Holds h d m → CopiesStage m.stage m.spares t out r out'
    close_copies true fit w promise r out' next m o =
        subst (λ (n : Spares). CopiesStage m.stage n t out r out') o.spares (closed_copies w r out' next d.stage m.stage (promise.0 m o))
    close_copies false fit w promise r out' next m o = let z : ◌≡◌ {A = ℕ} 0 1 = cc in absurd (omega arith)

    pub close_refuses : (v : Bool) → true ≡ v → (u : Unclosed) → Closes v h d marks (Err u) marks' → (m : Model) → Holds h d m →
        CopiesStage m.stage m.spares t out (refused_after t (Sheet u.fault)) out
    close_refuses true fit u promise m o = unclosed_refuses u m.spares d.stage m.stage o.stage (promise.0 m o)
    close_refuses false fit u promise m o = let z : ◌≡◌ {A = ℕ} 0 1 = cc in absurd (omega arith)

    pub close_clears : (v : Bool) → true ≡ v → (r : Result Whole Unclosed) → Closes v h d marks r marks' → marks' ≡ cleared marks
    close_clears true fit r promise = promise.2
    close_clears false fit r promise = let z : ◌≡◌ {A = ℕ} 0 1 = cc in absurd (omega arith)

-- starting and feeding
pub start_refuses : (v : Bool) (f : SheetFault) (h h' : Heap) (bytes marks marks' out : List ℕ) → Starts v (Err f) h marks h' marks' →
    Copies v (lengths h) bytes marks out (refused_after 0 (Sheet f)) marks' out
start_refuses false f h h' bytes marks marks' out e =
    let same = e.0 in
    (cc, e.2, refl)
start_refuses true f h h' bytes marks marks' out e = absurd e

started : (v : Bool) (d : Draft) (h h' : Heap) (marks marks' : List ℕ) → Starts v (Ok d) h marks h' marks' → (true ≡ v) × Holds h' d (fresh (lengths h))
started true d h h' marks marks' e = (refl, e.0)
started false d h h' marks marks' e =
    let no = e.0 in
    let z : ◌≡◌ {A = ℕ} 0 1 = cc in absurd (omega arith)

module _ (h : Heap) (d : Draft) (bytes marks : List ℕ) (r : FedSheet) (h' : Heap) (marks' : List ℕ) (m : Model) (o : Holds h d m) where
  fed_as : (v : Bool) → true ≡ v → Feeds v h d marks bytes r h' marks' →
      FedAs (record { count = r.taken; answer = r.answer }) (length bytes) (judge_all bytes m) h' r.draft × (marks' ≡ cleared marks)
  fed_as true fit promise = (promise.0 m o, promise.2)
  fed_as false fit promise = let z : ◌≡◌ {A = ℕ} 0 1 = cc in absurd (omega arith)

module _ (r : FedSheet) (n : ℕ) (h : Heap) (out : List ℕ) where
  feed_copies : (answer : Result Copied Refused) (out' : List ℕ) → r.answer ≡ Ok tt →
      ((m : Model) → Holds h r.draft m → CopiesStage m.stage m.spares r.taken out answer out') →
      (f : Fed) → FedAs (record { count = r.taken; answer = r.answer }) n f h r.draft → CopiesFed f n out answer out'
  feed_copies answer out' e next (all_taken m) fed =
      subst (λ (k : ℕ). CopiesStage m.stage m.spares k out answer out') fed.1 (next m fed.2)
  feed_copies answer out' e next (stopped k why m) fed =
      let no = fed.0 in
      let z : ◌≡◌ {A = ℕ} 0 1 = cc in absurd (omega arith)

  feed_refuses : (fault : ReadFault) → r.answer ≡ Err fault → (f : Fed) → FedAs (record { count = r.taken; answer = r.answer }) n f h r.draft →
      CopiesFed f n out (refused_after r.taken fault) out
  feed_refuses fault e (all_taken m) fed =
      let no = fed.0 in
      let z : ◌≡◌ {A = ℕ} 0 1 = cc in absurd (omega arith)
  feed_refuses fault e (stopped k why m) fed =
      let a = fed.0 in
      let b = fed.1 in
      (cc, refl)

-- what was copied is spelled
module _ (bytes out out' : List ℕ) (n : ℕ) where
  body_spells : (b : Bool) (r : Result Copied Refused) (m : Model) (body : Stmts) (left : Spares) → m.stage ≡ complete body → SoundStmts body → (plain_reading bytes).body ≡ some body →
      CopiesBody b (body_bytes body) left n out r out' → Spells r (all_taken m) bytes out'
  body_spells true r m body left is ok read e =
      let front = ap (take (length (body_bytes body))) e.1 ∙ take-append_seam (body_bytes body) (drop (length (body_bytes body)) out) in
      let again = ap (λ (x : List ℕ). (plain_reading x).body) front ∙ ap (λ (x : Reading). x.body) (written_spells accepted_bytes_spell written_is_taken body ok) in
      subst (λ (x : Result Copied Refused). Spells x (all_taken m) bytes out') (sym e.0) (body, is, read, again)
  body_spells false r m body left is ok read e = subst (λ (x : Result Copied Refused). Spells x (all_taken m) bytes out') (sym e.0) tt

  stage_spells : (r : Result Copied Refused) (m : Model) (s : ModelStage) → m.stage ≡ s → SoundStage s → StageAgrees s (plain_reading bytes) →
      CopiesStage s m.spares n out r out' → Spells r (all_taken m) bytes out'
  stage_spells r m (reading a) is ok agrees e = subst (λ (x : Result Copied Refused). Spells x (all_taken m) bytes out') (sym e.0) tt
  stage_spells r m (complete body) is ok agrees e = body_spells _ r m body m.spares is ok agrees.1 e

  after_spells : (r : Result Copied Refused) (fed : FedSheet) (h : Heap) (f : Fed) → FedAs (record { count = fed.taken; answer = fed.answer }) n f h fed.draft → AfterFeeding f bytes nothing_read →
      CopiesFed f n out r out' → Spells r f bytes out'
  after_spells r fed h (all_taken m) fed_so after e = stage_spells r m m.stage refl fed_so.2.sound.stage after.stage e
  after_spells r fed h (stopped k why m) fed_so after e = subst (λ (x : Result Copied Refused). Spells x (stopped k why m) bytes out') (sym e.0) tt

  judged_spells : (r : Result Copied Refused) (fed : FedSheet) (h : Heap) (left : Spares) →
      FedAs (record { count = fed.taken; answer = fed.answer }) n (judge_all bytes (fresh left)) h fed.draft →
      CopiesFed (judge_all bytes (fresh left)) n out r out' → Spells r (judge_all bytes (fresh left)) bytes out'
  judged_spells r fed h left fed_so e =
      after_spells r fed h (judge_all bytes (fresh left)) fed_so (accepted_bytes_spell (fresh left) nothing_read bytes (record { stage = (refl, refl); stacks = refl })) e

-- tables and marks of the same lengths
abbrev pub SameLengths : Heap → List ℕ → Heap → List ℕ → Type 0
SameLengths h marks h' marks' =
    (length h'.exprs ≡ length h.exprs) × (length h'.stmts ≡ length h.stmts) × (length h'.decls ≡ length h.decls) × (length marks' ≡ length marks)

pub still_fit : (h : Heap) (marks : List ℕ) (h' : Heap) (marks' : List ℕ) → SameLengths h marks h' marks' → true ≡ sizes_of h marks → true ≡ sizes_of h' marks'
still_fit h marks h' marks' same fit = fit ∙ sym (λ i. sizes_fit (same.0 i) (same.1 i) (same.2 i) (same.3 i))

cleared_again : (marks marks' : List ℕ) → length marks' ≡ length marks → cleared marks' ≡ cleared marks
cleared_again marks marks' same = ap (λ (n : ℕ). replicate n 0) same

-- a fresh draft that was fed
module _ (h h₁ h₂ : Heap) (marks marks₁ marks₂ bytes out : List ℕ) (d : Draft) (r : FedSheet)
    (begun : Starts (sizes_of h marks) (Ok d) h marks h₁ marks₁) (same : SameLengths h marks h₁ marks₁) (fed : Feeds (sizes_of h₁ marks₁) h₁ d marks₁ bytes r h₂ marks₂) where
  pub fits : true ≡ sizes_of h marks
  fits = (started (sizes_of h marks) d h h₁ marks marks₁ begun).0

  comes_to : FedAs (record { count = r.taken; answer = r.answer }) (length bytes) (judge_all bytes (fresh (lengths h))) h₂ r.draft × (marks₂ ≡ cleared marks₁)
  comes_to = fed_as h₁ d bytes marks₁ r h₂ marks₂ (fresh (lengths h)) (started (sizes_of h marks) d h h₁ marks marks₁ begun).1 (sizes_of h₁ marks₁) (still_fit h marks h₁ marks₁ same fits) fed

  -- a byte was refused
  pub fed_refuses : (fault : ReadFault) → r.answer ≡ Err fault → Copies (sizes_of h marks) (lengths h) bytes marks out (refused_after r.taken fault) marks₂ out
  fed_refuses fault e =
      subst (λ (v : Bool). Copies v (lengths h) bytes marks out (refused_after r.taken fault) marks₂ out) fits
      (feed_refuses r (length bytes) h₂ out fault e _ comes_to.0, comes_to.1 ∙ cleared_again marks marks₁ same.3)

  -- every byte was taken, and what is held then is copied
  module _ (taken : r.answer ≡ Ok tt) (answer : Result Copied Refused) (out' : List ℕ)
      (next : (m : Model) → Holds h₂ r.draft m → CopiesStage m.stage m.spares r.taken out answer out') where
    taken_copies : CopiesFed (judge_all bytes (fresh (lengths h))) (length bytes) out answer out'
    taken_copies = feed_copies r (length bytes) h₂ out answer out' taken next _ comes_to.0

    pub fed_copies : (marks' : List ℕ) → marks' ≡ cleared marks₂ → length marks₂ ≡ length marks₁ → Copies (sizes_of h marks) (lengths h) bytes marks out answer marks' out'
    fed_copies marks' clear still =
        subst (λ (v : Bool). Copies v (lengths h) bytes marks out answer marks' out') fits
        (taken_copies, clear ∙ cleared_again marks₁ marks₂ still ∙ cleared_again marks marks₁ same.3)

    pub fed_spells : Spells answer (judge_all bytes (fresh (lengths h))) bytes out'
    fed_spells = judged_spells bytes out out' (length bytes) answer r h₂ (lengths h) comes_to.0 taken_copies
