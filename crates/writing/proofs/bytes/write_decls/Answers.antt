use Rattle.std.proofs.Common.{refl}
use Rattle.records.proofs.Tables.{decls_tabled}
use Rattle.writing.specs.Bytes.{first_decl_bytes}
use Rattle.writing.proofs.Writing.{going_from, going_here, going_on, going_off, decls_law}
use Rattle.writing.proofs.bytes.write_decls.Goals as goal

pub loop-at-init : goal.loop-at-init
loop-at-init c = going_from c.requires

pub write_decl-end-requires : goal.write_decl-end-requires
write_decl-end-requires c = record {
  some = c.loop-at-test.true;
  writable = (going_here decls_tabled c.loop-at.invariant c.loop-at-test.true).writable;
}

pub bounds-tables-at : goal.bounds-tables-at
bounds-tables-at c = (going_here decls_tabled c.loop-at.invariant c.loop-at-test.true).opened.within

pub loop-at-smaller : goal.loop-at-smaller
loop-at-smaller c = (going_here decls_tabled c.loop-at.invariant c.loop-at-test.true).opened.next_less

pub loop-at-preserved : goal.loop-at-preserved
loop-at-preserved c = going_on decls_tabled c.loop-at.invariant c.loop-at-test.true first_decl_bytes decls_law c.write_decl-end.ensures

pub returns : goal.returns
returns c = going_off decls_tabled c.loop-at.invariant c.loop-at-test.false (λ rest. refl)
