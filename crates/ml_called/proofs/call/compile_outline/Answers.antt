-- The outline's code is that of the called body.
use Rattle.std.proofs.Common.{length, sym, ap, ◌∙◌, subst}
use Rattle.ml_term.specs.Tree.{Tree}
use Rattle.ml_heap.specs.Changes.{stands_for}
use Rattle.ml_search.specs.Bodies.{body_from}
use Rattle.ml_compile.specs.Spells.{IsBlock}
use Rattle.ml_called.specs.Called.{numbered, value_at}
use Rattle.ml_called.specs.inside.Outlines.{outline, parts}
use Rattle.ml_called.proofs.RestoredTerms.{terms_numbered, body_restored, numbered_alike}
use Rattle.ml_called.proofs.Slots.{cells_fit}
use Rattle.ml_called.proofs.call.compile_outline.Goals as goal

pub returns-clause-called : goal.returns-clause-called
returns-clause-called c =
    let h = c.args.heap.now in
    let old = c.args.slots.now.items in
    let new = c.outline_at.new.slots.items in
    let t = stands_for h c.args.at in
    let had = c.in_ok-body.ensures.cells in
    record {
      body = body_from (outline 0 t);
      cells = had.cells;
      block = subst (λ (x : Tree). IsBlock c.in_ok-code.code 0 (body_from x)) c.in_ok-body.ensures.outline c.in_ok-code.ensures;
      terms = terms_numbered t ∙ (ap (numbered 0) (sym had.trees) ∙ numbered_alike (stands_for h) 0 had.cells);
      slots = had.slots;
      inside = had.inside;
      same = body_restored (value_at h new (length old)) t (cells_fit h old new (parts t) had);
    }
