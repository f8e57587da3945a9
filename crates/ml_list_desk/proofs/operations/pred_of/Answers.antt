use Rattle.std.proofs.Common.{length, ap, sym, ◌∙◌}
use Rattle.ml_list_desk.proofs.StoredHeads.{counted}
use Rattle.ml_search.specs.Program.{arity_of}
use Rattle.ml_term.proofs.CompoundTrees.{seen_compound}
use Rattle.ml_term.specs.Seen.{seen}
use Rattle.ml_list_desk.proofs.operations.pred_of.Goals as goal

pub returns-in_ok-copy_of-in-Cmp-clause-arity : goal.returns-in_ok-copy_of-in-Cmp-clause-arity
returns-in_ok-copy_of-in-Cmp-clause-arity c =
    let f = c.in-Cmp.f in
    let ts = c.in-Cmp.ts in
    ap length c.as_slice.ensures.same ∙ sym (counted ts) ∙ ap arity_of (sym (ap seen c.in-Cmp.is ∙ seen_compound f ts))
