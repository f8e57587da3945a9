-- A task is one of a term or of a compound.
use Rattle.std.proofs.Common.{◌≡◌, ◌<◌, ◌++◌, ◌∷◌, [], sym, subst, arith}
use Rattle.ml_copy.specs.declared.task.Task.TheVariants.{Term, Compound}
use Rattle.ml_copy.specs.inside.Tasks.{weight, IsCopying}
use Rattle.ml_copy.proofs.TaskLists.{weight_last}
use Rattle.ml_copy.proofs.copy.do_task.Goals as goal

pub copy_one-requires : goal.copy_one-requires
copy_one-requires c =
    let r = c.requires in (
      r.0,
      (
        r.1.0,
        subst (λ x. IsCopying c.args.from.now r.0 r.1.0 c.args.to.now c.args.met.now c.args.copies.now.items (c.args.left.now.items ++ x ∷ []))
            c.in-Term.is r.1.1,
      ),
    )

pub make_compound-requires : goal.make_compound-requires
make_compound-requires c =
    let r = c.requires in (
      r.0,
      (
        r.1.0,
        (
          c.args.met.now,
          (
            c.args.left.now.items,
            subst (λ x. IsCopying c.args.from.now r.0 r.1.0 c.args.to.now c.args.met.now c.args.copies.now.items (c.args.left.now.items ++ x ∷ []))
                c.in-Compound.is r.1.1,
          ),
        ),
      ),
    )

pub returns-in_ok-copy_one-in-Term-clause-state : goal.returns-in_ok-copy_one-in-Term-clause-state
returns-in_ok-copy_one-in-Term-clause-state c base whole k =
    c.in_ok-copy_one-in-Term.ensures.state base whole
    (subst (λ x. IsCopying c.args.from.now base whole c.args.to.now c.args.met.now c.args.copies.now.items (c.args.left.now.items ++ x ∷ [])) c.in-Term.is k)

pub returns-in_ok-copy_one-in-Term-clause-lighter : goal.returns-in_ok-copy_one-in-Term-clause-lighter
returns-in_ok-copy_one-in-Term-clause-lighter c =
    subst (λ x. weight c.args.from.now c.copy_one.new.left.items < weight c.args.from.now (c.args.left.now.items ++ x ∷ [])) (sym c.in-Term.is)
    c.in_ok-copy_one-in-Term.ensures.lighter

pub returns-in_ok-make_compound-in-Compound-clause-state : goal.returns-in_ok-make_compound-in-Compound-clause-state
returns-in_ok-make_compound-in-Compound-clause-state c base whole k =
    c.in_ok-make_compound-in-Compound.ensures.state base whole c.args.met.now c.args.left.now.items
    (subst (λ x. IsCopying c.args.from.now base whole c.args.to.now c.args.met.now c.args.copies.now.items (c.args.left.now.items ++ x ∷ [])) c.in-Compound.is
    k)

pub returns-in_ok-make_compound-in-Compound-clause-lighter : goal.returns-in_ok-make_compound-in-Compound-clause-lighter
returns-in_ok-make_compound-in-Compound-clause-lighter c =
    subst (λ x. weight c.args.from.now c.args.left.now.items < weight c.args.from.now (c.args.left.now.items ++ x ∷ [])) (sym c.in-Compound.is)
    (omega (arith, weight_last c.args.from.now c.args.left.now.items (Compound c.in-Compound.at)))
