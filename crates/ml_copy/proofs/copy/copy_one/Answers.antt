-- A constant or a variable is copied at once, and a compound leaves the tasks of its arguments.
use Rattle.std.proofs.Common.{rules, w64, SFits, ◌≡◌, ◌<◌, ◌++◌, ◌∷◌, [], ℕ, List, map, reverse, refl, sym, ap, ◌∙◌, subst, arith}
use Rattle.std.proofs.lemmas.Int.{to_z-of_z}
use Rattle.ml_term.specs.Tree.{Tree, variable, integer, atom, compound}
use Rattle.ml_term.proofs.TermSizes.{nodes_above_zero}
use Rattle.ml_heap.specs.Changes.{Changes, stands_for, IsVariable, number, HasOneMore}
use Rattle.ml_copy.specs.declared.task.Task.TheVariants.{Term, Compound}
use Rattle.ml_copy.specs.inside.Tasks.{IsCompound, weight, IsCopying}
use Rattle.ml_copy.proofs.TaskLists.{weight_last, less_weight}
use Rattle.ml_copy.proofs.CopyStates.{is_inside, constant_copied, variable_copied, compound_left}
use Rattle.ml_copy.proofs.copy.copy_one.Goals as goal

is_its_variable : (t : Tree) → IsVariable t → t ≡ variable (number t)
is_its_variable (variable n) v = refl
is_its_variable (integer z) v = absurd v
is_its_variable (atom f) v = absurd v
is_its_variable (compound f ts) v = absurd v

pub look-requires : goal.look-requires
look-requires c =
    is_inside c.args.from.now c.requires.0 c.requires.1.0 c.args.to.now c.args.met.now c.args.copies.now.items c.args.left.now.items c.args.at c.requires.1.1

pub returns-in_ok-push-in-Var-clause-state : goal.returns-in_ok-push-in-Var-clause-state
returns-in_ok-push-in-Var-clause-state c base whole k =
    let e : stands_for c.args.from.now c.args.at ≡ variable c.number_at.result =
    is_its_variable (stands_for c.args.from.now c.args.at) c.in-Var.ensures.shown.1 ∙ ap variable (sym c.number_at.ensures) in
    subst (λ qs. IsCopying c.args.from.now base whole c.store_variable.new.self c.store_variable.new.met qs c.args.left.now.items)
    (sym c.in_ok-push-in-Var.ensures.items)
    (variable_copied c.args.from.now base whole c.args.to.now c.args.met.now c.args.copies.now.items c.args.left.now.items c.args.at k
    c.store_variable.new.self c.store_variable.new.met c.in_ok-copy-in-Var.copy c.number_at.result e c.in_ok-copy-in-Var.ensures.grown
    (c.in_ok-copy-in-Var.ensures.stored base k.known.0 k.known.1.0))

pub returns-in_ok-push-in-Var-clause-lighter : goal.returns-in_ok-push-in-Var-clause-lighter
returns-in_ok-push-in-Var-clause-lighter c =
    omega (arith, weight_last c.args.from.now c.args.left.now.items (Term c.args.at), nodes_above_zero (stands_for c.args.from.now c.args.at))

pub returns-in_ok-push-in-Int-clause-state : goal.returns-in_ok-push-in-Int-clause-state
returns-in_ok-push-in-Int-clause-state c base whole k =
    let fits : SFits w64 c.in-Int.value = search rules in
    let made = subst (λ z. HasOneMore c.args.to.now c.new_int.new.self c.in_ok-copy-in-Int.copy (integer z)) (to_z-of_z w64 c.in-Int.value fits)
    c.in_ok-copy-in-Int.ensures.made in
    subst (λ qs. IsCopying c.args.from.now base whole c.new_int.new.self c.args.met.now qs c.args.left.now.items) (sym c.in_ok-push-in-Int.ensures.items)
    (constant_copied c.args.from.now base whole c.args.to.now c.args.met.now c.args.copies.now.items c.args.left.now.items c.args.at k
    c.new_int.new.self c.in_ok-copy-in-Int.copy (integer c.in-Int.value) made c.in_ok-copy-in-Int.ensures.counted
    c.in-Int.ensures.shown refl refl)

pub returns-in_ok-push-in-Int-clause-lighter : goal.returns-in_ok-push-in-Int-clause-lighter
returns-in_ok-push-in-Int-clause-lighter c =
    omega (arith, weight_last c.args.from.now c.args.left.now.items (Term c.args.at), nodes_above_zero (stands_for c.args.from.now c.args.at))

pub returns-in_ok-push-in-Atom-clause-state : goal.returns-in_ok-push-in-Atom-clause-state
returns-in_ok-push-in-Atom-clause-state c base whole k =
    subst (λ qs. IsCopying c.args.from.now base whole c.new_atom.new.self c.args.met.now qs c.args.left.now.items) (sym c.in_ok-push-in-Atom.ensures.items)
    (constant_copied c.args.from.now base whole c.args.to.now c.args.met.now c.args.copies.now.items c.args.left.now.items c.args.at k
    c.new_atom.new.self c.in_ok-copy-in-Atom.copy (atom c.in-Atom.name.now) c.in_ok-copy-in-Atom.ensures.made c.in_ok-copy-in-Atom.ensures.counted
    c.in-Atom.ensures.shown refl refl)

pub returns-in_ok-push-in-Atom-clause-lighter : goal.returns-in_ok-push-in-Atom-clause-lighter
returns-in_ok-push-in-Atom-clause-lighter c =
    omega (arith, weight_last c.args.from.now c.args.left.now.items (Term c.args.at), nodes_above_zero (stands_for c.args.from.now c.args.at))

pub returns-in_ok-push_arguments-in-Cmp-clause-state : goal.returns-in_ok-push_arguments-in-Cmp-clause-state
returns-in_ok-push_arguments-in-Cmp-clause-state c base whole k =
    let p = c.in_ok-push_arguments-in-Cmp.ensures in
    compound_left c.args.from.now base whole c.args.to.now c.args.met.now c.args.copies.now.items c.args.left.now.items c.args.at k
    p.0 (subst IsCompound (sym c.in-Cmp.ensures.shown.0) tt) p.1.1 p.1.2 c.push_arguments.new.left.items
    (p.1.0 ∙ ap (λ xs. xs ++ map Term (reverse p.0)) c.in_ok-push-in-Cmp.ensures.items)

pub returns-in_ok-push_arguments-in-Cmp-clause-lighter : goal.returns-in_ok-push_arguments-in-Cmp-clause-lighter
returns-in_ok-push_arguments-in-Cmp-clause-lighter c =
    let p = c.in_ok-push_arguments-in-Cmp.ensures in
    let e : c.push_arguments.new.left.items ≡ (c.args.left.now.items ++ Compound c.args.at ∷ []) ++ map Term (reverse p.0) =
    p.1.0 ∙ ap (λ xs. xs ++ map Term (reverse p.0)) c.in_ok-push-in-Cmp.ensures.items in
    subst (λ xs. weight c.args.from.now xs < weight c.args.from.now (c.args.left.now.items ++ Term c.args.at ∷ [])) (sym e)
    (less_weight c.args.from.now variable c.args.at (subst IsCompound (sym c.in-Cmp.ensures.shown.0) tt) p.0 p.1.2 c.args.left.now.items [])
