-- The last copies are the arguments of the compound.
use Rattle.std.proofs.Common.{◌≡◌, ◌-◌, ◌<◌, ◌≤◌, ◌++◌, ◌∷◌, [], ℕ, zero, suc, List, true, map, length, take, drop, get_or, refl, sym, ap, ◌∙◌, subst, arith}
use Rattle.std.proofs.Common.{length-drop}
use Rattle.std.specs.Prelude.{nat_le}
use Rattle.std.proofs.lemmas.Bool.{and_parts}
use Rattle.std.proofs.lemmas.Bool.Decides.{nat_tests}
use Rattle.ml_term.specs.Tree.{Tree, Trees, no_trees, tree, variable, integer, atom, compound, trees_of, list_of, arity}
use Rattle.ml_term.specs.Valid.{is_valid}
use Rattle.ml_heap.specs.Changes.{Changes, cell_count, stands_for, arguments_of, AreCells}
use Rattle.ml_heap.specs.Looks.{Shows}
use Rattle.ml_heap.specs.declared.look.Look.{Look}
use Rattle.ml_heap.specs.declared.look.Look.TheVariants.{Var, Int, Atom, Cmp}
use Rattle.ml_heap.proofs.TermWalks.{cells_at}
use Rattle.ml_copy.specs.declared.task.Task.TheVariants.{Compound}
use Rattle.ml_copy.specs.inside.Tasks.{IsCompound, with_arguments, arity_at, IsCopying}
use Rattle.ml_copy.proofs.CopyStates.{compound_inside, is_compound, enough, compound_made}
use Rattle.ml_copy.proofs.copy.make_compound.Goals as goal

all_taken : (qs : List ℕ) → take (length qs) qs ≡ qs
all_taken [] = refl
all_taken (q ∷ qs) = ap (λ xs. q ∷ xs) (all_taken qs)

rest_is : (n : ℕ) (qs : List ℕ) → take (length qs - n) (drop n qs) ≡ drop n qs
rest_is n qs =
    let e : length qs - n ≡ length (drop n qs) = omega (arith, length-drop n qs) in
    ap (λ m. take m (drop n qs)) e ∙ all_taken (drop n qs)

dropped : (m n : ℕ) (qs : List ℕ) → AreCells m qs → AreCells m (drop n qs)
dropped m zero qs a = a
dropped m (suc n) [] a = tt
dropped m (suc n) (q ∷ qs) a = dropped m n qs a.1

as_long : (ts : Trees) → length (list_of ts) ≡ arity ts
as_long no_trees = refl
as_long (tree t ts) = omega (arith, as_long ts)

has_arguments : (t : Tree) → IsCompound t → is_valid t ≡ true → 1 ≤ length (arguments_of t)
has_arguments (variable n) c v = absurd c
has_arguments (integer z) c v = absurd c
has_arguments (atom f) c v = absurd c
has_arguments (compound f ts) c v =
    let whole = and_parts _ _ v in
    let front = and_parts _ _ whole.0 in
    let head = and_parts _ _ front.0 in
    omega (arith, as_long ts, above (arity ts) head.1)
  where
    above : (n : ℕ) → nat_le 1 n ≡ true → 1 ≤ n
    above n e = grind (arith, nat_tests, e)

shows_it : (h : Changes) (t : Tree) (l : Look) → Shows h t l → IsCompound t → ((f : _) (n : ℕ) → l ≡ Cmp f n → ⊥) → ⊥
shows_it h (variable n) l s c d = c
shows_it h (integer z) l s c d = c
shows_it h (atom f) l s c d = c
shows_it h (compound f ts) (Var r) s c d = s.1
shows_it h (compound f ts) (Int z) s c d = cc s
shows_it h (compound f ts) (Atom g) s c d = cc s
shows_it h (compound f ts) (Cmp g n) s c d = d g n refl

pub look-requires : goal.look-requires
look-requires c =
    let r = c.requires in
    compound_inside c.args.from.now r.0 r.1.0 c.args.to.now r.1.1.0 c.args.copies.now.items r.1.1.1.0 c.args.at r.1.1.1.1

pub overflow_sub-first : goal.overflow_sub-first
overflow_sub-first c =
    let r = c.requires in
    let e = enough c.args.from.now r.0 r.1.0 c.args.to.now r.1.1.0 c.args.copies.now.items r.1.1.1.0 c.args.at r.1.1.1.1 in
    omega (arith, e, c.in-Cmp.ensures.shown.1, c.len.ensures)

pub new_cmp-requires-clause-low : goal.new_cmp-requires-clause-low
new_cmp-requires-clause-low c =
    let r = c.requires in
    let e = enough c.args.from.now r.0 r.1.0 c.args.to.now r.1.1.0 c.args.copies.now.items r.1.1.1.0 c.args.at r.1.1.1.1 in
    let n = c.len.result - c.in-Cmp.arity in
    let a = has_arguments (stands_for c.args.from.now c.args.at)
    (is_compound c.args.from.now r.0 r.1.0 c.args.to.now r.1.1.0 c.args.copies.now.items r.1.1.1.0 c.args.at r.1.1.1.1) c.in-Cmp.ensures.valid in
    subst (λ qs. 1 ≤ length qs) (sym (rest_is n c.deref.result.now))
    (omega (arith, length-drop n c.deref.result.now, ap length c.deref.ensures.value, a, e, c.in-Cmp.ensures.shown.1, c.len.ensures))

pub new_cmp-requires-clause-inside : goal.new_cmp-requires-clause-inside
new_cmp-requires-clause-inside c =
    let r = c.requires in
    let n = c.len.result - c.in-Cmp.arity in
    let k = cells_at (cell_count c.args.to.now) (drop n c.deref.result.now)
    (dropped (cell_count c.args.to.now) n c.deref.result.now
    (subst (AreCells (cell_count c.args.to.now)) (sym c.deref.ensures.value) r.1.1.1.1.inside)) in
    subst (λ qs. (i : ℕ) → i < length qs → get_or qs i 0 < cell_count c.args.to.now) (sym (rest_is n c.deref.result.now)) k

pub unreachable-requires : goal.unreachable-requires
unreachable-requires c =
    let r = c.requires in
    shows_it c.args.from.now (stands_for c.args.from.now c.args.at) c.look.result c.look.ensures.shown
    (is_compound c.args.from.now r.0 r.1.0 c.args.to.now r.1.1.0 c.args.copies.now.items r.1.1.1.0 c.args.at r.1.1.1.1) c.in_default.not-Cmp

pub returns-clause-state : goal.returns-clause-state
returns-clause-state c base whole met left k =
    let copies = c.args.copies.now.items in
    let n = c.len.result - c.in-Cmp.arity in
    let many : n ≡ length copies - arity_at c.args.from.now c.args.at = omega (arith, c.in-Cmp.ensures.shown.1, c.len.ensures) in
    let slice : take (length c.deref.result.now - n) (drop n c.deref.result.now) ≡ drop (length copies - arity_at c.args.from.now c.args.at) copies =
    rest_is n c.deref.result.now ∙ (ap (drop n) c.deref.ensures.value ∙ ap (λ m. drop m copies) many) in
    let us = map (stands_for c.args.to.now) (drop (length copies - arity_at c.args.from.now c.args.at) copies) in
    let items : c.push.new.self.items ≡ take (length copies - arity_at c.args.from.now c.args.at) copies ++ c.in_ok-made-in-Cmp.made ∷ [] =
    c.in_ok-push-in-Cmp.ensures.items ∙ ap (λ qs. qs ++ c.in_ok-made-in-Cmp.made ∷ []) (c.truncate.ensures.items ∙ ap (λ m. take m copies) many) in
    subst (λ qs. IsCopying c.args.from.now base whole c.new_cmp.new.self met qs left) (sym items)
    (compound_made c.args.from.now base whole c.args.to.now met copies left c.args.at k c.new_cmp.new.self c.in_ok-made-in-Cmp.made _
    c.in_ok-made-in-Cmp.ensures.made c.in_ok-made-in-Cmp.ensures.counted
    (ap (λ qs. compound c.in-Cmp.name.now (trees_of (map (stands_for c.args.to.now) qs))) slice
    ∙ sym (ap (λ t. with_arguments t us) c.in-Cmp.ensures.shown.0)))
