-- Tasks that are put last and taken from there: what they make of the copies so far.
use Rattle.std.specs.Prelude.{◌≡◌, ℕ, zero, suc, ◌+◌, ◌-◌, ◌*◌, ◌<◌, ◌≤◌, List, [], ◌∷◌, ◌++◌, map, reverse, length, take, drop}
use Rattle.std.proofs.Common.{refl, sym, ap, ◌∙◌, subst, arith, append_assoc, length-append}
use Rattle.std.proofs.lemmas.List.{map-append, reverse-append, length-map}
use Rattle.ml_term.specs.Tree.{Tree, Trees, variable, integer, atom, compound, no_trees, tree, trees_of, list_of, nodes, nodes_of}
use Rattle.ml_term.specs.Tree.{variables, variables_of, substitute, substitute_in}
use Rattle.ml_heap.specs.Changes.{Changes, cell_count, stands_for, arguments_of, AreCells}
use Rattle.ml_copy.specs.declared.task.Task.{Task}
use Rattle.ml_copy.specs.declared.task.Task.TheVariants.{Term, Compound}
use Rattle.ml_copy.specs.inside.Tasks.{IsCompound, with_arguments, arity_at, do_task, do_all, MayBeDone, AllMayBeDone, variables_of_tasks, weight}

pub none_more : {A : Type 0} (xs : List A) → xs ++ [] ≡ xs
none_more [] = refl
none_more (x ∷ xs) = ap (λ ys. x ∷ ys) (none_more xs)

pub front_of : {A : Type 0} (xs ys : List A) → take (length xs) (xs ++ ys) ≡ xs
front_of [] ys = refl
front_of (x ∷ xs) ys = ap (λ zs. x ∷ zs) (front_of xs ys)

pub back_of : {A : Type 0} (xs ys : List A) → drop (length xs) (xs ++ ys) ≡ ys
back_of [] ys = refl
back_of (x ∷ xs) ys = back_of xs ys

pub map_taken : {A B : Type 0} (f : A → B) (n : ℕ) (xs : List A) → map f (take n xs) ≡ take n (map f xs)
map_taken f zero xs = refl
map_taken f (suc n) [] = refl
map_taken f (suc n) (x ∷ xs) = ap (λ ys. f x ∷ ys) (map_taken f n xs)

pub map_dropped : {A B : Type 0} (f : A → B) (n : ℕ) (xs : List A) → map f (drop n xs) ≡ drop n (map f xs)
map_dropped f zero xs = refl
map_dropped f (suc n) [] = refl
map_dropped f (suc n) (x ∷ xs) = map_dropped f n xs

-- the tasks of a cell and of others, where it is the first of them
pub terms_reversed : (q : ℕ) (qs : List ℕ) → map Term (reverse (q ∷ qs)) ≡ map Term (reverse qs) ++ Term q ∷ []
terms_reversed q qs = ap (map Term) (reverse-append (q ∷ []) qs) ∙ map-append Term (reverse qs) (q ∷ [])

-- a compound's arguments with a substitution
pub substituted_arguments : (s : ℕ → Tree) (ts : Trees) → substitute_in s ts ≡ trees_of (map (substitute s) (list_of ts))
substituted_arguments s no_trees = refl
substituted_arguments s (tree t ts) = ap (tree (substitute s t)) (substituted_arguments s ts)

pub compound_again : (s : ℕ → Tree) (t : Tree) → IsCompound t → with_arguments t (map (substitute s) (arguments_of t)) ≡ substitute s t
compound_again s (variable n) c = absurd c
compound_again s (integer z) c = absurd c
compound_again s (atom f) c = absurd c
compound_again s (compound f ts) c = ap (compound f) (sym (substituted_arguments s ts))

as_they_are : (ts : Trees) → trees_of (list_of ts) ≡ ts
as_they_are no_trees = refl
as_they_are (tree t ts) = ap (tree t) (as_they_are ts)

variables_as_arguments : (t : Tree) → IsCompound t → variables t ≡ variables_of (trees_of (arguments_of t))
variables_as_arguments (variable n) c = absurd c
variables_as_arguments (integer z) c = absurd c
variables_as_arguments (atom f) c = absurd c
variables_as_arguments (compound f ts) c = ap variables_of (sym (as_they_are ts))

nodes_as_arguments : (t : Tree) → IsCompound t → nodes t ≡ 1 + nodes_of (trees_of (arguments_of t))
nodes_as_arguments (variable n) c = absurd c
nodes_as_arguments (integer z) c = absurd c
nodes_as_arguments (atom f) c = absurd c
nodes_as_arguments (compound f ts) c = ap (λ us. 1 + nodes_of us) (sym (as_they_are ts))

module _ (h : Changes) where
  pub variables_last : (xs : List Task) (x : Task) → variables_of_tasks h (xs ++ x ∷ []) ≡ variables_of_tasks h (x ∷ []) ++ variables_of_tasks h xs
  variables_last [] x = sym (none_more (variables_of_tasks h (x ∷ [])))
  variables_last (Term r ∷ ys) x =
      ap (λ ns. ns ++ variables (stands_for h r)) (variables_last ys x)
      ∙ append_assoc (variables_of_tasks h (x ∷ [])) (variables_of_tasks h ys) (variables (stands_for h r))
  variables_last (Compound r ∷ ys) x = variables_last ys x

  pub variables_of_terms : (qs : List ℕ) (xs : List Task)
      → variables_of_tasks h (xs ++ map Term (reverse qs)) ≡ variables_of (trees_of (map (stands_for h) qs)) ++ variables_of_tasks h xs
  variables_of_terms [] xs = ap (variables_of_tasks h) (none_more xs)
  variables_of_terms (q ∷ qs) xs =
      ap (λ ys. variables_of_tasks h (xs ++ ys)) (terms_reversed q qs)
      ∙ (ap (variables_of_tasks h) (sym (append_assoc xs (map Term (reverse qs)) (Term q ∷ [])))
      ∙ (variables_last (xs ++ map Term (reverse qs)) (Term q)
      ∙ (ap (λ ns. variables (stands_for h q) ++ ns) (variables_of_terms qs xs)
      ∙ sym (append_assoc (variables (stands_for h q)) (variables_of (trees_of (map (stands_for h) qs))) (variables_of_tasks h xs)))))

  pub weight_last : (xs : List Task) (x : Task) → weight h (xs ++ x ∷ []) ≡ weight h xs + weight h (x ∷ [])
  weight_last [] x = omega arith
  weight_last (Term r ∷ ys) x = omega (arith, weight_last ys x)
  weight_last (Compound r ∷ ys) x = omega (arith, weight_last ys x)

  pub weight_of_terms : (qs : List ℕ) (xs : List Task) → weight h (xs ++ map Term (reverse qs)) ≡ weight h xs + 2 * nodes_of (trees_of (map (stands_for h) qs))
  weight_of_terms [] xs = omega (arith, ap (weight h) (none_more xs))
  weight_of_terms (q ∷ qs) xs =
      let e : weight h (xs ++ map Term (reverse (q ∷ qs))) ≡ weight h ((xs ++ map Term (reverse qs)) ++ Term q ∷ []) =
      ap (λ ys. weight h (xs ++ ys)) (terms_reversed q qs) ∙ ap (weight h) (sym (append_assoc xs (map Term (reverse qs)) (Term q ∷ []))) in
      omega (arith, e, weight_last (xs ++ map Term (reverse qs)) (Term q), weight_of_terms qs xs)

module _ (h : Changes) (s : ℕ → Tree) where
  pub do_last : (xs : List Task) (x : Task) (ts : List Tree) → do_all h s (xs ++ x ∷ []) ts ≡ do_all h s xs (do_task h s x ts)
  do_last [] x ts = refl
  do_last (y ∷ ys) x ts = ap (do_task h s y) (do_last ys x ts)

  pub may_last : (xs : List Task) (x : Task) (ts : List Tree) → AllMayBeDone h s (xs ++ x ∷ []) ts → MayBeDone h x ts × AllMayBeDone h s xs (do_task h s x ts)
  may_last [] x ts a = (a.1, tt)
  may_last (y ∷ ys) x ts a = let b = may_last ys x ts a.0 in (b.0, (b.1, subst (MayBeDone h y) (do_last ys x ts) a.1))

  pub may_from_last : (xs : List Task) (x : Task) (ts : List Tree) → MayBeDone h x ts → AllMayBeDone h s xs (do_task h s x ts) →
      AllMayBeDone h s (xs ++ x ∷ []) ts
  may_from_last [] x ts m a = (tt, m)
  may_from_last (y ∷ ys) x ts m a = (may_from_last ys x ts m a.0, subst (MayBeDone h y) (sym (do_last ys x ts)) a.1)

  abbrev copies_of : List ℕ → List Tree
  copies_of qs = map (substitute s) (map (stands_for h) qs)

  one_first : (q : ℕ) (qs : List ℕ) (ts : List Tree) → do_task h s (Term q) ts ++ copies_of qs ≡ ts ++ copies_of (q ∷ qs)
  one_first q qs ts = append_assoc ts (substitute s (stands_for h q) ∷ []) (copies_of qs)

  pub do_terms : (qs : List ℕ) (xs : List Task) (ts : List Tree) → do_all h s (xs ++ map Term (reverse qs)) ts ≡ do_all h s xs (ts ++ copies_of qs)
  do_terms [] xs ts = ap (λ ys. do_all h s ys ts) (none_more xs) ∙ ap (do_all h s xs) (sym (none_more ts))
  do_terms (q ∷ qs) xs ts =
      ap (λ ys. do_all h s (xs ++ ys) ts) (terms_reversed q qs)
      ∙ (ap (λ ys. do_all h s ys ts) (sym (append_assoc xs (map Term (reverse qs)) (Term q ∷ [])))
      ∙ (do_last (xs ++ map Term (reverse qs)) (Term q) ts
      ∙ (do_terms qs xs (do_task h s (Term q) ts) ∙ ap (do_all h s xs) (one_first q qs ts))))

  pub may_terms : (qs : List ℕ) (xs : List Task) (ts : List Tree) → AreCells (cell_count h) qs → AllMayBeDone h s xs (ts ++ copies_of qs)
      → AllMayBeDone h s (xs ++ map Term (reverse qs)) ts
  may_terms [] xs ts i a = subst (λ ys. AllMayBeDone h s ys ts) (sym (none_more xs)) (subst (AllMayBeDone h s xs) (none_more ts) a)
  may_terms (q ∷ qs) xs ts i a =
      subst (λ ys. AllMayBeDone h s (xs ++ ys) ts) (sym (terms_reversed q qs))
      (subst (λ ys. AllMayBeDone h s ys ts) (append_assoc xs (map Term (reverse qs)) (Term q ∷ []))
      (may_from_last (xs ++ map Term (reverse qs)) (Term q) ts i.0
      (may_terms qs xs (do_task h s (Term q) ts) i.1 (subst (AllMayBeDone h s xs) (sym (one_first q qs ts)) a))))

  -- a compound is made of as many copies as it has arguments
  pub do_compound : (r : ℕ) (ts us : List Tree) → length us ≡ arity_at h r → do_task h s (Compound r) (ts ++ us) ≡ ts ++ with_arguments (stands_for h r) us ∷ []
  do_compound r ts us e =
      let n : length (ts ++ us) - arity_at h r ≡ length ts = omega (arith, e, length-append ts us) in
      rw (n, front_of ts us, back_of ts us) refl

  module _ (r : ℕ) (c : IsCompound (stands_for h r)) (qs : List ℕ) (e : map (stands_for h) qs ≡ arguments_of (stands_for h r)) (xs : List Task)
      (ts : List Tree) where
    as_many : length (copies_of qs) ≡ arity_at h r
    as_many = length-map (map (stands_for h) qs) (substitute s) ∙ ap length e

    compound_is : do_task h s (Compound r) (ts ++ copies_of qs) ≡ do_task h s (Term r) ts
    compound_is = do_compound r ts (copies_of qs) as_many
        ∙ ap (λ t. ts ++ t ∷ []) (ap (λ us. with_arguments (stands_for h r) (map (substitute s) us)) e ∙ compound_again s (stands_for h r) c)

    -- a compound's task is that of its arguments' terms, and then of the compound
    pub do_arguments : do_all h s ((xs ++ Compound r ∷ []) ++ map Term (reverse qs)) ts ≡ do_all h s (xs ++ Term r ∷ []) ts
    do_arguments =
        do_terms qs (xs ++ Compound r ∷ []) ts
        ∙ (do_last xs (Compound r) (ts ++ copies_of qs) ∙ (ap (do_all h s xs) compound_is ∙ sym (do_last xs (Term r) ts)))

    pub may_arguments : AreCells (cell_count h) qs → AllMayBeDone h s (xs ++ Term r ∷ []) ts →
        AllMayBeDone h s ((xs ++ Compound r ∷ []) ++ map Term (reverse qs)) ts
    may_arguments i a =
        let b = may_last xs (Term r) ts a in
        may_terms qs (xs ++ Compound r ∷ []) ts i
        (may_from_last xs (Compound r) (ts ++ copies_of qs) (b.0, c, omega (arith, as_many, length-append ts (copies_of qs)))
        (subst (AllMayBeDone h s xs) (sym compound_is) b.1))

    pub variables_stay : variables_of_tasks h ((xs ++ Compound r ∷ []) ++ map Term (reverse qs)) ≡ variables_of_tasks h (xs ++ Term r ∷ [])
    variables_stay =
        variables_of_terms h qs (xs ++ Compound r ∷ [])
        ∙ (ap (λ ns. variables_of (trees_of (map (stands_for h) qs)) ++ ns) (variables_last h xs (Compound r))
        ∙ (ap (λ us. variables_of (trees_of us) ++ variables_of_tasks h xs) e
        ∙ (ap (λ ns. ns ++ variables_of_tasks h xs) (sym (variables_as_arguments (stands_for h r) c)) ∙ sym (variables_last h xs (Term r)))))

    pub less_weight : weight h ((xs ++ Compound r ∷ []) ++ map Term (reverse qs)) < weight h (xs ++ Term r ∷ [])
    less_weight = omega (
      arith,
      weight_of_terms h qs (xs ++ Compound r ∷ []),
      weight_last h xs (Compound r),
      weight_last h xs (Term r),
      ap (λ us. nodes_of (trees_of us)) e,
      nodes_as_arguments (stands_for h r) c,
    )
