-- Cells that are made: after a heap grew, one more stands for its tree; new variables; the name of a term.
use Rattle.std.specs.Prelude.{◌≡◌, ℕ, zero, suc, ◌+◌, ◌-◌, ◌<◌, nat_le, true, false, if◌then◌else◌, List, [], ◌∷◌, ◌++◌, map, length, get_or}
use Rattle.std.proofs.Common.{refl, sym, ap, ◌∙◌, subst, arith, add-one}
use Rattle.std.proofs.lemmas.Bool.Decides.{nat_tests}
use Rattle.std.proofs.lemmas.List.{map-append}
use Rattle.ml_term.specs.Tree.{Tree, Trees, variable, integer, atom, compound, no_trees, tree, trees_of, list_of, arity}
use Rattle.ml_term.specs.Keys.{numbers_from, argument, arguments}
use Rattle.ml_term.proofs.DefaultKeys.{numbers_from-suc}
use Rattle.ml_heap.specs.Changes.{Changes, cell_count, variable_count, stands_for, arguments_of, tree_in, AreCells, HasOneMore, HasTree, Grows, IsVariable}
use Rattle.ml_heap.proofs.ListEnds.{map_alike}
use Rattle.ml_heap.proofs.StoredTerms.{grows_none, grows_on, grows_one, one_inside, one_stands}
use Rattle.ml_heap.proofs.TermWalks.{cells_at, cells_append, cells_wider}
use Rattle.ml_search.specs.Builtins.{name_term, new_term, new_variables}
use Rattle.ml_search.specs.ListTerms.{list_term}
use Rattle.ml_search.specs.Program.{name_of, arity_of}
use Rattle.ml_search.specs.TypeTests.{is_compound}

-- a cell that is there already
pub there : (h : Changes) (r : ℕ) (t : Tree) → r < cell_count h → stands_for h r ≡ t → HasTree h h r t
there h r t i e = record { inside = i; stands = e; grown = grows_none h }

-- one more after a heap grew
pub made_after : (h g h' : Changes) (r : ℕ) (t u : Tree) → Grows h g → HasOneMore g h' r t → t ≡ u → HasTree h h' r u
made_after h g h' r t u grown m e = record {
  inside = one_inside g h' r t m;
  stands = one_stands g h' r t m ∙ e;
  grown = grows_on h g h' grown (grows_one g h' r t m);
}

pub tree_after : (h g h' : Changes) (r : ℕ) (t u : Tree) → Grows h g → HasTree g h' r t → t ≡ u → HasTree h h' r u
tree_after h g h' r t u grown m e = record { inside = m.inside; stands = m.stands ∙ e; grown = grows_on h g h' grown m.grown }

-- a tree by another name
pub tree_is : (h g : Changes) (r : ℕ) (t u : Tree) → HasTree h g r t → t ≡ u → HasTree h g r u
tree_is h g r t u m e = record { inside = m.inside; stands = m.stands ∙ e; grown = m.grown }

-- no arguments
pub no_new_variables : (h : Changes) (r n next : ℕ) → r < cell_count h → n ≡ 0 → HasTree h h r (new_term (stands_for h r) n next)
no_new_variables h r n next i e = there h r (new_term (stands_for h r) n next) i (sym (ap (λ k. new_term (stands_for h r) k next) e))

-- a term that is no compound is its own name
pub own_name : (h : Changes) (r : ℕ) → r < cell_count h → is_compound (stands_for h r) ≡ false → HasTree h h r (name_term (stands_for h r))
own_name h r i e = there h r (name_term (stands_for h r)) i (by (stands_for h r) e)
  where
    by : (t : Tree) → is_compound t ≡ false → t ≡ name_term t
    by (variable n) e = refl
    by (integer z) e = refl
    by (atom f) e = refl
    by (compound f ts) e = absurd (cc e)

pub compound_named : (h h' : Changes) (t r : ℕ) (f : List ℕ) → is_compound (stands_for h t) ≡ true → f ≡ name_of (stands_for h t)
    → HasOneMore h h' r (atom f) → HasTree h h' r (name_term (stands_for h t))
compound_named h h' t r f e k m = made_after h h h' r (atom f) (name_term (stands_for h t)) (grows_none h) m (ap atom k ∙ by (stands_for h t) e)
  where
    by : (t : Tree) → is_compound t ≡ true → atom (name_of t) ≡ name_term t
    by (variable n) e = absurd (cc e)
    by (integer z) e = absurd (cc e)
    by (atom f) e = absurd (cc e)
    by (compound f ts) e = refl

-- cells go on to stand for their trees
pub stay : (h g : Changes) (qs : List ℕ) → Grows h g → AreCells (cell_count h) qs → map (stands_for g) qs ≡ map (stands_for h) qs
stay h g qs grown i = map_alike (stands_for g) (stands_for h) qs (λ j l. grown.others (get_or qs j 0) (cells_at (cell_count h) qs i j l))

-- terms and their parts
pub arity_counts : (ts : List Tree) → arity (trees_of ts) ≡ length ts
arity_counts [] = refl
arity_counts (t ∷ ts) = omega (arith, arity_counts ts)

pub list_arity : (t : Tree) → arity_of t ≡ length (arguments_of t)
list_arity (variable n) = refl
list_arity (integer z) = refl
list_arity (atom f) = refl
list_arity (compound f ts) = as_list ts
  where
    as_list : (ts : Trees) → arity ts ≡ length (list_of ts)
    as_list no_trees = refl
    as_list (tree t ts) = omega (arith, as_list ts)

-- the name of a term
pub compound_name : (t : Tree) (f : List ℕ) → t ≡ compound f (trees_of (arguments_of t)) → atom f ≡ name_term t
compound_name t f e = sym (ap name_term e)

pub variable_name : (t : Tree) → IsVariable t → t ≡ name_term t
variable_name (variable n) v = refl
variable_name (integer z) v = absurd v
variable_name (atom f) v = absurd v
variable_name (compound f ts) v = absurd v

pub atom_is : (t : Tree) (f : List ℕ) → t ≡ atom f → f ≡ name_of t
atom_is t f e = sym (ap name_of e)

-- new variables
pub new_term_is : (t : Tree) (n next : ℕ) → 0 < n → compound (name_of t) (trees_of (new_variables next n)) ≡ new_term t n next
new_term_is t zero next l = absurd (omega (arith, l))
new_term_is t (suc n) next l = refl

pub one_variable_more : (base h h' : Changes) (cells all : List ℕ) (r i : ℕ) (t : Tree) → AreCells (cell_count h) cells
    → map (stands_for h) cells ≡ new_variables (variable_count base) i → variable_count h ≡ variable_count base + i
    → HasOneMore h h' r t → t ≡ variable (variable_count h) → all ≡ cells ++ r ∷ []
    → map (stands_for h') all ≡ new_variables (variable_count base) (i + 1)
one_variable_more base h h' cells all r i t inside stand counted m e put =
    let next = variable_count base in
    let front : map (stands_for h') cells ≡ new_variables next i = stay h h' cells (grows_one h h' r t m) inside ∙ stand in
    let last : stands_for h' r ≡ variable (next + i) = one_stands h h' r t m ∙ (e ∙ ap variable counted) in
    let more : new_variables next (suc i) ≡ new_variables next i ++ variable (next + i) ∷ [] =
    ap (map variable) (numbers_from-suc next i) ∙ map-append variable (numbers_from next i) ((next + i) ∷ []) in
    ap (map (stands_for h')) put
    ∙ (map-append (stands_for h') cells (r ∷ [])
    ∙ (ap (λ ts. ts ++ stands_for h' r ∷ []) front
    ∙ (ap (λ x. new_variables next i ++ x ∷ []) last
    ∙ (sym more ∙ ap (new_variables next) (sym (add-one i))))))

pub cells_more : (h h' : Changes) (cells all : List ℕ) (r : ℕ) (t : Tree) → AreCells (cell_count h) cells → HasOneMore h h' r t → all ≡ cells ++ r ∷ []
    → AreCells (cell_count h') all
cells_more h h' cells all r t inside m put =
    subst (AreCells (cell_count h')) (sym put)
    (cells_append (cell_count h') cells (r ∷ []) (cells_wider (cell_count h) (cell_count h') cells (grows_one h h' r t m).cells inside)
    (one_inside h h' r t m, tt))

-- an argument by its number from 1
above_one : (k : ℕ) → 1 < k → nat_le k 1 ≡ false
above_one k l = grind (arith, nat_tests)

argument_in : (ts : List Tree) (i k : ℕ) → k ≡ i + 1 → i < length ts → tree_in ts i ≡ argument k (trees_of ts)
argument_in [] i k e l = absurd (omega arith)
argument_in (t ∷ ts) zero k e l = let f : k ≡ 1 = omega (arith, e) in sym (ap (λ n. argument n (trees_of (t ∷ ts))) f)
argument_in (t ∷ ts) (suc i) k e l =
    argument_in ts i (k - 1) (omega (arith, e)) (omega (arith, l))
    ∙ sym (ap (λ b. if b then t else argument (k - 1) (trees_of ts)) (above_one k (omega (arith, e))))

as_trees : (ts : Trees) → trees_of (list_of ts) ≡ ts
as_trees no_trees = refl
as_trees (tree t ts) = ap (tree t) (as_trees ts)

arguments_are : (t : Tree) → trees_of (arguments_of t) ≡ arguments t
arguments_are (variable n) = refl
arguments_are (integer z) = refl
arguments_are (atom f) = refl
arguments_are (compound f ts) = as_trees ts

pub list_of_arguments : (t : Tree) → list_of (arguments t) ≡ arguments_of t
list_of_arguments (variable n) = refl
list_of_arguments (integer z) = refl
list_of_arguments (atom f) = refl
list_of_arguments (compound f ts) = refl

pub argument_at : (t : Tree) (i k : ℕ) → k ≡ i + 1 → i < length (arguments_of t) → tree_in (arguments_of t) i ≡ argument k (arguments t)
argument_at t i k e l = argument_in (arguments_of t) i k e l ∙ ap (argument k) (arguments_are t)

-- the list of a term
pub told_list : (h g g' : Changes) (t name list : ℕ) (cells one : List ℕ) → HasTree h g name (name_term (stands_for h t)) → t < cell_count h → one ≡ name ∷ []
    → map (stands_for g) cells ≡ map (stands_for g) one ++ arguments_of (stands_for g t) → HasTree g g' list (list_term (map (stands_for g) cells))
    → HasTree h g' list (list_term (name_term (stands_for h t) ∷ list_of (arguments (stands_for h t))))
told_list h g g' t name list cells one made in_t e k m =
    let u = stands_for h t in
    tree_after h g g' list (list_term (map (stands_for g) cells)) (list_term (name_term u ∷ list_of (arguments u))) made.grown m
    (ap list_term
    (k
    ∙ (ap (λ qs. map (stands_for g) qs ++ arguments_of (stands_for g t)) e
    ∙ (ap (λ x. x ∷ arguments_of (stands_for g t)) made.stands
    ∙ (ap (λ x. name_term u ∷ arguments_of x) (made.grown.others t in_t) ∙ ap (λ xs. name_term u ∷ xs) (sym (list_of_arguments u)))))))
