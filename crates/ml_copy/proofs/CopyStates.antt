-- A copy that is being made, from task to task.
use Rattle.std.specs.Prelude.{◌≡◌, ℕ, zero, suc, ◌+◌, ◌-◌, ◌<◌, ◌≤◌, true, List, [], ◌∷◌, ◌++◌, map, reverse, length, take, drop, get_or, None}
use Rattle.std.proofs.Common.{refl, sym, ap, ◌∙◌, subst, arith, append_assoc, length-append}
use Rattle.std.proofs.lemmas.List.{map-append, length-map}
use Rattle.ml_term.specs.Tree.{Tree, variable, compound, trees_of, has, firsts, place_in, variables, width, rename, substitute}
use Rattle.ml_term.proofs.DistinctCounts.{In}
use Rattle.ml_term.proofs.UnificationEnds.{in_right}
use Rattle.ml_term.proofs.Substitutions.{in_itself}
use Rattle.ml_heap.specs.Changes.{Changes, cell_count, variable_count, stands_for, arguments_of, AreCells, HasOneMore, Grows, HasTree}
use Rattle.ml_heap.specs.Storing.{cell_of, new_number, Knows, IsStored}
use Rattle.ml_heap.specs.declared.met.MetVariables.{MetVariables}
use Rattle.ml_heap.proofs.ListEnds.{map_alike}
use Rattle.ml_heap.proofs.FirstPlaces.{place_stays}
use Rattle.ml_heap.proofs.TermWalks.{cells_append, cells_wider, cells_at}
use Rattle.ml_heap.proofs.StoredTerms.{nothing_met, knows_grown, grows_one, one_inside, one_stands}
use Rattle.ml_copy.specs.declared.task.Task.{Task}
use Rattle.ml_copy.specs.declared.task.Task.TheVariants.{Term, Compound}
use Rattle.ml_copy.specs.inside.Tasks.{IsCompound, with_arguments, arity_at, do_task, do_all, MayBeDone, AllMayBeDone, variables_of_tasks, IsCopying}
use Rattle.ml_copy.proofs.TaskLists.{none_more, map_taken, map_dropped, do_last, may_last, variables_last, do_arguments, may_arguments, variables_stay}

-- copies stay where the heap grows
stay : (to to' : Changes) (qs : List ℕ) → Grows to to' → AreCells (cell_count to) qs → map (stands_for to') qs ≡ map (stands_for to) qs
stay to to' qs g i = map_alike (stands_for to') (stands_for to) qs (λ j l. g.others (get_or qs j 0) (cells_at (cell_count to) qs i j l))

module _ (from : Changes) (base : ℕ) (whole : Tree) (to : Changes) (met : MetVariables) (copies : List ℕ) (left : List Task) (at : ℕ)
    (k : IsCopying from base whole to met copies (left ++ Term at ∷ [])) where
  abbrev new : ℕ → Tree
  new = new_number base (variables whole)

  pub is_inside : at < cell_count from
  is_inside = (may_last from new left (Term at) (map (stands_for to) copies) k.ready).0

  -- a copy was made of the term
  module _ (to' : Changes) (met' : MetVariables) (r : ℕ) (g : Grows to to') (in_r : r < cell_count to')
      (is : stands_for to' r ≡ substitute new (stands_for from at))
      (ns : List ℕ) (w : Knows to' base ns met') (e : ns ++ variables_of_tasks from left ≡ variables whole) where
    copies_are : map (stands_for to') (copies ++ r ∷ []) ≡ do_task from new (Term at) (map (stands_for to) copies)
    copies_are =
        map-append (stands_for to') copies (r ∷ [])
        ∙ (ap (λ ts. ts ++ stands_for to' r ∷ []) (stay to to' copies g k.inside) ∙ ap (λ t. map (stands_for to) copies ++ t ∷ []) is)

    pub term_copied : IsCopying from base whole to' met' (copies ++ r ∷ []) left
    term_copied = record {
      inside = cells_append (cell_count to') copies (r ∷ []) (cells_wider (cell_count to) (cell_count to') copies g.cells k.inside) (in_r, tt);
      ready = subst (AllMayBeDone from new left) (sym copies_are) (may_last from new left (Term at) (map (stands_for to) copies) k.ready).1;
      result = ap (do_all from new left) copies_are ∙ (sym (do_last from new left (Term at) (map (stands_for to) copies)) ∙ k.result);
      known = (ns, (w, e));
    }

  in_order : k.known.0 ++ (variables (stands_for from at) ++ variables_of_tasks from left) ≡ variables whole
  in_order = ap (λ ns. k.known.0 ++ ns) (sym (variables_last from left (Term at))) ∙ k.known.1.1

  -- an integer or an atom
  pub constant_copied : (to' : Changes) (r : ℕ) (t : Tree) → HasOneMore to to' r t → variable_count to' ≡ variable_count to → stands_for from at ≡ t
      → substitute new t ≡ t → variables t ≡ [] → IsCopying from base whole to' met (copies ++ r ∷ []) left
  constant_copied to' r t m c e s v =
      let g = grows_one to to' r t m in
      term_copied to' met r g (one_inside to to' r t m) (one_stands to to' r t m ∙ (sym s ∙ ap (substitute new) (sym e)))
      k.known.0 (knows_grown to to' base k.known.0 met k.known.1.0 g c)
      (ap (λ ns. k.known.0 ++ (ns ++ variables_of_tasks from left)) (sym (ap variables e ∙ v)) ∙ in_order)

  -- a variable
  pub variable_copied : (to' : Changes) (met' : MetVariables) (r n : ℕ) → stands_for from at ≡ variable n → Grows to to'
      → IsStored to' base (k.known.0 ++ n ∷ []) met' r (variable n) → IsCopying from base whole to' met' (copies ++ r ∷ []) left
  variable_copied to' met' r n e g s =
      let ns = k.known.0 ++ n ∷ [] in
      let rest = variables_of_tasks from left in
      let all : ns ++ rest ≡ variables whole = append_assoc k.known.0 (n ∷ []) rest ∙ (ap (λ t. k.known.0 ++ (variables t ++ rest)) (sym e) ∙ in_order) in
      let place : place_in (firsts (variables whole)) n ≡ place_in (firsts ns) n =
      ap (λ ms. place_in (firsts ms) n) (sym all) ∙ place_stays ns rest n (at_end k.known.0 n) in
      term_copied to' met' r g s.inside (s.stands ∙ (ap (λ p. variable (base + p)) (sym place) ∙ ap (substitute new) (sym e))) ns s.knows all
    where
      at_end : (ms : List ℕ) (n : ℕ) → In n (ms ++ n ∷ [])
      at_end ms n = in_right n ms (n ∷ []) (in_itself n)

  -- a compound leaves the tasks of its arguments
  pub compound_left : (args : List ℕ) → IsCompound (stands_for from at) → AreCells (cell_count from) args →
      map (stands_for from) args ≡ arguments_of (stands_for from at)
      → (left' : List Task) → left' ≡ (left ++ Compound at ∷ []) ++ map Term (reverse args) → IsCopying from base whole to met copies left'
  compound_left args c i e left' p = record {
    inside = k.inside;
    ready = subst (λ xs. AllMayBeDone from new xs (map (stands_for to) copies)) (sym p)
        (may_arguments from new at c args e left (map (stands_for to) copies) i k.ready);
    result = ap (λ xs. do_all from new xs (map (stands_for to) copies)) p ∙ (do_arguments from new at c args e left (map (stands_for to) copies) ∙ k.result);
    known = (
      k.known.0,
      (
        k.known.1.0,
        ap (λ ns. k.known.0 ++ ns)
            (ap (variables_of_tasks from) p ∙ variables_stay from new at c args e left (map (stands_for to) copies)) ∙ k.known.1.1,
      ),
    );
  }

-- a compound is made of its arguments' copies
module _ (from : Changes) (base : ℕ) (whole : Tree) (to : Changes) (met : MetVariables) (copies : List ℕ) (left : List Task) (at : ℕ)
    (k : IsCopying from base whole to met copies (left ++ Compound at ∷ [])) where
  abbrev newer : ℕ → Tree
  newer = new_number base (variables whole)

  abbrev trees_so_far : List Tree
  trees_so_far = map (stands_for to) copies

  ready_first : MayBeDone from (Compound at) trees_so_far × AllMayBeDone from newer left (do_task from newer (Compound at) trees_so_far)
  ready_first = may_last from newer left (Compound at) trees_so_far k.ready

  pub compound_inside : at < cell_count from
  compound_inside = ready_first.0.0

  pub is_compound : IsCompound (stands_for from at)
  is_compound = ready_first.0.1

  pub enough : arity_at from at ≤ length copies
  enough = omega (arith, ready_first.0.2, length-map copies (stands_for to))

  abbrev pub first : ℕ
  first = length copies - arity_at from at

  pub compound_made : (to' : Changes) (r : ℕ) (t : Tree) → HasOneMore to to' r t → variable_count to' ≡ variable_count to
      → t ≡ with_arguments (stands_for from at) (map (stands_for to) (drop first copies)) → IsCopying from base whole to' met (take first copies ++ r ∷ []) left
  compound_made to' r t m c e = record {
    inside = cells_append (cell_count to') (take first copies) (r ∷ []) (cells_wider (cell_count to) (cell_count to') (take first copies) g.cells front_inside)
        (one_inside to to' r t m, tt);
    ready = subst (AllMayBeDone from newer left) (sym copies_are) ready_first.1;
    result = ap (do_all from newer left) copies_are ∙ (sym (do_last from newer left (Compound at) trees_so_far) ∙ k.result);
    known = (
      k.known.0,
      (
        knows_grown to to' base k.known.0 met k.known.1.0 g c,
        ap (λ ns. k.known.0 ++ ns) (sym (variables_last from left (Compound at))) ∙ k.known.1.1,
      ),
    );
  }
    where
      g : Grows to to'
      g = grows_one to to' r t m

      front : (n : ℕ) (qs : List ℕ) → AreCells (cell_count to) qs → AreCells (cell_count to) (take n qs)
      front zero qs i = tt
      front (suc n) [] i = tt
      front (suc n) (q ∷ qs) i = (i.0, front n qs i.1)

      front_inside : AreCells (cell_count to) (take first copies)
      front_inside = front first copies k.inside

      many : length trees_so_far - arity_at from at ≡ first
      many = ap (λ n. n - arity_at from at) (length-map copies (stands_for to))

      copies_are : map (stands_for to') (take first copies ++ r ∷ []) ≡ do_task from newer (Compound at) trees_so_far
      copies_are =
          map-append (stands_for to') (take first copies) (r ∷ [])
          ∙ (ap (λ ts. ts ++ stands_for to' r ∷ []) (stay to to' (take first copies) g front_inside ∙ map_taken (stands_for to) first copies)
          ∙ (ap (λ u. take first trees_so_far ++ u ∷ []) (one_stands to to' r t m
          ∙ (e ∙ ap (with_arguments (stands_for from at)) (map_dropped (stands_for to) first copies)))
          ∙ ap (λ n. take n trees_so_far ++ with_arguments (stands_for from at) (drop n trees_so_far) ∷ []) (sym many)))

-- a copy begins
module _ (from to : Changes) (met : MetVariables) (at : ℕ) (inside : at < cell_count from) (none : (n : ℕ) → cell_of met n ≡ None) where
  pub at_start : (copies : List ℕ) (left : List Task) → copies ≡ [] → left ≡ Term at ∷ []
      → IsCopying from (variable_count to) (stands_for from at) to met copies left
  at_start copies left e f =
      subst (λ qs. IsCopying from (variable_count to) (stands_for from at) to met qs left) (sym e)
      (subst (λ xs. IsCopying from (variable_count to) (stands_for from at) to met [] xs) (sym f) (record {
        inside = tt;
        ready = (tt, inside);
        result = refl;
        known = ([], (nothing_met to met none, refl));
      }))

-- a copy is made
module _ (from to to' : Changes) (whole : Tree) (met : MetVariables) (copies : List ℕ) (left : List Task) (e : left ≡ [])
    (k : IsCopying from (variable_count to) whole to' met copies left) where
  made : map (stands_for to') copies ≡ rename (variable_count to) whole ∷ []
  made = ap (λ xs. do_all from (new_number (variable_count to) (variables whole)) xs (map (stands_for to') copies)) (sym e) ∙ k.result

  pub one_copy : length copies ≡ 1
  one_copy = sym (length-map copies (stands_for to')) ∙ ap length made

  pub first_inside : get_or copies 0 0 < cell_count to'
  first_inside = cells_at (cell_count to') copies k.inside 0 (omega (arith, one_copy))

  pub first_is : stands_for to' (get_or copies 0 0) ≡ rename (variable_count to) whole
  first_is = first copies made
    where
      first : (qs : List ℕ) → map (stands_for to') qs ≡ rename (variable_count to) whole ∷ [] →
          stands_for to' (get_or qs 0 0) ≡ rename (variable_count to) whole
      first [] p = absurd (cc p)
      first (q ∷ qs) p = cc p

  pub all_counted : variable_count to' ≡ variable_count to + width whole
  all_counted =
      k.known.1.0.count
      ∙ ap (λ ns. variable_count to + length (firsts ns))
      (sym (none_more k.known.0) ∙ (ap (λ xs. k.known.0 ++ variables_of_tasks from xs) (sym e) ∙ k.known.1.1))
