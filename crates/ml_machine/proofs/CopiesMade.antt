-- Answers that are kept are copied one after another.
use Rattle.std.specs.Prelude.{◌≡◌, ℕ, zero, suc, ◌+◌, ◌<◌, ◌≤◌, List, [], ◌∷◌, ◌++◌, length, map, take, Some, slice_get}
use Rattle.std.proofs.Common.{refl, sym, ap, ◌∙◌, subst, arith, append_assoc, add-one}
use Rattle.std.proofs.lemmas.List.{map-append}
use Rattle.ml_term.specs.Tree.{Tree, rename, width}
use Rattle.ml_term.proofs.VariableNumbering.{renamed_again, renamed_width}
use Rattle.ml_search.specs.Actions.{copies, next_after}
use Rattle.ml_heap.specs.Changes.{Changes, cell_count, variable_count, stands_for, AreCells, HasTree, Grows}
use Rattle.ml_heap.proofs.StoredTerms.{grows_none, grows_on}
use Rattle.ml_stack.specs.Answers.{IsCopy, AreCopies, no_copy, one_copy}
use Rattle.ml_machine.specs.AnswersGathered.{all_of, AreCopied}

copies_more : (n : ℕ) (ts : List Tree) (t : Tree) → copies n (ts ++ t ∷ []) ≡ copies n ts ++ rename (next_after n ts) t ∷ []
copies_more n [] t = refl
copies_more n (x ∷ xs) t = ap (λ ys. rename n x ∷ ys) (copies_more (n + width x) xs t)

next_more : (n : ℕ) (ts : List Tree) (t : Tree) → next_after n (ts ++ t ∷ []) ≡ next_after n ts + width t
next_more n [] t = refl
next_more n (x ∷ xs) t = next_more (n + width x) xs t

all_more : (fs : List (List Tree)) (t : Tree) → all_of (fs ++ (t ∷ []) ∷ []) ≡ all_of fs ++ t ∷ []
all_more [] t = refl
all_more (x ∷ xs) t = ap (λ ys. x ++ ys) (all_more xs t) ∙ sym (append_assoc x (all_of xs) (t ∷ []))

-- the answer whose copy stands at a place
record CopyAt (h : Changes) (r i : ℕ) (fs : List (List Tree)) : Type 0 where
  answer : Tree
  copy : IsCopy h r answer
  more : take (suc i) fs ≡ take i fs ++ (answer ∷ []) ∷ []

copy_at : {h : Changes} {rs : List ℕ} {fs : List (List Tree)} (i r : ℕ) → AreCopies h rs fs → slice_get rs i ≡ Some r → CopyAt h r i fs
copy_at i r no_copy e = absurd (cc e)
copy_at {h = h} zero r (one_copy {r = q} {t = t} c cs) e =
    let same : q ≡ r = cc e in record { answer = t; copy = subst (λ x. IsCopy h x t) same c; more = refl }
copy_at (suc i) r (one_copy {t = t} c cs) e =
    let k = copy_at i r cs e in
    record { answer = k.answer; copy = k.copy; more = ap (λ xs. (t ∷ []) ∷ xs) k.more }

wider : (n m : ℕ) (cs : List ℕ) → n ≤ m → AreCells n cs → AreCells m cs
wider n m [] l a = tt
wider n m (c ∷ cs) l a = (omega (arith, a.0), wider n m cs l a.1)

one_wider : (m : ℕ) (cs : List ℕ) (c : ℕ) → AreCells m cs → c < m → AreCells m (cs ++ c ∷ [])
one_wider m [] c a l = (l, tt)
one_wider m (x ∷ xs) c a l = (a.0, one_wider m xs c a.1 l)

same_stands : {h k : Changes} (cs : List ℕ) → Grows h k → AreCells (cell_count h) cs → map (stands_for k) cs ≡ map (stands_for h) cs
same_stands [] g a = refl
same_stands {h = h} {k = k} (c ∷ cs) g a = ap (λ x. x ∷ map (stands_for k) cs) (g.others c a.0) ∙ ap (λ xs. stands_for h c ∷ xs) (same_stands cs g a.1)

pub none_copied : (h : Changes) (fs : List (List Tree)) → AreCopied h h [] (take 0 fs)
none_copied h fs = record { inside = tt; are = refl; counted = refl; grown = grows_none h }

pub a_copy_inside : {h : Changes} {rs : List ℕ} {fs : List (List Tree)} (i r : ℕ) → AreCopies h rs fs → slice_get rs i ≡ Some r → r < cell_count h
a_copy_inside i r a e = (copy_at i r a e).copy.inside

pub one_copied : (answers h k l : Changes) (rs cs ds : List ℕ) (i j r copy : ℕ) (fs : List (List Tree)) → AreCopies answers rs fs →
    slice_get rs i ≡ Some r → j ≡ i + 1
    → AreCopied h k cs (take i fs) → HasTree k l copy (rename (variable_count k) (stands_for answers r)) →
    variable_count l ≡ variable_count k + width (stands_for answers r) → ds ≡ cs ++ copy ∷ [] → AreCopied h l ds (take j fs)
one_copied answers h k l rs cs ds i j r copy fs a e next c made count is =
    let at = copy_at i r a e in
    let n = variable_count h in
    let ts = all_of (take i fs) in
    let more : take j fs ≡ take i fs ++ (at.answer ∷ []) ∷ [] = ap (λ x. take x fs) (next ∙ add-one i) ∙ at.more in
    let all : all_of (take j fs) ≡ ts ++ at.answer ∷ [] = ap all_of more ∙ all_more (take i fs) at.answer in
    let tree_is : stands_for l copy ≡ rename (next_after n ts) at.answer =
    made.stands ∙ ap (rename (variable_count k)) at.copy.is ∙ renamed_again (variable_count k) at.copy.from at.answer
    ∙ ap (λ x. rename x at.answer) c.counted in
    let inside : AreCells (cell_count l) (cs ++ copy ∷ []) =
    one_wider (cell_count l) cs copy (wider (cell_count k) (cell_count l) cs made.grown.cells c.inside) made.inside in
    record {
      inside = subst (λ xs. AreCells (cell_count l) xs) (sym is) inside;
      are =
          ap (map (stands_for l)) is ∙ map-append (stands_for l) cs (copy ∷ [])
          ∙ ap (λ xs. xs ++ stands_for l copy ∷ []) (same_stands cs made.grown c.inside ∙ c.are)
          ∙ ap (λ x. copies n ts ++ x ∷ []) tree_is ∙ sym (copies_more n ts at.answer) ∙ ap (copies n) (sym all);
      counted =
          count ∙ ap (λ x. x + width (stands_for answers r)) c.counted
          ∙ ap (λ x. next_after n ts + x) (ap width at.copy.is ∙ renamed_width at.copy.from at.answer)
          ∙ sym (next_more n ts at.answer) ∙ ap (next_after n) (sym all);
      grown = grows_on h k l c.grown made.grown;
    }

pub all_taken : {h : Changes} {rs : List ℕ} {fs : List (List Tree)} (i : ℕ) → AreCopies h rs fs → length rs ≤ i → take i fs ≡ fs
all_taken zero no_copy l = refl
all_taken (suc i) no_copy l = refl
all_taken zero (one_copy c cs) l = absurd (omega (arith, l))
all_taken (suc i) (one_copy {t = t} c cs) l = ap (λ xs. (t ∷ []) ∷ xs) (all_taken i cs (omega (arith, l)))
