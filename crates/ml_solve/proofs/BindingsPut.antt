-- Bindings with one more behind them.
use Rattle.std.proofs.Common.{◌≡◌, ℕ, zero, suc, ◌+◌, List, [], ◌∷◌, ◌++◌, length, map, take, Some, refl, sym, ap, ◌∙◌, arith}
use Rattle.std.proofs.Common.{length-append}
use Rattle.std.specs.List.{slice_get}
use Rattle.std.proofs.lemmas.List.{length-map, map-append}
use Rattle.ml_term.specs.Tree.{Tree}
use Rattle.ml_term.specs.Seen.{seen}
use Rattle.ml_term.specs.declared.term.Term.{Term}
use Rattle.ml_stack.specs.Memories.{tree}
use Rattle.ml_machine.specs.declared.machine.Machine.{Machine}
use Rattle.ml_solve.specs.inside.Searching.{StandsForAnswer}

take_next : (ts : List Tree) (n : ℕ) (x : Tree) → slice_get ts n ≡ Some x → take (n + 1) ts ≡ take n ts ++ x ∷ []
take_next [] n x e = absurd (cc e)
take_next (t ∷ ts) zero x e = let s : t ≡ x = cc e in ap (λ y. y ∷ []) s
take_next (t ∷ ts) (suc n) x e = let s : suc n + 1 ≡ suc (n + 1) = omega arith in rw s (ap (λ ys. t ∷ ys) (take_next ts n x e))

pub take_whole : (ts : List Tree) (n : ℕ) → n ≡ length ts → take n ts ≡ ts
take_whole ts n e = ap (λ k. take k ts) e ∙ all ts
  where
    all : (ts : List Tree) → take (length ts) ts ≡ ts
    all [] = refl
    all (t ∷ ts) = ap (λ ys. t ∷ ys) (all ts)

module _ (bs cs : List (List ℕ × Term)) (n : List ℕ) (t : Term) (is : cs ≡ bs ++ (n, t) ∷ []) where
  terms_more : map (λ b. seen b.1) cs ≡ map (λ b. seen b.1) bs ++ seen t ∷ []
  terms_more = ap (map (λ b. seen b.1)) is ∙ map-append (λ (b : List ℕ × Term). seen b.1) bs ((n, t) ∷ [])

  pub taken_more : (ts : List Tree) → slice_get ts (length bs) ≡ Some (seen t) → map (λ b. seen b.1) bs ≡ take (length bs) ts →
      map (λ b. seen b.1) cs ≡ take (length cs) ts
  taken_more ts there h =
      let count : length bs + 1 ≡ length cs = omega (arith, ap length is, length-append bs ((n, t) ∷ [])) in
      terms_more ∙ ap (λ us. us ++ seen t ∷ []) h ∙ sym (take_next ts (length bs) (seen t) there) ∙ ap (λ k. take k ts) count

-- an answer has as many terms as are asked for
pub answer_count : (s : Machine) (ts : List Tree) → StandsForAnswer s ts → length ts ≡ length s.stacks.terms.items
answer_count s ts a = ap length a.are ∙ length-map s.stacks.terms.items (tree s.memory)
