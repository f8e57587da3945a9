-- One binding more: the map that bindings stand for, and what a turn that binds leads to.
use Rattle.std.specs.Prelude.{◌≡◌, ℕ, Bool, true, false, List, [], ◌∷◌, ◌++◌, map}
use Rattle.std.specs.List.{list_all}
use Rattle.std.proofs.Common.{refl, sym, ap, ◌∙◌, inr}
use Rattle.std.proofs.lemmas.Bool.{and_parts, and_from}
use Rattle.std.proofs.lemmas.List.{map-append}
use Rattle.ml_term.specs.Tree.{Tree, occurs}
use Rattle.ml_term.specs.Runs.{now}
use Rattle.ml_term.specs.Unify.{Equation, Map, UnifierState, step, eliminate, after_step, apply, binding, replace_variable}
use Rattle.ml_term.specs.Unifiers.{equations_under, terms_under, compose}
use Rattle.ml_term.proofs.MapComposition.{applied_followed, under_followed}
use Rattle.ml_term.proofs.UnificationSteps.{stays}
use Rattle.ml_search.specs.inside.Triangular.{IsTriangular, is_older, map_after, map_of}
use Rattle.ml_search.specs.declared.unification.pair.Pair.{Pair}
use Rattle.ml_search.specs.inside.Unifying.{equation_of, stack_equations}

after_more : (m bs cs : Map) → map_after m (bs ++ cs) ≡ map_after (map_after m bs) cs
after_more m [] cs = refl
after_more m (b ∷ bs) cs = after_more (compose m (binding b.0 (apply m b.1))) bs cs

pub map_more : (bs : Map) (n : ℕ) (t : Tree) → map_of (bs ++ (n, t) ∷ []) ≡ compose (map_of bs) (binding n (apply (map_of bs) t))
unfolding map_of
map_more bs n t = after_more [] bs ((n, t) ∷ [])

abbrev terms_by : Map → Map → Map
terms_by m bs = map (λ b. (b.0, apply m b.1)) bs

terms_later : (m d bs : Map) → terms_under d (terms_by m bs) ≡ terms_by (compose m d) bs
terms_later m d [] = refl
terms_later m d (b ∷ bs) = rw (← applied_followed m d b.1, terms_later m d bs) refl

all_more : (p : ℕ × Tree → Bool) (bs : Map) (b : ℕ × Tree) → list_all p bs ≡ true → p b ≡ true → list_all p (bs ++ b ∷ []) ≡ true
all_more p [] b h e = and_from _ _ e refl
all_more p (c ∷ bs) b h e = let parts = and_parts (p c) (list_all p bs) h in and_from _ _ parts.0 (all_more p bs b parts.1 e)

pub one_binding_more : (bs : Map) (n : ℕ) (t : Tree) → IsTriangular bs → is_older n t ≡ true → occurs n (apply (map_of bs) t) ≡ false →
    IsTriangular (bs ++ (n, t) ∷ [])
one_binding_more bs n t h older out =
    let m = map_of bs in
    let w = apply m t in
    let d = binding n w in
    let more = map_more bs n t in
    let last : apply (compose m d) t ≡ w = applied_followed m d t ∙ stays n w out in
    record {
      resolved = more
          ∙ ap (λ x. terms_under d x ++ (n, w) ∷ []) h.resolved
          ∙ ap (λ x. x ++ (n, w) ∷ []) (terms_later m d bs)
          ∙ ap (λ x. terms_by (compose m d) bs ++ (n, x) ∷ []) (sym last)
          ∙ sym (map-append (λ b. (b.0, apply (compose m d) b.1)) bs ((n, t) ∷ []))
          ∙ ap (λ x. terms_by x (bs ++ (n, t) ∷ [])) (sym more);
      older = all_more (λ b. is_older b.0 b.1) bs (n, t) h.older older;
    }

abbrev state : List Equation → Map → UnifierState
state es m = record { left = es; map = m }

-- the state after a variable was replaced
pub state_more : (bs : Map) (es : List Equation) (n : ℕ) (t : Tree) →
    replace_variable n (apply (map_of bs) t) (equations_under (map_of bs) es) (map_of bs)
    ≡ state (equations_under (map_of (bs ++ (n, t) ∷ [])) es) (map_of (bs ++ (n, t) ∷ []))
state_more bs es n t =
    let m = map_of bs in
    let d = binding n (apply m t) in
    ap (λ x. state x (compose m d)) (sym (under_followed m d es)) ∙ ap (λ x. state (equations_under x es) x) (sym (map_more bs n t))

-- the turn that replaces it, where both terms are known by the ends of their chains
pub bound_turns : (bs : Map) (es : List Equation) (n : ℕ) (t l r l' r' : Tree) → apply (map_of bs) l' ≡ apply (map_of bs) l →
    apply (map_of bs) r' ≡ apply (map_of bs) r
    → step (apply (map_of bs) l') (apply (map_of bs) r') ≡ eliminate n (apply (map_of bs) t)
    → after_step (step (apply (map_of bs) l) (apply (map_of bs) r)) (equations_under (map_of bs) es) (map_of bs)
    ≡ now (inr (state (equations_under (map_of (bs ++ (n, t) ∷ [])) es) (map_of (bs ++ (n, t) ∷ []))))
bound_turns bs es n t l r l' r' p q s =
    let m = map_of bs in
    ap (λ x. after_step (step x (apply m r)) (equations_under m es) m) (sym p)
    ∙ ap (λ x. after_step (step (apply m l') x) (equations_under m es) m) (sym q)
    ∙ ap (λ x. after_step x (equations_under m es) m) s
    ∙ ap (λ x. now (inr x)) (state_more bs es n t)

-- the pair that was put last comes first
pub last_first : (es : List Equation) (ps : List Pair) (p : Pair) → stack_equations es (ps ++ p ∷ []) ≡ equation_of p ∷ stack_equations es ps
last_first es [] p = refl
last_first es (q ∷ ps) p = last_first (equation_of q ∷ es) ps p
