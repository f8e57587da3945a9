-- What is to be done with two terms, by their kinds.
use Rattle.std.specs.Prelude.{◌≡◌, ◌≢◌, ℕ, ◌+◌, ◌<◌, ◌==◌, nat_lt, Bool, true, false, ◌&&◌, cond, List, [], ◌∷◌, map, length, None}
use Rattle.std.specs.List.{zip}
use Rattle.std.specs.Str.{bytes_eq}
use Rattle.std.proofs.Common.{refl, sym, ap, subst, ◌∙◌, arith}
use Rattle.std.proofs.lemmas.Bool.{eq-eqb, ne_eqb, lt-ltb, le-ltb}
use Rattle.std.proofs.lemmas.Slice.Eq.{bytes_eq-Decides}
use Rattle.ml_term.specs.Tree.{Tree, Trees, variable, integer, atom, compound, no_trees, tree, arity, list_of, trees_of, substitute_in, occurs}
use Rattle.ml_term.specs.Seen.{seen, all_seen}
use Rattle.ml_term.specs.Unify.{Map, Step, delete, decompose, eliminate, clash, step, apply, value_of}
use Rattle.ml_term.specs.Unifiers.{equations_under}
use Rattle.ml_term.specs.declared.term.Term.{Term}
use Rattle.ml_term.proofs.TermSizes.{arity_of_trees}
use Rattle.ml_term.proofs.Substitutions.{arity_kept}
use Rattle.ml_search.specs.declared.unification.pair.Shifted.{Shifted}
use Rattle.ml_search.specs.declared.unification.pair.Arguments.{Arguments}
use Rattle.ml_search.specs.declared.unification.pair.Rule.{Rule}
use Rattle.ml_search.specs.declared.unification.pair.Rule.TheVariants.{Dropped, Bound, Split, Clash}
use Rattle.ml_search.specs.MapSeen.{bound_term}
use Rattle.ml_search.specs.inside.Triangular.{IsFree, IsTriangular, is_older, map_of}
use Rattle.ml_search.specs.inside.Unifying.{Binds, Decides, IsPlain, IsStep, arguments_from, binding_step, tree_of, trees_from, trees_under}
use Rattle.ml_search.proofs.Unifying.BoundChains.{stands_for_itself}
use Rattle.ml_search.proofs.Unifying.ShiftedTrees.{list_from}

plain_stays : (m : Map) (t : Tree) → IsPlain t → IsPlain (apply m t)
plain_stays m (variable n) h = absurd h
plain_stays m (integer z) h = tt
plain_stays m (atom f) h = tt
plain_stays m (compound f ts) h = tt

binding_from_left : (n : ℕ) (u : Tree) → IsPlain u → step (variable n) u ≡ binding_step n u
binding_from_left n (variable k) h = absurd h
binding_from_left n (integer z) h = refl
binding_from_left n (atom f) h = refl
binding_from_left n (compound f ts) h = refl

binding_from_right : (t : Tree) (n : ℕ) → IsPlain t → step t (variable n) ≡ binding_step n t
binding_from_right (variable k) n h = absurd h
binding_from_right (integer z) n h = refl
binding_from_right (atom f) n h = refl
binding_from_right (compound f ts) n h = refl

plain_is_older : (n : ℕ) (t : Tree) → IsPlain t → is_older n t ≡ true
plain_is_older n (variable k) h = absurd h
plain_is_older n (integer z) h = refl
plain_is_older n (atom f) h = refl
plain_is_older n (compound f ts) h = refl

rule_of : (m : Map) (rule : Rule) (s s' : Step) → s ≡ s' → IsStep m rule s → IsStep m rule s'
rule_of m rule s s' e h = subst (IsStep m rule) e h

-- a variable that is bound to a term in which it doesn't stand
pub bound_plain : (bs : Map) (n : ℕ) (to : Shifted) → IsPlain (tree_of to) → bound_term bs n ≡ None → occurs n (apply (map_of bs) (tree_of to)) ≡ false →
    Binds bs (Bound (record { variable = n; to = to })) n (tree_of to)
bound_plain bs n to plain free out = record {
  is = ap (λ b. cond b clash (eliminate n (apply (map_of bs) (tree_of to)))) out;
  may = (plain_is_older n (tree_of to) plain, out, free);
}

itself : (bs : Map) (n : ℕ) (t : Tree) → IsTriangular bs → t ≡ variable n → IsFree bs t → apply (map_of bs) t ≡ variable n
itself bs n t h e free = ap (apply (map_of bs)) e ∙ stands_for_itself bs n h (subst (IsFree bs) e free)

pub left_variable : (bs : Map) (rule : Rule) (n : ℕ) (t u : Tree) → IsTriangular bs → t ≡ variable n → IsFree bs t → IsPlain u → Binds bs rule n u →
    Decides bs rule t u
left_variable bs rule n t u h e free plain b =
    let m = map_of bs in
    record {
      is = rule_of m rule _ _ (sym (ap (λ x. step x (apply m u)) (itself bs n t h e free) ∙ binding_from_left n (apply m u) (plain_stays m u plain))) b.is;
      may = b.may;
    }

pub right_variable : (bs : Map) (rule : Rule) (n : ℕ) (t u : Tree) → IsTriangular bs → IsPlain t → u ≡ variable n → IsFree bs u → Binds bs rule n t →
    Decides bs rule t u
right_variable bs rule n t u h plain e free b =
    let m = map_of bs in
    record {
      is = rule_of m rule _ _ (sym (ap (step (apply m t)) (itself bs n u h e free) ∙ binding_from_right (apply m t) n (plain_stays m t plain))) b.is;
      may = b.may;
    }

module _ (bs : Map) (left right : Shifted) (m n : ℕ) (h : IsTriangular bs) (p : tree_of left ≡ variable m) (q : tree_of right ≡ variable n)
    (f : IsFree bs (tree_of left)) (g : IsFree bs (tree_of right)) where
  both : step (apply (map_of bs) (tree_of left)) (apply (map_of bs) (tree_of right)) ≡ step (variable m) (variable n)
  both = ap (λ x. step x (apply (map_of bs) (tree_of right))) (itself bs m (tree_of left) h p f) ∙ ap (step (variable m)) (itself bs n (tree_of right) h q g)

  pub same_variable : m ≡ n → Decides bs Dropped (tree_of left) (tree_of right)
  same_variable e =
      record { is = both ∙ ap (λ b. cond b delete (cond (nat_lt m n) (eliminate n (variable m)) (eliminate m (variable n)))) (eq-eqb m n e); may = tt }

  pub right_younger : m ≢ n → m < n → Decides bs (Bound (record { variable = n; to = left })) (tree_of left) (tree_of right)
  right_younger d lt =
      let it = itself bs m (tree_of left) h p f in
      record {
        is =
            both ∙ ap (λ b. cond b delete (cond (nat_lt m n) (eliminate n (variable m)) (eliminate m (variable n)))) (ne_eqb m n d)
            ∙ ap (λ b. cond b (eliminate n (variable m)) (eliminate m (variable n))) (lt-ltb m n lt) ∙ ap (eliminate n) (sym it);
        may = (ap (is_older n) p ∙ lt-ltb m n lt, ap (occurs n) it ∙ other (ne_eqb m n d), subst (IsFree bs) q g);
      }
    where
      other : (m == n) ≡ false → occurs n (variable m) ≡ false
      other e = rw e refl

  pub left_younger : m ≢ n → n < m → Decides bs (Bound (record { variable = m; to = right })) (tree_of left) (tree_of right)
  left_younger d lt =
      let it = itself bs n (tree_of right) h q g in
      record {
        is =
            both ∙ ap (λ b. cond b delete (cond (nat_lt m n) (eliminate n (variable m)) (eliminate m (variable n)))) (ne_eqb m n d)
            ∙ ap (λ b. cond b (eliminate n (variable m)) (eliminate m (variable n))) (le-ltb m n (omega arith)) ∙ ap (eliminate m) (sym it);
        may = (ap (is_older m) q ∙ lt-ltb n m lt, ap (occurs m) it ∙ other (ne_eqb n m (λ e. d (sym e))), subst (IsFree bs) p f);
      }
    where
      other : (n == m) ≡ false → occurs m (variable n) ≡ false
      other e = rw e refl

-- compounds
arity_under : (m : Map) (base : ℕ) (ts : List Term) → arity (trees_under m base ts) ≡ length ts
arity_under m base ts =
    arity_kept (value_of m) (arguments_from base ts) ∙ arity_kept (λ n. variable (base + n)) (trees_of (all_seen ts)) ∙ arity_of_trees seen ts

list_under : (m : Map) (ts : Trees) → list_of (substitute_in (value_of m) ts) ≡ map (apply m) (list_of ts)
list_under m no_trees = refl
list_under m (tree t ts) = ap (λ us. apply m t ∷ us) (list_under m ts)

zip_under : (m : Map) (ts us : List Tree) → zip (map (apply m) ts) (map (apply m) us) ≡ equations_under m (zip ts us)
zip_under m [] us = refl
zip_under m (t ∷ ts) [] = refl
zip_under m (t ∷ ts) (u ∷ us) = ap (λ es. (apply m t, apply m u) ∷ es) (zip_under m ts us)

pairs_under : (m : Map) (a b : ℕ) (ts us : List Term) →
    zip (list_of (trees_under m a ts)) (list_of (trees_under m b us)) ≡ equations_under m (zip (trees_from a ts) (trees_from b us))
pairs_under m a b ts us =
    ap (λ xs. zip xs (list_of (trees_under m b us))) (list_under m (arguments_from a ts) ∙ ap (map (apply m)) (list_from a ts))
    ∙ ap (zip (map (apply m) (trees_from a ts))) (list_under m (arguments_from b us) ∙ ap (map (apply m)) (list_from b us))
    ∙ zip_under m (trees_from a ts) (trees_from b us)

module _ (bs : Map) (left right : Shifted) (f g : List ℕ) (ts us : List Term) (p : tree_of left ≡ compound f (arguments_from left.base ts))
    (q : tree_of right ≡ compound g (arguments_from right.base us)) where
  abbrev a : Trees
  a = trees_under (map_of bs) left.base ts

  abbrev b : Trees
  b = trees_under (map_of bs) right.base us

  compounds : step (apply (map_of bs) (tree_of left)) (apply (map_of bs) (tree_of right)) ≡ step (compound f a) (compound g b)
  compounds = ap (λ x. step (apply (map_of bs) x) (apply (map_of bs) (tree_of right))) p ∙ ap (λ x. step (compound f a) (apply (map_of bs) x)) q

  module _ (ts' us' : Arguments) (tb : ts'.base ≡ left.base) (ub : us'.base ≡ right.base) (tt' : ts'.terms.now ≡ ts) (uu' : us'.terms.now ≡ us) where
    pub compounds_split : f ≡ g → length ts ≡ length us → Decides bs (Split ts' us') (tree_of left) (tree_of right)
    compounds_split e l =
        let names : bytes_eq f g ≡ true = (bytes_eq-Decides f g).1 e in
        let many : (arity a == arity b) ≡ true =
        eq-eqb (arity a) (arity b) (arity_under (map_of bs) left.base ts ∙ (l ∙ sym (arity_under (map_of bs) right.base us))) in
        record {
          is = compounds
              ∙ ap (λ c. cond (c && (arity a == arity b)) (decompose (zip (list_of a) (list_of b))) clash) names
              ∙ ap (λ c. cond c (decompose (zip (list_of a) (list_of b))) clash) many
              ∙ ap decompose (pairs_under (map_of bs) left.base right.base ts us ∙ ap (equations_under (map_of bs)) (parts tb ub tt' uu'));
          may = tt;
        }
      where
        parts : ts'.base ≡ left.base → us'.base ≡ right.base → ts'.terms.now ≡ ts → us'.terms.now ≡ us →
            zip (trees_from left.base ts) (trees_from right.base us) ≡ zip (trees_from ts'.base ts'.terms.now) (trees_from us'.base us'.terms.now)
        parts i j k l = cc

  pub names_clash : f ≢ g → Decides bs Clash (tree_of left) (tree_of right)
  names_clash d =
      record
      { is = compounds ∙ ap (λ c. cond (c && (arity a == arity b)) (decompose (zip (list_of a) (list_of b))) clash) (differ (bytes_eq f g) refl); may = tt }
    where
      differ : (c : Bool) → bytes_eq f g ≡ c → bytes_eq f g ≡ false
      differ true e = absurd (d ((bytes_eq-Decides f g).0 e))
      differ false e = e

  pub arities_clash : length ts ≢ length us → Decides bs Clash (tree_of left) (tree_of right)
  arities_clash d =
      let many : (arity a == arity b) ≡ false =
      ne_eqb (arity a) (arity b) (λ e. d (sym (arity_under (map_of bs) left.base ts) ∙ (e ∙ arity_under (map_of bs) right.base us))) in
      record { is = compounds ∙ ap (λ c. cond (bytes_eq f g && c) (decompose (zip (list_of a) (list_of b))) clash) many ∙ neither (bytes_eq f g); may = tt }
    where
      neither : (c : Bool) → cond (c && false) (decompose (zip (list_of a) (list_of b))) clash ≡ clash
      neither true = refl
      neither false = refl
