-- Whether a term is a compound of a name and two arguments, as the code tests it.
use Rattle.std.proofs.Common.{◌≡◌, ◌≢◌, ℕ, ◌+◌, true, false, ◌==◌, List, [], ◌∷◌, length, get_or, refl, ap, sym, ◌∙◌, arith}
use Rattle.std.proofs.lemmas.Bool.{and_parts, eqb-true}
use Rattle.std.specs.Str.{bytes_eq}
use Rattle.ml_term.specs.Seen.{seen, all_seen}
use Rattle.ml_term.specs.Tree.{Tree, compound, compound_2, trees_of, nodes}
use Rattle.ml_term.specs.declared.term.Term.{Term}
use Rattle.ml_term.specs.declared.term.Term.TheVariants.{Cmp}
use Rattle.ml_term.proofs.CompoundTrees.{seen_compound}
use Rattle.ml_compile.specs.inside.Appended.{is_pair}

bytes_same : (f g : List ℕ) → bytes_eq f g ≡ true → f ≡ g
bytes_same [] [] h = refl
bytes_same [] (y ∷ g) h = absurd (cc h)
bytes_same (x ∷ f) [] h = absurd (cc h)
bytes_same (x ∷ f) (y ∷ g) h =
    let parts = and_parts (x == y) (bytes_eq f g) h in
    let first : x ≡ y = eqb-true x y parts.0 in
    let rest : f ≡ g = bytes_same f g parts.1 in
    cc (first, rest)

-- the tree of a compound, by its arguments as they were read
pub compound_is : (term : Term) (f : List ℕ) (ts us : List Term) → term ≡ Cmp f ts → us ≡ ts → seen term ≡ compound f (trees_of (all_seen us))
compound_is term f ts us is same = ap seen is ∙ (seen_compound f ts ∙ ap (λ vs. compound f (trees_of (all_seen vs))) (sym same))

no_pair : (f g : List ℕ) (us : List Term) → length us ≢ 2 → is_pair g (compound f (trees_of (all_seen us))) ≡ false
no_pair f g [] d = refl
no_pair f g (x ∷ []) d = refl
no_pair f g (x ∷ y ∷ []) d = absurd (d refl)
no_pair f g (x ∷ y ∷ z ∷ us) d = refl

pub no_pair_by_count : (term : Term) (f g : List ℕ) (ts us : List Term) → term ≡ Cmp f ts → us ≡ ts → length us ≢ 2 → is_pair g (seen term) ≡ false
no_pair_by_count term f g ts us is same d = ap (is_pair g) (compound_is term f ts us is same) ∙ no_pair f g us d

-- two arguments, of another name
pub no_pair_by_name : (term : Term) (f name g : List ℕ) (ts us : List Term) → term ≡ Cmp f ts → us ≡ ts → length us ≡ 2 → name ≡ f → bytes_eq name g ≡ false
    → is_pair g (seen term) ≡ false
no_pair_by_name term f name g ts [] is same two e h = absurd (omega (arith, two))
no_pair_by_name term f name g ts (x ∷ []) is same two e h = absurd (omega (arith, two))
no_pair_by_name term f name g ts (x ∷ y ∷ z ∷ us) is same two e h = absurd (omega (arith, two))
no_pair_by_name term f name g ts (x ∷ y ∷ []) is same two e h =
    ap (is_pair g) (compound_is term f ts (x ∷ y ∷ []) is same) ∙ (ap (λ k. bytes_eq k g) (sym e) ∙ h)

-- two arguments, of that name
pub pair_by_name : (term a b : Term) (f name g : List ℕ) (ts us : List Term) → term ≡ Cmp f ts → us ≡ ts → length us ≡ 2 → name ≡ f → bytes_eq name g ≡ true
    → a ≡ get_or us 0 a → b ≡ get_or us 1 b → seen term ≡ compound_2 g (seen a) (seen b)
pair_by_name term a b f name g ts [] is same two e h ea eb = absurd (omega (arith, two))
pair_by_name term a b f name g ts (x ∷ []) is same two e h ea eb = absurd (omega (arith, two))
pair_by_name term a b f name g ts (x ∷ y ∷ z ∷ us) is same two e h ea eb = absurd (omega (arith, two))
pair_by_name term a b f name g ts (x ∷ y ∷ []) is same two e h ea eb =
    let first : x ≡ a = sym ea in
    let second : y ≡ b = sym eb in
    let named : f ≡ g = sym e ∙ bytes_same name g h in
    compound_is term f ts (x ∷ y ∷ []) is same
    ∙ (ap (λ k. compound_2 k (seen x) (seen y)) named ∙ (ap (λ v. compound_2 g (seen v) (seen y)) first ∙ ap (λ v. compound_2 g (seen a) (seen v)) second))

-- how many nodes such a compound has
pub nodes_of_pair : (t a b : Tree) (f : List ℕ) → t ≡ compound_2 f a b → nodes t ≡ 1 + nodes a + nodes b
nodes_of_pair t a b f e = omega (arith, ap nodes e)
