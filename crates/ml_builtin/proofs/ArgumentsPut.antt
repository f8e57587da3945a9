-- One argument more is put on a worklist, before the later ones.
use Rattle.std.specs.Prelude.{◌≡◌, ℕ, zero, suc, ◌+◌, ◌<◌, List, [], ◌∷◌, ◌++◌, map, reverse, length, take, drop}
use Rattle.std.proofs.Common.{refl, sym, ap, ◌∙◌, arith, append_assoc}
use Rattle.std.proofs.lemmas.List.{map-append, reverse-append}
use Rattle.ml_term.specs.Tree.{Tree}
use Rattle.ml_heap.specs.Changes.{Changes, stands_for, tree_in}

pub one_less : (ts : List Tree) (i j : ℕ) → j ≡ i + 1 → i < length ts → drop i ts ≡ tree_in ts i ∷ drop j ts
one_less [] i j e l = absurd (omega arith)
one_less (t ∷ ts) zero j e l = let f : j ≡ 1 = omega (arith, e) in ap (λ n. t ∷ drop n (t ∷ ts)) (sym f)
one_less (t ∷ ts) (suc i) j e l =
    let f : j ≡ suc (i + 1) = omega (arith, e) in
    one_less ts i (i + 1) refl (omega (arith, l)) ∙ ap (λ n. tree_in ts i ∷ drop n (t ∷ ts)) (sym f)

turned : (q : ℕ) (qs : List ℕ) → reverse (q ∷ qs) ≡ reverse qs ++ q ∷ []
turned q qs = reverse-append (q ∷ []) qs

pub put_before : (old left all qs : List ℕ) (r : ℕ) → left ≡ old ++ reverse qs → all ≡ left ++ r ∷ [] → all ≡ old ++ reverse (r ∷ qs)
put_before old left all qs r e k =
    k ∙ (ap (λ xs. xs ++ r ∷ []) e ∙ (append_assoc old (reverse qs) (r ∷ []) ∙ ap (λ xs. old ++ xs) (sym (turned r qs))))

pub stands_before : (h : Changes) (ts : List Tree) (qs : List ℕ) (r i j : ℕ) → j ≡ i + 1 → i < length ts → map (stands_for h) qs ≡ drop j ts
    → stands_for h r ≡ tree_in ts i → map (stands_for h) (r ∷ qs) ≡ drop i ts
stands_before h ts qs r i j e l k s =
    ap (λ t. t ∷ map (stands_for h) qs) s ∙ (ap (λ us. tree_in ts i ∷ us) k ∙ sym (one_less ts i j e l))

-- the same of pairs
abbrev pub pair : ℕ → ℕ → ℕ × ℕ
pair q r = (q, r)

pair_turned : (p : ℕ × ℕ) (ps : List (ℕ × ℕ)) → reverse (p ∷ ps) ≡ reverse ps ++ p ∷ []
pair_turned p ps = reverse-append (p ∷ []) ps

assoc : (ps qs : List (ℕ × ℕ)) (p : ℕ × ℕ) → (ps ++ qs) ++ p ∷ [] ≡ ps ++ (qs ++ p ∷ [])
assoc [] qs p = refl
assoc (q ∷ ps) qs p = ap (λ zs. q ∷ zs) (assoc ps qs p)

pub pair_before : (old left all qs : List (ℕ × ℕ)) (p : ℕ × ℕ) → left ≡ old ++ reverse qs → all ≡ left ++ p ∷ [] → all ≡ old ++ reverse (p ∷ qs)
pair_before old left all qs p e k =
    k ∙ (ap (λ xs. xs ++ p ∷ []) e ∙ (assoc old (reverse qs) p ∙ ap (λ xs. old ++ xs) (sym (pair_turned p qs))))

pub first_before : (h : Changes) (ts : List Tree) (ps : List (ℕ × ℕ)) (q r i j : ℕ) → j ≡ i + 1 → i < length ts
    → map (λ p. stands_for h p.0) ps ≡ drop j ts → stands_for h q ≡ tree_in ts i → map (λ p. stands_for h p.0) (pair q r ∷ ps) ≡ drop i ts
first_before h ts ps q r i j e l k s =
    ap (λ t. t ∷ map (λ p. stands_for h p.0) ps) s ∙ (ap (λ us. tree_in ts i ∷ us) k ∙ sym (one_less ts i j e l))

pub second_before : (h : Changes) (ts : List Tree) (ps : List (ℕ × ℕ)) (q r i j : ℕ) → j ≡ i + 1 → i < length ts
    → map (λ p. stands_for h p.1) ps ≡ drop j ts → stands_for h r ≡ tree_in ts i → map (λ p. stands_for h p.1) (pair q r ∷ ps) ≡ drop i ts
second_before h ts ps q r i j e l k s =
    ap (λ t. t ∷ map (λ p. stands_for h p.1) ps) s ∙ (ap (λ us. tree_in ts i ∷ us) k ∙ sym (one_less ts i j e l))

-- one argument more is put last, behind the earlier ones
pub one_taken : (h : Changes) (args : List Tree) (old cells all : List ℕ) (r i : ℕ) → i < length args
    → map (stands_for h) cells ≡ map (stands_for h) old ++ take i args → all ≡ cells ++ r ∷ [] → stands_for h r ≡ tree_in args i
    → map (stands_for h) all ≡ map (stands_for h) old ++ take (i + 1) args
one_taken h args old cells all r i l e put s =
    ap (map (stands_for h)) put
    ∙ (map-append (stands_for h) cells (r ∷ [])
    ∙ (ap (λ ts. ts ++ stands_for h r ∷ []) e
    ∙ (ap (λ t. (map (stands_for h) old ++ take i args) ++ t ∷ []) s
    ∙ (append_assoc (map (stands_for h) old) (take i args) (tree_in args i ∷ []) ∙ ap (λ ts. map (stands_for h) old ++ ts) (sym (one_longer args i l))))))
  where
    one_longer : (args : List Tree) (i : ℕ) → i < length args → take (i + 1) args ≡ take i args ++ tree_in args i ∷ []
    one_longer [] i l = absurd (omega arith)
    one_longer (t ∷ ts) zero l = refl
    one_longer (t ∷ ts) (suc i) l =
        let n : suc i + 1 ≡ suc (i + 1) = omega arith in
        ap (λ k. take k (t ∷ ts)) n ∙ ap (λ us. t ∷ us) (one_longer ts i (omega (arith, l)))

pub all_taken : (args : List Tree) (n : ℕ) → n ≡ length args → take n args ≡ args
all_taken args n e = ap (λ k. take k args) e ∙ whole args
  where
    whole : (args : List Tree) → take (length args) args ≡ args
    whole [] = refl
    whole (t ∷ ts) = ap (λ us. t ∷ us) (whole ts)
