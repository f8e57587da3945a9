-- The lines of facts, one after another.
use Rattle.std.specs.Prelude.{◌≡◌, ℕ, suc, ◌+◌, ◌-◌, ◌<◌, ◌≤◌, List, ◌++◌}
use Rattle.std.specs.List.{flat_map}
use Rattle.std.proofs.Common.{sym, ap, ◌∙◌, arith, append_assoc}
use Rattle.std.proofs.lemmas.List.{append-nil}
use Rattle.ml_make.specs.Facts.{facts_from, first_argument, number_behind}
use Rattle.ml_make.specs.Texts.{fact_line}

-- a fact's line, and then those behind it; i facts of n stand before
pub one_more : (n i x : ℕ) (text : List ℕ) → i < n
    → (text ++ fact_line (first_argument (number_behind x), i + 1)) ++ flat_map fact_line (facts_from (n - (i + 1)) (i + 1 + 1) (number_behind x))
    ≡ text ++ flat_map fact_line (facts_from (n - i) (i + 1) x)
one_more n i x text l =
    let left : n - i ≡ suc (n - (i + 1)) = omega arith in
    append_assoc text (fact_line (first_argument (number_behind x), i + 1)) (flat_map fact_line (facts_from (n - (i + 1)) (i + 1 + 1) (number_behind x)))
    ∙ ap (λ k. text ++ flat_map fact_line (facts_from k (i + 1) x)) (sym left)

-- no fact is left
pub no_more : (n i x : ℕ) (text : List ℕ) → n ≤ i → text ++ flat_map fact_line (facts_from (n - i) (i + 1) x) ≡ text
no_more n i x text l =
    let left : n - i ≡ 0 = omega arith in
    ap (λ k. text ++ flat_map fact_line (facts_from k (i + 1) x)) left ∙ append-nil text
