use Rattle.std.proofs.Common.{rules, arith, ap, sym, ◌∙◌, ◌≡◌, ◌∷◌, ◌++◌, ℕ, List, length, append_assoc}
use Rattle.std.proofs.lemmas.Result.{on_ok_weaker}
use Rattle.ml_term.specs.CanonicalBytes.{bytes_of, bytes_of_all, name_bytes}
use Rattle.ml_term.specs.Seen.{all_seen, seen}
use Rattle.ml_term.specs.Tree.{compound, arity, trees_of}
use Rattle.ml_term.proofs.TermSizes.{arity_of_trees, nodes_above_zero}
use Rattle.ml_term.proofs.CompoundTrees.{seen_compound}
use Rattle.ml_term.proofs.spelling.+append_term.Goals as goal

-- a compound's bytes in two parts
in_parts : (out front done : List ℕ) (t : List ℕ) (rest : List ℕ) → done ≡ out ++ front → front ++ rest ≡ t → done ++ rest ≡ out ++ t
in_parts out front done t rest e f = ap (λ d. d ++ rest) e ∙ append_assoc out front rest ∙ ap (λ b. out ++ b) f

pub append_term-returns-in_ok-append_named-in-Cmp :
    goal.append_term-returns-in_ok-append_named-in-Cmp
append_term-returns-in_ok-append_named-in-Cmp t c =
    let ts = trees_of (all_seen c.in-Cmp.ts) in
    let args = trees_of (all_seen c.as_slice-args.result.now) in
    let same : args ≡ ts = ap (λ us. trees_of (all_seen us)) c.as_slice-args.ensures.same in
    let is : seen c.args.t.now ≡ compound c.in-Cmp.f ts = ap seen c.in-Cmp.is ∙ seen_compound _ _ in
    let many : length c.as_slice-args.result.now ≡ arity ts = ap length c.as_slice-args.ensures.same ∙ sym (arity_of_trees seen c.in-Cmp.ts) in
    let front : List ℕ = 3 ∷ length c.as_slice-args.result.now ∷ name_bytes c.in-Cmp.f in
    let both : front ++ bytes_of_all args ≡ bytes_of (seen c.args.t.now) =
    ap (λ n. (3 ∷ n ∷ name_bytes c.in-Cmp.f) ++ bytes_of_all args) many
    ∙ ap (λ us. (3 ∷ arity ts ∷ name_bytes c.in-Cmp.f) ++ bytes_of_all us) same
    ∙ sym (ap bytes_of is) in
    on_ok_weaker c.append_terms.result
    (λ e. e ∙ in_parts c.args.out.now.items front c.append_named-in-Cmp.new.out.items (bytes_of (seen c.args.t.now))
    (bytes_of_all args) c.in_ok-append_named-in-Cmp.ensures both)
    c.append_terms.ensures

pub append_terms-append_terms-requires : goal.append_terms-append_terms-requires
append_terms-append_terms-requires t c = (grind (arith, nodes_above_zero), search rules)
