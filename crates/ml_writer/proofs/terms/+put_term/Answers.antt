-- Each call puts its part of the text, and meets the variables of that part.
use Rattle.std.proofs.Common.{◌≡◌, ◌∙◌, ◌++◌, ◌∷◌, [], true, ap, sym, ℕ, ℤ, List, FitsSigned, w64, to_z, of_z, ◌≤◌, length, rules, arith}
use Rattle.std.specs.Fmt.{signed_decimal}
use Rattle.std.proofs.lemmas.Result.{IfOk-equal, on_ok_weaker}
use Rattle.std.proofs.lemmas.Int.{to_z-of_z}
use Rattle.std.proofs.lemmas.Bool.Decides.{nat_tests}
use Rattle.ml_term.specs.declared.term.Term.{Term, Term-F, fold-roll-Term}
use Rattle.ml_term.specs.declared.term.Term.TheVariants.{Var, Int, Cmp, rolls-Var}
use Rattle.ml_term.specs.Tree.{Tree, tree, no_trees, variable, compound, trees_of, firsts, variables, variables_of}
use Rattle.ml_term.specs.Seen.{seen, seen_step, all_seen}
use Rattle.ml_term.specs.Text.{text_of, is_cell, comma}
use Rattle.ml_term.proofs.Decimals.{signed_decimal_is_text}
use Rattle.ml_term.proofs.CompoundTrees.{seen_integer, seen_compound}
use Rattle.ml_writer.specs.inside.Parts.{arguments_text, elements_text, tail_text}
use Rattle.ml_writer.proofs.AppendedTexts.{two_parts, three_parts}
use Rattle.ml_writer.proofs.TermTexts.{one_argument, more_arguments, same_arguments, same_tail, met_both, list_text, list_tail}
use Rattle.ml_writer.proofs.terms.+put_term.Goals as goal

-- what std writes of an integer that a term holds
integer_is : (v : ℤ) (met : List ℕ) → FitsSigned w64 v → signed_decimal (to_z w64 (of_z w64 v)) ≡ text_of (seen (Int v)) met
integer_is v met fits = rw (to_z-of_z w64 v fits) (signed_decimal_is_text v fits ∙ sym (ap (λ u. text_of u met) (seen_integer v)))

-- an integer at the end of a list
integer_tail : (v : ℤ) (met : List ℕ) → 124 ∷ text_of (seen (Int v)) met ≡ tail_text (seen (Int v)) met
integer_tail v met = ap (λ u. 124 ∷ text_of u met) (seen_integer v) ∙ sym (ap (λ u. tail_text u met) (seen_integer v))

-- the tree of a variable
seen_variable : (n : ℕ) → seen (Var n) ≡ variable n
seen_variable n = ap seen (sym (rolls-Var n)) ∙ fold-roll-Term Tree seen_step (Term-F.Var n)

pub put_term-returns-in-Int-clause-text : goal.put_term-returns-in-Int-clause-text
put_term-returns-in-Int-clause-text t c =
    let fits : FitsSigned w64 c.in-Int.v = search rules in
    IfOk-equal c.put_integer.result _ _ _ c.put_integer.ensures.text
    (ap (λ ds. c.args.out.now.text ++ ds) (integer_is c.in-Int.v c.args.met.now fits ∙ sym (ap (λ u. text_of (seen u) c.args.met.now) c.in-Int.is)))

-- the tree of a compound
compound_is : (u : Term) (f : List ℕ) (ts us : List Term) → u ≡ Cmp f ts → us ≡ ts → seen u ≡ compound f (trees_of (all_seen us))
compound_is u f ts us is same = ap seen is ∙ (seen_compound f ts ∙ ap (λ vs. compound f (trees_of (all_seen vs))) (sym same))

pub put_term-returns-in-Cmp-clause-text : goal.put_term-returns-in-Cmp-clause-text
put_term-returns-in-Cmp-clause-text t c =
    let is = compound_is _ _ _ _ c.in-Cmp.is c.as_slice-in-Cmp.ensures.same in
    IfOk-equal c.put_compound.result _ _ _ c.put_compound.ensures.text (ap (λ u. c.args.out.now.text ++ text_of u c.args.met.now) (sym is))

-- a list of one, and of more
alone : (ts us : List Term) (u : Term) → ts ≡ u ∷ us → length us ≡ 0 → trees_of (all_seen ts) ≡ tree (seen u) no_trees
alone ts [] u is none = ap (λ vs. trees_of (all_seen vs)) is
alone ts (v ∷ us) u is none = absurd (omega arith)

arguments_of_one : (ts us : List Term) (u : Term) (met : List ℕ) → ts ≡ u ∷ us → length us ≡ 0
    → arguments_text (trees_of (all_seen ts)) met ≡ text_of (seen u) met
arguments_of_one ts us u met is none = ap (λ vs. arguments_text vs met) (alone ts us u is none) ∙ one_argument (seen u) met

arguments_of_more : (ts us : List Term) (u : Term) (met one : List ℕ) → ts ≡ u ∷ us → 1 ≤ length us → firsts one ≡ firsts (met ++ variables (seen u))
    → arguments_text (trees_of (all_seen ts)) met ≡ text_of (seen u) met ++ comma ∷ arguments_text (trees_of (all_seen us)) one
arguments_of_more ts [] u met one is some same = absurd (omega arith)
arguments_of_more ts (v ∷ us) u met one is some same =
    ap (λ vs. arguments_text (trees_of (all_seen vs)) met) is
    ∙ (more_arguments (seen u) (seen v) (trees_of (all_seen us)) met
    ∙ ap (λ z. text_of (seen u) met ++ comma ∷ z) (same_arguments (trees_of (all_seen (v ∷ us))) (met ++ variables (seen u)) one (sym same)))

pub put_arguments-returns-then-is_empty-clause-text : goal.put_arguments-returns-then-is_empty-clause-text
put_arguments-returns-then-is_empty-clause-text t c =
    let is : c.args.args.now ≡ c.in-Some.first.now ∷ c.in-Some.rest.now = search rules in
    let none : length c.in-Some.rest.now ≡ 0 = search rules in
    c.in_ok-put_term.ensures.text ∙ ap (λ z. c.args.out.now.text ++ z) (sym (arguments_of_one _ _ _ c.args.met.now is none))

pub put_arguments-returns-clause-text : goal.put_arguments-returns-clause-text
put_arguments-returns-clause-text t c =
    let is : c.args.args.now ≡ c.in-Some.first.now ∷ c.in-Some.rest.now = search rules in
    let some : 1 ≤ length c.in-Some.rest.now = grind (arith, nat_tests, c.if-is_empty.ensures) in
    on_ok_weaker c.put_arguments.result
    (λ e. three_parts _ _ _ _ _ _ _ c.in_ok-put_term.ensures.text c.in_ok-put.ensures.text e ∙ ap (λ z. c.args.out.now.text ++ z)
    (sym (arguments_of_more _ _ _ c.args.met.now c.put_term.new.met is some c.in_ok-put_term.ensures.met)))
    c.put_arguments.ensures.text

pub put_arguments-returns-clause-met : goal.put_arguments-returns-clause-met
put_arguments-returns-clause-met t c =
    let is : c.args.args.now ≡ c.in-Some.first.now ∷ c.in-Some.rest.now = search rules in
    on_ok_weaker c.put_arguments.result
    (λ e. met_both c.args.met.now c.put_term.new.met c.put_arguments.new.met _ _ c.in_ok-put_term.ensures.met e
    ∙ ap (λ vs. firsts (c.args.met.now ++ variables_of (trees_of (all_seen vs)))) (sym is))
    c.put_arguments.ensures.met

-- the two parts of a cell
cell_of : (ts : List Term) (h u : Term) → ts ≡ h ∷ u ∷ [] → trees_of (all_seen ts) ≡ tree (seen h) (tree (seen u) no_trees)
cell_of ts h u is = ap (λ vs. trees_of (all_seen vs)) is

list_of_cell : (f : List ℕ) (ts : List Term) (h u : Term) (met : List ℕ) → ts ≡ h ∷ u ∷ [] → is_cell f (trees_of (all_seen ts)) ≡ true
    → text_of (compound f (trees_of (all_seen ts))) met ≡ 91 ∷ elements_text (seen h) (seen u) met ++ 93 ∷ []
list_of_cell f ts h u met is cell =
    ap (λ vs. text_of (compound f vs) met) (cell_of ts h u is) ∙ list_text f (seen h) (seen u) met (sym (ap (is_cell f) (cell_of ts h u is)) ∙ cell)

tail_of_cell : (f : List ℕ) (ts : List Term) (h u : Term) (met : List ℕ) → ts ≡ h ∷ u ∷ [] → is_cell f (trees_of (all_seen ts)) ≡ true
    → tail_text (compound f (trees_of (all_seen ts))) met ≡ comma ∷ elements_text (seen h) (seen u) met
tail_of_cell f ts h u met is cell =
    ap (λ vs. tail_text (compound f vs) met) (cell_of ts h u is) ∙ list_tail f (seen h) (seen u) met (sym (ap (is_cell f) (cell_of ts h u is)) ∙ cell)

pub put_compound-returns-then-is_cell-clause-text : goal.put_compound-returns-then-is_cell-clause-text
put_compound-returns-then-is_cell-clause-text t c =
    let cell : is_cell c.args.name.now (trees_of (all_seen c.args.args.now)) ≡ true = sym c.is_cell.ensures ∙ c.if-is_cell.true in
    on_ok_weaker c.put-then-is_cell.result
    (λ e. three_parts _ _ _ _ _ _ _ c.in_ok-put.ensures.text c.in_ok-put_elements.ensures.text e ∙ ap (λ z. c.args.out.now.text ++ z)
    (sym (list_of_cell c.args.name.now c.args.args.now c.parts_of.result.0.now c.parts_of.result.1.now c.args.met.now c.parts_of.ensures cell)))
    c.put-then-is_cell.ensures.text

pub put_compound_tail-returns-then-is_cell-clause-text : goal.put_compound_tail-returns-then-is_cell-clause-text
put_compound_tail-returns-then-is_cell-clause-text t c =
    let cell : is_cell c.args.name.now (trees_of (all_seen c.args.args.now)) ≡ true = sym c.is_cell.ensures ∙ c.if-is_cell.true in
    on_ok_weaker c.put_elements.result
    (λ e. two_parts _ _ _ _ _ c.in_ok-put.ensures.text e ∙ ap (λ z. c.args.out.now.text ++ z)
    (sym (tail_of_cell c.args.name.now c.args.args.now c.parts_of.result.0.now c.parts_of.result.1.now c.args.met.now c.parts_of.ensures cell)))
    c.put_elements.ensures.text

pub put_elements-returns-clause-text : goal.put_elements-returns-clause-text
put_elements-returns-clause-text t c =
    on_ok_weaker c.put_tail.result
    (λ e. two_parts _ _ _ _ _ c.in_ok-put_term.ensures.text e
    ∙ ap (λ z. c.args.out.now.text ++ (text_of (seen c.args.head.now) c.args.met.now ++ z))
    (same_tail (seen c.args.tail.now) c.put_term.new.met (c.args.met.now ++ variables (seen c.args.head.now)) c.in_ok-put_term.ensures.met))
    c.put_tail.ensures.text

pub put_elements-returns-clause-met : goal.put_elements-returns-clause-met
put_elements-returns-clause-met t c =
    on_ok_weaker c.put_tail.result (λ e. met_both c.args.met.now c.put_term.new.met c.put_tail.new.met _ _ c.in_ok-put_term.ensures.met e)
    c.put_tail.ensures.met

pub put_tail-returns-in-Cmp-clause-text : goal.put_tail-returns-in-Cmp-clause-text
put_tail-returns-in-Cmp-clause-text t c =
    let is = compound_is _ _ _ _ c.in-Cmp.is c.as_slice-in-Cmp.ensures.same in
    IfOk-equal c.put_compound_tail.result _ _ _ c.put_compound_tail.ensures.text (ap (λ u. c.args.out.now.text ++ tail_text u c.args.met.now) (sym is))

pub put_tail-returns-in_ok-put-in-Var-clause-text : goal.put_tail-returns-in_ok-put-in-Var-clause-text
put_tail-returns-in_ok-put-in-Var-clause-text t c =
    let is : seen c.args.tail.now ≡ variable c.in-Var.n = ap seen c.in-Var.is ∙ seen_variable c.in-Var.n in
    on_ok_weaker c.put_variable.result
    (λ e. two_parts _ _ _ _ _ c.in_ok-put-in-Var.ensures.text e ∙ ap (λ u. c.args.out.now.text ++ tail_text u c.args.met.now) (sym is))
    c.put_variable.ensures.text

pub put_tail-returns-in_ok-put-in-Int-clause-text : goal.put_tail-returns-in_ok-put-in-Int-clause-text
put_tail-returns-in_ok-put-in-Int-clause-text t c =
    let fits : FitsSigned w64 c.in-Int.v = search rules in
    on_ok_weaker c.put_integer.result
    (λ e. two_parts _ _ _ _ _ c.in_ok-put-in-Int.ensures.text e
    ∙ ap (λ z. c.args.out.now.text ++ z) (ap (λ ds. 124 ∷ ds) (integer_is c.in-Int.v c.args.met.now fits)
    ∙ (integer_tail c.in-Int.v c.args.met.now ∙ sym (ap (λ u. tail_text (seen u) c.args.met.now) c.in-Int.is))))
    c.put_integer.ensures.text
