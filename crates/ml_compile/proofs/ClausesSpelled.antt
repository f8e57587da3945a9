-- Code that spells a clause: the count of its variables, its head, and its body.
use Rattle.std.proofs.Common.{◌≡◌, ℕ, true, ◌&&◌, List, [], ◌∷◌, length, refl, sym, ap, ◌∙◌, subst, arith}
use Rattle.std.proofs.lemmas.Bool.{and_parts}
use Rattle.ml_term.specs.Tree.{list_of, is_numbered, variables, width}
use Rattle.ml_term.specs.Keys.{arguments}
use Rattle.ml_term.specs.Valid.{is_valid}
use Rattle.ml_term.specs.inside.Reading.{are_in_order, met_after_variables}
use Rattle.ml_search.specs.Bodies.{body_from, is_callable}
use Rattle.ml_search.specs.Program.{Clause, clause_term}
use Rattle.ml_search.specs.WellFormed.{is_clause, is_clause_head}
use Rattle.ml_compile.specs.declared.instr.Instr.{Instr}
use Rattle.ml_compile.specs.declared.instr.Instr.TheVariants.{Enter}
use Rattle.ml_compile.specs.Spells.{StandsAt, SpellsClause, Matches}
use Rattle.ml_compile.specs.inside.Appended.{Matched, Blocked}
use Rattle.ml_compile.proofs.CodeKept.{Keeps, matches_kept, keeps_prefix, prefix_on}
use Rattle.ml_compile.proofs.VariablesCounted.{head_in_order, width_of_clause, below_width}

-- a clause of the language is numbered by first place
pub clause_is_numbered : (c : Clause) → is_clause c ≡ true → is_numbered (clause_term c.head c.body) ≡ true
clause_is_numbered c h =
    (and_parts (is_valid (clause_term c.head c.body) && is_clause_head c.head && is_callable c.body) (is_numbered (clause_term c.head c.body)) h).1

pub clause_head_in_order : (c : Clause) → is_clause c ≡ true → are_in_order 0 (variables c.head) ≡ true
clause_head_in_order c h = head_in_order c.head c.body (clause_is_numbered c h)

pub spells_clause : (c : Clause) (one mid new : List Instr) (n met : ℕ) → is_clause c ≡ true → one ≡ Enter n ∷ []
    → n ≡ met_after_variables (met_after_variables 0 (variables c.head)) (variables c.body)
    → Matched one 0 (list_of (arguments c.head)) met mid → Blocked mid (body_from c.body) new → SpellsClause new c
spells_clause c one mid new n met h e count m b =
    let numbered = clause_is_numbered c h in
    let behind : Keeps 0 mid new = keeps_prefix mid new b.begins in
    let whole : Keeps 0 one new = keeps_prefix one new (prefix_on one mid new m.begins b.begins) in
    let enter : StandsAt one 0 (Enter n) = subst (λ (xs : List Instr). StandsAt xs 0 (Enter n)) (sym e) refl in
    let same : n ≡ width (clause_term c.head c.body) = count ∙ sym (width_of_clause c.head c.body numbered) in
    let begin : length one ≡ 1 = ap length e in
    record {
      body_at = length mid;
      met = met;
      enters = subst (λ k. StandsAt new 0 (Enter k)) same (whole.stands 0 (Enter n) (omega arith) enter);
      head = subst (λ (p : ℕ). Matches new p (length mid) 0 (list_of (arguments c.head)) met) begin (matches_kept 0 mid new behind (omega arith) m.matches);
      body = b.block;
      within = below_width c.head c.body numbered;
    }
