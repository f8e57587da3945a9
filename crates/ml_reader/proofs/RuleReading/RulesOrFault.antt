-- Clauses are rules, or go wrong first.
use Rattle.std.specs.Prelude.{◌≡◌, ◌⊎◌, ℕ, true, IsSome, List, [], ◌∷◌, ◌++◌, Option, Some, None}
use Rattle.std.specs.List.{list_all, filter_map, cons_option}
use Rattle.std.proofs.Common.{refl, sym, ap, subst, ◌∙◌, append_assoc, inl, inr}
use Rattle.std.proofs.lemmas.List.{append-nil}
use Rattle.ml_term.specs.Tree.{Tree}
use Rattle.ml_term.specs.declared.declaration.Decl.{Decl}
use Rattle.ml_search.specs.Program.{Program, place_of}
use Rattle.ml_reader.specs.Lexemes.{ReadClause}
use Rattle.ml_reader.specs.Declarations.{Declares}
use Rattle.ml_reader.specs.Faults.{fault}
use Rattle.ml_reader.specs.Forms.{directive, form, directive_of}
use Rattle.ml_reader.specs.Rules.{Declare, Part, program_clause, list_item, wrong_part, is_right, part, parts, clause_part, item_part, AreRules, RulesGoWrong}
use Rattle.ml_reader.specs.Rules.{wrong_clause}
use Rattle.ml_reader.specs.inside.rules.RulesSteps.{Becomes, no_directive, adds_one, IsWrong, declares_nothing, declares_again}
use Rattle.ml_reader.specs.declared.fault.ReadFault.{ReadFault}
use Rattle.ml_reader.proofs.RuleReading.DeclarationsInOrder.{directive_is, declare_more, goes_wrong}
use Rattle.ml_reader.proofs.RuleReading.SortedClauses.{list_all-both, parts_more}
use Rattle.ml_reader.proofs.RuleReading.DeclarationTerms.{Says, declares_it, declares_none, says}

-- behind some declarations a clause makes others of them, or is wrong
data NextClause (c : ReadClause) (ds : List Decl) : Type 0 where
  becomes : (es : List Decl) → Becomes c ds es → NextClause c ds
  is_wrong : (f : ReadFault) → IsWrong c ds f → NextClause c ds

next_clause : (c : ReadClause) (ds : List Decl) → NextClause c ds
next_clause c ds = by (directive_of (form c.term)) refl
  where
    found : (t : Tree) (d : Decl) → form c.term ≡ directive t → Declares t d → (r : Option ℕ) → place_of ds d.pred.name d.pred.arity ≡ r → NextClause c ds
    found t d is h None e = becomes (ds ++ d ∷ []) (adds_one t d is h e)
    found t d is h (Some k) e = is_wrong _ (declares_again t d is h (subst IsSome (sym e) refl))

    said_by : (t : Tree) → form c.term ≡ directive t → Says t → NextClause c ds
    said_by t is (declares_it d h) = found t d is h (place_of ds d.pred.name d.pred.arity) refl
    said_by t is (declares_none none) = is_wrong _ (declares_nothing t is none)

    by : (r : Option Tree) → directive_of (form c.term) ≡ r → NextClause c ds
    by None e = becomes ds (no_directive e)
    by (Some t) e = said_by t (directive_is (form c.term) t e) (says t)

-- clauses declare some predicates, or go wrong
data Declaring (cs : List ReadClause) : Type 0 where
  declaring : (ds : List Decl) → Declare cs ds → Declaring cs
  going_wrong : (f : ReadFault) → RulesGoWrong cs f → Declaring cs

declare_or_wrong : (cs before rest : List ReadClause) (ds : List Decl) → cs ≡ before ++ rest → Declare before ds → Declaring cs
declare_or_wrong cs before [] ds is h = declaring ds (subst (λ cs. Declare cs ds) (sym (is ∙ append-nil before)) h)
declare_or_wrong cs before (c ∷ rest) ds is h =
    by (λ es k. declare_or_wrong cs (before ++ c ∷ []) rest es (is ∙ sym (append_assoc before (c ∷ []) rest)) k) (next_clause c ds)
  where
    by : ((es : List Decl) → Declare (before ++ c ∷ []) es → Declaring cs) → NextClause c ds → Declaring cs
    by ih (becomes es b) = ih es (declare_more before c ds es h b)
    by ih (is_wrong f w) = going_wrong f (goes_wrong cs before c ds f (record { after = rest; whole = is }) h w)

abbrev pub RulesOrWrong : List ReadClause → Type 0
RulesOrWrong cs = ((p : Program) × (items : List (ℕ × Tree)) × AreRules cs p items) ⊎ ((f : ReadFault) × RulesGoWrong cs f)

right_more : (ds : List Decl) (before : List ReadClause) (c : ReadClause) (r : Option Part) → part ds (form c.term) ≡ r
    → list_all is_right (cons_option r []) ≡ true
    → list_all is_right (parts ds before) ≡ true → list_all is_right (parts ds (before ++ c ∷ [])) ≡ true
right_more ds before c r e one right =
    ap (list_all is_right) (parts_more ds before c ∙ ap (λ r. parts ds before ++ cons_option r []) e)
    ∙ list_all-both is_right (parts ds before) (cons_option r []) right one

-- under their declarations the clauses are rules, or one of them is the first that is wrong
sorted_or_wrong : (cs : List ReadClause) (ds : List Decl) → Declare cs ds → (before rest : List ReadClause) → cs ≡ before ++ rest
    → list_all is_right (parts ds before) ≡ true → RulesOrWrong cs
sorted_or_wrong cs ds h before [] is right =
    inl (
      record { decls = ds; clauses = filter_map clause_part (parts ds cs) },
      filter_map item_part (parts ds cs),
      record {
        declared = h;
        right = ap (λ cs. list_all is_right (parts ds cs)) (is ∙ append-nil before) ∙ right;
        in_program = refl;
        in_lists = refl;
      },
    )
sorted_or_wrong cs ds h before (c ∷ rest) is right =
    by (λ k. sorted_or_wrong cs ds h (before ++ c ∷ []) rest (is ∙ sym (append_assoc before (c ∷ []) rest)) k) (part ds (form c.term)) refl
  where
    by : (list_all is_right (parts ds (before ++ c ∷ [])) ≡ true → RulesOrWrong cs) → (r : Option Part) → part ds (form c.term) ≡ r → RulesOrWrong cs
    by ih None e = ih (right_more ds before c None e refl right)
    by ih (Some (program_clause k)) e = ih (right_more ds before c (Some (program_clause k)) e refl right)
    by ih (Some (list_item n t)) e = ih (right_more ds before c (Some (list_item n t)) e refl right)
    by ih (Some (wrong_part k)) e = inr (fault k c.place, wrong_clause k h (record { after = rest; whole = is }) right e)

-- clauses are rules, or go wrong first
pub rules_unless_wrong : (cs : List ReadClause) → RulesOrWrong cs
rules_unless_wrong cs = by (declare_or_wrong cs [] cs [] refl (record { each = tt; once = refl }))
  where
    by : Declaring cs → RulesOrWrong cs
    by (declaring ds h) = sorted_or_wrong cs ds h [] cs refl refl
    by (going_wrong f w) = inr (f, w)
