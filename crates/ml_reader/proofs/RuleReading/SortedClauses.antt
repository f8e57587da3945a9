-- Clauses of rules that are put where they belong, one after another.
use Rattle.std.specs.Prelude.{◌≡◌, ℕ, Bool, true, IsTrue, List, [], ◌∷◌, ◌++◌}
use Rattle.std.specs.List.{list_all, filter_map, cons_option, AllByRecursion}
use Rattle.std.proofs.Common.{refl, sym, ap, ◌∙◌, subst, append_assoc}
use Rattle.std.proofs.lemmas.Bool.{and_parts, and_from}
use Rattle.std.proofs.lemmas.List.{append-nil}
use Rattle.ml_term.specs.Tree.{Tree}
use Rattle.ml_term.specs.declared.declaration.Decl.{Decl}
use Rattle.ml_search.specs.Program.{Clause}
use Rattle.ml_reader.specs.Lexemes.{ReadClause}
use Rattle.ml_reader.specs.Forms.{form, ComesNext}
use Rattle.ml_reader.specs.Rules.{Declare, is_right, clause_part, item_part, part, parts, AreRules, RulesGoWrong, wrong_clause}
use Rattle.ml_reader.specs.inside.rules.RulesSteps.{GoesIn, IsWrongUnder}
use Rattle.ml_reader.specs.Texts.{IsWellRead}
use Rattle.ml_reader.specs.declared.fault.ReadFault.{ReadFault}
use Rattle.ml_reader.proofs.RuleReading.DeclarationsInOrder.{filter_map-append}

-- these clauses and items stand before the rest
pub record SoFar (cs : List ReadClause) (ds : List Decl) (rest : List ReadClause) (clauses : List Clause) (items : List (ℕ × Tree)) : Type 0 where
  pub before : List ReadClause
  pub whole : cs ≡ before ++ rest
  pub right : IsTrue (list_all is_right (parts ds before))
  pub in_program : clauses ≡ filter_map clause_part (parts ds before)
  pub in_lists : items ≡ filter_map item_part (parts ds before)
  pub well_read : AllByRecursion IsWellRead rest

pub nothing_yet : (cs : List ReadClause) (ds : List Decl) → AllByRecursion IsWellRead cs → SoFar cs ds cs [] []
nothing_yet cs ds h = record { before = []; whole = refl; right = refl; in_program = refl; in_lists = refl; well_read = h }

pub list_all-both : {A : Type 0} (p : A → Bool) (xs ys : List A) → list_all p xs ≡ true → list_all p ys ≡ true → list_all p (xs ++ ys) ≡ true
list_all-both p [] ys e f = f
list_all-both p (x ∷ xs) ys e f = let parts = and_parts (p x) (list_all p xs) e in and_from _ _ parts.0 (list_all-both p xs ys parts.1 f)

pub parts_more : (ds : List Decl) (before : List ReadClause) (c : ReadClause)
    → parts ds (before ++ c ∷ []) ≡ parts ds before ++ cons_option (part ds (form c.term)) []
parts_more ds before c = filter_map-append (λ c. part ds (form c.term)) before (c ∷ [])

pub one_clause_more : (cs : List ReadClause) (ds : List Decl) (c : ReadClause) (rest : List ReadClause) (clauses more : List Clause)
    (items further : List (ℕ × Tree))
    → SoFar cs ds (c ∷ rest) clauses items → GoesIn (part ds (form c.term)) clauses more items further → SoFar cs ds rest more further
one_clause_more cs ds c rest clauses more items further h g =
    let before = h.before in
    let p = cons_option (part ds (form c.term)) [] in record {
      before = before ++ c ∷ [];
      whole = h.whole ∙ sym (append_assoc before (c ∷ []) rest);
      right = ap (list_all is_right) (parts_more ds before c) ∙ list_all-both is_right (parts ds before) p h.right g.right;
      in_program =
          g.in_program
          ∙ ap (λ ks. ks ++ filter_map clause_part p) h.in_program
          ∙ sym (ap (filter_map clause_part) (parts_more ds before c) ∙ filter_map-append clause_part (parts ds before) p);
      in_lists =
          g.in_lists
          ∙ ap (λ is. is ++ filter_map item_part p) h.in_lists
          ∙ sym (ap (filter_map item_part) (parts_more ds before c) ∙ filter_map-append item_part (parts ds before) p);
      well_read = h.well_read.1;
    }

pub clause_goes_wrong : (cs : List ReadClause) (ds : List Decl) (c : ReadClause) (rest : List ReadClause) (clauses : List Clause) (items : List (ℕ × Tree))
    (f : ReadFault)
    → SoFar cs ds (c ∷ rest) clauses items → Declare cs ds → IsWrongUnder ds c f → RulesGoWrong cs f
clause_goes_wrong cs ds c rest clauses items f h d w =
    let next : ComesNext cs h.before c = record { after = rest; whole = h.whole } in
    subst (RulesGoWrong cs) (sym w.at) (wrong_clause w.kind d next h.right w.is)

pub all_sorted : (cs : List ReadClause) (ds : List Decl) (clauses : List Clause) (items : List (ℕ × Tree)) → SoFar cs ds [] clauses items → Declare cs ds
    → AreRules cs (record { decls = ds; clauses = clauses }) items
all_sorted cs ds clauses items h d =
    let same : cs ≡ h.before = h.whole ∙ append-nil h.before in record {
      declared = d;
      right = ap (λ cs. list_all is_right (parts ds cs)) same ∙ h.right;
      in_program = h.in_program ∙ sym (ap (λ cs. filter_map clause_part (parts ds cs)) same);
      in_lists = h.in_lists ∙ sym (ap (λ cs. filter_map item_part (parts ds cs)) same);
    }
