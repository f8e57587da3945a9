-- Worked codes, for the rows. No public clause cites this module.
use Rattle.std.specs.Prelude.{ℕ, pos, List, [], ◌∷◌, codes}
use Rattle.ml_term.specs.Tree.{Tree, variable, integer, atom, compound_1, compound_2, compound_3}
use Rattle.ml_term.specs.declared.declaration.Pred.{Pred}
use Rattle.ml_search.specs.Program.{Clause, true_body}
use Rattle.ml_compile.specs.declared.instr.Instr.{Instr}
use Rattle.ml_compile.specs.declared.instr.Instr.TheVariants.{Enter, GetFirst, GetAgain, GetInt, GetAtom, GetCmp, PutVar, PutInt, PutAtom, PutCmp, Call, Proceed, True, Fail, Cut, Try, Choose}

-- a predicate by its name and arity
abbrev pub pred : List ℕ → ℕ → Pred
pred f n = record { name = f; arity = n }

-- a cell of a list
abbrev pub cell : Tree → Tree → Tree
cell = compound_2 (codes ".")

-- append([H|T], L, [H|R]) :- append(T, L, R).
abbrev pub append_clause : Clause
append_clause = record {
  head =
      compound_3 (codes "append") (cell (variable 0) (variable 1)) (variable 2)
      (cell (variable 0) (variable 3));
  body = compound_3 (codes "append") (variable 1) (variable 2) (variable 3);
}

-- its code
abbrev pub append_code : List Instr
append_code =
    Enter 4
    ∷ GetCmp (codes ".") 2 3
    ∷ GetFirst 0
    ∷ GetFirst 1
    ∷ GetFirst 2
    ∷ GetCmp (codes ".") 2 3
    ∷ GetAgain 0
    ∷ GetFirst 3
    ∷ PutVar 1
    ∷ PutVar 2
    ∷ PutVar 3
    ∷ Call (pred (codes "append") 3)
    ∷ Proceed
    ∷ []

-- p(7, a).
abbrev pub fact : Clause
fact = record {
  head = compound_2 (codes "p") (integer (pos 7)) (atom (codes "a"));
  body = true_body;
}

-- its code
abbrev pub fact_code : List Instr
fact_code = Enter 0 ∷ GetInt (pos 7) ∷ GetAtom (codes "a") ∷ True ∷ Proceed ∷ []

-- q(f(X, g(1)), b), X
abbrev pub goals : Tree
goals =
    compound_2 (codes ",")
    (compound_2 (codes "q")
    (compound_2 (codes "f") (variable 0) (compound_1 (codes "g") (integer (pos 1))))
    (atom (codes "b")))
    (variable 0)

-- their code
abbrev pub goals_code : List Instr
goals_code =
    PutVar 0
    ∷ PutInt (pos 1)
    ∷ PutCmp (codes "g") 1
    ∷ PutCmp (codes "f") 2
    ∷ PutAtom (codes "b")
    ∷ Call (pred (codes "q") 2)
    ∷ PutVar 0
    ∷ Call (pred (codes "call") 1)
    ∷ Proceed
    ∷ []

-- (a -> b ; c), !
abbrev pub alternative : Tree
alternative =
    compound_2 (codes ",")
    (compound_2 (codes ";") (compound_2 (codes "->") (atom (codes "a")) (atom (codes "b")))
    (atom (codes "c")))
    (atom (codes "!"))

-- its code
abbrev pub alternative_code : List Instr
alternative_code =
    Choose 3 5 7
    ∷ Call (pred (codes "a") 0)
    ∷ Proceed
    ∷ Call (pred (codes "b") 0)
    ∷ Proceed
    ∷ Call (pred (codes "c") 0)
    ∷ Proceed
    ∷ Cut
    ∷ Proceed
    ∷ []

-- (a -> b)
abbrev pub condition : Tree
condition = compound_2 (codes "->") (atom (codes "a")) (atom (codes "b"))

-- its code
abbrev pub condition_code : List Instr
condition_code =
    Choose 3 5 7
    ∷ Call (pred (codes "a") 0)
    ∷ Proceed
    ∷ Call (pred (codes "b") 0)
    ∷ Proceed
    ∷ Fail
    ∷ Proceed
    ∷ Proceed
    ∷ []

-- (a ; b)
abbrev pub choice : Tree
choice = compound_2 (codes ";") (atom (codes "a")) (atom (codes "b"))

-- its code
abbrev pub choice_code : List Instr
choice_code =
    Try 3 5
    ∷ Call (pred (codes "a") 0)
    ∷ Proceed
    ∷ Call (pred (codes "b") 0)
    ∷ Proceed
    ∷ Proceed
    ∷ []

-- catch(X, E, throw(E))
abbrev pub caught : Tree
caught =
    compound_3 (codes "catch") (variable 0) (variable 1) (compound_1 (codes "throw") (variable 1))

-- its code
abbrev pub caught_code : List Instr
caught_code =
    PutVar 0
    ∷ PutVar 1
    ∷ PutVar 1
    ∷ PutCmp (codes "throw") 1
    ∷ Call (pred (codes "catch") 3)
    ∷ Proceed
    ∷ []

-- findall(X, q(X), L)
abbrev pub collected : Tree
collected =
    compound_3 (codes "findall") (variable 0) (compound_1 (codes "q") (variable 0)) (variable 1)

-- its code
abbrev pub collected_code : List Instr
collected_code =
    PutVar 0
    ∷ PutVar 0
    ∷ PutCmp (codes "q") 1
    ∷ PutVar 1
    ∷ Call (pred (codes "findall") 3)
    ∷ Proceed
    ∷ []
