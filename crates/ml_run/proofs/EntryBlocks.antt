-- The print of the entries of a history.
use Rattle.std.proofs.Common.{◌≡◌, refl, sym, ap, ◌∙◌, subst, ℕ, List, [], ◌∷◌, ◌++◌, map, length}
use Rattle.std.specs.List.{flat_map}
use Rattle.ml_term.specs.Keys.{numbers_from}
use Rattle.ml_term.specs.Tree.{Tree}
use Rattle.ml_entries.specs.Entries.{AreEntries}
use Rattle.ml_search.specs.Db.{Db}
use Rattle.ml_search.specs.History.{Entry, history}
use Rattle.ml_search.specs.Loading.{first_db}
use Rattle.ml_search.specs.Printed.{block, print_of}
use Rattle.ml_search.specs.Program.{Program, Script}
use Rattle.ml_run.specs.Prints.{PrintsHistory}

-- the blocks together are the print of the entries
joined : (entries : List Entry) → flat_map (λ b. b) (map block entries) ≡ print_of entries
joined [] = refl
joined (e ∷ entries) = ap (λ bs. block e ++ bs) (joined entries)

-- what happened to the blocks happened to the printed history
pub blocks_printed : (p : Program) (items : List (ℕ × Tree)) (scripts : List Script) (db after : Db) (n : ℕ) (blocks : List (List ℕ))
    (happened : List ℕ → Type 0) → db ≡ first_db p.decls items → n ≡ length scripts → AreEntries p db scripts n blocks after
    → happened (flat_map (λ b. b) blocks) → PrintsHistory p items scripts happened
blocks_printed p items scripts db after n blocks happened e many are h = record {
  order = are.order;
  numbers = are.numbers ∙ ap (numbers_from 1) many;
  happened_to =
      subst happened
      (ap (flat_map (λ b. b)) are.are ∙ joined (history p db scripts are.order).0
      ∙ ap (λ (db : Db). print_of (history p db scripts are.order).0) e) h;
}
