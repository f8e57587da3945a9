-- Trees can be told apart, since a term can be made of each: so an equation of trees has one proof.
use Rattle.std.specs.Prelude.{◌≡◌, ℕ, zero, suc, Bool, true, false, List, [], ◌∷◌}
use Rattle.std.specs.Coded.{Coded, Coded-set, code_by, coded_bool, coded_list, coded_ℕ, coded×}
use Rattle.std.proofs.Common.{ap, ◌∙◌, refl}
use Rattle.ml_search.specs.Db.{at, Db, Id, Item, mine, Place}
use Rattle.ml_search.specs.Operations.{absent, added, cursor, full, item, no_item, present, removed, Reply}
use Rattle.ml_search.specs.Program.{true_body}
use Rattle.ml_search.specs.Replay.{Cursor}
use Rattle.ml_term.proofs.CompoundTrees.{seen_atom, seen_compound, seen_integer, seen_variable}
use Rattle.ml_term.specs.Seen.{all_seen, seen}
use Rattle.ml_term.specs.Tree.{atom, compound, integer, no_trees, Tree, tree, Trees, trees_of, variable}
use Rattle.ml_term.specs.contracts.declaration.Decl as declaration
use Rattle.ml_term.specs.contracts.term.Term as term
use Rattle.ml_term.specs.declared.declaration.Decl.{Decl}
use Rattle.ml_term.specs.declared.term.Term.{Term}
use Rattle.ml_term.specs.declared.term.Term.TheVariants.{Atom, Cmp, Int, Var}

abbrev mutual
  -- a term that is seen as a tree
  pub term_of : Tree → Term
  term_of (variable n) = Var n
  term_of (integer z) = Int z
  term_of (atom f) = Atom f
  term_of (compound f ts) = Cmp f (terms_of ts)

  pub terms_of : Trees → List Term
  terms_of no_trees = []
  terms_of (tree t ts) = term_of t ∷ terms_of ts

mutual
  pub term_is : (t : Tree) → seen (term_of t) ≡ t
  term_is (variable n) = seen_variable n
  term_is (integer z) = seen_integer z
  term_is (atom f) = seen_atom f
  term_is (compound f ts) = seen_compound f (terms_of ts) ∙ ap (compound f) (terms_are ts)

  terms_are : (ts : Trees) → trees_of (all_seen (terms_of ts)) ≡ ts
  terms_are no_trees = refl
  terms_are (tree t ts) =
      ap (λ u. tree u (trees_of (all_seen (terms_of ts)))) (term_is t) ∙ ap (tree t) (terms_are ts)

-- the code of trees
abbrev pub tree_code : Coded Tree
tree_code = code_by Term term.the_row.coded term_of seen term_is

-- ---- places, ids, items and cursors

place_parts : Place → Bool × ℕ
place_parts (at n) = (true, n)
place_parts mine = (false, 0)

place_from : Bool × ℕ → Place
place_from (true, n) = at n
place_from (false, n) = mine

place_back : (p : Place) → place_from (place_parts p) ≡ p
unfolding place_parts place_from
place_back (at n) = refl
place_back mine = refl

place_code : Coded Place
place_code = code_by (Bool × ℕ) (coded× coded_bool coded_ℕ) place_parts place_from place_back

id_code : Coded Id
id_code =
    code_by (Place × ℕ) (coded× place_code coded_ℕ) (λ i. (i.place, i.change))
    (λ p. record { place = p.0; change = p.1 }) (λ _. refl)

item_code : Coded Item
item_code =
    code_by (Id × Tree) (coded× id_code tree_code) (λ i. (i.id, i.term))
    (λ p. record { id = p.0; term = p.1 }) (λ _. refl)

cursor_code : Coded Cursor
cursor_code =
    code_by (ℕ × List Item) (coded× coded_ℕ (coded_list item_code)) (λ c. (c.list, c.members))
    (λ p. record { list = p.0; members = p.1 }) (λ _. refl)

-- ---- replies

reply_parts : Reply → ℕ × (ℕ × Tree)
reply_parts (cursor n) = (0, (n, true_body))
reply_parts (item t) = (1, (0, t))
reply_parts no_item = (2, (0, true_body))
reply_parts added = (3, (0, true_body))
reply_parts present = (4, (0, true_body))
reply_parts removed = (5, (0, true_body))
reply_parts absent = (6, (0, true_body))
reply_parts full = (7, (0, true_body))

reply_from : ℕ × (ℕ × Tree) → Reply
reply_from (zero, p) = cursor p.0
reply_from (suc zero, p) = item p.1
reply_from (suc (suc zero), p) = no_item
reply_from (suc (suc (suc zero)), p) = added
reply_from (suc (suc (suc (suc zero))), p) = present
reply_from (suc (suc (suc (suc (suc zero)))), p) = removed
reply_from (suc (suc (suc (suc (suc (suc zero))))), p) = absent
reply_from (suc (suc (suc (suc (suc (suc (suc n)))))), p) = full

reply_back : (r : Reply) → reply_from (reply_parts r) ≡ r
unfolding reply_parts reply_from
reply_back (cursor n) = refl
reply_back (item t) = refl
reply_back no_item = refl
reply_back added = refl
reply_back present = refl
reply_back removed = refl
reply_back absent = refl
reply_back full = refl

reply_code : Coded Reply
reply_code =
    code_by (ℕ × (ℕ × Tree)) (coded× coded_ℕ (coded× coded_ℕ tree_code)) reply_parts reply_from
    reply_back

-- ---- what has one proof

-- an equation of lists of declarations
pub decls_are_a_set : IsSet (List Decl)
decls_are_a_set = Coded-set (coded_list declaration.the_row.coded)

-- one of plain lists
pub lists_are_a_set : IsSet Db
lists_are_a_set = Coded-set (coded_list (coded_list item_code))

-- one of cursors
pub cursors_are_a_set : IsSet (List Cursor)
cursors_are_a_set = Coded-set (coded_list cursor_code)

-- and one of replies
pub replies_are_a_set : IsSet (List Reply)
replies_are_a_set = Coded-set (coded_list reply_code)

-- and one of the results of tests
pub tests_are_a_set : IsSet Bool
tests_are_a_set = Coded-set coded_bool

-- and one of numbers
pub counts_are_a_set : IsSet ℕ
counts_are_a_set = Coded-set coded_ℕ

-- and one of the numbers of lists
pub numbers_are_a_set : IsSet (List ℕ)
numbers_are_a_set = Coded-set (coded_list coded_ℕ)
