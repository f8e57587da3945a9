-- The terms of a head built from the last instruction to the first.
use Rattle.std.proofs.Common.{◌≡◌, ℕ, ◌+◌, ◌<◌, ℤ, List, [], ◌∷◌, ◌++◌, map, reverse, length, get_or, refl, sym, ap, subst, ◌∙◌, arith, append_assoc}
use Rattle.std.proofs.lemmas.List.{map-append, length-map, reverse-append, reverse-reverse, length-reverse}
use Rattle.ml_term.specs.Tree.{Tree, Trees, no_trees, tree, variable, integer, atom, compound, trees_of, list_of, arity, substitute, substitute_in}
use Rattle.ml_heap.specs.Changes.{Changes, cell_count, stands_for, Grows, HasOneMore, AreCells}
use Rattle.ml_heap.proofs.StoredTerms.{grows_none, grows_on, grows_one, one_inside, one_stands}
use Rattle.ml_heap.proofs.TermWalks.{cells_front, cells_back, cells_reversed}
use Rattle.ml_compile.proofs.CodeKept.{matches_on}
use Rattle.ml_compile.specs.declared.instr.Instr.{Instr}
use Rattle.ml_compile.specs.declared.instr.Instr.TheVariants.{GetFirst, GetAgain, GetInt, GetAtom, GetCmp}
use Rattle.ml_compile.specs.Spells.{StandsAt, Matches}
use Rattle.ml_match.specs.Slots.{HasSlot, slot_tree}
use Rattle.ml_match.specs.Built.{HasBuilt}
use Rattle.ml_match.specs.inside.Matching.{HaveSlotsBelow, IsWriting, MayWrite}
use Rattle.ml_match.proofs.CellLists.{reads, slot_inside, built_none, built_more}
use Rattle.ml_match.proofs.GoalsBuilt.{substituted_trees, Parts, in_parts}
use Rattle.ml_match.proofs.HeadParts.{early_within, takes_some, Next, next_first, next_again, next_integer, next_atom, NextCompound, next_compound}

turned : {A : Type 0} (x : A) (xs : List A) → reverse (x ∷ xs) ≡ reverse xs ++ x ∷ []
turned x xs = reverse-append (x ∷ []) xs

pub map_reverse : {A B : Type 0} (f : A → B) (xs : List A) → map f (reverse xs) ≡ reverse (map f xs)
map_reverse f [] = refl
map_reverse f (x ∷ xs) =
    ap (map f) (turned x xs) ∙ (map-append f (reverse xs) (x ∷ []) ∙ (ap (λ ys. ys ++ f x ∷ []) (map_reverse f xs) ∙ sym (turned (f x) (map f xs))))

trees_listed : (us : Trees) → trees_of (list_of us) ≡ us
trees_listed no_trees = refl
trees_listed (tree u us) = ap (tree u) (trees_listed us)

length_listed : (us : Trees) → length (list_of us) ≡ arity us
length_listed no_trees = refl
length_listed (tree u us) = omega (arith, length_listed us)

pub one_before : (code : List Instr) (p q to met after : ℕ) (ts : List Tree) → p ≡ q → Matches code p to met ts after → Matches code q to met ts after
one_before code p q to met after ts e m = subst (λ (x : ℕ). Matches code x to met ts after) e m

-- nothing is built at the end
pub writing_begins : (h : Changes) (slots : List ℕ) (env : ℕ) (code : List Instr) (before : List ℕ) (to after : ℕ) → HaveSlotsBelow h slots env after
    → IsWriting h slots env code before to after to h before
writing_begins h slots env code before to after s = record {
  slots_are = s;
  grown = grows_none h;
  built = λ met ts m. none met ts m;
}
  where
    none : (met : ℕ) (ts : List Tree) → Matches code to to met ts after → HasBuilt h before before (map (substitute (slot_tree h slots env)) (reverse ts))
    none met [] m = built_none h before
    none met (t ∷ ts) m = let l = takes_some m in absurd (omega arith)

module _ (old : Changes) (slots : List ℕ) (env : ℕ) (code : List Instr) (before : List ℕ) (to after at : ℕ) (h : Changes) (cells : List ℕ)
    (w : IsWriting old slots env code before to after (at + 1) h cells) (early : at < to) where
  abbrev s : ℕ → Tree
  s = slot_tree old slots env

  abbrev Written : Changes → List ℕ → List Tree → Type 0
  Written h' cells' ts = HasBuilt h' before cells' (map (substitute s) (reverse ts))

  -- one term more
  one_more : (h' : Changes) (cells' : List ℕ) (t : Tree) (r : ℕ) → Grows h h' → cells' ≡ cells ++ r ∷ [] → r < cell_count h' → stands_for h' r ≡ substitute s t
      → (ts : List Tree) → Next code at to ts after t → Written h' cells' ts
  one_more h' cells' t r g e l st ts n =
      let b = built_more h h' before cells cells' (map (substitute s) (reverse n.rest)) (substitute s t) r (w.built n.met n.rest n.left) g e l st in
      subst (HasBuilt h' before cells')
      (sym (map-append (substitute s) (reverse n.rest) (t ∷ [])) ∙ ap (map (substitute s)) (sym (turned t n.rest) ∙ ap reverse (sym n.is))) b

  with_more : (h' : Changes) (cells' : List ℕ) → Grows h h' → ((met : ℕ) (ts : List Tree) → Matches code at to met ts after → Written h' cells' ts)
      → IsWriting old slots env code before to after at h' cells'
  with_more h' cells' g b = record { slots_are = w.slots_are; grown = grows_on old h h' w.grown g; built = b }

  variable_more : (cells' : List ℕ) (n r : ℕ) → n < after → r ≡ get_or slots (env + n) 0 → cells' ≡ cells ++ r ∷ []
      → (ts : List Tree) → Next code at to ts after (variable n) → Written h cells' ts
  variable_more cells' n r l e k ts x =
      let slot = w.slots_are n l in
      let inside : r < cell_count old = omega (arith, e, slot_inside old slots (env + n) slot 0) in
      one_more h cells' (variable n) r (grows_none h) k (omega (arith, inside, w.grown.cells)) (w.grown.others r inside ∙ ap (stands_for old) e) ts x

  pub after_first : (cells' : List ℕ) (n r : ℕ) → StandsAt code at (GetFirst n) → r ≡ get_or slots (env + n) 0 → cells' ≡ cells ++ r ∷ []
      → IsWriting old slots env code before to after at h cells'
  after_first cells' n r x e k = with_more h cells' (grows_none h) (λ met ts m. let f = next_first n x early m in variable_more cells' n r f.1 e k ts f.0)

  pub after_again : (cells' : List ℕ) (n r : ℕ) → StandsAt code at (GetAgain n) → r ≡ get_or slots (env + n) 0 → cells' ≡ cells ++ r ∷ []
      → IsWriting old slots env code before to after at h cells'
  after_again cells' n r x e k = with_more h cells' (grows_none h) (λ met ts m. let f = next_again n x early m in variable_more cells' n r f.1 e k ts f.0)

  pub after_integer : (h' : Changes) (cells' : List ℕ) (z : ℤ) (r : ℕ) → StandsAt code at (GetInt z) → HasOneMore h h' r (integer z) → cells' ≡ cells ++ r ∷ []
      → IsWriting old slots env code before to after at h' cells'
  after_integer h' cells' z r x o k = with_more h' cells' (grows_one h h' r _ o)
      (λ met ts m. one_more h' cells' (integer z) r (grows_one h h' r _ o) k (one_inside h h' r _ o) (one_stands h h' r _ o) ts (next_integer z x early m))

  pub after_atom : (h' : Changes) (cells' : List ℕ) (f : List ℕ) (r : ℕ) → StandsAt code at (GetAtom f) → HasOneMore h h' r (atom f) → cells' ≡ cells ++ r ∷ []
      → IsWriting old slots env code before to after at h' cells'
  after_atom h' cells' f r x o k = with_more h' cells' (grows_one h h' r _ o)
      (λ met ts m. one_more h' cells' (atom f) r (grows_one h h' r _ o) k (one_inside h h' r _ o) (one_stands h h' r _ o) ts (next_atom f x early m))

  module _ (f : List ℕ) (n size met : ℕ) (x : StandsAt code at (GetCmp f n size)) (ts : List Tree) (m : Matches code at to met ts after) where
    c : NextCompound code at to ts after f n size met
    c = next_compound f n size x early m

    abbrev args : List Tree
    args = list_of c.args

    all_built : HasBuilt h before cells (map (substitute s) (reverse (args ++ c.rest)))
    all_built = w.built met (args ++ c.rest) (matches_on c.inside c.behind)

    split : map (substitute s) (reverse (args ++ c.rest)) ≡ map (substitute s) (reverse c.rest) ++ map (substitute s) (reverse args)
    split = ap (map (substitute s)) (reverse-append args c.rest) ∙ map-append (substitute s) (reverse c.rest) (reverse args)

    cut : Parts (stands_for h) all_built.made (map (substitute s) (reverse c.rest)) (map (substitute s) (reverse args))
    cut = in_parts (stands_for h) all_built.made _ _ (all_built.stand ∙ split)

    pub front_cells : List ℕ
    front_cells = before ++ cut.front

    pub last_cells : List ℕ
    last_cells = cut.back

    pub all_cells : cells ≡ front_cells ++ last_cells
    unfolding front_cells last_cells
    all_cells = all_built.cells ∙ (ap (λ qs. before ++ qs) cut.parts ∙ sym (append_assoc before cut.front cut.back))

    pub as_many : length last_cells ≡ n
    unfolding last_cells
    as_many =
        omega (
          arith,
          ap length cut.backs,
          length-map cut.back (stands_for h),
          length-map (reverse args) (substitute s),
          length-reverse args,
          length_listed c.args,
          c.many,
        )

    inside_both : AreCells (cell_count h) (cut.front ++ cut.back)
    inside_both = subst (AreCells (cell_count h)) cut.parts all_built.inside

    pub last_inside : AreCells (cell_count h) (reverse last_cells)
    unfolding last_cells
    last_inside = cells_reversed (cell_count h) cut.back (cells_back (cell_count h) cut.front cut.back inside_both)

    pub written_compound : (h' : Changes) (cells' : List ℕ) (r : ℕ) → cells' ≡ front_cells ++ r ∷ []
        → HasOneMore h h' r (compound f (trees_of (map (stands_for h) (reverse last_cells)))) → Written h' cells' ts
    unfolding front_cells last_cells
    written_compound h' cells' r e o =
        let t : Tree = compound f c.args in
        let g : Grows h h' = grows_one h h' r _ o in
        let fronts : HasBuilt h before (before ++ cut.front) (map (substitute s) (reverse c.rest)) =
        record { made = cut.front; cells = refl; inside = cells_front (cell_count h) cut.front cut.back inside_both; stand = cut.fronts } in
        let turned_back : map (stands_for h) (reverse cut.back) ≡ map (substitute s) args =
        map_reverse (stands_for h) cut.back ∙ (ap reverse (cut.backs ∙ map_reverse (substitute s) args) ∙ reverse-reverse (map (substitute s) args)) in
        let stands : stands_for h' r ≡ substitute s t =
        one_stands h h' r _ o
        ∙ ap (compound f) (ap trees_of turned_back ∙ (sym (substituted_trees s args) ∙ ap (substitute_in s) (trees_listed c.args))) in
        let b = built_more h h' before (before ++ cut.front) cells' (map (substitute s) (reverse c.rest)) (substitute s t) r fronts g e
        (one_inside h h' r _ o) stands in
        subst (HasBuilt h' before cells')
        (sym (map-append (substitute s) (reverse c.rest) (t ∷ [])) ∙ ap (map (substitute s)) (sym (turned t c.rest) ∙ ap reverse (sym c.is))) b

    pub compound_grows : (h' : Changes) (mid cells' : List ℕ)
        → ((front last : List ℕ) → cells ≡ front ++ last → length last ≡ n → mid ≡ front ++ reverse last)
        → ((front last : List ℕ) → mid ≡ front ++ last → length last ≡ n
        → (r : ℕ) × ((cells' ≡ front ++ r ∷ []) × HasOneMore h h' r (compound f (trees_of (map (stands_for h) last)))))
        → Grows h h'
    compound_grows h' mid cells' turn join =
        let j = join front_cells (reverse last_cells) (turn front_cells last_cells all_cells as_many) (omega (arith, length-reverse last_cells, as_many)) in
        grows_one h h' j.0 _ j.1.1

  -- a compound: the last cells are turned, and then become one
  pub after_compound : (f : List ℕ) (n size : ℕ) (h' : Changes) (mid cells' : List ℕ) → StandsAt code at (GetCmp f n size)
      → ((front last : List ℕ) → cells ≡ front ++ last → length last ≡ n → mid ≡ front ++ reverse last)
      → ((front last : List ℕ) → mid ≡ front ++ last → length last ≡ n
      → (r : ℕ) × ((cells' ≡ front ++ r ∷ []) × HasOneMore h h' r (compound f (trees_of (map (stands_for h) last)))))
      → Grows h h' → IsWriting old slots env code before to after at h' cells'
  after_compound f n size h' mid cells' x turn join g = with_more h' cells' g (λ met ts m.
      let front = front_cells f n size met x ts m in
      let last = last_cells f n size met x ts m in
      let j = join front (reverse last) (turn front last (all_cells f n size met x ts m) (as_many f n size met x ts m))
      (omega (arith, length-reverse last, as_many f n size met x ts m)) in
      written_compound f n size met x ts m h' cells' j.0 j.1.0 j.1.1)

-- what is known where an instruction may be built
module _ (slots : List ℕ) (env : ℕ) (code : List Instr) (at : ℕ) (h : Changes) {cells : List ℕ} (w : MayWrite slots env code at h cells) where
  -- the instruction that the code reads
  pub read_here : (d x : Instr) → d ≡ get_or code at d → d ≡ x → StandsAt code at x
  read_here d x e k = reads code at d x (early_within w.matches w.early) (sym e ∙ k)

  pub first_slot : (d : Instr) (n : ℕ) → d ≡ get_or code at d → d ≡ GetFirst n → HasSlot w.old slots (env + n)
  first_slot d n e k = w.writing.slots_are n (next_first n (read_here d (GetFirst n) e k) w.early w.matches).1

  pub again_slot : (d : Instr) (n : ℕ) → d ≡ get_or code at d → d ≡ GetAgain n → HasSlot w.old slots (env + n)
  again_slot d n e k = w.writing.slots_are n (next_again n (read_here d (GetAgain n) e k) w.early w.matches).1
