-- What the instruction at a place says of the arguments that are built from there.
use Rattle.std.proofs.Common.{◌≡◌, ℕ, ◌+◌, ◌<◌, ℤ, Bool, true, false, ◌||◌, List, [], ◌∷◌, ◌++◌, map, length, get_or, refl, sym, ap, subst, ◌∙◌, arith, append_assoc}
use Rattle.std.specs.List.{list_any}
use Rattle.std.proofs.lemmas.List.{map-append, length-map}
use Rattle.std.proofs.lemmas.List.Folds.{list_any-append}
use Rattle.std.proofs.lemmas.Option.{slice_get_within}
use Rattle.ml_term.specs.Tree.{Tree, tree, variable, integer, atom, compound, trees_of, variables, variables_of, occurs, has, substitute, substitute_in}
use Rattle.ml_term.proofs.DistinctCounts.{has_append}
use Rattle.ml_term.proofs.Substitutions.{in_itself}
use Rattle.ml_term.specs.declared.declaration.Pred.{Pred}
use Rattle.ml_heap.specs.Changes.{Changes, cell_count, stands_for, Grows, HasOneMore, AreCells}
use Rattle.ml_heap.proofs.StoredTerms.{grows_none, grows_on, grows_one, one_inside, one_stands}
use Rattle.ml_heap.proofs.TermWalks.{cells_front, cells_back}
use Rattle.ml_compile.proofs.CodeKept.{builds_forward}
use Rattle.ml_compile.specs.declared.instr.Instr.{Instr}
use Rattle.ml_compile.specs.declared.instr.Instr.TheVariants.{PutVar, PutInt, PutAtom, PutCmp, Call}
use Rattle.ml_compile.specs.Spells.{StandsAt, Builds, nothing_built, variable_built, integer_built, atom_built, compound_built}
use Rattle.ml_match.specs.Slots.{HasSlot, HaveSlots, slot_tree}
use Rattle.ml_match.specs.Built.{IsCallAt, HasBuilt}
use Rattle.ml_match.specs.inside.Building.{IsBuilding}
use Rattle.ml_match.proofs.CellLists.{reads, slot_inside, built_none, built_more}

next_variable : {code : List Instr} {p q : ℕ} {us ts : List Tree} (n : ℕ) → StandsAt code p (PutVar n) → IsCallAt code q → Builds code p q us ts
    → Builds code (p + 1) q (us ++ variable n ∷ []) ts
next_variable n s c nothing_built = absurd (cc (s, c.1))
next_variable {code} {p} {q} {us} {ts} n s c (variable_built {n = m} s' b) =
    let e : m ≡ n = cc (s, s') in subst (λ (x : ℕ). Builds code (p + 1) q (us ++ variable x ∷ []) ts) e b
next_variable n s c (integer_built s' b) = absurd (cc (s, s'))
next_variable n s c (atom_built s' b) = absurd (cc (s, s'))
next_variable n s c (compound_built xs args s' l e b) = absurd (cc (s, s'))

next_integer : {code : List Instr} {p q : ℕ} {us ts : List Tree} (z : ℤ) → StandsAt code p (PutInt z) → IsCallAt code q → Builds code p q us ts
    → Builds code (p + 1) q (us ++ integer z ∷ []) ts
next_integer z s c nothing_built = absurd (cc (s, c.1))
next_integer z s c (variable_built s' b) = absurd (cc (s, s'))
next_integer {code} {p} {q} {us} {ts} z s c (integer_built {z = y} s' b) =
    let e : y ≡ z = cc (s, s') in subst (λ (x : ℤ). Builds code (p + 1) q (us ++ integer x ∷ []) ts) e b
next_integer z s c (atom_built s' b) = absurd (cc (s, s'))
next_integer z s c (compound_built xs args s' l e b) = absurd (cc (s, s'))

next_atom : {code : List Instr} {p q : ℕ} {us ts : List Tree} (f : List ℕ) → StandsAt code p (PutAtom f) → IsCallAt code q → Builds code p q us ts
    → Builds code (p + 1) q (us ++ atom f ∷ []) ts
next_atom f s c nothing_built = absurd (cc (s, c.1))
next_atom f s c (variable_built s' b) = absurd (cc (s, s'))
next_atom f s c (integer_built s' b) = absurd (cc (s, s'))
next_atom {code} {p} {q} {us} {ts} f s c (atom_built {f = g} s' b) =
    let e : g ≡ f = cc (s, s') in subst (λ (x : List ℕ). Builds code (p + 1) q (us ++ atom x ∷ []) ts) e b
next_atom f s c (compound_built xs args s' l e b) = absurd (cc (s, s'))

-- the arguments of a compound that comes next, and the terms before them
record Joins (code : List Instr) (p q : ℕ) (us ts : List Tree) (f : List ℕ) (n : ℕ) : Type 0 where
  others : List Tree
  args : List Tree
  many : length args ≡ n
  parts : us ≡ others ++ args
  left : Builds code (p + 1) q (others ++ compound f (trees_of args) ∷ []) ts

next_compound : {code : List Instr} {p q : ℕ} {us ts : List Tree} (f : List ℕ) (n : ℕ) → StandsAt code p (PutCmp f n) → IsCallAt code q → Builds code p q us ts
    → Joins code p q us ts f n
next_compound f n s c nothing_built = absurd (cc (s, c.1))
next_compound f n s c (variable_built s' b) = absurd (cc (s, s'))
next_compound f n s c (integer_built s' b) = absurd (cc (s, s'))
next_compound f n s c (atom_built s' b) = absurd (cc (s, s'))
next_compound {code} {p} {q} {us} {ts} f n s c (compound_built {n = m} {f = g} xs args s' l e b) =
    let en : m ≡ n = cc (s, s') in
    let ef : g ≡ f = cc (s, s') in
    record {
      others = xs;
      args = args;
      many = l ∙ en;
      parts = e;
      left = subst (λ (x : List ℕ). Builds code (p + 1) q (xs ++ compound x
          (trees_of args) ∷ []) ts) ef b;
    }

no_more : {code : List Instr} {p q : ℕ} {us ts : List Tree} → IsCallAt code p → Builds code p q us ts → (p ≡ q) × (us ≡ ts)
no_more c nothing_built = (refl, refl)
no_more c (variable_built s' b) = absurd (cc (c.1, s'))
no_more c (integer_built s' b) = absurd (cc (c.1, s'))
no_more c (atom_built s' b) = absurd (cc (c.1, s'))
no_more c (compound_built xs args s' l e b) = absurd (cc (c.1, s'))

is_one : {code : List Instr} {p q : ℕ} {us ts : List Tree} {x : Instr} → StandsAt code p x → IsCallAt code q → (IsCallAt code p → ⊥) → Builds code p q us ts
    → ((n : ℕ) → x ≡ PutVar n → ⊥) → ((z : ℤ) → x ≡ PutInt z → ⊥) → ((f : List ℕ) → x ≡ PutAtom f → ⊥) → ((f : List ℕ) (n : ℕ) → x ≡ PutCmp f n → ⊥) → ⊥
is_one s c d nothing_built v i a k = d c
is_one s c d (variable_built {n} s' b) v i a k = v n (cc (s, s'))
is_one s c d (integer_built {z} s' b) v i a k = i z (cc (s, s'))
is_one s c d (atom_built {f} s' b) v i a k = a f (cc (s, s'))
is_one s c d (compound_built {n} {f} xs args s' l e b) v i a k = k f n (cc (s, s'))

-- a variable that stands in one of the terms so far stands in one of them all
or_right : (b : Bool) → (b || true) ≡ true
or_right true = refl
or_right false = refl

in_front : (n : ℕ) (xs ys : List Tree) → list_any (occurs n) xs ≡ true → list_any (occurs n) (xs ++ ys) ≡ true
in_front n xs ys e = list_any-append (occurs n) xs ys ∙ ap (λ b. b || list_any (occurs n) ys) e

in_back : (n : ℕ) (xs ys : List Tree) → list_any (occurs n) ys ≡ true → list_any (occurs n) (xs ++ ys) ≡ true
in_back n xs ys e = list_any-append (occurs n) xs ys ∙ (ap (λ b. list_any (occurs n) xs || b) e ∙ or_right (list_any (occurs n) xs))

among : (n : ℕ) (args : List Tree) → has n (variables_of (trees_of args)) ≡ list_any (occurs n) args
among n [] = refl
among n (t ∷ args) = has_append n (variables t) (variables_of (trees_of args)) ∙ ap (λ b. occurs n t || b) (among n args)

or_false : (a : Bool) → (a || false) ≡ a
or_false true = refl
or_false false = refl

joined_any : (n : ℕ) (xs args : List Tree) (f : List ℕ) → list_any (occurs n) (xs ++ compound f (trees_of args) ∷ []) ≡ list_any (occurs n) (xs ++ args)
joined_any n xs args f =
    list_any-append (occurs n) xs (compound f (trees_of args) ∷ [])
    ∙ (ap (λ b. list_any (occurs n) xs || b) (or_false (has n (variables_of (trees_of args))) ∙ among n args) ∙ sym (list_any-append (occurs n) xs args))

stands_in_all : {code : List Instr} {p q : ℕ} {us ts : List Tree} (n : ℕ) → Builds code p q us ts → list_any (occurs n) us ≡ true →
    list_any (occurs n) ts ≡ true
stands_in_all n nothing_built e = e
stands_in_all {us} n (variable_built {n = m} s b) e = stands_in_all n b (in_front n us (variable m ∷ []) e)
stands_in_all {us} n (integer_built {z} s b) e = stands_in_all n b (in_front n us (integer z ∷ []) e)
stands_in_all {us} n (atom_built {f} s b) e = stands_in_all n b (in_front n us (atom f ∷ []) e)
stands_in_all {us} n (compound_built {f} xs args s l parts b) e =
    stands_in_all n b (joined_any n xs args f ∙ subst (λ (vs : List Tree). list_any (occurs n) vs ≡ true) parts e)

-- arguments with a substitution
pub substituted_trees : (s : ℕ → Tree) (ts : List Tree) → substitute_in s (trees_of ts) ≡ trees_of (map (substitute s) ts)
substituted_trees s [] = refl
substituted_trees s (t ∷ ts) = ap (tree (substitute s t)) (substituted_trees s ts)

-- a list in two parts, as the terms that it stands for
pub record Parts (f : ℕ → Tree) (qs : List ℕ) (xs ys : List Tree) : Type 0 where
  pub front : List ℕ
  pub back : List ℕ
  pub parts : qs ≡ front ++ back
  pub fronts : map f front ≡ xs
  pub backs : map f back ≡ ys

pub in_parts : (f : ℕ → Tree) (qs : List ℕ) (xs ys : List Tree) → map f qs ≡ xs ++ ys → Parts f qs xs ys
in_parts f qs [] ys e = record { front = []; back = qs; parts = refl; fronts = refl; backs = e }
in_parts f [] (x ∷ xs) ys e = absurd (cc e)
in_parts f (q ∷ qs) (x ∷ xs) ys e =
    let p = in_parts f qs xs ys (cc e) in
    let head : f q ≡ x = cc e in
    let rest : map f p.front ≡ xs = p.fronts in
    record {
      front = q ∷ p.front;
      back = p.back;
      parts = ap (λ rs. q ∷ rs) p.parts;
      fronts = ap (λ y. y ∷ map f p.front) head
          ∙ ap (λ zs. x ∷ zs) rest;
      backs = p.backs;
    }

module _ (old : Changes) (slots : List ℕ) (env : ℕ) (code : List Instr) (before : List ℕ) (q : ℕ) (ts : List Tree) (at : ℕ) (h : Changes) (cells : List ℕ)
    (b : IsBuilding old slots env code before q ts at h cells) where
  abbrev s : ℕ → Tree
  s = slot_tree old slots env

  -- a place before the call is one of the code
  pub place_inside : at < length code
  place_inside =
      let le = builds_forward b.left in
      let lt = slice_get_within code q (Call b.call.0) b.call.1 in
      omega arith

  -- the slot of a variable that comes next
  pub next_slot : (n : ℕ) → StandsAt code at (PutVar n) → HasSlot old slots (env + n)
  next_slot n x =
      b.slots_are n (stands_in_all n (next_variable n x b.call b.left)
      (in_back n b.terms (variable n ∷ []) (ap (λ z. z || false) (in_itself_ n))))
    where
      in_itself_ : (n : ℕ) → occurs n (variable n) ≡ true
      in_itself_ n = in_itself n

  -- the instruction that the code reads
  pub read_here : (d x : Instr) → d ≡ get_or code at d → d ≡ x → StandsAt code at x
  read_here d x e k = reads code at d x place_inside (sym e ∙ k)

  -- the slot of a variable, by the instruction that was read
  pub slot_here : (d : Instr) (n : ℕ) → d ≡ get_or code at d → d ≡ PutVar n → HasSlot old slots (env + n)
  slot_here d n e k = next_slot n (read_here d (PutVar n) e k)

  -- one term more
  one_more : (h' : Changes) (cells' : List ℕ) (t : Tree) (r : ℕ) → Builds code (at + 1) q (b.terms ++ t ∷ []) ts → Grows h h' → cells' ≡ cells ++ r ∷ []
      → r < cell_count h' → stands_for h' r ≡ substitute s t → IsBuilding old slots env code before q ts (at + 1) h' cells'
  one_more h' cells' t r left g e l st = record {
    terms = b.terms ++ t ∷ [];
    left = left;
    call = b.call;
    slots_are = b.slots_are;
    grown = grows_on old h h' b.grown g;
    built = subst (HasBuilt h' before cells') (sym (map-append (substitute s) b.terms (t ∷ [])))
        (built_more h h' before cells cells' (map (substitute s) b.terms) (substitute s t) r b.built g e l st);
  }

  pub after_variable : (cells' : List ℕ) (n r : ℕ) → StandsAt code at (PutVar n) → r ≡ get_or slots (env + n) 0 → cells' ≡ cells ++ r ∷ []
      → IsBuilding old slots env code before q ts (at + 1) h cells'
  after_variable cells' n r x e k =
      let slot = next_slot n x in
      let inside : r < cell_count old = omega (arith, e, slot_inside old slots (env + n) slot 0) in
      one_more h cells' (variable n) r (next_variable n x b.call b.left) (grows_none h) k (omega (arith, inside, b.grown.cells))
      (b.grown.others r inside ∙ ap (stands_for old) e)

  pub after_integer : (h' : Changes) (cells' : List ℕ) (z : ℤ) (r : ℕ) → StandsAt code at (PutInt z) → HasOneMore h h' r (integer z) → cells' ≡ cells ++ r ∷ []
      → IsBuilding old slots env code before q ts (at + 1) h' cells'
  after_integer h' cells' z r x m k =
      one_more h' cells' (integer z) r (next_integer z x b.call b.left) (grows_one h h' r _ m) k (one_inside h h' r _ m) (one_stands h h' r _ m)

  pub after_atom : (h' : Changes) (cells' : List ℕ) (f : List ℕ) (r : ℕ) → StandsAt code at (PutAtom f) → HasOneMore h h' r (atom f) → cells' ≡ cells ++ r ∷ []
      → IsBuilding old slots env code before q ts (at + 1) h' cells'
  after_atom h' cells' f r x m k =
      one_more h' cells' (atom f) r (next_atom f x b.call b.left) (grows_one h h' r _ m) k (one_inside h h' r _ m) (one_stands h h' r _ m)

  module _ (f : List ℕ) (n : ℕ) (x : StandsAt code at (PutCmp f n)) where
    next : Joins code at q b.terms ts f n
    next = next_compound f n x b.call b.left

    cut : Parts (stands_for h) b.built.made (map (substitute s) next.others) (map (substitute s) next.args)
    cut = in_parts (stands_for h) b.built.made _ _ (b.built.stand ∙ (ap (map (substitute s)) next.parts ∙ map-append (substitute s) next.others next.args))

    pub front_cells : List ℕ
    front_cells = before ++ cut.front

    pub last_cells : List ℕ
    last_cells = cut.back

    pub all_cells : cells ≡ front_cells ++ last_cells
    unfolding front_cells last_cells
    all_cells = b.built.cells ∙ (ap (λ qs. before ++ qs) cut.parts ∙ sym (append_assoc before cut.front cut.back))

    pub as_many : length last_cells ≡ n
    unfolding last_cells
    as_many = omega (arith, ap length cut.backs, length-map cut.back (stands_for h), length-map next.args (substitute s), next.many)

    inside_both : AreCells (cell_count h) (cut.front ++ cut.back)
    inside_both = subst (AreCells (cell_count h)) cut.parts b.built.inside

    pub last_inside : AreCells (cell_count h) last_cells
    unfolding last_cells
    last_inside = cells_back (cell_count h) cut.front cut.back inside_both

    pub after_compound : (h' : Changes) (cells' : List ℕ) (r : ℕ) → cells' ≡ front_cells ++ r ∷ []
        → HasOneMore h h' r (compound f (trees_of (map (stands_for h) last_cells))) → IsBuilding old slots env code before q ts (at + 1) h' cells'
    unfolding front_cells last_cells
    after_compound h' cells' r e m =
        let t : Tree = compound f (trees_of next.args) in
        let g : Grows h h' = grows_one h h' r _ m in
        let fronts : HasBuilt h before (before ++ cut.front) (map (substitute s) next.others) =
        record { made = cut.front; cells = refl; inside = cells_front (cell_count h) cut.front cut.back inside_both; stand = cut.fronts } in
        let stands : stands_for h' r ≡ substitute s t =
        one_stands h h' r _ m ∙ ap (compound f) (ap trees_of cut.backs ∙ sym (substituted_trees s next.args)) in
        record {
          terms = next.others ++ t ∷ [];
          left = next.left;
          call = b.call;
          slots_are = b.slots_are;
          grown = grows_on old h h' b.grown g;
          built = subst (HasBuilt h' before cells') (sym (map-append (substitute s) next.others (t ∷ [])))
              (built_more h h' before (before ++ cut.front) cells' (map (substitute s) next.others) (substitute s t) r fronts g e
              (one_inside h h' r _ m) stands);
        }

  -- at the call
  pub all_built : IsCallAt code at → (at ≡ q) × HasBuilt h before cells (map (substitute s) ts)
  all_built c = let e = no_more c b.left in (e.0, subst (λ (us : List Tree). HasBuilt h before cells (map (substitute s) us)) e.1 b.built)

  -- no other instruction comes
  pub is_one_of_these : (x : Instr) → StandsAt code at x → (IsCallAt code at → ⊥)
      → ((n : ℕ) → x ≡ PutVar n → ⊥) → ((z : ℤ) → x ≡ PutInt z → ⊥) → ((f : List ℕ) → x ≡ PutAtom f → ⊥) → ((f : List ℕ) (n : ℕ) → x ≡ PutCmp f n → ⊥) → ⊥
  is_one_of_these x y d v i a k = is_one y b.call d b.left v i a k

pub building_begins : (old : Changes) (slots : List ℕ) (env : ℕ) (code : List Instr) (before : List ℕ) (q : ℕ) (ts : List Tree) (at : ℕ)
    → Builds code at q [] ts → IsCallAt code q → HaveSlots old slots env ts → IsBuilding old slots env code before q ts at old before
building_begins old slots env code before q ts at b c s = record {
  terms = [];
  left = b;
  call = c;
  slots_are = s;
  grown = grows_none old;
  built = built_none old before;
}

-- an instruction that was read is no call
pub not_a_call : (code : List Instr) (at : ℕ) (d : Instr) → at < length code → d ≡ get_or code at d → ((g : Pred) → d ≡ Call g → ⊥) → IsCallAt code at → ⊥
not_a_call code at d lt e n c =
    let s : StandsAt code at d = reads code at d d lt (sym e) in
    n c.0 (cc (s, c.1))
