-- What the instruction at a place says of the terms that are matched from there.
use Rattle.std.proofs.Common.{◌≡◌, ℕ, ◌+◌, ◌<◌, ◌≤◌, ◌⊎◌, inl, inr, ℤ, List, [], ◌∷◌, ◌++◌, length, refl, sym, ap, subst, ◌∙◌, arith}
use Rattle.std.proofs.lemmas.Option.{slice_get_within}
use Rattle.ml_term.specs.Tree.{Tree, Trees, variable, integer, atom, compound, list_of, arity}
use Rattle.ml_compile.proofs.CodeKept.{matches_on, matches_forward}
use Rattle.ml_compile.specs.declared.instr.Instr.{Instr}
use Rattle.ml_compile.specs.declared.instr.Instr.TheVariants.{GetFirst, GetAgain, GetInt, GetAtom, GetCmp}
use Rattle.ml_compile.specs.Spells.{StandsAt, Matches, nothing_matched, first_matched, again_matched, integer_matched, atom_matched, compound_matched}

-- variables are only met
pub matches_rises : {code : List Instr} {p q met after : ℕ} {ts : List Tree} → Matches code p q met ts after → met ≤ after
matches_rises nothing_matched = omega arith
matches_rises (first_matched s m) = let h = matches_rises m in omega arith
matches_rises (again_matched s l m) = matches_rises m
matches_rises (integer_matched s m) = matches_rises m
matches_rises (atom_matched s m) = matches_rises m
matches_rises (compound_matched s n inner m) = let h = matches_rises inner in let k = matches_rises m in omega arith

-- instructions that match are instructions of the code
pub matches_within : {code : List Instr} {p q met after : ℕ} {ts : List Tree} → Matches code p q met ts after → p ≤ length code → q ≤ length code
matches_within nothing_matched l = l
matches_within {code} {p} (first_matched s m) l = let k = slice_get_within code p _ s in matches_within m (omega arith)
matches_within {code} {p} (again_matched s x m) l = let k = slice_get_within code p _ s in matches_within m (omega arith)
matches_within {code} {p} (integer_matched s m) l = let k = slice_get_within code p _ s in matches_within m (omega arith)
matches_within {code} {p} (atom_matched s m) l = let k = slice_get_within code p _ s in matches_within m (omega arith)
matches_within {code} {p} (compound_matched s n inner m) l =
    let k = slice_get_within code p _ s in matches_within m (matches_within inner (omega arith))

pub place_within : {code : List Instr} {p q met after : ℕ} {t : Tree} {ts : List Tree} → Matches code p q met (t ∷ ts) after → p < length code
place_within {code} {p} (first_matched s m) = slice_get_within code p _ s
place_within {code} {p} (again_matched s x m) = slice_get_within code p _ s
place_within {code} {p} (integer_matched s m) = slice_get_within code p _ s
place_within {code} {p} (atom_matched s m) = slice_get_within code p _ s
place_within {code} {p} (compound_matched s n inner m) = slice_get_within code p _ s

pub early_within : {code : List Instr} {p q met after : ℕ} {ts : List Tree} → Matches code p q met ts after → p < q → p < length code
early_within nothing_matched l = absurd (omega arith)
early_within {code} {p} (first_matched s m) l = slice_get_within code p _ s
early_within {code} {p} (again_matched s x m) l = slice_get_within code p _ s
early_within {code} {p} (integer_matched s m) l = slice_get_within code p _ s
early_within {code} {p} (atom_matched s m) l = slice_get_within code p _ s
early_within {code} {p} (compound_matched s n inner m) l = slice_get_within code p _ s

-- a term takes an instruction
pub takes_some : {code : List Instr} {p q met after : ℕ} {t : Tree} {ts : List Tree} → Matches code p q met (t ∷ ts) after → p < q
takes_some (first_matched s m) = let h = matches_forward m in omega arith
takes_some (again_matched s x m) = let h = matches_forward m in omega arith
takes_some (integer_matched s m) = let h = matches_forward m in omega arith
takes_some (atom_matched s m) = let h = matches_forward m in omega arith
takes_some (compound_matched s n inner m) = let h = matches_forward inner in let k = matches_forward m in omega arith

pub none_left : {code : List Instr} {p q met after : ℕ} → Matches code p q met [] after → (p ≡ q) × (met ≡ after)
none_left nothing_matched = (refl, refl)

-- the terms from a place within on
pub record Suffix (code : List Instr) (at q after : ℕ) : Type 0 where
  pub met : ℕ
  pub terms : List Tree
  pub matches : Matches code at q met terms after

here_or_behind : (p at : ℕ) → p ≤ at → (at ≡ p) ⊎ (p + 1 ≤ at)
here_or_behind p at l = grind arith

up_to_or_behind : (e at : ℕ) → (at ≤ e) ⊎ (e ≤ at)
up_to_or_behind e at = grind arith

pub suffix : {code : List Instr} {p q met after : ℕ} {ts : List Tree} (at : ℕ) → Matches code p q met ts after → p ≤ at → at ≤ q → Suffix code at q after
suffix {code} {p} {q} {met} at nothing_matched l k =
    let e : p ≡ at = omega arith in
    record { met = met; terms = []; matches = subst (λ (x : ℕ). Matches code x q met [] met) e nothing_matched }
suffix {code} {p} {q} {met} {after} {ts} at (first_matched s m) l k = elim (here_or_behind p at l) [
  | inl e ↦ record { met = met; terms = ts; matches = subst (λ (x : ℕ). Matches code x q met ts after) (sym e) (first_matched s m) }
  | inr b ↦ suffix at m b k
]
suffix {code} {p} {q} {met} {after} {ts} at (again_matched s x m) l k = elim (here_or_behind p at l) [
  | inl e ↦ record { met = met; terms = ts; matches = subst (λ (y : ℕ). Matches code y q met ts after) (sym e) (again_matched s x m) }
  | inr b ↦ suffix at m b k
]
suffix {code} {p} {q} {met} {after} {ts} at (integer_matched s m) l k = elim (here_or_behind p at l) [
  | inl e ↦ record { met = met; terms = ts; matches = subst (λ (x : ℕ). Matches code x q met ts after) (sym e) (integer_matched s m) }
  | inr b ↦ suffix at m b k
]
suffix {code} {p} {q} {met} {after} {ts} at (atom_matched s m) l k = elim (here_or_behind p at l) [
  | inl e ↦ record { met = met; terms = ts; matches = subst (λ (x : ℕ). Matches code x q met ts after) (sym e) (atom_matched s m) }
  | inr b ↦ suffix at m b k
]
suffix {code} {p} {q} {met} {after} {ts} at (compound_matched {between} {size} {us} {ts = rest} s n inner m) l k = elim (here_or_behind p at l) [
  | inl e ↦ record { met = met; terms = ts; matches = subst (λ (x : ℕ). Matches code x q met ts after) (sym e) (compound_matched s n inner m) }
  | inr b ↦ elim (up_to_or_behind (p + size) at) [
    | inl c ↦ let f = suffix at inner b c in record { met = f.met; terms = f.terms ++ rest; matches = matches_on f.matches m }
    | inr c ↦ suffix at m c k
  ]
]

-- the first of the terms, and what is left to match
pub record Next (code : List Instr) (p q : ℕ) (ts : List Tree) (after : ℕ) (t : Tree) : Type 0 where
  pub met : ℕ
  pub rest : List Tree
  pub is : ts ≡ t ∷ rest
  pub left : Matches code (p + 1) q met rest after

pub next_first : {code : List Instr} {p q met after : ℕ} {ts : List Tree} (n : ℕ) → StandsAt code p (GetFirst n) → p < q → Matches code p q met ts after
    → Next code p q ts after (variable n) × (n < after)
next_first n s l nothing_matched = absurd (omega arith)
next_first {code} {p} {q} {met} {after} n s l (first_matched {ts = rest} s' m) =
    let e : met ≡ n = cc (s, s') in
    let h = matches_rises m in
    (record { met = met + 1; rest = rest; is = ap (λ k. variable k ∷ rest) e; left = m }, omega arith)
next_first n s l (again_matched s' x m) = absurd (cc (s, s'))
next_first n s l (integer_matched s' m) = absurd (cc (s, s'))
next_first n s l (atom_matched s' m) = absurd (cc (s, s'))
next_first n s l (compound_matched s' x inner m) = absurd (cc (s, s'))

pub next_again : {code : List Instr} {p q met after : ℕ} {ts : List Tree} (n : ℕ) → StandsAt code p (GetAgain n) → p < q → Matches code p q met ts after
    → Next code p q ts after (variable n) × (n < after)
next_again n s l nothing_matched = absurd (omega arith)
next_again n s l (first_matched s' m) = absurd (cc (s, s'))
next_again {code} {p} {q} {met} {after} n s l (again_matched {n = k} {ts = rest} s' x m) =
    let e : k ≡ n = cc (s, s') in
    let h = matches_rises m in
    (record { met = met; rest = rest; is = ap (λ k. variable k ∷ rest) e; left = m }, omega arith)
next_again n s l (integer_matched s' m) = absurd (cc (s, s'))
next_again n s l (atom_matched s' m) = absurd (cc (s, s'))
next_again n s l (compound_matched s' x inner m) = absurd (cc (s, s'))

pub next_integer : {code : List Instr} {p q met after : ℕ} {ts : List Tree} (z : ℤ) → StandsAt code p (GetInt z) → p < q → Matches code p q met ts after
    → Next code p q ts after (integer z)
next_integer z s l nothing_matched = absurd (omega arith)
next_integer z s l (first_matched s' m) = absurd (cc (s, s'))
next_integer z s l (again_matched s' x m) = absurd (cc (s, s'))
next_integer {code} {p} {q} {met} {after} z s l (integer_matched {z = y} {ts = rest} s' m) =
    let e : y ≡ z = cc (s, s') in
    record { met = met; rest = rest; is = ap (λ k. integer k ∷ rest) e; left = m }
next_integer z s l (atom_matched s' m) = absurd (cc (s, s'))
next_integer z s l (compound_matched s' x inner m) = absurd (cc (s, s'))

pub next_atom : {code : List Instr} {p q met after : ℕ} {ts : List Tree} (f : List ℕ) → StandsAt code p (GetAtom f) → p < q → Matches code p q met ts after
    → Next code p q ts after (atom f)
next_atom f s l nothing_matched = absurd (omega arith)
next_atom f s l (first_matched s' m) = absurd (cc (s, s'))
next_atom f s l (again_matched s' x m) = absurd (cc (s, s'))
next_atom f s l (integer_matched s' m) = absurd (cc (s, s'))
next_atom {code} {p} {q} {met} {after} f s l (atom_matched {f = g} {ts = rest} s' m) =
    let e : g ≡ f = cc (s, s') in
    record { met = met; rest = rest; is = ap (λ k. atom k ∷ rest) e; left = m }
next_atom f s l (compound_matched s' x inner m) = absurd (cc (s, s'))

-- the first of the terms is a compound
pub record NextCompound (code : List Instr) (p q : ℕ) (ts : List Tree) (after : ℕ) (f : List ℕ) (n size met : ℕ) : Type 0 where
  pub args : Trees
  pub rest : List Tree
  pub is : ts ≡ compound f args ∷ rest
  pub many : arity args ≡ n
  pub between : ℕ
  pub inside : Matches code (p + 1) (p + size) met (list_of args) between
  pub behind : Matches code (p + size) q between rest after

pub next_compound : {code : List Instr} {p q met after : ℕ} {ts : List Tree} (f : List ℕ) (n size : ℕ) → StandsAt code p (GetCmp f n size) → p < q
    → Matches code p q met ts after → NextCompound code p q ts after f n size met
next_compound f n size s l nothing_matched = absurd (omega arith)
next_compound f n size s l (first_matched s' m) = absurd (cc (s, s'))
next_compound f n size s l (again_matched s' x m) = absurd (cc (s, s'))
next_compound f n size s l (integer_matched s' m) = absurd (cc (s, s'))
next_compound f n size s l (atom_matched s' m) = absurd (cc (s, s'))
next_compound {code} {p} {q} {met} {after} f n size s l (compound_matched {between} {n = k} {size = z} {f = g} {us} {ts = rest} s' x inner m) =
    let ef : g ≡ f = cc (s, s') in
    let en : k ≡ n = cc (s, s') in
    let ez : z ≡ size = cc (s, s') in
    record {
      args = us;
      rest = rest;
      is = ap (λ h. compound h us ∷ rest) ef;
      many = x ∙ en;
      between = between;
      inside = subst (λ (y : ℕ). Matches code (p + 1) (p + y) met (list_of us) between) ez inner;
      behind = subst (λ (y : ℕ). Matches code (p + y) q between rest after) ez m;
    }

-- the instruction is one of a head
pub is_one : {code : List Instr} {p q met after : ℕ} {ts : List Tree} {x : Instr} → StandsAt code p x → p < q → Matches code p q met ts after
    → ((n : ℕ) → x ≡ GetFirst n → ⊥) → ((n : ℕ) → x ≡ GetAgain n → ⊥) → ((z : ℤ) → x ≡ GetInt z → ⊥) → ((f : List ℕ) → x ≡ GetAtom f → ⊥)
    → ((f : List ℕ) (n size : ℕ) → x ≡ GetCmp f n size → ⊥) → ⊥
is_one s l nothing_matched v w i a k = omega arith
is_one s l (first_matched {met} s' m) v w i a k = v met (cc (s, s'))
is_one s l (again_matched {n} s' x m) v w i a k = w n (cc (s, s'))
is_one s l (integer_matched {z} s' m) v w i a k = i z (cc (s, s'))
is_one s l (atom_matched {f} s' m) v w i a k = a f (cc (s, s'))
is_one s l (compound_matched {n} {size} {f} s' x inner m) v w i a k = k f n size (cc (s, s'))
