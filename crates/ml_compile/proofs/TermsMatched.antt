-- Code that matches terms, an instruction or an argument more at a time.
use Rattle.std.proofs.Common.{◌≡◌, ℕ, ◌+◌, ◌<◌, ◌≤◌, nat_le, true, cond, eq-eqb, ℤ, List, [], ◌∷◌, ◌++◌, length, refl, sym, ap, subst, ◌∙◌, arith}
use Rattle.std.proofs.lemmas.Bool.{and_parts, leb-true}
use Rattle.std.proofs.lemmas.List.{append-nil}
use Rattle.ml_term.specs.Keys.{arguments}
use Rattle.ml_term.specs.Tree.{Tree, variable, integer, atom, compound, trees_of, list_of, nodes, nodes_of}
use Rattle.ml_term.specs.FirstDefect.{met_after_variable}
use Rattle.ml_term.specs.inside.Reading.{are_in_order}
use Rattle.ml_compile.specs.declared.instr.Instr.{Instr}
use Rattle.ml_compile.specs.declared.instr.Instr.TheVariants.{GetFirst, GetAgain, GetInt, GetAtom, GetCmp}
use Rattle.ml_compile.specs.Spells.{StandsAt, Matches, nothing_matched, first_matched, again_matched, integer_matched, atom_matched, compound_matched}
use Rattle.ml_compile.specs.inside.Appended.{Matched}
use Rattle.ml_compile.proofs.TermParts.{nodes_of_more, list_of_trees, arity_is_length}
use Rattle.ml_compile.proofs.CodeKept.{Keeps, matches_on, matches_kept, keeps_prefix, stands_last, prefix_on, one_more}

-- matching ends at a place that is given otherwise
ends_at : {code : List Instr} {p q r met after : ℕ} {ts : List Tree} → q ≡ r → Matches code p q met ts after → Matches code p r met ts after
ends_at {code} {p} {q} {r} {met} {after} {ts} e m = subst (λ (x : ℕ). Matches code p x met ts after) e m

-- matching begins at a place that is given otherwise
begins_at : {code : List Instr} {p q r met after : ℕ} {ts : List Tree} → p ≡ r → Matches code p q met ts after → Matches code r q met ts after
begins_at {code} {p} {q} {r} {met} {after} {ts} e m = subst (λ (x : ℕ). Matches code x q met ts after) e m

-- one instruction that is one term
matches_one : (old : List Instr) (met after : ℕ) (t : Tree) (x : Instr) → nodes t ≡ 1
    → (StandsAt (old ++ x ∷ []) (length old) x → Matches (old ++ x ∷ []) (length old + 1) (length (old ++ x ∷ [])) after [] after
    → Matches (old ++ x ∷ []) (length old) (length (old ++ x ∷ [])) met (t ∷ []) after)
    → Matched old met (t ∷ []) after (old ++ x ∷ [])
matches_one old met after t x one by = record {
  begins = (x ∷ [], refl);
  count = omega (arith, one_more old x, one);
  matches = by (stands_last old x) (ends_at (one_more old x) nothing_matched);
}

pub matches_first : (old : List Instr) (n : ℕ) → Matched old n (variable n ∷ []) (n + 1) (old ++ GetFirst n ∷ [])
matches_first old n = matches_one old n (n + 1) (variable n) (GetFirst n) refl (λ s m. first_matched s m)

pub matches_again : (old : List Instr) (met n : ℕ) → n < met → Matched old met (variable n ∷ []) met (old ++ GetAgain n ∷ [])
matches_again old met n l = matches_one old met met (variable n) (GetAgain n) refl (λ s m. again_matched s l m)

pub matches_integer : (old : List Instr) (met : ℕ) (z : ℤ) → Matched old met (integer z ∷ []) met (old ++ GetInt z ∷ [])
matches_integer old met z = matches_one old met met (integer z) (GetInt z) refl (λ s m. integer_matched s m)

pub matches_atom : (old : List Instr) (met : ℕ) (f : List ℕ) → Matched old met (atom f ∷ []) met (old ++ GetAtom f ∷ [])
matches_atom old met f = matches_one old met met (atom f) (GetAtom f) refl (λ s m. atom_matched s m)

pub matches_none : (old : List Instr) (met : ℕ) → Matched old met [] met old
matches_none old met = record { begins = ([], append-nil old); count = omega arith; matches = nothing_matched }

-- some terms, and then others
pub matches_more : (old mid new : List Instr) (met between after : ℕ) (ts us : List Tree) → Matched old met ts between mid → Matched mid between us after new
    → Matched old met (ts ++ us) after new
matches_more old mid new met between after ts us a b = record {
  begins = prefix_on old mid new a.begins b.begins;
  count = omega (arith, a.count, b.count, nodes_of_more ts us);
  matches = matches_on (matches_kept 0 mid new (keeps_prefix mid new b.begins) (omega arith) a.matches) b.matches;
}

-- a compound before its arguments
pub matches_compound : (old new : List Instr) (met after : ℕ) (f : List ℕ) (n size : ℕ) (ts : List Tree) → length ts ≡ n → size ≡ 1 + nodes_of (trees_of ts)
    → Matched (old ++ GetCmp f n size ∷ []) met ts after new → Matched old met (compound f (trees_of ts) ∷ []) after new
matches_compound old new met after f n size ts len sized a =
    let one : List Instr = old ++ GetCmp f n size ∷ [] in
    let k : Keeps 0 one new = keeps_prefix one new a.begins in
    let more = one_more old (GetCmp f n size) in
    let end : length new ≡ length old + size = omega (arith, a.count, more, sized) in
    record {
      begins = prefix_on old one new (GetCmp f n size ∷ [], refl) a.begins;
      count = omega (arith, a.count, more);
      matches = compound_matched (k.stands _ _ (omega arith) (stands_last old (GetCmp f n size))) (arity_is_length ts ∙ len)
          (subst (λ (us : List Tree). Matches new (length old + 1) (length old + size) met us after) (sym (list_of_trees ts))
          (begins_at (sym more) (ends_at end a.matches)))
          (begins_at end nothing_matched);
    }

-- the same, of what is seen as that term, in what is that code
pub matched_so : (old new new' : List Instr) (met after : ℕ) (t t' : Tree) → t ≡ t' → new ≡ new' → Matched old met (t' ∷ []) after new'
    → Matched old met (t ∷ []) after new
matched_so old new new' met after t t' e e' m = rw (e, e') m

-- the next variable
pub matches_next : (old new : List Instr) (met n after : ℕ) → met ≤ n → are_in_order met (n ∷ []) ≡ true → after ≡ met_after_variable met n
    → new ≡ old ++ GetFirst n ∷ [] → Matched old met (variable n ∷ []) after new
matches_next old new met n after high order e is =
    let low : n ≤ met = leb-true n met (and_parts (nat_le n met) true order).0 in
    let same : n ≡ met = omega arith in
    let more : met_after_variable met n ≡ met + 1 = ap (λ b. cond b (met + 1) met) (eq-eqb n met same) in
    let next : after ≡ n + 1 = omega (arith, e, more, same) in
    rw (is, next, ← same) (matches_first old n)

-- a compound, the arguments before the last one, and the last one
pub matches_last : (old one mid new : List Instr) (met between after : ℕ) (f name : List ℕ) (n size : ℕ) (rest last : Tree) (front : List Tree)
    → rest ≡ compound f (trees_of (front ++ last ∷ [])) → name ≡ f → length (front ++ last ∷ []) ≡ n → size ≡ nodes rest → one ≡ old ++ GetCmp name n size ∷ []
    → Matched one met front between mid → Matched mid between (last ∷ []) after new → Matched old met (rest ∷ []) after new
matches_last old one mid new met between after f name n size rest last front is same len sized e a b =
    let all : List Tree = front ++ last ∷ [] in
    let named : rest ≡ compound name (trees_of all) = is ∙ ap (λ g. compound g (trees_of all)) (sym same) in
    let both : Matched one met all after new = matches_more one mid new met between after front (last ∷ []) a b in
    matched_so old new new met after rest (compound name (trees_of all)) named refl
    (matches_compound old new met after name n size all len (sized ∙ ap nodes named) (subst (λ (x : List Instr). Matched x met all after new) e both))

-- a head without arguments
pub matches_no_arguments : (old : List Instr) (met : ℕ) (t : Tree) → list_of (arguments t) ≡ [] → Matched old met (list_of (arguments t)) met old
matches_no_arguments old met t none = rw none (matches_none old met)

-- a head with arguments
pub matches_arguments : (old new : List Instr) (met after : ℕ) (t : Tree) (f : List ℕ) (ts : List Tree) → t ≡ compound f (trees_of ts)
    → Matched old met ts after new → Matched old met (list_of (arguments t)) after new
matches_arguments old new met after t f ts is m = rw (ap (λ u. list_of (arguments u)) is ∙ list_of_trees ts) m
