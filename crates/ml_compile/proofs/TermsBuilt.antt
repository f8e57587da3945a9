-- Code that builds terms, an instruction or an argument more at a time.
use Rattle.std.proofs.Common.{◌≡◌, ℕ, ℤ, List, [], ◌∷◌, ◌++◌, length, reverse, refl, sym, ap, subst, ◌∙◌, arith, append_assoc}
use Rattle.std.proofs.lemmas.List.{append-nil, reverse-append}
use mathlib.Core.List.{IsPrefix}
use Rattle.ml_term.specs.Tree.{Tree, variable, integer, atom, compound, trees_of}
use Rattle.ml_compile.specs.declared.instr.Instr.{Instr}
use Rattle.ml_compile.specs.declared.instr.Instr.TheVariants.{PutVar, PutInt, PutAtom, PutCmp}
use Rattle.ml_compile.specs.Spells.{Builds, nothing_built, variable_built, integer_built, atom_built, compound_built}
use Rattle.ml_compile.specs.inside.Appended.{Built}
use Rattle.ml_compile.proofs.CodeKept.{builds_on, builds_kept, keeps_prefix, stands_last, prefix_on, one_more}

-- building ends at a place that is given otherwise
ends_at : {code : List Instr} {p q r : ℕ} {ts us : List Tree} → q ≡ r → Builds code p q ts us → Builds code p r ts us
ends_at {code} {p} {q} {r} {ts} {us} e b = subst (λ (x : ℕ). Builds code p x ts us) e b

pub builds_variable : (old : List Instr) (n : ℕ) → Built old (variable n ∷ []) (old ++ PutVar n ∷ [])
builds_variable old n = record {
  begins = (PutVar n ∷ [], refl);
  builds = λ us. variable_built (stands_last old (PutVar n)) (ends_at (one_more old (PutVar n)) nothing_built);
}

pub builds_integer : (old : List Instr) (z : ℤ) → Built old (integer z ∷ []) (old ++ PutInt z ∷ [])
builds_integer old z = record {
  begins = (PutInt z ∷ [], refl);
  builds = λ us. integer_built (stands_last old (PutInt z)) (ends_at (one_more old (PutInt z)) nothing_built);
}

pub builds_atom : (old : List Instr) (f : List ℕ) → Built old (atom f ∷ []) (old ++ PutAtom f ∷ [])
builds_atom old f = record {
  begins = (PutAtom f ∷ [], refl);
  builds = λ us. atom_built (stands_last old (PutAtom f)) (ends_at (one_more old (PutAtom f)) nothing_built);
}

-- no term is built by no instruction
pub builds_none : (old : List Instr) → Built old [] old
builds_none old = record {
  begins = ([], append-nil old);
  builds = λ us. subst (λ (vs : List Tree). Builds old (length old) (length old) us vs) (sym (append-nil us)) nothing_built;
}

-- some terms, and then others
pub builds_more : (old mid new : List Instr) (ts us : List Tree) → Built old ts mid → Built mid us new → Built old (ts ++ us) new
builds_more old mid new ts us a b = record {
  begins = prefix_on old mid new a.begins b.begins;
  builds = λ vs.
      let first : Builds new (length old) (length mid) vs (vs ++ ts) = builds_kept 0 mid new (keeps_prefix mid new b.begins) (omega arith) (a.builds vs) in
      let both : Builds new (length old) (length new) vs ((vs ++ ts) ++ us) = builds_on first (b.builds (vs ++ ts)) in
      subst (λ (xs : List Tree). Builds new (length old) (length new) vs xs) (append_assoc vs ts us) both;
}

-- some terms, and then the compound of them
pub builds_compound : (old mid : List Instr) (f : List ℕ) (n : ℕ) (ts : List Tree) → length ts ≡ n → Built old ts mid
    → Built old (compound f (trees_of ts) ∷ []) (mid ++ PutCmp f n ∷ [])
builds_compound old mid f n ts len b =
    let new : List Instr = mid ++ PutCmp f n ∷ [] in
    let grown : IsPrefix mid new = (PutCmp f n ∷ [], refl) in
    record {
      begins = prefix_on old mid new b.begins grown;
      builds = λ us.
          let first : Builds new (length old) (length mid) us (us ++ ts) = builds_kept 0 mid new (keeps_prefix mid new grown) (omega arith) (b.builds us) in
          let last : Builds new (length mid) (length new) (us ++ ts) (us ++ compound f (trees_of ts) ∷ []) =
          compound_built us ts (stands_last mid (PutCmp f n)) len refl (ends_at (one_more mid (PutCmp f n)) nothing_built) in
          builds_on first last;
    }

-- the same, of what is seen as that term, in what is that code
pub built_so : (old new new' : List Instr) (t t' : Tree) → t ≡ t' → new ≡ new' → Built old (t' ∷ []) new' → Built old (t ∷ []) new
built_so old new new' t t' e e' b = rw (e, e') b

-- the arguments before the last one, the last one, and then the compound of them
pub builds_last : (old mid new : List Instr) (f name : List ℕ) (n : ℕ) (rest last : Tree) (front : List Tree)
    → rest ≡ compound f (trees_of (front ++ last ∷ [])) → name ≡ f → length (front ++ last ∷ []) ≡ n
    → Built old front mid → Built mid (last ∷ []) new → Built old (rest ∷ []) (new ++ PutCmp name n ∷ [])
builds_last old mid new f name n rest last front is same len a b =
    built_so old _ _ rest (compound name (trees_of (front ++ last ∷ []))) (is ∙ ap (λ g. compound g (trees_of (front ++ last ∷ []))) (sym same)) refl
    (builds_compound old new name n (front ++ last ∷ []) len (builds_more old mid new front (last ∷ []) a b))

-- a compound that is put behind others comes first of them
pub first_of_them : (new cs cs' : List Instr) (x : Instr) → cs' ≡ cs ++ x ∷ [] → new ++ reverse cs' ≡ (new ++ x ∷ []) ++ reverse cs
first_of_them new cs cs' x e =
    ap (λ w. new ++ reverse w) e ∙ (ap (λ w. new ++ w) (reverse-append cs (x ∷ [])) ∙ sym (append_assoc new (x ∷ []) (reverse cs)))
