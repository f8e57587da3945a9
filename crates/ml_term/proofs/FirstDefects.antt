-- A defect that a node has is the first defect of what is read.
use Rattle.std.specs.Prelude.{◌≡◌, ◌≢◌, ℕ, suc, ◌+◌, ◌-◌, ◌<◌, ◌≤◌, true, List, [], ◌∷◌, ◌++◌, length, drop}
use Rattle.std.proofs.Common.{refl, sym, ap, ◌∙◌, arith, subst}
use Rattle.ml_term.specs.declared.reading.Progress.{Progress}
use Rattle.ml_term.specs.declared.stop.BytesStop.{BytesStop}
use Rattle.ml_term.specs.declared.stop.BytesStop.TheVariants.{Bad, OutOfMemory}
use Rattle.ml_term.specs.Tree.{Tree, arity, trees_of, nodes_of}
use Rattle.ml_term.specs.CanonicalBytes.{bytes_of_all, name_bytes}
use Rattle.ml_term.specs.Names.{is_name}
use Rattle.ml_term.specs.FirstDefect.{defect_at, node_at, defect_from}
use Rattle.ml_term.specs.inside.Reading.{RefusesAt, HasDefect, AreRead}
use Rattle.ml_term.proofs.StandingNodes.{after_whole, compound_stands, terms_stand}

pub refuses_so : (stop : BytesStop) (P Q : ℕ → Type 0) → ((place : ℕ) → P place → Q place) → RefusesAt stop P → RefusesAt stop Q
refuses_so (Bad bad) P Q f h = f bad.place h
refuses_so OutOfMemory P Q f h = tt

pub refuses_there : (stop : BytesStop) (place : ℕ) (P : ℕ → Type 0) → RefusesAt stop (λ p. p ≡ place) → P place → RefusesAt stop P
refuses_there stop place P e h = refuses_so stop (λ p. p ≡ place) P (λ p is. subst P (sym is) h) e

-- no node may come any more
pub no_nodes_left : (all : List ℕ) (before : Progress) → before.left ≡ 0 → HasDefect all 1 before before.at
unfolding defect_from
no_nodes_left all before e = λ others. let one : 1 + others ≡ suc others = omega arith in rw (e, one) refl

-- the node that stands there has a defect
pub node_refused : (all here : List ℕ) (before : Progress) (place : ℕ) → before.left ≢ 0 → drop before.at all ≡ here →
    node_at before.met before.at here ≡ defect_at place → HasDefect all 1 before place
unfolding defect_from
node_refused all here before place some is found = λ others.
    let left : before.left ≡ suc (before.left - 1) = omega (arith, some) in
    let one : 1 + others ≡ suc others = omega arith in
    rw (left, one, is, found) refl

-- the arguments of a compound have a defect
pub arguments_refused : (all rest : List ℕ) (before inner : Progress) (count : ℕ) (f : List ℕ) (place : ℕ) → is_name f ≡ true → 1 ≤ count →
    before.left ≡ 1 + inner.left → inner.met ≡ before.met
    → inner.at ≡ before.at + (3 + length f) → drop before.at all ≡ (3 ∷ count ∷ name_bytes f) ++ rest → drop inner.at all ≡ rest
    → HasDefect all count inner place → HasDefect all 1 before place
arguments_refused all rest before inner count f place name low left met at here behind defect = λ others.
    let one : 1 + others ≡ suc others = omega arith in
    let head = after_whole inner.left others before.met before.at (3 ∷ count ∷ name_bytes f) rest (3 + length f) count before.met (omega arith)
    (compound_stands before.met before.at count f rest name low) in
    ap (λ n. defect_from n (1 + others) before.met before.at (drop before.at all)) left
    ∙ ap (λ n. defect_from (1 + inner.left) n before.met before.at (drop before.at all)) one
    ∙ ap (defect_from (1 + inner.left) (suc others) before.met before.at) here
    ∙ head
    ∙ ap (λ n. defect_from inner.left (count + others) n (before.at + (3 + length f)) rest) (sym met)
    ∙ ap (λ n. defect_from inner.left (count + others) inner.met n rest) (sym at)
    ∙ ap (defect_from inner.left (count + others) inner.met inner.at) (sym behind)
    ∙ defect others

as_many : (us : List Tree) → arity (trees_of us) ≡ length us
as_many [] = refl
as_many (u ∷ us) = omega (arith, as_many us)

-- the next of some terms has a defect
pub next_refused : (all : List ℕ) (before after : Progress) (ts : List Tree) (count place : ℕ) → length ts < count → AreRead all before (trees_of ts) after →
    HasDefect all 1 after place → HasDefect all count before place
next_refused all before after ts count place few read defect = λ others.
    let others' = count - (length ts + 1) + others in
    let many : arity (trees_of ts) ≡ length ts = as_many ts in
    let wanted : count + others ≡ arity (trees_of ts) + (1 + others') = omega (arith, many, few) in
    let rest = drop after.at all in
    let behind = terms_stand after.left (1 + others') before.met before.at (trees_of ts) rest read.valid read.in_order in
    ap (λ n. defect_from n (count + others) before.met before.at (drop before.at all)) read.left
    ∙ ap (λ n. defect_from (nodes_of (trees_of ts) + after.left) n before.met before.at (drop before.at all)) wanted
    ∙ ap (defect_from (nodes_of (trees_of ts) + after.left) (arity (trees_of ts) + (1 + others')) before.met before.at) read.spelled
    ∙ behind
    ∙ ap (λ n. defect_from after.left (1 + others') n (before.at + length (bytes_of_all (trees_of ts))) rest) (sym read.met)
    ∙ ap (λ n. defect_from after.left (1 + others') after.met n rest) (sym read.ended)
    ∙ defect others'
