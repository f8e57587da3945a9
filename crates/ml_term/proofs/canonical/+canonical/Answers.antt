use Rattle.std.specs.declared.cmp.Ordering.TheVariants.{Equal}
use Rattle.std.proofs.Common.{rules, ◌≡◌, true, ap, sym, ◌∙◌, ◌∷◌}
use Rattle.std.specs.Cmp.Lexicographic.{slice_cmp}
use Rattle.std.specs.Ordering.{nat_cmp, int_cmp, ordering_then}
use Rattle.ml_term.specs.CanonicalBytes.{bytes_of, bytes_of_all, name_bytes}
use Rattle.ml_term.specs.Seen.{all_seen, seen}
use Rattle.ml_term.specs.Tree.{integer, compound, trees_of, arity}
use Rattle.ml_term.specs.Valid.{is_in_range, is_valid}
use Rattle.ml_term.proofs.CanonicalOrder.{trees_compare, compounds_compare, integers_compare}
use Rattle.ml_term.proofs.Orderings.{decided_later, decided_here, decides_alone}
use Rattle.ml_term.proofs.TermSizes.{arity_of_trees}
use Rattle.ml_term.proofs.CompoundTrees.{seen_integer, seen_compound}
use Rattle.ml_term.proofs.canonical.+canonical.Goals as goal

pub all_canonical_cmp-returns-in-Equal : goal.all_canonical_cmp-returns-in-Equal
all_canonical_cmp-returns-in-Equal t c =
    let e : c.args.ts.now ≡ c.in-Some-Some.t.now ∷ c.in-Some-Some.ts.now = search rules in
    let f : c.args.us.now ≡ c.in-Some-Some.u.now ∷ c.in-Some-Some.us.now = search rules in
    let ts = trees_of (all_seen c.in-Some-Some.ts.now) in
    let us = trees_of (all_seen c.in-Some-Some.us.now) in
    let rest = slice_cmp nat_cmp (bytes_of_all ts) (bytes_of_all us) in
    let tied : slice_cmp nat_cmp (bytes_of (seen c.in-Some-Some.t.now)) (bytes_of (seen c.in-Some-Some.u.now)) ≡ Equal =
    sym c.canonical_cmp.ensures ∙ c.in-Equal.is in
    rw (e, f) (c.all_canonical_cmp.ensures ∙ sym (trees_compare (seen c.in-Some-Some.t.now) (seen c.in-Some-Some.u.now) ts us
    ∙ ap (λ o. ordering_then o rest) tied))

pub all_canonical_cmp-returns-in_default-canonical_cmp :
    goal.all_canonical_cmp-returns-in_default-canonical_cmp
all_canonical_cmp-returns-in_default-canonical_cmp t c =
    let e : c.args.ts.now ≡ c.in-Some-Some.t.now ∷ c.in-Some-Some.ts.now = search rules in
    let f : c.args.us.now ≡ c.in-Some-Some.u.now ∷ c.in-Some-Some.us.now = search rules in
    let ts = trees_of (all_seen c.in-Some-Some.ts.now) in
    let us = trees_of (all_seen c.in-Some-Some.us.now) in
    let rest = slice_cmp nat_cmp (bytes_of_all ts) (bytes_of_all us) in
    rw (e, f)
    (sym (trees_compare (seen c.in-Some-Some.t.now) (seen c.in-Some-Some.u.now) ts us
    ∙ ap (λ o. ordering_then o rest) (sym c.canonical_cmp.ensures)
    ∙ decides_alone c.canonical_cmp.result rest c.in_default-canonical_cmp.not-Equal))

pub canonical_cmp-returns-in-Int-Int : goal.canonical_cmp-returns-in-Int-Int
canonical_cmp-returns-in-Int-Int t c =
    let a : seen c.args.a.now ≡ integer c.in-Int-Int.y = ap seen c.in-Int-Int.is-0 ∙ seen_integer _ in
    let b : seen c.args.b.now ≡ integer c.in-Int-Int.z = ap seen c.in-Int-Int.is-1 ∙ seen_integer _ in
    let order : c.cmp-in-Int-Int.result ≡ int_cmp c.in-Int-Int.y c.in-Int-Int.z = c.cmp-in-Int-Int.ensures in
    let in_a : is_in_range c.in-Int-Int.y ≡ true = sym (ap is_valid a) ∙ c.requires.a in
    let in_b : is_in_range c.in-Int-Int.z ≡ true = sym (ap is_valid b) ∙ c.requires.b in
    rw (a, b) (order ∙ sym (integers_compare c.in-Int-Int.y c.in-Int-Int.z in_a in_b))

pub canonical_cmp-returns-in-Equal : goal.canonical_cmp-returns-in-Equal
canonical_cmp-returns-in-Equal t c =
    let f = c.in-Cmp-Cmp.f in
    let g = c.in-Cmp-Cmp.g in
    let ts = trees_of (all_seen c.in-Cmp-Cmp.ts) in
    let us = trees_of (all_seen c.in-Cmp-Cmp.us) in
    let a : seen c.args.a.now ≡ compound f ts = ap seen c.in-Cmp-Cmp.is-0 ∙ seen_compound _ _ in
    let b : seen c.args.b.now ≡ compound g us = ap seen c.in-Cmp-Cmp.is-1 ∙ seen_compound _ _ in
    let arities = nat_cmp (arity ts) (arity us) in
    let names = slice_cmp nat_cmp (name_bytes f) (name_bytes g) in
    let rest = slice_cmp nat_cmp (bytes_of_all ts) (bytes_of_all us) in
    let shape : c.then.result ≡ ordering_then arities names =
    cc (arity_of_trees seen c.in-Cmp-Cmp.ts, arity_of_trees seen c.in-Cmp-Cmp.us) in
    let all : c.all_canonical_cmp.result ≡ rest = cc in
    rw (a, b) (all ∙ sym (compounds_compare f g ts us ∙ decided_later arities names rest (sym shape ∙ c.in-Equal.is)))

pub canonical_cmp-returns-in_default-then : goal.canonical_cmp-returns-in_default-then
canonical_cmp-returns-in_default-then t c =
    let f = c.in-Cmp-Cmp.f in
    let g = c.in-Cmp-Cmp.g in
    let ts = trees_of (all_seen c.in-Cmp-Cmp.ts) in
    let us = trees_of (all_seen c.in-Cmp-Cmp.us) in
    let a : seen c.args.a.now ≡ compound f ts = ap seen c.in-Cmp-Cmp.is-0 ∙ seen_compound _ _ in
    let b : seen c.args.b.now ≡ compound g us = ap seen c.in-Cmp-Cmp.is-1 ∙ seen_compound _ _ in
    let arities = nat_cmp (arity ts) (arity us) in
    let names = slice_cmp nat_cmp (name_bytes f) (name_bytes g) in
    let rest = slice_cmp nat_cmp (bytes_of_all ts) (bytes_of_all us) in
    let shape : c.then.result ≡ ordering_then arities names =
    cc (arity_of_trees seen c.in-Cmp-Cmp.ts, arity_of_trees seen c.in-Cmp-Cmp.us) in
    rw (a, b)
    (shape ∙ sym (compounds_compare f g ts us ∙ decided_here arities names rest (λ e. c.in_default-then.not-Equal (shape ∙ e))))
