use Rattle.std.proofs.Common.{arith, ap, sym, ◌∙◌, ◌≡◌, ◌+◌, ◌<◌, ◌^◌, ℕ, List, Bool, true, length}
use Rattle.std.specs.List.{list_all}
use Rattle.std.proofs.lemmas.Bool.{and_parts, lt-ltb}
use Rattle.ml_term.specs.Names.{is_name}
use Rattle.ml_term.specs.Seen.{seen, all_seen}
use Rattle.ml_term.specs.Tree.{Tree, variable, compound, has, place_in, trees_of, substitute, substitute_in, variables}
use Rattle.ml_term.specs.Valid.{is_valid}
use Rattle.ml_term.specs.declared.term.Term.TheViews.{Cmp}
use Rattle.ml_term.proofs.RenamedTerms.{place_below}
use Rattle.ml_term.proofs.CompoundTrees.{seen_variable, seen_compound}
use Rattle.ml_search.proofs.Unifying.FirstPlaces.{known_at}
use Rattle.ml_search.proofs.Unifying.TermsBuilt.{valid_compound, next_is_valid, built_more, built_valid, built_all, fewer_nodes, all_substituted}
use Rattle.ml_search.proofs.unification.rename.+renumber.Goals as goal

-- the place of a variable that was met
met_place : (met : List ℕ) (n : ℕ) (t : Tree) → t ≡ variable n → list_all (λ n. has n met) (variables t) ≡ true → place_in met n < length met
met_place met n t is known = place_below met n (and_parts (has n met) true (sym (ap (λ x. list_all (λ n. has n met) (variables x)) is) ∙ known)).0

pub renumber-overflow_cast-result : goal.renumber-overflow_cast-result
renumber-overflow_cast-result t c =
    let low = met_place c.args.met.now.keys c.in-Var.n (seen c.args.t.now) (ap seen c.in-Var.is ∙ seen_variable c.in-Var.n) c.requires.known in
    record { fits = omega (arith, low, c.place_of.ensures, c.requires.room) }

pub renumber-overflow_add-result : goal.renumber-overflow_add-result
renumber-overflow_add-result t c =
    let low = met_place c.args.met.now.keys c.in-Var.n (seen c.args.t.now) (ap seen c.in-Var.is ∙ seen_variable c.in-Var.n) c.requires.known in
    record { fits = omega (arith, low, c.place_of.ensures, c.requires.room) }

pub renumber-returns-in-Var-clause-valid : goal.renumber-returns-in-Var-clause-valid
renumber-returns-in-Var-clause-valid t c =
    let low = met_place c.args.met.now.keys c.in-Var.n (seen c.args.t.now) (ap seen c.in-Var.is ∙ seen_variable c.in-Var.n) c.requires.known in
    ap is_valid (seen_variable (c.args.first + c.place_of.result))
    ∙ lt-ltb (c.args.first + c.place_of.result) (2 ^ 32) (omega (arith, low, c.place_of.ensures, c.requires.room))

pub renumber-returns-in_ok-args-in-Cmp-clause-same :
    goal.renumber-returns-in_ok-args-in-Cmp-clause-same
renumber-returns-in_ok-args-in-Cmp-clause-same t c =
    let s : ℕ → Tree = λ n. variable (c.args.first + place_in c.args.met.now.keys n) in
    let name = c.in_ok-name-in-Cmp.name in
    let args = c.in_ok-args-in-Cmp.args.items in
    let is : seen c.args.t.now ≡ compound c.in-Cmp.f (trees_of (all_seen c.in-Cmp.ts)) = ap seen c.in-Cmp.is ∙ seen_compound c.in-Cmp.f c.in-Cmp.ts in
    let same : trees_of (all_seen c.as_slice.result.now) ≡ trees_of (all_seen c.in-Cmp.ts) = ap (λ us. trees_of (all_seen us)) c.as_slice.ensures.same in
    ap (λ us. seen (Cmp name us)) c.new.ensures
    ∙ seen_compound name args
    ∙ ap (λ f. compound f (trees_of (all_seen args))) c.in_ok-name-in-Cmp.ensures
    ∙ ap (compound c.in-Cmp.f) (c.in_ok-args-in-Cmp.ensures.same ∙ ap (substitute_in s) same)
    ∙ sym (ap (substitute s) is)

pub renumber-returns-in_ok-args-in-Cmp-clause-valid :
    goal.renumber-returns-in_ok-args-in-Cmp-clause-valid
renumber-returns-in_ok-args-in-Cmp-clause-valid t c =
    let name = c.in_ok-name-in-Cmp.name in
    let named : is_name name ≡ true = ap is_name (sym c.name.view_is) ∙ c.name.invariant in
    let args : length c.as_slice.result.now ≡ length c.in-Cmp.ts = ap length c.as_slice.ensures.same in
    ap (λ ts. is_valid (seen (Cmp name ts))) c.new.ensures
    ∙ valid_compound name c.in_ok-args-in-Cmp.args.items (length c.in-Cmp.ts) named
    (c.in_ok-args-in-Cmp.ensures.count ∙ args) c.as_slice.ensures.low c.as_slice.ensures.high c.in_ok-args-in-Cmp.ensures.valid

pub renumber_all-renumber-requires : goal.renumber_all-renumber-requires
renumber_all-renumber-requires t c =
    let ts = c.args.ts.now in
    let i = c.loop-t.t-index in
    let x = c.t-item.result in
    let fewer = fewer_nodes ts i x c.loop-t-test.true c.t-item.is in
    let p : ℕ → Bool = λ n. has n c.args.met.now.keys in (
      omega (arith, fewer),
      (
        next_is_valid ts i x c.loop-t-test.true c.t-item.is c.requires.valid,
        (ap (λ y. list_all p (variables (seen y))) c.t-item.is ∙ known_at p ts i x c.loop-t-test.true c.requires.known, c.requires.room),
      ),
    )

pub renumber_all-loop-t-preserved : goal.renumber_all-loop-t-preserved
renumber_all-loop-t-preserved t c =
    let ts = c.args.ts.now in
    let i = c.loop-t.t-index in
    let x = c.t-item.result in
    let s : ℕ → Tree = λ n. variable (c.args.first + place_in c.args.met.now.keys n) in
    record {
      same =
          built_more ts i x c.loop-t-test.true c.t-item.is
          (λ t. substitute s (seen t)) c.loop-t.us.items c.push.new.self.items c.in_ok-renumber.field-0 c.in_ok-push.ensures.items c.in_ok-renumber.ensures.same
          c.loop-t.invariant.same;
      valid =
          built_valid ts i x c.loop-t-test.true c.t-item.is
          (λ t. substitute s (seen t)) c.loop-t.us.items c.push.new.self.items c.in_ok-renumber.field-0 c.in_ok-push.ensures.items c.loop-t.invariant.valid
          c.in_ok-renumber.ensures.valid;
      count = omega (arith, c.in_ok-push.ensures.len, c.loop-t.invariant.count);
    }

pub renumber_all-returns-clause-same : goal.renumber_all-returns-clause-same
renumber_all-returns-clause-same t c =
    let s : ℕ → Tree = λ n. variable (c.args.first + place_in c.args.met.now.keys n) in
    ap trees_of
    (built_all (λ t. substitute s (seen t)) c.args.ts.now c.loop-t.us.items c.loop-t.t-index (omega (arith, c.loop-t-test.false)) c.loop-t.invariant.same)
    ∙ all_substituted s c.args.ts.now
