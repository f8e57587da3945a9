use Rattle.std.proofs.Common.{◌≡◌, ◌+◌, sym, subst, Some, None, slice_get}
use Rattle.ml_term.specs.Tree.{variables}
use Rattle.ml_search.specs.inside.Meeting.{variables_met}
use Rattle.ml_search.specs.inside.Unifying.{bindings_of, tree_of}
use Rattle.ml_search.proofs.Unifying.VariablesWalked.{Walk, walk_begins, walk_passes_bound, walk_passes_free, walk_finds, walk_ends}
use Rattle.ml_search.proofs.unification.occurs.occurs.Goals as goal
use Rattle.ml_search.proofs.unification.occurs.occurs.Goals.{in-Some-bound_to+in_ok-meet_from-in-Some-bound_to, in-None+else-n-variable}

pub loop-i-init : goal.loop-i-init
loop-i-init c =
    walk_begins (bindings_of c.args.bindings.now.entries) c.args.variable (tree_of c.args.at) c.new-met.result.keys c.meet_from.new.met.keys
    c.new-met.ensures.empty c.in_ok-meet_from.ensures

pub returns-in_default : goal.returns-in_default
returns-in_default c =
    let none : slice_get c.loop-i.met.keys c.loop-i.i ≡ None = cc (c.get_index.ensures.key, c.copied.ensures, c.in_default.is) in
    sym
    (walk_ends c.args.bindings.now.entries c.args.variable (tree_of c.args.at) c.loop-i.i c.loop-i.met.keys c.loop-i.invariant none
    c.len-no_two_of_one_variable.ensures.unique c.requires.free)

pub returns-in-None : goal.returns-in-None
returns-in-None c =
    let at : slice_get c.loop-i.met.keys c.loop-i.i ≡ Some c.in-Some.n = cc (c.get_index.ensures.key, c.copied.ensures, c.in-Some.is) in
    sym
    (walk_finds (bindings_of c.args.bindings.now.entries) c.args.variable (tree_of c.args.at) c.loop-i.i c.in-Some.n c.loop-i.met.keys c.loop-i.invariant at
    c.requires.triangular c.in-None.ensures.found c.if-n-variable.true)

pub loop-i-preserved : goal.loop-i-preserved
loop-i-preserved c =
    let bs = bindings_of c.args.bindings.now.entries in
    let v = c.args.variable in
    let t = tree_of c.args.at in
    let i = c.loop-i.i in
    let n = c.in-Some.n in
    let ms = c.loop-i.met.keys in
    let at : slice_get ms i ≡ Some n = cc (c.get_index.ensures.key, c.copied.ensures, c.in-Some.is) in
    elim c.match-bound_to.branch [
      | in-Some-bound_to+in_ok-meet_from-in-Some-bound_to w ↦
          let u = tree_of w.in-Some-bound_to.to in
          let more : c.match-bound_to.met.keys ≡ variables_met ms (variables u) = cc (w.met-is, w.in_ok-meet_from-in-Some-bound_to.ensures) in
          walk_passes_bound bs v t i n ms c.loop-i.invariant at u c.match-bound_to.met.keys c.requires.triangular w.in-Some-bound_to.ensures.found more
      | in-None+else-n-variable w ↦
          let same : ms ≡ c.match-bound_to.met.keys = cc w.met-is in
          subst (Walk bs v t (i + 1)) same (walk_passes_free bs v t i n ms c.loop-i.invariant at w.in-None.ensures.found w.if-n-variable.false)
    ]
