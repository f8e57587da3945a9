use Rattle.std.proofs.Common.{rules, arith, refl, ap, sym, ◌∙◌, ◌≡◌, ◌≢◌, ◌+◌, ◌∷◌, ◌++◌, ◌≤◌, [], ℕ, List, length, drop, cond, ◌<◌, ◌^◌, SFits, w64}
use Rattle.std.proofs.lemmas.Int.{to_z-of_z}
use Rattle.std.proofs.lemmas.Result.{err_from_is_err_and}
use Rattle.std.proofs.lemmas.List.{map_push, length-map, nil_from_length}
use Rattle.ml_term.specs.CanonicalBytes.{bytes_of, name_bytes}
use Rattle.ml_term.specs.FirstDefect.{met_after_variable, node_at}
use Rattle.ml_term.specs.inside.Reading.{HasDefect}
use Rattle.ml_term.specs.Seen.{all_seen, seen}
use Rattle.ml_term.specs.Tree.{arity, variable, integer, atom, compound, trees_of}
use Rattle.ml_term.specs.declared.term.Term.TheViews.{Cmp}
use Rattle.ml_term.proofs.StandingNodes.{compound_named, other_tag}
use Rattle.ml_term.proofs.FirstDefects.{refuses_so, refuses_there, no_nodes_left, node_refused, arguments_refused, next_refused}
use Rattle.ml_term.proofs.ReadTerms.{behind, is_inside, node_read, compound_read, one_more}
use Rattle.ml_term.proofs.TermSizes.{arity_of_trees}
use Rattle.ml_term.proofs.CompoundTrees.{seen_variable, seen_integer, seen_atom, seen_compound}
use Rattle.std.proofs.lemmas.Bool.{eq-eqb, ne_eqb, lt-ltb, le-leb, and_from}
use Rattle.ml_term.proofs.VariablesInOrder.{met_with_most}
use Rattle.ml_term.proofs.reading.+reading.Goals as goal
use Rattle.ml_term.proofs.reading.+reading.Goals.{term_at-then-number-before, term_at-else-number-before}

pub args_at-returns-in_err-arg-clause-bad : goal.args_at-returns-in_err-arg-clause-bad
args_at-returns-in_err-arg-clause-bad t c =
    let p = err_from_is_err_and c.from_residual.result c.from_residual.ensures.1 in
    let many : length (all_seen c.loop.args.items) ≡ c.loop.counter = length-map c.loop.args.items seen ∙ c.loop.invariant.count in
    rw (p.1, p.2)
    (refuses_so c.in_err-arg.field-0.0 (HasDefect c.args.bytes.now 1 c.loop.after) (HasDefect c.args.bytes.now c.args.count c.args.before)
    (λ place h. next_refused c.args.bytes.now c.args.before c.loop.after (all_seen c.loop.args.items) c.args.count place
    (omega (arith, many)) c.loop.invariant.read h)
    c.in_err-arg.ensures.bad)

pub args_at-loop-preserved : goal.args_at-loop-preserved
args_at-loop-preserved t c =
    let more : all_seen c.push.new.self.items ≡ all_seen c.loop.args.items ++ seen c.in_ok-arg.arg ∷ [] =
    rw c.in_ok-push.ensures.items (map_push seen c.loop.args.items c.in_ok-arg.arg) in
    record {
      read = rw more (one_more c.args.bytes.now c.args.before c.loop.after c.in_ok-arg.next (all_seen c.loop.args.items)
          (seen c.in_ok-arg.arg) c.loop.invariant.read c.in_ok-arg.ensures.found);
      count = omega (arith, c.in_ok-push.ensures.len, c.loop.invariant.count);
      left = refl;
    }

pub compound_at-returns-in_default-clause-bad :
    goal.compound_at-returns-in_default-clause-bad
unfolding node_at
compound_at-returns-in_default-clause-bad t c =
    let here : drop c.args.before.at c.args.bytes.now ≡ 3 ∷ [] =
    c.requires.tag ∙ ap (λ b. 3 ∷ b) (nil_from_length c.args.behind.now c.in_default.ensures.cases) in
    refuses_there c.bad.result _ (HasDefect c.args.bytes.now 1 c.args.before) c.bad.ensures
    (node_refused c.args.bytes.now (3 ∷ []) c.args.before _ (λ e. omega (arith, e)) here refl)

pub compound_at-returns-then-arity-eq0-clause-bad :
    goal.compound_at-returns-then-arity-eq0-clause-bad
unfolding node_at
compound_at-returns-then-arity-eq0-clause-bad t c =
    let here : drop c.args.before.at c.args.bytes.now ≡ 3 ∷ 0 ∷ c.in-Some.rest.now =
    c.requires.tag ∙ ap (λ b. 3 ∷ b) (c.in-Some.ensures.cases.0 ∙ ap (λ n. n ∷ c.in-Some.rest.now) c.if-arity-eq0.true) in
    refuses_there c.bad-then-arity-eq0.result _ (HasDefect c.args.bytes.now 1 c.args.before) c.bad-then-arity-eq0.ensures
    (node_refused c.args.bytes.now (3 ∷ 0 ∷ c.in-Some.rest.now) c.args.before _ (λ e. omega (arith, e)) here refl)

pub compound_at-returns-in_err-name-clause-bad :
    goal.compound_at-returns-in_err-name-clause-bad
unfolding node_at
compound_at-returns-in_err-name-clause-bad t c =
    let p = err_from_is_err_and c.from_residual.result c.from_residual.ensures.1 in
    let here : drop c.args.before.at c.args.bytes.now ≡ 3 ∷ c.in-Some.arity.now ∷ c.in-Some.rest.now =
    c.requires.tag ∙ ap (λ b. 3 ∷ b) c.in-Some.ensures.cases.0 in
    let some : c.args.before.left ≢ 0 = λ e. omega (arith, e, c.requires.left) in
    rw (p.1, p.2)
    (refuses_so c.in_err-name.field-0.0 _ (HasDefect c.args.bytes.now 1 c.args.before)
    (λ place h. node_refused c.args.bytes.now (3 ∷ c.in-Some.arity.now ∷ c.in-Some.rest.now) c.args.before place some here
    (compound_named c.args.before.met c.args.before.at c.in-Some.arity.now c.in-Some.rest.now c.if-arity-eq0.false
    ∙ h 2 c.in-Some.arity.now c.args.before.met c.args.before.at refl))
    c.in_err-name.ensures.bad)

pub compound_at-args_at-requires : goal.compound_at-args_at-requires
compound_at-args_at-requires t c =
    let name = c.in_ok-name.name in
    let front : List ℕ = 3 ∷ c.in-Some.arity.now ∷ name_bytes name in
    let more = drop (1 + length name) c.in-Some.rest.now in
    let here : drop c.args.before.at c.args.bytes.now ≡ front ++ more =
    c.requires.tag ∙ ap (λ b. 3 ∷ b) (c.in-Some.ensures.cases.0 ∙ ap (λ r. c.in-Some.arity.now ∷ r) c.in_ok-name.ensures.found) in
    let low = is_inside c.args.bytes.now c.args.before.at 3 c.args.behind.now c.requires.tag in
    let b = behind c.args.bytes.now c.args.before.at (3 + length name) front more low here (omega arith) in
    let long : length c.as_slice.result.now ≡ length name = ap length c.as_slice.ensures.same in (
      omega (arith, c.after_node-inner.ensures.left),
      (
        omega (arith, c.after_node-inner.ensures.at, long, b.1),
        omega (arith, c.after_node-inner.ensures.met, c.after_node-inner.ensures.left, c.requires.room),
      ),
    )

pub compound_at-returns-in_err-args-clause-bad :
    goal.compound_at-returns-in_err-args-clause-bad
compound_at-returns-in_err-args-clause-bad t c =
    let p = err_from_is_err_and c.from_residual-in_err-args.result c.from_residual-in_err-args.ensures.1 in
    let name = c.in_ok-name.name in
    let front : List ℕ = 3 ∷ c.in-Some.arity.now ∷ name_bytes name in
    let more = drop (1 + length name) c.in-Some.rest.now in
    let here : drop c.args.before.at c.args.bytes.now ≡ front ++ more =
    c.requires.tag ∙ ap (λ b. 3 ∷ b) (c.in-Some.ensures.cases.0 ∙ ap (λ r. c.in-Some.arity.now ∷ r) c.in_ok-name.ensures.found) in
    let low = is_inside c.args.bytes.now c.args.before.at 3 c.args.behind.now c.requires.tag in
    let b = behind c.args.bytes.now c.args.before.at (3 + length name) front more low here (omega arith) in
    let long : length c.as_slice.result.now ≡ length name = ap length c.as_slice.ensures.same in
    let at : c.after_node-inner.result.at ≡ c.args.before.at + (3 + length name) = omega (arith, c.after_node-inner.ensures.at, long) in
    let some : 1 ≤ c.in-Some.arity.now = omega (arith, c.if-arity-eq0.false) in
    let next : drop c.after_node-inner.result.at c.args.bytes.now ≡ more = ap (λ n. drop n c.args.bytes.now) at ∙ b.0 in
    rw (p.1, p.2)
    (refuses_so c.in_err-args.field-0.0 (HasDefect c.args.bytes.now c.in-Some.arity.now c.after_node-inner.result) (HasDefect c.args.bytes.now 1 c.args.before)
    (λ place h. arguments_refused c.args.bytes.now more c.args.before c.after_node-inner.result c.in-Some.arity.now name place c.as_slice.ensures.valid some
    c.after_node-inner.ensures.left c.after_node-inner.ensures.met at here next h)
    c.in_err-args.ensures.bad)

pub compound_at-returns-clause-found : goal.compound_at-returns-clause-found
compound_at-returns-clause-found t c =
    let name = c.in_ok-name.name in
    let ts = trees_of (all_seen c.in_ok-args.args.items) in
    let more = drop (1 + length name) c.in-Some.rest.now in
    let low = is_inside c.args.bytes.now c.args.before.at 3 c.args.behind.now c.requires.tag in
    let many : c.in-Some.arity.now ≡ arity ts = sym c.in_ok-args.ensures.count ∙ sym (arity_of_trees seen c.in_ok-args.args.items) in
    let here : drop c.args.before.at c.args.bytes.now ≡ (3 ∷ arity ts ∷ name_bytes name) ++ more =
    c.requires.tag ∙ ap (λ b. 3 ∷ b) (c.in-Some.ensures.cases.0 ∙ ap (λ r. c.in-Some.arity.now ∷ r) c.in_ok-name.ensures.found
    ∙ ap (λ n. n ∷ (name_bytes name ++ more)) many) in
    let b = behind c.args.bytes.now c.args.before.at (3 + length name) (3 ∷ arity ts ∷ name_bytes name) more low here (omega arith) in
    let long : length c.as_slice.result.now ≡ length name = ap length c.as_slice.ensures.same in
    let at : c.after_node-inner.result.at ≡ c.args.before.at + (3 + length name) = omega (arith, c.after_node-inner.ensures.at, long) in
    let next : drop c.after_node-inner.result.at c.args.bytes.now ≡ more = ap (λ n. drop n c.args.bytes.now) at ∙ b.0 in
    let is : seen (Cmp name c.new.result) ≡ compound name ts = ap (λ args. seen (Cmp name args)) c.new.ensures ∙ seen_compound name c.in_ok-args.args.items in
    rw is
    (compound_read c.args.bytes.now more c.args.before c.after_node-inner.result c.in_ok-args.after name ts low here next at c.as_slice.ensures.valid
    (omega (arith, many, c.if-arity-eq0.false)) (omega (arith, many)) c.after_node-inner.ensures.met c.after_node-inner.ensures.left c.in_ok-args.ensures.found)

pub term_at-returns-then-before-eq0-clause-bad :
    goal.term_at-returns-then-before-eq0-clause-bad
term_at-returns-then-before-eq0-clause-bad t c =
    refuses_there c.bad.result _ (HasDefect c.args.bytes.now 1 c.args.before) c.bad.ensures (no_nodes_left c.args.bytes.now c.args.before c.if-before-eq0.true)

pub term_at-returns-in_default-clause-bad : goal.term_at-returns-in_default-clause-bad
unfolding node_at
term_at-returns-in_default-clause-bad t c =
    let here : drop c.args.before.at c.args.bytes.now ≡ [] = sym c.split_at.ensures.back ∙ nil_from_length c.split_at.result.1.now c.in_default.ensures.cases in
    refuses_there c.bad-in_default.result _ (HasDefect c.args.bytes.now 1 c.args.before) c.bad-in_default.ensures
    (node_refused c.args.bytes.now [] c.args.before _ c.if-before-eq0.false here refl)

pub term_at-returns-in_err-number-in-0-clause-bad :
    goal.term_at-returns-in_err-number-in-0-clause-bad
unfolding node_at
term_at-returns-in_err-number-in-0-clause-bad t c =
    let p = err_from_is_err_and c.from_residual.result c.from_residual.ensures.1 in
    let here : drop c.args.before.at c.args.bytes.now ≡ 0 ∷ c.in-Some.behind.now =
    sym c.split_at.ensures.back ∙ c.in-Some.ensures.cases.0 ∙ ap (λ tag. tag ∷ c.in-Some.behind.now) c.in-0.is in
    rw (p.1, p.2)
    (refuses_so c.in_err-number-in-0.field-0.0 _ (HasDefect c.args.bytes.now 1 c.args.before)
    (λ place h. node_refused c.args.bytes.now (0 ∷ c.in-Some.behind.now) c.args.before place c.if-before-eq0.false here h)
    c.in_err-number-in-0.ensures.bad)

pub term_at-returns-in_err-v-in-1-clause-bad :
    goal.term_at-returns-in_err-v-in-1-clause-bad
unfolding node_at
term_at-returns-in_err-v-in-1-clause-bad t c =
    let p = err_from_is_err_and c.from_residual-in_err-v-in-1.result c.from_residual-in_err-v-in-1.ensures.1 in
    let here : drop c.args.before.at c.args.bytes.now ≡ 1 ∷ c.in-Some.behind.now =
    sym c.split_at.ensures.back ∙ c.in-Some.ensures.cases.0 ∙ ap (λ tag. tag ∷ c.in-Some.behind.now) c.in-1.is in
    rw (p.1, p.2)
    (refuses_so c.in_err-v-in-1.field-0.0 _ (HasDefect c.args.bytes.now 1 c.args.before)
    (λ place h. node_refused c.args.bytes.now (1 ∷ c.in-Some.behind.now) c.args.before place c.if-before-eq0.false here (h c.args.before.met))
    c.in_err-v-in-1.ensures.bad)

pub term_at-returns-in_err-name-in-2-clause-bad :
    goal.term_at-returns-in_err-name-in-2-clause-bad
unfolding node_at
term_at-returns-in_err-name-in-2-clause-bad t c =
    let p = err_from_is_err_and c.from_residual-in_err-name-in-2.result c.from_residual-in_err-name-in-2.ensures.1 in
    let here : drop c.args.before.at c.args.bytes.now ≡ 2 ∷ c.in-Some.behind.now =
    sym c.split_at.ensures.back ∙ c.in-Some.ensures.cases.0 ∙ ap (λ tag. tag ∷ c.in-Some.behind.now) c.in-2.is in
    rw (p.1, p.2)
    (refuses_so c.in_err-name-in-2.field-0.0 _ (HasDefect c.args.bytes.now 1 c.args.before)
    (λ place h. node_refused c.args.bytes.now (2 ∷ c.in-Some.behind.now) c.args.before place c.if-before-eq0.false here
    (h 1 0 c.args.before.met c.args.before.at refl))
    c.in_err-name-in-2.ensures.bad)

pub term_at-returns-after-number-before-clause-found :
    goal.term_at-returns-after-number-before-clause-found
term_at-returns-after-number-before-clause-found t c =
    let n = c.in_ok-number-in-0.number in
    let more = drop 4 c.in-Some.behind.now in
    let here : drop c.args.before.at c.args.bytes.now ≡ bytes_of (variable n) ++ more =
    sym c.split_at.ensures.back ∙ c.in-Some.ensures.cases.0 ∙ ap (λ tag. tag ∷ c.in-Some.behind.now) c.in-0.is
    ∙ ap (λ b. 0 ∷ b) c.in_ok-number-in-0.ensures.found in
    let met : c.if-number-before.met ≡ met_after_variable c.args.before.met n =
    elim c.if-number-before.branch [
      | term_at-then-number-before w ↦ w.met-is ∙ sym (ap (λ b. cond b (c.args.before.met + 1) c.args.before.met)
          (eq-eqb n c.args.before.met w.if-number-before.true))
      | term_at-else-number-before w ↦ w.met-is ∙ sym (ap (λ b. cond b (c.args.before.met + 1) c.args.before.met)
          (ne_eqb n c.args.before.met w.if-number-before.false))
    ] in
    let fits : n < 2 ^ 32 = search rules in
    rw (seen_variable n)
    (node_read c.args.bytes.now c.args.before c.after_node.result (variable n) more c.requires.place here c.after_node.ensures.at (lt-ltb n (2 ^ 32) fits)
    (and_from _ _ (le-leb n c.args.before.met c.in_ok-number-in-0.ensures.known) refl)
    (c.after_node.ensures.met ∙ met) refl c.after_node.ensures.left
    (omega (arith, c.after_node.ensures.met, c.after_node.ensures.left, met, met_with_most c.args.before.met n, c.requires.room)))

pub term_at-returns-in_ok-v-in-1-clause-found :
    goal.term_at-returns-in_ok-v-in-1-clause-found
term_at-returns-in_ok-v-in-1-clause-found t c =
    let v = c.in_ok-v-in-1.v in
    let more = drop 8 c.in-Some.behind.now in
    let here : drop c.args.before.at c.args.bytes.now ≡ bytes_of (integer v) ++ more =
    sym c.split_at.ensures.back ∙ c.in-Some.ensures.cases.0 ∙ ap (λ tag. tag ∷ c.in-Some.behind.now) c.in-1.is ∙ ap (λ b. 1 ∷ b) c.in_ok-v-in-1.ensures.found in
    let fits : SFits w64 v = search rules in
    rw (to_z-of_z, seen_integer v)
    (node_read c.args.bytes.now c.args.before c.after_node-in-1.result
    (integer v) more c.requires.place here c.after_node-in-1.ensures.at c.in_ok-v-in-1.ensures.valid refl c.after_node-in-1.ensures.met refl
    c.after_node-in-1.ensures.left
    (omega (arith, c.after_node-in-1.ensures.met, c.after_node-in-1.ensures.left, c.requires.room)))

pub term_at-returns-in_ok-name-in-2-clause-found :
    goal.term_at-returns-in_ok-name-in-2-clause-found
term_at-returns-in_ok-name-in-2-clause-found t c =
    let name = c.in_ok-name-in-2.name in
    let more = drop (1 + length name) c.in-Some.behind.now in
    let here : drop c.args.before.at c.args.bytes.now ≡ bytes_of (atom name) ++ more =
    sym c.split_at.ensures.back ∙ c.in-Some.ensures.cases.0 ∙ ap (λ tag. tag ∷ c.in-Some.behind.now) c.in-2.is
    ∙ ap (λ b. 2 ∷ b) c.in_ok-name-in-2.ensures.found in
    let long : length c.as_slice.result.now ≡ length name = ap length c.as_slice.ensures.same in
    rw (seen_atom name)
    (node_read c.args.bytes.now c.args.before c.after_node-after.result (atom name) more c.requires.place here
    (omega (arith, c.after_node-after.ensures.at, long)) c.as_slice.ensures.valid refl c.after_node-after.ensures.met refl c.after_node-after.ensures.left
    (omega (arith, c.after_node-after.ensures.met, c.after_node-after.ensures.left, c.requires.room)))

pub term_at-returns-in_default-tag-clause-bad :
    goal.term_at-returns-in_default-tag-clause-bad
term_at-returns-in_default-tag-clause-bad t c =
    let here : drop c.args.before.at c.args.bytes.now ≡ c.in-Some.tag.now ∷ c.in-Some.behind.now = sym c.split_at.ensures.back ∙ c.in-Some.ensures.cases.0 in
    refuses_there c.bad-in_default-tag.result _ (HasDefect c.args.bytes.now 1 c.args.before) c.bad-in_default-tag.ensures
    (node_refused c.args.bytes.now (c.in-Some.tag.now ∷ c.in-Some.behind.now) c.args.before _ c.if-before-eq0.false here
    (other_tag c.args.before.met c.args.before.at c.in-Some.tag.now c.in-Some.behind.now (search rules) (search rules) (search rules) (search rules)))
