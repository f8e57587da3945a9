-- Each part spells a goal more; offsets are written when the blocks stand.
use Rattle.std.proofs.Common.{◌≡◌, false, length, codes, arith, ap, sym, ◌∙◌, refl}
use Rattle.std.proofs.lemmas.Result.{on_ok_weaker}
use Rattle.ml_term.specs.Seen.{seen}
use Rattle.ml_term.specs.Tree.{compound_2}
use Rattle.ml_search.specs.Bodies.{body_from}
use Rattle.ml_compile.specs.inside.Appended.{is_pair}
use Rattle.ml_compile.proofs.PairsTested.{compound_is, nodes_of_pair}
use Rattle.ml_compile.proofs.BodiesTaken.{conjunction_from, called_so, plain_disjunction}
use Rattle.ml_compile.proofs.BodiesSpelled.{spells_conjunction, spells_disjunction, spells_if_then, spells_if_then_else, ends_block, spelled_so}
use Rattle.ml_compile.proofs.body.+spell.Goals as goal

pub spell-loop-first-smaller : goal.spell-loop-first-smaller
spell-loop-first-smaller t c =
    let parts = nodes_of_pair _ _ _ _ c.in-Some.ensures in
    omega (arith, parts)

pub spell-loop-first-preserved : goal.spell-loop-first-preserved
spell-loop-first-preserved t c =
    let first = seen c.in-Some.first.now in
    let others = seen c.in-Some.others.now in
    let parts = nodes_of_pair _ _ _ _ c.in-Some.ensures in
    let pair : seen c.loop-first.rest.now ≡ compound_2 (codes ",") first others = c.in-Some.ensures ∙ ap (λ f. compound_2 f first others) c.as_slice.ensures in
    record {
      small = omega (arith, parts, c.loop-first.invariant.small);
      awaits = λ new s.
          c.loop-first.invariant.awaits new
          (spelled_so _ new new _ _ (conjunction_from _ _ _ pair) refl (spells_conjunction _ _ _ _ _ c.in_ok-spell-in-Some.ensures s));
    }

pub spell-spell_goal-requires : goal.spell-spell_goal-requires
spell-spell_goal-requires t c =
    (omega (arith, c.loop-first.invariant.small), ap (λ f. is_pair f (seen c.loop-first.rest.now)) (sym c.as_slice.ensures) ∙ c.in-None.ensures)

pub spell-returns-in-None : goal.spell-returns-in-None
spell-returns-in-None t c = c.loop-first.invariant.awaits _ c.in_ok-spell_goal-in-None.ensures

pub spell_block-returns : goal.spell_block-returns
spell_block-returns t c = rw c.in_ok-push.ensures.items (ends_block _ _ _ c.in_ok-spell.ensures)

pub spell_disjunction-returns : goal.spell_disjunction-returns
spell_disjunction-returns t c =
    let none : is_pair (codes "->") (seen c.args.first.now) ≡ false =
    ap (λ f. is_pair f (seen c.args.first.now)) (sym c.as_slice.ensures) ∙ c.in_default.ensures in
    let at : c.len-at.result ≡ length c.args.code.now.items = omega (arith, c.len-at.ensures, c.args.code.now.ok.0) in
    let behind : c.len-behind.result ≡ length c.spell_block.new.code.items = omega (arith, c.len-behind.ensures, c.spell_block.new.code.ok.0) in
    spelled_so _ _ _ _ _ (plain_disjunction (seen c.args.first.now) (body_from (seen c.args.second.now)) none) refl
    (spells_disjunction _ _ _ _ _ _ _ _ _ c.in_ok-push.ensures.items at behind c.in_ok-spell_block.ensures c.in_ok-spell_block-2.ensures
    c.close_disjunction.ensures)

pub spell_goal-returns-in-Cmp : goal.spell_goal-returns-in-Cmp
spell_goal-returns-in-Cmp t c =
    let body = seen c.args.body.now in
    let second : is_pair (codes ";") body ≡ false = ap (λ f. is_pair f body) (sym c.as_slice.ensures) ∙ c.in_default.ensures in
    let third : is_pair (codes "->") body ≡ false = ap (λ f. is_pair f body) (sym c.as_slice-2.ensures) ∙ c.in_default-operands_of.ensures in
    let is = compound_is _ _ _ _ c.in-Cmp.is c.as_slice-in-Cmp.ensures.same in
    let called = called_so body _ _ is c.requires second third in
    on_ok_weaker c.spell_call.result (λ s. spelled_so _ _ _ _ _ called refl s) c.spell_call.ensures

pub spell_if_then-returns : goal.spell_if_then-returns
spell_if_then-returns t c =
    let at : c.len-at.result ≡ length c.args.code.now.items = omega (arith, c.len-at.ensures, c.args.code.now.ok.0) in
    let second : c.len-second.result ≡ length c.spell_block.new.code.items = omega (arith, c.len-second.ensures, c.spell_block.new.code.ok.0) in
    let third : c.len-failing.result ≡ length c.spell_block-2.new.code.items = omega (arith, c.len-failing.ensures, c.spell_block-2.new.code.ok.0) in
    spells_if_then _ _ _ _ _ _ _ _ _ _ _ c.in_ok-push.ensures.items at second third c.in_ok-spell_block.ensures c.in_ok-spell_block-2.ensures
    c.in_ok-spell_failure.ensures _ refl c.close_condition.ensures

pub spell_if_then_else-returns : goal.spell_if_then_else-returns
spell_if_then_else-returns t c =
    let at : c.len-at.result ≡ length c.args.code.now.items = omega (arith, c.len-at.ensures, c.args.code.now.ok.0) in
    let second : c.len-second.result ≡ length c.spell_block.new.code.items = omega (arith, c.len-second.ensures, c.spell_block.new.code.ok.0) in
    let third : c.len-third.result ≡ length c.spell_block-2.new.code.items = omega (arith, c.len-third.ensures, c.spell_block-2.new.code.ok.0) in
    spells_if_then_else _ _ _ _ _ _ _ _ _ _ _ c.in_ok-push.ensures.items at second third c.in_ok-spell_block.ensures c.in_ok-spell_block-2.ensures
    c.in_ok-spell_block-3.ensures _ c.close_condition.ensures
