-- The bindings are put one behind another.
use Rattle.std.proofs.Common.{◌≡◌, ◌∙◌, ◌∷◌, ◌++◌, ◌+◌, [], ap, sym, subst, take, rules}
use Rattle.std.proofs.lemmas.Grind.{take_at_read}
use Rattle.std.proofs.lemmas.List.{take_all}
use Rattle.ml_writer.proofs.BindingTexts.{ArePut, text_of_bindings, first_put, next_put}
use Rattle.ml_writer.proofs.piece.put_bindings.Goals as goal

pub loop-binding-init : goal.loop-binding-init
loop-binding-init c = record {
  kept = c.in_ok-put_binding.ensures.kept;
  put = record {
    first = c.in-Some.first.now;
    are = search rules;
    put = first_put _ _ _ _ _ c.in_ok-put_binding.ensures.text c.in_ok-put_binding.ensures.met;
  };
}

pub loop-binding-preserved : goal.loop-binding-preserved
loop-binding-preserved c =
    let so_far = c.loop-binding.invariant.put in
    let rest = c.in-Some.rest.now in
    let i = c.loop-binding.binding-index in
    let more : take (i + 1) rest ≡ take i rest ++ c.binding-item.result ∷ [] =
    (take_at_read rest i c.binding-item.result c.loop-binding-test.true).1 ∙ ap (λ b. take i rest ++ b ∷ []) (sym c.binding-item.is) in record {
      kept = c.in_ok-put_binding-2.ensures.kept ∙ (c.in_ok-put.ensures.kept ∙ c.loop-binding.invariant.kept);
      put = record {
        first = so_far.first;
        are = so_far.are;
        put = subst (λ bs. ArePut c.args.out.now.text c.put_binding-in-loop-binding.new.out.text c.args.met.now c.put_binding-in-loop-binding.new.met
            (so_far.first ∷ bs)) (sym more)
            (next_put _ _ _ _ _ _ _ so_far.first (take i rest) c.binding-item.result so_far.put c.in_ok-put.ensures.text c.in_ok-put_binding-2.ensures.text
            c.in_ok-put_binding-2.ensures.met);
      };
    }

pub returns-clause-text : goal.returns-clause-text
returns-clause-text c =
    let so_far = c.loop-binding.invariant.put in
    so_far.put.text_is ∙ ap (λ bs. c.args.out.now.text ++ text_of_bindings bs c.args.met.now)
    (ap (λ bs. so_far.first ∷ bs) (take_all c.loop-binding.binding-index c.in-Some.rest.now c.loop-binding-test.false) ∙ sym so_far.are)
