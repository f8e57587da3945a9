-- The new variable stands alone, and the others go on to.
use Rattle.std.proofs.Common.{◌≡◌, ℕ, ◌+◌, ◌<◌, ◌∷◌, [], ◌++◌, ◌⊎◌, inl, inr, length, length-append, ap, arith}
use Rattle.ml_heap.proofs.StoredTerms.{grows_on, grows_one}
use Rattle.ml_match.proofs.NewVariables.{one_new, still_new, prefix_more}
use Rattle.ml_match.proofs.variables.create_variables.Goals as goal

pub loop-preserved : goal.loop-preserved
loop-preserved c =
    let i = c.loop.invariant in
    let one = c.in_ok-variable.ensures in
    let before = c.loop.slots.items in
    let now : c.push.new.self.items ≡ before ++ c.in_ok-variable.variable ∷ [] = c.in_ok-push.ensures.items in
    record {
      many = omega (arith, ap length now, length-append before (c.in_ok-variable.variable ∷ []), i.many);
      made = λ n l. elim (last_or_before n c.loop.counter l) [
        | inl e ↦ one_new c.loop.heap c.new_var.new.self before c.push.new.self.items _ _ _ one.made now (omega (arith, e, i.many)) (omega
            (arith, e, i.counted))
        | inr b ↦ still_new c.loop.heap c.new_var.new.self before c.push.new.self.items _ _ _ one.made now (i.made n b) (omega (arith, b, i.counted))
      ];
      counted = omega (arith, one.counted, i.counted);
      front = prefix_more _ _ _ _ i.front now;
      grown = grows_on _ _ _ i.grown (grows_one _ _ _ _ one.made);
    }
  where
    last_or_before : (n m : ℕ) → n < m + 1 → (n ≡ m) ⊎ (n < m)
    last_or_before n m l = grind arith
