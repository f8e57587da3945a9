-- A search that asks comes to its conclusion over any desk whose cursors give fewer items than a number.
use Rattle.std.specs.Prelude.{◌≡◌, ℕ, zero, suc, ◌<◌, [], ◌∷◌, ◌++◌}
use Rattle.std.proofs.Common.{inl, inr, subst, arith}
use Rattle.std.proofs.lemmas.Bool.{cases_lt}
use Rattle.ml_search.specs.Program.{Program}
use Rattle.ml_search.specs.Operations.{Operation, Reply, Log}
use Rattle.ml_asking.specs.Asking.{AskingSearch, Conclusion, Move, finish, go_on, request, turn}
use Rattle.ml_asking.specs.Leads.{LeadsOver, at_once, by_turn, by_reply}
use Rattle.ml_asking.specs.Weights.{weight, IsBelow, FallsBelow}
use Rattle.ml_asking.proofs.TurnsLowerWeights.{turn_falls}

module _ (program : Program) (desk : Log → Operation → Reply) (most : ℕ) (below : (l : Log) (o : Operation) → IsBelow most o (desk l o)) where
  -- the desk's replies lead to a conclusion
  abbrev pub Concludes : Move → Log → Type 0
  Concludes v l = (o : Conclusion) × (k : Log) × LeadsOver program desk v l (finish o) k

  module _ (a b : ℕ) (lower : (m : AskingSearch) → m.left < a → (l : Log) → Concludes (go_on m) l)
      (again : (m : AskingSearch) → m.left ≡ a → weight most m < b → (l : Log) → Concludes (go_on m) l) where
    move_concludes : (v : Move) (l : Log) → FallsBelow most a b v → Concludes v l
    move_concludes (finish o) l h = (o, l, at_once)
    move_concludes (go_on m) l h = elim h [ inl i ↦ lower m i l | inr i ↦ again m i.0 i.1 l ]
    move_concludes (request o f) l h =
        let s = move_concludes (f (desk l o)) (l ++ (o, desk l o) ∷ []) (h (desk l o) (below l o)) in
        (s.0, s.1, by_reply s.2)

  within : (a b : ℕ) → ((m : AskingSearch) → m.left < a → (l : Log) → Concludes (go_on m) l) → (m : AskingSearch) → m.left ≡ a → weight most m < b → (l : Log) →
      Concludes (go_on m) l
  within a zero lower m e h l = absurd (omega arith)
  within a (suc b) lower m e h l =
      let s =
      move_concludes a (weight most m) lower (λ n q r k. within a b lower n q (omega (arith, r, h)) k) (turn program m) l
      (subst (λ z. FallsBelow most z (weight most m) (turn program m)) e (turn_falls most program m)) in
      (s.0, s.1, by_turn s.2)

  below_all : (a : ℕ) (m : AskingSearch) → m.left < a → (l : Log) → Concludes (go_on m) l
  below_all zero m h l = absurd (omega arith)
  below_all (suc a) m h l = elim (cases_lt m.left a) [
    | inl i ↦ below_all a m i l
    | inr i ↦ within a (suc (weight most m)) (below_all a) m (omega (arith, h, i)) (omega arith) l
  ]

  pub comes_to_an_end : (m : AskingSearch) (l : Log) → Concludes (go_on m) l
  comes_to_an_end m l = below_all (suc m.left) m (omega arith) l
