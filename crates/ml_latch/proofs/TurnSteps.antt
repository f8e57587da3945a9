-- The steps of a turn keep the rule: a ticket is drawn, the seat looks, and the turn is passed on.
use Rattle.std.proofs.Common.{◌≡◌, ◌≢◌, ℕ, ◌+◌, ◌%◌, ◌^◌, ◌<◌, List, [], ◌∷◌, length, get_or, set, refl, ap, sym, ◌∙◌, subst, arith, Option, Some, None}
use Rattle.std.proofs.Common.{length-set}
use Rattle.std.proofs.Math.Nat.{mod-add-mod}
use mathlib.Core.Logic.{dite}
use mathlib.Core.List.{IsPrefix}
use mathlib.Core.Option.{some, none}
use mathlib.Core.Option as maybe
use native.Mathlib.Decide.{ℕ_discrete}
use lib.ListN.{get_elem?}
use lib.Seq.{set-get_or}
use Rattle.atomic_table.specs.Table.{State, Me, Step, keeps, takes, gives, homes_after, rest, Allows}
use Rattle.atomic_table.proofs.Lists.{one_turn}
use Rattle.ml_latch.specs.declared.view.View.{View}
use Rattle.ml_latch.specs.Place.{IsIdle}
use Rattle.ml_latch.specs.Rule.{ticket_count, home, IsInTurns}
use Rattle.ml_latch.specs.Steps.{Draws, Looks, Passes}
use Rattle.ml_latch.specs.Turn.{Finds, MayBecome}
use Rattle.ml_latch.specs.View.{after_turn}
use Rattle.ml_latch.proofs.ListLemmas.{prefix_refl, prefix_trans, there_is, is_within, value_in}
use Rattle.ml_latch.proofs.ViewChanges.{tickets_held-most, spent_is_another, spent_stays, one_view_changes, knows_of_another, fits_of_another, knows_still}

module _ {X E N B : Type 0} (past : X → List E) (own : X → ℕ → List N) (base : X → B) where
  -- where the seat whose ticket is served has no turn, nobody has it
  nobody_has_turn : (start : X) (s : State (Option X) (View X E N)) (r : IsInTurns past own base start s) (id : ℕ) (v : View X E N)
      → get_elem? s.views id ≡ some v → v.taken ≡ None → v.ticket ≡ Some r.passed
      → (o : Option ℕ) → r.taker ≡ o → o ≡ None
  nobody_has_turn start s r id v at free tick None e = refl
  nobody_has_turn start s r id v at free tick (Some q) e =
      let u = there_is s.views q (r.there q e) in
      let has = (r.each q u.0 u.1).turn e in
      let here : q ≡ id = r.apart q id r.passed u.0 v u.1 at has.1 tick in
      let mine = ((r.each id v at).turn (e ∙ ap Some here)).0 in
      absurd (cc (mine, free))

  -- a seat that has taken a value has the turn
  has_turn : (start : X) (s : State (Option X) (View X E N)) (r : IsInTurns past own base start s) (id : ℕ) (v : View X E N) (x : X)
      → get_elem? s.views id ≡ some v → v.taken ≡ Some x
      → (o : Option ℕ) → r.taker ≡ o → r.taker ≡ Some id
  has_turn start s r id v x at took None e =
      let free : v.taken ≡ None = (r.each id v at).idle (λ h. absurd (cc (h, e))) in absurd (cc (free, took))
  has_turn start s r id v x at took (Some q) e = dite (ℕ_discrete q id)
      (λ same. e ∙ ap Some same)
      (λ ne. let free : v.taken ≡ None = (r.each id v at).idle (λ h. ne (cc (h, e))) in absurd (cc (free, took)))

  pub draws : (start : X) (n id : ℕ) (m : Me (Option X) (View X E N)) → IsIdle start m → (st : Step (Option X))
      → Allows (IsInTurns past own base start) n id m 0 (λ k. (k + 1) % 2 ^ 64) (Draws st m)
  draws start n id m calm st s r len at fits =
      let v : View X E N = m.0 in
      let w : View X E N = record v { ticket = Some r.drawn } in
      let found : get_or s.words 0 0 ≡ r.drawn % 2 ^ 64 = ap (λ (ws : List ℕ). get_or ws 0 0) r.words in
      let next : (get_or s.words 0 0 + 1) % 2 ^ 64 ≡ (r.drawn + 1) % 2 ^ 64 = ap (λ (k : ℕ). (k + 1) % 2 ^ 64) found ∙ mod-add-mod r.drawn (2 ^ 64) 1 in
      let old = r.each id v at in
      let order = r.order in (
        w,
        keeps,
        tt,
        one_view_changes past own base start s r id v w at calm.begun (r.drawn + 1) r.passed r.taker r.value _ s.homes
            (ap (λ (ws : List ℕ). set ws 0 ((get_or s.words 0 0 + 1) % 2 ^ 64)) r.words ∙ ap (λ (k : ℕ). k ∷ (r.passed % 2 ^ 64) ∷ []) next)
            r.homes
            (omega arith)
            (let t : ticket_count v.ticket ≡ 0 = ap ticket_count calm.ticket in omega arith)
            r.there
            r.base_is
            (λ a b. refl)
            record {
              turn = (λ e. let h = (old.turn e).0 in absurd (cc (h, calm.taken)));
              idle = (λ e. calm.taken);
              ticket = (λ k e. let h : r.drawn ≡ k = cc (e) in (omega arith, omega arith, calm.begun));
              knows = (λ x e. knows_still past own base start r.value s.views id v w at calm.begun refl refl refl refl refl refl refl (old.knows x e));
            }
            (λ p u ne e other f. record {
              turn = f.turn;
              idle = f.idle;
              ticket = (λ k t. let h = f.ticket k t in (h.0, omega (arith, h.1), h.2));
              knows = (λ x h. knows_of_another past own base start r.value r.value s.views id v w at calm.begun (prefix_refl (past r.value)) (λ a b. refl) p u
                  ne (f.knows x h));
            })
            (λ k t p u ne e tu. let h : r.drawn ≡ k = cc (t) in let f = (r.each p u e).ticket k tu in omega (arith, f.1)),
        (r.drawn, found, refl),
      )

  pub looks : (start : X) (n id : ℕ) (m : Me (Option X) (View X E N)) → m.0.taken ≡ None → (st : Step (Option X))
      → ((k : ℕ) × (m.0.ticket ≡ Some k)) → m.0.start ≡ Some start
      → Allows (IsInTurns past own base start) n id m 1 (λ k. k) (Looks past own base st m)
  looks start n id m free st has begun s r len at fits =
      let v : View X E N = m.0 in
      let k : ℕ = has.0 in
      let tick : v.ticket ≡ Some k = has.1 in
      let found : get_or s.words 1 0 ≡ r.passed % 2 ^ 64 = ap (λ (ws : List ℕ). get_or ws 1 0) r.words in
      let same : set s.words 1 (get_or s.words 1 0) ≡ s.words = set-get_or s.words 1 0 in
      let old = r.each id v at in
      let known = old.knows start begun in
      let range = old.ticket k tick in
      let crowd = r.crowd in
      let few = r.few in
      let most = tickets_held-most s.views in
      let order = r.order in
      dite (ℕ_discrete (r.passed % 2 ^ 64) (k % 2 ^ 64))
      (λ e.
      let now : r.passed ≡ k = one_turn r.passed k (2 ^ 64) range.0 (let h = range.1 in omega arith) e in
      let tick' : v.ticket ≡ Some r.passed = tick ∙ ap Some (sym now) in
      let nobody : r.taker ≡ None = nobody_has_turn start s r id v at free tick' r.taker refl in
      let w : View X E N = record v { taken = Some r.value } in
      let homes : s.homes ≡ some (Some r.value) ∷ [] = r.homes ∙ ap (λ (o : Option ℕ). home o r.value ∷ []) nobody in
      let inside : id < length s.views = is_within s.views id v at in
      let may : Finds past own base start v r.value = record {
        begins = known.seen;
        own_is = ap (own r.value) known.number ∙ known.own_is;
        base_is =
            r.base_is;
      } in (
        w,
        takes 0 (Some r.value),
        ap (λ (hs : List (maybe.Option (Option X))). get_elem? hs 0) homes,
        one_view_changes past own base start s r id v w at begun r.drawn r.passed (Some id) r.value _ _
            (same ∙ r.words)
            (ap (λ (hs : List (maybe.Option (Option X))). set hs 0 none) homes)
            order
            (omega arith)
            (λ p e. let here : id ≡ p = cc (e) in subst (λ (z : ℕ). z < length s.views) here inside)
            r.base_is
            (λ a b. refl)
            record {
              turn = (λ _. (refl, tick'));
              idle = (λ ne. absurd (ne refl));
              ticket = old.ticket;
              knows = (λ x h. knows_still past own base start r.value s.views id v w at begun refl refl refl refl refl refl refl (old.knows x h));
            }
            (λ p u ne e other f. record {
              turn = (λ h. let here : id ≡ p = cc (h) in absurd (ne (sym here)));
              idle = (λ _. f.idle (λ h. absurd (cc (h, nobody))));
              ticket = f.ticket;
              knows = (λ x h. knows_of_another past own base start r.value r.value s.views id v w at begun (prefix_refl (past r.value)) (λ a b. refl) p u ne
                  (f.knows x h));
            })
            (λ j t p u ne e tu. ne (r.apart p id j u v e at tu t)),
        (λ j x tj sx. (
          (λ _. (r.value, (let same_start : x ≡ start = cc (sx, begun) in subst (λ (z : X). Finds past own base z v r.value) (sym same_start) may), refl)),
          (λ miss. absurd (miss (found ∙ (e ∙ ap (λ (z : ℕ). z % 2 ^ 64) (cc (tick, tj)))))),
        )),
      ))
      (λ ne. (
        v,
        keeps,
        tt,
        one_view_changes past own base start s r id v v at begun r.drawn r.passed r.taker r.value _ s.homes (same ∙ r.words) r.homes order (omega arith) r.there
            r.base_is
            (λ a b. refl)
            record {
              turn = old.turn;
              idle = old.idle;
              ticket = old.ticket;
              knows = (λ x h. knows_still past own base start r.value s.views id v v at begun refl refl refl refl refl refl refl (old.knows x h));
            }
            (λ p u away _ _ f. fits_of_another past own base start r.value r.taker r.passed r.drawn s.views id v v at begun p u away f)
            (λ j t p u away e tu. away (r.apart p id j u v e at tu t)),
        (λ j x tj sx. (
          (λ hit. absurd (ne (sym found ∙ (hit ∙ ap (λ (z : ℕ). z % 2 ^ 64) (cc (tick, tj)))))),
          (λ _. refl),
        )),
      ))

  pub passes : (start : X) (n id : ℕ) (m : Me (Option X) (View X E N)) (x y : X) → m.0.taken ≡ Some x → m.1 ≡ (0, Some y) ∷ []
      → MayBecome past own base m.0.number x y → m.0.start ≡ Some start → (st : Step (Option X))
      → Allows (IsInTurns past own base start) n id m 1 (λ k. (k + 1) % 2 ^ 64) (Passes past own st m)
  passes start n id m x y took carries may begun st s r len at fits =
      let v : View X E N = m.0 in
      let old = r.each id v at in
      let known = old.knows start begun in
      let crowd = r.crowd in
      let order = r.order in
      let mine : r.taker ≡ Some id = has_turn start s r id v x at took r.taker refl in
      let now = old.turn mine in
      let value : r.value ≡ x = cc (now.0, took) in
      let range = old.ticket r.passed now.1 in
      let w : View X E N = after_turn past own v y in
      let found : get_or s.words 1 0 ≡ r.passed % 2 ^ 64 = ap (λ (ws : List ℕ). get_or ws 1 0) r.words in
      let next : (get_or s.words 1 0 + 1) % 2 ^ 64 ≡ (r.passed + 1) % 2 ^ 64 = ap (λ (k : ℕ). (k + 1) % 2 ^ 64) found ∙ mod-add-mod r.passed (2 ^ 64) 1 in
      let grows : IsPrefix (past r.value) (past y) = subst (λ (z : X). IsPrefix (past z) (past y)) (sym value) may.grows in
      let owns : (k : ℕ) → k ≢ id → own y k ≡ own r.value k = λ k ne. may.others k (λ e. ne (e ∙ known.number)) ∙ ap (λ (z : X). own z k) (sym value) in (
        w,
        gives,
        tt,
        one_view_changes past own base start s r id v w at begun r.drawn (r.passed + 1) None y _ _
            (ap (λ (ws : List ℕ). set ws 1 ((get_or s.words 1 0 + 1) % 2 ^ 64)) r.words ∙ ap (λ (k : ℕ). (r.drawn % 2 ^ 64) ∷ k ∷ []) next)
            (ap (λ (c : List (ℕ × Option X)). homes_after s.homes c gives) carries ∙ ap (λ (hs : List (maybe.Option (Option X))). set hs 0 (some (Some y)))
            r.homes)
            (omega (arith, range.1))
            (let t : ticket_count v.ticket ≡ 1 = ap ticket_count now.1 in omega arith)
            (λ p e. absurd (cc (e)))
            (may.same_base ∙ (ap base (sym value) ∙ r.base_is))
            owns
            record {
              turn = (λ e. absurd (cc (e)));
              idle = (λ e. refl);
              ticket = (λ k e. absurd (cc (e)));
              knows = (λ z h. record {
                begun = known.begun;
                number = known.number;
                counts = (λ e. length-set s.views id w ∙ known.counts e);
                seen = prefix_refl (past y);
                told = prefix_trans v.told (past r.value) (past y) known.told grows;
                own_is = ap (own y) (sym known.number);
                kept = (λ k xs c.
                    let g = known.kept k xs c in
                    (owns k (spent_is_another s.views id v start at begun k g.1) ∙ g.0, spent_stays s.views id v w start at begun k g.1));
              });
            }
            (λ p u ne e other f. record {
              turn = (λ z. absurd (cc (z)));
              idle = (λ z. f.idle (λ h. let here : p ≡ id = cc (h, mine) in absurd (ne here)));
              ticket = (λ k t.
                  let h = f.ticket k t in
                  let apart : k ≢ r.passed = λ z. other k t (now.1 ∙ ap Some (sym z)) in
                  (omega (arith, h.0, h.1), h.1, h.2));
              knows = (λ z h. knows_of_another past own base start r.value y s.views id v w at begun grows owns p u ne (f.knows z h));
            })
            (λ k t p u ne e tu. cc (t)),
        (λ z c. let same : y ≡ z = ap (value_in y) (sym carries ∙ c) in λ i. (after_turn past own v (same i), ap rest carries i)),
      )
