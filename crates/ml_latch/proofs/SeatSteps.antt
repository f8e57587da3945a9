-- The rule holds at the start, and is kept where a seat is given out or taken in.
use Rattle.std.proofs.Common.{◌≡◌, ◌≢◌, ℕ, suc, ◌+◌, ◌<◌, List, [], ◌∷◌, ◌++◌, length, set, refl, ap, sym, ◌∙◌, subst, ⊎_elim, arith, Option, Some, None}
use Rattle.std.proofs.Common.{Contains, nat_lt, length-set, length-append}
use Rattle.std.proofs.lemmas.List.Elements.{Contains-append_cases}
use mathlib.Core.List.{IsPrefix}
use mathlib.Core.Option.{some, some-ne-none}
use lib.ListN.{get_elem?}
use lib.Seq.{set-get_or}
use Rattle.atomic_table.specs.Table.{State, Me, Step, Allows, Splits, Joins, keeps, opening}
use Rattle.atomic_table.proofs.Lists.{at_set, set_here, set_else}
use Rattle.ml_latch.specs.declared.view.View.{View}
use Rattle.ml_latch.specs.Place.{IsIdle}
use Rattle.ml_latch.specs.Rule.{ticket_count, tickets_held, IsSpent, Fits, IsInTurns}
use Rattle.ml_latch.specs.Steps.{Settles}
use Rattle.ml_latch.specs.View.{first_view, own_at_start, given_view, after_giving, after_taking_in, after_settling, spent_view}
use Rattle.ml_latch.proofs.ListLemmas.{prefix_refl, longer_fits, is_within, at_end, at_longer, set-set_apart, Contains-cons_cases, Contains-nil}
use Rattle.ml_latch.proofs.ViewChanges.{tickets_held-set, spent_stays, one_view_changes, fits_of_another, may_be_spent}

module _ {X E N : Type 0} where
  tickets_held-append : (vs : List (View X E N)) (v : View X E N) → tickets_held (vs ++ v ∷ []) ≡ tickets_held vs + ticket_count v.ticket
  tickets_held-append [] v = omega arith
  tickets_held-append (u ∷ vs) v = let h = tickets_held-append vs v in omega arith

  spent_in_longer : (vs : List (View X E N)) (v : View X E N) (n : ℕ) → IsSpent vs n → IsSpent (vs ++ v ∷ []) n
  spent_in_longer vs v n spent = (spent.0, at_longer vs (v ∷ []) n spent.0 spent.1, spent.2)

  module _ {B : Type 0} (past : X → List E) (own : X → ℕ → List N) (base : X → B) where
    pub opens : (x : X) → IsInTurns past own base x (opening (0 ∷ 0 ∷ []) (Some x ∷ []) (first_view past own x))
    opens x =
        let first : View X E N = first_view past own x in record {
          drawn = 0;
          passed = 0;
          taker = None;
          value = x;
          words = refl;
          homes = refl;
          order = omega arith;
          few = omega arith;
          crowd = omega arith;
          there = λ p e. absurd (cc (e));
          base_is = refl;
          fresh = λ n le. refl;
          each = λ p v e. ⊎_elim
              (λ (h : get_elem? [] p ≡ some v). absurd (some-ne-none v (sym h)))
              (λ (t : (p ≡ 0) × (first ≡ v)).
              subst (λ (z : ℕ × View X E N). Fits past own base None 0 0 x x (first ∷ []) z.0 z.1) (λ i. (sym t.0 i, t.1 i)) record {
                turn = (λ h. absurd (cc (h)));
                idle = (λ h. refl);
                ticket = (λ k h. absurd (cc (h)));
                knows = (λ y h. record {
                  begun = refl;
                  number = refl;
                  counts = (λ z. omega arith);
                  seen = prefix_refl (past x);
                  told = (past x, refl);
                  own_is = refl;
                  kept = (λ n notes c. absurd (Contains-nil (n, notes) c));
                });
              })
              (at_end [] first v p e);
          apart = λ p q k v w ep eq tv tw. (let a = is_within (first ∷ []) p v ep in let b = is_within (first ∷ []) q w eq in omega arith);
        }

    -- two places with one ticket are one place, also after one more seat was counted
    same_place : {start : X} (s : State (Option X) (View X E N)) (r : IsInTurns past own base start s) (id : ℕ) (v : View X E N) → get_elem? s.views id ≡ some v
        → (p q k : ℕ) (a b : View X E N) → get_elem? (set s.views id (after_giving v)) p ≡ some a → get_elem? (set s.views id (after_giving v)) q ≡ some b
        → a.ticket ≡ Some k → b.ticket ≡ Some k → p ≡ q
    same_place s r id v at p q k a b ea eb ta tb =
        let was : (j : ℕ) (c : View X E N) → get_elem? (set s.views id (after_giving v)) j ≡ some c → (u : View X E N) × (get_elem? s.views j ≡ some u)
        × (u.ticket ≡ c.ticket) =
        λ j c e. ⊎_elim
        (λ (t : (j ≡ id) × (after_giving v ≡ c)). (v, ap (get_elem? s.views) t.0 ∙ at, ap (λ (y : View X E N). y.ticket) t.1))
        (λ (t : (j ≢ id) × (get_elem? s.views j ≡ some c)). (c, t.1, refl))
        (at_set s.views id j (after_giving v) c e) in
        let x = was p a ea in
        let y = was q b eb in
        r.apart p q k x.0 y.0 x.1 y.1 (x.2 ∙ ta) (y.2 ∙ tb)

    pub splits : (start : X) (id : ℕ) (v : View X E N) → v.number ≡ 0 → v.given < 4294967295 → v.start ≡ Some start
        → Splits (IsInTurns past own base start) id v (after_giving v) (given_view own v)
    splits start id v first room begun s r at =
        let w : View X E N = after_giving v in
        let u : View X E N = given_view own v in
        let old = r.each id v at in
        let known = old.knows start begun in
        let vs : List (View X E N) = set s.views id w in
        let n : length vs ≡ length s.views = length-set s.views id w in
        let all : length (vs ++ u ∷ []) ≡ suc (length s.views) = (let h = length-append vs (u ∷ []) in omega arith) in
        let here : id ≡ 0 = sym known.number ∙ first in
        let count : length s.views ≡ suc v.given = known.counts here in
        let crowd = r.crowd in
        let there = r.there in
        let order = r.order in
        let outside : r.taker ≢ Some (length vs) = λ e. let h = r.there (length vs) e in absurd (omega arith) in
        let on : (k : ℕ) → IsSpent s.views k → IsSpent (vs ++ u ∷ []) k = λ k g. spent_in_longer vs u k (spent_stays s.views id v w start at begun k g) in
        record {
          drawn = r.drawn;
          passed = r.passed;
          taker = r.taker;
          value = r.value;
          words = r.words;
          homes = r.homes;
          order = order;
          few = omega arith;
          crowd = (let h = tickets_held-set s.views id v w at in let e = tickets_held-append vs u in omega arith);
          there = λ p e. (let h = r.there p e in omega arith);
          base_is = r.base_is;
          fresh = λ k le. r.fresh k (omega arith);
          each = λ p a e. ⊎_elim
              (λ (h : get_elem? vs p ≡ some a). ⊎_elim
              (λ (t : (p ≡ id) × (w ≡ a)). subst (λ (z : ℕ × View X E N). Fits past own base r.taker r.passed r.drawn start r.value (vs ++ u ∷ []) z.0 z.1)
              (λ i. (sym t.0 i, t.1 i)) record {
                turn = old.turn;
                idle = old.idle;
                ticket = old.ticket;
                knows = (λ x z. record {
                  begun = known.begun;
                  number = known.number;
                  counts = (λ z. omega arith);
                  seen = known.seen;
                  told = known.told;
                  own_is = known.own_is;
                  kept = (λ k notes c. let g = known.kept k notes c in (g.0, on k g.1));
                });
              })
              (λ (t : (p ≢ id) × (get_elem? s.views p ≡ some a)). let f = r.each p a t.1 in record {
                turn = f.turn;
                idle = f.idle;
                ticket = f.ticket;
                knows = (λ x z. let k = f.knows x z in record {
                  begun = k.begun;
                  number = k.number;
                  counts = (λ e. absurd (t.0 (e ∙ sym here)));
                  seen = k.seen;
                  told = k.told;
                  own_is = k.own_is;
                  kept = (λ j notes c. let g = k.kept j notes c in (g.0, on j g.1));
                });
              })
              (at_set s.views id p w a h))
              (λ (t : (p ≡ length vs) × (u ≡ a)). subst (λ (z : ℕ × View X E N). Fits past own base r.taker r.passed r.drawn start r.value (vs ++ u ∷ []) z.0
              z.1) (λ i. (sym t.0 i, t.1 i)) record {
                turn = (λ h. absurd (outside h));
                idle = (λ h. refl);
                ticket = (λ k h. absurd (cc (h)));
                knows = (λ x h. record {
                  begun = begun;
                  number = omega arith;
                  counts = (λ z. absurd (omega arith));
                  seen = known.seen;
                  told = (past r.value, refl);
                  own_is = ap (own r.value) (omega arith) ∙ (r.fresh (suc v.given) (omega arith) ∙ ap (λ o. own_at_start own o (suc v.given)) (sym begun));
                  kept = (λ k notes c. absurd (Contains-nil (k, notes) c));
                });
              })
              (at_end vs u a p e);
          apart = λ p q k a b ea eb ta tb. ⊎_elim
              (λ (h : get_elem? vs p ≡ some a). ⊎_elim
              (λ (g : get_elem? vs q ≡ some b). same_place s r id v at p q k a b h g ta tb)
              (λ (t : (q ≡ length vs) × (u ≡ b)). let z : u.ticket ≡ Some k = ap (λ (y : View X E N). y.ticket) t.1 ∙ tb in absurd (cc (z)))
              (at_end vs u b q eb))
              (λ (t : (p ≡ length vs) × (u ≡ a)). let z : u.ticket ≡ Some k = ap (λ (y : View X E N). y.ticket) t.1 ∙ ta in absurd (cc (z)))
              (at_end vs u a p ea);
        }

    same_own : (x y : X) → x ≡ y → (n : ℕ) {m : ℕ} → n ≡ m → own x n ≡ own y m
    same_own x y e n f = λ i. own (e i) (f i)

    pub joins : (start : X) (id : ℕ) (v : View X E N) (other : ℕ) (w : View X E N) → v.start ≡ Some start → w.start ≡ Some start
        → v.ticket ≡ None → v.taken ≡ None → w.ticket ≡ None → w.taken ≡ None
        → Joins (IsInTurns past own base start) id v other w (after_taking_in v w) spent_view
    joins start id v other w begun begun' no_ticket no_turn no_ticket' no_turn' s r at ne at' =
        let b : View X E N = after_taking_in v w in
        let at_other : get_elem? s.views other ≡ some w = sym (set_else s.views id other b ne) ∙ at' in
        let theirs = r.each other w at_other in
        let inside : other < length s.views = is_within s.views other w at_other in
        let spending = may_be_spent past own base start s r other w at_other begun' no_ticket' no_turn' in
        let first : IsInTurns past own base start record { words = s.words; homes = s.homes; views = set s.views other spent_view } = spending.0 in
        let value : first.value ≡ r.value = spending.1 in
        let s' : State (Option X) (View X E N) = record { words = s.words; homes = s.homes; views = set s.views other spent_view } in
        let at_me : get_elem? s'.views id ≡ some v = set_else s.views other id spent_view (λ e. ne (sym e)) ∙ at in
        let mine = first.each id v at_me in
        let known = mine.knows start begun in
        let theirs_known = theirs.knows start begun' in
        let stays : (n : ℕ) → IsSpent s'.views n → IsSpent (set s'.views id b) n = spent_stays s'.views id v b start at_me begun in
        let now : IsInTurns past own base start record { words = s.words; homes = s.homes; views = set s'.views id b } =
        one_view_changes past own base start s' first id v b at_me begun first.drawn first.passed first.taker first.value s.words s.homes first.words
        first.homes first.order
        (let t : ticket_count v.ticket ≡ 0 = ap ticket_count no_ticket in omega arith)
        first.there
        first.base_is
        (λ a b. refl)
        record {
          turn = mine.turn;
          idle = mine.idle;
          ticket = mine.ticket;
          knows = (λ x h. record {
            begun = known.begun;
            number = known.number;
            counts = (λ z. length-set s'.views id b ∙ known.counts z);
            seen = known.seen;
            told = subst (λ (z : X). IsPrefix w.seen (past z)) (sym value) theirs_known.seen;
            own_is = known.own_is;
            kept = (λ n notes c. ⊎_elim
                (λ (k : Contains v.kept (n, notes)). let g = known.kept n notes k in (g.0, stays n g.1))
                (λ (k : Contains ((w.number, w.own) ∷ w.kept) (n, notes)). ⊎_elim
                (λ (e : (n, notes) ≡ (w.number, w.own)).
                let number : n ≡ w.number = ap (λ (z : ℕ × List N). z.0) e in
                let list : notes ≡ w.own = ap (λ (z : ℕ × List N). z.1) e in
                let spent : IsSpent s'.views n = subst (IsSpent s'.views) (sym (number ∙ theirs_known.number)) (
                  spent_view,
                  set_here s.views other spent_view
                      inside,
                  refl,
                ) in
                (same_own first.value r.value value n (number ∙ theirs_known.number) ∙ (theirs_known.own_is ∙ sym list), stays n spent))
                (λ (h : Contains w.kept (n, notes)). let g = theirs_known.kept n notes h in
                (ap (λ (z : X). own z n) value ∙ g.0, stays n (spent_stays s.views other w spent_view start at_other begun' n g.1)))
                (Contains-cons_cases (w.number, w.own) w.kept (n, notes) k))
                (Contains-append_cases v.kept ((w.number, w.own) ∷ w.kept) (n, notes) c));
          });
        }
        (λ p u away _ _ f. fits_of_another past own base start first.value first.taker first.passed first.drawn s'.views id v b at_me begun p u away f)
        (λ j t p u away e tu. away (first.apart p id j u v e at_me tu t)) in
        subst (λ (l : List (View X E N)). IsInTurns past own base start record { words = s.words; homes = s.homes; views = l })
        (set-set_apart s.views other id spent_view b (λ e. ne e)) now

    pub settles : (start : X) (n id : ℕ) (m : Me (Option X) (View X E N)) → IsIdle start m → (st : Step (Option X))
        → Allows (IsInTurns past own base start) n id m 0 (λ k. k) (Settles st m)
    settles start n id m calm st s r len at fits =
        let v : View X E N = m.0 in
        let w : View X E N = after_settling v in
        let old = r.each id v at in
        let known = old.knows start calm.begun in
        let order = r.order in
        let l = longer_fits v.seen v.told (past r.value) (nat_lt (length v.seen) (length v.told)) refl known.seen known.told in (
          w,
          keeps,
          tt,
          one_view_changes past own base start s r id v w at calm.begun r.drawn r.passed r.taker r.value _ s.homes (set-get_or s.words 0 0 ∙ r.words) r.homes
              order (omega arith) r.there r.base_is
              (λ a b. refl)
              record {
                turn = old.turn;
                idle = old.idle;
                ticket = old.ticket;
                knows = (λ x h. record {
                  begun = known.begun;
                  number = known.number;
                  counts = (λ z. length-set s.views id w ∙ known.counts z);
                  seen = l.0;
                  told = known.told;
                  own_is = known.own_is;
                  kept = (λ k notes c. let g = known.kept k notes c in (g.0, spent_stays s.views id v w start at calm.begun k g.1));
                });
              }
              (λ p u away _ _ f. fits_of_another past own base start r.value r.taker r.passed r.drawn s.views id v w at calm.begun p u away f)
              (λ j t p u away e tu. away (r.apart p id j u v e at tu t)),
          (refl, l.1, l.2),
        )
