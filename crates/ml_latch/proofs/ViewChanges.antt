-- The rule where the view of one seat changes.
use Rattle.std.proofs.Common.{◌≡◌, ◌≢◌, ℕ, zero, suc, ◌+◌, ◌%◌, ◌^◌, ◌<◌, ◌≤◌, List, [], ◌∷◌, length, set, refl, ap, sym, ◌∙◌, subst, ⊎_elim, arith, Option}
use Rattle.std.proofs.Common.{Some, None, Contains, length-set}
use mathlib.Core.List.{IsPrefix}
use mathlib.Core.Option.{some, some-injective, some-ne-none}
use mathlib.Core.Option as maybe
use lib.ListN.{get_elem?}
use Rattle.atomic_table.specs.Table.{State}
use Rattle.atomic_table.proofs.Lists.{at_set, set_else}
use Rattle.ml_latch.specs.declared.view.View.{View}
use Rattle.ml_latch.specs.Rule.{ticket_count, tickets_held, home, IsSpent, Knows, Fits, IsInTurns}
use Rattle.ml_latch.specs.View.{spent_view}
use Rattle.ml_latch.proofs.ListLemmas.{prefix_refl, prefix_trans, is_within}

ticket_count-most : (ticket : Option ℕ) → ticket_count ticket ≤ 1
ticket_count-most (Some k) = omega arith
ticket_count-most None = omega arith

module _ {X E N : Type 0} where
  pub tickets_held-set : (vs : List (View X E N)) (i : ℕ) (v w : View X E N) → get_elem? vs i ≡ some v
      → tickets_held (set vs i w) + ticket_count v.ticket ≡ tickets_held vs + ticket_count w.ticket
  tickets_held-set [] i v w e = absurd (some-ne-none v (sym e))
  tickets_held-set (u ∷ vs) zero v w e =
      let same : u ≡ v = some-injective u v e in
      let count : ticket_count u.ticket ≡ ticket_count v.ticket = ap (λ (x : View X E N). ticket_count x.ticket) same in
      omega arith
  tickets_held-set (u ∷ vs) (suc i) v w e = let h = tickets_held-set vs i v w e in omega arith

  pub tickets_held-most : (vs : List (View X E N)) → tickets_held vs ≤ length vs
  tickets_held-most [] = omega arith
  tickets_held-most (v ∷ vs) = let h = tickets_held-most vs in let one = ticket_count-most v.ticket in omega arith

  -- a seat that was taken in is another one than a seat that was not
  pub spent_is_another : (vs : List (View X E N)) (id : ℕ) (v : View X E N) (x : X) → get_elem? vs id ≡ some v → v.start ≡ Some x
      → (n : ℕ) → IsSpent vs n → n ≢ id
  spent_is_another vs id v x at begun n spent e =
      let same : spent.0 ≡ v = some-injective spent.0 v (sym spent.1 ∙ (ap (get_elem? vs) e ∙ at)) in
      let alive : spent.0.start ≡ Some x = ap (λ (u : View X E N). u.start) same ∙ begun in
      absurd (cc (alive, spent.2))

  -- it stays so, whatever another seat comes to know
  pub spent_stays : (vs : List (View X E N)) (id : ℕ) (v w : View X E N) (x : X) → get_elem? vs id ≡ some v → v.start ≡ Some x
      → (n : ℕ) → IsSpent vs n → IsSpent (set vs id w) n
  spent_stays vs id v w x at begun n spent =
      (spent.0, set_else vs id n w (spent_is_another vs id v x at begun n spent) ∙ spent.1, spent.2)

  module _ {B : Type 0} (past : X → List E) (own : X → ℕ → List N) (base : X → B) where
    -- The view of one seat changes from v to w, and the counts, the taker and the value with it.
    unfoldable pub one_view_changes : (start : X) (s : State (Option X) (View X E N)) (r : IsInTurns past own base start s)
        (id : ℕ) (v w : View X E N) → get_elem? s.views id ≡ some v → v.start ≡ Some start
        → (drawn passed : ℕ) (taker : Option ℕ) (value : X) (words : List ℕ) (homes : List (maybe.Option (Option X)))
        → words ≡ (drawn % 2 ^ 64) ∷ (passed % 2 ^ 64) ∷ []
        → homes ≡ home taker value ∷ []
        → passed ≤ drawn
        → drawn + r.passed + ticket_count v.ticket ≤ r.drawn + passed + ticket_count w.ticket
        → ((p : ℕ) → taker ≡ Some p → p < length s.views)
        → base value ≡ base start
        → ((n : ℕ) → n ≢ id → own value n ≡ own r.value n)
        → Fits past own base taker passed drawn start value (set s.views id w) id w
        → ((p : ℕ) (u : View X E N) → p ≢ id → get_elem? s.views p ≡ some u
        → ((k : ℕ) → u.ticket ≡ Some k → v.ticket ≢ Some k)
        → Fits past own base r.taker r.passed r.drawn start r.value s.views p u
        → Fits past own base taker passed drawn start value (set s.views id w) p u)
        → ((k : ℕ) → w.ticket ≡ Some k → (p : ℕ) (u : View X E N) → p ≢ id → get_elem? s.views p ≡ some u → u.ticket ≢ Some k)
        → IsInTurns past own base start record { words = words; homes = homes; views = set s.views id w }
    one_view_changes start s r id v w at begun drawn passed taker value words homes words_are homes_are order crowd there base_is owns mine others new_ticket =
        let n : length (set s.views id w) ≡ length s.views = length-set s.views id w in
        let inside : id < length s.views = is_within s.views id v at in record {
          drawn = drawn;
          passed = passed;
          taker = taker;
          value = value;
          words = words_are;
          homes = homes_are;
          order = order;
          few = subst (λ (k : ℕ). k ≤ 2 ^ 32) (sym n) r.few;
          crowd = (let h = tickets_held-set s.views id v w at in let c = r.crowd in omega arith);
          there = λ p e. subst (λ (k : ℕ). p < k) (sym n) (there p e);
          base_is = base_is;
          fresh = λ m le.
              let beyond : length s.views ≤ m = subst (λ (k : ℕ). k ≤ m) n le in
              owns m (λ e. let same : m ≡ id = e in absurd (omega arith)) ∙ r.fresh m beyond;
          each = λ p u e. ⊎_elim
              (λ (t : (p ≡ id) × (w ≡ u)).
              subst (λ (z : ℕ × View X E N). Fits past own base taker passed drawn start value (set s.views id w) z.0 z.1) (λ i. (sym t.0 i, t.1 i)) mine)
              (λ (t : (p ≢ id) × (get_elem? s.views p ≡ some u)).
              others p u t.0 t.1 (λ k a b. t.0 (r.apart p id k u v t.1 at a b)) (r.each p u t.1))
              (at_set s.views id p w u e);
          apart = λ p q k a b ea eb ta tb. ⊎_elim
              (λ (t : (p ≡ id) × (w ≡ a)). ⊎_elim
              (λ (z : (q ≡ id) × (w ≡ b)). t.0 ∙ sym z.0)
              (λ (z : (q ≢ id) × (get_elem? s.views q ≡ some b)).
              absurd (new_ticket k (ap (λ (x : View X E N). x.ticket) t.1 ∙ ta) q b z.0 z.1 tb))
              (at_set s.views id q w b eb))
              (λ (t : (p ≢ id) × (get_elem? s.views p ≡ some a)). ⊎_elim
              (λ (z : (q ≡ id) × (w ≡ b)).
              absurd (new_ticket k (ap (λ (x : View X E N). x.ticket) z.1 ∙ tb) p a t.0 t.1 ta))
              (λ (z : (q ≢ id) × (get_elem? s.views q ≡ some b)). r.apart p q k a b t.1 z.1 ta tb)
              (at_set s.views id q w b eb))
              (at_set s.views id p w a ea);
        }

    -- What another seat knows stays true, where the value may have become another.
    pub knows_of_another : (start x y : X) (vs : List (View X E N)) (id : ℕ) (v w : View X E N) → get_elem? vs id ≡ some v → v.start ≡ Some start
        → IsPrefix (past x) (past y) → ((n : ℕ) → n ≢ id → own y n ≡ own x n)
        → (p : ℕ) (u : View X E N) → p ≢ id → Knows past own base start x vs p u → Knows past own base start y (set vs id w) p u
    knows_of_another start x y vs id v w at begun grows owns p u ne k = record {
      begun = k.begun;
      number = k.number;
      counts = (λ z. length-set vs id w ∙ k.counts z);
      seen = prefix_trans u.seen (past x) (past y) k.seen grows;
      told = prefix_trans u.told (past x) (past y) k.told grows;
      own_is = owns p ne ∙ k.own_is;
      kept = (λ n notes c.
          let h = k.kept n notes c in
          (owns n (spent_is_another vs id v start at begun n h.1) ∙ h.0, spent_stays vs id v w start at begun n h.1));
    }

    -- All that is so of another seat stays so, where the value and the counts stay.
    pub fits_of_another : (start value : X) (taker : Option ℕ) (passed drawn : ℕ) (vs : List (View X E N)) (id : ℕ) (v w : View X E N)
        → get_elem? vs id ≡ some v → v.start ≡ Some start
        → (p : ℕ) (u : View X E N) → p ≢ id → Fits past own base taker passed drawn start value vs p u
        → Fits past own base taker passed drawn start value (set vs id w) p u
    fits_of_another start value taker passed drawn vs id v w at begun p u ne f = record {
      turn = f.turn;
      idle = f.idle;
      ticket = f.ticket;
      knows = (λ x h. knows_of_another start value value vs id v w at begun (prefix_refl (past value)) (λ a b. refl) p u ne (f.knows x h));
    }

    -- What the seat itself knows stays true, where only its ticket or its turn changes.
    pub knows_still : (start x : X) (vs : List (View X E N)) (id : ℕ) (v w : View X E N) → get_elem? vs id ≡ some v → v.start ≡ Some start
        → w.start ≡ v.start → w.number ≡ v.number → w.seen ≡ v.seen → w.told ≡ v.told → w.own ≡ v.own → w.given ≡ v.given → w.kept ≡ v.kept
        → Knows past own base start x vs id v → Knows past own base start x (set vs id w) id w
    knows_still start x vs id v w at begun e_start e_number e_seen e_told e_own e_given e_kept k = record {
      begun = e_start ∙ k.begun;
      number = e_number ∙ k.number;
      counts = (λ z. length-set vs id w ∙ (k.counts z ∙ ap suc (sym e_given)));
      seen = subst (λ (l : List E). IsPrefix l (past x)) (sym e_seen) k.seen;
      told = subst (λ (l : List E). IsPrefix l (past x)) (sym e_told) k.told;
      own_is = k.own_is ∙ sym e_own;
      kept = (λ n notes c.
          let h = k.kept n notes (subst (λ (l : List (ℕ × List N)). Contains l (n, notes)) e_kept c) in
          (h.0, spent_stays vs id v w start at begun n h.1));
    }

    -- The view of an idle seat may be spent, and the value stays.
    pub may_be_spent : (start : X) (s : State (Option X) (View X E N)) (r : IsInTurns past own base start s) (other : ℕ) (w : View X E N)
        → get_elem? s.views other ≡ some w → w.start ≡ Some start → w.ticket ≡ None → w.taken ≡ None
        → (k : IsInTurns past own base start record { words = s.words; homes = s.homes; views = set s.views other spent_view }) × (k.value ≡ r.value)
    unfolding one_view_changes
    may_be_spent start s r other w at begun no_ticket no_turn =
        let theirs = r.each other w at in (
          one_view_changes start s r other w spent_view at begun r.drawn r.passed r.taker r.value s.words s.homes r.words r.homes r.order
              (let t : ticket_count w.ticket ≡ 0 = ap ticket_count no_ticket in omega arith)
              r.there
              r.base_is
              (λ a b. refl)
              record {
                turn = (λ e. let h = (theirs.turn e).0 in absurd (cc (h, no_turn)));
                idle = (λ e. refl);
                ticket = (λ k e. absurd (cc (e)));
                knows = (λ x h. absurd (cc (h)));
              }
              (λ p u ne _ _ f. fits_of_another start r.value r.taker r.passed r.drawn s.views other w spent_view at begun p u ne f)
              (λ j t p u ne e tu. cc (t)),
          refl,
        )
