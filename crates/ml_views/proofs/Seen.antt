-- A search tree seen through a part of its keys and values: what it has at a key, and what an update is, in the finite map that it stands for.
use Rattle.std.proofs.Common.{◌≡◌, List, [], ◌∷◌, map, Bool, true, false, cond, refl, sym, ap, ◌∙◌, Some}
use Rattle.std.specs.Prelude.{Option, option_map}
use Rattle.std.specs.declared.cmp.Ordering.{Ordering}
use Rattle.std.specs.Ordering.{is_eq, eq_by_cmp}
use Rattle.std.specs.Cmp.{IsTotalOrder, eq_by_cmp_equiv}
use Rattle.std.specs.FinMap.{FinMap, get, find, from_entries, get-from_entries}
use Rattle.std.specs.BTreeMap.{BTreeMap, UpdatesBy}
use Rattle.std.specs.Map.{lookup}

-- `back` gives a key of each seen one
module _ {K X Q Y : Type 0} (f : K → Q) (g : X → Y) (S : Q → Q → Ordering) (total : IsTotalOrder S) (back : Q → K) (back_is : (q : Q) → f (back q) ≡ q) where
  abbrev pub seen_entry : K × X → Q × Y
  seen_entry e = (f e.0, g e.1)

  abbrev pub seen_map : List (K × X) → FinMap S Y
  seen_map es = from_entries {R = S} (map seen_entry es)

  over_cond : (b : Bool) (x : X) (r : Option X) → cond b (Some (g x)) (option_map g r) ≡ option_map g (cond b (Some x) r)
  over_cond true x r = refl
  over_cond false x r = refl

  over_choice : (b : Bool) (w r : Option X) → option_map g (cond b w r) ≡ cond b (option_map g w) (option_map g r)
  over_choice true w r = refl
  over_choice false w r = refl

  find_seen : (es : List (K × X)) (q : Q) → find S q (map seen_entry es) ≡ option_map g (lookup (λ k. is_eq (S q (f k))) es)
  find_seen [] q = refl
  find_seen (e ∷ es) q = ap (cond (is_eq (S q (f e.0))) (Some (g e.1))) (find_seen es q) ∙ over_cond (is_eq (S q (f e.0))) e.1 _

  -- what a query finds
  pub get_seen : (es : List (K × X)) (q : Q) → get (seen_map es) q ≡ option_map g (lookup (λ k. is_eq (S q (f k))) es)
  get_seen es q = get-from_entries total (map seen_entry es) q ∙ find_seen es q

  -- what is seen at each key after an update
  pub at_each : (m n : BTreeMap K X) (k : K) (w : Option X) → UpdatesBy (λ a b. S (f a) (f b)) (λ b. S (f k) (f b)) m n w → (q : Q)
      → get (seen_map n.entries) q ≡ cond (eq_by_cmp S q (f k)) (option_map g w) (get (seen_map m.entries) q)
  at_each m n k w u q =
      let e = back_is q in
      let n_is : get (seen_map n.entries) q ≡ option_map g (lookup (λ b. is_eq (S (f (back q)) (f b))) n.entries) =
      get_seen n.entries q ∙ ap (λ p. option_map g (lookup (λ b. is_eq (S p (f b))) n.entries)) (sym e) in
      let m_is : get (seen_map m.entries) q ≡ option_map g (lookup (λ b. is_eq (S (f (back q)) (f b))) m.entries) =
      get_seen m.entries q ∙ ap (λ p. option_map g (lookup (λ b. is_eq (S p (f b))) m.entries)) (sym e) in
      let tie : is_eq (S (f k) (f (back q))) ≡ eq_by_cmp S q (f k) = ap (λ p. is_eq (S (f k) p)) e ∙ (eq_by_cmp_equiv total).symm (f k) q in
      n_is ∙ (ap (option_map g) (u.0 (back q)) ∙ (over_choice (is_eq (S (f k) (f (back q)))) w _
      ∙ (ap (λ r. cond (is_eq (S (f k) (f (back q)))) (option_map g w) r) (sym m_is) ∙ ap (λ b. cond b (option_map g w) (get (seen_map m.entries) q)) tie)))
