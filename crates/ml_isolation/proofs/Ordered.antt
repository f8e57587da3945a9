-- What holds of each element of a list, and lists whose elements stand in an order.
use Rattle.std.specs.Prelude.{◌≡◌, ℕ, zero, suc, Bool, true, false, ◌&&◌, List, [], ◌∷◌, ◌++◌, map, slice_get, Some, cond}
use Rattle.std.specs.List.{filter, list_all}
use Rattle.std.proofs.Common.{refl, subst}
use Rattle.std.proofs.lemmas.Bool.{and_parts, and_from}

-- this holds of each element
abbrev pub Each : {A : Type 0} → (A → Type 0) → List A → Type 0
Each P [] = Unit {0}
Each P (x ∷ xs) = P x × Each P xs

pub each_by : {A : Type 0} (P Q : A → Type 0) (xs : List A) → ((x : A) → P x → Q x) → Each P xs → Each Q xs
each_by P Q [] h e = tt
each_by P Q (x ∷ xs) h e = (h x e.0, each_by P Q xs h e.1)

pub each_of : {A : Type 0} (P : A → Type 0) (xs : List A) → ((x : A) → P x) → Each P xs
each_of P [] h = tt
each_of P (x ∷ xs) h = (h x, each_of P xs h)

pub each_both : {A : Type 0} (P Q R : A → Type 0) (xs : List A) → ((x : A) → P x → Q x → R x) → Each P xs → Each Q xs → Each R xs
each_both P Q R [] h e f = tt
each_both P Q R (x ∷ xs) h e f = (h x e.0 f.0, each_both P Q R xs h e.1 f.1)

pub each_filter : {A : Type 0} (P : A → Type 0) (p : A → Bool) (xs : List A) → Each P xs → Each P (filter p xs)
each_filter P p [] e = tt
each_filter P p (x ∷ xs) e = chosen (p x) (each_filter P p xs e.1)
  where
    chosen : (b : Bool) → Each P (filter p xs) → Each P (cond b (x ∷ filter p xs) (filter p xs))
    chosen true h = (e.0, h)
    chosen false h = h

pub each_and_one : {A : Type 0} (P : A → Type 0) (xs : List A) (y : A) → Each P xs → P y → Each P (xs ++ y ∷ [])
each_and_one P [] y e h = (h, tt)
each_and_one P (x ∷ xs) y e h = (e.0, each_and_one P xs y e.1 h)

pub each_parts : {A : Type 0} (P : A → Type 0) (xs ys : List A) → Each P (xs ++ ys) → Each P xs × Each P ys
each_parts P [] ys e = (tt, e)
each_parts P (x ∷ xs) ys e = let r = each_parts P xs ys e.1 in ((e.0, r.0), r.1)

pub each_map : {A B : Type 0} (f : A → B) (P : B → Type 0) (xs : List A) → Each (λ x. P (f x)) xs → Each P (map f xs)
each_map f P [] e = tt
each_map f P (x ∷ xs) e = (e.0, each_map f P xs e.1)

-- tests of each element
pub each_true : {A : Type 0} (p : A → Bool) (xs : List A) → list_all p xs ≡ true → Each (λ x. p x ≡ true) xs
each_true p [] h = tt
each_true p (x ∷ xs) h = let r = and_parts (p x) (list_all p xs) h in (r.0, each_true p xs r.1)

pub all_true : {A : Type 0} (p : A → Bool) (xs : List A) → Each (λ x. p x ≡ true) xs → list_all p xs ≡ true
all_true p [] e = refl
all_true p (x ∷ xs) e = and_from (p x) (list_all p xs) e.0 (all_true p xs e.1)

-- each element is related to all that come later
abbrev pub Ordered : {A : Type 0} → (A → A → Type 0) → List A → Type 0
Ordered R [] = Unit {0}
Ordered R (x ∷ xs) = Each (R x) xs × Ordered R xs

pub ordered_filter : {A : Type 0} (R : A → A → Type 0) (p : A → Bool) (xs : List A) → Ordered R xs → Ordered R (filter p xs)
ordered_filter R p [] o = tt
ordered_filter R p (x ∷ xs) o = chosen (p x) (ordered_filter R p xs o.1)
  where
    chosen : (b : Bool) → Ordered R (filter p xs) → Ordered R (cond b (x ∷ filter p xs) (filter p xs))
    chosen true h = (each_filter (R x) p xs o.0, h)
    chosen false h = h

pub ordered_and_one : {A : Type 0} (R : A → A → Type 0) (xs : List A) (y : A) → Ordered R xs → Each (λ x. R x y) xs → Ordered R (xs ++ y ∷ [])
ordered_and_one R [] y o e = (tt, tt)
ordered_and_one R (x ∷ xs) y o e = (each_and_one (R x) xs y o.0 e.0, ordered_and_one R xs y o.1 e.1)

pub ordered_map : {A B : Type 0} (f : A → B) (R : B → B → Type 0) (xs : List A) → Ordered (λ x y. R (f x) (f y)) xs → Ordered R (map f xs)
ordered_map f R [] o = tt
ordered_map f R (x ∷ xs) o = (each_map f (R (f x)) xs o.0, ordered_map f R xs o.1)

pub ordered_weaker : {A : Type 0} (R S : A → A → Type 0) (xs : List A) → ((x y : A) → R x y → S x y) → Ordered R xs → Ordered S xs
ordered_weaker R S [] h o = tt
ordered_weaker R S (x ∷ xs) h o = (each_by (R x) (S x) xs (h x) o.0, ordered_weaker R S xs h o.1)

-- relations that follow from one another where something holds of each element
pub ordered_by : {A : Type 0} (P : A → Type 0) (R S : A → A → Type 0) (xs : List A) → ((x y : A) → P x → P y → R x y → S x y) → Each P xs → Ordered R xs →
    Ordered S xs
ordered_by P R S [] h e o = tt
ordered_by P R S (x ∷ xs) h e o = (each_both P (R x) (S x) xs (λ y p r. h x y e.0 p r) e.1 o.0, ordered_by P R S xs h e.1 o.1)

-- each element stands in a relation to the next one
abbrev pub chain : {A : Type 0} → (A → A → Bool) → List A → Bool
chain r [] = true
chain r (x ∷ []) = true
chain r (x ∷ y ∷ xs) = r x y && chain r (y ∷ xs)

pub ordered_chain : {A : Type 0} (r : A → A → Bool) → ((x y z : A) → r x y ≡ true → r y z ≡ true → r x z ≡ true) → (xs : List A) → chain r xs ≡ true →
    Ordered (λ x y. r x y ≡ true) xs
ordered_chain r t [] h = tt
ordered_chain r t (x ∷ []) h = (tt, tt)
ordered_chain r t (x ∷ y ∷ xs) h =
    let p = and_parts (r x y) (chain r (y ∷ xs)) h in
    let o = ordered_chain r t (y ∷ xs) p.1 in
    ((p.0, each_by (λ z. r y z ≡ true) (λ z. r x z ≡ true) xs (λ z e. t x y z p.0 e) o.0), o)

pub chain_ordered : {A : Type 0} (r : A → A → Bool) (xs : List A) → Ordered (λ x y. r x y ≡ true) xs → chain r xs ≡ true
chain_ordered r [] o = refl
chain_ordered r (x ∷ []) o = refl
chain_ordered r (x ∷ y ∷ xs) o = and_from (r x y) (chain r (y ∷ xs)) o.0.0 (chain_ordered r (y ∷ xs) o.1)

pub each_at : {A : Type 0} (P : A → Type 0) (xs : List A) (n : ℕ) (x : A) → slice_get xs n ≡ Some x → Each P xs → P x
each_at P [] n x q e = absurd (cc q)
each_at P (y ∷ xs) zero x q e = let h : y ≡ x = cc q in subst P h e.0
each_at P (y ∷ xs) (suc n) x q e = each_at P xs n x q e.1
