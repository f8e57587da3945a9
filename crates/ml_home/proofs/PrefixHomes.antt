-- Homes of keys where a prefix comes or goes.
use Rattle.std.proofs.Common.{◌≡◌, ◌≢◌, ◌⊎◌, inl, inr, ℕ, zero, suc, ◌<◌, ◌≤◌, Bool, true, false, List, [], ◌∷◌, length, refl, sym, ap, ◌∙◌, subst, arith}
use Rattle.std.specs.Prelude.{Contains, Option}
use Rattle.std.proofs.lemmas.Bool.{cases_lt}
use Rattle.std.proofs.lemmas.List.{get_or_default}
use Rattle.std.proofs.lemmas.List.Elements.{Contains-get_or, Contains-append_cases, Contains-append_right}
use Rattle.ml_bits.specs.BitList.{Begins}
use Rattle.ml_bits.proofs.OrderLaws.{begins_both, begins_shorter, begins_trans}
use Rattle.ml_key.proofs.BitBeginnings.{begun, begins_so, owner_holds}
use Rattle.ml_region.specs.Prefixes.{IsOwner, IsParent, bits_at}
use Rattle.ml_term.specs.Patterns.{begins, fits, may_hold}
use Rattle.ml_home.specs.Homes.{Divides, HasCome, IsAbove, IsHome}

-- two beginnings of one list that are as long are the same
same_beginning : (x y whole : List Bool) → Begins x whole → Begins y whole → length x ≡ length y → x ≡ y
same_beginning x y whole a b e =
    begins_both x y (begins_shorter x y whole a b (omega (arith, e))) (begins_shorter y x whole b a (omega (arith, e)))

-- a key has one home
pub one_home : (prefixes : List (List Bool)) (key first second : List Bool) → IsHome prefixes key first → IsHome prefixes key second → first ≡ second
one_home prefixes key first second h g =
    same_beginning first second key h.begins g.begins (omega (arith, h.longest second g.there g.begins, g.longest first h.there h.begins))

-- ---- homes and parents by their places

place_of : (prefixes : List (List Bool)) (p : List Bool) (c : Contains prefixes p) → bits_at prefixes c.0 ≡ p
place_of prefixes p c = get_or_default prefixes c.0 [] p c.1 ∙ c.2

pub home_at : (prefixes : List (List Bool)) (key : List Bool) (i : ℕ) → IsOwner prefixes key i → IsHome prefixes key (bits_at prefixes i)
home_at prefixes key i owner = record {
  there = Contains-get_or prefixes i [] owner.within;
  begins = owner.begins;
  longest = λ other c b.
      let at : bits_at prefixes c.0 ≡ other = place_of prefixes other c in
      subst (λ p. length p ≤ length (bits_at prefixes i)) at (owner.longest c.0 c.1 (subst (λ p. Begins p key) (sym at) b));
}

pub above_at : (prefixes : List (List Bool)) (prefix : List Bool) (i : ℕ) → IsParent prefixes prefix i → IsAbove prefixes prefix (bits_at prefixes i)
above_at prefixes prefix i parent = record {
  there = Contains-get_or prefixes i [] parent.within;
  begins = parent.begins;
  shorter = parent.shorter;
  longest = λ other c b l.
      let at : bits_at prefixes c.0 ≡ other = place_of prefixes other c in
      subst (λ p. length p ≤ length (bits_at prefixes i)) at
      (parent.longest c.0 c.1 (subst (λ p. Begins p prefix) (sym at) b) (subst (λ p. length p < length prefix) (sym at) l));
}

pub home_holds : (prefixes : List (List Bool)) (key home : List Bool) (pattern : List (Option (List Bool))) → IsHome prefixes key home →
    fits pattern key ≡ true → may_hold pattern home ≡ true
home_holds prefixes key home pattern h t = owner_holds pattern home key t h.begins

-- ---- each key has a home where the empty prefix is among them

abbrev NoneBegins : List (List Bool) → List Bool → Type 0
NoneBegins prefixes key = (p : List Bool) → Contains prefixes p → Begins p key → ⊥

contains_none : (p : List Bool) → Contains [] p → ⊥
contains_none p c = omega (arith, c.1)

pub contains_case : (x : List Bool) (xs : List (List Bool)) (p : List Bool) → Contains (x ∷ xs) p → (p ≡ x) ⊎ Contains xs p
contains_case x xs p c = elim (Contains-append_cases (x ∷ []) xs p c) [ inl a ↦ inl (only a) | inr a ↦ inr a ]
  where
    only : Contains (x ∷ []) p → p ≡ x
    only (zero, l, e) = sym e
    only (suc k, l, e) = absurd (omega (arith, l))

contains_first : (x : List Bool) (xs : List (List Bool)) → Contains (x ∷ xs) x
contains_first x xs = (0, omega arith, refl)

contains_later : (x : List Bool) (xs : List (List Bool)) (p : List Bool) → Contains xs p → Contains (x ∷ xs) p
contains_later x xs p c = Contains-append_right (x ∷ []) xs p c

begins_or_not : (x key : List Bool) → Begins x key ⊎ (Begins x key → ⊥)
begins_or_not x key = by (begins x key) refl
  where
    by : (b : Bool) → begins x key ≡ b → Begins x key ⊎ (Begins x key → ⊥)
    by true e = inl (begun x key e)
    by false e = inr (λ h. let both : true ≡ false = sym (begins_so x key h) ∙ e in cc)

-- the home among some prefixes and one more in front
home_with : (x : List Bool) (xs : List (List Bool)) (key : List Bool) → Begins x key ⊎ (Begins x key → ⊥) →
    NoneBegins xs key ⊎ ((u : List Bool) × IsHome xs key u) → NoneBegins (x ∷ xs) key ⊎ ((u : List Bool) × IsHome (x ∷ xs) key u)
home_with x xs key (inr n) (inl f) =
    inl (λ p c b. elim (contains_case x xs p c) [ inl e ↦ n (subst (λ w. Begins w key) e b) | inr d ↦ f p d b ])
home_with x xs key (inr n) (inr h) = inr (
  h.0,
  record {
    there = contains_later x xs h.0 h.1.there;
    begins = h.1.begins;
    longest = λ p c b. elim (contains_case x xs p c) [ inl e ↦ absurd (n (subst (λ w. Begins w key) e b)) | inr d ↦ h.1.longest p d b ];
  },
)
home_with x xs key (inl y) (inl f) = inr (
  x,
  record {
    there = contains_first x xs;
    begins = y;
    longest = λ p c b. elim (contains_case x xs p c) [ inl e ↦ omega (arith, ap length e) | inr d ↦ absurd (f p d b) ];
  },
)
home_with x xs key (inl y) (inr h) = elim (cases_lt (length x) (length h.0)) [
  | inl l ↦ inr (
    h.0,
    record {
      there = contains_later x xs h.0 h.1.there;
      begins = h.1.begins;
      longest = λ p c b. elim (contains_case x xs p c) [ inl e ↦ omega (arith, ap length e, l) | inr d ↦ h.1.longest p d b ];
    },
  )
  | inr l ↦ inr (
    x,
    record {
      there = contains_first x xs;
      begins = y;
      longest = λ p c b. elim (contains_case x xs p c) [ inl e ↦ omega (arith, ap length e) | inr d ↦ omega (arith, h.1.longest p d b, l) ];
    },
  )
]

home_or_none : (prefixes : List (List Bool)) (key : List Bool) → NoneBegins prefixes key ⊎ ((u : List Bool) × IsHome prefixes key u)
home_or_none [] key = inl (λ p c b. contains_none p c)
home_or_none (x ∷ xs) key = home_with x xs key (begins_or_not x key) (home_or_none xs key)

pub home_of : (prefixes : List (List Bool)) (key : List Bool) → Contains prefixes [] → (u : List Bool) × IsHome prefixes key u
home_of prefixes key root = elim (home_or_none prefixes key) [ inl n ↦ absurd (n [] root refl) | inr h ↦ h ]

-- ---- a prefix comes

-- what begins the new prefix is no longer than the home that it divides
upto_home : (old : List (List Bool)) (home prefix : List Bool) → Divides old home prefix → (p : List Bool) → Contains old p → Begins p prefix →
    length p ≤ length home
upto_home old home prefix d p t a = d.at_home.longest p t (begins_trans p prefix d.key a d.begins)

pub taken : (old new : List (List Bool)) (home prefix : List Bool) → HasCome old new prefix → Divides old home prefix → (key : List Bool) →
    IsHome old key home → Begins prefix key → IsHome new key prefix
taken old new home prefix c d key h b = record {
  there = c.came;
  begins = b;
  longest = λ p t a. elim (c.only p t) [
    | inl e ↦ omega (arith, ap length e)
    | inr w ↦ omega (arith, h.longest p w a, d.longer)
  ];
}

pub stays_at : (old new : List (List Bool)) (home prefix : List Bool) → HasCome old new prefix → Divides old home prefix → (key at : List Bool) →
    IsHome old key at → (at ≡ home → Begins prefix key → ⊥) → IsHome new key at
stays_at old new home prefix c d key at h n = record {
  there = c.kept at h.there;
  begins = h.begins;
  longest = λ p t a. elim (c.only p t) [
    | inl e ↦ elim (cases_lt (length at) (length p)) [
      | inl l ↦
          let b : Begins prefix key = subst (λ w. Begins w key) e a in
          let front : Begins at prefix = begins_shorter at prefix key h.begins b (omega (arith, ap length e, l)) in
          let begin : Begins home key = begins_trans home prefix key d.extends b in
          let up : length home ≤ length at = h.longest home d.at_home.there begin in
          let same : at ≡ home =
          same_beginning at home key h.begins begin (omega (arith, up, upto_home old home prefix d at h.there front)) in
          absurd (n same b)
      | inr l ↦ l
    ]
    | inr w ↦ h.longest p w a
  ];
}

pub only_at : (old new : List (List Bool)) (home prefix : List Bool) → HasCome old new prefix → Divides old home prefix → (key at : List Bool) →
    IsHome new key at → ((at ≡ prefix) × IsHome old key home × Begins prefix key) ⊎ IsHome old key at
only_at old new home prefix c d key at h = elim (c.only at h.there) [
  | inl e ↦
      let b : Begins prefix key = subst (λ w. Begins w key) e h.begins in
      inl (
        e,
        record {
          there = d.at_home.there;
          begins = begins_trans home prefix key d.extends b;
          longest = λ p t a. upto_home old home prefix d p t
              (begins_shorter p prefix key a b (omega (arith, h.longest p (c.kept p t) a, ap length e)));
        },
        b,
      )
  | inr w ↦ inr (record { there = w; begins = h.begins; longest = λ p t a. h.longest p (c.kept p t) a })
]

pub new_above : (old new : List (List Bool)) (home prefix : List Bool) → HasCome old new prefix → Divides old home prefix → IsAbove new prefix home
new_above old new home prefix c d = record {
  there = c.kept home d.at_home.there;
  begins = d.extends;
  shorter = d.longer;
  longest = λ p t a l. elim (c.only p t) [
    | inl e ↦ absurd (omega (arith, l, ap length e))
    | inr w ↦ upto_home old home prefix d p w a
  ];
}

pub only_above : (old new : List (List Bool)) (home prefix : List Bool) → HasCome old new prefix → Divides old home prefix → (below above : List Bool) →
    Contains old below → IsAbove new below above → ((above ≡ prefix) × IsAbove old below home) ⊎ IsAbove old below above
only_above old new home prefix c d below above t h = elim (c.only above h.there) [
  | inl e ↦
      let b : Begins prefix below = subst (λ w. Begins w below) e h.begins in
      inl (
        e,
        record {
          there = d.at_home.there;
          begins = begins_trans home prefix below d.extends b;
          shorter = omega (arith, d.longer, h.shorter, ap length e);
          longest = λ p w a l. upto_home old home prefix d p w
              (begins_shorter p prefix below a b (omega (arith, h.longest p (c.kept p w) a l, ap length e)));
        },
      )
  | inr w ↦ inr (record { there = w; begins = h.begins; shorter = h.shorter; longest = λ p v a l. h.longest p (c.kept p v) a l })
]

-- ---- a prefix goes

pub stays_behind : (old new : List (List Bool)) (prefix : List Bool) → HasCome new old prefix → (key at : List Bool) → IsHome old key at → at ≢ prefix →
    IsHome new key at
stays_behind old new prefix c key at h n = elim (c.only at h.there) [
  | inl e ↦ absurd (n e)
  | inr w ↦ record { there = w; begins = h.begins; longest = λ p t a. h.longest p (c.kept p t) a }
]

pub taken_above : (old new : List (List Bool)) (prefix parent : List Bool) → HasCome new old prefix → IsAbove old prefix parent → (key : List Bool) →
    IsHome old key prefix → IsHome new key parent
taken_above old new prefix parent c up key h = elim (c.only parent up.there) [
  | inl e ↦ absurd (omega (arith, up.shorter, ap length e))
  | inr w ↦ record {
    there = w;
    begins = begins_trans parent prefix key up.begins h.begins;
    longest = λ p t a.
        let within : length p ≤ length prefix = h.longest p (c.kept p t) a in
        elim (cases_lt (length p) (length prefix)) [
          | inl l ↦ up.longest p (c.kept p t) (begins_shorter p prefix key a h.begins within) l
          | inr l ↦ absurd (c.fresh (subst (Contains new) (same_beginning p prefix key a h.begins (omega arith)) t))
        ];
  }
]

pub only_behind : (old new : List (List Bool)) (prefix : List Bool) → HasCome new old prefix → Contains old [] → (key at : List Bool) → IsHome new key at →
    IsHome old key prefix ⊎ IsHome old key at
only_behind old new prefix c root key at h =
    let was = home_of old key root in
    elim (c.only was.0 was.1.there) [
      | inl e ↦ inl (subst (IsHome old key) e was.1)
      | inr w ↦
          let still : IsHome new key was.0 = record { there = w; begins = was.1.begins; longest = λ p t a. was.1.longest p (c.kept p t) a } in
          inr (subst (IsHome old key) (one_home new key was.0 at still h) was.1)
    ]
