-- The order of interleaved lists: the list that differs first decides, and of those that differ at one place the first.
use Rattle.std.specs.Prelude.{◌≡◌, ℕ, zero, suc, nat_lt, min, Bool, List, [], ◌∷◌, ◌++◌, map, length, drop, cond}
use Rattle.std.specs.declared.cmp.Ordering.{Ordering}
use Rattle.std.specs.declared.cmp.Ordering.TheVariants.{Less, Equal, Greater}
use Rattle.std.specs.Ordering.{bool_cmp, ordering_then}
use Rattle.std.specs.Cmp.Lexicographic.{slice_cmp}
use Rattle.std.proofs.Common.{refl, sym, ap, ◌∙◌, arith, length-append}
use Rattle.std.proofs.lemmas.Bool.{le-ltb, lt-ltb}
use Rattle.std.proofs.lemmas.Bool.Decides.{nat_tests}
use Rattle.std.proofs.lemmas.List.{map-append, length-map}
use Rattle.ml_term.specs.Keys.{first_bit, interleave}
use Rattle.ml_term.proofs.Orderings.{slice_cmp-append}

-- the order of n rows of some columns
abbrev pub raced : ℕ → List (List Bool) → List (List Bool) → Ordering
raced n cs ds = slice_cmp bool_cmp (interleave n cs) (interleave n ds)

abbrev pub lead_after : Ordering → ℕ → ℕ
lead_after Less k = 0
lead_after Equal k = suc k
lead_after Greater k = 0

-- how many of n rows are the same before the first that isn't
abbrev pub lead : ℕ → List (List Bool) → List (List Bool) → ℕ
lead zero cs ds = 0
lead (suc n) cs ds = lead_after (slice_cmp bool_cmp (map first_bit cs) (map first_bit ds)) (lead n (map (drop 1) cs) (map (drop 1) ds))

-- the first row decides, and then the others
pub raced-suc : (n : ℕ) (cs ds : List (List Bool)) → length cs ≡ length ds
    → raced (suc n) cs ds ≡ ordering_then (slice_cmp bool_cmp (map first_bit cs) (map first_bit ds)) (raced n (map (drop 1) cs) (map (drop 1) ds))
raced-suc n cs ds e =
    slice_cmp-append bool_cmp (map first_bit cs) (map first_bit ds) (interleave n (map (drop 1) cs)) (interleave n (map (drop 1) ds))
    (length-map cs first_bit ∙ e ∙ sym (length-map ds first_bit))

-- the two columns whose lead is less decide, and where it is the same the first of them
abbrev sooner : ℕ → Ordering → ℕ → Ordering → Ordering
sooner l o m p = cond (nat_lt m l) p o

row_decides : (o p q r : Ordering) (l m : ℕ)
    → ordering_then (ordering_then o p) (sooner l q m r) ≡ sooner (lead_after o l) (ordering_then o q) (lead_after p m) (ordering_then p r)
row_decides Less Less q r l m = refl
row_decides Less Equal q r l m = rw (le-ltb (suc m) 0 (omega arith)) refl
row_decides Less Greater q r l m = refl
row_decides Equal Less q r l m = rw (lt-ltb 0 (suc l) (omega arith)) refl
row_decides Equal Equal q r l m = grind (arith, nat_tests)
row_decides Equal Greater q r l m = rw (lt-ltb 0 (suc l) (omega arith)) refl
row_decides Greater Less q r l m = refl
row_decides Greater Equal q r l m = rw (le-ltb (suc m) 0 (omega arith)) refl
row_decides Greater Greater q r l m = refl

row_leads : (o p : Ordering) (l m : ℕ) → lead_after (ordering_then o p) (min l m) ≡ min (lead_after o l) (lead_after p m)
row_leads Less p l m = omega arith
row_leads Greater p l m = omega arith
row_leads Equal Less l m = omega arith
row_leads Equal Greater l m = omega arith
row_leads Equal Equal l m = omega arith

-- one more column: whether it decides, and how many rows are then the same
pub record HasColumn (n : ℕ) (cs ds : List (List Bool)) (c d : List Bool) : Type 0 where
  pub order : raced n (cs ++ c ∷ []) (ds ++ d ∷ []) ≡ sooner (lead n cs ds) (raced n cs ds) (lead n (c ∷ []) (d ∷ [])) (raced n (c ∷ []) (d ∷ []))
  pub rows : lead n (cs ++ c ∷ []) (ds ++ d ∷ []) ≡ min (lead n cs ds) (lead n (c ∷ []) (d ∷ []))

pub one_column_more : (n : ℕ) (cs ds : List (List Bool)) (c d : List Bool) → length cs ≡ length ds → HasColumn n cs ds c d
one_column_more zero cs ds c d e = record { order = refl; rows = refl }
one_column_more (suc n) cs ds c d e =
    let ih : HasColumn n (map (drop 1) cs) (map (drop 1) ds) (drop 1 c) (drop 1 d) =
    one_column_more n (map (drop 1) cs) (map (drop 1) ds) (drop 1 c) (drop 1 d) (length-map cs (drop 1) ∙ e ∙ sym (length-map ds (drop 1))) in
    let o = slice_cmp bool_cmp (map first_bit cs) (map first_bit ds) in
    let p = slice_cmp bool_cmp (first_bit c ∷ []) (first_bit d ∷ []) in
    let row : slice_cmp bool_cmp (map first_bit (cs ++ c ∷ [])) (map first_bit (ds ++ d ∷ [])) ≡ ordering_then o p =
    rw (map-append first_bit cs (c ∷ []), map-append first_bit ds (d ∷ []))
    (slice_cmp-append bool_cmp (map first_bit cs) (map first_bit ds) (first_bit c ∷ []) (first_bit d ∷ [])
    (length-map cs first_bit ∙ e ∙ sym (length-map ds first_bit))) in
    let both : length (cs ++ c ∷ []) ≡ length (ds ++ d ∷ []) = omega (arith, length-append cs (c ∷ []), length-append ds (d ∷ [])) in
    let l = lead n (map (drop 1) cs) (map (drop 1) ds) in
    let m = lead n (drop 1 c ∷ []) (drop 1 d ∷ []) in
    let q = raced n (map (drop 1) cs) (map (drop 1) ds) in
    let r = raced n (drop 1 c ∷ []) (drop 1 d ∷ []) in
    let others : raced n (map (drop 1) (cs ++ c ∷ [])) (map (drop 1) (ds ++ d ∷ [])) ≡ sooner l q m r =
    rw (map-append (drop 1) cs (c ∷ []), map-append (drop 1) ds (d ∷ [])) ih.order in
    let fewer : lead n (map (drop 1) (cs ++ c ∷ [])) (map (drop 1) (ds ++ d ∷ [])) ≡ min l m =
    rw (map-append (drop 1) cs (c ∷ []), map-append (drop 1) ds (d ∷ [])) ih.rows in
    record {
      order =
          raced-suc n (cs ++ c ∷ []) (ds ++ d ∷ []) both
          ∙ ap (λ x. ordering_then x (raced n (map (drop 1) (cs ++ c ∷ [])) (map (drop 1) (ds ++ d ∷ [])))) row
          ∙ ap (ordering_then (ordering_then o p)) others
          ∙ row_decides o p q r l m
          ∙ ap (λ x. sooner (lead_after o l) x (lead_after p m) (ordering_then p r)) (sym (raced-suc n cs ds e))
          ∙ ap (λ x. sooner (lead_after o l) (raced (suc n) cs ds) (lead_after p m) x) (sym (raced-suc n (c ∷ []) (d ∷ []) refl));
      rows = ap (λ x. lead_after x (lead n (map (drop 1) (cs ++ c ∷ [])) (map (drop 1) (ds ++ d ∷ [])))) row ∙ ap (lead_after (ordering_then o p)) fewer
          ∙ row_leads o p l m;
    }

-- one column alone is read as it stands
pub interleaved_one : (n : ℕ) (c : List Bool) → length c ≡ n → interleave n (c ∷ []) ≡ c
interleaved_one zero [] e = refl
interleaved_one zero (b ∷ c) e = absurd (omega (arith, e))
interleaved_one (suc n) [] e = absurd (omega (arith, e))
interleaved_one (suc n) (b ∷ c) e = ap (λ bs. b ∷ bs) (interleaved_one n c (omega (arith, e)))

-- no column: all rows are the same
pub no_column : (n : ℕ) → raced n [] [] ≡ Equal
no_column zero = refl
no_column (suc n) = no_column n

pub lead_of_none : (n : ℕ) → lead n [] [] ≡ n
lead_of_none zero = refl
lead_of_none (suc n) = omega (arith, lead_of_none n)

pub length-interleaved : (n : ℕ) (cs ds : List (List Bool)) → length cs ≡ length ds → length (interleave n cs) ≡ length (interleave n ds)
length-interleaved zero cs ds e = refl
length-interleaved (suc n) cs ds e =
    let ih : length (interleave n (map (drop 1) cs)) ≡ length (interleave n (map (drop 1) ds)) =
    length-interleaved n (map (drop 1) cs) (map (drop 1) ds) (length-map cs (drop 1) ∙ e ∙ sym (length-map ds (drop 1))) in
    omega (
      arith,
      ih,
      length-append (map first_bit cs) (interleave n (map (drop 1) cs)),
      length-append (map first_bit ds) (interleave n (map (drop 1) ds)),
      length-map cs first_bit,
      length-map ds first_bit,
      e,
    )
