-- Packed lists are in the order of their words, and where these are the same, of their lengths.
use Rattle.std.proofs.Common.{◌≡◌, ℕ, zero, suc, ◌+◌, ◌-◌, ◌*◌, ◌^◌, ◌<◌, ◌≤◌, Bool, true, false, List, [], ◌∷◌, ◌++◌, length, get_or, replicate, refl, sym, ap}
use Rattle.std.proofs.Common.{◌∙◌, arith}
use Rattle.std.specs.declared.cmp.Ordering.{Ordering}
use Rattle.std.specs.declared.cmp.Ordering.TheVariants.{Less, Equal, Greater}
use Rattle.std.specs.Ordering.{nat_cmp, bool_cmp, ordering_then}
use Rattle.std.specs.Cmp.Lexicographic.{slice_cmp}
use Rattle.std.proofs.lemmas.Bool.Decides.{nat_tests}
use Rattle.std.proofs.lemmas.List.{length-append, length-replicate}
use Rattle.ml_bits.specs.BitList.{bits_of}
use Rattle.ml_bits.specs.inside.Packing.{word_bits, packed_bits, IsPacked}
use Rattle.ml_bits.proofs.WordBits.{bits_of-suc, length-bits_of}
use Rattle.ml_bits.proofs.WordOrder.{bits_of_cmp}
use Rattle.ml_bits.proofs.PackedBits.{spells, length-packed_bits}

then_assoc : (a b c : Ordering) → ordering_then (ordering_then a b) c ≡ ordering_then a (ordering_then b c)
then_assoc Less b c = refl
then_assoc Equal b c = refl
then_assoc Greater b c = refl

-- lists in two parts, the first parts as long as each other
parts_cmp : (xs ys ps qs : List Bool) → length xs ≡ length ys →
    slice_cmp bool_cmp (xs ++ ps) (ys ++ qs) ≡ ordering_then (slice_cmp bool_cmp xs ys) (slice_cmp bool_cmp ps qs)
parts_cmp [] [] ps qs h = refl
parts_cmp [] (y ∷ ys) ps qs h = absurd (omega arith)
parts_cmp (x ∷ xs) [] ps qs h = absurd (omega arith)
parts_cmp (x ∷ xs) (y ∷ ys) ps qs h =
    ap (ordering_then (bool_cmp x y)) (parts_cmp xs ys ps qs (omega arith))
    ∙ sym (then_assoc (bool_cmp x y) (slice_cmp bool_cmp xs ys) (slice_cmp bool_cmp ps qs))

nothing_first : (v : ℕ) (qs : List Bool) → slice_cmp bool_cmp [] (bits_of 64 v ++ qs) ≡ Less
nothing_first v qs = ap (λ bs. slice_cmp bool_cmp [] (bs ++ qs)) (bits_of-suc 63 v)

nothing_second : (w : ℕ) (ps : List Bool) → slice_cmp bool_cmp (bits_of 64 w ++ ps) [] ≡ Greater
nothing_second w ps = ap (λ bs. slice_cmp bool_cmp (bs ++ ps) []) (bits_of-suc 63 w)

-- words are in the order of their bits
pub word_bits_cmp : (ws vs : List ℕ) → ((i : ℕ) → get_or ws i 0 < 2 ^ 64) → ((i : ℕ) → get_or vs i 0 < 2 ^ 64) →
    slice_cmp bool_cmp (word_bits ws) (word_bits vs) ≡ slice_cmp nat_cmp ws vs
word_bits_cmp [] [] h g = refl
word_bits_cmp [] (v ∷ vs) h g = nothing_first v (word_bits vs)
word_bits_cmp (w ∷ ws) [] h g = nothing_second w (word_bits ws)
word_bits_cmp (w ∷ ws) (v ∷ vs) h g =
    let firsts : slice_cmp bool_cmp (bits_of 64 w) (bits_of 64 v) ≡ nat_cmp w v = bits_of_cmp 64 w v (h 0) (g 0) in
    let others : slice_cmp bool_cmp (word_bits ws) (word_bits vs) ≡ slice_cmp nat_cmp ws vs = word_bits_cmp ws vs (λ i. h (suc i)) (λ i. g (suc i)) in
    parts_cmp (bits_of 64 w) (bits_of 64 v) (word_bits ws) (word_bits vs) (length-bits_of 64 w ∙ sym (length-bits_of 64 v))
    ∙ ap (λ o. ordering_then o (slice_cmp bool_cmp (word_bits ws) (word_bits vs))) firsts
    ∙ ap (ordering_then (nat_cmp w v)) others

-- ---- lists with zeros behind them

-- zeros don't come after a list that is as long
zeros_first : (p : ℕ) (zs : List Bool) → p ≤ length zs → ordering_then (slice_cmp bool_cmp (replicate p false) zs) Less ≡ Less
zeros_first zero [] h = refl
zeros_first zero (z ∷ zs) h = refl
zeros_first (suc p) [] h = absurd (omega arith)
zeros_first (suc p) (true ∷ zs) h = refl
zeros_first (suc p) (false ∷ zs) h = zeros_first p zs (omega arith)

zeros_second : (p : ℕ) (zs : List Bool) → p ≤ length zs → ordering_then (slice_cmp bool_cmp zs (replicate p false)) Greater ≡ Greater
zeros_second zero [] h = refl
zeros_second zero (z ∷ zs) h = refl
zeros_second (suc p) [] h = absurd (omega arith)
zeros_second (suc p) (true ∷ zs) h = refl
zeros_second (suc p) (false ∷ zs) h = zeros_second p zs (omega arith)

tied_back : (zs : List Bool) → slice_cmp bool_cmp zs zs ≡ Equal
tied_back [] = refl
tied_back (true ∷ zs) = tied_back zs
tied_back (false ∷ zs) = tied_back zs

suc_cmp : (m n : ℕ) → nat_cmp (suc m) (suc n) ≡ nat_cmp m n
suc_cmp m n = grind (arith, nat_tests)

-- two lists with p and q zeros behind them: the lists are in the order of these, and where these are the same, of their lengths
padded_cmp : (xs ys : List Bool) (p q : ℕ) → (length xs ≡ length ys → p ≡ q) → (length xs < length ys → length xs + p ≤ length ys + q) →
    (length ys < length xs → length ys + q ≤ length xs + p)
    → slice_cmp bool_cmp xs ys ≡ ordering_then (slice_cmp bool_cmp (xs ++ replicate p false) (ys ++ replicate q false)) (nat_cmp (length xs) (length ys))
padded_cmp [] [] p q e l g =
    let same : p ≡ q = e refl in
    sym (ap (λ o. ordering_then o (nat_cmp 0 0)) (ap (λ n. slice_cmp bool_cmp (replicate p false) (replicate n false)) (sym same)
    ∙ tied_back (replicate p false)))
padded_cmp [] (y ∷ ys) p q e l g =
    let shorter : nat_cmp 0 (suc (length ys)) ≡ Less = grind (arith, nat_tests) in
    let long : p ≤ length (y ∷ ys ++ replicate q false) =
    omega (arith, l (omega arith), length-append (y ∷ ys) (replicate q false), length-replicate q false) in
    sym (ap (ordering_then (slice_cmp bool_cmp (replicate p false) (y ∷ ys ++ replicate q false))) shorter ∙ zeros_first p (y ∷ ys ++ replicate q false) long)
padded_cmp (x ∷ xs) [] p q e l g =
    let longer : nat_cmp (suc (length xs)) 0 ≡ Greater = grind (arith, nat_tests) in
    let long : q ≤ length (x ∷ xs ++ replicate p false) =
    omega (arith, g (omega arith), length-append (x ∷ xs) (replicate p false), length-replicate p false) in
    sym (ap (ordering_then (slice_cmp bool_cmp (x ∷ xs ++ replicate p false) (replicate q false))) longer ∙ zeros_second q (x ∷ xs ++ replicate p false) long)
padded_cmp (x ∷ xs) (y ∷ ys) p q e l g =
    let within = padded_cmp xs ys p q (λ s. e (ap suc s)) (λ h. let more : suc (length xs) + p ≤ suc (length ys) + q = l (omega arith) in omega arith)
    (λ h. let more : suc (length ys) + q ≤ suc (length xs) + p = g (omega arith) in omega arith) in
    ap (ordering_then (bool_cmp x y)) within
    ∙ sym (then_assoc (bool_cmp x y) (slice_cmp bool_cmp (xs ++ replicate p false) (ys ++ replicate q false)) (nat_cmp (length xs) (length ys)))
    ∙ ap (ordering_then (ordering_then (bool_cmp x y) (slice_cmp bool_cmp (xs ++ replicate p false) (ys ++ replicate q false))))
    (sym (suc_cmp (length xs) (length ys)))

pub packed_cmp : (ws vs : List ℕ) (m n : ℕ) → IsPacked ws m → IsPacked vs n
    → slice_cmp bool_cmp (packed_bits ws m) (packed_bits vs n) ≡ ordering_then (slice_cmp bool_cmp (word_bits ws) (word_bits vs)) (nat_cmp m n)
packed_cmp ws vs m n p q =
    let xs : List Bool = packed_bits ws m in
    let ys : List Bool = packed_bits vs n in
    let x_long : length xs ≡ m = length-packed_bits ws m p in
    let y_long : length ys ≡ n = length-packed_bits vs n q in
    let same : length xs ≡ length ys → 64 * length ws - m ≡ 64 * length vs - n =
    λ e. omega (arith, p.enough, p.no_more, q.enough, q.no_more, x_long, y_long, e) in
    let shorter : length xs < length ys → length xs + (64 * length ws - m) ≤ length ys + (64 * length vs - n) =
    λ e. omega (arith, p.enough, p.no_more, q.enough, q.no_more, x_long, y_long, e) in
    let longer : length ys < length xs → length ys + (64 * length vs - n) ≤ length xs + (64 * length ws - m) =
    λ e. omega (arith, p.enough, p.no_more, q.enough, q.no_more, x_long, y_long, e) in
    padded_cmp xs ys (64 * length ws - m) (64 * length vs - n) same shorter longer
    ∙ ap (λ zs. ordering_then (slice_cmp bool_cmp zs (ys ++ replicate (64 * length vs - n) false)) (nat_cmp (length xs) (length ys)))
    (sym (spells ws m p).spelled)
    ∙ ap (λ zs. ordering_then (slice_cmp bool_cmp (word_bits ws) zs) (nat_cmp (length xs) (length ys))) (sym (spells vs n q).spelled)
    ∙ ap (λ k. ordering_then (slice_cmp bool_cmp (word_bits ws) (word_bits vs)) (nat_cmp k (length ys))) x_long
    ∙ ap (λ k. ordering_then (slice_cmp bool_cmp (word_bits ws) (word_bits vs)) (nat_cmp m k)) y_long
