-- Words that hold a list: its bits, then zeros up to the end of the last word.
use Rattle.std.proofs.Common.{◌≡◌, ℕ, zero, suc, ◌+◌, ◌-◌, ◌*◌, ◌/◌, ◌%◌, ◌^◌, ◌<◌, ◌≤◌, Bool, false, eqb, List, [], ◌∷◌, ◌++◌, length, get_or, set, take, drop}
use Rattle.std.proofs.Common.{replicate, refl, sym, ap, ◌∙◌, subst, arith, append_assoc, length-append}
use Rattle.std.specs.Int.RustNames.{bit_or, bit_and}
use Rattle.std.proofs.lemmas.Nat.Bits.{shr_and_one}
use Rattle.std.proofs.lemmas.List.{append-nil, take-append-drop, take_at, drop_at, take_more, take_all, take-take, set_at, length-replicate, length-take-le}
use Rattle.std.proofs.lemmas.List.{get_or_append_left, get_or-append-add, get_or-take, drop_all}
use Rattle.std.proofs.lemmas.List.Concat.{flat_map-append}
use Rattle.std.proofs.lemmas.Nat.{shl_whole, shl_below, or_shifted, shr_split, mod_below, pow_pos, shr_below}
use Rattle.ml_bits.specs.BitList.{bits_of}
use Rattle.ml_bits.specs.inside.Packing.{word_bits, packed_bits, IsPacked, Holds}
use Rattle.ml_bits.proofs.CutLists.{same_parts}
use Rattle.ml_bits.proofs.WordBits.{bits_of-none, get_or-bits_of, length-bits_of, bits_of_cat, bits_of_split, bits_of_zero, bits_of_mod, bits_of_shifted}
use Rattle.ml_bits.proofs.WordOrder.{same_from_bits_of}

pub length-word_bits : (ws : List ℕ) → length (word_bits ws) ≡ 64 * length ws
length-word_bits [] = refl
length-word_bits (w ∷ ws) = omega (arith, length-append (bits_of 64 w) (word_bits ws), length-bits_of 64 w, length-word_bits ws)

pub word_bits_push : (ws : List ℕ) (w : ℕ) → word_bits (ws ++ w ∷ []) ≡ word_bits ws ++ bits_of 64 w
word_bits_push ws w = flat_map-append (bits_of 64) ws (w ∷ []) ∙ ap (λ r. word_bits ws ++ r) (append-nil (bits_of 64 w))

-- the bits of the first words
pub word_bits_take : (n : ℕ) (ws : List ℕ) → n ≤ length ws → word_bits (take n ws) ≡ take (64 * n) (word_bits ws)
word_bits_take n ws h =
    let whole : word_bits (take n ws) ++ word_bits (drop n ws) ≡ word_bits ws =
    sym (flat_map-append (bits_of 64) (take n ws) (drop n ws)) ∙ ap word_bits (take-append-drop n ws) in
    let long : length (word_bits (take n ws)) ≡ 64 * n = length-word_bits (take n ws) ∙ ap (λ x. 64 * x) (length-take-le n ws h) in
    sym (take_at (word_bits (take n ws)) (word_bits (drop n ws)) (64 * n) long) ∙ ap (take (64 * n)) whole

-- the bit at place r of word q
pub get_or-word_bits : (ws : List ℕ) (q r : ℕ) (d : Bool) → q < length ws → r < 64 →
    get_or (word_bits ws) (64 * q + r) d ≡ get_or (bits_of 64 (get_or ws q 0)) r d
get_or-word_bits [] q r d h l = absurd (omega arith)
get_or-word_bits (w ∷ ws) zero r d h l =
    let place : 64 * 0 + r ≡ r = omega arith in
    rw place (get_or_append_left (bits_of 64 w) (word_bits ws) d r (omega (arith, length-bits_of 64 w)))
get_or-word_bits (w ∷ ws) (suc q) r d h l =
    let place : 64 * suc q + r ≡ length (bits_of 64 w) + (64 * q + r) = omega (arith, length-bits_of 64 w) in
    rw place (get_or-append-add (bits_of 64 w) (word_bits ws) (64 * q + r) d ∙ get_or-word_bits ws q r d (omega arith) l)

-- ---- words, the list that they hold, and how many bits are left

pub record Spells (words : List ℕ) (bits : List Bool) (spare : ℕ) : Type 0 where
  pub below : spare < 64
  pub spelled : word_bits words ≡ bits ++ replicate spare false

pub spells : (ws : List ℕ) (len : ℕ) → IsPacked ws len → Spells ws (packed_bits ws len) (64 * length ws - len)
spells ws len p = record {
  below = omega (arith, p.enough, p.no_more);
  spelled = sym (take-append-drop len (word_bits ws)) ∙ ap (λ r. packed_bits ws len ++ r) p.rest_zero;
}

pub length-packed_bits : (ws : List ℕ) (len : ℕ) → IsPacked ws len → length (packed_bits ws len) ≡ len
length-packed_bits ws len p = length-take-le len (word_bits ws) (omega (arith, length-word_bits ws, p.enough))

pub holds : (ws : List ℕ) (bits : List Bool) (spare len : ℕ) → Spells ws bits spare → length bits ≡ len → Holds ws len bits
holds ws bits spare len s e =
    let total : length bits + spare ≡ 64 * length ws =
    omega (arith, sym (ap length s.spelled), length-append bits (replicate spare false), length-replicate spare false, length-word_bits ws) in
    let left : 64 * length ws - len ≡ spare = omega (arith, total, e) in
    record {
      packed = record {
        enough = omega (arith, total, e);
        no_more = omega (arith, total, e, s.below);
        rest_zero = ap (drop len) s.spelled ∙ drop_at bits (replicate spare false) len e ∙ ap (λ n. replicate n false) (sym left);
      };
      held = ap (take len) s.spelled ∙ take_at bits (replicate spare false) len e;
    }

-- ---- what a word holds

-- c more bits in a word whose s lowest bits are not used
fill_word : (w s c v : ℕ) (front : List Bool) → s < 64 → c ≤ s → v < 2 ^ c → w % 2 ^ s ≡ 0
    → bits_of 64 (bit_or w (v * 2 ^ (s - c) % 2 ^ 64)) ≡ bits_of (64 - s) (w / 2 ^ s) ++ (bits_of c v ++ replicate (s - c) false)
fill_word w s c v front l h g z =
    let within : c + (s - c) ≡ s = omega arith in
    let small : v * 2 ^ (s - c) < 2 ^ s = subst (λ k. v * 2 ^ (s - c) < 2 ^ k) within (shl_below v c (s - c) g) in
    let whole : v * 2 ^ (s - c) % 2 ^ 64 ≡ v * 2 ^ (s - c) = shl_whole v c (s - c) 64 g (omega arith) in
    let split : w ≡ w / 2 ^ s * 2 ^ s = omega (arith, shr_split w s, z) in
    let joined : bit_or w (v * 2 ^ (s - c) % 2 ^ 64) ≡ w / 2 ^ s * 2 ^ s + v * 2 ^ (s - c) =
    ap (bit_or w) whole ∙ ap (λ x. bit_or x (v * 2 ^ (s - c))) split ∙ or_shifted (w / 2 ^ s) s (v * 2 ^ (s - c)) small in
    let width : 64 ≡ (64 - s) + s = omega arith in
    let cut : bits_of ((64 - s) + s) (w / 2 ^ s * 2 ^ s + v * 2 ^ (s - c)) ≡ bits_of (64 - s) (w / 2 ^ s) ++ bits_of s (v * 2 ^ (s - c)) =
    bits_of_cat (64 - s) s (w / 2 ^ s) (v * 2 ^ (s - c)) small in
    let low : bits_of s (v * 2 ^ (s - c)) ≡ bits_of c v ++ replicate (s - c) false =
    ap (λ k. bits_of k (v * 2 ^ (s - c))) (sym within) ∙ bits_of_shifted c (s - c) v in
    ap (bits_of 64) joined ∙ ap (λ k. bits_of k (w / 2 ^ s * 2 ^ s + v * 2 ^ (s - c))) width ∙ cut ∙ ap (λ r. bits_of (64 - s) (w / 2 ^ s) ++ r) low

-- c bits at the beginning of a word
first_bits : (c v : ℕ) → c ≤ 64 → bits_of 64 (v * 2 ^ (64 - c) % 2 ^ 64) ≡ bits_of c v ++ replicate (64 - c) false
first_bits c v h =
    let width : 64 ≡ c + (64 - c) = omega arith in
    bits_of_mod 64 (v * 2 ^ (64 - c)) ∙ ap (λ k. bits_of k (v * 2 ^ (64 - c))) width ∙ bits_of_shifted c (64 - c) v

-- a word without its s lowest bits
cleared_word : (w s : ℕ) → s < 64 → bits_of 64 (w / 2 ^ s * 2 ^ s % 2 ^ 64) ≡ bits_of (64 - s) (w / 2 ^ s) ++ replicate s false
cleared_word w s l =
    let width : 64 ≡ (64 - s) + s = omega arith in
    bits_of_mod 64 (w / 2 ^ s * 2 ^ s) ∙ ap (λ k. bits_of k (w / 2 ^ s * 2 ^ s)) width ∙ bits_of_shifted (64 - s) s (w / 2 ^ s)

split_word : (w s : ℕ) → s < 64 → bits_of 64 w ≡ bits_of (64 - s) (w / 2 ^ s) ++ bits_of s (w % 2 ^ s)
split_word w s l =
    let width : 64 ≡ (64 - s) + s = omega arith in
    ap (λ k. bits_of k w) width ∙ bits_of_split (64 - s) s w

-- ---- changes of the last word

last_apart : (ws : List ℕ) (n : ℕ) → suc n ≡ length ws → ws ≡ take n ws ++ get_or ws n 0 ∷ []
last_apart ws n e = sym (take_all (n + 1) ws (omega arith)) ∙ take_more ws n 0 (omega arith)

set_last : (ws : List ℕ) (n w : ℕ) → suc n ≡ length ws → set ws n w ≡ take n ws ++ w ∷ []
set_last ws n w e = ap (λ x. set x n w) (last_apart ws n e) ∙ set_at (take n ws) (get_or ws n 0) [] w n (length-take-le n ws (omega arith))

-- c more bits go to the last word
filled_last : (ws : List ℕ) (len n c v : ℕ) → IsPacked ws len → suc n ≡ length ws → c ≤ 64 * length ws - len → v < 2 ^ c
    → Holds (set ws n (bit_or (get_or ws n 0) (v * 2 ^ (64 * length ws - len - c) % 2 ^ 64))) (len + c) (packed_bits ws len ++ bits_of c v)
filled_last ws len n c v p e h g =
    let s : ℕ = 64 * length ws - len in
    let bits : List Bool = packed_bits ws len in
    let front : List ℕ = take n ws in
    let w : ℕ = get_or ws n 0 in
    let w' : ℕ = bit_or w (v * 2 ^ (s - c) % 2 ^ 64) in
    let was = spells ws len p in
    let small : s < 64 = was.below in
    let parted : word_bits ws ≡ (word_bits front ++ bits_of (64 - s) (w / 2 ^ s)) ++ bits_of s (w % 2 ^ s) =
    ap word_bits (last_apart ws n e) ∙ word_bits_push front w ∙ ap (λ r. word_bits front ++ r) (split_word w s small)
    ∙ sym (append_assoc (word_bits front) (bits_of (64 - s) (w / 2 ^ s)) (bits_of s (w % 2 ^ s))) in
    let parts = same_parts (word_bits front ++ bits_of (64 - s) (w / 2 ^ s)) bits (bits_of s (w % 2 ^ s)) (replicate s false)
    (length-bits_of s (w % 2 ^ s) ∙ sym (length-replicate s false)) (sym parted ∙ was.spelled) in
    let unused : w % 2 ^ s ≡ 0 =
    same_from_bits_of s (w % 2 ^ s) 0 (mod_below w (2 ^ s) (pow_pos s)) (pow_pos s) (parts.1 ∙ sym (bits_of_zero s)) in
    let filled : word_bits (front ++ w' ∷ []) ≡ (bits ++ bits_of c v) ++ replicate (s - c) false =
    word_bits_push front w' ∙ ap (λ r. word_bits front ++ r) (fill_word w s c v bits small h g unused)
    ∙ sym (append_assoc (word_bits front) (bits_of (64 - s) (w / 2 ^ s)) (bits_of c v ++ replicate (s - c) false))
    ∙ ap (λ r. r ++ (bits_of c v ++ replicate (s - c) false)) parts.0
    ∙ sym (append_assoc bits (bits_of c v) (replicate (s - c) false)) in
    let long : length (bits ++ bits_of c v) ≡ len + c =
    omega (arith, length-append bits (bits_of c v), length-bits_of c v, length-packed_bits ws len p) in
    holds (set ws n w') (bits ++ bits_of c v) (s - c) (len + c)
    (record { below = omega arith; spelled = ap word_bits (set_last ws n w' e) ∙ filled }) long

-- c bits begin a new word
pub start_word : (ws : List ℕ) (c v : ℕ) → 0 < c → c ≤ 64
    → Holds (ws ++ (v * 2 ^ (64 - c) % 2 ^ 64) ∷ []) (64 * length ws + c) (word_bits ws ++ bits_of c v)
start_word ws c v l h =
    let w : ℕ = v * 2 ^ (64 - c) % 2 ^ 64 in
    let spelled : word_bits (ws ++ w ∷ []) ≡ (word_bits ws ++ bits_of c v) ++ replicate (64 - c) false =
    word_bits_push ws w ∙ ap (λ r. word_bits ws ++ r) (first_bits c v h) ∙ sym (append_assoc (word_bits ws) (bits_of c v) (replicate (64 - c) false)) in
    let long : length (word_bits ws ++ bits_of c v) ≡ 64 * length ws + c =
    omega (arith, length-append (word_bits ws) (bits_of c v), length-bits_of c v, length-word_bits ws) in
    holds (ws ++ w ∷ []) (word_bits ws ++ bits_of c v) (64 - c) (64 * length ws + c) (record { below = omega arith; spelled = spelled }) long

-- the bits of the last word that are not used become 0
cleared_rest : (ws : List ℕ) (len n : ℕ) → suc n ≡ length ws → len ≤ 64 * length ws → 64 * length ws < len + 64
    → Holds (set ws n (get_or ws n 0 / 2 ^ (64 * length ws - len) * 2 ^ (64 * length ws - len) % 2 ^ 64)) len (packed_bits ws len)
cleared_rest ws len n e h g =
    let s : ℕ = 64 * length ws - len in
    let small : s < 64 = omega arith in
    let front : List ℕ = take n ws in
    let w : ℕ = get_or ws n 0 in
    let w' : ℕ = w / 2 ^ s * 2 ^ s % 2 ^ 64 in
    let bits : List Bool = word_bits front ++ bits_of (64 - s) (w / 2 ^ s) in
    let long : length bits ≡ len =
    omega (
      arith,
      length-append (word_bits front) (bits_of (64 - s) (w / 2 ^ s)),
      length-bits_of (64 - s) (w / 2 ^ s),
      length-word_bits front,
      length-take-le n ws (omega arith),
      e,
    ) in
    let parted : word_bits ws ≡ bits ++ bits_of s (w % 2 ^ s) =
    ap word_bits (last_apart ws n e) ∙ word_bits_push front w ∙ ap (λ r. word_bits front ++ r) (split_word w s small)
    ∙ sym (append_assoc (word_bits front) (bits_of (64 - s) (w / 2 ^ s)) (bits_of s (w % 2 ^ s))) in
    let same : bits ≡ packed_bits ws len = sym (ap (take len) parted ∙ take_at bits (bits_of s (w % 2 ^ s)) len long) in
    let spelled : word_bits (set ws n w') ≡ bits ++ replicate s false =
    ap word_bits (set_last ws n w' e) ∙ word_bits_push front w' ∙ ap (λ r. word_bits front ++ r) (cleared_word w s small)
    ∙ sym (append_assoc (word_bits front) (bits_of (64 - s) (w / 2 ^ s)) (replicate s false)) in
    let made = holds (set ws n w') bits s len (record { below = small; spelled = spelled }) long in
    record { packed = made.packed; held = made.held ∙ same }

-- words that are full hold all their bits
pub full_words : (ws : List ℕ) (len : ℕ) → len ≡ 64 * length ws → Holds ws len (packed_bits ws len)
full_words ws len e = record {
  packed = record {
    enough = omega arith;
    no_more = omega arith;
    rest_zero = let none : 64 * length ws - len ≡ 0 = omega arith in rw none (drop_all len (word_bits ws) (omega (arith, length-word_bits ws)));
  };
  held = refl;
}

-- ---- the same, as the program computes it

pub fill_last : (ws : List ℕ) (len n s w c v : ℕ) → IsPacked ws len → suc n ≡ length ws → s ≡ 64 * length ws - len → w ≡ get_or ws n 0 → c ≤ s → v < 2 ^ c
    → Holds (set ws n (bit_or w (v * 2 ^ (s - c) % 2 ^ 64))) (len + c) (packed_bits ws len ++ bits_of c v)
fill_last ws len n s w c v p e s_is w_is h g = rw (s_is, w_is) (filled_last ws len n c v p e (omega arith) g)

pub clear_rest : (ws : List ℕ) (len n s w : ℕ) → suc n ≡ length ws → s ≡ 64 * length ws - len → w ≡ get_or ws n 0 → len ≤ 64 * length ws →
    64 * length ws < len + 64
    → Holds (set ws n (w / 2 ^ s * 2 ^ s % 2 ^ 64)) len (packed_bits ws len)
clear_rest ws len n s w e s_is w_is h g = rw (s_is, w_is) (cleared_rest ws len n e h g)

-- no bits more
pub nothing_more : (ws : List ℕ) (len c v : ℕ) → IsPacked ws len → c ≡ 0 → Holds ws (len + c) (packed_bits ws len ++ bits_of c v)
nothing_more ws len c v p e =
    let place : len + c ≡ len = omega arith in
    let none : bits_of c v ≡ [] = ap (λ k. bits_of k v) e ∙ bits_of-none v in
    let same : packed_bits ws len ≡ packed_bits ws len ++ bits_of c v = sym (ap (λ r. packed_bits ws len ++ r) none ∙ append-nil (packed_bits ws len)) in
    rw place (record { packed = p; held = same })

-- the bits of full words and of a new one
pub append_full : (ws us : List ℕ) (len s c v : ℕ) → IsPacked ws len → s ≡ 0 → s ≡ 64 * length ws - len →
    Holds us (64 * length ws + (c - s)) (word_bits ws ++ bits_of (c - s) v)
    → Holds us (len + c) (packed_bits ws len ++ bits_of c v)
append_full ws us len s c v p s_zero s_is h =
    let place : 64 * length ws + (c - s) ≡ len + c = omega (arith, p.enough) in
    let count : c - s ≡ c = omega arith in
    let whole : word_bits ws ≡ packed_bits ws len = sym (take_all len (word_bits ws) (omega (arith, length-word_bits ws, p.enough))) in
    let bits : word_bits ws ++ bits_of (c - s) v ≡ packed_bits ws len ++ bits_of c v =
    ap (λ r. r ++ bits_of (c - s) v) whole ∙ ap (λ k. packed_bits ws len ++ bits_of k v) count in
    subst (λ n. Holds us n (packed_bits ws len ++ bits_of c v)) place (subst (Holds us (64 * length ws + (c - s))) bits h)

-- the bits of a last word that was filled, and of a new one
pub append_across : (ws vs us : List ℕ) (len s c v : ℕ) → IsPacked ws len → s < c → s ≡ 64 * length ws - len → length vs ≡ length ws
    → Holds vs (len + s) (packed_bits ws len ++ bits_of s (v / 2 ^ (c - s))) → Holds us (64 * length vs + (c - s)) (word_bits vs ++ bits_of (c - s) v)
    → Holds us (len + c) (packed_bits ws len ++ bits_of c v)
append_across ws vs us len s c v p l s_is e f h =
    let place : 64 * length vs + (c - s) ≡ len + c = omega (arith, p.enough) in
    let whole : word_bits vs ≡ packed_bits ws len ++ bits_of s (v / 2 ^ (c - s)) =
    sym (take_all (len + s) (word_bits vs) (omega (arith, length-word_bits vs, p.enough))) ∙ f.held in
    let width : s + (c - s) ≡ c = omega arith in
    let split : bits_of s (v / 2 ^ (c - s)) ++ bits_of (c - s) v ≡ bits_of c v =
    sym (ap (λ k. bits_of k v) (sym width) ∙ bits_of_split s (c - s) v ∙ ap (λ r. bits_of s (v / 2 ^ (c - s)) ++ r) (bits_of_mod (c - s) v)) in
    let bits : word_bits vs ++ bits_of (c - s) v ≡ packed_bits ws len ++ bits_of c v =
    ap (λ r. r ++ bits_of (c - s) v) whole ∙ append_assoc (packed_bits ws len) (bits_of s (v / 2 ^ (c - s))) (bits_of (c - s) v)
    ∙ ap (λ r. packed_bits ws len ++ r) split in
    subst (λ n. Holds us n (packed_bits ws len ++ bits_of c v)) place (subst (Holds us (64 * length vs + (c - s))) bits h)

-- the first bits of the first words that hold them
pub packed_bits_take : (ws : List ℕ) (n len : ℕ) → len ≤ 64 * n → n ≤ length ws → packed_bits (take n ws) len ≡ packed_bits ws len
packed_bits_take ws n len h g = ap (take len) (word_bits_take n ws g) ∙ take-take len (64 * n) (word_bits ws) h

-- what is left of a number without its lowest bits
pub high_part : (v c s : ℕ) → s < c → v < 2 ^ c → v / 2 ^ (c - s) < 2 ^ s
high_part v c s l h =
    let width : s + (c - s) ≡ c = omega arith in
    shr_below v s (c - s) (subst (λ k. v < 2 ^ k) (sym width) h)

pub length_held : (ws : List ℕ) (len : ℕ) (bits : List Bool) → IsPacked ws len → packed_bits ws len ≡ bits → length bits ≡ len
length_held ws len bits p e = sym (ap length e) ∙ length-packed_bits ws len p

-- the bit at place i is read from word i / 64
pub bit_read : (ws : List ℕ) (len i w : ℕ) (bits : List Bool) → i < len → i / 64 < length ws → w ≡ get_or ws (i / 64) 0 → packed_bits ws len ≡ bits
    → eqb (bit_and (w / 2 ^ (63 - i % 64)) 1) 1 ≡ get_or bits i false
bit_read ws len i w bits h g w_is e =
    let r : ℕ = i % 64 in
    let m : ℕ = 63 - r in
    let near : r < 64 = omega arith in
    let place : 64 * (i / 64) + r ≡ i = omega arith in
    let weight : r + suc m ≡ 64 = omega arith in
    ap (λ x. eqb x 1) (shr_and_one w m)
    ∙ sym (get_or-bits_of 64 w r m false weight)
    ∙ ap (λ x. get_or (bits_of 64 x) r false) w_is
    ∙ sym (get_or-word_bits ws (i / 64) r false g near)
    ∙ ap (λ x. get_or (word_bits ws) x false) place
    ∙ sym (get_or-take len (word_bits ws) i false h)
    ∙ ap (λ bs. get_or bs i false) e
