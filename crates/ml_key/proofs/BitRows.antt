-- Words whose bits stand in turn, row by row.
use Rattle.std.specs.Prelude.{◌≡◌, ℕ, zero, suc, ◌+◌, ◌-◌, ◌*◌, ◌/◌, ◌%◌, ◌^◌, ◌==◌, ◌<◌, ◌≤◌, List, [], ◌∷◌, ◌++◌, map, length, take, drop, bit_or, bit_and}
use Rattle.std.proofs.Common.{refl, sym, ap, ◌∙◌, arith, get_or, append_assoc, length-append}
use Rattle.std.proofs.lemmas.List.{take_more, map-append, length-map, append-nil}
use Rattle.std.proofs.lemmas.Nat.{or_shifted, shl_whole, mod_below, pow-add}
use Rattle.std.proofs.lemmas.Nat.Bits.{shr_and_one}
use Rattle.ml_bits.specs.BitList.{BitList}
use Rattle.ml_term.specs.Codes.{bits}
use Rattle.ml_term.specs.Keys.{first_bit, interleave}
use Rattle.ml_term.proofs.Bits.{joined_bits}
use Rattle.ml_bits.proofs.StoredBits.{same_list}
use Rattle.ml_key.specs.inside.Extension.{extend_list}
use Rattle.ml_key.specs.inside.Turns.{bit_of}

-- a number that has one bit of each of the first words
pub record IsRow (words : List ℕ) (place count row : ℕ) : Type 0 where
  pub below : row < 2 ^ count
  pub bits : bits count row ≡ map (bit_of place) (take count words)

one_bit : (b : ℕ) → b < 2 → bits 1 b ≡ (b == 1) ∷ []
one_bit zero h = refl
one_bit (suc zero) h = refl
one_bit (suc (suc b)) h = absurd (omega arith)

pub row_more : (words : List ℕ) (place i row w next : ℕ) → i < length words → i < 8 → w ≡ get_or words i 0 → IsRow words place i row
    → next ≡ bit_or (row * 2 % 2 ^ 64) (bit_and (w / 2 ^ place) 1) → IsRow words place (i + 1) next
row_more words place i row w next here few read before is_next =
    let b : ℕ = w / 2 ^ place % 2 in
    let small : b < 2 = mod_below (w / 2 ^ place) 2 (omega arith) in
    let whole : row * 2 ^ 1 % 2 ^ 64 ≡ row * 2 ^ 1 = shl_whole row i 1 64 before.below (omega arith) in
    let value : next ≡ row * 2 ^ 1 + b =
    is_next ∙ ap (λ x. bit_or x (bit_and (w / 2 ^ place) 1)) whole ∙ ap (bit_or (row * 2 ^ 1)) (shr_and_one w place) ∙ or_shifted row 1 b small in
    let more : take (i + 1) words ≡ take i words ++ w ∷ [] = take_more words i 0 here ∙ ap (λ x. take i words ++ x ∷ []) (sym read) in
    let last : map (bit_of place) (take (i + 1) words) ≡ map (bit_of place) (take i words) ++ (b == 1) ∷ [] =
    ap (map (bit_of place)) more ∙ map-append (bit_of place) (take i words) (w ∷ []) in
    let power : 2 ^ (i + 1) ≡ 2 ^ i * 2 ^ 1 = pow-add 2 i 1 in
    record {
      below = omega (arith, before.below);
      bits = ap (bits (i + 1)) value ∙ joined_bits i 1 row b small ∙ ap (λ bs. bs ++ bits 1 b) before.bits
          ∙ ap (λ bs. map (bit_of place) (take i words) ++ bs) (one_bit b small) ∙ sym last;
    }

firsts_of : (m : ℕ) (words : List ℕ) → map first_bit (map (bits (suc m)) words) ≡ map (bit_of m) words
firsts_of m [] = refl
firsts_of m (w ∷ words) = ap (λ bs. bit_of m w ∷ bs) (firsts_of m words)

others_of : (m : ℕ) (words : List ℕ) → map (drop 1) (map (bits (suc m)) words) ≡ map (bits m) words
others_of m [] = refl
others_of m (w ∷ words) = ap (λ cs. bits m w ∷ cs) (others_of m words)

rows_of : (m : ℕ) (words : List ℕ) → interleave (suc m) (map (bits (suc m)) words) ≡ map (bit_of m) words ++ interleave m (map (bits m) words)
rows_of m words =
    ap (λ bs. bs ++ interleave m (map (drop 1) (map (bits (suc m)) words))) (firsts_of m words)
    ∙ ap (λ cs. map (bit_of m) words ++ interleave m cs) (others_of m words)

-- a list that has the first rows, and room for the others
pub record TakesRows (list start : BitList) (words : List ℕ) (rows row : ℕ) : Type 0 where
  pub bits : list.bits ++ interleave (rows - row) (map (bits (rows - row)) words) ≡ start.bits ++ interleave rows (map (bits rows) words)
  pub room : list.room ≡ start.room
  pub fits : length list.bits + (rows - row) * length words ≤ list.room

pub no_rows : (start : BitList) (words : List ℕ) (rows : ℕ) → length start.bits + rows * length words ≤ start.room → TakesRows start start words rows 0
no_rows start words rows fits =
    let all : rows - 0 ≡ rows = omega arith in
    record {
      bits = ap (λ n. start.bits ++ interleave n (map (bits n) words)) all;
      room = refl;
      fits = rw all fits;
    }

pub one_row_more : (list new start : BitList) (words : List ℕ) (rows row r : ℕ) → row < rows → TakesRows list start words rows row
    → bits (length words) r ≡ map (bit_of (rows - 1 - row)) words → new ≡ extend_list list (bits (length words) r) → TakesRows new start words rows (row + 1)
one_row_more list new start words rows row r below before is_row is_new =
    let m : ℕ = rows - 1 - row in
    let left : rows - row ≡ suc m = omega arith in
    let then_left : rows - (row + 1) ≡ m = omega arith in
    let others = interleave m (map (bits m) words) in
    let new_bits : new.bits ≡ list.bits ++ map (bit_of m) words = ap (λ (l : BitList). l.bits) is_new ∙ ap (λ bs. list.bits ++ bs) is_row in
    let long : length new.bits ≡ length list.bits + length words =
    omega (arith, ap length new_bits, length-append list.bits (map (bit_of m) words), length-map words (bit_of m)) in
    let parts : (rows - row) * length words ≡ length words + m * length words = ap (λ n. n * length words) left ∙ omega arith in
    let same_room : new.room ≡ list.room = ap (λ (l : BitList). l.room) is_new in
    record {
      bits =
          ap (λ n. new.bits ++ interleave n (map (bits n) words)) then_left
          ∙ ap (λ bs. bs ++ others) new_bits
          ∙ append_assoc list.bits (map (bit_of m) words) others
          ∙ ap (λ bs. list.bits ++ bs) (sym (rows_of m words))
          ∙ sym (ap (λ n. list.bits ++ interleave n (map (bits n) words)) left)
          ∙ before.bits;
      room = same_room ∙ before.room;
      fits = rw then_left (omega (arith, long, parts, same_room, before.fits));
    }

pub all_rows : (list start : BitList) (words : List ℕ) (rows : ℕ) → TakesRows list start words rows rows →
    list ≡ extend_list start (interleave rows (map (bits rows) words))
all_rows list start words rows taken =
    let none : rows - rows ≡ 0 = omega arith in
    same_list list (extend_list start (interleave rows (map (bits rows) words)))
    (sym (append-nil list.bits) ∙ sym (ap (λ n. list.bits ++ interleave n (map (bits n) words)) none) ∙ taken.bits) taken.room
