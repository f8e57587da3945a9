-- A list and its room, from what is kept.
use Rattle.std.proofs.Common.{◌≡◌, ℕ, ◌+◌, ◌-◌, ◌*◌, ◌≤◌, Bool, List, [], ◌++◌, Ok, Err, Result, max, length, take, drop, sym, ap, ◌∙◌, arith, append_assoc}
use Rattle.std.proofs.Common.{length-append, length-drop}
use Rattle.std.specs.Prelude.{OnErr}
use Rattle.std.proofs.lemmas.List.{take-append-drop, length-take-le}
use Rattle.ml_bits.specs.BitList.{BitList, byte_bits, list_of_bits, append_bits}
use Rattle.ml_bits.proofs.Bytes.{length-byte_bits, byte_bits-append}

pub same_list : (x y : BitList) → x.bits ≡ y.bits → x.room ≡ y.room → x ≡ y
same_list x y p q = λ i. record { bits = p i; room = q i }

-- what holds anyway holds where there is an error
pub on_err : {T E P : Type 0} (r : Result T E) → P → OnErr r P
on_err (Ok x) p = tt
on_err (Err e) p = p

-- an empty list with room for n bits, to which n bits came in two parts
pub filled_twice : (list half whole : BitList) (n : ℕ) (xs ys zs : List Bool) → list.bits ≡ [] → list.room ≡ n → half ≡ append_bits list xs →
    whole ≡ append_bits half ys → xs ++ ys ≡ zs → length zs ≡ n
    → whole ≡ list_of_bits zs
filled_twice list half whole n xs ys zs none room first second both long =
    let half_bits : half.bits ≡ xs = ap (λ v. v.bits) first ∙ ap (λ bs. bs ++ xs) none in
    let half_room : half.room ≡ max n (length list.bits + length xs) = ap (λ v. v.room) first ∙ ap (λ r. max r (length list.bits + length xs)) room in
    let bits : whole.bits ≡ zs = ap (λ v. v.bits) second ∙ ap (λ bs. bs ++ ys) half_bits ∙ both in
    let rooms : whole.room ≡ max half.room (length half.bits + length ys) = ap (λ v. v.room) second in
    let total : length xs + length ys ≡ n = omega (arith, sym (length-append xs ys), ap length both, long) in
    let all : whole.room ≡ length zs = omega (arith, half_room, rooms, total, long, ap length none, ap length half_bits) in
    same_list whole (list_of_bits zs) bits all

-- the same in one part
pub filled_once : (list whole : BitList) (n : ℕ) (xs zs : List Bool) → list.bits ≡ [] → list.room ≡ n → whole ≡ append_bits list xs → xs ≡ zs → length zs ≡ n →
    whole ≡ list_of_bits zs
filled_once list whole n xs zs none room first same long =
    let bits : whole.bits ≡ zs = ap (λ v. v.bits) first ∙ ap (λ bs. bs ++ xs) none ∙ same in
    let rooms : whole.room ≡ max list.room (length list.bits + length xs) = ap (λ v. v.room) first in
    let all : whole.room ≡ length zs = omega (arith, rooms, room, long, ap length none, ap length same) in
    same_list whole (list_of_bits zs) bits all

-- bits that follow a list to which room was given for them
pub followed_in_room : (before list whole : BitList) (len : ℕ) (xs : List Bool) → list.bits ≡ before.bits → list.room ≡ max before.room len →
    len ≡ length before.bits + length xs → whole ≡ append_bits list xs
    → whole ≡ append_bits before xs
followed_in_room before list whole len xs same room len_is more =
    let bits : whole.bits ≡ before.bits ++ xs = ap (λ v. v.bits) more ∙ ap (λ bs. bs ++ xs) same in
    let rooms : whole.room ≡ max list.room (length list.bits + length xs) = ap (λ v. v.room) more in
    let most : whole.room ≡ max before.room (length before.bits + length xs) = omega (arith, rooms, room, len_is, ap length same) in
    same_list whole (append_bits before xs) bits most

-- one more piece of some bytes, within the room
pub record TakesPiece (whole start : BitList) (bytes rest : List ℕ) : Type 0 where
  pub bits : whole.bits ++ byte_bits rest ≡ start.bits ++ byte_bits bytes
  pub room : whole.room ≡ start.room
  pub fits : length whole.bits + 8 * length rest ≤ whole.room

pub takes_piece : (start list whole : BitList) (bytes rest : List ℕ) (k : ℕ) (xs : List Bool) → list.bits ++ byte_bits rest ≡ start.bits ++ byte_bits bytes →
    list.room ≡ start.room
    → length list.bits + 8 * length rest ≤ list.room → k ≤ length rest → xs ≡ byte_bits (take k rest) → whole ≡ append_bits list xs →
    TakesPiece whole start bytes (drop k rest)
takes_piece start list whole bytes rest k xs e room fits h xs_is more =
    let parts : byte_bits (take k rest) ++ byte_bits (drop k rest) ≡ byte_bits rest =
    sym (byte_bits-append (take k rest) (drop k rest)) ∙ ap byte_bits (take-append-drop k rest) in
    let bits : whole.bits ≡ list.bits ++ byte_bits (take k rest) = ap (λ v. v.bits) more ∙ ap (λ ys. list.bits ++ ys) xs_is in
    let rooms : whole.room ≡ max list.room (length list.bits + length xs) = ap (λ v. v.room) more in
    let piece : length xs ≡ 8 * k = ap length xs_is ∙ length-byte_bits (take k rest) ∙ ap (λ n. 8 * n) (length-take-le k rest h) in
    let left : length (drop k rest) ≡ length rest - k = length-drop k rest in
    let long : length whole.bits ≡ length list.bits + length xs = ap length (ap (λ v. v.bits) more) ∙ length-append list.bits xs in
    record {
      bits = ap (λ ys. ys ++ byte_bits (drop k rest)) bits ∙ append_assoc list.bits (byte_bits (take k rest)) (byte_bits (drop k rest))
          ∙ ap (λ ys. list.bits ++ ys) parts ∙ e;
      room = omega (arith, rooms, room, fits, piece);
      fits = omega (arith, rooms, fits, piece, left, long);
    }
