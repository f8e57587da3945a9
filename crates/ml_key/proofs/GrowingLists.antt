-- Bit lists that grow within their room, by the bits of numbers and of bytes.
use Rattle.std.specs.Prelude.{◌≡◌, ℕ, zero, suc, ◌+◌, ◌*◌, ◌/◌, ◌%◌, ◌^◌, ◌==◌, ◌≤◌, Bool, List, [], ◌∷◌, ◌++◌, length, max}
use Rattle.std.proofs.Common.{refl, sym, ap, ◌∙◌, arith, append_assoc, length-append}
use Rattle.std.proofs.Math.Nat.{max-eq_left}
use Rattle.std.proofs.lemmas.List.Concat.{flat_map-append}
use Rattle.ml_bits.specs.BitList as stored
use Rattle.ml_bits.specs.BitList.{BitList, bits_of, append_bits, list_of_bits}
use Rattle.ml_bits.proofs.StoredBits.{same_list}
use Rattle.ml_term.specs.Codes.{bits, byte_bits}
use Rattle.ml_key.specs.inside.Extension.{extend_list}

-- the bits of a number are the same in both crates' words
pub bits_same : (k n : ℕ) → bits_of k n ≡ bits k n
unfolding bits_of
bits_same zero n = refl
bits_same (suc k) n = ap (λ bs. (n / 2 ^ k % 2 == 1) ∷ bs) (bits_same k n)

pub byte_bits_same : (bytes : List ℕ) → stored.byte_bits bytes ≡ byte_bits bytes
byte_bits_same [] = refl
byte_bits_same (b ∷ bytes) = ap (λ bs. bs ++ stored.byte_bits bytes) (bits_same 8 b) ∙ ap (λ bs. bits 8 b ++ bs) (byte_bits_same bytes)

-- a list that has room for more bits keeps its room
pub within_room : (list : BitList) (xs ys : List Bool) (n : ℕ) → xs ≡ ys → length xs ≡ n → length list.bits + n ≤ list.room →
    append_bits list xs ≡ extend_list list ys
within_room list xs ys n same long fits =
    let room : max list.room (length list.bits + length xs) ≡ list.room = max-eq_left (omega arith) in
    same_list (append_bits list xs) (extend_list list ys) (ap (λ bs. list.bits ++ bs) same) room

-- two extensions are one by both lists
pub extended_twice : (list half whole : BitList) (xs ys zs : List Bool) → half ≡ extend_list list xs → whole ≡ extend_list half ys → xs ++ ys ≡ zs →
    whole ≡ extend_list list zs
extended_twice list half whole xs ys zs first second both =
    second
    ∙ ap (λ (l : BitList). extend_list l ys) first
    ∙ same_list (extend_list (extend_list list xs) ys) (extend_list list zs) (append_assoc list.bits xs ys ∙ ap (λ bs. list.bits ++ bs) both) refl

pub byte_bits-append : (xs ys : List ℕ) → byte_bits (xs ++ ys) ≡ byte_bits xs ++ byte_bits ys
byte_bits-append xs ys = flat_map-append (bits 8) xs ys

pub length-bits : (k n : ℕ) → length (bits k n) ≡ k
length-bits zero n = refl
length-bits (suc k) n = ap suc (length-bits k n)

pub length-byte_bits : (bytes : List ℕ) → length (byte_bits bytes) ≡ 8 * length bytes
length-byte_bits [] = refl
length-byte_bits (b ∷ bytes) = omega (arith, length-append (bits 8 b) (byte_bits bytes), length-bits 8 b, length-byte_bits bytes)

-- two extensions by bytes are one by both lists
pub bytes_twice : (list half whole : BitList) (xs ys zs : List ℕ) → half ≡ extend_list list (byte_bits xs) → whole ≡ extend_list half (byte_bits ys) →
    xs ++ ys ≡ zs
    → whole ≡ extend_list list (byte_bits zs)
bytes_twice list half whole xs ys zs first second both =
    extended_twice list half whole (byte_bits xs) (byte_bits ys) (byte_bits zs) first second (sym (byte_bits-append xs ys) ∙ ap byte_bits both)

-- the room that is left behind some bytes
pub room_after : (list half : BitList) (xs : List ℕ) (n total : ℕ) → half ≡ extend_list list (byte_bits xs) → total ≡ length xs + n →
    length list.bits + 8 * total ≤ list.room
    → length half.bits + 8 * n ≤ half.room
room_after list half xs n total is all fits =
    let bits : half.bits ≡ list.bits ++ byte_bits xs = ap (λ (l : BitList). l.bits) is in
    let room : half.room ≡ list.room = ap (λ (l : BitList). l.room) is in
    omega (arith, ap length bits, length-append list.bits (byte_bits xs), length-byte_bits xs, room)

-- a list that was given room for its bits alone, and then all of them
pub filled_in_two : (head tail all : List Bool) (empty ready headed whole : BitList) (n : ℕ) → empty ≡ list_of_bits [] → ready.bits ≡ empty.bits →
    ready.room ≡ max empty.room n
    → n ≡ length head + length tail → headed ≡ extend_list ready head → whole ≡ extend_list headed tail → head ++ tail ≡ all → whole ≡ list_of_bits all
filled_in_two head tail all empty ready headed whole n none same room long first second both =
    let nothing : ready.bits ≡ [] = same ∙ ap (λ (l : BitList). l.bits) none in
    let spare : empty.room ≡ 0 = ap (λ (l : BitList). l.room) none in
    let rooms : whole.room ≡ ready.room = ap (λ (l : BitList). l.room) second ∙ ap (λ (l : BitList). l.room) first in
    same_list whole (list_of_bits all)
    (ap (λ (l : BitList). l.bits) second ∙ ap (λ (l : BitList). l.bits ++ tail) first ∙ ap (λ bs. (bs ++ head) ++ tail) nothing ∙ both)
    (omega (arith, rooms, spare, room, long, length-append head tail, ap length both))

-- the room that is left for the second part
pub room_for_second : (head : List Bool) (empty ready headed : BitList) (n more : ℕ) → empty ≡ list_of_bits [] → ready.bits ≡ empty.bits →
    ready.room ≡ max empty.room n
    → n ≡ length head + more → headed ≡ extend_list ready head → length headed.bits + more ≤ headed.room
room_for_second head empty ready headed n more none same room long first =
    let nothing : length ready.bits ≡ 0 = ap length (same ∙ ap (λ (l : BitList). l.bits) none) in
    let bits : length headed.bits ≡ length ready.bits + length head = ap (λ (l : BitList). length l.bits) first ∙ length-append ready.bits head in
    let rooms : headed.room ≡ ready.room = ap (λ (l : BitList). l.room) first in
    omega (arith, nothing, bits, rooms, room, long)
