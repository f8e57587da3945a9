-- What was appended by one write after another.
use Rattle.std.proofs.Common.{◌≡◌, sym, ap, ◌∙◌, subst, ◌<◌, ◌+◌, ◌++◌, ◌∷◌, ℕ, suc, List, Vec, Option, None, Some, option_map, length, take, drop, get_or}
use Rattle.std.proofs.Common.{length-append, append_assoc, arith}
use Rattle.std.proofs.Math.Seq.{take-length, take-append-add, split_at}
use Rattle.std.proofs.lemmas.List.{take-append-le, map-append}
use Rattle.std.proofs.lemmas.Grind.{flat_map-append}
use Rattle.std.specs.List.{flat_map}
use Rattle.std.specs.declared.alloc.Global.{Global}
use Rattle.ml_outside.specs.Written.{Appended, AppendedFront}
use Rattle.ml_entries.specs.Entries.{contents}

pub both_appended : (a b c : Option (List ℕ)) (xs ys : List ℕ) → Appended a b xs → Appended b c ys → Appended a c (xs ++ ys)
both_appended None b c xs ys h k = k ∙ ap (option_map (λ w. w ++ ys)) h
both_appended (Some w) b c xs ys h k = k ∙ ap (option_map (λ v. v ++ ys)) h ∙ ap Some (append_assoc w xs ys)

-- the whole is a front of itself
pub whole_front : (before after : Option (List ℕ)) (bytes : List ℕ) → Appended before after bytes → AppendedFront before after bytes
whole_front before after bytes h = (length bytes, omega arith, subst (Appended before after) (sym (take-length bytes)) h)

pub front_behind : (a b c : Option (List ℕ)) (xs ys : List ℕ) → Appended a b xs → AppendedFront b c ys → AppendedFront a c (xs ++ ys)
front_behind a b c xs ys h (n, le, k) =
    (length xs + n, omega (arith, length-append xs ys, le), subst (Appended a c) (sym (take-append-add xs ys n)) (both_appended a b c xs (take n ys) h k))

pub front_of_more : (a b : Option (List ℕ)) (xs ys : List ℕ) → AppendedFront a b xs → AppendedFront a b (xs ++ ys)
front_of_more a b xs ys (n, le, h) = (n, omega (arith, length-append xs ys, le), subst (Appended a b) (sym (take-append-le n xs ys le)) h)

-- the blocks so far and a front of the next are a front of all
pub front_of_blocks : (blocks : List (Vec ℕ Global)) (i : ℕ) (b : Vec ℕ Global) (old mid now : Option (List ℕ)) → i < length blocks → b ≡ get_or blocks i b
    → Appended old mid (flat_map (λ b. b) (contents (take i blocks))) → AppendedFront mid now b.items →
    AppendedFront old now (flat_map (λ b. b) (contents blocks))
front_of_blocks blocks i b old mid now lt e h k =
    subst (AppendedFront old now) (sym whole) (front_of_more old now (before ++ b.items) rest (front_behind old mid now before b.items h k))
  where
    before : List ℕ
    before = flat_map (λ b. b) (contents (take i blocks))

    rest : List ℕ
    rest = flat_map (λ b. b) (contents (drop (suc i) blocks))

    whole : flat_map (λ b. b) (contents blocks) ≡ (before ++ b.items) ++ rest
    whole =
        ap (λ bs. flat_map (λ b. b) (contents bs)) (split_at blocks i b lt ∙ ap (λ x. take i blocks ++ x ∷ drop (suc i) blocks) (sym e))
        ∙ ap (flat_map (λ b. b)) (map-append (λ b. b.items) (take i blocks) (b ∷ drop (suc i) blocks))
        ∙ flat_map-append (λ b. b) (contents (take i blocks)) (b.items ∷ contents (drop (suc i) blocks))
        ∙ sym (append_assoc before b.items rest)
